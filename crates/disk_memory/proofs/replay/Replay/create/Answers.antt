use Rattle.disk_memory.proofs.Replays.{stands-made}
use Rattle.disk_memory.proofs.replay.Replay.create.Goals as goal

pub returns : goal.returns
returns c t fine stands =
    stands-made c.args.self.now c.add_file.new.self c.in_ok-fresh.fresh t c.in_ok-fresh.ensures fine stands c.args.name c.in_ok-number.field-0 c.number.new.self
    c.in_ok-number.ensures.number c.in_ok-number.ensures.files
