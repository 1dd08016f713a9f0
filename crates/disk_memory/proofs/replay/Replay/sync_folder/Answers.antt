use Rattle.disk_memory.proofs.Replays.{stands-settled}
use Rattle.disk_memory.proofs.replay.Replay.sync_folder.Goals as goal

pub returns : goal.returns
returns c t fine stands =
    stands-settled c.args.self.now c.add_file.new.self c.in_ok-add_file.field-0 t c.in_ok-add_file.ensures fine stands c.clear.new.self c.clear.ensures.items
