use Rattle.std.proofs.Common.{refl}
use Rattle.disk_memory.specs.declared.volume.Step.TheVariants as step
use Rattle.disk_memory.specs.Volume.{written}
use Rattle.disk_memory.specs.Replay.{before_of, names_of}
use Rattle.disk_memory.proofs.Replays.{numbered-within, stands-set}
use Rattle.std.proofs.lemmas.Result.{on_ok_weaker}
use Rattle.disk_memory.proofs.replay.Replay.write.Goals as goal

pub write_file-requires-clause-index : goal.write_file-requires-clause-index
write_file-requires-clause-index c =
    let within = numbered-within c.args.self.now c.add_file.new.self c.in_ok-fresh.fresh c.requires.stands.0 c.in_ok-fresh.ensures c.requires.stands.1 c.requires.stands.2
    c.args.name c.in_ok-id.id (names_of c.number.new.self) (before_of c.number.new.self) c.in_ok-id.ensures.number in
    rw c.in_ok-id.ensures.files within

pub returns : goal.returns
returns c = on_ok_weaker c.write_file.result (λ sets t fine stands.
    stands-set c.args.self.now c.add_file.new.self c.in_ok-fresh.fresh t c.in_ok-fresh.ensures fine stands (step.Write c.args.name c.args.at c.args.bytes.now) (written c.args.at c.args.bytes.now) c.args.name c.in_ok-id.id c.number.new.self c.write_file.new.files sets.0
    c.in_ok-id.ensures.number c.in_ok-id.ensures.files sets.1 sets.2 refl) c.write_file.ensures
