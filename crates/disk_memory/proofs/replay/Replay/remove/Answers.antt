use Rattle.std.proofs.Common.{sym, ◌∙◌}
use Rattle.disk_memory.proofs.Replays.{stands-removed, stands-unremoved}
use Rattle.disk_memory.proofs.replay.Replay.remove.Goals as goal

pub returns-in_default : goal.returns-in_default
returns-in_default c t fine stands =
    stands-unremoved c.args.self.now c.add_file.new.self c.in_ok-add_file.field-0 t c.in_ok-add_file.ensures fine stands c.args.name (sym c.number_of.ensures ∙ c.in_default.is)

pub returns : goal.returns
returns c t fine stands =
    stands-removed c.args.self.now c.add_file.new.self c.in_ok-add_file.field-0 t c.in_ok-add_file.ensures fine stands c.args.name c.in-Some.field-0 c.put_number.new.numbers c.push.new.self
    (sym c.number_of.ensures ∙ c.in-Some.is) c.put_number.ensures c.in_ok-push.ensures.items
