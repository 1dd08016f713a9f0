use Rattle.std.proofs.Common.{Some, ap, sym, ◌∙◌}
use Rattle.common_spec.specs.Maps.{set_at}
use Rattle.file_spec.specs.Files.{is_name}
use Rattle.file_spec.specs.Records.{Names}
use Rattle.disk_memory.proofs.Replays.{stands-renamed, stands-unrenamed}
use Rattle.disk_memory.proofs.replay.Replay.rename.Goals as goal

pub returns-in_default : goal.returns-in_default
returns-in_default c t fine stands =
    stands-unrenamed c.args.self.now c.add_file.new.self c.in_ok-add_file.field-0 t c.in_ok-add_file.ensures fine stands c.args.from c.args.to (sym c.number_of.ensures ∙ c.in_default.is)

pub returns : goal.returns
returns c t fine stands =
    stands-renamed c.args.self.now c.add_file.new.self c.in_ok-add_file.field-0 t c.in_ok-add_file.ensures fine stands c.args.from c.args.to c.in-Some.id c.put_number-2.new.numbers c.push.new.self
    (sym c.number_of.ensures ∙ c.in-Some.is) (c.put_number-2.ensures ∙ ap (λ (m : Names). set_at is_name m c.args.to (Some c.in-Some.id)) c.put_number.ensures) c.in_ok-push.ensures.items
