-- The bytes after the growth and the copy are the old ones written over.
use Rattle.std.proofs.Common.{ap, ◌∙◌}
use Rattle.byte_fields.specs.Bytes.{overwritten}
use Rattle.disk_memory.proofs.Bytes.{overwritten-by_parts}
use Rattle.disk_memory.proofs.file.File.overwrite.Goals as goal

pub returns-clause-done : goal.returns-clause-done
returns-clause-done c =
    overwritten-by_parts c.self.inside.bytes.items c.args.bytes.now c.grow.new.text.items c.put_at.new.text.items c.args.at c.in_ok-grow.ensures.done c.put_at.ensures
    ∙ ap (λ text. overwritten text c.args.at c.args.bytes.now) c.self.view_is
