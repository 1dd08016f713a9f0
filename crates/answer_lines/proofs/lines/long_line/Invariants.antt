use Rattle.std.proofs.Common.{◌≡◌, ◌++◌, length}
use Rattle.std.specs.List.{flat_map}
use Rattle.answer_lines.specs.Fields.{field_text}
use Rattle.answer_lines.proofs.lines.long_line.Given as goal

-- what is written, and what the fields that are left print, is the whole
abbrev pub invariant-loop-left : goal.invariant-loop-left
invariant-loop-left l = l.fn.front ++ flat_map field_text l.fn.fields ≡ l.text.items ++ flat_map field_text l.left

abbrev pub decreases-loop-left : goal.decreases-loop-left
decreases-loop-left l = length l.left
