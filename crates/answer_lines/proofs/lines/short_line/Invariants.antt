use Rattle.std.proofs.Common.{◌≡◌, ◌≤◌, ◌+◌, ◌*◌, ◌++◌, length}
use Rattle.std.specs.List.{AllByRecursion, flat_map, list_any}
use Rattle.arrayvec.specs.ArrayString.{array_string_len}
use Rattle.answer_lines.specs.Fields.{IsShort, field_text, is_name}
use Rattle.answer_lines.proofs.lines.short_line.Given as goal

-- what is written, and what the fields that are left print, is the whole; there is room for them
abbrev pub invariant-loop-left : goal.invariant-loop-left
invariant-loop-left l =
    (l.fn.front ++ flat_map field_text l.fn.fields ≡ l.text.bytes ++ flat_map field_text l.left)
    × (array_string_len l.text + 25 * length l.left ≤ 149)
    × AllByRecursion IsShort l.left
    × (list_any is_name l.fn.fields ≡ list_any is_name l.left)

abbrev pub decreases-loop-left : goal.decreases-loop-left
decreases-loop-left l = length l.left
