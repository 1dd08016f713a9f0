-- The bytes of an answer's text.
use Rattle.std.specs.Prelude.{ℕ, List, []}
use Rattle.update_spec.specs.declared.Answer.{Answer}
use Rattle.update_spec.specs.declared.Answer.TheVariants.{Printed}
use Rattle.answer_lines.specs.declared.lines.Line.{Line}
use Rattle.answer_lines.specs.declared.lines.Line.TheVariants.{Short, Long, Whole}

-- the lines that an answer has by itself
abbrev pub own_lines : Answer → List ℕ
own_lines (Printed text) = text
own_lines other = []

-- the bytes, wherever they are kept
abbrev pub line_bytes : Answer → Line → List ℕ
line_bytes answer (Short text) = text.bytes
line_bytes answer (Long bytes) = bytes.items
line_bytes answer Whole = own_lines answer
