-- Lines whose fields are all written.
use Rattle.std.proofs.Common.{◌≡◌, ◌<◌, ℕ, List, [], ◌∷◌, ◌++◌, length, ap, ◌∙◌, sym, append-nil, arith}
use Rattle.std.specs.List.{flat_map}
use Rattle.update_spec.specs.Text.{line}
use Rattle.answer_lines.specs.declared.fields.Field.{Field}
use Rattle.answer_lines.specs.Fields.{field_text}

pub line-whole : (left : List Field) (whole written bytes : List ℕ) → length left < 1 → whole ≡ written ++ flat_map field_text left → bytes ≡ written ++ 10 ∷ [] → bytes ≡ line whole
line-whole [] whole written bytes none is ends = ends ∙ ap line (sym (is ∙ append-nil written))
line-whole (field ∷ left) whole written bytes none is ends = absurd (omega (arith, none))
