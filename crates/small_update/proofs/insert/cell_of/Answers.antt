use Rattle.std.proofs.Common.{◌≡◌, ap, ◌∙◌, rules}
use Rattle.std.proofs.lemmas.List.{append_assoc}
use Rattle.std.proofs.lemmas.Int.{to_z-of_z}
use Rattle.std.specs.Int.{w64, cast_unsigned}
use Rattle.format_spec.specs.Cell.{table_leaf_cell}
use Rattle.small_update.proofs.insert.cell_of.Goals as goal

pub returns : goal.returns
unfolding table_leaf_cell
returns c =
    let bits : c.cast_unsigned.result ≡ cast_unsigned w64 c.args.rowid = c.cast_unsigned.ensures ∙ ap (cast_unsigned w64) (to_z-of_z w64 c.args.rowid c.ranges.rowid) in
    search (rules, append_assoc, bits)
