use Rattle.std.proofs.Common.{◌<ℤ◌, [], ◌∷◌, refl}
use Rattle.std.specs.Prelude.{codes}
use Rattle.std.proofs.lemmas.List.Sorted.{IsPermutation-refl}
use Rattle.rbu_value.specs.Order.{value_cmp}
use Rattle.format_spec.specs.Record.{canonical_record}
use Rattle.format_spec.specs.Varint as spelled
use Rattle.database_spec.specs.Rows.{TableRow}
use Rattle.database_spec.specs.ListsLaws.{pairs-from}
use Rattle.prepared_spec.specs.LittleGroups.{keyless_row}
use Rattle.prepared_spec.proofs.worked.worked_keyless.Goals as goal

pub returns : goal.returns
unfolding value_cmp canonical_record spelled.varint spelled.varint_front
returns c =
    let after = keyless_row 10 (codes "y") (2 ∷ 15 ∷ codes "y") ∷ [] in
    (after, record { all = IsPermutation-refl after; rise = pairs-from (λ (a b : TableRow). a.rowid <ℤ b.rowid) after (tt, tt) }, refl)
