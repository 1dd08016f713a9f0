-- The rows of rowids, before a group and behind it.
use Rattle.std.specs.Prelude.{ℤ, cond, List, [], ◌∷◌, Option, Some, None}
use Rattle.std.specs.Option.{option_or}
use Rattle.std.specs.Ordering.{int_cmp, is_eq}
use Rattle.rbu_value.specs.declared.value.Value.{Value}
use Rattle.index_changes.specs.declared.pairs.OldNew.{OldNew}

-- the last row of the rowid, or none
abbrev pub row_at : List (ℤ × List Value) → ℤ → Option (ℤ × List Value)
row_at [] rowid = None
row_at (row ∷ rows) rowid = option_or (row_at rows rowid) (cond (is_eq (int_cmp row.0 rowid)) (Some row) None)

abbrev pub pair_at : List (ℤ × List Value) → List (ℤ × List Value) → ℤ → OldNew
pair_at old new rowid = record { old = row_at old rowid; new = row_at new rowid }
