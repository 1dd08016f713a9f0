-- The values of a row that is met.
use Rattle.std.proofs.Common.{◌≡◌, ℕ, ◌<◌, Bool, true, false, List, [], ◌∷◌, ◌++◌, length, Some, if◌then◌else◌, refl, sym, ap, ◌∙◌, arith}
use Rattle.std.proofs.lemmas.List.{append-nil}
use Rattle.std.specs.Option.{option_map}
use Rattle.rbu_value.specs.declared.value.Value.{Value}
use Rattle.rbu_rows.specs.declared.control.Control.{Control}
use Rattle.rbu_rows.specs.declared.control.Control.TheVariants.{Insert, Replace, Delete, Update}
use Rattle.schema_spec.specs.declared.schema.Table.{Table}
use Rattle.database_spec.specs.Rows.{TableRow, with_rowid}
use Rattle.prepared_spec.specs.Tables.{same_values, written_row, with_values, marked, met_row}
use Rattle.prepared_spec.specs.MembersLaws.{values-same}
use Rattle.row_steps.specs.RowSteps.{values_where}

module _ (format : ℕ) (table : Table) (row : TableRow) where
  with_values-are : (values : List Value) → (with_values format table row values).values ≡ with_rowid table.rowid_column row.rowid values
  with_values-are values = by (same_values row.values (with_rowid table.rowid_column row.rowid values)) refl
    where
      by : (t : Bool) → same_values row.values (with_rowid table.rowid_column row.rowid values) ≡ t → (if t then row else written_row format table row.rowid values).values ≡ with_rowid table.rowid_column row.rowid values
      by true e = values-same row.values (with_rowid table.rowid_column row.rowid values) e
      by false e = refl

  pub values-are : (control : Control) (values : List Value) → values_where table row.rowid row.values control values ≡ option_map (λ (after : TableRow). after.values) (met_row format table row control values)
  values-are Insert values = refl
  values-are Replace values = ap Some (sym (with_values-are values))
  values-are Delete values = refl
  values-are (Update marks) values = ap Some (sym (with_values-are (marked marks values row.values)))

-- Marked values where no old one is left.

marked-none : (marks : List Bool) (values : List Value) → marked marks values [] ≡ []
marked-none [] values = refl
marked-none (mark ∷ marks) [] = refl
marked-none (mark ∷ marks) (value ∷ values) = refl

pub marked-end : (marks : List Bool) (values left made whole : List Value) → length left < 1 → whole ≡ made ++ marked marks values left → made ≡ whole
marked-end marks values [] made whole short e = sym (e ∙ ap (λ (rest : List Value). made ++ rest) (marked-none marks values) ∙ append-nil made)
marked-end marks values (value ∷ left) made whole short e = absurd (omega (arith, short))
