-- Columns of which none is written.
use Rattle.std.proofs.Common.{◌≡◌, ℕ, suc, false, Bool, List, [], ◌∷◌, length, Option, None, refl, sym}
use Rattle.std.proofs.Math.Path.{subst⁻¹}
use Rattle.std.specs.Prelude.{replicate}
use Rattle.rbu_value.specs.declared.value.Value.{Value}
use Rattle.rbu_rows.specs.declared.control.Control.{Control}
use Rattle.rbu_rows.specs.declared.control.Control.TheVariants.{Delete, Update}
use Rattle.rbu_rows.specs.declared.prepared.Prepared.{Prepared}
use Rattle.schema_spec.specs.declared.schema.Column.{Column}
use Rattle.schema_spec.specs.declared.schema.Table.{Table}
use Rattle.prepared_spec.specs.StepFaults.{null_column, written_columns}
use Rattle.row_steps.specs.RowSteps.{written_null}

none-written : (rowid : Option ℕ) (at : ℕ) (columns : List Column) (values : List Value) → null_column rowid at columns (replicate (length columns) false) values ≡ None
none-written rowid at [] values = refl
none-written rowid at (column ∷ columns) [] = refl
none-written rowid at (column ∷ columns) (value ∷ values) = none-written rowid (suc at) columns values

-- a deletion writes none, nor does an update that meets no row
pub deletion-none : (table : Table) (met : Bool) (prepared : Prepared) → prepared.control ≡ Delete → None ≡ written_null table met prepared
deletion-none table met prepared e =
    subst⁻¹ (λ (control : Control). None ≡ null_column table.rowid_column 0 table.columns (written_columns control met (length table.columns)) prepared.values) e (sym (none-written table.rowid_column 0 table.columns prepared.values))

pub update-none : (table : Table) (met : Bool) (prepared : Prepared) (marks : List Bool) → prepared.control ≡ Update marks → met ≡ false → None ≡ written_null table met prepared
update-none table met prepared marks e missing =
    subst⁻¹ (λ (control : Control). None ≡ null_column table.rowid_column 0 table.columns (written_columns control met (length table.columns)) prepared.values) e
    (subst⁻¹ (λ (t : Bool). None ≡ null_column table.rowid_column 0 table.columns (written_columns (Update marks) t (length table.columns)) prepared.values) missing (sym (none-written table.rowid_column 0 table.columns prepared.values)))
