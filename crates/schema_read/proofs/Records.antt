-- Records as rows of the schema.
use Rattle.std.proofs.Common.{◌≡◌, ℤ, List, [], ◌∷◌, Option, Some, None, Result, Ok, Err, IfOk, Vec, Global, subst, refl, inl, inr}
use Rattle.std.proofs.Math.Path.{subst⁻¹}
use Rattle.std.specs.declared.alloc.AllocError.{AllocError}
use Rattle.common_spec.specs.Reading.{OrNone, OrFault, ReadsOrWants}
use Rattle.format_spec.specs.Record.{IsRecord}
use Rattle.rbu_value.specs.declared.value.Value.{Value}
use Rattle.rbu_value.specs.declared.value.Value.TheVariants.{Text}
use Rattle.record_codec.specs.RecordLaws.{record-same}
use Rattle.record_codec.specs.declared.read.RecordFault.{RecordFault}
use Rattle.record_codec.specs.Faults.{HasFault, IsMemory}
use Rattle.tree_spec.specs.Trees.{Member}
use Rattle.database_spec.specs.declared.catalog.SchemaRow.{SchemaRow}
use Rattle.database_spec.specs.SchemaRows.{IsSchemaRow, kind_word, row_values}
use Rattle.schema_read.specs.Rows.{IsRowIn}
use Rattle.schema_read.specs.declared.rows.RowValues.{RowValues}

-- the row of a record is that of its values
pub row-read : (member : Member) (values : List Value) (found : Option SchemaRow) → IsRecord member.payload values → OrNone (IsRowIn member.rowid values) found → OrNone (IsSchemaRow member) found
row-read member values (Some row) is_record is = record {
  root_value = is.root_value;
  sql_value = is.sql_value;
  is_record = subst (IsRecord member.payload) is.values_are is_record;
  root = is.root;
  sql = is.sql;
  rowid = is.rowid_is;
}
row-read member values None is_record none = λ row has.
    let same = (record-same values (row_values row has.root_value has.sql_value) member.payload member.payload [] [] is_record has.is_record refl).0 in
    none row (record { root_value = has.root_value; sql_value = has.sql_value; values_are = same; root = has.root; sql = has.sql; rowid_is = has.rowid })

none-read : (member : Member) (fault : RecordFault) → (IsMemory fault → ⊥)
    → (let refused : Result (Vec Value Global) RecordFault = Err fault in ReadsOrWants (λ values. values.items) IsMemory (OrFault (IsRecord member.payload) (HasFault member.payload)) refused)
    → (row : SchemaRow) → ¬ IsSchemaRow member row
none-read member fault there (inl memory) row = absurd (there memory)
none-read member fault there (inr reads) row = λ has. let e = reads.only (Ok (row_values row has.root_value has.sql_value)) has.is_record in absurd (let h : ⊥ = cc in h)

-- a record that is none is no row
pub row-none : (member : Member) (fault : RecordFault) (answer : Result (Option SchemaRow) AllocError) → IfOk answer (λ found. (found ≡ None) × ¬ IsMemory fault)
    → (let refused : Result (Vec Value Global) RecordFault = Err fault in ReadsOrWants (λ values. values.items) IsMemory (OrFault (IsRecord member.payload) (HasFault member.payload)) refused)
    → IfOk answer (OrNone (IsSchemaRow member))
row-none member fault (Ok found) none refused = subst⁻¹ (OrNone (IsSchemaRow member)) none.0 (none-read member fault none.1 refused)
row-none member fault (Err error) none refused = tt

-- other numbers of values are no row
pub five-none : (rowid : ℤ) (values : List Value) → ((five : RowValues) → ¬ (values ≡ five.kind ∷ five.name ∷ five.table ∷ five.root ∷ five.sql ∷ [])) → (row : SchemaRow) → ¬ IsRowIn rowid values row
five-none rowid values none row is =
    none (record { kind = Text (kind_word row.kind); name = Text row.name; table = Text row.table; root = is.root_value; sql = is.sql_value }) is.values_are
