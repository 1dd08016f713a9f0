-- Small tables and prepared rows on which definitions are computed.
use Rattle.std.specs.Prelude.{ℕ, ℤ, pos, ◌^◌, ◌-◌, true, false, List, [], ◌∷◌, None, codes}
use Rattle.rbu_value.specs.declared.value.Value.{Value}
use Rattle.rbu_value.specs.declared.value.Value.TheVariants.{Int, Text}
use Rattle.rbu_value.specs.declared.affinity.Affinity.TheVariants.{Text as TextAffinity, Blob as BlobAffinity}
use Rattle.rbu_value.specs.declared.order.Collation.TheVariants.{Binary}
use Rattle.rbu_rows.specs.declared.control.Control.{Control}
use Rattle.rbu_rows.specs.declared.prepared.Prepared.{Prepared}
use Rattle.schema_spec.specs.declared.schema.Column.{Column}
use Rattle.schema_spec.specs.declared.schema.Table.{Table}
use Rattle.database_spec.specs.Rows.{TableRow}

abbrev pub plain_column : List ℕ → Column
plain_column name = record { name = name; affinity = BlobAffinity; collation = Binary; not_null = false }

-- p(k TEXT PRIMARY KEY, v)
abbrev pub text_key_table : Table
text_key_table = record {
  name = codes "p";
  columns = record { name = codes "k"; affinity = TextAffinity; collation = Binary; not_null = false } ∷ plain_column (codes "v") ∷ [];
  rowid_column = None;
  key = 0 ∷ [];
  unique = ((0, Binary) ∷ []) ∷ [];
}

-- q(v), and q(v NOT NULL)
abbrev pub no_key_table : Table
no_key_table = record { name = codes "q"; columns = plain_column (codes "v") ∷ []; rowid_column = None; key = []; unique = [] }

abbrev pub not_null_table : Table
not_null_table = record { name = codes "q"; columns = record { name = codes "v"; affinity = BlobAffinity; collation = Binary; not_null = true } ∷ []; rowid_column = None; key = []; unique = [] }

-- data_t1(c, rbu_control, b, a)
abbrev pub crossed_table : Table
crossed_table = record {
  name = codes "data_t1";
  columns = plain_column (codes "c") ∷ plain_column (codes "rbu_control") ∷ plain_column (codes "b") ∷ plain_column (codes "a") ∷ [];
  rowid_column = None;
  key = [];
  unique = [];
}

abbrev pub text_row : ℤ → List ℕ → ℕ → TableRow
text_row rowid key v = record { rowid = rowid; values = Text key ∷ Int (pos v) ∷ []; payload = [] }

abbrev pub text_prepared : ℕ → List ℕ → ℕ → Control → Prepared
text_prepared rowid key v control = record { data_rowid = pos rowid; key = Text key ∷ []; values = Text key ∷ Int (pos v) ∷ []; control = control }

abbrev pub rowid_prepared : ℕ → ℕ → Value → Control → Prepared
rowid_prepared rowid key v control = record { data_rowid = pos rowid; key = Int (pos key) ∷ []; values = v ∷ []; control = control }

abbrev pub last_rowid : ℤ
last_rowid = pos (2 ^ 63 - 1)
