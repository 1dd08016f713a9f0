-- The databases that can be updated today: one table of one page.
use Rattle.std.specs.Prelude.{◌≡◌, ℕ, ℤ, pos, ◌<ℤ◌, List, [], ◌∷◌, length, codes, FitsSigned, AllPairs}
use Rattle.std.specs.Int.{w64}
use Rattle.std.specs.List.{AllByRecursion, AllZip}
use Rattle.rbu_value.specs.declared.value.Value.{Value}
use Rattle.rbu_value.specs.declared.value.Value.TheVariants.{Null, Int, Text, Blob}
use Rattle.byte_fields.specs.Bytes.{part_of}
use Rattle.format_spec.specs.declared.PageKind.TheVariants.{TableLeaf}
use Rattle.format_spec.specs.declared.CellView.{CellView}
use Rattle.byte_fields.specs.Numbers.{page_at}
use Rattle.format_spec.specs.Record.{canonical_record}
use Rattle.format_spec.specs.Cell.{IsCell}
use Rattle.format_spec.specs.Page.{IsPage}
use Rattle.format_spec.specs.Header.{HasMagic, page_size, write_version, read_version, reserved, max_fraction, min_fraction, leaf_fraction, change_counter, pages, freelist_trunk, freelist_pages, schema_format, largest_root, text_encoding, version_valid_for}
use Rattle.small_spec.specs.declared.TargetRow.{TargetRow}
use Rattle.small_spec.specs.declared.PreparedRow.{PreparedRow}

-- each field of the header has its number
abbrev pub HasFields : List ((List ℕ → ℕ) × ℕ) → List ℕ → Type 0
HasFields fields bytes = AllByRecursion (λ field. field.0 bytes ≡ field.1) fields

-- pages of 4096 bytes, a rollback journal, no reserved bytes, and the three numbers that are the same in every database
abbrev pub small_layout : List ((List ℕ → ℕ) × ℕ)
small_layout =
    (page_size, 4096) ∷ (write_version, 1) ∷ (read_version, 1) ∷ (reserved, 0) ∷ (max_fraction, 64) ∷ (min_fraction, 32) ∷ (leaf_fraction, 32) ∷ []

-- two pages, no freelist, schema format 4, no auto-vacuum, UTF-8
abbrev pub small_state : List ((List ℕ → ℕ) × ℕ)
small_state =
    (pages, 2) ∷ (freelist_trunk, 0) ∷ (freelist_pages, 0) ∷ (schema_format, 4) ∷ (largest_root, 0) ∷ (text_encoding, 1) ∷ []

-- the header of a small file; its size in pages is valid
pub record IsSmallHeader (bytes : List ℕ) : Type 0 where
  pub magic : HasMagic bytes
  pub layout : HasFields small_layout bytes
  pub state : HasFields small_state bytes
  pub valid : version_valid_for bytes ≡ change_counter bytes

-- The cell is a table's at this rowid, and its payload lies in it whole.
pub record IsWholeCell (cell : List ℕ) (rowid : ℤ) (payload : List ℕ) : Type 0 where
  pub view : CellView
  pub is_cell : IsCell TableLeaf 4096 cell view
  pub rowid_is : view.rowid ≡ rowid
  pub whole : view.local ≡ view.payload
  pub payload_is : part_of cell view.local_at view.local ≡ payload

-- the cell is a table's row with this rowid: its payload is the canonical record of the values
abbrev pub IsRowCell : List ℕ → ℤ → List Value → Type 0
IsRowCell cell rowid values = IsWholeCell cell rowid (canonical_record 4 values)

-- the record of the one row of the schema: a table with root page 2 (Database File Format, section 2.6)
abbrev pub schema_record : List ℕ → List ℕ → List ℕ
schema_record name text = canonical_record 4 (Text (codes "table") ∷ Text name ∷ Text name ∷ Int (pos 2) ∷ Text text ∷ [])

-- The bytes are a small file: a header, a page with the one row of the schema, and a page with the cells of its table.
pub record IsSmallFile (bytes schema : List ℕ) (cells : List (List ℕ)) : Type 0 where
  pub long : length bytes ≡ 8192
  pub header : IsSmallHeader bytes
  pub schema_cell : List ℕ
  pub schema_page : IsPage (page_at 4096 1 bytes) 1 4096 TableLeaf (schema_cell ∷ []) 0
  pub schema_row : IsWholeCell schema_cell (pos 1) schema
  pub table_page : IsPage (page_at 4096 2 bytes) 2 4096 TableLeaf cells 0

-- the keys of the rows rise
abbrev pub IsRisingBy : {Row : Type 0} → (Row → ℤ) → List Row → Type 0
IsRisingBy key rows = AllPairs (λ a b. key a <ℤ key b) rows

-- a table that a small file may have: its name, the text of its schema, which cell is which row, and the rowid of a row
pub record Table (Row : Type 0) : Type 1 where
  pub name : List ℕ
  pub text : List ℕ
  pub IsRow : List ℕ → Row → Type 0
  pub rowid : Row → ℤ

-- the bytes are a small file of the table with these rows, in order of their rowids
pub record IsSmall {Row : Type 0} (table : Table Row) (bytes : List ℕ) (rows : List Row) : Type 0 where
  pub cells : List (List ℕ)
  pub file : IsSmallFile bytes (schema_record table.name table.text) cells
  pub each : AllZip table.IsRow cells rows
  pub rising : IsRisingBy table.rowid rows

-- the values that a row may have beside its key
abbrev pub IsNullOrText : Value → Type 0
IsNullOrText Null = Unit {0}
IsNullOrText (Int z) = ⊥
IsNullOrText (Text bytes) = Unit {0}
IsNullOrText (Blob bytes) = ⊥

-- a row of the target: its key is the rowid, which the record has as NULL (Database File Format, section 2.3)
abbrev pub IsTargetRow : List ℕ → TargetRow → Type 0
IsTargetRow cell row = (cell ≡ row.cell) × ((value : Value) × IsNullOrText value × IsRowCell cell row.rowid (Null ∷ value ∷ []))

-- a row of the `data_` table: the key, which is of 64 bits, the value and the control 0, which inserts (The RBU Extension, sections 2.2.1 and 2.2.2)
abbrev pub IsPreparedRow : List ℕ → PreparedRow → Type 0
IsPreparedRow cell row =
    IsNullOrText row.value × IsRowCell cell row.data_rowid (Int row.key ∷ row.value ∷ Int (pos 0) ∷ []) × FitsSigned w64 row.key

-- the table that is updated
abbrev pub target_table : Table TargetRow
target_table = record {
  name = codes "t1";
  text = codes "CREATE TABLE t1(a INTEGER PRIMARY KEY, b)";
  IsRow = IsTargetRow;
  rowid = λ row. row.rowid;
}

-- the `data_` table of its prepared rows
abbrev pub data_table : Table PreparedRow
data_table = record {
  name = codes "data_t1";
  text = codes "CREATE TABLE data_t1(a, b, rbu_control)";
  IsRow = IsPreparedRow;
  rowid = λ row. row.data_rowid;
}

-- the bytes are a target with these rows
abbrev pub IsSmallTarget : List ℕ → List TargetRow → Type 0
IsSmallTarget = IsSmall target_table

-- the bytes are an RBU database with these prepared rows
abbrev pub IsSmallRbu : List ℕ → List PreparedRow → Type 0
IsSmallRbu = IsSmall data_table
