-- The `data_` tables of an RBU database, and which of them can be read for a target (The RBU Extension, section 2.1; the limits are this project's).
use Rattle.std.specs.Prelude.{◌≡◌, ℕ, ◌==◌, ◌||◌, nat_lt, Bool, if◌then◌else◌, List, [], ◌∷◌, ◌++◌, length, map, take, drop, filter_map, AllPairs, IsPermutation, Option, Some, None, option_map, Result, Ok, Err, bytes_eq, codes}
use Rattle.std.specs.List.{list_any}
use Rattle.std.specs.Char.{is_ascii_digit}
use Rattle.std.specs.Ordering.{nat_cmp}
use Rattle.std.specs.declared.cmp.Ordering.TheVariants.{Less}
use Rattle.std.specs.Cmp.Lexicographic.{slice_cmp}
use Rattle.schema_spec.specs.declared.schema.SqlFault.{SqlFault}
use Rattle.schema_spec.specs.declared.schema.SqlFault.TheVariants as sql
use Rattle.schema_spec.specs.declared.schema.Table.{Table}
use Rattle.schema_spec.specs.declared.schema.Index.{Index}
use Rattle.schema_spec.specs.Words.{same_name}
use Rattle.database_spec.specs.declared.catalog.Entry.{Entry}
use Rattle.database_spec.specs.declared.catalog.NamedEntry.{NamedEntry}
use Rattle.database_spec.specs.declared.catalog.Catalog.{Catalog}
use Rattle.refusal.specs.declared.Measure.{Measure}
use Rattle.refusal.specs.declared.Measure.TheVariants as measure
use Rattle.prepared_spec.specs.declared.input_fault.InputFault.{InputFault}
use Rattle.prepared_spec.specs.declared.input_fault.InputFault.TheVariants.{SqlSyntax, OutsideProfile, NoTarget, ColumnMissing, ColumnUnknown, RowidMissing, TooMuch}
use Rattle.prepared_spec.specs.Plans.{table_named}

-- a table of an RBU database with a name of `data`, any digits, `_` and the name of its target
pub record DataTable : Type 0 where
  pub source : List ℕ
  pub target : List ℕ
  pub entry : Entry

-- what stands behind digits and `_`
abbrev pub behind_digits : List ℕ → Option (List ℕ)
behind_digits [] = None
behind_digits (b ∷ text) = if is_ascii_digit b then behind_digits text else (if b == 95 then Some text else None)

-- the target's name in that of a `data_` table
abbrev pub target_in : List ℕ → Option (List ℕ)
target_in name = if bytes_eq (take 4 name) (codes "data") then behind_digits (drop 4 name) else None

abbrev pub data_table : NamedEntry → Option DataTable
data_table named = option_map (λ target. record { source = named.name; target = target; entry = named.entry }) (target_in named.name)

-- all `data_` tables in order of their whole names by bytes
pub record AreDataTables (catalog : Catalog) (tables : List DataTable) : Type 0 where
  pub all : IsPermutation (filter_map data_table catalog.tables) tables
  pub sorted : AllPairs (λ (a b : DataTable). slice_cmp nat_cmp a.source b.source ≡ Less) tables

abbrev pub column_names : Table → List (List ℕ)
column_names table = map (λ column. column.name) table.columns

abbrev pub has_column : List ℕ → Table → Bool
has_column name table = list_any (same_name name) (column_names table)

abbrev pub begins_with : List ℕ → List ℕ → Bool
begins_with word name = same_name (take (length word) name) word

-- the first fault of some, in their order
abbrev pub first_fault : List (Option InputFault) → Option InputFault
first_fault [] = None
first_fault (None ∷ faults) = first_fault faults
first_fault (Some fault ∷ faults) = Some fault

-- the fault of a text under a name
abbrev pub text_fault : List ℕ → SqlFault → Option InputFault
text_fault name (sql.SqlSyntax offset) = Some (SqlSyntax name offset)
text_fault name (sql.OutsideProfile clause) = Some (OutsideProfile name clause)
text_fault name (sql.Memory error) = None

abbrev pub meaning_fault : {A : Type 0} → List ℕ → Result A SqlFault → Option InputFault
meaning_fault name (Ok meaning) = None
meaning_fault name (Err fault) = text_fault name fault

abbrev pub index_names : List (ℕ × Result Index SqlFault) → List (List ℕ)
index_names [] = []
index_names ((root, Ok index) ∷ indexes) = index.name ∷ index_names indexes
index_names ((root, Err fault) ∷ indexes) = index_names indexes

abbrev pub over : Measure → ℕ → ℕ → Option InputFault
over what limit has = if nat_lt limit has then Some (TooMuch what has limit) else None

-- the fault of a `data_` table under a target in the profile: limits, then columns that are missing, then those that are unknown
abbrev pub columns_fault : DataTable → NamedEntry → Table → Table → List (Option InputFault)
columns_fault source named target table =
    over measure.Columns 200 (length target.columns)
    ∷ over measure.Indexes 64 (length named.entry.indexes)
    ∷ first_fault (map (λ name. over measure.Name 255 (length name)) (named.name ∷ (index_names named.entry.indexes ++ source.source ∷ [])))
    ∷ first_fault (map (λ name. if has_column name table then None else Some (ColumnMissing source.source name)) (column_names target ++ codes "rbu_control" ∷ []))
    ∷ (elim target.key as (λ _. Option InputFault) [ [] ↦ (if has_column (codes "rbu_rowid") table then None else Some (RowidMissing source.source)) | (place ∷ places) ↦ None ])
    ∷ first_fault (map (λ name. if has_column name target || begins_with (codes "rbu_") name then None else Some (ColumnUnknown source.source name)) (column_names table)) ∷ []

abbrev pub meanings_fault : DataTable → NamedEntry → Result Table SqlFault → Result Table SqlFault → List (Option InputFault)
meanings_fault source named (Ok target) (Ok table) = columns_fault source named target table
meanings_fault source named _ _ = []

-- The first fault of a `data_` table by itself: its target, the texts of the target and of its indexes, its own text, and then its columns.
abbrev pub table_fault : Catalog → DataTable → Option InputFault
table_fault catalog source =
    elim (if begins_with (codes "sqlite_") source.target then None else table_named source.target catalog.tables) as (λ _. Option InputFault) [
      | None ↦ Some (NoTarget source.target)
      | Some named ↦
          first_fault (meaning_fault named.name named.entry.meaning ∷ (map (λ index. meaning_fault named.name index.1) named.entry.indexes
          ++ meaning_fault source.source source.entry.meaning ∷ meanings_fault source named named.entry.meaning source.entry.meaning))
    ]
