-- The order of index entries, and what an index has to hold (Database File Format, section 2.4 and 2.5; Datatypes In SQLite, section 7).
use Rattle.std.specs.Prelude.{◌≡◌, Bool, true, false, IsTrue, if◌then◌else◌, List, [], ◌∷◌, ◌++◌, map, length, take, AllPairs, IsPermutation, slice_index_or}
use Rattle.std.specs.List.{list_any, AllZip}
use Rattle.std.specs.Ordering.{ordering_then, ordering_reverse}
use Rattle.std.specs.declared.cmp.Ordering.{Ordering}
use Rattle.std.specs.declared.cmp.Ordering.TheVariants.{Less, Equal}
use Rattle.rbu_value.specs.declared.order.Collation.{Collation}
use Rattle.rbu_value.specs.declared.order.Collation.TheVariants.{Binary}
use Rattle.rbu_value.specs.declared.value.Value.{Value}
use Rattle.rbu_value.specs.declared.value.Value.TheVariants.{Null, Int, Text, Blob}
use Rattle.rbu_value.specs.Order.{value_cmp}
use Rattle.format_spec.specs.Record.{IsRecord}
use Rattle.schema_spec.specs.declared.schema.Index.{Index}
use Rattle.tree_spec.specs.Trees.{Member}
use Rattle.database_spec.specs.Rows.{TableRow}

-- how values in a column of a key compare: by its collation, and the other way round where it descends
abbrev pub column_cmp : Collation × Bool → Value → Value → Ordering
column_cmp column a b = if column.1 then ordering_reverse (value_cmp column.0 a b) else value_cmp column.0 a b

-- keys compare column by column, the first that differs decides
abbrev pub columns_cmp : List (Collation × Bool) → List Value → List Value → Ordering
columns_cmp [] a b = Equal
columns_cmp (column ∷ columns) [] b = Equal
columns_cmp (column ∷ columns) (x ∷ a) [] = Equal
columns_cmp (column ∷ columns) (x ∷ a) (y ∷ b) = ordering_then (column_cmp column x y) (columns_cmp columns a b)

-- the collation of each column of an index, and whether it descends
abbrev pub order_of : Index → List (Collation × Bool)
order_of index = map (λ column. (column.1, column.2)) index.columns

-- the value behind the columns: the rowid
abbrev pub last_value : List (Collation × Bool) → List Value → Value
last_value columns entry = slice_index_or entry (length columns) Null

-- the order of entries: by their columns, and then by rowid, which rises
abbrev pub entry_cmp : List (Collation × Bool) → List Value → List Value → Ordering
entry_cmp columns a b = ordering_then (columns_cmp columns a b) (value_cmp Binary (last_value columns a) (last_value columns b))

-- one entry stands before another
abbrev pub IsBefore : Index → List Value → List Value → Type 0
IsBefore index a b = entry_cmp (order_of index) a b ≡ Less

-- the entry of a row: the values of the indexed columns, and then the rowid
abbrev pub entry_of : Index → TableRow → List Value
entry_of index row = map (λ column. slice_index_or row.values column.0 Null) index.columns ++ Int row.rowid ∷ []

-- The projection of a table for an index: the entries of all its rows, in order.
pub record IsProjection (index : Index) (rows : List TableRow) (entries : List (List Value)) : Type 0 where
  pub all : IsPermutation (map (entry_of index) rows) entries
  pub sorted : AllPairs (IsBefore index) entries

abbrev pub is_null : Value → Bool
is_null Null = true
is_null (Int z) = false
is_null (Text text) = false
is_null (Blob blob) = false

-- a NULL stands among the indexed columns of an entry
abbrev pub has_null : Index → List Value → Bool
has_null index entry = list_any is_null (take (length index.columns) entry)

-- two entries agree in the indexed columns, and no NULL is among these (CREATE INDEX, section 1.1: NULLs are distinct)
abbrev pub Clash : Index → List Value → List Value → Type 0
Clash index a b = (columns_cmp (order_of index) a b ≡ Equal) × (has_null index a ≡ false) × (has_null index b ≡ false)

-- The members of an index's tree are the projection of its table, and no two entries of a unique index clash.
pub record IsIndexOf (index : Index) (rows : List TableRow) (members : List Member) : Type 0 where
  pub entries : List (List Value)
  pub decoded : AllZip (λ member entry. IsRecord member.payload entry) members entries
  pub is_projection : IsProjection index rows entries
  pub unique : IsTrue index.unique → AllPairs (λ a b. ¬ Clash index a b) entries
