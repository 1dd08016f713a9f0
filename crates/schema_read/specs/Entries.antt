-- The tables of rows that have no fault, with their indexes.
use Rattle.std.specs.Prelude.{◌≡◌, ℕ, ◌<◌, ◌==◌, not, nat_lt, if◌then◌else◌, List, [], ◌∷◌, ◌++◌, length, map, filter, filter_map, IsPermutation, Option, Some, None, Result, slice_index_or}
use Rattle.std.specs.List.Sorted.{IsSorted}
use Rattle.std.specs.Ordering.{nat_cmp}
use Rattle.schema_spec.specs.declared.schema.SqlFault.{SqlFault}
use Rattle.schema_spec.specs.declared.schema.Table.{Table}
use Rattle.schema_spec.specs.declared.schema.Index.{Index}
use Rattle.database_spec.specs.declared.catalog.SchemaRow.{SchemaRow}
use Rattle.database_spec.specs.declared.catalog.Catalog.{Catalog}
use Rattle.database_spec.specs.declared.catalog.NamedEntry.{NamedEntry}
use Rattle.schema_read.specs.declared.check.Placed.{Placed}
use Rattle.schema_read.specs.declared.found.Found.{Found}

-- a root in 32 bits, or 0
abbrev pub root_of : ℕ → ℕ
root_of root = if nat_lt 4294967295 root then 0 else root

abbrev pub root_in_row : Option SchemaRow → ℕ
root_in_row None = 0
root_in_row (Some row) = root_of row.root

abbrev pub root_in : Found → ℕ
root_in found = root_in_row found.row

-- the roots of members that have one
abbrev pub roots_of : List Found → List ℕ
roots_of found = filter (λ root. not (root == 0)) (map root_in found)

abbrev pub entry_in : Option SchemaRow → Option (Result Table SqlFault) → List (ℕ × Result Index SqlFault) → Option NamedEntry
entry_in (Some row) (Some meaning) indexes = Some (record { name = row.name; entry = record { root = root_of row.root; meaning = meaning; indexes = indexes } })
entry_in (Some row) None indexes = None
entry_in None meaning indexes = None

-- a table or a view of the catalog
abbrev pub entry_of : Found → Option NamedEntry
entry_of found = entry_in found.row found.meaning found.indexes.items

abbrev pub index_of : Placed → ℕ × Result Index SqlFault
index_of placed = (placed.root, placed.meaning)

-- an index for the table at a place
abbrev pub index_at : ℕ → Placed → List (ℕ × Result Index SqlFault)
index_at k placed = if placed.at == k then index_of placed ∷ [] else []

abbrev pub indexes_at : ℕ → List Placed → List (ℕ × Result Index SqlFault)
indexes_at k [] = []
indexes_at k (placed ∷ more) = index_at k placed ++ indexes_at k more

-- a member has some more indexes
pub record HasMore (old new : Found) (more : List (ℕ × Result Index SqlFault)) : Type 0 where
  pub row : new.row ≡ old.row
  pub meaning : new.meaning ≡ old.meaning
  pub indexes : new.indexes.items ≡ old.indexes.items ++ more

-- each index stands with the table at its place
pub record StandAll (old : List Found) (placed : List Placed) (new : List Found) : Type 0 where
  pub many : length new ≡ length old
  pub each : (k : ℕ) (d : Found) → k < length old → HasMore (slice_index_or old k d) (slice_index_or new k d) (indexes_at k placed)

abbrev pub StandsWith : List Found → Placed → List Found → Type 0
StandsWith old placed new = StandAll old (placed ∷ []) new

-- the catalog of members and of the indexes that stand with their tables
pub record IsMadeOf (found : List Found) (placed : List Placed) (catalog : Catalog) : Type 0 where
  pub new : List Found
  pub stand : StandAll found placed new
  pub tables : catalog.tables ≡ filter_map entry_of new
  pub same : IsPermutation (1 ∷ roots_of found) catalog.roots
  pub sorted : IsSorted nat_cmp catalog.roots
