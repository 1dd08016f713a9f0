-- What is read of a table for an index.
use Rattle.std.specs.Prelude.{◌≡◌, ℕ, ℤ, Bool, List, [], ◌∷◌, ◌++◌, map, slice_index_or, Option, Some, None, Result, Ok, Err, Vec}
use Rattle.std.specs.Global.{Global}
use Rattle.std.specs.List.{AllZip}
use Rattle.std.specs.Ordering.{ordering_then}
use Rattle.std.specs.declared.cmp.Ordering.{Ordering}
use Rattle.rbu_value.specs.declared.order.Collation.{Collation}
use Rattle.rbu_value.specs.declared.order.Collation.TheVariants.{Binary}
use Rattle.rbu_value.specs.declared.value.Value.{Value}
use Rattle.rbu_value.specs.declared.value.Value.TheVariants.{Null, Int}
use Rattle.rbu_value.specs.Order.{value_cmp}
use Rattle.schema_spec.specs.declared.schema.Table.{Table}
use Rattle.schema_spec.specs.declared.schema.Index.{Index}
use Rattle.tree_spec.specs.declared.fault.TreeFault.{TreeFault}
use Rattle.tree_spec.specs.Faults.{fault_in as tree_fault_in, IsOther as IsOtherTree}
use Rattle.tree_spec.specs.Trees.{Member}
use Rattle.tree_spec.specs.Standing.{Sizes, Paged}
use Rattle.tree_walk.specs.declared.cursor.Row.{Row}
use Rattle.database_spec.specs.declared.catalog.Entry.{Entry}
use Rattle.database_spec.specs.Rows.{TableRow, IsRow, IsPlain}
use Rattle.database_spec.specs.Keys.{last_value, entry_of, IsProjection}
use Rattle.prepared_laws.specs.PaddedKeysLaws.{padded_cmp}
use Rattle.prepared_laws.specs.TablesMadeLaws.{Apart}
use Rattle.db_check.specs.declared.fault.CheckFault.{CheckFault}
use Rattle.db_check.specs.Answers.{fault_in, IsOther}

-- the row that was read, with values
abbrev pub row_with : Row → List Value → TableRow
row_with row values = record { rowid = row.rowid; values = values; payload = row.payload }

-- the entry of values and a rowid in columns
abbrev pub entry_over : List (ℕ × Collation × Bool) → List Value → ℤ → List Value
entry_over columns values rowid = map (λ column. slice_index_or values column.0 Null) columns ++ Int rowid ∷ []

-- the order of entries, over all lists: what a key lacks is NULL
abbrev pub by_entry : List (Collation × Bool) → List Value → List Value → Ordering
by_entry columns a b = ordering_then (padded_cmp columns a b) (value_cmp Binary (last_value columns a) (last_value columns b))

-- a member of a table is a row with this entry
abbrev pub HasEntry : Table → Index → Member → List Value → Type 0
HasEntry table index member entry = (row : TableRow) × IsRow table member row × (entry_of index row ≡ entry)

-- members of a table are rows with these entries
abbrev pub HaveEntries : Table → Index → List Member → List (List Value) → Type 0
HaveEntries table index members entries = (rows : List TableRow) × AllZip (IsRow table) members rows × (map (entry_of index) rows ≡ entries)

-- Members of a table are rows, of which these entries are the projection. Of two rows with one rowid nothing is said: in a tree that is right there are none.
abbrev pub IsProjectionOf : Table → Index → List Member → List (List Value) → Type 0
IsProjectionOf table index members entries = (rows : List TableRow) × AllZip (IsRow table) members rows × (Apart rows → IsProjection index rows entries)

-- nothing is answered of a tree that is damaged
abbrev pub TellsUnread : {F : Type 0} → TreeFault F → Result (Option (Vec (List Value) Global)) (CheckFault F) → Type 0
TellsUnread fault (Ok (Some entries)) = ⊥
TellsUnread fault (Ok None) = (tree_fault_in fault ≡ None) × ¬ IsOtherTree fault
TellsUnread fault (Err other) = (fault_in other ≡ tree_fault_in fault) × IsOther other

-- the projection of a plain table for an index; or the table is not plain
abbrev pub Projects : {F : Type 0} → Sizes → Paged → ℕ → Table → Index → Result (Option (Vec (List Value) Global)) (CheckFault F) → Type 0
Projects sizes base root table index (Ok (Some entries)) =
    (entry : Entry) → entry.root ≡ root → entry.meaning ≡ Ok table → (rows : List TableRow) × IsPlain sizes base entry table rows × (Apart rows → IsProjection index rows entries.items)
Projects sizes base root table index (Ok None) = (entry : Entry) → entry.root ≡ root → entry.meaning ≡ Ok table → (other : Table) (rows : List TableRow) → ¬ IsPlain sizes base entry other rows
Projects sizes base root table index (Err fault) = IsOther fault
