-- The first fault of a file: what is found is gone through in its order, and the first thing that is wrong after all before it is answered. The rules are those of a sound database (PRAGMA integrity_check), as far as this project has them.
use Rattle.std.specs.Prelude.{◌≡◌, ◌≢◌, ℕ, ℤ, suc, ◌==◌, ◌&&◌, not, Bool, false, IsTrue, IsFalse, ◌⊎◌, List, [], ◌∷◌, ◌++◌, length, map, filter_map, Any, Contains, Option, Some, None}
use Rattle.std.specs.List.{list_any, AllZip}
use Rattle.rbu_value.specs.declared.value.Value.{Value}
use Rattle.rbu_value.specs.declared.value.Value.TheVariants.{Int}
use Rattle.format_spec.specs.Record.{IsRecord}
use Rattle.refusal.specs.declared.Rule.TheVariants as broken
use Rattle.schema_spec.specs.declared.schema.Index.{Index}
use Rattle.tree_spec.specs.Trees.{Member}
use Rattle.tree_spec.specs.Standing.{Sizes, Paged}
use Rattle.database_spec.specs.declared.catalog.Catalog.{Catalog}
use Rattle.database_spec.specs.declared.fault.FileFault.{FileFault}
use Rattle.database_spec.specs.declared.fault.FileFault.TheVariants.{PageTwice, PageLost, KeyOrder, IndexDisagrees, Damaged}
use Rattle.database_spec.specs.Walks.{Finding, Finds, Ends, Holds, Breaks, Disorders, Bares, page_in}
use Rattle.database_spec.specs.RightRows.{HasCatalog, CatalogHasFault}
use Rattle.database_spec.specs.Rows.{TableRow}
use Rattle.database_spec.specs.Keys.{order_of, last_value, IsBefore, entry_of, Clash}
use Rattle.database_spec.specs.Databases.{IsReadable}
use Rattle.database_spec.specs.FileFindings.{Content, Rows, Entries, Anything, Subject, Found, InTree, Frees, Tears, Counts, Needs, Compares, AreFound}

abbrev pub page_found : Found → Option ℕ
page_found (InTree subject finding) = page_in finding
page_found (Frees page) = Some page
page_found (Tears page) = None
page_found (Counts pages) = None
page_found (Needs page) = None
page_found (Compares index rows members) = None

abbrev pub is_found : ℕ → List Found → Bool
is_found page before = list_any (λ other. other == page) (filter_map page_found before)

abbrev pub free_page : Found → Option ℕ
free_page (InTree subject finding) = None
free_page (Frees page) = Some page
free_page (Tears page) = None
free_page (Counts pages) = None
free_page (Needs page) = None
free_page (Compares index rows members) = None

-- a leaf of the same tree at another depth
abbrev pub ends_elsewhere : ℕ → ℕ → Found → Bool
ends_elsewhere root depth (InTree subject (Ends page other)) = (subject.root == root) && not (other == depth)
ends_elsewhere root depth _ = false

-- a member decodes as an entry of the index: a value for each column, and an integer for the rowid
pub record IsEntry (index : Index) (member : Member) (entry : List Value) : Type 0 where
  pub is_record : IsRecord member.payload entry
  pub many : length entry ≡ suc (length index.columns)
  pub rowid : ℤ
  pub last : last_value (order_of index) entry ≡ Int rowid

-- an entry of the same tree does not stand before this one
abbrev pub NotBefore : ℕ → Index → List Value → Found → Type 0
NotBefore root index entry (InTree subject (Holds page member)) = (subject.root ≡ root) × ((other : List Value) × IsEntry index member other × ¬ IsBefore index other entry)
NotBefore root index entry _ = ⊥

-- a member of a tree is wrong by what the tree holds
abbrev pub IsWrongMember : List Found → Subject → Content → ℕ → Member → FileFault → Type 0
IsWrongMember before subject Rows page member fault = (¬ IsReadable member) × (fault ≡ Damaged page broken.Record)
IsWrongMember before subject (Entries index rows) page member fault =
    (((entry : List Value) → ¬ IsEntry index member entry) × (fault ≡ Damaged page broken.Record))
    ⊎ ((entry : List Value) × IsEntry index member entry × Any (NotBefore subject.root index entry) before × (fault ≡ KeyOrder page))
IsWrongMember before subject Anything page member fault = ⊥

abbrev pub IsWrongInTree : List Found → Subject → Finding → FileFault → Type 0
IsWrongInTree before subject (Finds page) fault = IsTrue (is_found page before) × (fault ≡ PageTwice page)
IsWrongInTree before subject (Ends page depth) fault = IsTrue (list_any (ends_elsewhere subject.root depth) before) × (fault ≡ Damaged page broken.Depth)
IsWrongInTree before subject (Holds page member) fault = IsWrongMember before subject subject.content page member fault
IsWrongInTree before subject (Breaks page rule) fault = fault ≡ Damaged page rule
IsWrongInTree before subject (Disorders page) fault = fault ≡ KeyOrder page
IsWrongInTree before subject (Bares page) fault = fault ≡ Damaged page broken.Empty

-- an entry stands on one side only, or is the second of two that clash in a unique index
abbrev pub Disagrees : Index → List TableRow → List (List Value) → List Value → Type 0
Disagrees index rows entries entry =
    (Contains entries entry × ¬ Contains (map (entry_of index) rows) entry)
    ⊎ ((¬ Contains entries entry) × Contains (map (entry_of index) rows) entry)
    ⊎ (IsTrue index.unique × Contains entries entry × ((other : List Value) × Contains entries other × IsBefore index other entry × Clash index other entry))

-- the first entry in the order of the index that disagrees has this rowid
pub record FirstDisagrees (index : Index) (rows : List TableRow) (members : List Member) (rowid : ℤ) : Type 0 where
  pub entries : List (List Value)
  pub decoded : AllZip (λ member entry. IsRecord member.payload entry) members entries
  pub entry : List Value
  pub disagrees : Disagrees index rows entries entry
  pub rowid_is : last_value (order_of index) entry ≡ Int rowid
  pub first : (other : List Value) → Disagrees index rows entries other → ¬ IsBefore index other entry

-- what is found is wrong after all that was found before it
abbrev pub IsWrong : List Found → Found → FileFault → Type 0
IsWrong before (InTree subject finding) fault = IsWrongInTree before subject finding fault
IsWrong before (Frees page) fault = IsTrue (is_found page before) × (fault ≡ PageTwice page)
IsWrong before (Tears page) fault = fault ≡ Damaged page broken.Trunk
IsWrong before (Counts pages) fault = (length (filter_map free_page before) ≢ pages) × (fault ≡ Damaged 1 broken.Count)
IsWrong before (Needs page) fault = IsFalse (is_found page before) × (fault ≡ PageLost page)
IsWrong before (Compares index rows members) fault = (rowid : ℤ) × FirstDisagrees index rows members rowid × (fault ≡ IndexDisagrees index.name rowid)

-- the first thing that is wrong behind what was found before
abbrev pub FirstWrong : List Found → List Found → FileFault → Type 0
FirstWrong before [] fault = ⊥
FirstWrong before (one ∷ found) fault = IsWrong before one fault ⊎ (((other : FileFault) → ¬ IsWrong before one other) × FirstWrong (before ++ one ∷ []) found fault)

-- The first fault of a file that has a catalog.
abbrev pub CheckFinds : Sizes → Paged → Catalog → FileFault → Type 0
CheckFinds sizes base catalog fault = (found : List Found) × AreFound sizes base catalog found × FirstWrong [] found fault

-- The first fault of a file: that it has no catalog, or else what a check finds.
abbrev pub FileHasFault : Sizes → Paged → FileFault → Type 0
FileHasFault sizes base fault = CatalogHasFault sizes base fault ⊎ ((catalog : Catalog) × HasCatalog sizes base catalog × CheckFinds sizes base catalog fault)
