-- What a comparison of an index with its table answers, and what is known of it while the entries of the index are found.
use Rattle.std.specs.Prelude.{◌≡◌, ℕ, ℤ, Bool, false, IsTrue, List, [], ◌∷◌, ◌++◌, length, take, AllPairs, Option, Some, None}
use Rattle.std.specs.List.{AllZip, list_any}
use Rattle.std.specs.declared.cmp.Ordering.TheVariants.{Less, Equal}
use Rattle.rbu_value.specs.declared.order.Collation.{Collation}
use Rattle.rbu_value.specs.declared.value.Value.{Value}
use Rattle.rbu_value.specs.declared.value.Value.TheVariants.{Int}
use Rattle.schema_spec.specs.declared.schema.Index.{Index}
use Rattle.tree_spec.specs.Trees.{Member}
use Rattle.database_spec.specs.Rows.{TableRow}
use Rattle.database_spec.specs.Keys.{IsBefore, IsIndexOf, IsProjection, Clash, columns_cmp, entry_cmp, is_null, last_value, order_of}
use Rattle.database_spec.specs.ListsLaws.{PairsByRecursion}
use Rattle.database_spec.specs.FileFaults.{IsEntry, FirstDisagrees}
use Rattle.db_check.specs.declared.walk.CheckedTree.{CheckedTree}
use Rattle.db_check.specs.declared.walk.Comparison.{Comparison}

-- members of an index's tree with their entries, which are in order
abbrev pub AreMembersOf : Index → List Member → List (List Value) → Type 0
AreMembersOf index members entries = AllZip (IsEntry index) members entries × AllPairs (IsBefore index) entries

-- the rowid of the lesser of two entries
abbrev pub FirstOf : List (Collation × Bool) → List Value → List Value → ℤ → Type 0
FirstOf columns a b rowid =
    (entry_cmp columns b a ≡ Less → (z : ℤ) → last_value columns b ≡ Int z → rowid ≡ z)
    × (¬ (entry_cmp columns b a ≡ Less) → (z : ℤ) → last_value columns a ≡ Int z → rowid ≡ z)

-- two entries agree in these columns, and no NULL is among these
abbrev pub ClashIn : List (Collation × Bool) → List Value → List Value → Type 0
ClashIn columns a b = (columns_cmp columns a b ≡ Equal) × (list_any is_null (take (length columns) a) ≡ false) × (list_any is_null (take (length columns) b) ≡ false)

-- an entry clashes with the one before it, if there is one
abbrev pub ClashesWith : List (Collation × Bool) → Option (List Value) → List Value → Type 0
ClashesWith columns None entry = ⊥
ClashesWith columns (Some last) entry = ClashIn columns last entry

-- the first entry that disagrees has this rowid; or the members are the projection
abbrev pub Tells : Index → List TableRow → List Member → Option ℤ → Type 0
Tells index rows members (Some rowid) = FirstDisagrees index rows members rowid
Tells index rows members None = IsIndexOf index rows members

-- entries begin those of the rows, and of a unique index no two of them clash
pub record Agree (index : Index) (entries expected : List (List Value)) : Type 0 where
  pub rest : List (List Value)
  pub whole : expected ≡ entries ++ rest
  pub apart : IsTrue index.unique → PairsByRecursion (λ (a b : List Value). ¬ Clash index a b) entries

-- what is told of an index by its first entries: the first of all that disagrees, or that these agree, and how many they are
abbrev pub TellsBy : Index → List TableRow → List Member → List (List Value) → List (List Value) → ℕ → Option ℤ → Type 0
TellsBy index rows members entries expected agreed (Some rowid) = FirstDisagrees index rows members rowid
TellsBy index rows members entries expected agreed None = (agreed ≡ length entries) × Agree index entries expected

-- this is told of a tree by its first entries, whatever follows them
abbrev pub TellsOfFirst : CheckedTree → List (List Value) → ℕ → Option ℤ → Type 0
TellsOfFirst tree entries agreed told =
    (index : Index) (rows : List TableRow) (members : List Member) (later : List (List Value)) → order_of index ≡ tree.columns → index.unique ≡ tree.unique
    → AreMembersOf index members (entries ++ later) → IsProjection index rows tree.expected.now → TellsBy index rows members entries tree.expected.now agreed told

-- the last of the entries that were found, if there is one
abbrev pub IsLast : Option (List Value) → List (List Value) → Type 0
IsLast None entries = entries ≡ []
IsLast (Some last) entries = (front : List (List Value)) × (entries ≡ front ++ last ∷ [])

-- where a comparison stands once these entries of a tree were found
pub record IsComparison (tree : CheckedTree) (entries : List (List Value)) (compared : Comparison) : Type 0 where
  pub last : IsLast compared.last entries
  pub tells : TellsOfFirst tree entries compared.agreed compared.told
