-- An entry put into the tree of an index, between the members before its place and those behind it.
use Rattle.std.specs.Prelude.{◌≡◌, ℕ, zero, suc, List, [], ◌∷◌, ◌++◌}
use Rattle.tree_spec.specs.declared.TreeKind.TheVariants.{Index}
use Rattle.tree_spec.specs.Trees.{Member, TreeCell, TreeOf, member, between, list_of, list_in, list_beside}
use Rattle.tree_spec.specs.Standing.{Sizes, Paged}
use Rattle.put_spec.specs.Puts.{Before}
use Rattle.put_spec.specs.Steps.{Spelled, PutDone, RootDone}

module _ (sizes : Sizes) where
  -- the put of an entry below a page is done, and it stands between these members
  pub record EntryDone (levels : ℕ) (before : Before levels) (new : Paged) (dividers : List Spelled) (front back : List Member) : Type 0 where
    pub done : PutDone sizes Index levels before new dividers 0 0
    pub list : list_beside Index levels done.siblings done.home ≡ front ++ member before.cell ∷ back

  -- so in the tree of a root
  pub record EntryRooted (levels : ℕ) (before : Before levels) (new : Paged) (front back : List Member) : Type 0 where
    pub done : RootDone sizes Index levels before new 0 0
    pub list : list_in done.rooted ≡ front ++ member before.cell ∷ back

-- the members of an interior page before a child, and those behind it
abbrev pub members_before : (levels at : ℕ) → List (TreeOf levels × TreeCell) → List Member
members_before levels at [] = []
members_before levels zero (child ∷ children) = []
members_before levels (suc at) (child ∷ children) = (list_of Index levels child.0 ++ between Index child.1) ++ members_before levels at children

abbrev pub members_behind : (levels at : ℕ) → List (TreeOf levels × TreeCell) → TreeOf levels → List Member
members_behind levels at [] last = []
members_behind levels zero (child ∷ children) last = between Index child.1 ++ list_beside Index levels children last
members_behind levels (suc at) (child ∷ children) last = members_behind levels at children last
