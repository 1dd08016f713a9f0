-- Children of an interior page by their places, and cells by theirs.
use Rattle.std.specs.Prelude.{◌≡◌, ℕ, ℤ, zero, suc, ◌≤◌, ◌<ℤ◌, ◌≤ℤ◌, List, [], ◌∷◌, ◌++◌, length, map, AllPairs}
use Rattle.std.specs.List.{AllByRecursion}
use Rattle.format_spec.specs.declared.CellView.{CellView}
use Rattle.tree_spec.specs.declared.TreeKind.{TreeKind}
use Rattle.tree_spec.specs.declared.TreeKind.TheVariants.{Table, Index}
use Rattle.tree_spec.specs.Trees.{TreeCell, TreeOf, Member}

-- what these cells say
abbrev pub views_of : List TreeCell → List CellView
views_of cells = map (λ cell. cell.view) cells

-- the child at a place: past the cells it is the last
abbrev pub child_at : {Child : Type 0} → ℕ → List (Child × TreeCell) → Child → Child
child_at i [] last = last
child_at zero (child ∷ children) last = child.0
child_at (suc i) (child ∷ children) last = child_at i children last

-- the children where the one at a place has become several: new siblings, and behind them what is left of it
abbrev pub children_with : {Child : Type 0} → ℕ → List (Child × TreeCell) → List (Child × TreeCell) → Child → List (Child × TreeCell)
children_with i [] siblings home = siblings
children_with zero (child ∷ children) siblings home = siblings ++ (home, child.1) ∷ children
children_with (suc i) (child ∷ children) siblings home = child ∷ children_with i children siblings home

-- and the last child then
abbrev pub last_with : {Child : Type 0} → ℕ → List (Child × TreeCell) → Child → Child → Child
last_with i [] last home = home
last_with zero (child ∷ children) last home = last
last_with (suc i) (child ∷ children) last home = last_with i children last home

-- an interior page's tree where its child at a place has become several
abbrev pub interior_with : (levels : ℕ) → TreeOf (suc levels) → ℕ → List (TreeOf levels × TreeCell) → TreeOf levels → TreeOf (suc levels)
interior_with levels tree i siblings home =
    record { page = tree.page; children = children_with i tree.children siblings home; last = last_with i tree.children tree.last home }

-- the place where a rowid belongs: that of the first cell whose rowid is not below it
abbrev pub Belongs : ℤ → ℕ → List CellView → Type 0
Belongs rowid i [] = i ≡ 0
Belongs rowid zero (view ∷ views) = rowid ≤ℤ view.rowid
Belongs rowid (suc i) (view ∷ views) = (view.rowid <ℤ rowid) × Belongs rowid i views

-- the cell at a place has this rowid
abbrev pub Meets : ℤ → ℕ → List CellView → Type 0
Meets rowid i [] = ⊥
Meets rowid zero (view ∷ views) = view.rowid ≡ rowid
Meets rowid (suc i) (view ∷ views) = Meets rowid i views

-- the rowids of a list strictly rise
abbrev pub Rises : List Member → Type 0
Rises members = AllPairs (λ (a b : Member). a.rowid <ℤ b.rowid) members

-- which members a put replaces: in a table the one of its rowid, in an index none
abbrev pub IsReplaced : TreeKind → Member → Member → Type 0
IsReplaced Table put member = member.rowid ≡ put.rowid
IsReplaced Index put member = ⊥

-- a list with a member put in, in place of one that it replaces if there is one
pub record PutIn (kind : TreeKind) (put : Member) (old new : List Member) : Type 0 where
  pub front : List Member
  pub replaced : List Member
  pub back : List Member
  pub old_is : old ≡ front ++ (replaced ++ back)
  pub new_is : new ≡ front ++ (put ∷ back)
  pub same : AllByRecursion (IsReplaced kind put) replaced
  pub few : length replaced ≤ 1
