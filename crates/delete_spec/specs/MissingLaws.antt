-- A row that a writer does not find is not there: crates above cite these facts in their proofs.
use Rattle.std.proofs.Common.{◌≡◌, ◌≢◌, ℕ, ℤ, zero, suc, ◌<ℤ◌, ◌≤ℤ◌, List, [], ◌∷◌, map, refl, sym, ap, ◌∙◌, subst, arith}
use Rattle.std.proofs.Math.Path.{subst⁻¹}
use Rattle.std.specs.List.{Contains}
use Rattle.std.proofs.lemmas.Int.{ints}
use Rattle.std.proofs.lemmas.List.Elements.{All-contains, All-from_recursion}
use Rattle.format_spec.specs.declared.PageKind.TheVariants.{TableInterior, TableLeaf}
use Rattle.format_spec.specs.declared.CellView.{CellView}
use Rattle.page_spec.specs.Freelists.{Trunk}
use Rattle.tree_spec.specs.declared.TreeKind.{TreeKind}
use Rattle.tree_spec.specs.declared.TreeKind.TheVariants.{Table}
use Rattle.tree_spec.specs.Trees.{TreeCell, TreeOf, Rooted, Member, cells_behind, page_of, member, list_of, list_in, list_beside, root_of}
use Rattle.tree_spec.specs.Bounds.{RisesIn, BesideIn, InOrder, IsOrdered, below_rowids, greatest_rowid}
use Rattle.tree_spec.specs.BoundsLaws.{rowids, rises-bounds, InOrder-rises}
use Rattle.tree_spec.specs.Standing.{Sizes, Paged, Stands}
use Rattle.tree_spec.specs.Worlds.{IsWorld, with_tree}
use Rattle.tree_spec.specs.WorldsLaws.{all-join, world-root}
use Rattle.put_spec.specs.Children.{Belongs, Meets, views_of, child_at}
use Rattle.put_spec.specs.ChildrenLaws.{child-stands, list-join}
use Rattle.put_spec.specs.Steps.{Spelled, spelled, views_in, HasCells, child_page}
use Rattle.put_spec.specs.SpelledLaws.{page-tells}
use Rattle.delete_spec.specs.Steps.{HasNone, MissingBelow, MissingUnder}
use Rattle.delete_spec.specs.StepsLaws.{child-page}

views-spelled : (cells : List TreeCell) → views_in (map spelled cells) ≡ views_of cells
views-spelled [] = refl
views-spelled (cell ∷ cells) = ap (λ (l : List CellView). cell.view ∷ l) (views-spelled cells)

module _ (rowid : ℤ) where
  -- members whose rowids lie above
  above-missing : (low high : ℤ) (members : List Member) → rowid ≤ℤ low → RisesIn low high (rowids members) → HasNone rowid members
  above-missing low high [] under rises = tt
  above-missing low high (m ∷ ms) under rises = (λ e. let less = rises.0 in omega (arith, ints), above-missing m.rowid high ms (let less = rises.0 in omega (arith, ints)) rises.1)

  -- members whose rowids lie below
  below-missing : (low high : ℤ) (members : List Member) → high <ℤ rowid → RisesIn low high (rowids members) → HasNone rowid members
  below-missing low high [] over rises = tt
  below-missing low high (m ∷ ms) over rises = (λ e. let most = rises-bounds m.rowid high (rowids ms) rises.1 in omega (arith, ints), below-missing m.rowid high ms over rises.1)

  cells-missing : (i : ℕ) (low high : ℤ) (cells : List TreeCell) → Belongs rowid i (views_of cells) → ¬ Meets rowid i (views_of cells) → RisesIn low high (map (λ (c : TreeCell). c.view.rowid) cells)
      → HasNone rowid (map member cells)
  cells-missing i low high [] here new rises = tt
  cells-missing zero low high (cell ∷ cells) here new rises = (new, above-missing cell.view.rowid high (map member cells) here (InOrder-rises zero cell.view.rowid high (record { page = 0; cells = cells }) rises.1))
  cells-missing (suc i) low high (cell ∷ cells) here new rises = (λ e. let less = here.0 in omega (arith, ints), cells-missing i cell.view.rowid high cells here.1 new rises.1)

  beside-missing : (levels i : ℕ) (low high : ℤ) (children : List (TreeOf levels × TreeCell)) (last : TreeOf levels) → Belongs rowid i (views_of (cells_behind children)) → BesideIn (InOrder levels) low high children last
      → ((a b : ℤ) → InOrder levels a b (child_at i children last) → HasNone rowid (list_of Table levels (child_at i children last))) → HasNone rowid (list_beside Table levels children last)
  beside-missing levels i low high [] last here order none = none low high order
  beside-missing levels zero low high (child ∷ children) last here order none =
      let rest = InOrder-rises (suc levels) child.1.view.rowid high (record { page = 0; children = children; last = last }) order.1 in
      subst⁻¹ (HasNone rowid) (list-join Table levels [] children child.0 last child.1)
      (all-join (λ m. m.rowid ≢ rowid) (list_of Table levels child.0) (list_beside Table levels children last) (none low child.1.view.rowid order.0)
      (above-missing child.1.view.rowid high (list_beside Table levels children last) here rest))
  beside-missing levels (suc i) low high (child ∷ children) last here order none =
      subst⁻¹ (HasNone rowid) (list-join Table levels [] children child.0 last child.1)
      (all-join (λ m. m.rowid ≢ rowid) (list_of Table levels child.0) (list_beside Table levels children last)
      (below-missing low child.1.view.rowid (list_of Table levels child.0) here.0 (InOrder-rises levels low child.1.view.rowid child.0 order.0))
      (beside-missing levels i child.1.view.rowid high children last here.1 order.1 none))

module _ (sizes : Sizes) (rowid : ℤ) where
  -- A leaf that has no cell of a rowid where that belongs.
  pub leaf-missing : (page : ℕ) (base : Paged) (cells : List Spelled) (right i : ℕ) → HasCells sizes base TableLeaf page cells right → Belongs rowid i (views_in cells) → ¬ Meets rowid i (views_in cells)
      → MissingBelow sizes zero page rowid base
  leaf-missing page base cells right i has here new tree low high is stands order =
      let told = page-tells sizes base Table zero page tree cells right is has stands in
      let views : views_in cells ≡ views_of tree.cells = ap views_in told.0 ∙ views-spelled tree.cells in
      cells-missing rowid i low high tree.cells (subst (Belongs rowid i) views here) (λ meets. new (subst⁻¹ (Meets rowid i) views meets)) order

  -- A page of which the child where a rowid belongs has no row of it.
  pub interior-missing : (levels page : ℕ) (base : Paged) (cells : List Spelled) (right i : ℕ) → HasCells sizes base TableInterior page cells right → Belongs rowid i (views_in cells)
      → MissingBelow sizes levels (child_page i cells right) rowid base → MissingBelow sizes (suc levels) page rowid base
  interior-missing levels page base cells right i has here below tree low high is stands order =
      let told = page-tells sizes base Table (suc levels) page tree cells right is has stands in
      let views : views_in cells ≡ views_of (cells_behind tree.children) = ap views_in told.0 ∙ views-spelled (cells_behind tree.children) in
      let child = child_at i tree.children tree.last in
      let named : page_of levels child ≡ child_page i cells right =
      child-page sizes base levels i tree.children tree.last stands.1.0
      ∙ sym (ap (λ (cs : List Spelled). child_page i cs right) told.0 ∙ ap (λ (r : ℕ). child_page i (map spelled (cells_behind tree.children)) r) told.1) in
      beside-missing rowid levels i low high tree.children tree.last (subst (Belongs rowid i) views here) order
      (λ a b inner. below child a b named (child-stands sizes Table base levels i tree.children tree.last stands.1.0 stands.1.1.1) inner)

  -- In a world, a table of which the root has no row of a rowid below it has none.
  pub missing-in-world : (front : List Rooted) (old : Rooted) (back : List Rooted) (base : Paged) (trunks : List Trunk) → old.kind ≡ Table → IsWorld sizes base (with_tree front old back trunks)
      → MissingUnder sizes (root_of old) rowid base → (m : Member) → Contains (list_in old) m → m.rowid ≢ rowid
  missing-in-world front old back base trunks table world missing m there =
      let root = world-root sizes base front old back trunks world in
      let none = missing old.levels old.tree below_rowids greatest_rowid refl (subst (λ (k : TreeKind). Stands sizes base k old.levels old.tree) table root.stands)
      (subst (λ (k : TreeKind). IsOrdered k old.levels old.tree) table root.ordered) in
      let members = list_of Table old.levels old.tree in
      All-contains (λ (x : Member). x.rowid ≢ rowid) members m (All-from_recursion (λ (x : Member). x.rowid ≢ rowid) members none) (subst (λ (k : TreeKind). Contains (list_of k old.levels old.tree) m) table there)
