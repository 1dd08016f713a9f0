-- What a search from page to page finds, and what a change of one leaf is for its table: crates above cite these facts in their proofs.
use Rattle.std.proofs.Common.{◌≡◌, ◌≢◌, ℕ, ℤ, zero, suc, ◌<◌, ◌≤◌, List, [], ◌∷◌, length, map, Option, Some, None, Result, Ok, Err, IfOk, IfSome, refl, sym, ap, ◌∙◌, inl, subst, arith}
use Rattle.std.proofs.Math.Path.{subst⁻¹}
use Rattle.std.proofs.lemmas.Int.{ints}
use Rattle.std.specs.List.{AllByRecursion, insert}
use Rattle.format_spec.specs.declared.PageKind.{PageKind}
use Rattle.format_spec.specs.declared.PageKind.TheVariants.{TableInterior, TableLeaf}
use Rattle.format_spec.specs.declared.CellView.{CellView}
use Rattle.format_spec.specs.Cell.{IsCell}
use Rattle.format_spec.specs.Page.{IsPage}
use Rattle.page_layout.specs.Views.{HasKind}
use Rattle.tree_spec.specs.declared.TreeKind.TheVariants.{Table}
use Rattle.tree_spec.specs.Bounds.{BesideIn, InOrder, RisesIn}
use Rattle.tree_spec.specs.BoundsLaws.{InOrder-rises, rises-bounds, rowids as member_rowids}
use Rattle.tree_spec.specs.Trees.{IsFull, IsFullBelow, Member, TreeCell, TreeOf, cells_behind, kind_at, list_of, own_cells, own_right, page_of}
use Rattle.tree_spec.specs.Standing.{HasBelow, IsHeld, Paged, Sizes, Stands, StandsBefore}
use Rattle.tree_spec.specs.Changes.{Writes}
use Rattle.put_spec.specs.Children.{Belongs, Meets, child_at, views_of}
use Rattle.put_spec.specs.ChildrenLaws.{all-child, child-stands}
use Rattle.put_spec.specs.ImagesLaws.{length-of, map-map}
use Rattle.put_spec.specs.LeavesLaws.{belongs-within}
use Rattle.put_spec.specs.Steps.{HasCells, IsLeafEdit, IsSettled, PutBelow, Spelled, bytes_in, child_page, spelled, views_in}
use Rattle.put_spec.specs.ParentsLaws.{child-page, interior-untouched}
use Rattle.put_spec.specs.StepsLaws.{insert-map, leaf-step}
use Rattle.delete_spec.specs.Steps.{DeleteAt, GrowsBelow}
use Rattle.delete_spec.specs.StepsLaws.{parent-stays, root-unwritten}
use Rattle.page_shape.specs.OwnCellsLaws.{own-are, own-has, own-kind, views-spelled}
use Rattle.page_shape.specs.Shapes.{AreCells}
use Rattle.table_leaf.specs.Searches.{Climbs, rowids_in}
use Rattle.table_leaf.specs.Leaves.{IsLeafOf, LeadsTo, Names, PlacesRow, PutsAlone}

-- what is said of something that a call answers goes on to what follows from it
pub if-ok_some : {T E : Type 0} {P Q : T → Type 0} (result : Result (Option T) E) → ((x : T) → P x → Q x) → IfOk result (λ o. IfSome o P) → IfOk result (λ o. IfSome o Q)
if-ok_some (Ok (Some x)) more holds = more x holds
if-ok_some (Ok None) more holds = tt
if-ok_some (Err e) more holds = tt

-- Their rowids do not fall.

rises-climb : (low high : ℤ) (cells : List TreeCell) → RisesIn low high (map (λ (c : TreeCell). c.view.rowid) cells) → Climbs low (rowids_in (map spelled cells))
rises-climb low high [] rises = tt
rises-climb low high (c ∷ cs) rises = (omega (arith, ints, rises.0), rises-climb c.view.rowid high cs rises.1)

beside-climb : (levels : ℕ) (low high : ℤ) (children : List (TreeOf levels × TreeCell)) (last : TreeOf levels) → BesideIn (InOrder levels) low high children last → Climbs low (rowids_in (map spelled (cells_behind children)))
beside-climb levels low high [] last order = tt
beside-climb levels low high (child ∷ children) last order =
    let rowid = child.1.view.rowid in
    (rises-bounds low rowid (member_rowids (list_of Table levels child.0)) (InOrder-rises levels low rowid child.0 order.0), beside-climb levels rowid high children last order.1)

pub own-climb : (levels : ℕ) (low high : ℤ) (tree : TreeOf levels) → InOrder levels low high tree → Climbs low (rowids_in (map spelled (own_cells levels tree)))
own-climb zero low high tree order = rises-climb low high tree.cells order
own-climb (suc levels) low high tree order = beside-climb levels low high tree.children tree.last order

-- From page to page.

-- a child of a tree in order is in order
pub record IsOrdered (levels : ℕ) (tree : TreeOf levels) : Type 0 where
  pub low : ℤ
  pub high : ℤ
  pub order : InOrder levels low high tree

child-order : (levels : ℕ) (low high : ℤ) (i : ℕ) (children : List (TreeOf levels × TreeCell)) (last : TreeOf levels) → BesideIn (InOrder levels) low high children last → IsOrdered levels (child_at i children last)
child-order levels low high i [] last order = record { low = low; high = high; order = order }
child-order levels low high zero (child ∷ children) last order = record { low = low; high = child.1.view.rowid; order = order.0 }
child-order levels low high (suc i) (child ∷ children) last order = child-order levels child.1.view.rowid high i children last order.1

module _ (sizes : Sizes) (base : Paged) (rowid : ℤ) (page : ℕ) (bytes : List ℕ) (there : bytes ≡ base.pages page) where
  -- a leaf is the leaf below itself
  pub leads-leaf : HasKind bytes page TableLeaf → LeadsTo sizes base rowid page page
  leads-leaf has zero tree low high is stands order = sym is
  leads-leaf has (suc levels) tree low high is stands order = absurd (let other : TableInterior ≡ TableLeaf = own-kind sizes Table base page bytes there (suc levels) tree TableLeaf is stands has in let no : ⊥ = cc in no)

  -- that of an interior page is that below the child which it names where the rowid belongs
  pub leads-down : (child leaf : ℕ) → HasKind bytes page TableInterior → Names bytes page sizes.usable TableInterior rowid child → LeadsTo sizes base rowid child leaf → LeadsTo sizes base rowid page leaf
  leads-down child leaf has names below zero tree low high is stands order = absurd (let other : TableLeaf ≡ TableInterior = own-kind sizes Table base page bytes there zero tree TableInterior is stands has in let no : ⊥ = cc in no)
  leads-down child leaf has names below (suc levels) tree low high is stands order =
      let named = names (map spelled (cells_behind tree.children)) (page_of levels tree.last) low (own-are sizes Table base page bytes there (suc levels) tree is stands) (own-climb (suc levels) low high tree order) in
      let at = named.0 in
      let inner = child-order levels low high at tree.children tree.last order in
      let page_is : page_of levels (child_at at tree.children tree.last) ≡ child = child-page sizes Table base levels at tree.children tree.last stands.1.0 ∙ sym named.2 in (
        at,
        subst (Belongs rowid at) (views-spelled (cells_behind tree.children)) named.1,
        below levels (child_at at tree.children tree.last) inner.low inner.high page_is (child-stands sizes Table base levels at tree.children tree.last stands.1.0 stands.1.1.1) inner.order,
      )

-- The leaf in which a rowid belongs stands, and is in order.
pub record HasLeaf (sizes : Sizes) (base : Paged) (leaf : ℕ) : Type 0 where
  pub tree : TreeOf zero
  pub page_is : page_of zero tree ≡ leaf
  pub stands : Stands sizes base Table zero tree
  pub ordered : IsOrdered zero tree

module _ (sizes : Sizes) (base : Paged) (rowid : ℤ) (leaf : ℕ) where
  pub leaf-stands : (levels : ℕ) (low high : ℤ) (tree : TreeOf levels) → IsLeafOf rowid levels tree leaf → Stands sizes base Table levels tree → InOrder levels low high tree → HasLeaf sizes base leaf
  leaf-stands zero low high tree is stands order = record { tree = tree; page_is = sym is; stands = stands; ordered = record { low = low; high = high; order = order } }
  leaf-stands (suc levels) low high tree is stands order =
      let inner = child-order levels low high is.0 tree.children tree.last order in
      leaf-stands levels inner.low inner.high (child_at is.0 tree.children tree.last) is.2 (child-stands sizes Table base levels is.0 tree.children tree.last stands.1.0 stands.1.1.1) inner.order

  -- A put into it alone is one into the table.
  pub put-lifted : (levels : ℕ) (tree : TreeOf levels) (cell : Spelled) (new : Paged) → cell.view.rowid ≡ rowid → IsLeafOf rowid levels tree leaf → Stands sizes base Table levels tree
      → PutBelow sizes Table zero leaf cell base new [] 0 0 → PutBelow sizes Table levels (page_of levels tree) cell base new [] 0 0
  put-lifted zero tree cell new same is stands put = subst (λ (p : ℕ). PutBelow sizes Table zero p cell base new [] 0 0) is put
  put-lifted (suc levels) tree cell new same is stands put =
      let at = is.0 in
      let child = child_at at tree.children tree.last in
      let cells = map spelled (cells_behind tree.children) in
      let below = put-lifted levels child cell new same is.2 (child-stands sizes Table base levels at tree.children tree.last stands.1.0 stands.1.1.1) put in
      let named : page_of levels child ≡ child_page at cells (page_of levels tree.last) = child-page sizes Table base levels at tree.children tree.last stands.1.0 in
      let here : Belongs cell.view.rowid at (views_in cells) = subst⁻¹ (λ (r : ℤ). Belongs r at (views_in cells)) same (subst⁻¹ (Belongs rowid at) (views-spelled (cells_behind tree.children)) is.1) in
      interior-untouched sizes Table levels tree.page cell base cells (page_of levels tree.last) at new 0 0 (own-has sizes Table base (suc levels) tree stands) (λ _. here)
      (subst (λ (p : ℕ). PutBelow sizes Table levels p cell base new [] 0 0) named below)

  -- A row was put into it.
  pub leaf-put : (cell : Spelled) (new : Paged) → cell.view.rowid ≡ rowid → HasLeaf sizes base leaf → PlacesRow leaf sizes.usable rowid cell.bytes (base.pages leaf) (new.pages leaf) → Writes leaf base new
      → PutBelow sizes Table zero leaf cell base new [] 0 0
  leaf-put cell new same has places writes =
      let tree = has.tree in
      let cells = map spelled tree.cells in
      let placed = places cells 0 has.ordered.low (own-are sizes Table base leaf (base.pages leaf) refl zero tree has.page_is has.stands) (own-climb zero has.ordered.low has.ordered.high tree has.ordered.order) in
      let at = placed.0 in
      let within : at ≤ length cells = omega (arith, belongs-within rowid at tree.cells (subst (Belongs rowid at) (views-spelled tree.cells) placed.1), length-of spelled tree.cells) in
      let here : Belongs cell.view.rowid at (views_in cells) = subst⁻¹ (λ (r : ℤ). Belongs r at (views_in cells)) same placed.1 in
      let there : HasCells sizes base TableLeaf leaf cells 0 = subst (λ (p : ℕ). HasCells sizes base TableLeaf p cells 0) has.page_is (own-has sizes Table base zero tree has.stands) in
      let edit : IsLeafEdit cells cell (insert cells at cell) 0 0 = record {
        place = at;
        here = here;
        is = inl ((λ meets. placed.2 (subst (λ (r : ℤ). Meets r at (views_in cells)) same meets)), refl, refl, refl);
      } in
      let written : IsPage (new.pages leaf) leaf sizes.usable TableLeaf (bytes_in (insert cells at cell)) 0 =
      subst (λ (l : List (List ℕ)). IsPage (new.pages leaf) leaf sizes.usable TableLeaf l 0) (insert-map (λ (c : Spelled). c.bytes) cells at cell within) placed.3 in
      let settled : IsSettled sizes zero Table leaf 0 (insert cells at cell) base new [] = (writes, written) in
      leaf-step sizes leaf cell base cells 0 (insert cells at cell) 0 0 new [] there edit settled

  pub puts-alone : (page : ℕ) (bytes : List ℕ) (new : Paged) → LeadsTo sizes base rowid page leaf → PlacesRow leaf sizes.usable rowid bytes (base.pages leaf) (new.pages leaf) → Writes leaf base new
      → PutsAlone sizes page rowid bytes base new
  puts-alone page bytes new leads places writes levels tree low high view is stands order is_cell same =
      let cell : Spelled = record { bytes = bytes; view = view } in
      let at = leads levels tree low high is stands order in
      subst (λ (p : ℕ). PutBelow sizes Table levels p cell base new [] 0 0) is
      (put-lifted levels tree cell new same at stands (leaf-put cell new same (leaf-stands levels low high tree at stands order) places writes))

  -- A delete from it alone, where it keeps a cell, is one from the table.
  pub grows-lifted : (gone : Member) (levels : ℕ) (tree : TreeOf levels) (new : Paged) (first bytes : ℕ) → IsLeafOf rowid levels tree leaf → Stands sizes base Table levels tree → IsFull levels tree
      → GrowsBelow sizes gone zero leaf base new [] first bytes → GrowsBelow sizes gone levels (page_of levels tree) base new [] first bytes
  grows-lifted gone zero tree new first bytes is stands full grows = subst (λ (p : ℕ). GrowsBelow sizes gone zero p base new [] first bytes) is grows
  grows-lifted gone (suc levels) tree new first bytes is stands full grows =
      let at = is.0 in
      let child = child_at at tree.children tree.last in
      let cells = map spelled (cells_behind tree.children) in
      let below = grows-lifted gone levels child new first bytes is.2 (child-stands sizes Table base levels at tree.children tree.last stands.1.0 stands.1.1.1)
      (all-child (IsFull levels) at tree.children tree.last full.1.0 full.1.1) grows in
      let named : page_of levels child ≡ child_page at cells (page_of levels tree.last) = child-page sizes Table base levels at tree.children tree.last stands.1.0 in
      parent-stays sizes gone levels tree.page base cells (page_of levels tree.last) at new first bytes (own-has sizes Table base (suc levels) tree stands)
      (omega (arith, full.0, length-of spelled (cells_behind tree.children))) (subst (λ (p : ℕ). GrowsBelow sizes gone levels p base new [] first bytes) named below)

  -- so from the table of a root that is no leaf
  pub deletes-alone : (gone : Member) (levels : ℕ) (tree : TreeOf (suc levels)) (new : Paged) (first bytes : ℕ) → IsLeafOf rowid (suc levels) tree leaf → Stands sizes base Table (suc levels) tree → IsFullBelow (suc levels) tree
      → (tree.page ≢ 1 → 0 < length (cells_behind tree.children)) → GrowsBelow sizes gone zero leaf base new [] first bytes → DeleteAt sizes gone (suc levels) tree.page base new first bytes
  deletes-alone gone levels tree new first bytes is stands full some grows =
      let at = is.0 in
      let child = child_at at tree.children tree.last in
      let cells = map spelled (cells_behind tree.children) in
      let below = grows-lifted gone levels child new first bytes is.2 (child-stands sizes Table base levels at tree.children tree.last stands.1.0 stands.1.1.1)
      (all-child (IsFull levels) at tree.children tree.last full.0 full.1) grows in
      let named : page_of levels child ≡ child_page at cells (page_of levels tree.last) = child-page sizes Table base levels at tree.children tree.last stands.1.0 in
      root-unwritten sizes gone levels tree.page base cells (page_of levels tree.last) at new first bytes (own-has sizes Table base (suc levels) tree stands)
      (λ other. omega (arith, some other, length-of spelled (cells_behind tree.children))) (subst (λ (p : ℕ). GrowsBelow sizes gone levels p base new [] first bytes) named below)
