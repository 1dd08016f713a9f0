-- The places of a cursor in a standing tree.
use Rattle.std.proofs.Common.{◌≡◌, ℕ, ℤ, suc, ◌<◌, ◌≤◌, ◌⊎◌, List, length, map, slice_get, Option, None, sym, ap, ap₂, ◌∙◌, subst, inl, inr, arith}
use Rattle.std.proofs.Math.Path.{subst⁻¹}
use Rattle.std.proofs.lemmas.List.{length-map}
use Rattle.format_spec.specs.declared.CellView.{CellView}
use Rattle.page_spec.specs.Pages.{IsInRange}
use Rattle.page_layout.specs.Views.{IsRefused}
use Rattle.refusal.specs.declared.Rule.{Rule}
use Rattle.refusal.specs.declared.Rule.TheVariants as broken
use Rattle.tree_spec.specs.declared.TreeKind.{TreeKind}
use Rattle.tree_spec.specs.declared.TreeKind.TheVariants.{Table, Index}
use Rattle.tree_spec.specs.Trees.{TreeCell, TreeOf, Rooted, kind_at, page_of, own_cells, own_right, IsFull, IsFullBelow}
use Rattle.tree_spec.specs.Bounds.{IsOrdered, greatest_rowid}
use Rattle.tree_spec.specs.Standing.{Sizes, Paged, Stands, IsRoot}
use Rattle.tree_walk.specs.declared.page.TreePage.{TreePage}
use Rattle.tree_walk.specs.declared.place.Place.{Place}
use Rattle.tree_walk.specs.Pages.{IsDecoded, tree_kind}
use Rattle.tree_walk.specs.Places.{Rises, child_or, rowid_or, low_in, child_at, low_at, high_at, IsBadStep, IsOutOfPlace, IsBadRoot, IsEntered, IsNoRoot, IsChild}
use Rattle.tree_walk.proofs.TreeFacts.{IsWithin, child_tree, tree_kind-at, not-refused, read-kind, read-tree_kind, read-views, read-right, tree-rises, child-page, child-stands, child-full, child-within}

-- the place is in the own page of a standing tree
pub record IsPlace (sizes : Sizes) (base : Paged) (kind : TreeKind) (levels : ℕ) (tree : TreeOf levels) (place : Place) : Type 0 where
  pub number_is : place.page.number ≡ page_of levels tree
  pub kind_is : place.page.kind ≡ kind_at kind levels
  pub bytes_are : place.page.bytes ≡ base.pages (page_of levels tree)
  pub views_are : place.page.views ≡ map (λ cell. cell.view) (own_cells levels tree)
  pub right_is : place.page.right ≡ own_right levels tree
  pub stands : Stands sizes base kind levels tree
  pub full : IsFullBelow levels tree
  pub within : IsWithin kind levels place.low place.high tree

-- a page that is read of a standing tree is in its place
module _ (sizes : Sizes) (base : Paged) (kind : TreeKind) (levels : ℕ) (tree : TreeOf levels) (stands : Stands sizes base kind levels tree) (full : IsFullBelow levels tree)
    (low : Option ℤ) (high : ℤ) (within : IsWithin kind levels low high tree) where
  in_order : (read : TreePage) → IsDecoded (base.pages (page_of levels tree)) (page_of levels tree) sizes.usable read → Rises (tree_kind read.kind) low high read.views
  in_order read decoded =
      subst⁻¹ (λ (k : TreeKind). Rises k low high read.views) (read-tree_kind sizes base kind levels tree stands read decoded)
      (subst⁻¹ (λ (v : List CellView). Rises kind low high v) (read-views sizes base kind levels tree stands read decoded) (tree-rises kind levels low high tree full within))

  not-out : (some : 0 < length (own_cells levels tree)) (read : TreePage) (r : Rule) → IsDecoded (base.pages (page_of levels tree)) (page_of levels tree) sizes.usable read
      → IsOutOfPlace kind low high read r → ⊥
  not-out some read broken.Kind decoded out = out (read-tree_kind sizes base kind levels tree stands read decoded)
  not-out some read broken.Empty decoded out =
      omega (arith, some, ap length (sym (read-views sizes base kind levels tree stands read decoded) ∙ out.1), length-map (own_cells levels tree) (λ (c : TreeCell). c.view))
  not-out some read broken.Cells decoded out = out.2 (in_order read decoded)
  not-out some read broken.Child decoded out = out
  not-out some read broken.Depth decoded out = out
  not-out some read broken.Chain decoded out = out
  not-out some read broken.Trunk decoded out = out
  not-out some read broken.Count decoded out = out
  not-out some read broken.Record decoded out = out

  -- the place of a page that was read
  pub place-read : (place : Place) → IsDecoded (base.pages (page_of levels tree)) (page_of levels tree) sizes.usable place.page → place.low ≡ low → place.high ≡ high
      → IsPlace sizes base kind levels tree place
  place-read place decoded low_is high_is = record {
    number_is = decoded.number_is;
    kind_is = read-kind sizes base kind levels tree stands place.page decoded;
    bytes_are = decoded.bytes_are;
    views_are = read-views sizes base kind levels tree stands place.page decoded;
    right_is = read-right sizes base kind levels tree stands place.page decoded;
    stands = stands;
    full = full;
    within = subst⁻¹ (λ (l : Option ℤ). IsWithin kind levels l place.high tree) low_is (subst⁻¹ (λ (h : ℤ). IsWithin kind levels low h tree) high_is within);
  }

-- how many views the place of a tree has
pub place-views : (sizes : Sizes) (base : Paged) (kind : TreeKind) (levels : ℕ) (tree : TreeOf levels) (place : Place) → IsPlace sizes base kind levels tree place
    → length place.page.views ≡ length (own_cells levels tree)
place-views sizes base kind levels tree place is = ap length is.views_are ∙ length-map (own_cells levels tree) (λ (c : TreeCell). c.view)

pub interior-views : (sizes : Sizes) (base : Paged) (kind : TreeKind) (levels : ℕ) (tree : TreeOf (suc levels)) (place : Place) → IsPlace sizes base kind (suc levels) tree place
    → length place.page.views ≡ length tree.children
interior-views sizes base kind levels tree place is =
    place-views sizes base kind (suc levels) tree place is ∙ length-map tree.children (λ (c : TreeOf levels × TreeCell). c.1)

-- The child of a place in a standing tree.
module _ (sizes : Sizes) (base : Paged) (kind : TreeKind) (levels : ℕ) (tree : TreeOf (suc levels)) (parent : Place) (is : IsPlace sizes base kind (suc levels) tree parent)
    (low_at_is : parent.at ≤ length parent.page.views) where
  abbrev the_child : TreeOf levels
  the_child = child_tree tree.children tree.last parent.at

  number_is : child_at parent ≡ page_of levels the_child
  number_is =
      ap₂ (λ (r : ℕ) (v : List CellView). child_or r (slice_get v parent.at)) is.right_is is.views_are
      ∙ child-page sizes base kind levels tree.children tree.last parent.at is.stands.1.0

  its_stand : IsInRange sizes.size base.count (page_of levels the_child) × Stands sizes base kind levels the_child
  its_stand = child-stands sizes base kind levels tree.children tree.last parent.at is.stands.1.0 is.stands.1.1

  its_full : IsFull levels the_child
  its_full = child-full levels tree.children tree.last parent.at is.full.0 is.full.1

  its_within : IsWithin kind levels (low_at parent) (high_at parent) the_child
  its_within =
      subst⁻¹ (λ (v : List CellView). IsWithin kind levels (low_in parent.low v parent.at) (rowid_or parent.high (slice_get v parent.at)) the_child) is.views_are
      (child-within kind levels tree parent.low parent.high parent.at (omega (arith, low_at_is, interior-views sizes base kind levels tree parent is)) is.within)

  pub child-in_range : IsInRange sizes.size base.count (child_at parent)
  child-in_range = subst⁻¹ (IsInRange sizes.size base.count) number_is its_stand.0

  decoded_there : (read : TreePage) → IsDecoded (base.pages (child_at parent)) (child_at parent) sizes.usable read → IsDecoded (base.pages (page_of levels the_child)) (page_of levels the_child) sizes.usable read
  decoded_there read decoded = subst (λ (n : ℕ). IsDecoded (base.pages n) n sizes.usable read) number_is decoded

  -- it is not refused
  pub child-not_refused : (r : Rule) → IsRefused (base.pages (child_at parent)) (child_at parent) sizes.usable r
      ⊎ ((read : TreePage) × IsDecoded (base.pages (child_at parent)) (child_at parent) sizes.usable read
      × IsOutOfPlace (tree_kind parent.page.kind) (low_at parent) (high_at parent) read r) → ⊥
  child-not_refused r (inl refused) = not-refused sizes base kind levels the_child its_stand.1 r (subst (λ (n : ℕ). IsRefused (base.pages n) n sizes.usable r) number_is refused)
  child-not_refused r (inr bad) =
      let parent_kind : tree_kind parent.page.kind ≡ kind = ap tree_kind is.kind_is ∙ tree_kind-at kind (suc levels) in
      not-out sizes base kind levels the_child its_stand.1 its_full.1 (low_at parent) (high_at parent) its_within its_full.0 bad.0 r (decoded_there bad.0 bad.1)
      (subst (λ (k : TreeKind). IsOutOfPlace k (low_at parent) (high_at parent) bad.0 r) parent_kind bad.2)

  -- and its place is one of the tree
  pub child-place : (child : Place) → IsChild base.pages sizes.usable parent child → IsPlace sizes base kind levels the_child child
  child-place child entered =
      place-read sizes base kind levels the_child its_stand.1 its_full.1 (low_at parent) (high_at parent) its_within child
      (decoded_there child.page entered.entered.decoded) entered.entered.low_is entered.entered.high_is

  -- no step down to it is refused
  pub step-not_refused : (above : ℕ) → above < 24 → (page : ℕ) (r : Rule) → IsBadStep base.pages sizes.size sizes.usable base.count parent above page r → ⊥
  step-not_refused above few page r (inl number) = number.2 child-in_range
  step-not_refused above few page r (inr (inl many)) = omega (arith, few, many.3)
  step-not_refused above few page r (inr (inr refused)) = child-not_refused r refused.2.1

-- another cell or child of the page
pub moved-place : (sizes : Sizes) (base : Paged) (kind : TreeKind) (levels : ℕ) (tree : TreeOf levels) (place : Place) (at : ℕ) → IsPlace sizes base kind levels tree place
    → IsPlace sizes base kind levels tree (record { page = place.page; low = place.low; high = place.high; at = at })
moved-place sizes base kind levels tree place at is = record {
  number_is = is.number_is;
  kind_is = is.kind_is;
  bytes_are = is.bytes_are;
  views_are = is.views_are;
  right_is = is.right_is;
  stands = is.stands;
  full = is.full;
  within = is.within;
}

-- The root.

pub root_within : (kind : TreeKind) (levels : ℕ) (tree : TreeOf levels) → IsOrdered kind levels tree → IsWithin kind levels None greatest_rowid tree
root_within Table levels tree ordered = ordered
root_within Index levels tree ordered = tt

module _ (sizes : Sizes) (base : Paged) (rooted : Rooted) (is : IsRoot sizes base rooted) where
  abbrev pub root_within_is : IsWithin rooted.kind rooted.levels None greatest_rowid rooted.tree
  root_within_is = root_within rooted.kind rooted.levels rooted.tree is.ordered

  root_in_order : (read : TreePage) → IsDecoded (base.pages (page_of rooted.levels rooted.tree)) (page_of rooted.levels rooted.tree) sizes.usable read → Rises (tree_kind read.kind) None greatest_rowid read.views
  root_in_order = in_order sizes base rooted.kind rooted.levels rooted.tree is.stands is.full.below None greatest_rowid root_within_is

  root-not_out : (read : TreePage) (r : Rule) → IsDecoded (base.pages (page_of rooted.levels rooted.tree)) (page_of rooted.levels rooted.tree) sizes.usable read → IsNoRoot rooted.kind read r → ⊥
  root-not_out read broken.Kind decoded wrong = wrong (read-tree_kind sizes base rooted.kind rooted.levels rooted.tree is.stands read decoded)
  root-not_out read broken.Cells decoded wrong = wrong.1 (root_in_order read decoded)
  root-not_out read broken.Empty decoded wrong = wrong
  root-not_out read broken.Child decoded wrong = wrong
  root-not_out read broken.Depth decoded wrong = wrong
  root-not_out read broken.Chain decoded wrong = wrong
  root-not_out read broken.Trunk decoded wrong = wrong
  root-not_out read broken.Count decoded wrong = wrong
  root-not_out read broken.Record decoded wrong = wrong

  pub root-not_refused : (page : ℕ) (r : Rule) → IsBadRoot (base.pages (page_of rooted.levels rooted.tree)) (page_of rooted.levels rooted.tree) sizes.usable rooted.kind page r → ⊥
  root-not_refused page r bad = elim bad.1 [
    | inl refused ↦ not-refused sizes base rooted.kind rooted.levels rooted.tree is.stands r refused
    | inr wrong ↦ root-not_out wrong.0 r wrong.1 wrong.2
  ]

  -- the place of a root
  pub root-place : (place : Place) → IsEntered (base.pages (page_of rooted.levels rooted.tree)) (page_of rooted.levels rooted.tree) sizes.usable None greatest_rowid place
      → IsPlace sizes base rooted.kind rooted.levels rooted.tree place
  root-place place entered =
      place-read sizes base rooted.kind rooted.levels rooted.tree is.stands is.full.below None greatest_rowid root_within_is place entered.decoded entered.low_is entered.high_is
