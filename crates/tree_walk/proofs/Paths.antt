-- What the bounds on a cursor's path say of the rowids that it comes to.
use Rattle.std.proofs.Common.{◌≡◌, ℕ, ℤ, zero, suc, ◌+◌, ◌<◌, ◌≤◌, ◌<ℤ◌, ◌≤ℤ◌, Bool, true, false, IsTrue, List, [], ◌∷◌, ◌++◌, length, reverse, slice_get, Option, Some, Result, Ok, Err, OnOk, IfOk, ◌↔◌, refl, ap, ap₂, ◌∙◌, subst, inl, inr, arith}
use Rattle.std.proofs.Math.Path.{subst⁻¹}
use Rattle.std.proofs.lemmas.Int.{ints}
use Rattle.std.proofs.lemmas.Bool.{cases_lt}
use Rattle.std.proofs.lemmas.Option.{slice_get_past}
use Rattle.format_spec.specs.declared.PageKind.{PageKind}
use Rattle.format_spec.specs.declared.PageKind.TheVariants.{IndexInterior, TableInterior, IndexLeaf, TableLeaf}
use Rattle.format_spec.specs.declared.CellView.{CellView}
use Rattle.tree_spec.specs.declared.TreeKind.{TreeKind}
use Rattle.tree_spec.specs.declared.TreeKind.TheVariants.{Table, Index}
use Rattle.tree_spec.specs.Bounds.{RisesIn}
use Rattle.tree_spec.specs.BoundsLaws.{rises-bounds}
use Rattle.tree_walk.specs.declared.page.TreePage.{TreePage}
use Rattle.tree_walk.specs.declared.place.Place.{Place}
use Rattle.tree_walk.specs.declared.path.Cursor.{Cursor}
use Rattle.tree_walk.specs.Pages.{has_dividers, is_leaf, tree_kind}
use Rattle.tree_walk.specs.Places.{low_bound, rowids, Rises, rowid_or, low_in, low_at, high_at}
use Rattle.tree_walk.specs.Paths.{IsKept, IsUnder, IsPath, IsFirstUnder}
use Rattle.tree_walk.specs.Courses.{IsPast}
use Rattle.tree_walk.specs.Rising.{kind_of, rowid_at, KeepsLow, KeepsHigh, ComesUp, MovesUp}
use Rattle.tree_walk.proofs.TreeFacts.{low-next}
use Rattle.tree_walk.proofs.Lists.{reverse-more}

-- Views.

-- each rowid is above the one before it
pub cell_above : (low : Option ℤ) (high : ℤ) (views : List CellView) (at : ℕ) → RisesIn (low_bound low) high (rowids views) → at < length views
    → low_bound (low_in low views at) <ℤ rowid_or high (slice_get views at)
cell_above low high [] at rises less = absurd (omega arith)
cell_above low high (v ∷ views) zero rises less = rises.0
cell_above low high (v ∷ views) (suc at) rises less =
    subst (λ (b : Option ℤ). low_bound b <ℤ rowid_or high (slice_get views at)) (low-next low v views at (omega arith)) (cell_above (Some v.rowid) high views at rises.1 (omega arith))

-- and none is above the upper bound
pub cell_within : (low high : ℤ) (views : List CellView) (at : ℕ) → RisesIn low high (rowids views) → rowid_or high (slice_get views at) ≤ℤ high
cell_within low high [] at rises = subst⁻¹ (λ (v : Option CellView). rowid_or high v ≤ℤ high) (slice_get_past {X = CellView} [] at (omega arith)) (omega (arith, ints))
cell_within low high (v ∷ views) zero rises = rises-bounds v.rowid high (rowids views) rises.1
cell_within low high (v ∷ views) (suc at) rises = cell_within v.rowid high views at rises.1

-- behind a cell its rowid is the lower bound
pub low_behind : (low : Option ℤ) (high : ℤ) (views : List CellView) (at : ℕ) → at < length views → low_in low views (suc at) ≡ Some (rowid_or high (slice_get views at))
low_behind low high [] at less = absurd (omega arith)
low_behind low high (v ∷ views) zero less = refl
low_behind low high (v ∷ views) (suc at) less = low_behind low high views at (omega arith)

-- Places.

-- the same page at another cell
pub record IsMoved (old new : Place) : Type 0 where
  pub page_is : new.page ≡ old.page
  pub low_is : new.low ≡ old.low
  pub high_is : new.high ≡ old.high

pub kept-moved : (old new : Place) → IsMoved old new → IsKept old → IsKept new
kept-moved old new moved kept =
    subst⁻¹ (λ (l : Option ℤ). Rises (tree_kind new.page.kind) l new.high new.page.views) moved.low_is
    (subst⁻¹ (λ (h : ℤ). Rises (tree_kind new.page.kind) old.low h new.page.views) moved.high_is
    (subst⁻¹ (λ (p : TreePage). Rises (tree_kind p.kind) old.low old.high p.views) moved.page_is kept))

pub path-moved : (parents : List Place) (old new : Place) → IsMoved old new → IsPath parents old → IsPath parents new
path-moved [] old new moved kept = kept-moved old new moved kept
path-moved (parent ∷ parents) old new moved path =
    let under : IsUnder parent new = record {
      inner = path.1.0.inner;
      kind_is = ap (λ (p : TreePage). tree_kind p.kind) moved.page_is ∙ path.1.0.kind_is;
      low_is = moved.low_is ∙ path.1.0.low_is;
      high_is = moved.high_is ∙ path.1.0.high_is;
    } in
    (kept-moved old new moved path.0, (under, path.1.1))

pub path-kept : (parents : List Place) (place : Place) → IsPath parents place → IsKept place
path-kept [] place path = path
path-kept (parent ∷ parents) place path = path.0

-- a page that was entered below the last one of a path
pub path-down : (above deeper : List Place) (parent child : Place) → deeper ≡ above ++ parent ∷ [] → is_leaf parent.page.kind ≡ false → IsFirstUnder parent child → IsPath (reverse above) parent → IsPath (reverse deeper) child
path-down above deeper parent child is inner under path =
    subst⁻¹ (λ (places : List Place). IsPath places child) (ap reverse is ∙ reverse-more above parent)
    (under.kept, (record { inner = inner; kind_is = under.kind_is; low_is = under.low_is; high_is = under.high_is }, path))

-- the path without its last page
pub path-up : (above higher : List Place) (parent place : Place) → above ≡ higher ++ parent ∷ [] → IsPath (reverse above) place → IsUnder parent place × IsPath (reverse higher) parent
path-up above higher parent place is path =
    let whole : IsKept place × (IsUnder parent place × IsPath (reverse higher) parent) =
    subst (λ (places : List Place). IsPath places place) (ap reverse is ∙ reverse-more higher parent) path in
    whole.1

-- Rowids of a table.

pub table-rises : (place : Place) → tree_kind place.page.kind ≡ Table → IsKept place → RisesIn (low_bound place.low) place.high (rowids place.page.views)
table-rises place table kept = subst (λ (k : TreeKind). Rises k place.low place.high place.page.views) table kept

-- a cell is above the bound below it
pub above-low : (place : Place) → tree_kind place.page.kind ≡ Table → IsKept place → place.at < length place.page.views → low_bound (low_at place) <ℤ high_at place
above-low place table kept less = cell_above place.low place.high place.page.views place.at (table-rises place table kept) less

-- past the cells of a page the upper bound is left
pub past-high : (place : Place) → length place.page.views ≤ place.at → high_at place ≡ place.high
past-high place past = ap (rowid_or place.high) (slice_get_past place.page.views place.at past)

-- behind a cell
module _ (old new : Place) (moved : IsMoved old new) (at_is : new.at ≡ old.at + 1) (less : old.at < length old.page.views) where
  pub next-low : low_at new ≡ Some (high_at old)
  next-low =
      let place : new.at ≡ suc old.at = omega (arith, at_is) in
      ap₂ (λ (l : Option ℤ) (p : TreePage). low_in l p.views new.at) moved.low_is moved.page_is
      ∙ ap (low_in old.low old.page.views) place
      ∙ low_behind old.low old.high old.page.views old.at less

  -- the next cell is above it
  pub next-above : tree_kind old.page.kind ≡ Table → IsKept old → new.at < length new.page.views → high_at old <ℤ high_at new
  next-above table kept later =
      let kind = ap (λ (p : TreePage). tree_kind p.kind) moved.page_is ∙ table in
      let rises = above-low new kind (kept-moved old new moved kept) later in
      subst (λ (b : Option ℤ). low_bound b <ℤ high_at new) next-low rises

  -- and the bound is not below it
  pub next-within : tree_kind old.page.kind ≡ Table → IsKept old → length new.page.views ≤ new.at → high_at old ≤ℤ high_at new
  next-within table kept past =
      subst⁻¹ (λ (h : ℤ). high_at old ≤ℤ h) (past-high new past ∙ moved.high_is)
      (cell_within (low_bound old.low) old.high old.page.views old.at (table-rises old table kept))

-- Cursors.

-- a cursor that went to the next cell or child of its page, and down from there to a cell, is above the cell at which it was
landed_above : (old next new : Cursor) → ¬ IsPast old → IsMoved old.here next.here → next.here.at ≡ old.here.at + 1 → KeepsLow next new → ¬ IsPast new → kind_of old ≡ Table → high_at old.here <ℤ rowid_at new
landed_above old next new not_past moved at_is low not_past_new table =
    let less : old.here.at < length old.here.page.views = omega (arith, not_past) in
    let less_new : new.here.at < length new.here.page.views = omega (arith, not_past_new) in
    let kind : kind_of new ≡ Table = low.kind_is ∙ ap (λ (p : TreePage). tree_kind p.kind) moved.page_is ∙ table in
    let bound : low_at new.here ≡ Some (high_at old.here) = low.low_is ∙ next-low old.here next.here moved at_is less in
    subst (λ (b : Option ℤ). low_bound b <ℤ rowid_at new) bound (above-low new.here kind (path-kept (reverse new.above.items) new.here new.path) less_new)

-- the same, where the cursor had left pages of which nothing was left
pub landed-up : {E : Type 0} (old higher next new : Cursor) (result : Result Bool E) → KeepsHigh old higher → ¬ IsPast higher → IsMoved higher.here next.here → next.here.at ≡ higher.here.at + 1
    → OnOk result (KeepsLow next new) → IfOk result (λ moved. IsTrue moved ↔ ¬ IsPast new) → IfOk result (ComesUp old new)
landed-up old higher next new (Ok moved) high not_past is_moved at_is low stands = λ is table.
    let above = landed_above higher next new not_past is_moved at_is low (stands.0 is) (high.kind_is ∙ table) in
    let strict : high_at old.here <ℤ rowid_at new = subst (λ (h : ℤ). h <ℤ rowid_at new) high.high_is above in
    (omega (arith, ints, strict), λ past. strict)
landed-up old higher next new (Err error) high not_past is_moved at_is low stands = tt

pub table_inner : (kind : PageKind) → tree_kind kind ≡ Table → is_leaf kind ≡ false → has_dividers kind ≡ true
table_inner TableLeaf table inner = absurd (let e : true ≡ false = inner in cc)
table_inner TableInterior table inner = refl
table_inner IndexLeaf table inner = absurd (let e : true ≡ false = inner in cc)
table_inner IndexInterior table inner = absurd (let e : Index ≡ Table = table in cc)

-- a cursor that stays where it is, or that left pages of which nothing was left and stands at an index's entry
pub stands-up : (old new : Cursor) (moved : Bool) → KeepsHigh old new → ¬ IsPast new → (IsPast old → ¬ IsPast new → is_leaf new.here.page.kind ≡ false) → has_dividers new.here.page.kind ≡ false → ComesUp old new moved
stands-up old new moved high not_past inner none = λ is table. (
  subst (λ (h : ℤ). h ≤ℤ rowid_at new) high.high_is (omega (arith, ints)),
  λ past. absurd (let has : has_dividers new.here.page.kind ≡ true = table_inner new.here.page.kind (high.kind_is ∙ table) (inner past not_past) in cc),
)

-- the next cell of a leaf, and what is behind it
pub next-up : {E : Type 0} (old new : Cursor) (next : Place) (result : Result Bool E) → ¬ IsPast old → IsMoved old.here next → next.at ≡ old.here.at + 1
    → IfOk result (λ moved. IsTrue moved → tree_kind next.page.kind ≡ Table → (high_at next ≤ℤ rowid_at new) × (length next.page.views ≤ next.at → high_at next <ℤ rowid_at new)) → IfOk result (MovesUp old new)
next-up old new next (Ok moved) not_past is_moved at_is comes = λ is table.
    let less : old.here.at < length old.here.page.views = omega (arith, not_past) in
    let kind : tree_kind next.page.kind ≡ Table = ap (λ (p : TreePage). tree_kind p.kind) is_moved.page_is ∙ table in
    let kept = path-kept (reverse old.above.items) old.here old.path in
    let up = comes is kind in
    elim (cases_lt next.at (length next.page.views)) [
      | inl later ↦ let above = next-above old.here next is_moved at_is less table kept later in omega (arith, ints, above, up.0)
      | inr past ↦ let within = next-within old.here next is_moved at_is less table kept past in omega (arith, ints, within, up.1 past)
    ]
next-up old new next (Err error) not_past is_moved at_is comes = tt

-- the child behind a cell
pub behind-up : {E : Type 0} (old next new : Cursor) (result : Result Bool E) → ¬ IsPast old → IsMoved old.here next.here → next.here.at ≡ old.here.at + 1
    → OnOk result (KeepsLow next new) → IfOk result (λ moved. IsTrue moved ↔ ¬ IsPast new) → IfOk result (MovesUp old new)
behind-up old next new (Ok moved) not_past is_moved at_is low stands = λ is table. landed_above old next new not_past is_moved at_is low (stands.0 is) table
behind-up old next new (Err error) not_past is_moved at_is low stands = tt
