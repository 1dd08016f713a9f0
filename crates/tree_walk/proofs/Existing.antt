-- Each store has a course from a root, and its cells in a table are cells of the pages whose rowids rise.
use Rattle.std.proofs.Common.{◌≡◌, ℕ, ℤ, pos, zero, suc, ◌+◌, ◌-◌, ◌<◌, ◌≤◌, ◌<ℤ◌, ◌≤ℤ◌, ◌⊎◌, Bool, true, false, List, [], ◌∷◌, ◌++◌, length, map, slice_get, Option, Some, None, refl, ap, ap₂, ◌∙◌, subst, inl, inr, arith}
use Rattle.std.proofs.Math.Path.{subst⁻¹}
use Rattle.std.specs.List.{AllByRecursion}
use Rattle.std.proofs.lemmas.Int.{ints}
use Rattle.std.proofs.lemmas.List.{map-append}
use Rattle.std.proofs.lemmas.Option.{slice_get_past}
use Rattle.format_spec.specs.declared.CellView.{CellView}
use Rattle.page_spec.specs.Pages.{IsInRange}
use Rattle.page_layout.specs.Views.{HasViews}
use Rattle.refusal.specs.declared.Rule.{Rule}
use Rattle.refusal.specs.declared.Rule.TheVariants as broken
use Rattle.tree_spec.specs.declared.TreeKind.{TreeKind}
use Rattle.tree_spec.specs.declared.TreeKind.TheVariants.{Table, Index}
use Rattle.tree_spec.specs.Bounds.{RisesIn, greatest_rowid}
use Rattle.tree_spec.specs.BoundsLaws.{rises-bounds, rises-append}
use Rattle.tree_spec.specs.Standing.{Sizes, Paged}
use Rattle.tree_walk.specs.declared.place.Place.{Place}
use Rattle.tree_walk.specs.Pages.{view_of, is_leaf, tree_kind}
use Rattle.tree_walk.specs.Places.{Rises, child_at, high_at, low_at, low_bound, low_in, most_above, rowid_or, rowids, IsBadRoot, IsBadStep, IsChild, IsEntered, IsRootPlace}
use Rattle.tree_walk.specs.Paths.{IsKept}
use Rattle.tree_walk.specs.Courses.{Spot, Course, ends, stops, spots_from, cells_left, cells_then, cell_then, next_of, Enters, Behind, From, Below}
use Rattle.tree_walk.specs.Lengths.{Surely}
use Rattle.tree_walk.proofs.TreeFacts.{low-next}
use Rattle.tree_walk.proofs.Paths.{cell_above, cell_within, low_behind, past-high, table_inner, table-rises, next-low}
use Rattle.tree_walk.specs.CoursesLaws.{to_leaf, to_inner, to_place}
use Rattle.tree_walk.proofs.Courses.{cell-divider, FromChild}
use Rattle.tree_walk.proofs.Uniqueness.{bad_step-one, bad_step-not_entered, entered-one, bad_root-one, bad_root-not_entered}

-- What cannot be refuted.

pub surely : {A : Type 0} → A → Surely A
surely a = λ none. none a

pub surely-then : {A B : Type 0} → Surely A → (A → Surely B) → Surely B
surely-then sure next = λ none. sure (λ a. next a none)

surely-decided : (A : Type 0) → Surely (A ⊎ (A → ⊥))
surely-decided A = λ none. none (inr (λ a. none (inl a)))

-- Rowids.

-- the rowid of a cell
abbrev pub rowid_of : Spot → ℤ
rowid_of spot = rowid_or (pos 0) (slice_get spot.page.views spot.at)

rowid-any : (a b : ℤ) (views : List CellView) (at : ℕ) → at < length views → rowid_or a (slice_get views at) ≡ rowid_or b (slice_get views at)
rowid-any a b [] at low = absurd (omega arith)
rowid-any a b (v ∷ views) zero low = refl
rowid-any a b (v ∷ views) (suc at) low = rowid-any a b views at (omega arith)

-- the bound below a cell, or behind all cells, is not above it
low-within : (low : Option ℤ) (high : ℤ) (views : List CellView) (at : ℕ) → RisesIn (low_bound low) high (rowids views) → at ≤ length views → low_bound (low_in low views at) ≤ℤ rowid_or high (slice_get views at)
low-within low high [] zero rises within = subst⁻¹ (λ (v : Option CellView). low_bound low ≤ℤ rowid_or high v) (slice_get_past {X = CellView} [] 0 (omega arith)) rises
low-within low high [] (suc at) rises within = absurd (omega arith)
low-within low high (v ∷ views) zero rises within = omega (arith, ints, rises.0)
low-within low high (v ∷ views) (suc at) rises within =
    subst (λ (b : Option ℤ). low_bound b ≤ℤ rowid_or high (slice_get views at)) (low-next low v views at (omega arith)) (low-within (Some v.rowid) high views at rises.1 (omega arith))

module _ (sizes : Sizes) (base : Paged) where
  -- a cell of an accepted page
  pub record IsCellOf (spot : Spot) : Type 0 where
    pub first : 1 ≤ spot.page.number
    pub within : spot.page.number ≤ base.count
    pub has_views : HasViews (base.pages spot.page.number) spot.page.number sizes.usable spot.page.views
    pub low : spot.at < length spot.page.views

  -- cells whose rowids strictly rise above a bound
  pub record AreRising (low : ℤ) (spots : List Spot) : Type 0 where
    pub each : AllByRecursion IsCellOf spots
    pub rises : RisesIn low greatest_rowid (map rowid_of spots)

  -- what is known of the cells of a walk
  abbrev pub IsSound : TreeKind → ℤ → List Spot → Type 0
  IsSound Table low spots = AreRising low spots
  IsSound Index low spots = Unit {0}

  -- the place is in an accepted page
  pub record IsHere (place : Place) : Type 0 where
    pub first : 1 ≤ place.page.number
    pub within : place.page.number ≤ base.count
    pub has_views : HasViews (base.pages place.page.number) place.page.number sizes.usable place.page.views
    pub kept : IsKept place

  here-entered : (number : ℕ) (low : Option ℤ) (high : ℤ) (place : Place) → 1 ≤ number → number ≤ base.count → IsEntered (base.pages number) number sizes.usable low high place → IsHere place
  here-entered number low high place first within entered = record {
    first = omega (arith, first, entered.decoded.number_is);
    within = omega (arith, within, entered.decoded.number_is);
    has_views = subst⁻¹ (λ (n : ℕ). HasViews (base.pages n) n sizes.usable place.page.views) entered.decoded.number_is entered.decoded.has_views;
    kept = subst⁻¹ (λ (l : Option ℤ). Rises (tree_kind place.page.kind) l place.high place.page.views) entered.low_is
        (subst⁻¹ (λ (h : ℤ). Rises (tree_kind place.page.kind) low h place.page.views) entered.high_is entered.rises);
  }

  here-next : (place : Place) → IsHere place → IsHere (next_of place)
  here-next place here = record { first = here.first; within = here.within; has_views = here.has_views; kept = here.kept }

  all-join : (xs ys : List Spot) → AllByRecursion IsCellOf xs → AllByRecursion IsCellOf ys → AllByRecursion IsCellOf (xs ++ ys)
  all-join [] ys a b = b
  all-join (x ∷ xs) ys a b = (a.0, all-join xs ys a.1 b)

  -- the cells of a leaf from an index on
  leaf-each : (place : Place) → IsHere place → (at left : ℕ) → at + left ≡ length place.page.views → AllByRecursion IsCellOf (spots_from (view_of place.page) at left)
  leaf-each place here at zero whole = tt
  leaf-each place here at (suc left) whole =
      (record { first = here.first; within = here.within; has_views = here.has_views; low = omega (arith, whole) }, leaf-each place here (suc at) left (omega (arith, whole)))

  leaf-rises : (place : Place) → tree_kind place.page.kind ≡ Table → IsHere place → (at left : ℕ) → at + left ≡ length place.page.views
      → RisesIn (low_bound (low_in place.low place.page.views at)) place.high (map rowid_of (spots_from (view_of place.page) at left))
  leaf-rises place table here at zero whole =
      let rises = table-rises place table here.kept in
      let past : rowid_or place.high (slice_get place.page.views at) ≡ place.high = ap (rowid_or place.high) (slice_get_past place.page.views at (omega (arith, whole))) in
      subst (λ (h : ℤ). low_bound (low_in place.low place.page.views at) ≤ℤ h) past (low-within place.low place.high place.page.views at rises (omega (arith, whole)))
  leaf-rises place table here at (suc left) whole =
      let views = place.page.views in
      let low : at < length views = omega (arith, whole) in
      let same = rowid-any place.high (pos 0) views at low in
      let above = cell_above place.low place.high views at (table-rises place table here.kept) low in (
        subst (λ (x : ℤ). low_bound (low_in place.low views at) <ℤ x) same above,
        subst (λ (x : Option ℤ). RisesIn (low_bound x) place.high (map rowid_of (spots_from (view_of place.page) (suc at) left))) (low_behind place.low (pos 0) views at low)
            (leaf-rises place table here (suc at) left (omega (arith, whole))),
      )

  -- a course is found, with what is known of its cells
  pub record Found (kind : TreeKind) (low : ℤ) (Walks : Course → Type 0) : Type 0 where
    pub course : Course
    pub walks : Walks course
    pub sound : IsSound kind low course.spots

  -- the walk stops
  nothing-sound : (kind : TreeKind) (place : Place) → tree_kind place.page.kind ≡ kind → IsHere place → place.at ≤ length place.page.views → (later : List Spot) → IsSound kind (high_at place) later
      → IsSound kind (low_bound (low_at place)) []
  nothing-sound Index place is here within later sound = tt
  nothing-sound Table place is here within later sound =
      let low = low-within place.low place.high place.page.views place.at (table-rises place is here.kept) within in
      record { each = tt; rises = omega (arith, ints, low, rises-bounds (high_at place) greatest_rowid (map rowid_of later) sound.rises) }

  pub leaf-sound : (kind : TreeKind) (place : Place) → tree_kind place.page.kind ≡ kind → IsHere place → place.at ≤ length place.page.views → (later : Course) → IsSound kind place.high later.spots
      → IsSound kind (low_bound (low_at place)) (cells_then place later).spots
  leaf-sound Index place is here within later sound = tt
  leaf-sound Table place is here within later sound =
      let own = spots_from (view_of place.page) place.at (cells_left place) in
      let whole : place.at + cells_left place ≡ length place.page.views = omega (arith, within) in
      record {
        each = all-join own later.spots (leaf-each place here place.at (cells_left place) whole) sound.each;
        rises = subst⁻¹ (RisesIn (low_bound (low_at place)) greatest_rowid) (map-append rowid_of own later.spots)
            (rises-append (low_bound (low_at place)) place.high greatest_rowid (map rowid_of own) (map rowid_of later.spots) (leaf-rises place is here place.at (cells_left place) whole) sound.rises);
      }

  -- a divider of a table is no cell of the walk
  cell-sound : (kind : TreeKind) (place : Place) → tree_kind place.page.kind ≡ kind → is_leaf place.page.kind ≡ false → place.at < length place.page.views → (rest : Course)
      → IsSound kind (low_bound (low_at (next_of place))) rest.spots → IsSound kind (high_at place) (cell_then place rest).spots
  cell-sound Index place is inner low rest sound = tt
  cell-sound Table place is inner low rest sound =
      let same = cell-divider place rest (table_inner place.page.kind is inner) in
      let bound = next-low place (next_of place) (record { page_is = refl; low_is = refl; high_is = refl }) refl low in
      subst⁻¹ (λ (c : Course). AreRising (high_at place) c.spots) same (subst (λ (b : Option ℤ). AreRising (low_bound b) rest.spots) bound sound)

  -- The walk below a child, from pages of which so many may stand below one another.
  abbrev pub IsFoundBelow : (Place → Course → Course → Type 0) → Type 0
  IsFoundBelow Inside =
      (place : Place) → IsHere place → place.at ≡ 0 → (later : Course) → IsSound (tree_kind place.page.kind) place.high later.spots
      → Surely (Found (tree_kind place.page.kind) (low_bound place.low) (Inside place later))

  module _ (Inside : Place → Course → Course → Type 0) (below : IsFoundBelow Inside) (above : ℕ) where
    abbrev IsEnteredBy : Place → Place → Type 0
    IsEnteredBy place child = IsInRange sizes.size base.count (child_at place) × (above < most_above) × IsChild base.pages sizes.usable place child

    -- a child is entered, or refused
    pub enters-found : (place : Place) → IsHere place → place.at ≤ length place.page.views → (behind : Course) → IsSound (tree_kind place.page.kind) (high_at place) behind.spots
        → Surely (Found (tree_kind place.page.kind) (low_bound (low_at place)) (Enters sizes base Inside above place behind))
    enters-found place here within behind sound =
        surely-then (surely-decided ((page : ℕ) × (rule : Rule) × IsBadStep base.pages sizes.size sizes.usable base.count place above page rule)) refused
      where
        stopped : (course : Course) → course.spots ≡ [] → Enters sizes base Inside above place behind course
            → Surely (Found (tree_kind place.page.kind) (low_bound (low_at place)) (Enters sizes base Inside above place behind))
        stopped course none enters =
            surely (record {
              course = course;
              walks = enters;
              sound = subst⁻¹ (IsSound (tree_kind place.page.kind) (low_bound (low_at place))) none (nothing-sound (tree_kind place.page.kind) place refl here within behind.spots sound);
            })

        entered : ((page : ℕ) (rule : Rule) → IsBadStep base.pages sizes.size sizes.usable base.count place above page rule → ⊥)
            → ((child : Place) × IsEnteredBy place child) ⊎ ((child : Place) × IsEnteredBy place child → ⊥)
            → Surely (Found (tree_kind place.page.kind) (low_bound (low_at place)) (Enters sizes base Inside above place behind))
        entered fine (inr none) =
            stopped (stops 0 broken.Kind) refl (record { refused = λ page rule bad. absurd (fine page rule bad); entered = λ child in_range few is. absurd (none (child, (in_range, few, is))) })
        entered fine (inl one) =
            let child = one.0 in
            let is = one.1.2 in
            let its_page = here-entered (child_at place) (low_at place) (high_at place) child (omega (arith, one.1.0.behind_first)) one.1.0.within is.entered in
            let its_sound = subst⁻¹ (λ (k : TreeKind). IsSound k child.high behind.spots) is.kind_is (subst⁻¹ (λ (h : ℤ). IsSound (tree_kind place.page.kind) h behind.spots) is.entered.high_is sound) in
            surely-then (below child its_page is.entered.first behind its_sound) (λ found.
            surely (record {
              course = found.course;
              walks = record {
                refused = λ page rule bad. absurd (fine page rule bad);
                entered = λ other in_range few other_is.
                    subst (λ (c : Place). Inside c behind found.course)
                    (entered-one (base.pages (child_at place)) (child_at place) sizes.usable (low_at place) (high_at place) child other is.entered other_is.entered) found.walks;
              };
              sound = subst (λ (k : TreeKind). IsSound k (low_bound (low_at place)) found.course.spots) is.kind_is
                  (subst (λ (l : Option ℤ). IsSound (tree_kind child.page.kind) (low_bound l) found.course.spots) is.entered.low_is found.sound);
            }))

        refused : ((page : ℕ) × (rule : Rule) × IsBadStep base.pages sizes.size sizes.usable base.count place above page rule)
            ⊎ ((page : ℕ) × (rule : Rule) × IsBadStep base.pages sizes.size sizes.usable base.count place above page rule → ⊥)
            → Surely (Found (tree_kind place.page.kind) (low_bound (low_at place)) (Enters sizes base Inside above place behind))
        refused (inl bad) =
            stopped (stops bad.0 bad.1) refl (record {
              refused = λ page rule also.
                  let same = bad_step-one base.pages sizes.size sizes.usable base.count place above bad.0 page bad.1 rule bad.2 also in ap₂ stops same.0 same.1;
              entered = λ child in_range few is. absurd (bad_step-not_entered base.pages sizes.size sizes.usable base.count place above bad.0 bad.1 bad.2 in_range few child is);
            })
        refused (inr fine) = surely-then (surely-decided ((child : Place) × IsEnteredBy place child)) (entered (λ page rule bad. fine (page, rule, bad)))

  module _ (Inside : Place → Course → Course → Type 0) (below : IsFoundBelow Inside) (above : ℕ) where
    -- what is behind the child of a place
    pub behind-found : (left : ℕ) (place : Place) → IsHere place → is_leaf place.page.kind ≡ false → place.at + left ≡ length place.page.views → (later : Course)
        → IsSound (tree_kind place.page.kind) place.high later.spots → Surely (Found (tree_kind place.page.kind) (high_at place) (Behind sizes base Inside above left place later))
    behind-found zero place here inner whole later sound =
        surely (record { course = later; walks = refl; sound = subst⁻¹ (λ (h : ℤ). IsSound (tree_kind place.page.kind) h later.spots) (past-high place (omega (arith, whole))) sound })
    behind-found (suc left) place here inner whole later sound =
        let next = next_of place in
        surely-then (behind-found left next (here-next place here) inner (omega (arith, whole)) later sound) (λ behind.
        surely-then (enters-found Inside below above next (here-next place here) (omega (arith, whole)) behind.course behind.sound) (λ rest.
        surely (record {
          course = cell_then place rest.course;
          walks = (rest.course, (behind.course, (behind.walks, rest.walks)), refl);
          sound = cell-sound (tree_kind place.page.kind) place refl inner (omega (arith, whole)) rest.course rest.sound;
        })))

  place-found : (room : ℕ) → IsFoundBelow (Below sizes base room) → IsFoundBelow (From sizes base room)
  place-found room below place here first later sound = by (is_leaf place.page.kind) refl
    where
      by : (leaf : Bool) → is_leaf place.page.kind ≡ leaf → Surely (Found (tree_kind place.page.kind) (low_bound place.low) (From sizes base room place later))
      by true leaf =
          let course = cells_then place later in
          surely (record {
            course = course;
            walks = to_place sizes base room place later course (to_leaf (is_leaf place.page.kind) (course ≡ cells_then place later) (FromChild sizes base room place later course) leaf refl);
            sound = subst (λ (at : ℕ). IsSound (tree_kind place.page.kind) (low_bound (low_in place.low place.page.views at)) course.spots) first
                (leaf-sound (tree_kind place.page.kind) place refl here (omega (arith, first)) later sound);
          })
      by false inner =
          surely-then (behind-found (Below sizes base room) below (most_above - room) (cells_left place) place here inner (omega (arith, first)) later sound) (λ behind.
          surely-then (enters-found (Below sizes base room) below (most_above - room) place here (omega (arith, first)) behind.course behind.sound) (λ found.
          surely (record {
            course = found.course;
            walks = to_place sizes base room place later found.course
                (to_inner (is_leaf place.page.kind) (found.course ≡ cells_then place later) (FromChild sizes base room place later found.course) inner (behind.course, (behind.walks, found.walks)));
            sound = subst (λ (at : ℕ). IsSound (tree_kind place.page.kind) (low_bound (low_in place.low place.page.views at)) found.course.spots) first found.sound;
          })))

  high-sound : (kind : TreeKind) (place : Place) → tree_kind place.page.kind ≡ kind → IsHere place → (later : List Spot) → IsSound kind place.high later → IsSound kind (high_at place) []
  high-sound Index place is here later sound = tt
  high-sound Table place is here later sound =
      let within = cell_within (low_bound place.low) place.high place.page.views place.at (table-rises place is here.kept) in
      record { each = tt; rises = omega (arith, ints, within, rises-bounds place.high greatest_rowid (map rowid_of later) sound.rises) }

  pub below-found : (room : ℕ) → IsFoundBelow (Below sizes base room)
  below-found zero place here first later sound =
      let kind = tree_kind place.page.kind in
      surely (record {
        course = stops 0 broken.Kind;
        walks = tt;
        sound = subst (λ (at : ℕ). IsSound kind (low_bound (low_in place.low place.page.views at)) []) first
            (nothing-sound kind place refl here (omega (arith, first)) [] (high-sound kind place refl here later.spots sound));
      })
  below-found (suc room) place here first later sound = place-found room (below-found room) place here first later sound

  pub from-found : (room : ℕ) → IsFoundBelow (From sizes base room)
  from-found room = place-found room (below-found room)

  -- The walk from a root.
  abbrev pub AtRoot : TreeKind → ℕ → (Place → Course → Type 0) → Course → Type 0
  AtRoot kind root Walks course =
      ((page : ℕ) (rule : Rule) → IsBadRoot (base.pages root) root sizes.usable kind page rule → course ≡ stops page rule)
      × ((place : Place) → IsRootPlace (base.pages root) root sizes.usable kind place → Walks place course)

  -- a table's course comes to cells whose rowids rise
  abbrev pub IsTableCourse : TreeKind → ℕ → Course → Type 0
  IsTableCourse kind root course = (place : Place) → IsRootPlace (base.pages root) root sizes.usable kind place → tree_kind place.page.kind ≡ Table → (low : ℤ) × AreRising low course.spots

  pub root-found : (Walks : Place → Course → Course → Type 0) → IsFoundBelow Walks → (kind : TreeKind) (root : ℕ) → 1 ≤ root → root ≤ base.count
      → Surely ((course : Course) × AtRoot kind root (λ place c. Walks place ends c) course × IsTableCourse kind root course)
  root-found Walks below kind root first within =
      surely-then (surely-decided ((page : ℕ) × (rule : Rule) × IsBadRoot (base.pages root) root sizes.usable kind page rule)) refused
    where
      entered : ((page : ℕ) (rule : Rule) → IsBadRoot (base.pages root) root sizes.usable kind page rule → ⊥)
          → ((place : Place) × IsRootPlace (base.pages root) root sizes.usable kind place) ⊎ ((place : Place) × IsRootPlace (base.pages root) root sizes.usable kind place → ⊥)
          → Surely ((course : Course) × AtRoot kind root (λ place c. Walks place ends c) course × IsTableCourse kind root course)
      entered fine (inr none) =
          surely (ends, (λ page rule bad. absurd (fine page rule bad), λ place is. absurd (none (place, is))), λ place is table. absurd (none (place, is)))
      entered fine (inl one) =
          let place = one.0 in
          let is = one.1.entered in
          surely-then (below place (here-entered root None greatest_rowid place first within is) is.first ends (ends-sound (tree_kind place.page.kind) place.high is.high_is)) (λ found.
          surely (
            found.course,
            (
              λ page rule bad. absurd (fine page rule bad),
              λ other also. subst (λ (p : Place). Walks p ends found.course) (entered-one (base.pages root) root sizes.usable None greatest_rowid place other is also.entered) found.walks,
            ),
            λ other also table.
                let same = entered-one (base.pages root) root sizes.usable None greatest_rowid place other is also.entered in
                let its_kind : tree_kind place.page.kind ≡ Table = ap (λ (p : Place). tree_kind p.page.kind) same ∙ table in
                (low_bound place.low, subst (λ (k : TreeKind). IsSound k (low_bound place.low) found.course.spots) its_kind found.sound),
          ))
        where
          ends-sound : (kind : TreeKind) (high : ℤ) → high ≡ greatest_rowid → IsSound kind high []
          ends-sound Index high is = tt
          ends-sound Table high is = record { each = tt; rises = subst⁻¹ (λ (h : ℤ). h ≤ℤ greatest_rowid) is (omega (arith, ints)) }

      refused : ((page : ℕ) × (rule : Rule) × IsBadRoot (base.pages root) root sizes.usable kind page rule) ⊎ ((page : ℕ) × (rule : Rule) × IsBadRoot (base.pages root) root sizes.usable kind page rule → ⊥)
          → Surely ((course : Course) × AtRoot kind root (λ place c. Walks place ends c) course × IsTableCourse kind root course)
      refused (inl bad) =
          surely (
            stops bad.0 bad.1,
            (
              λ page rule also. let same = bad_root-one (base.pages root) root sizes.usable kind bad.0 page bad.1 rule bad.2 also in ap₂ stops same.0 same.1,
              λ place is. absurd (bad_root-not_entered (base.pages root) root sizes.usable kind bad.0 bad.1 bad.2 place is),
            ),
            λ place is table. absurd (bad_root-not_entered (base.pages root) root sizes.usable kind bad.0 bad.1 bad.2 place is),
          )
      refused (inr fine) = surely-then (surely-decided ((place : Place) × IsRootPlace (base.pages root) root sizes.usable kind place)) (entered (λ page rule bad. fine (page, rule, bad)))
