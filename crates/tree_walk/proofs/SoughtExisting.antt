-- Each store has a course from where a rowid belongs.
use Rattle.std.proofs.Common.{◌≡◌, ℕ, ℤ, zero, suc, ◌-◌, ◌≤◌, ◌≤ℤ◌, Bool, true, false, List, [], ◌∷◌, length, map, Option, Some, refl, subst, arith}
use Rattle.std.proofs.lemmas.Int.{ints}
use Rattle.std.proofs.lemmas.List.{length-map}
use Rattle.format_spec.specs.declared.CellView.{CellView}
use Rattle.tree_spec.specs.declared.TreeKind.{TreeKind}
use Rattle.tree_spec.specs.declared.TreeKind.TheVariants.{Table, Index}
use Rattle.tree_spec.specs.Bounds.{RisesIn, greatest_rowid}
use Rattle.tree_spec.specs.BoundsLaws.{rises-append}
use Rattle.tree_spec.specs.Standing.{Sizes, Paged}
use Rattle.tree_walk.specs.declared.place.Place.{Place}
use Rattle.tree_walk.specs.Pages.{is_leaf, tree_kind}
use Rattle.tree_walk.specs.Places.{low_at, low_bound, low_in, most_above, rowids}
use Rattle.tree_walk.specs.Courses.{Spot, Course, cells_left, cells_then, Enters, Behind, Below}
use Rattle.tree_walk.specs.Lengths.{Surely}
use Rattle.tree_walk.specs.Seeks.{IsIndexOf}
use Rattle.tree_walk.specs.SoughtCourses.{place_at, FromAimed, FromSought}
use Rattle.tree_walk.proofs.TreeFacts.{low-next}
use Rattle.tree_walk.proofs.Paths.{table-rises}
use Rattle.tree_walk.specs.CoursesLaws.{to_leaf, to_inner}
use Rattle.tree_walk.proofs.Sought.{index_in, index-is, index-one, index-within}
use Rattle.tree_walk.proofs.Existing.{surely, surely-then, rowid_of, IsHere, IsSound, Found, IsFoundBelow, leaf-sound, enters-found, behind-found, below-found}

-- the bound below a cell is not below that of its page
low-least : (low : Option ℤ) (high : ℤ) (views : List CellView) (at : ℕ) → RisesIn (low_bound low) high (rowids views) → at ≤ length views → low_bound low ≤ℤ low_bound (low_in low views at)
low-least low high views zero rises within = omega (arith, ints)
low-least low high [] (suc at) rises within = absurd (omega arith)
low-least low high (v ∷ views) (suc at) rises within =
    let rest = low-least (Some v.rowid) high views at rises.1 (omega arith) in
    let least : v.rowid ≤ℤ low_bound (low_in low (v ∷ views) (suc at)) = subst (λ (b : Option ℤ). v.rowid ≤ℤ low_bound b) (low-next low v views at (omega arith)) rest in
    omega (arith, ints, rises.0, least)

module _ (sizes : Sizes) (base : Paged) (x : ℤ) where
  abbrev index_at : Place → ℕ
  index_at place = index_in x (rowids place.page.views)

  index_at-within : (place : Place) → index_at place ≤ length place.page.views
  index_at-within place =
      omega (arith, index-within x (rowids place.page.views) (index_at place) (index-is x (rowids place.page.views)), length-map place.page.views (λ (v : CellView). v.rowid))

  here-at : (place : Place) (at : ℕ) → IsHere sizes base place → IsHere sizes base (place_at place at)
  here-at place at here = record { first = here.first; within = here.within; has_views = here.has_views; kept = here.kept }

  lower-sound : (kind : TreeKind) (place : Place) → tree_kind place.page.kind ≡ kind → IsHere sizes base place → (spots : List Spot) → IsSound sizes base kind (low_bound (low_at (place_at place (index_at place)))) spots
      → IsSound sizes base kind (low_bound place.low) spots
  lower-sound Index place is here spots sound = tt
  lower-sound Table place is here spots sound =
      let least = low-least place.low place.high place.page.views (index_at place) (table-rises place is here.kept) (index_at-within place) in
      record { each = sound.each; rises = rises-append (low_bound place.low) (low_bound (low_at (place_at place (index_at place)))) greatest_rowid [] (map rowid_of spots) least sound.rises }

  abbrev IsAimedAt : (Place → Course → Course → Type 0) → ℕ → Place → Course → Course → Type 0
  IsAimedAt Inside room place later course = (at : ℕ) → IsIndexOf x (rowids place.page.views) at → FromAimed sizes base x Inside room (place_at place at) later course

  aimed : (Inside : Place → Course → Course → Type 0) (room : ℕ) (place : Place) (later course : Course) → FromAimed sizes base x Inside room (place_at place (index_at place)) later course
      → IsAimedAt Inside room place later course
  aimed Inside room place later course from = λ at index.
      subst (λ (k : ℕ). FromAimed sizes base x Inside room (place_at place k) later course) (index-one x (rowids place.page.views) (index_at place) at (index-is x (rowids place.page.views)) index) from

  abbrev there : Place → Place
  there place = place_at place (index_at place)

  abbrev Inner : (Place → Course → Course → Type 0) → ℕ → Place → Course → Course → Type 0
  Inner Inside room place later course = (behind : Course)
      × (Behind sizes base (Below sizes base room) (most_above - room) (cells_left place) place later behind × Enters sizes base Inside (most_above - room) place behind course)

  place-sought : (Inside : Place → Course → Course → Type 0) → IsFoundBelow sizes base Inside → (room : ℕ) (place : Place) → IsHere sizes base place → (later : Course)
      → IsSound sizes base (tree_kind place.page.kind) place.high later.spots → Surely (Found sizes base (tree_kind place.page.kind) (low_bound place.low) (IsAimedAt Inside room place later))
  place-sought Inside below room place here later sound = by (is_leaf place.page.kind) refl
    where
      by : (leaf : Bool) → is_leaf place.page.kind ≡ leaf → Surely (Found sizes base (tree_kind place.page.kind) (low_bound place.low) (IsAimedAt Inside room place later))
      by true leaf =
          let course = cells_then (there place) later in
          surely (record {
            course = course;
            walks = aimed Inside room place later course (to_leaf (is_leaf place.page.kind) (course ≡ cells_then (there place) later) (Inner Inside room (there place) later course) leaf refl);
            sound = lower-sound (tree_kind place.page.kind) place refl here course.spots
                (leaf-sound sizes base (tree_kind place.page.kind) (there place) refl (here-at place (index_at place) here) (index_at-within place) later sound);
          })
      by false inner =
          surely-then (behind-found sizes base (Below sizes base room) (below-found sizes base room) (most_above - room) (cells_left (there place)) (there place) (here-at place (index_at place) here) inner
          (omega (arith, index_at-within place)) later sound) (λ behind.
          surely-then (enters-found sizes base Inside below (most_above - room) (there place) (here-at place (index_at place) here) (index_at-within place) behind.course behind.sound) (λ found.
          surely (record {
            course = found.course;
            walks = aimed Inside room place later found.course
                (to_inner (is_leaf place.page.kind) (found.course ≡ cells_then (there place) later) (Inner Inside room (there place) later found.course) inner (behind.course, (behind.walks, found.walks)));
            sound = lower-sound (tree_kind place.page.kind) place refl here found.course.spots found.sound;
          })))

  pub sought-found : (room : ℕ) → IsFoundBelow sizes base (FromSought sizes base x room)
  sought-found zero place here first later sound = place-sought (Below sizes base zero) (below-found sizes base zero) zero place here later sound
  sought-found (suc room) place here first later sound = place-sought (FromSought sizes base x room) (sought-found room) (suc room) place here later sound
