-- How many cells are left of a walk.
use Rattle.std.proofs.Common.{◌≡◌, ℕ, ℤ, ◌≤◌, suc, List, [], ◌∷◌, length, drop, Result, Ok, Err, OnOk, IfOk, ap, ◌∙◌, inl, inr, sym, arith}
use Rattle.std.proofs.lemmas.Bool.{cases_lt}
use Rattle.format_spec.specs.Sizes.{IsUsable}
use Rattle.tree_spec.specs.declared.fault.TreeFault.{TreeFault}
use Rattle.tree_spec.specs.declared.TreeKind.{TreeKind}
use Rattle.tree_spec.specs.declared.TreeKind.TheVariants.{Table}
use Rattle.tree_spec.specs.Standing.{Sizes, Paged}
use Rattle.common_spec.specs.Reading.{OrFault}
use Rattle.tree_spec.specs.Faults.{IsDamageOrOther}
use Rattle.tree_walk.specs.declared.place.Place.{Place}
use Rattle.tree_walk.specs.declared.path.Cursor.{Cursor}
use Rattle.tree_walk.specs.Pages.{tree_kind}
use Rattle.tree_walk.specs.Places.{most_above, IsRootPlace}
use Rattle.tree_walk.specs.Courses.{IsPast, Spot, Course, ends, stops, behind_first, StandsOn, MovesOver, StartsWalk, FromRoot, From}
use Rattle.tree_walk.specs.SoughtCourses.{FromSought, SeeksWalk}
use Rattle.tree_walk.specs.Rising.{kind_of}
use Rattle.tree_walk.specs.Lengths.{HasAtMost, OneFewer, StartsShort, Surely}
use Rattle.tree_walk.proofs.Courses.{stands-first}
use Rattle.tree_walk.proofs.Existing.{surely, surely-then, IsFoundBelow, AtRoot, from-found, root-found}
use Rattle.tree_walk.proofs.SoughtExisting.{sought-found}
use Rattle.tree_walk.proofs.Counting.{rising-few}

one_fewer : (spots : List Spot) (n : ℕ) → length spots ≤ suc n → length (drop 1 spots) ≤ n
one_fewer [] n few = omega arith
one_fewer (spot ∷ spots) n few = omega (arith, few)

module _ (sizes : Sizes) (base : Paged) where
  -- each store has a course
  pub course-found : (kind : TreeKind) (root : ℕ) → 1 ≤ root → root ≤ base.count → Surely ((course : Course) × FromRoot sizes base kind root course)
  course-found kind root first within =
      surely-then (root-found sizes base (From sizes base most_above) (from-found sizes base most_above) kind root first within) (λ found. surely (found.0, record { refused = found.1.0; entered = found.1.1 }))

  -- a cursor that stands at the first cell of a table has no more before it than the pages hold
  started-few : {F : Type 0} (Walks : Place → Course → Course → Type 0) → IsFoundBelow sizes base Walks → IsUsable sizes.usable → (kind : TreeKind) (root : ℕ) → 1 ≤ root → root ≤ base.count
      → (here : Place) → IsRootPlace (base.pages root) root sizes.usable kind here → (result : Result Cursor (TreeFault F))
      → ((course : Course) → AtRoot sizes base kind root (λ place c. Walks place ends c) course → OrFault (StandsOn sizes base course) (IsDamageOrOther (λ page rule. course ≡ stops page rule)) result)
      → IfOk result (λ cursor. kind_of cursor ≡ tree_kind here.page.kind) → StartsShort sizes base result
  started-few Walks below fits kind root first within here entered (Err fault) starts same = tt
  started-few Walks below fits kind root first within here entered (Ok cursor) starts same = λ table.
      surely-then (root-found sizes base Walks below kind root first within) (λ found.
      let rising = found.2 here entered (sym same ∙ table) in surely (found.0, starts found.0 found.1, rising-few sizes base fits rising.0 found.0.spots rising.1))

  pub first-few : {F : Type 0} → IsUsable sizes.usable → (kind : TreeKind) (root : ℕ) → 1 ≤ root → root ≤ base.count → (here : Place) → IsRootPlace (base.pages root) root sizes.usable kind here
      → (result : Result Cursor (TreeFault F)) → StartsWalk sizes base kind root result → IfOk result (λ cursor. kind_of cursor ≡ tree_kind here.page.kind) → StartsShort sizes base result
  first-few fits kind root first within here entered result starts =
      started-few (From sizes base most_above) (from-found sizes base most_above) fits kind root first within here entered result (λ course at_root. starts course (record { refused = at_root.0; entered = at_root.1 }))

  pub sought-few : {F : Type 0} → IsUsable sizes.usable → (root : ℕ) → 1 ≤ root → root ≤ base.count → (x : ℤ) → (here : Place) → IsRootPlace (base.pages root) root sizes.usable Table here
      → (result : Result Cursor (TreeFault F)) → SeeksWalk sizes base root x result → IfOk result (λ cursor. kind_of cursor ≡ tree_kind here.page.kind) → StartsShort sizes base result
  sought-few fits root first within x here entered result starts =
      started-few (FromSought sizes base x most_above) (sought-found sizes base x most_above) fits Table root first within here entered result (λ course at_root. starts course (record { refused = at_root.0; entered = at_root.1 }))

  -- the next one has one fewer
  pub next-fewer : {T F : Type 0} (old new : Cursor) (result : Result T (TreeFault F)) → MovesOver sizes base old new result → OnOk result (OneFewer sizes base old new)
  next-fewer old new (Err fault) moves = tt
  next-fewer old new (Ok done) moves = λ n some.
      surely-then some (λ walk. surely (behind_first walk.0, moves walk.0 walk.1, one_fewer walk.0.spots n walk.2))

  -- where none is left the cursor is past the last
  pub none-past : (cursor : Cursor) → HasAtMost sizes base 0 cursor → IsPast cursor
  none-past cursor none =
      elim (cases_lt cursor.here.at (length cursor.here.page.views)) [
        | inl low ↦ absurd (none (λ walk.
            let first = stands-first sizes base walk.0 cursor (λ past. omega (arith, low, past)) walk.1 in
            omega (arith, walk.2, ap length first.1)))
        | inr past ↦ omega (arith, past)
      ]
