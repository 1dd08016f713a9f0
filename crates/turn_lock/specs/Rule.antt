-- The rule, which holds between any two steps.
use Rattle.std.specs.Prelude.{◌≡◌, ◌≢◌, ℕ, ◌<◌, ◌≤◌, true, List, length, slice_index, Option, Some, None}
use mathlib.Core.Option.{some}
use mathlib.Core.Option as maybe
use mathlib.Core.List.{IsPrefix}
use lib.ListN.{get_elem?}
use Rattle.atomic_table.specs.Table.{State}
use Rattle.turn_lock.specs.declared.story.Story.{Ghosts}
use Rattle.turn_lock.specs.declared.view.Past.{Past}
use Rattle.turn_lock.specs.declared.view.View.{View}
use Rattle.turn_lock.specs.Lists.{times, once_below, total}
use Rattle.turn_lock.specs.Views.{turned_after}

-- what no seat knows alone: the history, how many numbers were given, the count and the first seat's part of the value
-- that is at home or was taken, and the first value that had turned
pub record Facts (W E U : Type 0) : Type 0 where
  pub whole : List E
  pub given : ℕ
  pub most : ℕ
  pub kept : U
  pub turned : Option W

-- some seat has the turn
abbrev pub IsHeld : {W E : Type 0} → List (View W E) → Type 0
IsHeld {W} {E} views = (j : ℕ) × (v : View W E) × (get_elem? views j ≡ some v) × (v.turn.has ≡ true)

module _ {W E : Type 0} (S : Ghosts W E) where
  -- the value lies in the slot: it has the history, and stands for the value that the lock was made with and for the first that had turned
  pub record Lies (opening : W) (f : Facts W E S.Part) (homes : List (maybe.Option (Option W))) (value : W) : Type 0 where
    pub here : get_elem? homes 0 ≡ some (some (Some value))
    pub history : S.history value ≡ f.whole
    pub stands : S.stands opening f.turned value
    pub settled : turned_after S f.turned value ≡ f.turned
    pub count : S.count value ≡ f.most
    pub part : S.part value ≡ f.kept

  -- what the rule knows of what stays with a seat
  pub record Knows (opening : W) (f : Facts W E S.Part) (p : Past W E) : Type 0 where
    -- all openings are equal; a seat that was joined into another has none
    pub opens : (x : W) → p.opening ≡ Some x → x ≡ opening
    -- the seat's number was given, and the first seat knows how many were
    pub below : p.opening ≡ Some opening → p.number < f.given
    pub counts : p.opening ≡ Some opening → p.number ≡ 0 → p.given ≡ f.given
    -- what was seen is a beginning of the history
    pub sees : IsPrefix p.seen f.whole
    pub aside : IsPrefix p.beside f.whole
    -- no count that was seen is greater than the value's
    pub meets : p.most ≤ f.most
    -- who knows of a value that had turned knows the first
    pub turned : (x : W) → p.turned ≡ Some x → f.turned ≡ Some x
    -- each entry with the seat's number stands at one of its places
    pub own : p.opening ≡ Some opening → (k : ℕ) (e : E) → get_elem? f.whole k ≡ some e → S.actor e ≡ p.number → 0 < times k p.places
    -- the first seat has the part that it put back last
    pub first : p.opening ≡ Some opening → p.number ≡ 0 → (x : W) × (p.put ≡ Some x) × (S.part x ≡ f.kept)

  -- what the rule knows of one view, where the first word and the slot are these
  pub record Fits (opening : W) (f : Facts W E S.Part) (word : ℕ) (homes : List (maybe.Option (Option W))) (v : View W E) : Type 0 where
    pub past : Knows opening f v.past
    -- who has the turn has the whole history, and has taken a value with this count and part
    pub has : v.turn.has ≡ true → (word ≡ 1) × (v.turn.whole ≡ f.whole) × (v.past.turned ≡ f.turned)
        × ((x : W) × (v.turn.taken ≡ Some x) × (S.count x ≡ f.most) × (S.part x ≡ f.kept))
    -- at the start and at the end of the lock the empty slot is at home, and the turn is held
    pub empty : v.turn.fresh ≡ true → (v.turn.has ≡ true) × (get_elem? homes 0 ≡ some (some None))

  -- the rule. The first word is 1 while a seat has the turn, the second counts the history
  pub record Kept (opening : W) (s : State (Option W) (View W E)) : Type 0 where
    pub f : Facts W E S.Part
    pub two : length s.words ≡ 2
    pub one : length s.homes ≡ 1
    pub size : slice_index s.words 1 ≡ length f.whole
    -- where nobody has the turn, the value is at home
    pub free : slice_index s.words 0 ≡ 0 → (value : W) × Lies opening f s.homes value
    pub each : (j : ℕ) (v : View W E) → get_elem? s.views j ≡ some v → Fits opening f (slice_index s.words 0) s.homes v
    -- where the first word is not 0, some seat has the turn
    pub held : slice_index s.words 0 ≢ 0 → IsHeld s.views
    -- one seat at most has the turn
    pub alone : (i j : ℕ) (u v : View W E) → get_elem? s.views i ≡ some u → get_elem? s.views j ≡ some v → u.turn.has ≡ true → v.turn.has ≡ true → i ≡ j
    -- no two seats have one number
    pub apart : (i j : ℕ) (u v : View W E) → get_elem? s.views i ≡ some u → get_elem? s.views j ≡ some v
        → u.past.opening ≡ Some opening → v.past.opening ≡ Some opening → u.past.number ≡ v.past.number → i ≡ j
    -- each place of the history stands in just one seat's list, once
    pub placed : (k : ℕ) → total (λ v. times k v.past.places) s.views ≡ once_below k (length f.whole)
    -- each entry has a number that was given
    pub named : (k : ℕ) (e : E) → get_elem? f.whole k ≡ some e → S.actor e < f.given
