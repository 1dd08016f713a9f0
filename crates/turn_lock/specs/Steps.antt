-- What each step tells its seat: the step, the seat before, the number found, and the seat after.
use Rattle.std.specs.Prelude.{true, ◌≡◌, ◌≢◌, ℕ, List, [], ◌∷◌, ◌++◌, length, max, Option, Some, None, IfSome}
use mathlib.Core.List.{IsPrefix}
use Rattle.atomic_table.specs.Table.{Me, Step}
use Rattle.turn_lock.specs.declared.story.Story.{Ghosts}
use Rattle.turn_lock.specs.declared.view.Past.{Past}
use Rattle.turn_lock.specs.declared.view.View.{View}
use Rattle.turn_lock.specs.Lists.{longer, shorter}
use Rattle.turn_lock.specs.Meeting.{Meets}
use Rattle.turn_lock.specs.Views.{view, turn, rests, holds, one_of, gave, new_past, told, missed, noted, left}

-- a seat's view, and the slot if it is out with the seat
abbrev pub Seated : Type 0 → Type 0 → Type 0
Seated W E = Me (Option W) (View W E)

-- what lies in the slot that the seat took
abbrev pub held_of : {W : Type 0} → List (ℕ × Option W) → Option W
held_of [] = None
held_of (x ∷ xs) = x.1

module _ {W E : Type 0} where
  -- a seat that took a value, and has the turn and the slot
  abbrev pub holder : Past W E → List E → Option W → Option W → Seated W E
  holder p whole taken held = (view p (holds whole taken), (0, held) ∷ [])

  -- a seat without the turn
  abbrev pub guest : Past W E → Seated W E
  guest p = (view p rests, [])

  -- what a seat knows in the midst of a join, beside what the seat saw that had seen less
  abbrev pub meeting : Past W E → Past W E → Past W E
  meeting p q = record {
    opening = p.opening;
    number = p.number;
    given = p.given;
    seen = longer p.seen q.seen;
    most = max p.most q.most;
    lost = p.lost;
    places = p.places ++ q.places;
    left = p.left;
    put = p.put;
    turned = one_of p.turned q.turned;
    beside = shorter p.seen q.seen;
  }

  -- after a join
  abbrev pub joined : Past W E → Past W E
  joined p = record { opening = p.opening; number = p.number; given = p.given; seen = p.seen; most = p.most; lost = p.lost; places = p.places; left = p.left; put = p.put; turned = p.turned; beside = [] }

  -- a split: the old seat, and the new one
  abbrev pub cut : View W E → View W E
  cut v = view (gave v.past) v.turn

  abbrev pub newcomer : View W E → View W E
  newcomer v = view (new_past v.past) rests

  -- the seat that stays at a join
  abbrev pub gathered : View W E → View W E → View W E
  gathered v w = view (meeting v.past w.past) v.turn

  -- the first seat takes the empty slot
  abbrev pub Opens : Step (Option W) → Seated W E → ℕ → Seated W E → Type 0
  Opens step m found n = n ≡ holder m.0.past m.0.turn.whole m.0.turn.taken None

  -- the seat that has the turn gives the empty slot home
  abbrev pub Shuts : Step (Option W) → Seated W E → ℕ → Seated W E → Type 0
  Shuts step m found n = n ≡ (view m.0.past (turn true true m.0.turn.whole m.0.turn.taken), [])

  -- what was seen in the two seats of a join is the beginning of one history
  abbrev pub Compares : Step (Option W) → Seated W E → ℕ → Seated W E → Type 0
  Compares step m found n = (n ≡ guest (joined m.0.past)) × IsPrefix m.0.past.beside m.0.past.seen

  module _ (S : Ghosts W E) where
    -- a try takes the value where it finds 0, and is lost where it finds another number
    abbrev pub Takes : Step (Option W) → Seated W E → ℕ → Seated W E → Type 0
    Takes step m found n =
        (found ≡ 0 → (value : W) × (n ≡ holder (told m.0.past n.0.past.turned) (S.history value) (Some value) (Some value)) × Meets S m.0.past n.0.past.turned value)
        × (found ≢ 0 → n ≡ guest (missed m.0.past))

    -- the number found is the place of the entry that is counted
    abbrev pub Notes : Step (Option W) → Seated W E → ℕ → Seated W E → Type 0
    Notes step m found n =
        IfSome (held_of m.1) (λ value. (n ≡ holder (noted m.0.past (length m.0.turn.whole)) (S.history value) m.0.turn.taken (Some value)) × (found ≡ length m.0.turn.whole))

    -- the value that is put back is the one in the slot
    abbrev pub Leaves : Step (Option W) → Seated W E → ℕ → Seated W E → Type 0
    Leaves step m found n = IfSome (held_of m.1) (λ value. n ≡ guest (left S m.0.past m.0.turn.whole value))
