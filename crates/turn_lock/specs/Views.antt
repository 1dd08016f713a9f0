-- What a seat knows, and what becomes of it.
use Rattle.std.specs.Prelude.{◌≢◌, ℕ, ◌+◌, if◌then◌else◌, Bool, true, false, List, [], ◌∷◌, ◌++◌, max, Option, Some, None}
use Rattle.turn_lock.specs.declared.story.Story.{Ghosts}
use Rattle.turn_lock.specs.declared.view.Past.{Past}
use Rattle.turn_lock.specs.declared.view.Turn.{Turn}
use Rattle.turn_lock.specs.declared.view.View.{View}
use Rattle.turn_lock.specs.Lists.{longer}

-- the first of two that is there
abbrev pub one_of : {W : Type 0} → Option W → Option W → Option W
one_of None y = y
one_of (Some x) y = Some x

module _ {W E : Type 0} where
  -- the first value that had turned, once this one was put back
  abbrev pub turned_after : Ghosts W E → Option W → W → Option W
  turned_after S turned value = one_of turned (if S.has_turned value then Some value else None)

  -- what stays with a seat that is not in the midst of a join
  abbrev pub past : Option W → ℕ → ℕ → List E → ℕ → ℕ → List ℕ → ℕ → Option W → Option W → Past W E
  past opening number given seen most lost places left put turned =
      record { opening = opening; number = number; given = given; seen = seen; most = most; lost = lost; places = places; left = left; put = put; turned = turned; beside = [] }

  -- the seat was not joined into another
  abbrev pub Lives : Past W E → Type 0
  Lives p = p.opening ≢ None

  -- what a seat has of the turn
  abbrev pub turn : Bool → Bool → List E → Option W → Turn W E
  turn has fresh whole taken = record { has = has; fresh = fresh; whole = whole; taken = taken }

  abbrev pub view : Past W E → Turn W E → View W E
  view p t = record { past = p; turn = t }

  -- the turn is not held
  abbrev pub rests : Turn W E
  rests = turn false false [] None

  -- the turn is held, with this history and the value that was taken
  abbrev pub holds : List E → Option W → Turn W E
  holds whole taken = turn true false whole taken

  -- the first seat has the turn from the start
  abbrev pub starts : W → View W E
  starts opening = view (past (Some opening) 0 1 [] 0 0 [] 0 (Some opening) None) (turn true true [] (Some opening))

  -- what the first seat of a new lock knows: its number is 0, and it has put the value in
  abbrev pub first_past : Ghosts W E → W → Past W E
  first_past S value = past (Some value) 0 1 [] (S.count value) 0 [] 1 (Some value) (turned_after S None value)

  -- a seat that was joined into another
  abbrev pub spent : View W E
  spent = view (past None 0 0 [] 0 0 [] 0 None None) rests

  -- after so many tries that found the turn held
  abbrev pub lost_to : Past W E → ℕ → Past W E
  lost_to p n = record { opening = p.opening; number = p.number; given = p.given; seen = p.seen; most = p.most; lost = n; places = p.places; left = p.left; put = p.put; turned = p.turned; beside = p.beside }

  -- after one such try more
  abbrev pub missed : Past W E → Past W E
  missed p = lost_to p (p.lost + 1)

  -- with the first value that had turned
  abbrev pub told : Past W E → Option W → Past W E
  told p t = record { opening = p.opening; number = p.number; given = p.given; seen = p.seen; most = p.most; lost = p.lost; places = p.places; left = p.left; put = p.put; turned = t; beside = p.beside }

  -- an entry more was made, at this place
  abbrev pub noted : Past W E → ℕ → Past W E
  noted p place = past p.opening p.number p.given p.seen p.most p.lost (p.places ++ place ∷ []) p.left p.put p.turned

  -- the same, if an entry was made
  abbrev pub noted_if : Past W E → ℕ → Option E → Past W E
  noted_if p place None = p
  noted_if p place (Some entry) = noted p place

  -- a value with this history was put back: the history is seen, with the value's count, and whether it has turned
  abbrev pub left : Ghosts W E → Past W E → List E → W → Past W E
  left S p whole value = past p.opening p.number p.given whole (S.count value) p.lost p.places (p.left + 1) (Some value) (turned_after S p.turned value)

  -- one number more was given
  abbrev pub gave : Past W E → Past W E
  gave p = past p.opening p.number (p.given + 1) p.seen p.most p.lost p.places p.left p.put p.turned

  -- what a seat knows that was just given that number: all that was seen, and no place
  abbrev pub new_past : Past W E → Past W E
  new_past p = past p.opening p.given 0 p.seen p.most 0 [] 0 None p.turned

  -- what a seat knows that has taken another in: all that either has seen, and the places of both
  abbrev pub both_pasts : Past W E → Past W E → Past W E
  both_pasts p q = past p.opening p.number p.given (longer p.seen q.seen) (max p.most q.most) p.lost (p.places ++ q.places) p.left p.put (one_of p.turned q.turned)
