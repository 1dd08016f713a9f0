-- What a seat knows of a value that it takes.
use Rattle.std.specs.Prelude.{◌≡◌, ℕ, ◌<◌, ◌≤◌, length, Option, Some, IfSome}
use mathlib.Core.Option.{some}
use mathlib.Core.List.{IsPrefix}
use lib.ListN.{get_elem?}
use Rattle.turn_lock.specs.declared.story.Story.{Ghosts}
use Rattle.turn_lock.specs.declared.view.Past.{Past}
use Rattle.turn_lock.specs.Lists.{times, once_below}
use Rattle.turn_lock.specs.Views.{turned_after}

-- what a seat with this past knows of a value that it takes, t being the first value that had turned
pub record Meets {W E : Type 0} (S : Ghosts W E) (p : Past W E) (t : Option W) (value : W) : Type 0 where
  -- the history begins with all that the seat has seen
  pub sees : IsPrefix p.seen (S.history value)
  -- the count is at least the greatest that the seat has seen
  pub counts : p.most ≤ S.count value
  -- the first value that had turned is the one that the seat knew
  pub turned : (x : W) → p.turned ≡ Some x → t ≡ Some x
  -- there is one if this value has turned
  pub settled : turned_after S t value ≡ t
  -- the value stands for the one that the lock was made with, and for the first that had turned
  pub stays : IfSome p.opening (λ opening. S.stands opening t value)
  -- an entry of the seat's number stands at one of the seat's places
  pub own : (k : ℕ) (e : E) → get_elem? (S.history value) k ≡ some e → S.actor e ≡ p.number → 0 < times k p.places
  -- these are places of the history, and all different
  pub once : (k : ℕ) → times k p.places ≤ once_below k (length (S.history value))
  -- the first seat has the part that it put back last
  pub first : p.number ≡ 0 → (x : W) × (p.put ≡ Some x) × (S.part value ≡ S.part x)
