-- What a caller says of a lock and its seats.
use Rattle.std.specs.Prelude.{◌≡◌, ℕ, List, Option, Some, None}
use Rattle.atomic_table.specs.declared.shared.Seat.{Seat}
use Rattle.turn_lock.specs.declared.lock.TurnLock.{TurnLock}
use Rattle.turn_lock.specs.declared.view.Past.{Past}
use Rattle.turn_lock.specs.declared.view.View.{View}
use Rattle.turn_lock.specs.Steps.{guest, holder}
use Rattle.turn_lock.specs.Views.{Lives}

-- a seat of a lock over W, since antt has no name for an alias
abbrev pub LockSeat : Type 0 → Type 0 → Type 0
LockSeat W E = Seat (Option W) (View W E)

module _ {W E : Type 0} where
  -- the seat is one of the lock's
  abbrev pub IsSeatOf : LockSeat W E → TurnLock W E → Type 0
  IsSeatOf s lock = s.table_id ≡ lock.table.shared.table_id

  -- what stays with the seat
  abbrev pub past_of : LockSeat W E → Past W E
  past_of s = s.me.0.past

  -- its number
  abbrev pub number_of : LockSeat W E → ℕ
  number_of s = s.me.0.past.number

  -- the history that it has seen
  abbrev pub seen_by : LockSeat W E → List E
  seen_by s = s.me.0.past.seen

  -- the first value that had turned, where the seat knows of one
  abbrev pub turned_of : LockSeat W E → Option W
  turned_of s = s.me.0.past.turned

  -- the value that the lock was made with
  abbrev pub opening_of : LockSeat W E → Option W
  opening_of s = s.me.0.past.opening

  -- while the seat has the turn: the value that it has taken
  abbrev pub taken_of : LockSeat W E → Option W
  taken_of s = s.me.0.turn.taken

  -- while the seat has the turn: the whole history
  abbrev pub whole_of : LockSeat W E → List E
  whole_of s = s.me.0.turn.whole

  -- the seat does not have the turn
  abbrev pub Rests : LockSeat W E → Type 0
  Rests s = (s.me ≡ guest (past_of s)) × Lives (past_of s)

  -- the seat has the turn, and its value is with its caller
  abbrev pub HasTurn : LockSeat W E → Type 0
  HasTurn s = (s.me ≡ holder (past_of s) (whole_of s) (taken_of s) None) × Lives (past_of s)

  -- the seat has the turn, and has taken this value with this history
  abbrev pub HasTaken : LockSeat W E → W → List E → Type 0
  HasTaken s value history = HasTurn s × (taken_of s ≡ Some value) × (whole_of s ≡ history)
