-- What a caller says of a pool and its seats.
use Rattle.std.specs.Prelude.{◌≡◌, ℕ, List, length, map}
use Rattle.std.specs.List.{All}
use mathlib.Core.Option.{some}
use lib.ListN.{get_elem?}
use Rattle.atomic_table.specs.Table.{State}
use Rattle.frame_pool.specs.declared.frame.Frame.{Frame}
use Rattle.frame_pool.specs.declared.pool.Pool.{Pool}
use Rattle.frame_pool.specs.declared.pool.PoolSeat.{PoolSeat}
use Rattle.frame_pool.specs.declared.view.View.{View}
use Rattle.frame_pool.specs.Claims.{lacking}
use Rattle.frame_pool.specs.Frames.{number_of, size_of}
use Rattle.frame_pool.specs.Rule.{Kept, Slot, unlent}
use Rattle.frame_pool.specs.Views.{whole}

-- the seat is one of the pool's
abbrev pub IsSeatOf : PoolSeat → Pool → Type 0
IsSeatOf s p = (s.seat.table_id ≡ p.table.shared.table_id) × (s.seat.me.0.size ≡ p.table.shared.key)

-- how many frames the pool was made with
abbrev pub frame_count : Pool → ℕ
frame_count p = p.table.shared.table_id.slots

-- the length of each frame of the pool, in bytes
abbrev pub frame_size : PoolSeat → ℕ
frame_size s = s.seat.me.0.size

-- the numbers of the frames that are claimed with the seat, the last first
abbrev pub claims_of : PoolSeat → List ℕ
claims_of s = s.seat.me.0.claimed

-- what each try with the seat found in the word of its bit, in order
abbrev pub tries_of : PoolSeat → List ℕ
tries_of s = s.seat.me.0.tries

-- the seat's share of the right to know the whole
abbrev pub parts_of : PoolSeat → ℕ
parts_of s = s.seat.me.0.parts

-- the seat has all parts, so that there is no other
abbrev pub IsOnlySeat : PoolSeat → Type 0
IsOnlySeat s = parts_of s ≡ whole

-- all but the parts
abbrev pub SameSeat : PoolSeat → PoolSeat → Type 0
SameSeat s t = (claims_of s ≡ claims_of t) × (frame_size s ≡ frame_size t) × (tries_of s ≡ tries_of t)

-- these are the frames that a pool of so many frames has at its last step, when the seat id had the view v: those whose bit did not stand
pub record Left (size slots id : ℕ) (v : View) (frames : List Frame) : Type 0 where
  pub last : State Slot View
  pub kept : Kept size last
  pub seen : get_elem? last.views id ≡ some v
  pub wide : length last.homes ≡ slots
  pub are : map (λ f. number_of f) frames ≡ unlent last.words slots
  pub sized : All (λ f. size_of f ≡ size) frames

-- these are the frames that the pool has at its end
abbrev pub Remains : Pool → PoolSeat → List Frame → Type 0
Remains p s frames = Left p.table.shared.key p.table.shared.table_id.slots s.seat.id s.seat.me.0 frames

-- these frames have the numbers that are not claimed with the seat, in order
abbrev pub AreUnclaimed : Pool → PoolSeat → List Frame → Type 0
AreUnclaimed p s frames = map (λ f. number_of f) frames ≡ lacking (claims_of s) (frame_count p)
