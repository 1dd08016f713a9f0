-- What follows from the rule.
use Rattle.std.specs.Prelude.{◌≡◌, ◌↔◌, ℕ, ◌<◌, length}
use Rattle.atomic_table.specs.Table.{State}
use Rattle.frame_pool.specs.declared.view.View.{View}
use Rattle.frame_pool.specs.Bits.{stands}
use Rattle.frame_pool.specs.Rule.{Disjoint, IsLent, Lies, Slot}

-- in each state that keeps the rule: no frame is claimed by two seats, a bit stands exactly where some seat has claimed its frame, and a frame whose bit does not stand is at home
pub record LentOnce (size : ℕ) (s : State Slot View) : Type 0 where
  pub alone : Disjoint s.views
  pub stands_if_lent : (k : ℕ) → k < length s.homes → (stands s.words k ≡ 1) ↔ IsLent s.views k
  pub home : (k : ℕ) → k < length s.homes → stands s.words k ≡ 0 → Lies size s.homes k
