-- What each step tells its seat: the step, the seat before, the number found, and the seat after.
use Rattle.std.specs.Prelude.{◌≡◌, ℕ, ◌/◌, ◌%◌, ◌<◌, [], ◌∷◌, ◌++◌, Some, None, IfSome}
use Rattle.std.specs.Int.{bit_at}
use Rattle.atomic_table.specs.Table.{Me, Step}
use Rattle.frame_pool.specs.declared.frame.Frame.{Frame}
use Rattle.frame_pool.specs.declared.view.View.{View}
use Rattle.frame_pool.specs.Bits.{mask}
use Rattle.frame_pool.specs.Claims.{Has, without}
use Rattle.frame_pool.specs.Frames.{number_of, size_of}
use Rattle.frame_pool.specs.Rule.{Slot}
use Rattle.frame_pool.specs.Views.{view, whole}

-- a seat's view, and the slots that are out with it
abbrev pub Seated : Type 0
Seated = Me Slot View

-- a try at the frame k. It is won where the bit did not stand, and the frame comes with its slot. Where it is lost by a seat with all parts, that seat has the frame
abbrev pub Tried : Seated → ℕ → Seated → ℕ → Type 0
Tried m r n k =
    (bit_at r (k % 64) ≡ 0 → (f : Frame) × (n ≡ (view m.0.size m.0.parts (k ∷ m.0.claimed) (Some k) (m.0.tries ++ r ∷ []), (k, Some f) ∷ []))
    × (number_of f ≡ k) × (size_of f ≡ m.0.size) × (Has m.0.claimed k → ⊥))
    × (bit_at r (k % 64) ≡ 1 → (n ≡ (view m.0.size m.0.parts m.0.claimed None (m.0.tries ++ r ∷ []), [])) × (m.0.parts ≡ whole → Has m.0.claimed k))

-- the operand is the bit of the frame
abbrev pub Claims : Step Slot → Seated → ℕ → Seated → Type 0
Claims st m r n = (k : ℕ) → st.word ≡ k / 64 → st.first ≡ mask k → Tried m r n k

-- the slot that is out goes home empty
abbrev pub Settles : Step Slot → Seated → ℕ → Seated → Type 0
Settles st m r n = n ≡ (view m.0.size m.0.parts m.0.claimed None m.0.tries, [])

-- the operand is the number of the slot, which is taken
abbrev pub Reopens : Step Slot → Seated → ℕ → Seated → Type 0
Reopens st m r n = (n ≡ (view m.0.size m.0.parts m.0.claimed (Some st.first) m.0.tries, (st.first, None) ∷ [])) × (st.first < st.slots)

-- the frame whose slot is out goes home, and is claimed no longer
abbrev pub Releases : Step Slot → Seated → ℕ → Seated → Type 0
Releases st m r n = IfSome m.0.out (λ k. n ≡ (view m.0.size m.0.parts (without k m.0.claimed) None m.0.tries, []))
