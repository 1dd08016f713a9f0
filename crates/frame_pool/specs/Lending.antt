-- The bytes of a frame, lent.
use Rattle.std.specs.Prelude.{ℕ, List}
use Rattle.std.specs.Borrow.{Lends, MutBor, Fml, u8, Array}
use Rattle.std.specs.Vec.{with_items}
use Rattle.frame_pool.specs.declared.frame.Frame.{Frame}
use Rattle.frame_pool.specs.contracts.frame.Frame.{the_row}

-- the frame with other bytes, as many as before
abbrev pub with_bytes : Frame → List ℕ → Frame
with_bytes f ws = record f { bytes = with_items f.bytes ws }

-- the frame ends with the bytes that were last written through r
abbrev pub LendsBytes : MutBor Frame → MutBor (List ℕ) → Fml
LendsBytes f r = Lends the_row (Array u8 0) f r (with_bytes f.now)
