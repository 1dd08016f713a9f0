use Rattle.std.proofs.Common.{◌≡◌}
use Rattle.frame_pool.specs.Claims.{HasAll}
use Rattle.frame_pool.specs.Seats.{IsOnlySeat, IsSeatOf, claims_of, frame_size, parts_of, tries_of}
use Rattle.frame_pool.specs.Tries.{Loses}
use Rattle.frame_pool.proofs.pool.Pool.claim.Given as goal

abbrev pub invariant-loop-number : goal.invariant-loop-number
invariant-loop-number l = IsSeatOf l.seat l.self × (frame_size l.seat ≡ frame_size l.fn.seat) × (parts_of l.seat ≡ parts_of l.fn.seat)
    × (claims_of l.seat ≡ claims_of l.fn.seat) × Loses (tries_of l.fn.seat) (tries_of l.seat) l.number × (IsOnlySeat l.fn.seat → HasAll (claims_of l.fn.seat) l.number)
