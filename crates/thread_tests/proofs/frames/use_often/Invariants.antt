use Rattle.std.proofs.Common.{◌≡◌, []}
use Rattle.frame_pool.specs.Seats.{IsSeatOf, claims_of, parts_of}
use Rattle.thread_tests.proofs.frames.use_often.Given as goal

abbrev pub invariant-loop : goal.invariant-loop
invariant-loop l = IsSeatOf l.seat l.pool × (claims_of l.seat ≡ []) × (parts_of l.seat ≡ parts_of l.fn.seat)
