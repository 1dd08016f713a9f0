use Rattle.std.proofs.Common.{◌≡◌}
use Rattle.turn_lock.specs.Seats.{IsSeatOf, Rests, number_of}
use Rattle.thread_tests.proofs.locks.write_lines.Given as goal

abbrev pub invariant-loop-nth : goal.invariant-loop-nth
invariant-loop-nth g l = IsSeatOf l.seat l.lock × Rests l.seat × (number_of l.seat ≡ l.by)
