use Rattle.std.proofs.Common.{◌≡◌}
use Rattle.reader_threads.proofs.reader.begin_read.Given as goal

abbrev pub invariant-loop : goal.invariant-loop
invariant-loop g l = (g.T.ReadTurns.tally l.turns ≡ g.T.ReadTurns.tally l.fn.turns) × (goal.iterator-loop g).can_next l.iterator' × (goal.iterator-loop g).is_finite l.iterator'
