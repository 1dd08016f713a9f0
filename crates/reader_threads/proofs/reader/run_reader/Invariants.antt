use Rattle.std.proofs.Common.{◌≡◌}
use Rattle.reader_threads.specs.Tallies.{after_reads}
use Rattle.reader_threads.proofs.reader.run_reader.Given as goal

abbrev pub invariant-loop-ended : goal.invariant-loop-ended
invariant-loop-ended g l = g.T.ReadTurns.tally l.turns ≡ after_reads l.ended (g.T.ReadTurns.tally l.fn.turns)
