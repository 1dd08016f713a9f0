use Rattle.thread_tests.proofs.frames.+claim_in_turn.Given as goal

abbrev pub decreases-claim_in_turn : goal.decreases-claim_in_turn
decreases-claim_in_turn l = l.limit
