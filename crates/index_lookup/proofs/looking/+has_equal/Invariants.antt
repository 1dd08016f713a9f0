use Rattle.index_lookup.proofs.looking.+has_equal.Given as goal

abbrev pub decreases-has_equal : goal.decreases-has_equal
decreases-has_equal g l = l.levels
