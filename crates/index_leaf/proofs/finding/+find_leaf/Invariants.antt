use Rattle.index_leaf.proofs.finding.+find_leaf.Given as goal

abbrev pub decreases-find_leaf : goal.decreases-find_leaf
decreases-find_leaf g l = l.levels
