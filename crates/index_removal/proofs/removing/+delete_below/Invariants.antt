use Rattle.index_removal.proofs.removing.+delete_below.Given as goal

abbrev pub decreases-delete_below : goal.decreases-delete_below
decreases-delete_below g l = l.levels
