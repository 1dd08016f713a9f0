use Rattle.tree_walk.proofs.Lengths.{none-past}
use Rattle.tree_walk.proofs.laws.no_cell_is_left_past_the_last.Goals as goal

pub returns : goal.returns
returns c = none-past
