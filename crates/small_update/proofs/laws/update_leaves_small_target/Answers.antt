use Rattle.small_update.proofs.Again.{small_target-again}
use Rattle.small_update.proofs.laws.update_leaves_small_target.Goals as goal

pub returns : goal.returns
returns c = small_target-again
