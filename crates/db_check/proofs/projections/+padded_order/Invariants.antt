use Rattle.std.proofs.Common.{length}
use Rattle.db_check.proofs.projections.+padded_order.Given as goal

abbrev pub decreases-padded_order : goal.decreases-padded_order
decreases-padded_order l = length l.columns.now
