use Rattle.std.proofs.Common.{length}
use Rattle.db_check.proofs.members.+columns_order.Given as goal

abbrev pub decreases-columns_order : goal.decreases-columns_order
decreases-columns_order l = length l.columns.now
