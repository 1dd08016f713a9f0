use Rattle.std.proofs.Common.{length, ap, arith}
use Rattle.tree_table.proofs.DeletedWorlds.{if-err_all}
use Rattle.tree_table.proofs.Edits.{index-within}
use Rattle.tree_table.proofs.opening.step_below.Goals as goal

pub returns-clause-within : goal.returns-clause-within
returns-clause-within g c = omega (arith, index-within _ c.as_slice.result.now c.index_of-at.result c.index_of-at.ensures, ap length c.as_slice.ensures)

pub returns-in_err-child-clause-out : goal.returns-in_err-child-clause-out
returns-in_err-child-clause-out g c = if-err_all c.from_residual.result (λ all. c.in_err-child.ensures.out (all c.index_of-at.result))
