use Rattle.std.proofs.Common.{◌≡◌, ◌++◌, length}
use Rattle.prepared_spec.specs.Inputs.{grouped}
use Rattle.rbu_input.proofs.groups.group_all.Given as goal

abbrev pub invariant-loop-most : goal.invariant-loop-most
invariant-loop-most l = grouped (length l.fn.batches.items) l.fn.batches.items ≡ l.groups.items ++ grouped l.most l.left.items

abbrev pub decreases-loop-most : goal.decreases-loop-most
decreases-loop-most l = l.most
