use Rattle.std.proofs.Common.{◌≡◌, ◌∷◌, ◌++◌, length}
use Rattle.schema_read.specs.Entries.{roots_of}
use Rattle.schema_read.proofs.catalog.roots.Given as goal

abbrev pub invariant-loop-left : goal.invariant-loop-left
invariant-loop-left l = 1 ∷ roots_of l.fn.found ≡ l.roots.items ++ roots_of l.left

abbrev pub decreases-loop-left : goal.decreases-loop-left
decreases-loop-left l = length l.left
