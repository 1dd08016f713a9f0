use Rattle.std.proofs.Common.{◌≡◌, ◌++◌, length, map}
use Rattle.file_check.specs.Trees.{OfIndex, seen}
use Rattle.file_check.proofs.roots.push_indexes.Given as goal

abbrev pub invariant-loop-left : goal.invariant-loop-left
invariant-loop-left l = map seen l.trees.items ++ map (OfIndex l.entry) l.left ≡ map seen l.fn.trees.items ++ map (OfIndex l.entry) l.entry.indexes

abbrev pub decreases-loop-left : goal.decreases-loop-left
decreases-loop-left l = length l.left
