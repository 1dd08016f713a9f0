use Rattle.std.proofs.Common.{◌≡◌, ◌++◌, length, map}
use Rattle.std.specs.List.{flat_map}
use Rattle.file_check.specs.Trees.{catalog_trees, entry_trees, seen}
use Rattle.file_check.proofs.roots.catalog_trees.Given as goal

abbrev pub invariant-loop-left : goal.invariant-loop-left
invariant-loop-left l = map seen l.trees.items ++ flat_map (λ named. entry_trees named.entry) l.left ≡ catalog_trees l.catalog

abbrev pub decreases-loop-left : goal.decreases-loop-left
decreases-loop-left l = length l.left
