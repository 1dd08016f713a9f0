use Rattle.std.proofs.Common.{◌↔◌, drop}
use Rattle.tree_spec.specs.Bounds.{RisesIn}
use Rattle.tree_walk.specs.Places.{low_bound, rowids}
use Rattle.tree_walk.proofs.bounds.rise.Given as goal

abbrev pub invariant-loop-view : goal.invariant-loop-view
invariant-loop-view l = RisesIn (low_bound l.last) l.fn.high (rowids (drop l.view-index l.views)) ↔ RisesIn (low_bound l.fn.low) l.fn.high (rowids l.views)
