use Rattle.std.proofs.Common.{ℕ, ◌+◌, drop}
use Rattle.tree_walk.specs.Places.{rowids}
use Rattle.tree_walk.specs.Seeks.{IsIndexOf}
use Rattle.tree_walk.proofs.seeking.index_of.Given as goal

abbrev pub invariant-loop-at : goal.invariant-loop-at
invariant-loop-at l = (k : ℕ) → IsIndexOf l.fn.rowid (rowids (drop l.at l.views)) k → IsIndexOf l.fn.rowid (rowids l.views) (l.at + k)
