use Rattle.std.proofs.Common.{◌≡◌, [], List, length, map}
use Rattle.page_store.specs.Store.{Stays}
use Rattle.tree_walk.specs.Stores.{SeesTree}
use Rattle.database_spec.specs.FileFindings.{Walked}
use Rattle.db_check.specs.Passes.{IsMarked}
use Rattle.file_check.specs.Trees.{AreTreeWalks, seen}
use Rattle.file_check.proofs.Passing.{HasPassed}
use Rattle.file_check.proofs.trees.pass_trees.Given as goal

abbrev pub invariant-loop-left : goal.invariant-loop-left
invariant-loop-left g l = record {
  stays : Stays g.S.PageRead l.fn.store l.store;
  faults : g.S.PageRead.faults l.store ≡ g.S.PageRead.faults l.fn.store;
  count : g.S.PageRead.count l.store ≡ g.S.PageRead.count l.fn.store;
  flags : length l.flags ≡ length l.fn.flags;
  passed : SeesTree g.S.PageRead l.fn.store l.store (λ sizes base. (walks : List Walked) → AreTreeWalks sizes base (map seen l.fn.trees) walks → IsMarked l.fn.flags [] → HasPassed sizes base walks l.flags l.told (map seen l.left));
}

abbrev pub decreases-loop-left : goal.decreases-loop-left
decreases-loop-left g l = length l.left
