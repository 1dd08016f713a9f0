use Rattle.std.proofs.Common.{◌≡◌, ◌++◌, List, length, map}
use Rattle.std.specs.List.{range_with_len}
use Rattle.tree_spec.specs.Standing.{Sizes, Paged}
use Rattle.database_spec.specs.FileFindings.{Found, leaf_found}
use Rattle.database_laws.specs.RightFindings.{AreRight}
use Rattle.db_check.specs.Passes.{IsMarked}
use Rattle.db_check.proofs.freelist.pass_leaves.Given as goal

abbrev pub invariant-loop-at : goal.invariant-loop-at
invariant-loop-at g l = record {
  flags : length l.flags ≡ length l.fn.flags;
  passed : (sizes : Sizes) (base : Paged) (before : List Found) → sizes.size ≡ l.fn.size → base.count ≡ l.fn.count → base.pages l.fn.trunk ≡ l.fn.page → IsMarked l.fn.flags before
      → AreRight before (map (leaf_found sizes base l.fn.trunk) (range_with_len 0 l.at))
      × IsMarked l.flags (before ++ map (leaf_found sizes base l.fn.trunk) (range_with_len 0 l.at));
}
