use Rattle.std.proofs.Common.{◌≡◌, List, map}
use Rattle.tree_spec.specs.Standing.{Sizes, Paged}
use Rattle.database_spec.specs.FileFindings.{Found, Needs}
use Rattle.database_laws.specs.RightFindings.{AreRight}
use Rattle.db_check.specs.Passes.{IsMarked}
use Rattle.db_check.proofs.Needs.{needed_to}
use Rattle.db_check.proofs.pages.check_pages.Given as goal

abbrev pub invariant-loop-at : goal.invariant-loop-at
invariant-loop-at g l = record {
  passed : (sizes : Sizes) (base : Paged) (before : List Found) → sizes.size ≡ l.size → base.count ≡ l.count → IsMarked l.flags before → AreRight before (map Needs (needed_to sizes base l.at));
}
