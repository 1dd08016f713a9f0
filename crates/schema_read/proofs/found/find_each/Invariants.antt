use Rattle.std.proofs.Common.{List, ◌++◌, length, map}
use Rattle.schema_read.specs.Found.{AreFound}
use Rattle.schema_read.specs.Rows.{member_of}
use Rattle.schema_read.specs.declared.found.Found.{Found}
use Rattle.schema_read.proofs.found.find_each.Given as goal

abbrev pub invariant-loop-left : goal.invariant-loop-left
invariant-loop-left l = (rest : List Found) → AreFound (map member_of l.left) rest → AreFound (map member_of l.fn.members) (l.found.items ++ rest)

abbrev pub decreases-loop-left : goal.decreases-loop-left
decreases-loop-left l = length l.left
