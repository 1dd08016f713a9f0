use Rattle.std.proofs.Common.{◌≡◌, ◌+◌, length}
use Rattle.schema_read.specs.Members.{WillHaveLookups}
use Rattle.schema_read.proofs.members.lookups_of.Given as goal

abbrev pub invariant-loop-left : goal.invariant-loop-left
invariant-loop-left l = (l.at + length l.left ≡ length l.found) × WillHaveLookups l.lookups l.at l.left l.found

abbrev pub decreases-loop-left : goal.decreases-loop-left
decreases-loop-left l = length l.left
