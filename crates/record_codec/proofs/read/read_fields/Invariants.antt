use Rattle.std.proofs.Common.{length}
use Rattle.record_codec.proofs.Reading.{FieldsContinue}
use Rattle.record_codec.proofs.read.read_fields.Given as goal

abbrev pub invariant-loop-types_left : goal.invariant-loop-types_left
invariant-loop-types_left l = FieldsContinue l.types l.bodies l.types_left l.bodies_left l.values.items

abbrev pub decreases-loop-types_left : goal.decreases-loop-types_left
decreases-loop-types_left l = length l.types_left
