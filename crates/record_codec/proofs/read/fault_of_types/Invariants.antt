use Rattle.std.proofs.Common.{length}
use Rattle.record_codec.proofs.Reading.{TypesContinue}
use Rattle.record_codec.proofs.read.fault_of_types.Given as goal

abbrev pub invariant-loop-rest : goal.invariant-loop-rest
invariant-loop-rest l = TypesContinue l.types l.rest

abbrev pub decreases-loop-rest : goal.decreases-loop-rest
decreases-loop-rest l = length l.rest
