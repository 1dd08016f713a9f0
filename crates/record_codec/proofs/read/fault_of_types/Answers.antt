use Rattle.record_codec.proofs.Reading.{TypesContinue-one_more}
use Rattle.record_codec.proofs.read.fault_of_types.Goals as goal

pub loop-rest-preserved : goal.loop-rest-preserved
loop-rest-preserved c =
    TypesContinue-one_more c.args.types.now c.loop-rest.rest.now c.in-Ok.behind.now c.in-Ok.field-0-0 c.loop-rest.invariant c.in-Ok.ensures.found
