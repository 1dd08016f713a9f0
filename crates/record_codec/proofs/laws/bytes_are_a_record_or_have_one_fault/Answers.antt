use Rattle.record_codec.specs.FaultsLaws.{answer-one}
use Rattle.record_codec.proofs.laws.bytes_are_a_record_or_have_one_fault.Goals as goal

pub returns : goal.returns
returns c = answer-one
