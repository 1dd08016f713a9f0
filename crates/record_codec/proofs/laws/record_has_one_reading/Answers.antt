use Rattle.record_codec.specs.RecordLaws.{record-same}
use Rattle.record_codec.proofs.laws.record_has_one_reading.Goals as goal

pub returns : goal.returns
returns c = λ a b bytes others x y r s e. record-same a b bytes others x y r s e
