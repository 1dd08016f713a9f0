use Rattle.record_codec.specs.RecordLaws.{canonical_record-apart}
use Rattle.record_codec.proofs.laws.canonical_records_are_apart.Goals as goal

pub returns : goal.returns
returns c = λ format a b x y h k e. canonical_record-apart format a b x y h k e
