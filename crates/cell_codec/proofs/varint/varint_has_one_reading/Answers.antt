use Rattle.cell_codec.specs.VarintLaws.{varint-same}
use Rattle.cell_codec.proofs.varint.varint_has_one_reading.Goals as goal

pub returns : goal.returns
returns c = λ a b x y m n v w e. varint-same x y v w e
