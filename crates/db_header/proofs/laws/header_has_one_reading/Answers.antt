use Rattle.db_header.specs.HeaderLaws.{answer-one}
use Rattle.db_header.proofs.laws.header_has_one_reading.Goals as goal

pub returns : goal.returns
returns c = answer-one
