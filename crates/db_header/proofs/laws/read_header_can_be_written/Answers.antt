use Rattle.db_header.specs.HeaderLaws.{is_header-read}
use Rattle.db_header.proofs.laws.read_header_can_be_written.Goals as goal

pub returns : goal.returns
returns c = is_header-read
