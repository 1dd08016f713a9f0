use Rattle.db_header.specs.HeaderLaws.{drop-header_written, length-header_written, reads-header_written, valid-header_written}
use Rattle.db_header.proofs.laws.written_header_is_read.Goals as goal

pub returns : goal.returns
returns c = record {
  read = reads-header_written;
  valid = valid-header_written;
  long = length-header_written;
  behind = drop-header_written;
}
