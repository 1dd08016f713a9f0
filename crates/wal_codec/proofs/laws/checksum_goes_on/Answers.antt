use Rattle.wal_codec.specs.LogLaws.{checksum-append}
use Rattle.wal_codec.proofs.laws.checksum_goes_on.Goals as goal

pub returns : goal.returns
returns c = checksum-append
