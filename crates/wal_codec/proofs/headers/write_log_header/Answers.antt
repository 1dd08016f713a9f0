use Rattle.std.proofs.Common.{arith}
use Rattle.wal_codec.proofs.HeadersLemmas.{log_header-written}
use Rattle.wal_codec.proofs.headers.write_log_header.Goals as goal

pub returns-clause-header : goal.returns-clause-header
returns-clause-header c =
    (log_header-written c.args.big c.args.page_size c.args.sequence c.magic.result c.args.salt c.args.into.now c.write_u32_into.new.dst c.checksum-sums.result c.write_u32_into-2.new.dst
    c.magic.ensures (omega arith) (omega arith) c.write_u32_into.ensures c.checksum-sums.ensures c.write_u32_into-2.ensures).0
