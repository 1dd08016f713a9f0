use Rattle.std.proofs.Common.{arith}
use Rattle.wal_codec.proofs.HeadersLemmas.{frame_header-written}
use Rattle.wal_codec.proofs.headers.write_frame_header.Goals as goal

pub returns-clause-header : goal.returns-clause-header
returns-clause-header c =
    (frame_header-written c.args.big c.args.number c.args.commit c.args.salt c.args.sums c.args.page.now c.args.into.now
    c.write_u32_into.new.dst c.checksum-sums.result c.checksum-sums-2.result c.write_u32_into-2.new.dst
    (omega arith) c.write_u32_into.ensures c.checksum-sums.ensures c.checksum-sums-2.ensures c.write_u32_into-2.ensures).0
