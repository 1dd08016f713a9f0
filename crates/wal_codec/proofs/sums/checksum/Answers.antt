use Rattle.wal_codec.proofs.SumsLemmas.{checksum-turn}
use Rattle.wal_codec.proofs.sums.checksum.Goals as goal

pub loop-left-preserved : goal.loop-left-preserved
loop-left-preserved c =
    checksum-turn _ _ _ _ _ _ _ c.in-len8-up.len_at_least c.number.ensures c.number-in-len8-up.ensures c.loop-left.invariant
