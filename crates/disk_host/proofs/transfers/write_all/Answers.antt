use Rattle.std.proofs.Common.{rules}
use Rattle.std.proofs.lemmas.List.{places}
use Rattle.disk_host.proofs.Pieces.{write-step}
use Rattle.disk_host.proofs.transfers.write_all.Goals as goal

pub loop-done-preserved : goal.loop-done-preserved
loop-done-preserved g c = (
  search (rules, places),
  write-step _ _ _ c.args.bytes.now c.loop-done.done c.in_ok-taken.taken c.loop-done.invariant.1 c.in_ok-taken.ensures.bytes,
)
