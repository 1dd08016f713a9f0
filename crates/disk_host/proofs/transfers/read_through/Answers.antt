use Rattle.std.proofs.Common.{rules}
use Rattle.std.proofs.lemmas.List.{places}
use Rattle.disk_host.proofs.Pieces.{read-step}
use Rattle.disk_host.proofs.transfers.read_through.Goals as goal

pub loop-done-preserved : goal.loop-done-preserved
loop-done-preserved g c =
    let before = c.loop-done.invariant in
    let read = c.in_ok-n.ensures in
    let step = read-step _ _ _ c.args.into.now c.loop-done.into c.read_once.new.into c.loop-done.done c.in_ok-n.n before.0 before.1 read.rest before.2 read.bytes in
    (search (rules, places), step.0, step.1)
