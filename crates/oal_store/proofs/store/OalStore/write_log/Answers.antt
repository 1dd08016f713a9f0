use Rattle.std.proofs.Common.{arith}
use Rattle.oal_store.proofs.Appended.{growing-then, growing-sync}
use Rattle.oal_store.proofs.store.OalStore.write_log.Goals as goal

pub returns-in_err-sync-clause-moments : goal.returns-in_err-sync-clause-moments
returns-in_err-sync-clause-moments g c =
    let size = c.args.self.now.log.size in
    growing-then size size (omega arith) c.append_pages.ensures.moments (growing-sync c.sync.result size c.sync.ensures.moments)

pub returns-clause-moments : goal.returns-clause-moments
returns-clause-moments g c =
    let size = c.args.self.now.log.size in
    growing-then size size (omega arith) c.append_pages.ensures.moments (growing-sync c.sync.result size c.sync.ensures.moments)
