use Rattle.std.proofs.lemmas.Option.{IfSome_then}
use Rattle.tree_walk.proofs.Calls.{owes-free, refused-root}
use Rattle.tree_walk.proofs.entering.enter_root.Goals as goal

pub returns-in-Ok-clause-pages : goal.returns-in-Ok-clause-pages
returns-in-Ok-clause-pages g c =
    let a = c.args in
    let reads = c.in-Ok.ensures.pages in
    record {
      same = reads.same;
      count = reads.count;
      answer = IfSome_then (g.S.PageRead.pages a.store.now) reads.answer (λ m decoded. c.stand_at_root.ensures.answer (m a.root) a.root (g.S.PageRead.usable a.store.now) decoded);
    }

pub returns-in-Err-clause-pages : goal.returns-in-Err-clause-pages
returns-in-Err-clause-pages g c =
    let a = c.args in
    let reads = c.in-Err.ensures.pages in
    record {
      same = reads.same;
      count = reads.count;
      answer = IfSome_then (g.S.PageRead.pages a.store.now) reads.answer (λ m bad. refused-root (m a.root) a.root (g.S.PageRead.usable a.store.now) a.kind c.in-Err.fault bad);
    }

pub returns-in-Ok-clause-owes : goal.returns-in-Ok-clause-owes
returns-in-Ok-clause-owes g c = let owes = c.in-Ok.ensures.owes in owes-free g.S.PageRead c.stand_at_root.result owes.stays owes.faults.still c.stand_at_root.ensures.cause
