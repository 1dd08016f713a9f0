use Rattle.std.proofs.lemmas.Option.{IfSome_then}
use Rattle.tree_walk.specs.Pages.{tree_kind}
use Rattle.tree_walk.specs.Places.{low_at, high_at}
use Rattle.tree_walk.proofs.Calls.{owes-free, refused-page}
use Rattle.tree_walk.proofs.entering.enter_page.Goals as goal

pub returns-in-Ok-clause-pages : goal.returns-in-Ok-clause-pages
returns-in-Ok-clause-pages g c =
    let a = c.args in
    let reads = c.in-Ok.ensures.pages in
    record {
      same = reads.same;
      count = reads.count;
      answer = IfSome_then (g.S.PageRead.pages a.store.now) reads.answer (λ m decoded. c.stand_below.ensures.answer (m a.number) a.number (g.S.PageRead.usable a.store.now) decoded);
    }

pub returns-in-Err-clause-pages : goal.returns-in-Err-clause-pages
returns-in-Err-clause-pages g c =
    let a = c.args in
    let reads = c.in-Err.ensures.pages in
    let parent = a.parent.now in
    record {
      same = reads.same;
      count = reads.count;
      answer = IfSome_then (g.S.PageRead.pages a.store.now) reads.answer (λ m bad.
          refused-page (m a.number) a.number (g.S.PageRead.usable a.store.now) (tree_kind parent.page.kind) (low_at parent) (high_at parent) c.in-Err.fault bad);
    }

pub returns-in-Ok-clause-owes : goal.returns-in-Ok-clause-owes
returns-in-Ok-clause-owes g c = let owes = c.in-Ok.ensures.owes in owes-free g.S.PageRead c.stand_below.result owes.stays owes.faults.still c.stand_below.ensures.cause
