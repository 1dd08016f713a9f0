use Rattle.std.proofs.lemmas.Option.{IfSome_then}
use Rattle.tree_walk.specs.Stores.{sizes_of, paged}
use Rattle.check_spec.specs.Checks.{IsSoundAnswer}
use Rattle.rbu_query.proofs.Answering.{split-answers, split-counts}
use Rattle.rbu_query.proofs.pages.check_pages.Goals as goal

pub returns-clause-pages : goal.returns-clause-pages
returns-clause-pages g c =
    let store = c.args.pages.now in
    let answers = c.check_store.ensures.pages in
    record {
      same = answers.same;
      count = answers.count;
      answer = IfSome_then (g.S.PageRead.pages store) answers.answer (λ m told.
          split-answers (IsSoundAnswer (sizes_of g.S.PageRead store) (paged g.S.PageRead store m)) c.check_store.result c.split_refusal.result c.split_refusal.ensures told);
    }

pub returns-clause-owes : goal.returns-clause-owes
returns-clause-owes g c = record {
  stays = c.check_store.ensures.owes.stays;
  faults = split-counts g.S.PageRead.fault_count g.S.PageRead.Fails _ _ c.check_store.result c.split_refusal.result c.split_refusal.ensures c.check_store.ensures.owes.faults;
}
