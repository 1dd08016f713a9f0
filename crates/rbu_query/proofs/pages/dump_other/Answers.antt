use Rattle.std.proofs.lemmas.Option.{IfSome_then}
use Rattle.tree_walk.specs.Stores.{sizes_of, paged}
use Rattle.dump_spec.specs.TableDumps.{IsTableAnswer}
use Rattle.rbu_query.proofs.Answering.{split-answers, split-counts}
use Rattle.rbu_query.proofs.pages.dump_other.Goals as goal

pub returns-clause-pages : goal.returns-clause-pages
returns-clause-pages g c =
    let store = c.args.pages.now in
    let answers = c.dump_table.ensures.pages in
    record {
      same = answers.same;
      count = answers.count;
      answer = IfSome_then (g.S.PageRead.pages store) answers.answer (λ m told.
          split-answers (IsTableAnswer (sizes_of g.S.PageRead store) (paged g.S.PageRead store m) c.args.name.now) c.dump_table.result c.split_refusal.result c.split_refusal.ensures told);
    }

pub returns-clause-owes : goal.returns-clause-owes
returns-clause-owes g c = record {
  stays = c.dump_table.ensures.owes.stays;
  faults = split-counts g.S.PageRead.fault_count g.S.PageRead.Fails _ _ c.dump_table.result c.split_refusal.result c.split_refusal.ensures c.dump_table.ensures.owes.faults;
}
