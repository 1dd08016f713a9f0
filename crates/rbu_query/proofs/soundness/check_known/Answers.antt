use Rattle.std.proofs.lemmas.Option.{IfSome_then}
use Rattle.tree_walk.specs.Stores.{sizes_of, paged}
use Rattle.rbu_query.proofs.CheckAnswers.{known-sound, known-wrong}
use Rattle.rbu_query.proofs.soundness.check_known.Goals as goal

pub returns-in-Ok-sound_text-clause-pages : goal.returns-in-Ok-sound_text-clause-pages
returns-in-Ok-sound_text-clause-pages g c =
    let store = c.args.store.now in
    let checks = c.in-Ok.ensures.pages in
    record {
      same = checks.same;
      count = checks.count;
      answer = IfSome_then (g.S.PageRead.pages store) checks.answer (λ m told has.
          known-sound (sizes_of g.S.PageRead store) (paged g.S.PageRead store m) c.args.catalog.now g.row.S-Fault.Denot c.in-Ok.census c.in-Ok-sound_text.text (told has) c.in-Ok-sound_text.ensures);
    }

pub returns-in-Err-clause-pages : goal.returns-in-Err-clause-pages
returns-in-Err-clause-pages g c =
    let store = c.args.store.now in
    let checks = c.in-Err.ensures.pages in
    record {
      same = checks.same;
      count = checks.count;
      answer = IfSome_then (g.S.PageRead.pages store) checks.answer (λ m told has.
          known-wrong (sizes_of g.S.PageRead store) (paged g.S.PageRead store m) c.args.catalog.now c.in-Err.fault c.of_check.result c.of_check.ensures.is (told has));
    }
