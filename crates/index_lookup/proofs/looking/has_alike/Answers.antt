use Rattle.std.proofs.Common.{subst, refl}
use Rattle.std.proofs.lemmas.Option.{IfSome_then}
use Rattle.page_store.specs.StoreLaws.{some-all}
use Rattle.tree_walk.specs.Stores.{paged, sizes_of}
use Rattle.index_lookup.specs.Alikes.{TellsNull}
use Rattle.index_lookup.proofs.Roots.{null-answer, root-answer}
use Rattle.index_lookup.proofs.looking.has_alike.Goals as goal

pub returns-then-branch-clause-pages : goal.returns-then-branch-clause-pages
returns-then-branch-clause-pages g c =
    let S = g.S.PageRead in
    let a = c.args.store.now in
    let order = c.args.order.now in
    let payload = c.args.payload.now in
    let null = subst (TellsNull order payload) c.if-branch.true c.in_ok-has_null.ensures in
    record {
      same = refl;
      count = refl;
      answer = some-all (S.pages a) (λ m. null-answer (sizes_of S a) (paged S a m) c.args.root order payload c.requires.entry null);
    }

pub returns-clause-pages : goal.returns-clause-pages
returns-clause-pages g c =
    let S = g.S.PageRead in
    let a = c.args.store.now in
    let order = c.args.order.now in
    let payload = c.args.payload.now in
    let below = c.has_equal.ensures.pages in
    let whole = subst (TellsNull order payload) c.if-branch.false c.in_ok-has_null.ensures in
    record {
      same = below.same;
      count = below.count;
      answer = IfSome_then (S.pages a) below.answer (λ m under. root-answer (sizes_of S a) (paged S a m) c.args.root order payload c.has_equal.result whole under);
    }
