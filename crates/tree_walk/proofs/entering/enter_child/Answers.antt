use Rattle.std.proofs.Common.{Err, refl, inl, inr, subst, arith}
use Rattle.std.proofs.Math.Path.{subst⁻¹}
use Rattle.std.proofs.lemmas.Option.{IfSome_then}
use Rattle.tree_spec.specs.Faults.{IsDamageOrOther}
use Rattle.page_spec.specs.Pages.{IsInRange}
use Rattle.tree_walk.specs.Places.{IsBadStep}
use Rattle.page_store.specs.StoreLaws.{some-all}
use Rattle.tree_walk.proofs.Calls.{owes-free, bad_number-step, page-child, ok-so}
use Rattle.tree_walk.proofs.entering.enter_child.Goals as goal

pub returns-in-Err-clause-pages : goal.returns-in-Err-clause-pages
returns-in-Err-clause-pages g c =
    let a = c.args in
    let store = a.store.now in
    record {
      same = refl;
      count = refl;
      answer = some-all (g.S.PageRead.pages store) (λ m.
          bad_number-step m (g.S.PageRead.size store) (g.S.PageRead.usable store) (g.S.PageRead.count store) a.parent.now a.above c.in-Err.fault c.in-Err.ensures.answer);
    }

pub returns-then-above-ge24-clause-pages : goal.returns-then-above-ge24-clause-pages
returns-then-above-ge24-clause-pages g c =
    let a = c.args in
    let store = a.store.now in
    record {
      same = refl;
      count = refl;
      answer = some-all (g.S.PageRead.pages store) (λ m.
          subst⁻¹ (λ f. IsDamageOrOther (IsBadStep m (g.S.PageRead.size store) (g.S.PageRead.usable store) (g.S.PageRead.count store) a.parent.now a.above) f) c.damaged.ensures.is
          (inr (inl (subst (IsInRange (g.S.PageRead.size store) (g.S.PageRead.count store)) c.in-Ok.ensures.answer.0 c.in-Ok.ensures.answer.1, c.in-Ok.ensures.answer.0, refl, c.if-above-ge24.true))));
    }

pub returns-clause-pages : goal.returns-clause-pages
returns-clause-pages g c =
    let a = c.args in
    let store = a.store.now in
    let enters = c.enter_page.ensures.pages in
    record {
      same = enters.same;
      count = enters.count;
      answer = IfSome_then (g.S.PageRead.pages store) enters.answer (λ m entered.
          page-child m (g.S.PageRead.size store) (g.S.PageRead.usable store) (g.S.PageRead.count store) a.parent.now a.above c.in-Ok.number c.in-Ok.ensures.answer.0 c.in-Ok.ensures.answer.1 (omega (arith, c.if-above-ge24.false)) c.enter_page.result entered);
    }

pub returns-in-Err-clause-owes : goal.returns-in-Err-clause-owes
returns-in-Err-clause-owes g c = owes-free g.S.PageRead (Err c.in-Err.fault) (record { size = refl; usable = refl; fixed = refl }) refl c.in-Err.ensures.cause

pub returns-then-above-ge24-clause-owes : goal.returns-then-above-ge24-clause-owes
returns-then-above-ge24-clause-owes g c = owes-free g.S.PageRead (Err c.damaged.result) (record { size = refl; usable = refl; fixed = refl }) refl c.damaged.ensures.cause

pub returns-clause-named : goal.returns-clause-named
returns-clause-named g c =
    let store = c.args.store.now in
    ok-so c.enter_page.result (subst (IsInRange (g.S.PageRead.size store) (g.S.PageRead.count store)) c.in-Ok.ensures.answer.0 c.in-Ok.ensures.answer.1)
