use Rattle.std.proofs.Common.{◌≡◌, ◌≢◌, ◌<◌, ◌++◌, ℕ, Ok, Err, IfSome, refl, ap, ◌∙◌, arith}
use Rattle.std.proofs.lemmas.Option.{IfSome_then}
use Rattle.common_spec.specs.ToldLaws.{told-both}
use Rattle.page_spec.specs.Chains.{pages_for}
use Rattle.page_store.specs.StoreLaws.{some-all, at-sizes}
use Rattle.db_check.specs.Passes.{PassesLink, chain_found}
use Rattle.db_check.proofs.Chains as chains
use Rattle.db_check.proofs.chain.pass_chain.Goals as goal

pub loop-init : goal.loop-init
loop-init g c =
    let a = c.args in
    record {
      stays = record { size = refl; usable = refl; fixed = refl };
      faults = refl;
      count = refl;
      same = refl;
      whole = c.requires.whole;
      flags = refl;
      end = c.pages_for-end.ensures ∙ ap (λ (u : ℕ). pages_for u a.bytes) c.usable.ensures;
      passed = some-all (g.S.PageRead.pages a.store.now) (λ m subject before marked.
          chains.gone-none (g.S.PageRead.size a.store.now) (g.S.PageRead.usable a.store.now) (g.S.PageRead.count a.store.now) m a.holder a.first subject before a.flags.now marked);
    }

pub returns-in-Err-clause-pages : goal.returns-in-Err-clause-pages
returns-in-Err-clause-pages g c =
    let a = c.args in
    let inv = c.loop.invariant in
    let size = g.S.PageRead.size a.store.now in
    let usable = g.S.PageRead.usable a.store.now in
    let count = g.S.PageRead.count a.store.now in
    let sees = c.in-Err.ensures.pages in
    let low : c.loop.counter < pages_for usable a.bytes = omega (arith, c.loop-test.true, inv.end) in
    let ends = at-sizes g.S.PageRead inv.stays inv.count (λ s u n. IfSome (g.S.PageRead.pages c.loop.store) (PassesLink s n {F = g.row.S-Fault.Denot} c.loop.last c.loop.number c.loop.flags c.pass_link.new.flags (Err c.in-Err.fault))) sees.answer in
    record {
      same = sees.same ∙ inv.same;
      count = sees.count ∙ inv.count;
      answer = told-both (g.S.PageRead.pages a.store.now) inv.same inv.passed ends (λ m passed end subject before marked.
          let has = passed subject before marked in
          chains.chain-failed size usable count m a.holder a.first a.bytes c.loop.counter c.loop.last c.loop.number subject before c.loop.flags has c.pass_link.new.flags c.in-Err.fault low
          (end subject (before ++ chain_found subject has.gone) has.marked));
    }

pub loop-preserved : goal.loop-preserved
loop-preserved g c =
    let a = c.args in
    let inv = c.loop.invariant in
    let size = g.S.PageRead.size a.store.now in
    let usable = g.S.PageRead.usable a.store.now in
    let count = g.S.PageRead.count a.store.now in
    let sees = c.in-Ok.ensures.pages in
    let owes = c.in-Ok.ensures.owes in
    let ends = at-sizes g.S.PageRead inv.stays inv.count (λ s u n. IfSome (g.S.PageRead.pages c.loop.store) (PassesLink s n {F = g.row.S-Fault.Denot} c.loop.last c.loop.number c.loop.flags c.pass_link.new.flags (Ok c.in-Ok.next))) sees.answer in
    record {
      stays = record { size = owes.stays.size ∙ inv.stays.size; usable = owes.stays.usable ∙ inv.stays.usable; fixed = owes.stays.fixed ∙ inv.stays.fixed };
      faults = owes.faults.still ∙ inv.faults;
      count = sees.count ∙ inv.count;
      same = sees.same ∙ inv.same;
      whole = c.pass_link.auto.page ∙ inv.whole;
      flags = c.in-Ok.ensures.flags ∙ inv.flags;
      end = inv.end;
      passed = told-both (g.S.PageRead.pages a.store.now) inv.same inv.passed ends (λ m passed end subject before marked.
          let has = passed subject before marked in
          chains.gone-more size usable count m a.holder a.first a.bytes c.loop.counter c.loop.last c.loop.number subject before c.loop.flags has c.pass_link.new.flags c.in-Ok.next
          (end subject (before ++ chain_found subject has.gone) has.marked));
    }

pub returns-then-number-ne0-clause-pages : goal.returns-then-number-ne0-clause-pages
returns-then-number-ne0-clause-pages g c =
    let a = c.args in
    let inv = c.loop.invariant in
    let all : c.loop.counter ≡ pages_for (g.S.PageRead.usable a.store.now) a.bytes = omega (arith, c.loop-test.false, c.loop.auto.counter-end, inv.end) in
    let some : c.loop.number ≢ 0 = λ none. absurd (omega (arith, none, c.if-number-ne0.true)) in
    record {
      same = inv.same;
      count = inv.count;
      answer = IfSome_then (g.S.PageRead.pages a.store.now) inv.passed (λ m passed subject before marked.
          chains.chain-longer (g.S.PageRead.size a.store.now) (g.S.PageRead.usable a.store.now) (g.S.PageRead.count a.store.now) m a.holder a.first a.bytes c.loop.counter c.loop.last c.loop.number subject before c.loop.flags
          (passed subject before marked) g.row.S-Fault.Denot all some);
    }

pub returns-clause-pages : goal.returns-clause-pages
returns-clause-pages g c =
    let a = c.args in
    let inv = c.loop.invariant in
    let all : c.loop.counter ≡ pages_for (g.S.PageRead.usable a.store.now) a.bytes = omega (arith, c.loop-test.false, c.loop.auto.counter-end, inv.end) in
    let none : c.loop.number ≡ 0 = omega (arith, c.if-number-ne0.false) in
    record {
      same = inv.same;
      count = inv.count;
      answer = IfSome_then (g.S.PageRead.pages a.store.now) inv.passed (λ m passed subject before marked.
          chains.chain-ended (g.S.PageRead.size a.store.now) (g.S.PageRead.usable a.store.now) (g.S.PageRead.count a.store.now) m a.holder a.first a.bytes c.loop.counter c.loop.last c.loop.number subject before c.loop.flags
          (passed subject before marked) g.row.S-Fault.Denot all none);
    }
