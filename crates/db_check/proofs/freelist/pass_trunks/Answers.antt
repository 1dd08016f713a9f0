use Rattle.std.proofs.Common.{◌≡◌, ◌≢◌, ◌+◌, ◌<◌, ◌≤◌, ◌++◌, ℕ, suc, Ok, Err, IfSome, refl, sym, ◌∙◌, subst, arith}
use Rattle.std.proofs.lemmas.Option.{IfSome_then}
use Rattle.common_spec.specs.ToldLaws.{told-both}
use Rattle.page_spec.specs.Pages.{next_page}
use Rattle.page_store.specs.StoreLaws.{some-all, at-sizes}
use Rattle.db_check.specs.Passes.{PassesTrunk}
use Rattle.db_check.proofs.Trunks as trunks
use Rattle.db_check.proofs.freelist.pass_trunks.Goals as goal

pub loop-init : goal.loop-init
loop-init g c =
    let a = c.args in
    let size = g.S.PageRead.size a.store.now in
    let usable = g.S.PageRead.usable a.store.now in
    let count = g.S.PageRead.count a.store.now in
    record {
      stays = record { size = refl; usable = refl; fixed = refl };
      faults = refl;
      count = refl;
      same = refl;
      whole = c.requires.whole;
      flags = refl;
      end = omega (arith, c.from-end.ensures, c.count.ensures);
      most = omega arith;
      passed = some-all (g.S.PageRead.pages a.store.now) (λ m before marked. trunks.passed-none size usable count m a.first before a.flags.now marked);
    }

pub returns-then-number-eq0-clause-pages : goal.returns-then-number-eq0-clause-pages
returns-then-number-eq0-clause-pages g c =
    let a = c.args in
    let inv = c.loop.invariant in
    let none : c.loop.number ≡ 0 = omega (arith, c.if-number-eq0.true) in
    record {
      same = inv.same;
      count = inv.count;
      answer = IfSome_then (g.S.PageRead.pages a.store.now) inv.passed (λ m passed before marked.
          trunks.passed-end (g.S.PageRead.size a.store.now) (g.S.PageRead.usable a.store.now) (g.S.PageRead.count a.store.now) m g.row.S-Fault.Denot a.first before c.loop.flags c.loop.counter c.loop.holder c.loop.number
          c.loop.free (passed before marked) none);
    }

pub returns-in-Err-clause-pages : goal.returns-in-Err-clause-pages
returns-in-Err-clause-pages g c =
    let a = c.args in
    let inv = c.loop.invariant in
    let size = g.S.PageRead.size a.store.now in
    let usable = g.S.PageRead.usable a.store.now in
    let count = g.S.PageRead.count a.store.now in
    let sees = c.in-Err.ensures.pages in
    let low : c.loop.counter < suc count = omega (arith, c.loop-test.true, c.from-end.ensures, c.count.ensures) in
    let some : c.loop.number ≢ 0 = λ none. absurd (omega (arith, none, c.if-number-eq0.false)) in
    let ends = at-sizes g.S.PageRead inv.stays inv.count (λ s u n. IfSome (g.S.PageRead.pages c.loop.store) (PassesTrunk s u n {F = g.row.S-Fault.Denot} c.loop.holder c.loop.number c.loop.flags c.pass_trunk.new.flags c.pass_trunk.new.page (Err c.in-Err.fault))) sees.answer in
    record {
      same = sees.same ∙ inv.same;
      count = sees.count ∙ inv.count;
      answer = told-both (g.S.PageRead.pages a.store.now) inv.same inv.passed ends (λ m passed end before marked.
          let has = passed before marked in
          trunks.passed-fault size usable count m a.first before c.loop.flags c.pass_trunk.new.flags c.loop.counter c.loop.holder c.loop.number c.loop.free c.pass_trunk.new.page c.in-Err.fault has low some
          (end (before ++ has.gone) has.marked));
    }

pub loop-preserved : goal.loop-preserved
loop-preserved g c =
    let a = c.args in
    let inv = c.loop.invariant in
    let size = g.S.PageRead.size a.store.now in
    let usable = g.S.PageRead.usable a.store.now in
    let count = g.S.PageRead.count a.store.now in
    let sees = c.in-Ok.ensures.pages in
    let owes = c.in-Ok.ensures.owes in
    let leaves = c.in-Ok.leaves in
    let low : c.loop.counter < suc count = omega (arith, c.loop-test.true, c.from-end.ensures, c.count.ensures) in
    let next : next_page c.pass_trunk.new.page ≡ c.u32_at-number.result = sym c.u32_at-number.ensures in
    let more : c.loop.free + (leaves + 1) ≡ c.loop.free + (1 + c.from.result) = omega (arith, c.from.ensures) in
    let ends = at-sizes g.S.PageRead inv.stays inv.count (λ s u n. IfSome (g.S.PageRead.pages c.loop.store) (PassesTrunk s u n {F = g.row.S-Fault.Denot} c.loop.holder c.loop.number c.loop.flags c.pass_trunk.new.flags c.pass_trunk.new.page (Ok leaves))) sees.answer in
    record {
      stays = record { size = owes.stays.size ∙ inv.stays.size; usable = owes.stays.usable ∙ inv.stays.usable; fixed = owes.stays.fixed ∙ inv.stays.fixed };
      faults = owes.faults.still ∙ inv.faults;
      count = sees.count ∙ inv.count;
      same = sees.same ∙ inv.same;
      whole = c.pass_trunk.auto.page ∙ inv.whole;
      flags = c.in-Ok.ensures.flags ∙ inv.flags;
      end = inv.end;
      most = omega (arith, inv.most, c.in-Ok.ensures.few, inv.stays.usable, c.requires.sizes.within, c.requires.sizes.largest, c.from.ensures);
      passed = told-both (g.S.PageRead.pages a.store.now) inv.same inv.passed ends (λ m passed end before marked.
          let has = passed before marked in
          let one = trunks.passed-trunk size usable count m a.first before c.loop.flags c.pass_trunk.new.flags c.loop.counter c.loop.holder c.loop.number c.loop.free leaves c.pass_trunk.new.page has low
          (end (before ++ has.gone) has.marked) in
          let named = subst (λ (n : ℕ). trunks.HasPassed size usable count m a.first before c.pass_trunk.new.flags (c.loop.counter + 1) c.loop.number n (c.loop.free + (leaves + 1))) next one in
          subst (λ (n : ℕ). trunks.HasPassed size usable count m a.first before c.pass_trunk.new.flags (c.loop.counter + 1) c.loop.number c.u32_at-number.result n) more named);
    }

pub returns-clause-pages : goal.returns-clause-pages
returns-clause-pages g c =
    let a = c.args in
    let inv = c.loop.invariant in
    let over : suc (g.S.PageRead.count a.store.now) ≤ c.loop.counter = omega (arith, c.loop-test.false, c.from-end.ensures, c.count.ensures) in
    record {
      same = inv.same;
      count = inv.count;
      answer = IfSome_then (g.S.PageRead.pages a.store.now) inv.passed (λ m passed before marked.
          trunks.passed-out (g.S.PageRead.size a.store.now) (g.S.PageRead.usable a.store.now) (g.S.PageRead.count a.store.now) m g.row.S-Fault.Denot a.first before c.loop.flags c.loop.counter c.loop.holder c.loop.number
          c.loop.free (passed before marked) over);
    }
