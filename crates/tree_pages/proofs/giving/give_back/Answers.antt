use Rattle.std.proofs.Common.{◌≡◌, ◌+◌, ◌-◌, ℕ, suc, ap, ◌∙◌, subst, arith}
use Rattle.page_spec.specs.Chains.{pages_for}
use Rattle.std.proofs.Math.Path.{subst⁻¹}
use Rattle.std.proofs.lemmas.Result.{err_from_is_err_and}
use Rattle.page_spec.specs.Pages.{IsInRange}
use Rattle.tree_spec.specs.Standing.{Sizes}
use Rattle.tree_spec.specs.Worlds.{IsFree}
use Rattle.put_spec.specs.Steps.{Releases}
use Rattle.tree_pages.specs.Writers.{paged, sizes_of}
use Rattle.tree_pages.specs.WritersLaws.{sizes-same}
use Rattle.tree_pages.proofs.Overflowed.{no-pages}
use Rattle.tree_pages.proofs.Given.{Giving, none-given, one-given, all-given, given-in_range, given-ends}
use Rattle.tree_pages.proofs.giving.give_back.Goals as goal

pub loop-preserved : goal.loop-preserved
loop-preserved g c =
    let S = g.S.PageRead in
    let a = c.args.store.now in
    let at = c.loop.store in
    let inv = c.loop.invariant in
    let e = c.in_ok-next.ensures in
    let all = pages_for (S.usable a) c.args.bytes in
    let end : c.pages_for-end.result ≡ all = c.pages_for-end.ensures ∙ ap (λ (u : ℕ). pages_for u c.args.bytes) c.usable.ensures in
    let many : all - c.loop.counter ≡ suc (all - (c.loop.counter + 1)) = omega (arith, end, c.loop-test.true) in
    record {
      stays = record { size = e.owes.stays.size ∙ inv.stays.size; usable = e.owes.stays.usable ∙ inv.stays.usable; fixed = e.owes.stays.fixed ∙ inv.stays.fixed };
      faults = e.owes.faults.still ∙ inv.faults;
      count = e.count ∙ inv.count;
      whole = c.give_next.auto.page ∙ inv.whole;
      given = λ old told.
          let b = inv.given old told in
          let n = e.released b.0 b.1 in
          let x = paged S at b.0 in
          let y = paged S c.give_next.new.store n.0 in (
            n.0,
            n.1,
            λ chain trunks is free within.
                one-given (sizes_of S a) (paged S a old) chain trunks c.loop.number c.in_ok-next.next (all - (c.loop.counter + 1)) x y c.requires.sizes.usable.least within free n.2.0
                (subst (λ (s : Sizes). Releases s c.loop.number x y) (sizes-same S a at inv.stays) n.2.1)
                (subst (λ (m : ℕ). Giving (sizes_of S a) (paged S a old) chain trunks c.loop.number m x) many (b.2 chain trunks is free within)),
          );
    }

pub returns-then-first-eq0-clause-given : goal.returns-then-first-eq0-clause-given
returns-then-first-eq0-clause-given g c = λ old told. (
  old,
  told,
  λ chain trunks is free within.
      let S = g.S.PageRead in
      let a = c.args.store.now in
      let z = sizes_of S a in
      let x = paged S a old in
      let none : pages_for z.usable c.args.bytes ≡ 0 = ap (pages_for z.usable) c.if-bytes-eq0.true ∙ no-pages z.usable in
      all-given z x chain trunks c.args.first x
      (subst (λ (n : ℕ). Giving z x chain trunks c.args.first n x) none (none-given z x chain trunks c.args.first c.args.bytes is)),
)

pub returns-clause-given : goal.returns-clause-given
returns-clause-given g c = λ old told.
    let S = g.S.PageRead in
    let a = c.args.store.now in
    let b = c.loop.invariant.given old told in
    let all = pages_for (S.usable a) c.args.bytes in
    let end : c.pages_for-end.result ≡ all = c.pages_for-end.ensures ∙ ap (λ (u : ℕ). pages_for u c.args.bytes) c.usable.ensures in
    let none : all - c.loop.counter ≡ 0 = omega (arith, end, c.loop-test.false) in (
      b.0,
      b.1,
      λ chain trunks is free within.
          all-given (sizes_of S a) (paged S a old) chain trunks c.loop.number (paged S c.loop.store b.0)
          (subst (λ (m : ℕ). Giving (sizes_of S a) (paged S a old) chain trunks c.loop.number m (paged S c.loop.store b.0)) none (b.2 chain trunks is free within)),
    )

pub returns-in_err-buffer-clause-sound : goal.returns-in_err-buffer-clause-sound
returns-in_err-buffer-clause-sound g c = λ m chain trunks told is free within. let p = err_from_is_err_and c.from_residual.result c.from_residual.ensures.1 in rw (p.1, p.2) tt

pub returns-then-not-is_in_range-clause-sound : goal.returns-then-not-is_in_range-clause-sound
returns-then-not-is_in_range-clause-sound g c = λ m chain trunks told is free within.
    let S = g.S.PageRead in
    let a = c.args.store.now in
    let at = c.loop.store in
    let inv = c.loop.invariant in
    let all = pages_for (S.usable a) c.args.bytes in
    let end : c.pages_for-end.result ≡ all = c.pages_for-end.ensures ∙ ap (λ (u : ℕ). pages_for u c.args.bytes) c.usable.ensures in
    let b = inv.given m told in
    let range = given-in_range (sizes_of S a) (paged S a m) chain trunks c.loop.number (all - c.loop.counter) (paged S at b.0) (b.2 chain trunks is free within) (omega (arith, end, c.loop-test.true)) in
    let here : IsInRange c.page_size-in-loop.result c.count.result c.loop.number =
    subst⁻¹ (λ (s : ℕ). IsInRange s c.count.result c.loop.number) (c.page_size-in-loop.ensures ∙ inv.stays.size) (subst⁻¹ (λ (n : ℕ). IsInRange (S.size a) n c.loop.number) c.count.ensures range) in
    absurd (let bad = c.is_in_range.ensures.1 here in cc)

pub returns-in_err-next-clause-sound : goal.returns-in_err-next-clause-sound
returns-in_err-next-clause-sound g c = λ m chain trunks told is free within.
    let S = g.S.PageRead in
    let a = c.args.store.now in
    let at = c.loop.store in
    let b = c.loop.invariant.given m told in
    let given = b.2 chain trunks is free within in
    let p = err_from_is_err_and c.from_residual-in_err-next.result c.from_residual-in_err-next.ensures.1 in
    rw (p.1, p.2)
    (c.in_err-next.ensures.sound b.0 given.rest b.1 (subst⁻¹ (λ (s : Sizes). IsFree s (paged S at b.0) given.rest) (sizes-same S a at c.loop.invariant.stays) (given.turns.freelist free)))

pub returns-then-number-ne0-clause-sound : goal.returns-then-number-ne0-clause-sound
returns-then-number-ne0-clause-sound g c = λ m chain trunks told is free within.
    let S = g.S.PageRead in
    let a = c.args.store.now in
    let at = c.loop.store in
    let all = pages_for (S.usable a) c.args.bytes in
    let end : c.pages_for-end.result ≡ all = c.pages_for-end.ensures ∙ ap (λ (u : ℕ). pages_for u c.args.bytes) c.usable.ensures in
    let none : all - c.loop.counter ≡ 0 = omega (arith, end, c.loop-test.false) in
    let b = c.loop.invariant.given m told in
    let x = paged S at b.0 in
    let zero = given-ends (sizes_of S a) (paged S a m) chain trunks c.loop.number x
    (subst (λ (n : ℕ). Giving (sizes_of S a) (paged S a m) chain trunks c.loop.number n x) none (b.2 chain trunks is free within)) in
    absurd (c.if-number-ne0.true zero)
