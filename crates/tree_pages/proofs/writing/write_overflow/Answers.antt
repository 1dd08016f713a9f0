use Rattle.std.proofs.Common.{◌≡◌, ◌≤◌, ◌+◌, ◌-◌, ◌*◌, ℕ, suc, length, take, drop, eqb-true, refl, sym, ap, ◌∙◌, subst, inl, arith}
use Rattle.std.proofs.Math.Path.{subst⁻¹}
use Rattle.std.proofs.lemmas.Result.{err_from_is_err_and}
use Rattle.page_spec.specs.Chains.{pages_for}
use Rattle.page_spec.specs.FreePages.{due_pages}
use Rattle.page_spec.specs.Pages.{IsInRange, with_page}
use Rattle.page_spec.specs.WrittenChains.{overflow_page}
use Rattle.page_store.specs.StoreLaws.{Leads-told}
use Rattle.put_spec.specs.Steps.{Took}
use Rattle.tree_spec.specs.Standing.{Sizes}
use Rattle.tree_spec.specs.Worlds.{IsFree}
use Rattle.tree_pages.specs.Takes.{IsShort}
use Rattle.tree_pages.specs.Writers.{paged, sizes_of}
use Rattle.tree_pages.specs.WritersLaws.{sizes-same}
use Rattle.tree_pages.proofs.Overflowed.{Writing, none-written, one-written, all-written, part-filled, no-pages, short-written}
use Rattle.tree_pages.proofs.writing.write_overflow.Goals as goal

pub loop-left-init : goal.loop-left-init
loop-left-init g c =
    let S = g.S.PageRead in
    let a = c.args.store.now in
    let bytes = c.args.bytes.now in
    let all : c.pages_for-left.result ≡ pages_for (S.usable a) (length bytes) = c.pages_for-left.ensures ∙ ap (λ (u : ℕ). pages_for u (length bytes)) c.usable-2.ensures in
    record {
      stays = record { size = refl; usable = refl; fixed = refl };
      faults = refl;
      grows = omega arith;
      limited = omega arith;
      rises = omega (arith, all);
      whole = ap length c.as_mut_slice-page.ensures.value ∙ c.in_ok-buffer.ensures ∙ c.page_size.ensures;
      most = omega (arith, all);
      none = λ _. refl;
      written = λ old told. (
        old,
        told,
        λ trunks free. subst⁻¹ (λ (n : ℕ). Writing (sizes_of S a) (paged S a old) trunks bytes 0 n (paged S a old)) all
            (none-written (sizes_of S a) (paged S a old) trunks bytes c.requires.sizes.usable.least),
      );
    }

pub loop-left-preserved : goal.loop-left-preserved
loop-left-preserved g c =
    let S = g.S.PageRead in
    let a = c.args.store.now in
    let bytes = c.args.bytes.now in
    let at = c.loop-left.store in
    let between = c.take_page.new.store in
    let after = c.write_page.new.store in
    let inv = c.loop-left.invariant in
    let t = c.in_ok-number.ensures in
    let w = c.in_ok-write_page.ensures in
    let number = c.in_ok-number.number in
    let next = c.loop-left.next in
    let left = c.loop-left.left - 1 in
    let u = S.usable a - 4 in
    let one_more : c.loop-left.left ≡ suc left = omega (arith, c.loop-left-test.true) in
    let start = left * (c.usable.result - 4) in
    let part = take (c.end_of-end.result - start) (drop start bytes) in
    let f = c.end_of-end.ensures in
    let filled : part ≡ take u (drop (left * u) bytes) =
    part-filled bytes start c.end_of-end.result (c.usable.result - 4) f.within f.behind f.full f.last
    ∙ ap (λ (n : ℕ). take (n - 4) (drop (left * (n - 4)) bytes)) c.usable.ensures in
    let size_between : S.size between ≡ S.size a = t.owes.stays.size ∙ inv.stays.size in
    record {
      stays = record {
        size = w.owes.stays.size ∙ t.owes.stays.size ∙ inv.stays.size;
        usable = w.owes.stays.usable ∙ t.owes.stays.usable ∙ inv.stays.usable;
        fixed = w.owes.stays.fixed ∙ t.owes.stays.fixed ∙ inv.stays.fixed;
      };
      faults = w.owes.faults.still ∙ t.owes.faults.still ∙ inv.faults;
      grows = omega (arith, inv.grows, t.count, w.pages.count);
      limited = omega (arith, inv.limited, t.most, w.pages.count);
      rises = omega (
        arith,
        inv.rises,
        one_more,
        subst (λ (s : ℕ). due_pages s (S.count between) ≤ due_pages s (S.count at) + 1) inv.stays.size t.rises,
        ap (due_pages (S.size a)) w.pages.count,
      );
      whole = c.write_page.auto.page ∙ inv.whole;
      most = omega (arith, inv.most);
      none = λ full. absurd (omega (arith, inv.most, full, one_more));
      written = λ old told.
          let b = inv.written old told in
          let n = t.took b.0 b.1 in
          let k = Leads-told n.0 n.1 w.pages.pages in
          let x = paged S at b.0 in
          let y = paged S between n.0 in
          let z = paged S after k.0 in (
            k.0,
            k.1,
            λ trunks free.
                one-written (sizes_of S a) (paged S a old) trunks bytes c.requires.sizes.usable.least number next left part x y z free
                (subst (λ (s : Sizes). Took s number x y) (sizes-same S a at inv.stays) n.2)
                (subst (λ (m : ℕ). IsInRange m (S.count between) number) size_between t.in_range)
                (first_of (omega arith, omega (arith, rw c.in_ok-number.was at c.take_page.type_inv)))
                filled w.pages.count
                (k.2 ∙ ap (λ (m : ℕ). with_page n.0 number (overflow_page m next part)) size_between)
                (subst (λ (m : ℕ). Writing (sizes_of S a) (paged S a old) trunks bytes next m x) one_more (b.2 trunks free)),
          );
    }

pub returns-then-is_empty-clause-written : goal.returns-then-is_empty-clause-written
returns-then-is_empty-clause-written g c = λ old told. (
  old,
  told,
  λ trunks free.
      let S = g.S.PageRead in
      let a = c.args.store.now in
      let z = sizes_of S a in
      let x = paged S a old in
      let bytes = c.args.bytes.now in
      let none : length bytes ≡ 0 = eqb-true (length bytes) 0 (sym c.is_empty.ensures ∙ c.if-is_empty.true) in
      let zero : pages_for z.usable (length bytes) ≡ 0 = ap (pages_for z.usable) none ∙ no-pages z.usable in
      all-written z x trunks bytes c.requires.sizes.usable.least 0 x (subst (λ (n : ℕ). Writing z x trunks bytes 0 n x) zero (none-written z x trunks bytes c.requires.sizes.usable.least)),
)

pub returns-clause-written : goal.returns-clause-written
returns-clause-written g c = λ old told.
    let S = g.S.PageRead in
    let a = c.args.store.now in
    let bytes = c.args.bytes.now in
    let b = c.loop-left.invariant.written old told in
    let next = c.loop-left.next in
    let none : c.loop-left.left ≡ 0 = omega (arith, c.loop-left-test.false) in (
      b.0,
      b.1,
      λ trunks free. all-written (sizes_of S a) (paged S a old) trunks bytes c.requires.sizes.usable.least next (paged S c.loop-left.store b.0)
          (subst (λ (m : ℕ). Writing (sizes_of S a) (paged S a old) trunks bytes next m (paged S c.loop-left.store b.0)) none (b.2 trunks free)),
    )

pub returns-clause-none : goal.returns-clause-none
returns-clause-none g c = λ empty.
    let S = g.S.PageRead in
    let no_page : pages_for (S.usable c.args.store.now) (length c.args.bytes.now) ≡ 0 = ap (pages_for (S.usable c.args.store.now)) empty ∙ no-pages (S.usable c.args.store.now) in
    c.loop-left.invariant.none (omega (arith, c.loop-left-test.false, no_page))

pub returns-clause-rises : goal.returns-clause-rises
returns-clause-rises g c = omega (arith, c.loop-left.invariant.rises)

pub returns-in_err-buffer-clause-refuses : goal.returns-in_err-buffer-clause-refuses
returns-in_err-buffer-clause-refuses g c = λ m trunks told free. let p = err_from_is_err_and c.from_residual.result c.from_residual.ensures.1 in rw (p.1, p.2) (inl tt)

pub returns-in_err-number-clause-refuses : goal.returns-in_err-number-clause-refuses
returns-in_err-number-clause-refuses g c = λ m trunks told free.
    let S = g.S.PageRead in
    let a = c.args.store.now in
    let at = c.loop-left.store in
    let inv = c.loop-left.invariant in
    let fault = c.in_err-number.field-0.0 in
    let count = S.count c.take_page.new.store in
    let z = sizes_of S a in
    let same = sizes-same S a at inv.stays in
    let b = inv.written m told in
    let w = b.2 trunks free in
    let x = paged S at b.0 in
    let p = err_from_is_err_and c.from_residual-in_err-number.result c.from_residual-in_err-number.ensures.1 in
    rw (p.1, p.2)
    (short-written z (paged S a m) trunks c.args.bytes.now c.requires.sizes.usable.least c.loop-left.next c.loop-left.left c.args.limit count x fault free w (omega (arith, c.loop-left-test.true)) inv.limited
    (subst (λ (s : Sizes). IsShort s 1 c.args.limit x w.rest count fault) same
    (c.in_err-number.ensures.refuses b.0 w.rest b.1 (subst⁻¹ (λ (s : Sizes). IsFree s x w.rest) same (w.turns.freelist free)))))

pub returns-in_err-write_page-clause-refuses : goal.returns-in_err-write_page-clause-refuses
returns-in_err-write_page-clause-refuses g c = λ m trunks told free.
    let p = err_from_is_err_and c.from_residual-in_err-write_page.result c.from_residual-in_err-write_page.ensures.1 in
    rw (p.1, p.2) (inl c.in_err-write_page.ensures.other)
