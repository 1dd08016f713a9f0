use Rattle.std.proofs.Common.{◌<◌, ℕ, length, sym, ap, ◌∙◌, subst, arith}
use Rattle.std.proofs.lemmas.Option.{IfSome_then}
use Rattle.page_spec.specs.Pages.{IsInRange, next_page}
use Rattle.db_check.proofs.Parts.{marked-page}
use Rattle.db_check.proofs.chain.pass_link.Goals as goal

pub returns-clause-pages : goal.returns-clause-pages
returns-clause-pages g c =
    let a = c.args in
    let size = g.S.PageRead.size a.store.now in
    let count = g.S.PageRead.count a.store.now in
    let looks = c.in_ok-read.ensures.pages in
    let in_range : IsInRange size count a.number =
    subst (λ (n : ℕ). IsInRange size n a.number) c.count.ensures (subst (λ (s : ℕ). IsInRange s c.count.result a.number) c.page_size.ensures (c.is_in_range.ensures.0 c.if-not-is_in_range.false)) in
    let low : a.number < length a.flags.now = omega (arith, in_range.within, c.requires.flags) in
    record {
      same = looks.pages.same;
      count = looks.count;
      answer = IfSome_then (g.S.PageRead.pages a.store.now) looks.pages.answer (λ m page_is subject before marked.
          let new = sym (marked a.number low) ∙ sym c.mark.ensures.before ∙ c.if-mark.false in
          (in_range, c.u32_at.ensures ∙ ap next_page page_is, (new, tt), marked-page a.flags.now c.mark.new.flags before subject a.number low c.mark.ensures.now marked));
    }
