use Rattle.std.proofs.Common.{◌≡◌, ◌+◌, ◌<◌, ◌≤◌, ◌∷◌, [], ◌++◌, ℕ, List, ap, ◌∙◌, inl, inr, arith}
use Rattle.std.proofs.Math.Path.{subst⁻¹}
use Rattle.std.specs.List.{All}
use Rattle.std.proofs.lemmas.Bool.{cases_eq}
use Rattle.std.proofs.lemmas.List.Elements.{All-push, All-weaker}
use Rattle.page_spec.specs.Counts.{times}
use Rattle.page_spec.specs.CountsLaws.{times-append, times-itself, times-other, once-distinct}
use Rattle.page_tests.proofs.chains.numbers.Goals as goal

pub loop-number-preserved : goal.loop-number-preserved
loop-number-preserved c =
    let inv = c.loop-number.invariant in
    let number = c.loop-number.number in
    let items = c.loop-number.pages.items in
    let more = c.in_ok-push.ensures.items in
    let counted : (n : ℕ) → times n c.push.new.self.items ≡ times n items + times n (number ∷ []) = λ n. ap (times n) more ∙ times-append n items (number ∷ []) in
    record {
      once = λ n. elim (cases_eq number n) [
        | inl same ↦ omega (arith, counted n, inv.below n (omega arith), ap (λ (x : ℕ). times n (x ∷ [])) same, times-itself n)
        | inr apart ↦ omega (arith, counted n, inv.once n, times-other n number apart)
      ];
      below = λ n past. omega (arith, counted n, inv.below n (omega arith), times-other n number (λ e. omega arith));
      within = subst⁻¹ (λ (ns : List ℕ). All (λ n. (2 ≤ n) × (n < number + 1)) ns) more
          (All-push (λ n. (2 ≤ n) × (n < number + 1)) items number (All-weaker (λ n. (2 ≤ n) × (n < number)) (λ n. (2 ≤ n) × (n < number + 1)) (λ n w. (w.0, omega (arith, w.1))) items inv.within)
          (c.loop-number.auto.number, omega arith));
    }

pub returns-clause-differ : goal.returns-clause-differ
returns-clause-differ c = once-distinct c.loop-number.pages.items c.loop-number.invariant.once

pub returns-clause-within : goal.returns-clause-within
returns-clause-within c =
    All-weaker (λ n. (2 ≤ n) × (n < c.loop-number.number)) (λ n. (2 ≤ n) × (n ≤ c.args.last))
    (λ n w. (w.0, omega (arith, w.1, c.requires.some, c.loop-number.auto.number-end))) c.loop-number.pages.items c.loop-number.invariant.within
