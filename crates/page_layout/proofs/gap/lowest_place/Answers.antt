use Rattle.std.proofs.Common.{◌≡◌, ◌≤◌, ℕ, subst, inl, inr, arith}
use Rattle.std.proofs.lemmas.Bool.{cases_lt}
use Rattle.format_spec.specs.Page.{cell_place}
use Rattle.page_layout.proofs.gap.lowest_place.Goals as goal

pub loop-index-init : goal.loop-index-init
loop-index-init c = record { most = omega arith; below = λ k low. absurd (omega arith) }

pub loop-index-preserved : goal.loop-index-preserved
loop-index-preserved c =
    let a = c.args in
    let inv = c.loop-index.invariant in
    let i = c.loop-index.index in
    record {
      most = omega (arith, inv.most, c.min-lowest.ensures);
      below = λ k low.
          elim (cases_lt k i) [
            | inl before ↦ omega (arith, inv.below k before, c.min-lowest.ensures)
            | inr here ↦
                let same : i ≡ k = omega arith in
                subst (λ (n : ℕ). c.min-lowest.result ≤ cell_place a.page.now a.number a.kind n) same (omega (arith, c.min-lowest.ensures, c.place_of.ensures.value))
          ];
    }

pub returns-clause-lowest : goal.returns-clause-lowest
returns-clause-lowest c k low = c.loop-index.invariant.below k (omega (arith, c.loop-index-test.false, low))
