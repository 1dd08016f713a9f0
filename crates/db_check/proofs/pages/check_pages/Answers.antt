use Rattle.std.proofs.Common.{◌≡◌, ◌<◌, ◌+◌, ◌==◌, ◌&&◌, not, ℕ, false, true, length, map, slice_index_or, sym, ◌∙◌, subst, arith}
use Rattle.std.proofs.Math.Path.{subst⁻¹}
use Rattle.page_spec.specs.Pages.{lock_byte_page}
use Rattle.database_spec.specs.FileFindings.{Needs, pages_needed}
use Rattle.database_laws.specs.RightFindings.{AreRight}
use Rattle.db_check.proofs.Needs.{marked-needs, needed_to, needed-lost, needed-right}
use Rattle.db_check.proofs.pages.check_pages.Goals as goal

pub returns-then-is_lost-clause-passes : goal.returns-then-is_lost-clause-passes
returns-then-is_lost-clause-passes g c sizes base before same_size same_count marked =
    let at = c.loop-at.at in
    let flags = c.args.flags.now in
    let within : at < base.count = omega (arith, same_count, c.loop-at-test.true) in
    let low : at + 1 < length flags = omega (arith, c.loop-at-test.true, c.requires.flags) in
    let lost = subst⁻¹ (λ (s : ℕ). (not ((at + 1) == lock_byte_page s) && not (slice_index_or flags (at + 1) false)) ≡ true) same_size (sym c.is_lost.ensures ∙ c.if-is_lost.true) in
    needed-lost sizes base at flags before within marked low lost (c.loop-at.invariant.passed sizes base before same_size same_count marked)

pub loop-at-preserved : goal.loop-at-preserved
loop-at-preserved g c = record {
  passed = λ sizes base before same_size same_count marked.
      let at = c.loop-at.at in
      let flags = c.args.flags.now in
      let low : at + 1 < length flags = omega (arith, c.loop-at-test.true, c.requires.flags) in
      let kept = subst⁻¹ (λ (s : ℕ). (not ((at + 1) == lock_byte_page s) && not (slice_index_or flags (at + 1) false)) ≡ false) same_size (sym c.is_lost.ensures ∙ c.if-is_lost.false) in
      needed-right sizes base at flags before marked low kept (c.loop-at.invariant.passed sizes base before same_size same_count marked);
}

pub returns-clause-passes : goal.returns-clause-passes
returns-clause-passes g c sizes base before same_size same_count marked =
    let all : c.loop-at.at ≡ base.count = omega (arith, same_count, c.loop-at-test.false, c.loop-at.auto.at-end) in
    let right = subst (λ (n : ℕ). AreRight before (map Needs (needed_to sizes base n))) all (c.loop-at.invariant.passed sizes base before same_size same_count marked) in
    (right, marked-needs c.args.flags.now before (pages_needed sizes base) marked)
