use Rattle.std.proofs.Common.{◌≡◌, ◌∷◌, [], ◌++◌, ◌+◌, ◌-◌, ℕ, List, map, ◌∙◌, subst, arith}
use Rattle.std.proofs.Math.Path.{subst⁻¹}
use Rattle.std.specs.List.{range_with_len}
use Rattle.database_spec.specs.FileFindings.{Found, leaf_found}
use Rattle.database_laws.specs.RightFindings.{AreRight}
use Rattle.db_check.specs.Passes.{IsMarked}
use Rattle.db_check.specs.PassesLaws.{passed-wrong}
use Rattle.db_check.proofs.Parts.{leaves-more, leaves-split, passed-more}
use Rattle.db_check.proofs.freelist.pass_leaves.Goals as goal

pub returns-in-Err-clause-passes : goal.returns-in-Err-clause-passes
returns-in-Err-clause-passes g c sizes base before same_size same_count same_page marked =
    let at = c.loop-at.at in
    let found = leaf_found sizes base c.args.trunk in
    let gone = map found (range_with_len 0 at) in
    let inv = c.loop-at.invariant.passed sizes base before same_size same_count same_page marked in
    let wrong = c.in-Err.ensures.passes sizes base (before ++ gone) same_size same_count same_page inv.1 in
    passed-wrong before gone (found at ∷ []) (map found (range_with_len (at + 1) (c.args.leaves - (at + 1)))) (map found (range_with_len 0 c.args.leaves)) c.in-Err.fault
    (leaves-split found at c.args.leaves c.loop-at-test.true) inv.0 wrong

pub loop-at-preserved : goal.loop-at-preserved
loop-at-preserved g c =
    let at = c.loop-at.at in
    record {
      flags = c.pass_leaf.ensures.flags ∙ c.loop-at.invariant.flags;
      passed = λ sizes base before same_size same_count same_page marked.
          let found = leaf_found sizes base c.args.trunk in
          let gone = map found (range_with_len 0 at) in
          let inv = c.loop-at.invariant.passed sizes base before same_size same_count same_page marked in
          let one = c.in-Ok.ensures.passes sizes base (before ++ gone) same_size same_count same_page inv.1 in
          subst⁻¹ (λ (list : List Found). AreRight before list × IsMarked c.pass_leaf.new.flags (before ++ list)) (leaves-more found at)
          (passed-more before gone (found at) c.pass_leaf.new.flags inv.0 one.0 one.1);
    }

pub returns-clause-passes : goal.returns-clause-passes
returns-clause-passes g c sizes base before same_size same_count same_page marked =
    let found = leaf_found sizes base c.args.trunk in
    let inv = c.loop-at.invariant.passed sizes base before same_size same_count same_page marked in
    let all : c.loop-at.at ≡ c.args.leaves = omega (arith, c.loop-at-test.false, c.loop-at.auto.at-end) in
    subst (λ (n : ℕ). AreRight before (map found (range_with_len 0 n)) × IsMarked c.loop-at.flags (before ++ map found (range_with_len 0 n))) all inv
