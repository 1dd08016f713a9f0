use Rattle.std.proofs.Common.{Ok, Err, map, refl, ◌∙◌}
use Rattle.std.proofs.Math.Path.{subst⁻¹}
use Rattle.std.specs.Prelude.{Option}
use Rattle.tree_walk.specs.Stores.{sizes_of, paged}
use Rattle.db_check.specs.CallsLaws.{sees-both, sees-none, sees-one}
use Rattle.file_check.specs.declared.trees.Disagreement.{Disagreement}
use Rattle.file_check.specs.Parts.{PassesWalk}
use Rattle.file_check.specs.Trees.{IsSubjectOf, seen}
use Rattle.file_check.proofs.Passing.{HasPassed, later, lent-all, lent-fault, lent-more, passed-none}
use Rattle.file_check.proofs.trees.pass_trees.Goals as goal

pub loop-left-init : goal.loop-left-init
loop-left-init g c =
    let a = c.args in
    record {
      stays = record { size = refl; usable = refl; fixed = refl };
      faults = refl;
      count = refl;
      flags = refl;
      passed = sees-none g.S.PageRead a.store.now (λ m walks are marked. passed-none (sizes_of g.S.PageRead a.store.now) (paged g.S.PageRead a.store.now m) (map seen a.trees.now) walks a.flags.now are marked);
    }

pub returns-in-Err-clause-pages : goal.returns-in-Err-clause-pages
returns-in-Err-clause-pages g c =
    let a = c.args in
    let inv = c.loop-left.invariant in
    let tree = c.tree-item.result in
    sees-both g.S.PageRead (λ sizes base. PassesWalk sizes base {F = g.row.S-Fault.Denot} (IsSubjectOf sizes base (seen tree)) c.loop-left.flags c.pass_tree.new.flags (Err c.in-Err.fault))
    inv.passed inv.stays c.in-Err.ensures.pages
    (λ m passed passes walks are marked.
    lent-fault (sizes_of g.S.PageRead a.store.now) (paged g.S.PageRead a.store.now m) walks c.loop-left.flags c.loop-left.told c.loop-left.left.now (passed walks are marked) tree c.in-len1-up.len_at_least c.tree-item.is
    g.row.S-Fault.Denot c.pass_tree.new.flags c.in-Err.fault passes)

pub loop-left-preserved : goal.loop-left-preserved
loop-left-preserved g c =
    let a = c.args in
    let inv = c.loop-left.invariant in
    let tree = c.tree-item.result in
    let step = c.in-Ok.ensures in
    record {
      stays = record { size = step.owes.stays.size ∙ inv.stays.size; usable = step.owes.stays.usable ∙ inv.stays.usable; fixed = step.owes.stays.fixed ∙ inv.stays.fixed };
      faults = step.owes.faults.still ∙ inv.faults;
      count = step.pages.count ∙ inv.count;
      flags = step.flags ∙ inv.flags;
      passed = sees-both g.S.PageRead (λ sizes base. PassesWalk sizes base {F = g.row.S-Fault.Denot} (IsSubjectOf sizes base (seen tree)) c.loop-left.flags c.pass_tree.new.flags (Ok c.in-Ok.one))
          inv.passed inv.stays step.pages
          (λ m passed passes walks are marked.
          let sizes = sizes_of g.S.PageRead a.store.now in
          let base = paged g.S.PageRead a.store.now m in
          let rest = later sizes base walks c.loop-left.flags c.loop-left.told c.loop-left.left.now (passed walks are marked) tree c.in-len1-up.len_at_least c.tree-item.is in
          subst⁻¹ (λ (told : Option Disagreement). HasPassed sizes base walks c.pass_tree.new.flags told (map seen rest)) c.or-told.ensures
          (lent-more sizes base walks c.loop-left.flags c.loop-left.told c.loop-left.left.now (passed walks are marked) tree c.in-len1-up.len_at_least c.tree-item.is g.row.S-Fault.Denot c.pass_tree.new.flags c.in-Ok.one passes));
    }

pub returns-clause-pages : goal.returns-clause-pages
returns-clause-pages g c =
    let a = c.args in
    let inv = c.loop-left.invariant in
    sees-one g.S.PageRead inv.passed (λ m passed walks are marked.
    lent-all (sizes_of g.S.PageRead a.store.now) (paged g.S.PageRead a.store.now m) walks c.loop-left.flags c.loop-left.told c.loop-left.left.now (passed walks are marked) g.row.S-Fault.Denot c.in_default.len_below)
