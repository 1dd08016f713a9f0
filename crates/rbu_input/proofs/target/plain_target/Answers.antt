use Rattle.std.proofs.Common.{◌∙◌, ◌-◌, length, take, drop, Ok, Err, subst}
use Rattle.std.specs.List.{AllByRecursion}
use Rattle.std.proofs.lemmas.Option.{IfSome_then}
use Rattle.common_spec.specs.ToldLaws.{told-both}
use Rattle.page_store.specs.StoreLaws.{at-sizes}
use Rattle.tree_walk.specs.Stores.{sizes_of, paged}
use Rattle.rbu_input.specs.Targets.{ChecksBatch, IsKnown}
use Rattle.rbu_input.proofs.Lists.{uncons, none-left}
use Rattle.rbu_input.proofs.Targets.{batches-next, batches-end, batches-fault}
use Rattle.rbu_input.proofs.target.plain_target.Goals as goal

pub loop-left-preserved : goal.loop-left-preserved
loop-left-preserved g c =
    let inv = c.loop-left.invariant in
    let step = c.in-Ok.ensures in
    let first = c.args.target.now in
    let left = c.loop-left.left.now in
    let batch = c.batch-item.result in
    let left_is = uncons left batch c.in-len1-up.len_at_least c.batch-item.is in
    record {
      stays = record { size = step.owes.stays.size ∙ inv.stays.size; usable = step.owes.stays.usable ∙ inv.stays.usable; fixed = step.owes.stays.fixed ∙ inv.stays.fixed };
      faults = step.owes.faults.still ∙ inv.faults;
      count = step.pages.count ∙ inv.count;
      same = step.pages.same ∙ inv.same;
      known = (subst (AllByRecursion (IsKnown c.args.catalog.now (g.S.PageRead.count first))) left_is inv.known).1;
      kept = told-both (g.S.PageRead.pages first) inv.same inv.kept step.pages.answer (λ m kept checks.
          batches-next (sizes_of g.S.PageRead first) (paged g.S.PageRead first m) c.args.catalog.now g.row.S-Fault.Denot c.args.batches.now left batch (take (length left - 1) (drop 1 left)) left_is kept
          (at-sizes g.S.PageRead inv.stays inv.count (λ s u n.
          ChecksBatch (record { size = s; usable = u }) (record { count = n; pages = m }) c.args.catalog.now {F = g.row.S-Fault.Denot} batch (Ok c.in-Ok.field-0)) checks));
    }

pub returns-in-Err-clause-records : goal.returns-in-Err-clause-records
returns-in-Err-clause-records g c =
    let inv = c.loop-left.invariant in
    let step = c.in-Err.ensures in
    let first = c.args.target.now in
    let left = c.loop-left.left.now in
    let batch = c.batch-item.result in
    record {
      same = step.pages.same ∙ inv.same;
      count = step.pages.count ∙ inv.count;
      answer = told-both (g.S.PageRead.pages first) inv.same inv.kept step.pages.answer (λ m kept checks.
          batches-fault (sizes_of g.S.PageRead first) (paged g.S.PageRead first m) c.args.catalog.now (g.S.PageRead.count first) c.args.batches.now c.requires.known left batch (take (length left - 1) (drop 1 left)) c.in-Err.fault
          (uncons left batch c.in-len1-up.len_at_least c.batch-item.is) kept
          (at-sizes g.S.PageRead inv.stays inv.count (λ s u n.
          ChecksBatch (record { size = s; usable = u }) (record { count = n; pages = m }) c.args.catalog.now {F = g.row.S-Fault.Denot} batch (Err c.in-Err.fault)) checks));
    }

pub returns-clause-records : goal.returns-clause-records
returns-clause-records g c =
    let inv = c.loop-left.invariant in
    let first = c.args.target.now in
    record {
      same = inv.same;
      count = inv.count;
      answer = IfSome_then (g.S.PageRead.pages first) inv.kept (λ m kept.
          batches-end (sizes_of g.S.PageRead first) (paged g.S.PageRead first m) c.args.catalog.now (g.S.PageRead.count first) c.args.batches.now c.requires.known g.row.S-Fault.Denot c.loop-left.left.now
          (none-left c.loop-left.left.now c.in_default.len_below) kept);
    }
