use Rattle.std.proofs.Common.{ℤ, Err, Ok, of_z, subst, to_z}
use Rattle.std.proofs.lemmas.Int.{to_z-of_z}
use Rattle.std.proofs.lemmas.Option.{IfSome_then}
use Rattle.std.specs.Int.{w64}
use Rattle.tree_walk.specs.Stores.{paged, sizes_of}
use Rattle.pass_fault.specs.declared.fault.PassFault.TheVariants.{Tree}
use Rattle.imposter.specs.Finds.{FindsMet}
use Rattle.imposter.proofs.FoundRows.{met-found, met-refused}
use Rattle.imposter.proofs.finding.find_met.Goals as goal

pub returns-in-Ok-clause-pages : goal.returns-in-Ok-clause-pages
returns-in-Ok-clause-pages g c =
    let S = g.S.PageRead in
    let F = g.row.S-Fault.Denot in
    let store = c.args.store.now in
    let z = sizes_of S store in
    let target = c.args.target.now in
    let back = to_z-of_z w64 c.args.rowid c.ranges.rowid in
    let found = c.in-Ok.ensures in
    record {
      same = found.pages.same;
      count = found.pages.count;
      answer = IfSome_then (S.pages store) found.pages.answer (λ m first.
          subst (λ (r : ℤ). FindsMet {F = F} z (paged S store m) target r c.read_found.result) back
          (met-found {F = F} z (paged S store m) target (to_z w64 (of_z w64 c.args.rowid)) c.in-Ok.found c.read_found.result first c.read_found.ensures.reads));
    }

pub returns-in-Err-clause-pages : goal.returns-in-Err-clause-pages
returns-in-Err-clause-pages g c =
    let S = g.S.PageRead in
    let F = g.row.S-Fault.Denot in
    let store = c.args.store.now in
    let z = sizes_of S store in
    let target = c.args.target.now in
    let back = to_z-of_z w64 c.args.rowid c.ranges.rowid in
    let found = c.in-Err.ensures in
    record {
      same = found.pages.same;
      count = found.pages.count;
      answer = IfSome_then (S.pages store) found.pages.answer (λ m first.
          subst (λ (r : ℤ). FindsMet {F = F} z (paged S store m) target r (Err (Tree c.in-Err.fault))) back (met-refused {F = F} z (paged S store m) target (to_z w64 (of_z w64 c.args.rowid)) c.in-Err.fault first));
    }
