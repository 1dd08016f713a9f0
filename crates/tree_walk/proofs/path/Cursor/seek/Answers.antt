use Rattle.std.proofs.Common.{rules, ◌≡◌, ℤ, FitsSigned, to_z, of_z, Err, refl, subst, ◌∙◌}
use Rattle.std.specs.Int.{w64}
use Rattle.std.proofs.lemmas.Int.{to_z-of_z}
use Rattle.std.proofs.lemmas.Option.{IfSome_then}
use Rattle.common_spec.specs.ToldLaws.{told-both}
use Rattle.tree_spec.specs.declared.TreeKind.TheVariants.{Table}
use Rattle.tree_spec.specs.FaultsLaws.{damage-then}
use Rattle.tree_walk.specs.Stores.{paged, sizes_of}
use Rattle.tree_walk.specs.Courses.{stops}
use Rattle.tree_walk.specs.Places.{IsBadRoot}
use Rattle.tree_walk.specs.SoughtCourses.{SeeksWalk, SoughtAt}
use Rattle.page_store.specs.StoreLaws.{at-sizes}
use Rattle.tree_walk.proofs.Calls.{sees-then}
use Rattle.tree_walk.proofs.Lengths.{sought-few}
use Rattle.tree_walk.proofs.Members.{sought-member}
use Rattle.tree_walk.proofs.path.Cursor.seek.Goals as goal

pub returns-in-Ok-clause-walk : goal.returns-in-Ok-clause-walk
returns-in-Ok-clause-walk g c =
    let a = c.args in
    let store = a.store.now in
    let enters = c.in-Ok.ensures in
    let from = c.seek_from.ensures in
    let z = to_z w64 (of_z w64 a.rowid) in
    let fits : FitsSigned w64 a.rowid = search rules in
    record {
      same = from.walk.same ∙ enters.pages.same;
      count = from.walk.count ∙ enters.pages.count;
      answer = told-both (g.S.PageRead.pages store) enters.pages.same enters.pages.answer from.walk.answer (λ m entered starts.
          subst (λ (x : ℤ). SeeksWalk (sizes_of g.S.PageRead store) (paged g.S.PageRead store m) a.root x c.seek_from.result) (to_z-of_z w64 a.rowid fits) (λ course from_rowid.
          at-sizes g.S.PageRead enters.owes.stays enters.pages.count (λ s u n. SoughtAt (record { size = s; usable = u }) (record { count = n; pages = m }) z c.in-Ok.here c.seek_from.result) starts
          course (from_rowid.entered c.in-Ok.here entered)));
    }

pub returns-in-Err-clause-walk : goal.returns-in-Err-clause-walk
returns-in-Err-clause-walk g c =
    let a = c.args in
    let store = a.store.now in
    let enters = c.in-Err.ensures in
    record {
      same = enters.pages.same;
      count = enters.pages.count;
      answer = IfSome_then (g.S.PageRead.pages store) enters.pages.answer (λ m bad. λ course from_rowid.
          damage-then (IsBadRoot (m a.root) a.root (g.S.PageRead.usable store) Table) (λ page rule. course ≡ stops page rule) from_rowid.refused c.in-Err.fault bad);
    }

pub returns-in-Ok-clause-pages : goal.returns-in-Ok-clause-pages
returns-in-Ok-clause-pages g c = sees-then g.S.PageRead (λ m. sought-member (sizes_of g.S.PageRead c.args.store.now) (paged g.S.PageRead c.args.store.now m) {F = g.row.S-Fault.Denot} c.args.root c.args.rowid c.seek_from.result) (returns-in-Ok-clause-walk g c)

pub returns-in-Err-clause-pages : goal.returns-in-Err-clause-pages
returns-in-Err-clause-pages g c = sees-then g.S.PageRead (λ m. sought-member (sizes_of g.S.PageRead c.args.store.now) (paged g.S.PageRead c.args.store.now m) {F = g.row.S-Fault.Denot} c.args.root c.args.rowid (Err c.in-Err.fault)) (returns-in-Err-clause-walk g c)

pub returns-in-Ok-clause-few : goal.returns-in-Ok-clause-few
returns-in-Ok-clause-few g c =
    let walk = returns-in-Ok-clause-walk g c in
    record {
      same = walk.same;
      count = walk.count;
      answer = told-both (g.S.PageRead.pages c.args.store.now) refl c.in-Ok.ensures.pages.answer walk.answer (λ m entered seeks.
          sought-few (sizes_of g.S.PageRead c.args.store.now) (paged g.S.PageRead c.args.store.now m) {F = g.row.S-Fault.Denot} c.requires.sizes.usable c.args.root c.requires.first c.requires.within c.args.rowid c.in-Ok.here entered c.seek_from.result seeks c.seek_from.ensures.kind);
    }
