use Rattle.std.proofs.Common.{◌≡◌, Err, refl, ◌∙◌}
use Rattle.std.proofs.lemmas.Option.{IfSome_then}
use Rattle.common_spec.specs.ToldLaws.{told-both}
use Rattle.tree_spec.specs.FaultsLaws.{damage-then}
use Rattle.tree_walk.specs.Stores.{paged, sizes_of}
use Rattle.tree_walk.specs.Courses.{StartsAt, stops}
use Rattle.tree_walk.specs.Places.{IsBadRoot}
use Rattle.page_store.specs.StoreLaws.{at-sizes}
use Rattle.tree_walk.proofs.Calls.{ok-then, sees-then}
use Rattle.tree_walk.proofs.Lengths.{first-few}
use Rattle.tree_walk.proofs.Members.{first-member}
use Rattle.tree_walk.proofs.path.Cursor.first.Goals as goal

pub returns-in-Ok-clause-walk : goal.returns-in-Ok-clause-walk
returns-in-Ok-clause-walk g c =
    let store = c.args.store.now in
    let enters = c.in-Ok.ensures in
    let from = c.from_root.ensures in
    record {
      same = from.walk.same ∙ enters.pages.same;
      count = from.walk.count ∙ enters.pages.count;
      answer = told-both (g.S.PageRead.pages store) enters.pages.same enters.pages.answer from.walk.answer (λ m entered starts. λ course from_root.
          at-sizes g.S.PageRead enters.owes.stays enters.pages.count (λ s u n. StartsAt (record { size = s; usable = u }) (record { count = n; pages = m }) c.in-Ok.here c.from_root.result) starts
          course (from_root.entered c.in-Ok.here entered));
    }

pub returns-in-Err-clause-walk : goal.returns-in-Err-clause-walk
returns-in-Err-clause-walk g c =
    let a = c.args in
    let store = a.store.now in
    let enters = c.in-Err.ensures in
    record {
      same = enters.pages.same;
      count = enters.pages.count;
      answer = IfSome_then (g.S.PageRead.pages store) enters.pages.answer (λ m bad. λ course from_root.
          damage-then (IsBadRoot (m a.root) a.root (g.S.PageRead.usable store) a.kind) (λ page rule. course ≡ stops page rule) from_root.refused c.in-Err.fault bad);
    }

pub returns-in-Ok-clause-pages : goal.returns-in-Ok-clause-pages
returns-in-Ok-clause-pages g c = sees-then g.S.PageRead (λ m. first-member (sizes_of g.S.PageRead c.args.store.now) (paged g.S.PageRead c.args.store.now m) {F = g.row.S-Fault.Denot} c.args.kind c.args.root c.from_root.result) (returns-in-Ok-clause-walk g c)

pub returns-in-Err-clause-pages : goal.returns-in-Err-clause-pages
returns-in-Err-clause-pages g c = sees-then g.S.PageRead (λ m. first-member (sizes_of g.S.PageRead c.args.store.now) (paged g.S.PageRead c.args.store.now m) {F = g.row.S-Fault.Denot} c.args.kind c.args.root (Err c.in-Err.fault)) (returns-in-Err-clause-walk g c)

pub returns-in-Ok-clause-few : goal.returns-in-Ok-clause-few
returns-in-Ok-clause-few g c =
    let walk = returns-in-Ok-clause-walk g c in
    record {
      same = walk.same;
      count = walk.count;
      answer = told-both (g.S.PageRead.pages c.args.store.now) refl c.in-Ok.ensures.pages.answer walk.answer (λ m entered starts.
          first-few (sizes_of g.S.PageRead c.args.store.now) (paged g.S.PageRead c.args.store.now m) {F = g.row.S-Fault.Denot} c.requires.sizes.usable c.args.kind c.args.root c.requires.first c.requires.within c.in-Ok.here entered c.from_root.result starts c.from_root.ensures.kind);
    }

pub returns-in-Ok-clause-of_kind : goal.returns-in-Ok-clause-of_kind
returns-in-Ok-clause-of_kind g c = ok-then c.from_root.result c.from_root.ensures.kind (λ cursor same. same ∙ c.in-Ok.ensures.of_kind)
