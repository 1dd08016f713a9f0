use Rattle.std.proofs.Common.{rules, FitsSigned, to_z, of_z, Some, None, Ok, Err, refl, ◌∙◌}
use Rattle.std.specs.Int.{w64}
use Rattle.std.proofs.lemmas.Int.{to_z-of_z}
use Rattle.std.proofs.lemmas.Option.{IfSome_then}
use Rattle.tree_walk.specs.Stores.{paged, sizes_of}
use Rattle.tree_walk.specs.Courses.{IsPast}
use Rattle.page_store.specs.StoreLaws.{some-all}
use Rattle.tree_walk.proofs.Courses.{row-none, row-first, row-refused}
use Rattle.tree_walk.proofs.Calls.{sees-then}
use Rattle.tree_walk.proofs.Members.{row-member}
use Rattle.tree_walk.proofs.path.Cursor.row.Goals as goal

pub returns-then-is_past-clause-walk : goal.returns-then-is_past-clause-walk
returns-then-is_past-clause-walk g c =
    let store = c.args.store.now in
    record { same = refl; count = refl; answer = some-all (g.S.PageRead.pages store) (λ m. λ course stands. row-none (sizes_of g.S.PageRead store) (paged g.S.PageRead store m) course c.args.self.now (c.is_past.ensures.0 c.if-is_past.true) stands) }

pub returns-in-Ok-clause-walk : goal.returns-in-Ok-clause-walk
returns-in-Ok-clause-walk g c =
    let store = c.args.store.now in
    let reads = c.in-Ok.ensures.pages in
    let fits : FitsSigned w64 c.rowid_at-rowid.result = search rules in
    let not_past : ¬ IsPast c.args.self.now = λ past. let bad = c.is_past.ensures.1 past in cc in
    record {
      same = reads.same;
      count = reads.count;
      answer = IfSome_then (g.S.PageRead.pages store) reads.answer (λ m payload. λ course stands.
          row-first (sizes_of g.S.PageRead store) (paged g.S.PageRead store m) g.row.S-Fault.Denot course c.args.self.now not_past stands _ (λ d. to_z-of_z w64 c.rowid_at-rowid.result fits ∙ c.rowid_at-rowid.ensures d) payload);
    }

pub returns-in-Err-clause-walk : goal.returns-in-Err-clause-walk
returns-in-Err-clause-walk g c =
    let store = c.args.store.now in
    let reads = c.in-Err.ensures.pages in
    let not_past : ¬ IsPast c.args.self.now = λ past. let bad = c.is_past.ensures.1 past in cc in
    record {
      same = reads.same;
      count = reads.count;
      answer = IfSome_then (g.S.PageRead.pages store) reads.answer (λ m bad. λ course stands. row-refused (sizes_of g.S.PageRead store) (paged g.S.PageRead store m) course c.args.self.now not_past stands c.in-Err.fault bad);
    }

pub returns-then-is_past-clause-pages : goal.returns-then-is_past-clause-pages
returns-then-is_past-clause-pages g c = sees-then g.S.PageRead (λ m. row-member (sizes_of g.S.PageRead c.args.store.now) (paged g.S.PageRead c.args.store.now m) {F = g.row.S-Fault.Denot} c.args.self.now (Ok None)) (returns-then-is_past-clause-walk g c)

pub returns-in-Ok-clause-pages : goal.returns-in-Ok-clause-pages
returns-in-Ok-clause-pages g c = sees-then g.S.PageRead (λ m. row-member (sizes_of g.S.PageRead c.args.store.now) (paged g.S.PageRead c.args.store.now m) {F = g.row.S-Fault.Denot} c.args.self.now (Ok (Some (record { rowid = to_z w64 (of_z w64 c.rowid_at-rowid.result); payload = c.in-Ok.payload })))) (returns-in-Ok-clause-walk g c)

pub returns-in-Err-clause-pages : goal.returns-in-Err-clause-pages
returns-in-Err-clause-pages g c = sees-then g.S.PageRead (λ m. row-member (sizes_of g.S.PageRead c.args.store.now) (paged g.S.PageRead c.args.store.now m) {F = g.row.S-Fault.Denot} c.args.self.now (Err c.in-Err.fault)) (returns-in-Err-clause-walk g c)
