use Rattle.std.proofs.Common.{rules, ℤ, FitsSigned, to_z, of_z, Ok, Err, refl, subst}
use Rattle.std.specs.Int.{w64}
use Rattle.std.proofs.lemmas.Int.{to_z-of_z}
use Rattle.std.proofs.lemmas.Option.{IfSome_then}
use Rattle.tree_walk.specs.Stores.{paged, sizes_of}
use Rattle.tree_walk.specs.SoughtCourses.{SoughtAt}
use Rattle.tree_walk.proofs.SoughtCourses.{root-sought}
use Rattle.tree_walk.proofs.path.Cursor.seek_from.Goals as goal

pub returns-in-Ok-clause-walk : goal.returns-in-Ok-clause-walk
returns-in-Ok-clause-walk g c =
    let store = c.args.store.now in
    let came = c.in-Ok.ensures.walk in
    let z = to_z w64 (of_z w64 c.args.rowid) in
    let fits : FitsSigned w64 c.args.rowid = search rules in
    record {
      same = came.same;
      count = came.count;
      answer = IfSome_then (g.S.PageRead.pages store) came.answer (λ m came.
          subst (λ (y : ℤ). SoughtAt {F = g.row.S-Fault.Denot} (sizes_of g.S.PageRead store) (paged g.S.PageRead store m) y c.args.here (Ok c.come_to.new.self)) (to_z-of_z w64 c.args.rowid fits) (λ course from.
          came course (root-sought (sizes_of g.S.PageRead store) (paged g.S.PageRead store m) z course c.args.here _ c.new_in.ensures refl from)));
    }

pub returns-in-Err-clause-walk : goal.returns-in-Err-clause-walk
returns-in-Err-clause-walk g c =
    let store = c.args.store.now in
    let came = c.in-Err.ensures.walk in
    let z = to_z w64 (of_z w64 c.args.rowid) in
    let fits : FitsSigned w64 c.args.rowid = search rules in
    record {
      same = came.same;
      count = came.count;
      answer = IfSome_then (g.S.PageRead.pages store) came.answer (λ m came.
          subst (λ (y : ℤ). SoughtAt {F = g.row.S-Fault.Denot} (sizes_of g.S.PageRead store) (paged g.S.PageRead store m) y c.args.here (Err c.in-Err.fault)) (to_z-of_z w64 c.args.rowid fits) (λ course from.
          came course (root-sought (sizes_of g.S.PageRead store) (paged g.S.PageRead store m) z course c.args.here _ c.new_in.ensures refl from)));
    }
