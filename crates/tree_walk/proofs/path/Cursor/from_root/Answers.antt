use Rattle.std.proofs.Common.{refl}
use Rattle.std.proofs.lemmas.Option.{IfSome_then}
use Rattle.tree_walk.specs.Stores.{paged, sizes_of}
use Rattle.tree_walk.proofs.Courses.{leaf-stands, root-goes}
use Rattle.tree_walk.proofs.path.Cursor.from_root.Goals as goal

pub returns-in-Ok-clause-walk : goal.returns-in-Ok-clause-walk
returns-in-Ok-clause-walk g c =
    let store = c.args.store.now in
    let down = c.in-Ok.ensures in
    record {
      same = down.walk.same;
      count = down.walk.count;
      answer = IfSome_then (g.S.PageRead.pages store) down.walk.answer (λ m went. λ course from.
          leaf-stands (sizes_of g.S.PageRead store) (paged g.S.PageRead store m) course c.descend.new.self down.leaf (went course (root-goes (sizes_of g.S.PageRead store) (paged g.S.PageRead store m) course c.args.here _ c.new_in.ensures refl from)));
    }

pub returns-in-Err-clause-walk : goal.returns-in-Err-clause-walk
returns-in-Err-clause-walk g c =
    let store = c.args.store.now in
    let down = c.in-Err.ensures in
    record { same = down.walk.same; count = down.walk.count; answer = IfSome_then (g.S.PageRead.pages store) down.walk.answer (λ m went. λ course from. went course (root-goes (sizes_of g.S.PageRead store) (paged g.S.PageRead store m) course c.args.here _ c.new_in.ensures refl from)) }
