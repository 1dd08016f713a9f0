use Rattle.std.proofs.lemmas.Option.{IfSome_then}
use Rattle.tree_walk.specs.Stores.{paged, sizes_of}
use Rattle.tree_walk.proofs.Courses.{leaf-stands}
use Rattle.tree_walk.proofs.path.Cursor.land.Goals as goal

pub returns-in-Ok-clause-walk : goal.returns-in-Ok-clause-walk
returns-in-Ok-clause-walk g c =
    let store = c.args.store.now in
    let down = c.in-Ok.ensures in
    record {
      same = down.walk.same;
      count = down.walk.count;
      answer = IfSome_then (g.S.PageRead.pages store) down.walk.answer (λ m went. λ course goes. leaf-stands (sizes_of g.S.PageRead store) (paged g.S.PageRead store m) course c.descend.new.self down.leaf (went course goes));
    }

pub returns-in-Err-clause-walk : goal.returns-in-Err-clause-walk
returns-in-Err-clause-walk g c =
    let store = c.args.store.now in
    let down = c.in-Err.ensures in
    record { same = down.walk.same; count = down.walk.count; answer = IfSome_then (g.S.PageRead.pages store) down.walk.answer (λ m went. λ course goes. went course goes) }
