use Rattle.std.proofs.Common.{ℕ}
use Rattle.std.proofs.Math.Path.{subst⁻¹}
use Rattle.std.specs.List.{All}
use Rattle.page_spec.specs.Rooms.{IsOneCell}
use Rattle.tree_spec.specs.Standing.{Paged}
use Rattle.tree_pages.specs.Writers.{sizes_of}
use Rattle.tree_pages.specs.WritersLaws.{Becomes-weaken}
use Rattle.tree_level.proofs.Fronts.{on-ok_map, node-written}
use Rattle.tree_level.proofs.writing.write_node.Goals as goal

pub rebuild-requires-clause-cells : goal.rebuild-requires-clause-cells
rebuild-requires-clause-cells g c = subst⁻¹ (λ (u : ℕ). All (IsOneCell c.args.node.kind u) c.args.cells.now) c.usable.ensures c.requires.cells

pub returns-clause-written : goal.returns-clause-written
returns-clause-written g c =
    let S = g.S.PageRead in
    let a = c.args.store.now in
    let node = c.args.node in
    let page = c.rebuild.new.page in
    on-ok_map c.write_page.result
    (Becomes-weaken S a c.write_page.new.store (λ (x y : Paged) writes. node-written (sizes_of S a) node c.args.cells.now page c.usable.result x y c.usable.ensures c.in-Ok.ensures.written writes))
    c.write_page.ensures.written
