use Rattle.std.proofs.Common.{ℕ, List, [], ap, ◌∙◌, subst, arith}
use Rattle.std.proofs.Math.Path.{subst⁻¹}
use Rattle.std.proofs.lemmas.Result.{err_from_is_err_and}
use Rattle.std.specs.List.{All}
use Rattle.format_spec.specs.declared.PageKind.{PageKind}
use Rattle.page_spec.specs.Rooms.{IsOneCell, free_bytes, needs}
use Rattle.tree_spec.specs.Standing.{Paged}
use Rattle.tree_pages.specs.Writers.{sizes_of}
use Rattle.tree_pages.specs.WritersLaws.{Becomes-weaken}
use Rattle.tree_level.specs.declared.writing.Node.{Node}
use Rattle.tree_level.specs.Changes.{WritesChange, bytes_changed}
use Rattle.tree_level.specs.Levels.{WritesNode}
use Rattle.tree_level.proofs.Fronts.{on-ok_map}
use Rattle.tree_level.proofs.Changed.{made-cells, made-fit, readable}
use Rattle.tree_level.proofs.changing.write_anew.Goals as goal

pub changed_cells-requires-clause-page : goal.changed_cells-requires-clause-page
changed_cells-requires-clause-page g c = readable (g.S.PageRead.usable c.args.store.now) c.args.page c.requires.page (omega (arith, c.requires.sizes.within, c.requires.whole))

pub write_node-requires-clause-cells : goal.write_node-requires-clause-cells
write_node-requires-clause-cells g c =
    let a = c.args in
    let u = g.S.PageRead.usable a.store.now in
    let kind = ap (λ (n : Node). n.kind) c.node_of-node.ensures in
    let made = made-cells (sizes_of g.S.PageRead a.store.now) a.page a.change a.comes.items c.requires.page c.in_ok-cells.cells.items c.in_ok-cells.ensures c.requires.comes in
    subst⁻¹ (All (IsOneCell c.node_of-node.result.kind u)) c.as_slice.ensures.value (subst⁻¹ (λ (k : PageKind). All (IsOneCell k u) c.in_ok-cells.cells.items) kind made)

pub write_node-requires-clause-room : goal.write_node-requires-clause-room
write_node-requires-clause-room g c =
    let a = c.args in
    let u = g.S.PageRead.usable a.store.now in
    let fit = made-fit (sizes_of g.S.PageRead a.store.now) a.page a.change a.comes.items c.requires.page c.in_ok-cells.cells.items c.in_ok-cells.ensures c.requires.room in
    omega (arith, fit, ap needs c.as_slice.ensures.value, ap (λ (n : Node). free_bytes n.number u n.kind []) c.node_of-node.ensures)

pub returns-clause-written : goal.returns-clause-written
returns-clause-written g c =
    let S = g.S.PageRead in
    let a = c.args in
    let z = sizes_of S a.store.now in
    let l = c.as_slice.result.now in
    let more : (x y : Paged) → WritesNode z c.node_of-node.result l x y → WritesChange z a.page a.change a.comes.items x y =
    λ x y w cells has.
    subst (λ (n : Node). WritesNode z n (bytes_changed cells a.change a.comes.items) x y) c.node_of-node.ensures
    (subst (λ (m : List (List ℕ)). WritesNode z c.node_of-node.result m x y) (c.as_slice.ensures.value ∙ c.in_ok-cells.ensures z.usable cells has) w) in
    on-ok_map c.write_node.result (Becomes-weaken S a.store.now c.write_node.new.store more) c.write_node.ensures.written

pub returns-in_err-cells-clause-other : goal.returns-in_err-cells-clause-other
returns-in_err-cells-clause-other g c = let p = err_from_is_err_and c.from_residual.result c.from_residual.ensures.1 in rw (p.1, p.2) tt
