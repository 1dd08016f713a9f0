use Rattle.std.proofs.Common.{ℕ, List, drop, ap, inl, subst, arith}
use Rattle.std.proofs.Math.Path.{subst⁻¹}
use Rattle.std.proofs.lemmas.Result.{err_from_is_err_and}
use Rattle.std.specs.List.{All}
use Rattle.page_spec.specs.FreePages.{due_pages}
use Rattle.page_spec.specs.Rooms.{IsOneCell}
use Rattle.tree_spec.specs.Standing.{Sizes}
use Rattle.tree_pages.specs.Writers.{paged, sizes_of}
use Rattle.tree_pages.specs.WritersLaws.{sizes-same}
use Rattle.tree_level.specs.Levels.{WritesNode}
use Rattle.tree_level.proofs.Fronts.{cells-behind, rest-of, spreads-settled}
use Rattle.tree_level.proofs.settling.settle.Goals as goal

pub write_node-requires-clause-cells : goal.write_node-requires-clause-cells
write_node-requires-clause-cells g c =
    let cells = c.args.cells.now in
    let start = c.in_ok-dividers.field-0.start in
    let kind = c.args.node.kind in
    subst⁻¹ (All (IsOneCell kind (g.S.PageRead.usable c.spread_cells.new.store))) (rest-of start cells)
    (subst⁻¹ (λ (u : ℕ). All (IsOneCell kind u) (drop start cells)) c.in_ok-dividers.ensures.owes.stays.usable
    (cells-behind (IsOneCell kind (g.S.PageRead.usable c.args.store.now)) start cells c.requires.cells))

pub returns-clause-settled : goal.returns-clause-settled
returns-clause-settled g c = λ old told.
    let S = g.S.PageRead in
    let a = c.args.store.now in
    let between = c.spread_cells.new.store in
    let cells = c.args.cells.now in
    let node = c.args.node in
    let s = c.in_ok-dividers.ensures in
    let start = c.in_ok-dividers.field-0.start in
    let dividers = c.in_ok-dividers.field-0.dividers.items in
    let n = s.spread old told in
    let k = c.in_ok-write_node.ensures.written n.0 n.1 in
    let x = paged S a old in
    let y = paged S between n.0 in
    let z = paged S c.write_node.new.store k.0 in
    let writes = subst (λ (s : Sizes). WritesNode s node (drop start cells) y z) (sizes-same S a between s.owes.stays)
    (subst (λ (l : List (List ℕ)). WritesNode (sizes_of S between) node l y z) (rest-of start cells) k.2) in (
      k.0,
      k.1,
      spreads-settled (sizes_of S a) node cells (drop start cells) dividers x y z n.2 writes,
    )

pub returns-clause-rises : goal.returns-clause-rises
returns-clause-rises g c = omega (arith, c.in_ok-dividers.ensures.rises, ap (due_pages (g.S.PageRead.size c.args.store.now)) c.in_ok-write_node.ensures.count)

pub returns-in_err-dividers-clause-refuses : goal.returns-in_err-dividers-clause-refuses
returns-in_err-dividers-clause-refuses g c = λ twice m trunks told free. let p = err_from_is_err_and c.from_residual.result c.from_residual.ensures.1 in rw (p.1, p.2) (c.in_err-dividers.ensures.refuses twice m trunks told free)

pub returns-in_err-write_node-clause-refuses : goal.returns-in_err-write_node-clause-refuses
returns-in_err-write_node-clause-refuses g c = λ twice m trunks told free. let p = err_from_is_err_and c.from_residual-in_err-write_node.result c.from_residual-in_err-write_node.ensures.1 in rw (p.1, p.2) (inl c.in_err-write_node.ensures.other)
