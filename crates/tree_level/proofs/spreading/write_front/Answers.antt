use Rattle.std.proofs.Common.{◌≡◌, ◌+◌, ◌^◌, ◌<◌, ℕ, [], ◌∷◌, length, take, drop, slice_index_or, sym, ap, ◌∙◌, subst, inl, arith}
use Rattle.std.proofs.Math.Path.{subst⁻¹}
use Rattle.std.proofs.lemmas.List.{get_or_default}
use Rattle.std.proofs.lemmas.Result.{err_from_is_err_and}
use Rattle.std.specs.List.{All}
use Rattle.page_spec.specs.Rooms.{IsOneCell}
use Rattle.page_spec.specs.FreePages.{due_pages}
use Rattle.page_spec.specs.Pages.{IsInRange}
use Rattle.tree_spec.specs.Standing.{Sizes}
use Rattle.tree_balance.specs.Cuts.{risen}
use Rattle.tree_pages.specs.Writers.{Becomes, paged, sizes_of}
use Rattle.tree_pages.specs.WritersLaws.{sizes-same}
use Rattle.tree_level.specs.Levels.{IsDivider, WritesNode, Spreads, left_child}
use Rattle.tree_level.proofs.Raised.{child-inside}
use Rattle.tree_level.proofs.Fronts.{front-spread, cells-front, divider-cell}
use Rattle.tree_level.proofs.spreading.write_front.Goals as goal

pub cut-front-requires-clause-cells : goal.cut-front-requires-clause-cells
cut-front-requires-clause-cells g c = subst⁻¹ (λ (u : ℕ). All (IsOneCell c.args.kind u) c.args.cells.now) c.usable-usable.ensures c.requires.cells

pub divider_behind-requires-clause-cells : goal.divider_behind-requires-clause-cells
divider_behind-requires-clause-cells g c = subst⁻¹ (λ (u : ℕ). All (IsOneCell c.args.kind u) c.args.cells.now) c.usable-usable.ensures c.requires.cells

pub child_of-requires : goal.child_of-requires
child_of-requires g c =
    let a = c.args in
    let d = c.index-cells-front.result in
    let front = c.cut-front.result in
    let inside = child-inside a.kind (g.S.PageRead.usable a.store.now) (slice_index_or a.cells.now front d) (c.requires.cells front d (omega (arith, c.cut-front.ensures.back))) in
    omega (arith, inside, ap length (c.as_slice.ensures ∙ c.index-cells-front.is))

pub write_node-requires-clause-cells : goal.write_node-requires-clause-cells
write_node-requires-clause-cells g c =
    let a = c.args in
    let S = g.S.PageRead in
    subst⁻¹ (λ (u : ℕ). All (IsOneCell a.kind u) (take c.cut-front.result a.cells.now)) c.in_ok-child.ensures.owes.stays.usable
    (cells-front (IsOneCell a.kind (S.usable a.store.now)) c.cut-front.result a.cells.now c.requires.cells)

pub returns-clause-spread : goal.returns-clause-spread
returns-clause-spread g c =
    let S = g.S.PageRead in
    let a = c.args.store.now in
    let between = c.take_page.new.store in
    let after = c.write_node.new.store in
    let kind = c.args.kind in
    let bytes = c.args.cells.now in
    let front = c.cut-front.result in
    let child = c.in_ok-child.child in
    let divider = c.in_ok-divider.divider in
    let cut = c.cut-front.ensures in
    let took = c.in_ok-child.ensures in
    let usable : c.usable-usable.result ≡ S.usable a = c.usable-usable.ensures in
    let fits : child < 2 ^ 32 = omega (arith, rw c.in_ok-child.was at c.take_page.type_inv) in
    let range : IsInRange (S.size a) (S.count between) child = subst (λ (m : ℕ). IsInRange m (S.count between) child) took.owes.stays.size took.in_range in
    let right : c.child_of.result ≡ left_child kind (slice_index_or bytes front []) =
    c.child_of.ensures
    ∙ ap (left_child kind) (c.as_slice.ensures ∙ c.index-cells-front.is ∙ get_or_default bytes front c.index-cells-front.result [] (omega (arith, cut.back))) in
    let is : IsDivider kind (S.usable a) bytes front child divider = subst (λ (u : ℕ). IsDivider kind u bytes front child divider) usable c.in_ok-divider.ensures in
    let used : front + risen kind ≡ front + c.risen.result = ap (λ (n : ℕ). front + n) (sym c.risen.ensures) in
    subst (λ (n : ℕ). Becomes S a after (Spreads (sizes_of S a) kind bytes (divider ∷ []) (drop n bytes))) used
    (λ old told.
    let n = took.took old told in
    let k = c.in_ok-write_node.ensures.written n.0 n.1 in
    let x = paged S a old in
    let y = paged S between n.0 in
    let z = paged S after k.0 in
    let writes = subst (λ (s : Sizes). WritesNode s (record { number = child; kind = kind; right = left_child kind (slice_index_or bytes front []) }) (take front bytes) y z) (sizes-same S a between took.owes.stays)
    (subst (λ (r : ℕ). WritesNode (sizes_of S between) (record { number = child; kind = kind; right = r }) (take front bytes) y z) right k.2) in (
      k.0,
      k.1,
      front-spread (sizes_of S a) bytes front child divider x y z fits range n.2 kind cut.front cut.back is writes,
    ))

pub returns-clause-divider : goal.returns-clause-divider
returns-clause-divider g c =
    let S = g.S.PageRead in
    let usable = S.usable c.args.store.now in
    let fits : c.in_ok-child.child < 2 ^ 32 = omega (arith, rw c.in_ok-child.was at c.take_page.type_inv) in
    divider-cell c.args.kind usable c.args.cells.now c.cut-front.result c.in_ok-child.child c.in_ok-divider.divider fits c.requires.cells c.cut-front.ensures.front c.cut-front.ensures.back
    (subst (λ (u : ℕ). IsDivider c.args.kind u c.args.cells.now c.cut-front.result c.in_ok-child.child c.in_ok-divider.divider) c.usable-usable.ensures c.in_ok-divider.ensures)

pub returns-clause-rises : goal.returns-clause-rises
returns-clause-rises g c = omega (arith, c.in_ok-child.ensures.rises, ap (due_pages (g.S.PageRead.size c.args.store.now)) c.in_ok-write_node.ensures.count)

pub returns-in_err-child-clause-refuses : goal.returns-in_err-child-clause-refuses
returns-in_err-child-clause-refuses g c = λ m trunks told free. let p = err_from_is_err_and c.from_residual.result c.from_residual.ensures.1 in rw (p.1, p.2) (c.in_err-child.ensures.refuses m trunks told free)

pub returns-in_err-divider-clause-refuses : goal.returns-in_err-divider-clause-refuses
returns-in_err-divider-clause-refuses g c = λ m trunks told free. let p = err_from_is_err_and c.from_residual-in_err-divider.result c.from_residual-in_err-divider.ensures.1 in rw (p.1, p.2) (inl tt)

pub returns-in_err-write_node-clause-refuses : goal.returns-in_err-write_node-clause-refuses
returns-in_err-write_node-clause-refuses g c = λ m trunks told free. let p = err_from_is_err_and c.from_residual-in_err-write_node.result c.from_residual-in_err-write_node.ensures.1 in rw (p.1, p.2) (inl c.in_err-write_node.ensures.other)
