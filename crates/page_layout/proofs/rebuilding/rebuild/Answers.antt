use Rattle.std.proofs.Common.{ℕ, [], ap, ◌∙◌, subst}
use Rattle.format_spec.specs.declared.PageKind.{PageKind}
use Rattle.std.proofs.Math.Path.{subst⁻¹}
use Rattle.std.specs.List.{All}
use Rattle.page_spec.specs.Rooms.{IsOneCell, IsWritten, right_kept}
use Rattle.page_layout.specs.declared.put.Layout.{Layout}
use Rattle.page_layout.proofs.rebuilding.rebuild.Goals as goal

pub put_all-requires-clause-cells : goal.put_all-requires-clause-cells
put_all-requires-clause-cells c =
    let P : Layout → Type 0 = λ layout. All (IsOneCell layout.kind layout.usable) c.args.cells.now in
    subst⁻¹ P c.clear-layout.ensures.layout c.requires.cells

pub returns-clause-written : goal.returns-clause-written
returns-clause-written c =
    let a = c.args in
    let laid = c.put_all.ensures.cells [] (right_kept a.kind a.right) c.clear-layout.ensures.laid in
    let first = c.clear-layout.ensures.layout in
    let on = c.put_all.ensures.layout in
    let P : ℕ → ℕ → PageKind → Type 0 = λ number usable kind. IsWritten c.put_all.new.page number usable kind a.cells.now (right_kept a.kind a.right) in
    let last = c.put_all.new.layout in
    subst (λ (n : ℕ). P n a.usable a.kind) (on.number ∙ ap (λ (l : Layout). l.number) first)
    (subst (λ (u : ℕ). P last.number u a.kind) (on.usable ∙ ap (λ (l : Layout). l.usable) first)
    (subst (λ (k : PageKind). P last.number last.usable k) (on.kind ∙ ap (λ (l : Layout). l.kind) first) laid.written))
