use Rattle.std.proofs.Common.{◌≡◌, ◌+◌, ◌≤◌, ℕ, List, ◌++◌, take, get_or, ap, ◌∙◌, subst, arith}
use Rattle.std.proofs.Math.Path.{subst⁻¹}
use Rattle.std.proofs.lemmas.List.{take_all, get_or_read, length-take-le}
use Rattle.std.proofs.lemmas.List.Sums.{sum_by-take-le}
use Rattle.format_spec.specs.declared.PageKind.{PageKind}
use Rattle.format_spec.specs.Page.{cell_room}
use Rattle.page_spec.specs.Rooms.{IsOneCell, KeepsRest, rooms}
use Rattle.page_layout.specs.declared.put.Layout.{Layout}
use Rattle.page_layout.specs.Written.{IsLaid, laid_more}
use Rattle.page_layout.proofs.Inserting.{packed-laid}
use Rattle.page_layout.proofs.Packing.{layout-to_known, IsLaid-one_more, rooms-one_more}
use Rattle.page_layout.proofs.rebuilding.put_all.Goals as goal

pub put_cell-requires-clause-cell : goal.put_cell-requires-clause-cell
put_cell-requires-clause-cell c =
    let inv = c.loop-cell.invariant in
    let item = c.cell-item.result in
    let P : PageKind → ℕ → List ℕ → Type 0 = λ kind usable cell. IsOneCell kind usable cell in
    let one = c.requires.cells c.loop-cell.cell-index item c.loop-cell-test.true in
    subst⁻¹ (λ (k : PageKind). P k c.loop-cell.layout.usable c.as_slice.result.now) inv.on.kind
    (subst⁻¹ (λ (u : ℕ). P c.args.layout.now.kind u c.as_slice.result.now) inv.on.usable
    (subst⁻¹ (λ (x : List ℕ). P c.args.layout.now.kind c.args.layout.now.usable x) (c.as_slice.ensures ∙ c.cell-item.is) one))

pub loop-cell-preserved : goal.loop-cell-preserved
loop-cell-preserved c =
    let inv = c.loop-cell.invariant in
    let i = c.loop-cell.cell-index in
    let cells = c.args.cells.now in
    let x = c.as_slice.result.now in
    let is : x ≡ get_or cells i x = c.as_slice.ensures ∙ get_or_read cells i c.cell-item.result c.loop-cell-test.true c.cell-item.is x in
    let laid_on : c.put_cell.new.layout ≡ laid_more c.loop-cell.layout (cell_room x) = c.put_cell.ensures.layout in
    let front : rooms (take (i + 1) cells) ≡ rooms (take i cells) + cell_room x = rooms-one_more cells i x c.loop-cell-test.true is in
    let within : rooms (take (i + 1) cells) ≤ rooms cells = sum_by-take-le cell_room cells (i + 1) in
    record {
      on = record {
        number = ap (λ (l : Layout). l.number) laid_on ∙ inv.on.number;
        usable = ap (λ (l : Layout). l.usable) laid_on ∙ inv.on.usable;
        kind = ap (λ (l : Layout). l.kind) laid_on ∙ inv.on.kind;
        count = omega (arith, ap (λ (l : Layout). l.count) laid_on, inv.on.count, length-take-le i cells (omega arith), length-take-le (i + 1) cells (omega arith));
        bottom = omega (arith, ap (λ (l : Layout). l.bottom) laid_on, inv.on.bottom, c.requires.room);
      };
      laid = λ before right was.
          let mid = inv.laid before right was in
          IsLaid-one_more c.put_cell.new.page c.put_cell.new.layout before cells right i x c.loop-cell.layout.count c.loop-cell-test.true is mid.count
          (c.put_cell.ensures.cells (before ++ take i cells) right (packed-laid mid));
      rest = λ k apart.
          layout-to_known (λ (n u : ℕ) (kind : PageKind). KeepsRest n u c.loop-cell.page c.put_cell.new.page) c.loop-cell.layout c.args.layout.now.number c.args.layout.now.usable c.args.layout.now.kind
          inv.on.number inv.on.usable inv.on.kind c.put_cell.ensures.rest k apart
          ∙ inv.rest k apart;
    }

pub returns-clause-cells : goal.returns-clause-cells
returns-clause-cells c before right laid =
    let P : List (List ℕ) → Type 0 = λ cells. IsLaid c.loop-cell.page c.loop-cell.layout (before ++ cells) right in
    subst P (take_all c.loop-cell.cell-index c.args.cells.now (omega arith)) (c.loop-cell.invariant.laid before right laid)
