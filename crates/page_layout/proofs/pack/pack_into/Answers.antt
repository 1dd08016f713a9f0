use Rattle.std.proofs.Common.{◌≡◌, ◌+◌, ◌-◌, ◌<◌, ◌≤◌, ℕ, List, [], length, take, drop, get_or, sym, ap, ◌∙◌, subst, arith}
use Rattle.std.proofs.Math.Path.{subst⁻¹}
use Rattle.std.proofs.lemmas.List.{get_or_default, length-take-le}
use Rattle.format_spec.specs.declared.PageKind.{PageKind}
use Rattle.format_spec.specs.Page.{cell_place, cell_room}
use Rattle.page_spec.specs.Rooms.{array_end, rooms, IsOneCell, KeepsRest}
use Rattle.page_layout.specs.declared.put.Layout.{Layout}
use Rattle.page_layout.specs.Written.{IsLaid}
use Rattle.page_layout.proofs.Inserting.{packed-laid}
use Rattle.page_layout.proofs.Packing.{AreRead-at_end, IsLowest-none, IsLowest-one_more, IsMeasured-lowest, rooms-one_more_fits, IsLaid-one_more, right-kept, layout-to_known, layout-from_known, KeepsRest-then}
use Rattle.page_layout.proofs.Spans.{IsAccepted-of_kind, span-is_cell}
use Rattle.page_layout.proofs.pack.pack_into.Goals as goal

pub loop-index-init : goal.loop-index-init
loop-index-init c =
    let a = c.args in
    let kind = c.kind_of-kind.result in
    let laid = c.clear-layout.ensures.layout in
    record {
      number_is = ap (λ (l : Layout). l.number) laid;
      usable_is = ap (λ (l : Layout). l.usable) laid;
      kind_is = ap (λ (l : Layout). l.kind) laid;
      count_is = ap (λ (l : Layout). l.count) laid;
      laid = λ cells right is.
          let kept = right-kept kind a.page.now _ _ c.right_child-right.ensures.value ∙ c.right_child-right.ensures.of_page a.usable cells right is in
          subst (λ (x : ℕ). IsLaid c.clear-layout.new.page c.clear-layout.result [] x) kept c.clear-layout.ensures.laid;
      lowest_is = IsLowest-none _ _;
      rest = λ k apart. c.clear-layout.ensures.rest k apart ∙ ap (λ (bytes : List ℕ). get_or bytes k 0) c.copy_from_slice.ensures.after;
    }

pub put_cell-requires-clause-cell : goal.put_cell-requires-clause-cell
put_cell-requires-clause-cell c =
    let a = c.args in
    let inv = c.loop-index.invariant in
    let kind = c.kind_of-kind.result in
    let i = c.loop-index.index in
    let of = IsAccepted-of_kind a.page.now a.number a.usable kind c.requires.accepted c.kind_of-kind.ensures in
    let low : i < length of.0 = omega (arith, c.loop-index-test.true, c.count_of-count.ensures.value, of.2.count) in
    let span = span-is_cell a.page.now a.number a.usable kind c.requires.whole of.0 of.1 of.2 i low c.span_of-cell.result.place c.span_of-cell.result.size c.span_of-cell.ensures.place (c.span_of-cell.ensures.size of.0 of.1 of.2) in
    let at = of.2.each i low in
    layout-from_known (λ (n u : ℕ) (k : PageKind). IsOneCell k u (take (c.span_of-cell.result.place + c.span_of-cell.result.size - c.span_of-cell.result.place) (drop c.span_of-cell.result.place a.page.now))) c.loop-index.layout a.number a.usable kind inv.number_is inv.usable_is inv.kind_is
    (subst⁻¹ (IsOneCell kind a.usable) span (at.view, at.is_cell))

pub put_cell-requires-clause-room : goal.put_cell-requires-clause-room
put_cell-requires-clause-room c =
    let a = c.args in
    let inv = c.loop-index.invariant in
    let kind = c.kind_of-kind.result in
    let layout = c.loop-index.layout in
    let i = c.loop-index.index in
    let of = IsAccepted-of_kind a.page.now a.number a.usable kind c.requires.accepted c.kind_of-kind.ensures in
    let low : i < length of.0 = omega (arith, c.loop-index-test.true, c.count_of-count.ensures.value, of.2.count) in
    let size = c.span_of-cell.ensures.size of.0 of.1 of.2 in
    let span = span-is_cell a.page.now a.number a.usable kind c.requires.whole of.0 of.1 of.2 i low c.span_of-cell.result.place c.span_of-cell.result.size c.span_of-cell.ensures.place size in
    let next = rooms-one_more_fits a.page.now a.number a.usable kind of.0 of.1 c.requires.usable of.2 i c.span_of-cell.result.size low size in
    let laid = inv.laid of.0 of.1 of.2 in
    let bytes = take (c.span_of-cell.result.place + c.span_of-cell.result.size - c.span_of-cell.result.place) (drop c.span_of-cell.result.place a.page.now) in
    let long : length bytes ≡ c.span_of-cell.result.size = ap length span ∙ sym size in
    layout-from_known (λ (n u : ℕ) (k : PageKind). array_end n k (layout.count + 1) + cell_room bytes ≤ layout.bottom) layout a.number a.usable kind inv.number_is inv.usable_is inv.kind_is
    (omega (arith, next.0, next.1, laid.bottom, inv.usable_is, inv.count_is, long, low))

pub put_cell-requires-clause-within : goal.put_cell-requires-clause-within
put_cell-requires-clause-within c =
    let a = c.args in
    let of = IsAccepted-of_kind a.page.now a.number a.usable c.kind_of-kind.result c.requires.accepted c.kind_of-kind.ensures in
    omega (arith, (c.loop-index.invariant.laid of.0 of.1 of.2).bottom)

pub loop-index-preserved : goal.loop-index-preserved
loop-index-preserved c =
    let a = c.args in
    let inv = c.loop-index.invariant in
    let kind = c.kind_of-kind.result in
    let layout = c.loop-index.layout in
    let i = c.loop-index.index in
    let cell = c.span_of-cell.result in
    let bytes = take (cell.place + cell.size - cell.place) (drop cell.place a.page.now) in
    let laid_on = c.put_cell.ensures.layout in
    record {
      number_is = ap (λ (l : Layout). l.number) laid_on ∙ inv.number_is;
      usable_is = ap (λ (l : Layout). l.usable) laid_on ∙ inv.usable_is;
      kind_is = ap (λ (l : Layout). l.kind) laid_on ∙ inv.kind_is;
      count_is = ap (λ (l : Layout). l.count) laid_on ∙ ap (λ (n : ℕ). n + 1) inv.count_is;
      laid = λ cells right is.
          let low : i < length cells = omega (arith, c.loop-index-test.true, c.count_of-count.ensures.value, is.count) in
          let span = span-is_cell a.page.now a.number a.usable kind c.requires.whole cells right is i low cell.place cell.size c.span_of-cell.ensures.place (c.span_of-cell.ensures.size cells right is) in
          IsLaid-one_more c.put_cell.new.page c.put_cell.new.layout [] cells right i bytes i low (span ∙ get_or_default cells i [] bytes low) (sym (length-take-le i cells (omega arith)))
          (c.put_cell.ensures.cells (take i cells) right (packed-laid (inv.laid cells right is)));
      lowest_is = IsLowest-one_more (cell_place a.page.now a.number kind) a.usable i c.loop-index.lowest cell.place _ c.span_of-cell.ensures.place c.min-lowest.ensures inv.lowest_is;
      rest = KeepsRest-then a.number a.usable a.page.now c.loop-index.buffer c.put_cell.new.page inv.rest
          (layout-to_known (λ (n u : ℕ) (k : PageKind). KeepsRest n u c.loop-index.buffer c.put_cell.new.page) layout a.number a.usable kind inv.number_is inv.usable_is inv.kind_is c.put_cell.ensures.rest);
    }

pub returns-clause-measured : goal.returns-clause-measured
returns-clause-measured c kind cells right is =
    let a = c.args in
    let inv = c.loop-index.invariant in
    let layout = c.loop-index.layout in
    let read = AreRead-at_end a.page.now a.number a.usable c.kind_of-kind.result kind cells right c.loop-index.index c.loop-index.lowest c.count_of-count.result is c.kind_of-kind.ensures c.count_of-count.ensures.value
    c.loop-index-test.false c.loop-index.auto.index-end inv.lowest_is in
    IsMeasured-lowest a.page.now a.number a.usable kind cells layout c.loop-index.lowest inv.number_is inv.usable_is (inv.kind_is ∙ read.same) (inv.count_is ∙ read.all)
    (omega (arith, (inv.laid cells right read.there).bottom, ap rooms read.front, inv.usable_is)) read.low

pub returns-clause-laid : goal.returns-clause-laid
returns-clause-laid c kind cells right is =
    let a = c.args in
    let inv = c.loop-index.invariant in
    let read = AreRead-at_end a.page.now a.number a.usable c.kind_of-kind.result kind cells right c.loop-index.index c.loop-index.lowest c.count_of-count.result is c.kind_of-kind.ensures c.count_of-count.ensures.value
    c.loop-index-test.false c.loop-index.auto.index-end inv.lowest_is in
    subst (λ (all : List (List ℕ)). IsLaid c.loop-index.buffer c.loop-index.layout all right) read.front (inv.laid cells right read.there)
