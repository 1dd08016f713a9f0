use Rattle.std.proofs.Common.{◌<◌, length, refl, ap, ◌∙◌, arith}
use Rattle.format_spec.specs.Page.{cell_place}
use Rattle.page_spec.specs.Rooms.{rooms}
use Rattle.page_layout.proofs.Packing.{AreRead-at_end, IsLowest-none, IsLowest-one_more, IsMeasured-lowest, rooms-one_more_fits}
use Rattle.page_layout.proofs.Spans.{IsAccepted-of_kind}
use Rattle.page_layout.proofs.pack.measure.Goals as goal

pub overflow_sub-bottom : goal.overflow_sub-bottom
overflow_sub-bottom c =
    let a = c.args in
    let of = IsAccepted-of_kind a.page.now a.number a.usable c.kind_of-kind.result c.requires.accepted c.kind_of-kind.ensures in
    let i = c.loop-index.index in
    let low : i < length of.0 = omega (arith, c.loop-index-test.true, c.count_of-count.ensures.value, of.2.count) in
    let next = rooms-one_more_fits a.page.now a.number a.usable c.kind_of-kind.result of.0 of.1 c.requires.usable of.2 i c.span_of-cell.result.size low (c.span_of-cell.ensures.size of.0 of.1 of.2) in
    omega (arith, c.loop-index.invariant.laid of.0 of.1 of.2, next.0, next.1, c.room-bottom.ensures)

pub loop-index-init : goal.loop-index-init
loop-index-init c = record { laid = λ cells right is. omega arith; lowest_is = IsLowest-none _ _ }

pub loop-index-preserved : goal.loop-index-preserved
loop-index-preserved c =
    let a = c.args in
    let inv = c.loop-index.invariant in
    let i = c.loop-index.index in
    let cell = c.span_of-cell.result in
    record {
      laid = λ cells right is.
          let low : i < length cells = omega (arith, c.loop-index-test.true, c.count_of-count.ensures.value, is.count) in
          let next = rooms-one_more_fits a.page.now a.number a.usable c.kind_of-kind.result cells right c.requires.usable is i cell.size low (c.span_of-cell.ensures.size cells right is) in
          omega (arith, inv.laid cells right is, next.0, next.1, c.room-bottom.ensures);
      lowest_is = IsLowest-one_more (cell_place a.page.now a.number c.kind_of-kind.result) a.usable i c.loop-index.lowest cell.place _ c.span_of-cell.ensures.place c.min-lowest.ensures inv.lowest_is;
    }

pub returns : goal.returns
returns c kind cells right is =
    let a = c.args in
    let inv = c.loop-index.invariant in
    let found = c.kind_of-kind.result in
    let count = c.count_of-count in
    let read = AreRead-at_end a.page.now a.number a.usable found kind cells right c.loop-index.index c.loop-index.lowest count.result is c.kind_of-kind.ensures count.ensures.value c.loop-index-test.false c.loop-index.auto.index-end inv.lowest_is in
    IsMeasured-lowest a.page.now a.number a.usable kind cells (record { number = a.number; usable = a.usable; kind = found; count = count.result; bottom = c.loop-index.bottom }) c.loop-index.lowest
    refl refl read.same (count.ensures.value ∙ is.count) (omega (arith, inv.laid cells right read.there, ap rooms read.front)) read.low
