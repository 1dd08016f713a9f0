use Rattle.std.proofs.Common.{◌≡◌, ◌-◌, ◌<◌, length, max, ap, ◌∙◌, inl, inr, arith}
use Rattle.page_spec.specs.Rooms.{rooms}
use Rattle.page_spec.specs.RoomsLaws.{rooms-fit}
use Rattle.page_layout.proofs.Taking.{IsWritten-taken, TakesCell-same_numbers}
use Rattle.page_layout.proofs.take.take_cell.Goals as goal

pub span_of-cell-requires : goal.span_of-cell-requires
span_of-cell-requires c =
    let of = c.requires.packed in
    let is = of.2.is_page in
    record {
      usable = c.requires.usable;
      whole = c.requires.whole;
      accepted = record { kind = c.args.layout.kind; cells = of.0; right = of.1; is_page = is };
      kind = is.kind_is;
      within = omega (arith, c.requires.at, of.2.count, is.count);
    }

pub take_at-requires : goal.take_at-requires
take_at-requires c =
    let l = c.args.layout in
    let of = c.requires.packed in
    let is = of.2.is_page in
    let header = c.header_place-header.ensures.value in
    let fits = rooms-fit c.args.page.now l.number l.usable l.kind of.0 of.1 c.requires.usable is in
    let low_end = of.2.no_hole c.args.at (omega (arith, c.requires.at, of.2.count)) in
    record {
      at = c.requires.at;
      header = omega (arith, c.header_length.ensures.least);
      array = omega (arith, fits, of.2.bottom, of.2.count, header, c.header_length.ensures.value);
      place = omega (arith, low_end, of.2.bottom, c.span_of-cell.ensures.place);
      within = omega (arith, c.span_of-cell.ensures.inside, c.room.ensures, c.requires.whole);
      long = c.requires.long;
    }

pub returns-clause-written : goal.returns-clause-written
returns-clause-written c cells right packed =
    let a = c.args in
    let l = a.layout in
    let is = packed.is_page in
    let inside : a.at < length cells = omega (arith, c.requires.at, packed.count) in
    let size = c.span_of-cell.ensures.size cells right is in
    let bottom : l.bottom ≡ l.usable - rooms cells = omega (arith, packed.bottom) in
    IsWritten-taken a.page.now c.take_at.new.page l.number l.usable l.kind cells right a.at c.requires.whole is packed.no_hole inside
    (rooms-fit a.page.now l.number l.usable l.kind cells right c.requires.usable is)
    (TakesCell-same_numbers a.page.now c.take_at.new.page a.at _ _ _ _ _ _ _ _ _ _ _ _ c.header_place-header.ensures.value c.header_length.ensures.value packed.count bottom
    c.span_of-cell.ensures.place (c.room.ensures ∙ ap (max 4) size) c.take_at.ensures)

pub returns-clause-rest : goal.returns-clause-rest
returns-clause-rest c k (inl front) = c.take_at.ensures.front k (omega (arith, c.header_place-header.ensures.value))
returns-clause-rest c k (inr behind) = c.take_at.ensures.behind k (omega (arith, c.span_of-cell.ensures.inside, c.room.ensures))
