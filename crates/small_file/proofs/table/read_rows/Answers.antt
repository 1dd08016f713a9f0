use Rattle.std.proofs.Common.{◌≡◌, ◌-◌, ℕ, List, length, map, take, drop, Option, Some, option_map, Vec, Global, sym, subst}
use Rattle.std.proofs.lemmas.Bool.{both_ways}
use Rattle.std.proofs.lemmas.List.{take_rest}
use Rattle.std.proofs.lemmas.Option.{MatchOption-at_some, MatchOption-at_none}
use Rattle.std.specs.List.{All, AllZip}
use Rattle.std.specs.Option.{IfSome}
use Rattle.small_file.specs.declared.page.PlacedCell.{PlacedCell}
use Rattle.common_spec.specs.Reading.{Reads, OrNone}
use Rattle.small_spec.specs.SmallFile.{IsSmall, IsSmallFile, IsRisingBy}
use Rattle.small_file.specs.Pages.{cell_of, IsPlaced}
use Rattle.small_file.specs.Files.{HoldsTable}
use Rattle.small_file.proofs.Readings.{Reads-none, rows-none_small, rows-not_rising, rows-one_small}
use Rattle.small_file.proofs.table.read_rows.Goals as goal

-- the cells that were read
table-read : (bytes schema : List ℕ) (answer : Option (Vec PlacedCell Global)) (cells : Vec PlacedCell Global) → answer ≡ Some cells → IfSome answer (λ found. HoldsTable bytes schema found.items) → HoldsTable bytes schema cells.items
table-read bytes schema answer cells is found = MatchOption-at_some _ (λ found. HoldsTable bytes schema found.items) cells is found

pub returns-in_default : goal.returns-in_default
returns-in_default g c =
    let none = MatchOption-at_none _ _ c.in_default.is c.in_ok-cells.ensures.none in
    Reads-none (IsSmall g.R.SmallRow.table c.args.bytes.now) (λ rows small.
    none small.cells (subst (λ schema. IsSmallFile c.args.bytes.now schema small.cells) (sym c.schema.ensures) small.file))

pub rows_of-requires-clause-placed : goal.rows_of-requires-clause-placed
rows_of-requires-clause-placed g c =
    let bytes = c.args.bytes.now in
    subst (λ page. All (IsPlaced page) c.deref.result.now) (sym (take_rest bytes 4096)) (subst (All (IsPlaced (drop 4096 bytes))) (sym c.deref.ensures.value) (table-read bytes c.schema.result.now c.in_ok-cells.field-0 c.in-Some.cells c.in-Some.is c.in_ok-cells.ensures.found).second.placed)

pub returns-in_default-2 : goal.returns-in_default-2
returns-in_default-2 g c =
    let bytes = c.args.bytes.now in
    let page = take (length bytes - 4096) (drop 4096 bytes) in
    rows-none_small g.R.SmallRow.table bytes c.schema.result.now page c.deref.result.now c.in-Some.cells.items c.schema.ensures (take_rest bytes 4096) c.deref.ensures.value (table-read bytes c.schema.result.now c.in_ok-cells.field-0 c.in-Some.cells c.in-Some.is c.in_ok-cells.ensures.found)
    (subst (λ answer. Reads (OrNone (AllZip g.R.SmallRow.table.IsRow (map (cell_of page) c.deref.result.now))) (option_map (λ v. v.items) answer)) c.in_default-2.is c.in_ok-rows.ensures)

pub returns-then-not-is_rising : goal.returns-then-not-is_rising
returns-then-not-is_rising g c =
    let bytes = c.args.bytes.now in
    let page = take (length bytes - 4096) (drop 4096 bytes) in
    rows-not_rising g.R.SmallRow.table bytes c.schema.result.now page c.deref.result.now c.in-Some.cells.items c.schema.ensures (take_rest bytes 4096) c.deref.ensures.value (table-read bytes c.schema.result.now c.in_ok-cells.field-0 c.in-Some.cells c.in-Some.is c.in_ok-cells.ensures.found) c.in-Some-2.rows.items
    (subst (λ answer. Reads (OrNone (AllZip g.R.SmallRow.table.IsRow (map (cell_of page) c.deref.result.now))) (option_map (λ v. v.items) answer)) c.in-Some-2.is c.in_ok-rows.ensures)
    (λ rising. both_ways c.is_rising.result c.if-not-is_rising.true (c.is_rising.ensures.1 (subst (λ rows. IsRisingBy g.R.SmallRow.table.rowid rows) (sym c.deref-2.ensures.value) rising)))

pub returns : goal.returns
returns g c =
    let bytes = c.args.bytes.now in
    let page = take (length bytes - 4096) (drop 4096 bytes) in
    rows-one_small g.R.SmallRow.table bytes c.schema.result.now page c.deref.result.now c.in-Some.cells.items c.schema.ensures (take_rest bytes 4096) c.deref.ensures.value (table-read bytes c.schema.result.now c.in_ok-cells.field-0 c.in-Some.cells c.in-Some.is c.in_ok-cells.ensures.found) c.in-Some-2.rows.items
    (subst (λ answer. Reads (OrNone (AllZip g.R.SmallRow.table.IsRow (map (cell_of page) c.deref.result.now))) (option_map (λ v. v.items) answer)) c.in-Some-2.is c.in_ok-rows.ensures)
    (subst (λ rows. IsRisingBy g.R.SmallRow.table.rowid rows) c.deref-2.ensures.value (c.is_rising.ensures.0 c.if-not-is_rising.false))
