use Rattle.std.proofs.Common.{◌≡◌, ◌+◌, ◌++◌, ◌∷◌, [], get_or, map, take, sym, subst, arith}
use Rattle.std.proofs.lemmas.List.{length-map, get_or-map, map_more, take_all}
use Rattle.std.specs.List.{AllZip}
use Rattle.common_spec.specs.Reading.{Reads, OrNone}
use Rattle.small_file.specs.Pages.{cell_of}
use Rattle.small_file.proofs.Pages.{no_cell}
use Rattle.small_file.proofs.Readings.{Reads-none, Reads-some, some-of_reads, AllZip-more, AllZip-none, AllZip-holds, AllZip-only}
use Rattle.small_file.proofs.table.rows_of.Goals as goal

pub returns-in_default : goal.returns-in_default
returns-in_default g c =
    let page = c.args.page.now in
    let cells = c.args.cells.now in
    let IsRow = g.R.SmallRow.table.IsRow in
    let i = c.loop-cell.cell-index in
    let here = subst (Reads (OrNone (IsRow (cell_of page (get_or cells i no_cell))))) c.in_default.is c.in_ok-row.ensures in
    let at : get_or (map (cell_of page) cells) i [] ≡ cell_of page (get_or cells i no_cell) = get_or-map (cell_of page) cells i no_cell [] c.loop-cell-test.true in
    Reads-none (AllZip IsRow (map (cell_of page) cells)) (λ rows.
    AllZip-none IsRow (map (cell_of page) cells) rows i [] (omega (arith, c.loop-cell-test.true, length-map cells (cell_of page)))
    (λ row is. here.holds row (subst (λ cell. IsRow cell row) at is)))

pub loop-cell-preserved : goal.loop-cell-preserved
loop-cell-preserved g c =
    let page = c.args.page.now in
    let cells = c.args.cells.now in
    let IsRow = g.R.SmallRow.table.IsRow in
    let i = c.loop-cell.cell-index in
    let cell = cell_of page (get_or cells i no_cell) in
    let reads = some-of_reads (IsRow cell) c.in-Some.row (subst (Reads (OrNone (IsRow cell))) c.in-Some.is c.in_ok-row.ensures) in
    let more = AllZip-more (λ x y. Reads (IsRow x) y) (map (cell_of page) (take i cells)) c.loop-cell.rows.items cell c.in-Some.row c.loop-cell.invariant reads in
    subst (λ rows. AllZip (λ x y. Reads (IsRow x) y) (map (cell_of page) (take (i + 1) cells)) rows) {x = c.loop-cell.rows.items ++ c.in-Some.row ∷ []} {y = c.push.new.self.items} (sym c.in_ok-push.ensures.items)
    (subst (λ all. AllZip (λ x y. Reads (IsRow x) y) all (c.loop-cell.rows.items ++ c.in-Some.row ∷ [])) {x = map (cell_of page) (take i cells) ++ cell ∷ []} {y = map (cell_of page) (take (i + 1) cells)}
    (sym (map_more (cell_of page) cells i no_cell c.loop-cell-test.true)) more)

pub returns : goal.returns
returns g c =
    let all = map (cell_of c.args.page.now) c.args.cells.now in
    let IsRow = g.R.SmallRow.table.IsRow in
    let each : AllZip (λ x y. Reads (IsRow x) y) all c.loop-cell.rows.items =
    subst (λ cells. AllZip (λ x y. Reads (IsRow x) y) (map (cell_of c.args.page.now) cells) c.loop-cell.rows.items) (take_all c.loop-cell.cell-index c.args.cells.now c.loop-cell-test.false) c.loop-cell.invariant in
    Reads-some (AllZip IsRow all) c.loop-cell.rows.items (AllZip-holds IsRow all c.loop-cell.rows.items each) (λ others is. AllZip-only IsRow all c.loop-cell.rows.items others each is)
