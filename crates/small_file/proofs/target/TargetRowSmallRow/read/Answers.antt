use Rattle.std.proofs.Common.{Some, sym, subst}
use Rattle.std.proofs.lemmas.Bool.{both_ways}
use Rattle.common_spec.specs.Reading.{Reads, OrNone}
use Rattle.small_spec.specs.SmallFile.{IsTargetRow}
use Rattle.small_file.specs.Pages.{cell_of}
use Rattle.small_file.specs.Records.{IsTargetRecord}
use Rattle.small_file.proofs.Readings.{Reads-none}
use Rattle.small_file.proofs.CellRows.{target_row-whole, target_row-record, target_row-reads}
use Rattle.small_file.proofs.target.TargetRowSmallRow.read.Goals as goal

pub returns-in_default : goal.returns-in_default
returns-in_default c =
    let page = c.args.page.now in
    let cell = c.args.cell.now in
    Reads-none (IsTargetRow (cell_of page cell)) (λ row is. c.in_default.ensures.none (target_row-whole page cell c.requires.placed row is))

pub returns-then-not-branch : goal.returns-then-not-branch
returns-then-not-branch c =
    let page = c.args.page.now in
    let cell = c.args.cell.now in
    Reads-none (IsTargetRow (cell_of page cell)) (λ row is.
    both_ways c.in_ok-is_target_record.field-0 c.if-not-branch.true
    (c.in_ok-is_target_record.ensures.1 (subst IsTargetRecord (sym c.in-Some.ensures.bytes) (target_row-record page cell c.requires.placed row is))))

pub returns : goal.returns
returns c =
    let page = c.args.page.now in
    let cell = c.args.cell.now in
    subst (λ row. Reads (OrNone (IsTargetRow (cell_of page cell))) (Some row)) (sym c.in_ok-copy_row.ensures)
    (target_row-reads page cell c.requires.placed c.in-Some.ensures.whole
    (subst IsTargetRecord c.in-Some.ensures.bytes (c.in_ok-is_target_record.ensures.0 c.if-not-branch.false)))
