use Rattle.std.proofs.Common.{ℤ, rules, subst}
use mir.Syntax.{w64}
use mir.Val.{SFits}
use Rattle.std.proofs.lemmas.Int.{to_z-of_z}
use Rattle.common_spec.specs.Reading.{OrNone}
use Rattle.schema_read.specs.Rows.{IsRowIn}
use Rattle.schema_read.proofs.Records.{row-read, row-none}
use Rattle.schema_read.proofs.rows.record_row.Goals as goal

pub returns-in-Ok : goal.returns-in-Ok
returns-in-Ok c =
    let fits : SFits w64 c.args.rowid = search rules in
    row-read (record { rowid = c.args.rowid; payload = c.args.bytes.now }) c.in-Ok.values.items c.row_in.result c.in-Ok.ensures.holds
    (subst (λ (z : ℤ). OrNone (IsRowIn z c.in-Ok.values.items) c.row_in.result) (to_z-of_z w64 c.args.rowid fits) c.row_in.ensures)

pub returns-in-Err : goal.returns-in-Err
returns-in-Err c = row-none (record { rowid = c.args.rowid; payload = c.args.bytes.now }) c.in-Err.fault c.no_row.result c.no_row.ensures c.in-Err.ensures
