use Rattle.std.proofs.Common.{List, ℕ, ℤ, IfOk, rules, subst}
use mir.Syntax.{w64}
use mir.Val.{SFits}
use Rattle.std.proofs.lemmas.Int.{to_z-of_z}
use Rattle.common_spec.specs.Reading.{OrNone}
use Rattle.database_spec.specs.SchemaRows.{IsSchemaRow}
use Rattle.schema_read.proofs.rows.schema_row.Goals as goal

pub returns : goal.returns
returns c =
    let fits : SFits w64 c.args.member.now.rowid = search rules in
    subst (λ (bytes : List ℕ). IfOk c.record_row.result (OrNone (IsSchemaRow (record { rowid = c.args.member.now.rowid; payload = bytes })))) c.as_slice.ensures
    (subst (λ (z : ℤ). IfOk c.record_row.result (OrNone (IsSchemaRow (record { rowid = z; payload = c.as_slice.result.now })))) (to_z-of_z w64 c.args.member.now.rowid fits) c.record_row.ensures)
