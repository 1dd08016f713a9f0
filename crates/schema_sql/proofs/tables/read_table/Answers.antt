use Rattle.std.proofs.Common.{sym, subst, rules}
use Rattle.schema_spec.specs.Tokens.{AreTokens}
use Rattle.schema_sql.proofs.Reading.{statement-answered, table-stopped}
use Rattle.schema_sql.proofs.tables.read_table.Goals as goal

pub returns-in_err-statement : goal.returns-in_err-statement
returns-in_err-statement c =
    let are = subst (AreTokens c.args.sql.now) (sym c.as_slice.ensures.value) c.in_ok-tokens.ensures.holds in
    let stops = table-stopped c.args.sql.now c.as_slice.result.now are c.in_err-statement.field-0.0 c.in_err-statement.ensures.parses in search rules

pub returns : goal.returns
returns c =
    statement-answered c.args.sql.now c.as_slice.result.now (subst (AreTokens c.args.sql.now) (sym c.as_slice.ensures.value) c.in_ok-tokens.ensures.holds)
    c.in_ok-statement.statement c.statement_answer.result c.in_ok-statement.ensures.parses c.statement_answer.ensures
