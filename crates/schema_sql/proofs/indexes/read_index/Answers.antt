use Rattle.std.proofs.Common.{sym, subst, rules}
use Rattle.schema_spec.specs.Tokens.{AreTokens}
use Rattle.schema_sql.proofs.Reading.{index-answered, index-stopped}
use Rattle.schema_sql.proofs.indexes.read_index.Goals as goal

pub returns-in_err-index : goal.returns-in_err-index
returns-in_err-index c =
    let are = subst (AreTokens c.args.sql.now) (sym c.as_slice.ensures.value) c.in_ok-tokens.ensures.holds in
    let stops = index-stopped c.args.sql.now c.args.table.now c.as_slice.result.now are c.in_err-index.field-0.0 c.in_err-index.ensures.parses in search rules

pub returns : goal.returns
returns c =
    index-answered c.args.sql.now c.args.table.now c.as_slice.result.now (subst (AreTokens c.args.sql.now) (sym c.as_slice.ensures.value) c.in_ok-tokens.ensures.holds)
    c.in_ok-index.index c.index_answer.result c.in_ok-index.ensures.parses c.index_answer.ensures
