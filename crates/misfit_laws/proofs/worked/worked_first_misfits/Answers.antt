use Rattle.std.proofs.Common.{refl}
use Rattle.std.specs.Prelude.{codes, drop}
use Rattle.schema_spec.specs.Tokens.{is_white, is_word_byte, is_quote, begins_number, tokens_of}
use Rattle.misfit_laws.proofs.Statements.{table-stops, index-stops}
use Rattle.misfit_laws.proofs.worked.worked_first_misfits.Goals as goal

pub returns-clause-comma : goal.returns-clause-comma
unfolding is_white is_word_byte is_quote begins_number
returns-clause-comma c = (table-stops (codes "CREATE TABLE t1(a INTEGER PRIMARY KEY,)") (drop 9 (tokens_of (codes "CREATE TABLE t1(a INTEGER PRIMARY KEY,)")))).0 refl

pub returns-clause-end : goal.returns-clause-end
unfolding is_white is_word_byte is_quote begins_number
returns-clause-end c = (table-stops (codes "CREATE TABLE t(a, UNIQUE (a") (drop 9 (tokens_of (codes "CREATE TABLE t(a, UNIQUE (a")))).0 refl

pub returns-clause-index : goal.returns-clause-index
unfolding is_white is_word_byte is_quote begins_number
returns-clause-index c = (index-stops (codes "CREATE INDEX i ON t(a,)") (drop 8 (tokens_of (codes "CREATE INDEX i ON t(a,)")))).0 refl
