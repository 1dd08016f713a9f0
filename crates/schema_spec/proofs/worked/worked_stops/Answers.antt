use Rattle.std.proofs.Common.{refl}
use Rattle.schema_spec.specs.Tokens.{is_white, is_word_byte, is_quote, begins_number}
use Rattle.schema_spec.proofs.worked.worked_stops.Goals as goal

pub returns-clause-columns : goal.returns-clause-columns
unfolding is_white is_word_byte is_quote begins_number
returns-clause-columns c = refl

pub returns-clause-tables : goal.returns-clause-tables
unfolding is_white is_word_byte is_quote begins_number
returns-clause-tables c = refl

pub returns-clause-indexes : goal.returns-clause-indexes
unfolding is_white is_word_byte is_quote begins_number
returns-clause-indexes c = refl
