-- Where texts leave the grammar, computed.
use Rattle.std.specs.Prelude.{ℕ, List, Option, Some, None}
use Rattle.schema_spec.specs.Fronts.{Front, Behind, Stops}
use Rattle.schema_spec.specs.Tokens.{tokens_of}
use Rattle.schema_spec.specs.TableGrammar.{table_statement, index_statement}
use Rattle.schema_spec.specs.Texts.{offset_of}

-- the offset of the first token that does not fit, or none
abbrev pub stop_at : {A : Type 0} → List ℕ → Front A → Option ℕ
stop_at text (Behind a rest) = None
stop_at text (Stops rest) = Some (offset_of text rest)

abbrev pub table_stops : List ℕ → Option ℕ
table_stops text = stop_at text (table_statement text (tokens_of text))

abbrev pub index_stops : List ℕ → Option ℕ
index_stops text = stop_at text (index_statement text (tokens_of text))
