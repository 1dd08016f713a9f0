use Rattle.schema_spec.specs.TokensLaws.{tokens-are}
use Rattle.schema_spec.specs.TextsLaws.{one_table_answer, one_index_answer}
use Rattle.schema_spec.proofs.laws.text_answers.Goals as goal

pub returns-clause-tokens : goal.returns-clause-tokens
returns-clause-tokens c = tokens-are

pub returns-clause-table : goal.returns-clause-table
returns-clause-table c = one_table_answer

pub returns-clause-index : goal.returns-clause-index
returns-clause-index c = one_index_answer
