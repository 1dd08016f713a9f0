use Rattle.dump_spec.specs.SchemaRowsLaws.{schema_rows-one}
use Rattle.dump_spec.proofs.laws.schema_rows_have_one_answer.Goals as goal

pub returns : goal.returns
returns c = schema_rows-one
