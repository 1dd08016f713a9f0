use Rattle.database_spec.specs.KeysLaws.{projection-one}
use Rattle.database_spec.proofs.laws.table_has_one_projection.Goals as goal

pub returns : goal.returns
returns c = projection-one
