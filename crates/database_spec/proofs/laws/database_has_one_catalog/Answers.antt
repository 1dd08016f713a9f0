use Rattle.database_spec.specs.CatalogsLaws.{catalog_answer-one}
use Rattle.database_spec.proofs.laws.database_has_one_catalog.Goals as goal

pub returns : goal.returns
returns c = catalog_answer-one
