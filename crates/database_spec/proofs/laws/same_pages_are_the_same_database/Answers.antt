use Rattle.database_spec.specs.SameDatabasesLaws.{catalog-same, sound-same}
use Rattle.database_spec.specs.DatabasesLaws.{whole-one}
use Rattle.database_spec.proofs.laws.same_pages_are_the_same_database.Goals as goal

pub returns-clause-catalog : goal.returns-clause-catalog
returns-clause-catalog c = catalog-same

pub returns-clause-sound : goal.returns-clause-sound
returns-clause-sound c = sound-same

pub returns-clause-one : goal.returns-clause-one
returns-clause-one c = whole-one
