use Rattle.file_spec.specs.RecordsLaws.{named-images, images-named}
use Rattle.file_spec.proofs.crash_laws.names_are_of_one_moment.Goals as goal

pub returns-clause-now : goal.returns-clause-now
returns-clause-now c = named-images

pub returns-clause-each : goal.returns-clause-each
returns-clause-each c = images-named
