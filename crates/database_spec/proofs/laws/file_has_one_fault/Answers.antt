use Rattle.database_spec.specs.FileFaultsLaws.{file_fault-one}
use Rattle.database_spec.proofs.laws.file_has_one_fault.Goals as goal

pub returns : goal.returns
returns c = file_fault-one
