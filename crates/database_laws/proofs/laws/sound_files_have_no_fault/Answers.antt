use Rattle.common_spec.specs.ReadingLaws.{OrFault-one}
use Rattle.std.proofs.Common.{[]}
use Rattle.database_spec.specs.Databases.{IsSound}
use Rattle.database_spec.specs.DatabasesLaws.{whole-one}
use Rattle.database_spec.specs.FileFaults.{FileHasFault}
use Rattle.database_spec.specs.FileFaultsLaws.{file_fault-one}
use Rattle.database_laws.specs.RightFindingsLaws.{are_right-not_wrong}
use Rattle.database_laws.specs.SoundFilesLaws.{sound-no_fault}
use Rattle.database_laws.specs.DecidedFilesLaws.{sound-or_fault}
use Rattle.database_laws.proofs.laws.sound_files_have_no_fault.Goals as goal

pub returns-clause-right : goal.returns-clause-right
returns-clause-right c found fault right = are_right-not_wrong [] found fault right

pub returns-clause-sound : goal.returns-clause-sound
returns-clause-sound c = sound-no_fault

pub returns-clause-one : goal.returns-clause-one
returns-clause-one c sizes base catalog =
    OrFault-one (IsSound sizes base catalog) (FileHasFault sizes base) (λ a b p q. whole-one sizes base catalog a b p.whole q.whole) (file_fault-one sizes base)
    (λ db fault. sound-no_fault sizes base catalog db fault)

pub returns-clause-either : goal.returns-clause-either
returns-clause-either c = sound-or_fault
