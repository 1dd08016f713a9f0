use Rattle.file_spec.specs.RecordsLaws.{settled-images, settled-names}
use Rattle.file_spec.specs.StepsLaws.{synced-still, synced-images, synced-fewer, settled-fewer}
use Rattle.file_spec.proofs.crash_laws.syncs_make_stable.Goals as goal

pub returns-clause-file : goal.returns-clause-file
returns-clause-file c = synced-still

pub returns-clause-anywhere : goal.returns-clause-anywhere
returns-clause-anywhere c = synced-images

pub returns-clause-file_fewer : goal.returns-clause-file_fewer
returns-clause-file_fewer c = synced-fewer

pub returns-clause-folder : goal.returns-clause-folder
returns-clause-folder c = settled-images

pub returns-clause-names : goal.returns-clause-names
returns-clause-names c = settled-names

pub returns-clause-folder_fewer : goal.returns-clause-folder_fewer
returns-clause-folder_fewer c = settled-fewer
