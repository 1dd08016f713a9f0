use Rattle.file_spec.specs.Steps.{AfterFolderSync, AfterFailedFolderSync}
use Rattle.rbu_disk.specs.DiskLaws.{led-then}
use Rattle.state_file.proofs.StateCalls.{takes-renamed, takes-then, taking-folder, taken}
use Rattle.state_file.proofs.saving.take_name.Goals as goal

pub returns-in_err-rename-clause-moments : goal.returns-in_err-rename-clause-moments
returns-in_err-rename-clause-moments g c = takes-renamed c.rename.result c.rename.ensures.moments

pub returns-clause-moments : goal.returns-clause-moments
returns-clause-moments g c = takes-then (takes-renamed c.rename.result c.rename.ensures.moments) (taking-folder c.sync_folder.result c.sync_folder.ensures.moments)

pub returns-clause-taken : goal.returns-clause-taken
returns-clause-taken g c = led-then AfterFolderSync AfterFailedFolderSync c.sync_folder.result c.sync_folder.ensures.moments (taken c.in_ok-rename.ensures.moments)
