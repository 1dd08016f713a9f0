use Rattle.file_spec.specs.Steps.{AfterFolderSync, AfterFailedFolderSync}
use Rattle.std.proofs.lemmas.Result.{on_ok_weaker}
use Rattle.rbu_run.proofs.Moments.{led-ok}
use Rattle.rbu_run.proofs.PhaseCalls.{between-then, between-gone, between-folder, folder-names, gone-target}
use Rattle.rbu_run.proofs.handover.drop_log.Goals as goal

pub returns-in_err-remove-clause-moments : goal.returns-in_err-remove-clause-moments
returns-in_err-remove-clause-moments g c = between-gone c.remove.result c.remove.ensures.moments

pub returns-clause-moments : goal.returns-clause-moments
returns-clause-moments g c = between-then (between-gone c.remove.result c.remove.ensures.moments) (between-folder c.sync_folder.result c.sync_folder.ensures.moments)

pub returns-clause-names : goal.returns-clause-names
returns-clause-names g c =
    on_ok_weaker c.sync_folder.result folder-names (led-ok _ _ c.sync_folder.result AfterFolderSync AfterFailedFolderSync c.sync_folder.ensures.moments)

pub returns-clause-target : goal.returns-clause-target
returns-clause-target g c =
    on_ok_weaker c.sync_folder.result (gone-target c.in_ok-remove.ensures.moments) (led-ok _ _ c.sync_folder.result AfterFolderSync AfterFailedFolderSync c.sync_folder.ensures.moments)
