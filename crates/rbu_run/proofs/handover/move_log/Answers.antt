use Rattle.file_spec.specs.Steps.{AfterFolderSync, AfterFailedFolderSync}
use Rattle.std.proofs.lemmas.Result.{on_ok_weaker}
use Rattle.rbu_run.proofs.Moments.{led-ok}
use Rattle.rbu_run.proofs.PhaseCalls.{moves-then, moves-renamed, between-folder, moved-log}
use Rattle.rbu_run.proofs.handover.move_log.Goals as goal

pub returns-in_err-rename-clause-moments : goal.returns-in_err-rename-clause-moments
returns-in_err-rename-clause-moments g c = moves-renamed c.rename.result c.rename.ensures.moments

pub returns-clause-moments : goal.returns-clause-moments
returns-clause-moments g c = moves-then (moves-renamed c.rename.result c.rename.ensures.moments) (between-folder c.sync_folder.result c.sync_folder.ensures.moments)

pub returns-clause-moved : goal.returns-clause-moved
returns-clause-moved g c =
    on_ok_weaker c.sync_folder.result (moved-log c.in_ok-rename.ensures.moments) (led-ok _ _ c.sync_folder.result AfterFolderSync AfterFailedFolderSync c.sync_folder.ensures.moments)
