use Rattle.std.proofs.Common.{◌∙◌, OnOk}
use Rattle.update_spec.specs.Crashes.{HasShownNames}
use Rattle.rbu_run.proofs.Parts.{on_ok-err}
use Rattle.rbu_run.proofs.Survivals.{failed-rests, settled-rests, settled-names-end}
use Rattle.rbu_run.proofs.query.query.Goals as goal

pub returns-in_err-sync_folder-clause-crash : goal.returns-in_err-sync_folder-clause-crash
returns-in_err-sync_folder-clause-crash g c =
    failed-rests (λ r. OnOk c.from_residual.result (HasShownNames r)) (λ r. on_ok-err _ _ c.from_residual.result c.from_residual.ensures.1) c.in_err-sync_folder.ensures.moments

pub returns-in_err-answer-clause-same : goal.returns-in_err-answer-clause-same
returns-in_err-answer-clause-same g c = c.answer_question.ensures.files.same ∙ c.sync_folder.ensures.same

pub returns-in_err-answer-clause-crash : goal.returns-in_err-answer-clause-crash
returns-in_err-answer-clause-crash g c =
    rw c.answer_question.ensures.files.moments
    (settled-rests (λ r. OnOk c.from_residual-in_err-answer.result (HasShownNames r)) (λ r. on_ok-err _ _ c.from_residual-in_err-answer.result c.from_residual-in_err-answer.ensures.1) c.in_ok-sync_folder.ensures.moments)

pub returns-clause-same : goal.returns-clause-same
returns-clause-same g c = c.answer_question.ensures.files.same ∙ c.sync_folder.ensures.same

pub returns-clause-answer : goal.returns-clause-answer
returns-clause-answer g c = rw (← c.sync_folder.ensures.same) c.in_ok-answer.ensures.files.answer

pub returns-clause-crash : goal.returns-clause-crash
returns-clause-crash g c = rw c.answer_question.ensures.files.moments (settled-rests HasShownNames settled-names-end c.in_ok-sync_folder.ensures.moments)
