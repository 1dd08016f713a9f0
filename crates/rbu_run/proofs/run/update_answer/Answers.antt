use Rattle.rbu_run.proofs.run.update_answer.Goals as goal

pub returns-in-Err-Fault-clause-files : goal.returns-in-Err-Fault-clause-files
returns-in-Err-Fault-clause-files g c = rw c.in-Err-Fault.field-0-is at (rw c.in-Err-Fault.is at c.update.ensures.files)
