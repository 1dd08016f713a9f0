use Rattle.rbu_run.proofs.run.query_answer.Goals as goal

pub returns-in-Ok-Ok-clause-prints : goal.returns-in-Ok-Ok-clause-prints
returns-in-Ok-Ok-clause-prints g c = rw c.in-Ok-Ok.field-0-is at c.in-Ok-Ok.ensures.answer

pub returns-in-Ok-Err-clause-prints : goal.returns-in-Ok-Err-clause-prints
returns-in-Ok-Err-clause-prints g c = rw c.in-Ok-Err.field-0-is at c.in-Ok-Err.ensures.answer
