use Rattle.rbu_run.proofs.update.install.Goals as goal

pub returns-clause-done : goal.returns-clause-done
returns-clause-done g c = rw c.write_pages.ensures at c.hand_over.ensures.done

pub returns-clause-failed : goal.returns-clause-failed
returns-clause-failed g c = rw c.write_pages.ensures at c.hand_over.ensures.failed
