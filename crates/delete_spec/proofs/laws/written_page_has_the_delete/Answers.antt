use Rattle.delete_spec.specs.DeletesLaws.{delete-settled, parent-untouched}
use Rattle.delete_spec.proofs.laws.written_page_has_the_delete.Goals as goal

pub returns-clause-written : goal.returns-clause-written
returns-clause-written c = delete-settled

pub returns-clause-untouched : goal.returns-clause-untouched
returns-clause-untouched c = parent-untouched
