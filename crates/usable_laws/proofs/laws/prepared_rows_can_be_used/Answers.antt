use Rattle.usable_laws.specs.UsableGroupsLaws.{prepared-usable, prepared-outcome}
use Rattle.usable_laws.proofs.laws.prepared_rows_can_be_used.Goals as goal

pub returns-clause-usable : goal.returns-clause-usable
returns-clause-usable c = λ sizes base target rbu lists. prepared-usable target lists sizes base rbu

pub returns-clause-outcome : goal.returns-clause-outcome
returns-clause-outcome c = prepared-outcome
