use Rattle.index_steps.specs.StepsLaws.{addition-absent, removal-stands}
use Rattle.index_steps.proofs.laws.steps_find_what_they_change.Goals as goal

pub returns-clause-removed : goal.returns-clause-removed
returns-clause-removed c = λ format index old_rows new_rows old done entry left order now of ordered mid. removal-stands format index old_rows new_rows old done entry left of order ordered now mid

pub returns-clause-added : goal.returns-clause-added
returns-clause-added c = λ format index old_rows new_rows old done entry left order now of ordered mid. addition-absent format index old_rows new_rows old done entry left of order ordered now mid
