use Rattle.input_laws.specs.PreparedDecidedLaws.{prepared-some}
use Rattle.input_laws.specs.InputsMadeLaws.{inputs-found, inputs-some}
use Rattle.input_laws.proofs.laws.something_is_found_of_each_rbu_database.Goals as goal

pub returns-clause-members : goal.returns-clause-members
returns-clause-members c = prepared-some

pub returns-clause-known : goal.returns-clause-known
returns-clause-known c = λ sizes base target rbu texts own names. inputs-some sizes base target texts rbu own names

pub returns-clause-found : goal.returns-clause-found
returns-clause-found c = inputs-found
