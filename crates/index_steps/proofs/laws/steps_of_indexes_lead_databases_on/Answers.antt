use Rattle.index_steps.specs.DatabasesLaws.{mid-leads}
use Rattle.index_steps.proofs.laws.steps_of_indexes_lead_databases_on.Goals as goal

pub returns-clause-stands : goal.returns-clause-stands
returns-clause-stands c = λ catalog old mid groups n is plan index done change left due has. (mid-leads catalog old mid groups n is plan index done change left due has).0

pub returns-clause-leads : goal.returns-clause-leads
returns-clause-leads c = λ catalog old mid groups n is plan index done change left members next due has after header lists. (mid-leads catalog old mid groups n is plan index done change left due has).1 members next after header lists
