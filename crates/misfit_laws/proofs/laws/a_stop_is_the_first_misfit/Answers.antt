use Rattle.misfit_laws.proofs.Statements.{table-stops, index-stops, table-once, index-once, table-leaves, index-leaves, table-fault, index-fault}
use Rattle.misfit_laws.proofs.laws.a_stop_is_the_first_misfit.Goals as goal

pub returns-clause-table : goal.returns-clause-table
returns-clause-table c = table-stops

pub returns-clause-index : goal.returns-clause-index
returns-clause-index c = index-stops

pub returns-clause-table_once : goal.returns-clause-table_once
returns-clause-table_once c text not_text = (table-leaves text not_text, table-once text)

pub returns-clause-index_once : goal.returns-clause-index_once
returns-clause-index_once c text not_text = (index-leaves text not_text, index-once text)

pub returns-clause-table_fault : goal.returns-clause-table_fault
returns-clause-table_fault c = table-fault

pub returns-clause-index_fault : goal.returns-clause-index_fault
returns-clause-index_fault c = index-fault
