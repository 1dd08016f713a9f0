use Rattle.prepared_spec.specs.ReorderingLaws.{prepared_rows-reordered, input_fault-reordered}
use Rattle.prepared_spec.proofs.laws.order_of_data_tables_plays_no_part.Goals as goal

pub returns-clause-rows : goal.returns-clause-rows
returns-clause-rows c = λ sizes base target rbu other groups same. prepared_rows-reordered sizes base target rbu other same groups

pub returns-clause-fault : goal.returns-clause-fault
returns-clause-fault c = λ sizes base target rbu other fault same. input_fault-reordered sizes base target rbu other same fault
