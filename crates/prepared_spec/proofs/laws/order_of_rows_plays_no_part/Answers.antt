use Rattle.prepared_spec.specs.ReorderingLaws.{outcome-reordered, mid-reordered}
use Rattle.prepared_spec.proofs.laws.order_of_rows_plays_no_part.Goals as goal

pub returns-clause-outcome : goal.returns-clause-outcome
returns-clause-outcome c = outcome-reordered

pub returns-clause-midway : goal.returns-clause-midway
returns-clause-midway c = mid-reordered
