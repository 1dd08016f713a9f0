use Rattle.touched_rows.specs.TouchedRowsLaws.{touches-plan}
use Rattle.touched_rows.proofs.laws.groups_without_a_fault_touch_all_their_rows.Goals as goal

pub returns : goal.returns
returns c = λ format table old after batches faults g made pairs none is touches. touches-plan format table old after batches faults g made pairs none is touches
