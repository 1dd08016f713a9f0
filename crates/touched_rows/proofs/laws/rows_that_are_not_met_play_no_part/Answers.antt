use Rattle.touched_rows.specs.PartedRowsLaws.{parted-pairs, parted-made, parted-row_faults}
use Rattle.touched_rows.proofs.laws.rows_that_are_not_met_play_no_part.Goals as goal

pub returns-clause-pairs : goal.returns-clause-pairs
returns-clause-pairs c = λ format table g old part rest batches after part_after pairs parted unmet apart is part_is are. parted-pairs format table g 0 old part rest batches after part_after pairs parted unmet apart is part_is are

pub returns-clause-made : goal.returns-clause-made
returns-clause-made c = λ format table g old part rest batches fronts after part_after made parted unmet is part_is are. parted-made format table g 0 old part rest batches fronts after part_after made parted unmet is part_is are

pub returns-clause-faults : goal.returns-clause-faults
returns-clause-faults c = λ format table g name old part rest batches after part_after faults parted unmet is part_is are. parted-row_faults format table g name 0 old part rest batches after part_after faults parted unmet is part_is are
