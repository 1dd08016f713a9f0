use Rattle.index_steps.specs.StepsLaws.{mid-rises}
use Rattle.index_steps.proofs.laws.indexes_midway_rise.Goals as goal

pub returns : goal.returns
returns c = λ format index old_rows new_rows old done change left order now of ordered mid. mid-rises format index old_rows new_rows old done change left of order ordered now mid
