use Rattle.index_steps.specs.ClashesLaws.{addition-faultless, addition-faults}
use Rattle.index_steps.proofs.laws.additions_meet_their_faults.Goals as goal

pub returns-clause-fault : goal.returns-clause-fault
returns-clause-fault c = λ format index old_rows new_rows old done entry left alike now of by_columns mid faults unique whole equal.
    addition-faults format index old_rows new_rows old done entry left of alike by_columns now mid faults unique whole equal

pub returns-clause-none : goal.returns-clause-none
returns-clause-none c = λ format index old_rows new_rows old done entry left alike now of by_columns mid cause. addition-faultless format index old_rows new_rows old done entry left of alike by_columns now mid cause
