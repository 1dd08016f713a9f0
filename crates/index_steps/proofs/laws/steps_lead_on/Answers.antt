use Rattle.index_steps.specs.StepsLaws.{step-leads}
use Rattle.index_steps.proofs.laws.steps_lead_on.Goals as goal

pub returns : goal.returns
returns c = λ format index old_rows new_rows old done change left order now new of ordered mid stepped rises. step-leads format index old_rows new_rows old done change left order now new of ordered mid stepped rises
