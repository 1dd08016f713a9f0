use Rattle.index_steps.specs.StepsLaws.{change-entry}
use Rattle.index_steps.proofs.laws.changes_have_entries.Goals as goal

pub returns : goal.returns
returns c = λ format index old_rows new_rows old done change left order of ordered. change-entry format index old_rows new_rows old done change left of order ordered
