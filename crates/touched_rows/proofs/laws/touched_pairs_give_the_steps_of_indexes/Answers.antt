use Rattle.touched_rows.specs.TouchedRowsLaws.{plan-changes}
use Rattle.touched_rows.proofs.laws.touched_pairs_give_the_steps_of_indexes.Goals as goal

pub returns : goal.returns
returns c = λ format lists named group plan pairs is are indexed indexes is_index changes changed. plan-changes format lists named group plan pairs is are indexed indexes is_index changes changed
