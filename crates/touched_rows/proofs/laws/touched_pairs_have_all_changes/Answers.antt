use Rattle.touched_rows.specs.TouchedRowsLaws.{pairs-changes}
use Rattle.touched_rows.proofs.laws.touched_pairs_have_all_changes.Goals as goal

pub returns : goal.returns
returns c = λ format table old after batches pairs index changes placed is are changed. pairs-changes format table old after batches pairs are placed is index changes changed
