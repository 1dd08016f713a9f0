use Rattle.touched_rows.specs.TouchedRowsLaws.{touched-pairs}
use Rattle.touched_rows.proofs.laws.touched_pairs_are_of_one_rowid.Goals as goal

pub returns : goal.returns
returns c = λ format table old after batches pairs are. touched-pairs format table old after batches pairs are
