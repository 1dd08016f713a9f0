use Rattle.index_changes.specs.TouchedLaws.{touched-changes}
use Rattle.index_changes.proofs.laws.touched_rows_have_all_changes.Goals as goal

pub returns : goal.returns
returns c = λ index old new touched_old touched_new changes touched are. touched-changes index old new touched_old touched_new touched changes are
