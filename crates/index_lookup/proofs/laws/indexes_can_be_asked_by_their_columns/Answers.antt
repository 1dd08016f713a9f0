use Rattle.index_lookup.specs.AlikesLaws.{alike-entry, alike-rises}
use Rattle.index_lookup.proofs.laws.indexes_can_be_asked_by_their_columns.Goals as goal

pub returns-clause-rises : goal.returns-clause-rises
returns-clause-rises c = λ order alike members columns last. alike-rises order alike columns last members

pub returns-clause-entry : goal.returns-clause-entry
returns-clause-entry c = λ order alike bytes columns last. alike-entry order alike columns last bytes
