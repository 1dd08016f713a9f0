use Rattle.index_delete_spec.specs.UnderLaws.{settled-under, rooted-under}
use Rattle.index_delete_spec.proofs.laws.opened_page_is_written.Goals as goal

pub returns-clause-settled : goal.returns-clause-settled
returns-clause-settled c = settled-under

pub returns-clause-rooted : goal.returns-clause-rooted
returns-clause-rooted c = rooted-under
