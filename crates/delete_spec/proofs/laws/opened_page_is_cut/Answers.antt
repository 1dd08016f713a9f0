use Rattle.delete_spec.specs.DeletesLaws.{delete-cut}
use Rattle.delete_spec.proofs.laws.opened_page_is_cut.Goals as goal

pub returns : goal.returns
returns c = delete-cut
