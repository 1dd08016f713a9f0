use Rattle.small_spec.specs.SmallLaws.{file_pages-small}
use Rattle.small_spec.proofs.laws.small_file_has_two_pages.Goals as goal

pub returns : goal.returns
returns c = file_pages-small
