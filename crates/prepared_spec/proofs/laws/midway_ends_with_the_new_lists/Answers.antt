use Rattle.prepared_spec.specs.FinishLaws.{mid-all}
use Rattle.prepared_spec.proofs.laws.midway_ends_with_the_new_lists.Goals as goal

pub returns : goal.returns
returns c = mid-all
