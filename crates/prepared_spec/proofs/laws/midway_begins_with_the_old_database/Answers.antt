use Rattle.prepared_spec.specs.MidwayLaws.{mid-none}
use Rattle.prepared_spec.proofs.laws.midway_begins_with_the_old_database.Goals as goal

pub returns : goal.returns
returns c = mid-none
