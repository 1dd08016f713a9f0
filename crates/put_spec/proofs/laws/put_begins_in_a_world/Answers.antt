use Rattle.put_spec.specs.WorldsLaws.{world-ready}
use Rattle.put_spec.proofs.laws.put_begins_in_a_world.Goals as goal

pub returns : goal.returns
returns c = world-ready
