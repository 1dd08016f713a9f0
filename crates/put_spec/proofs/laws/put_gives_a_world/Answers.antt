use Rattle.put_spec.specs.WorldsLaws.{world-put}
use Rattle.put_spec.proofs.laws.put_gives_a_world.Goals as goal

pub returns : goal.returns
returns c = world-put
