use Rattle.put_spec.specs.PutsLaws.{put-deepens}
use Rattle.put_spec.proofs.laws.root_gets_a_level.Goals as goal

pub returns : goal.returns
returns c = put-deepens
