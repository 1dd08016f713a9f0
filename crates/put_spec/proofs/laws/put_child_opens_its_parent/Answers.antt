use Rattle.put_spec.specs.PutsLaws.{put-above}
use Rattle.put_spec.proofs.laws.put_child_opens_its_parent.Goals as goal

pub returns : goal.returns
returns c = put-above
