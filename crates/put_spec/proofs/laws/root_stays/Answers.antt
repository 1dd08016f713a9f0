use Rattle.put_spec.specs.PutsLaws.{put-stays}
use Rattle.put_spec.proofs.laws.root_stays.Goals as goal

pub returns : goal.returns
returns c = put-stays
