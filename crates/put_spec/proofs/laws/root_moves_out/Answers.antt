use Rattle.put_spec.specs.PutsLaws.{put-rises}
use Rattle.put_spec.proofs.laws.root_moves_out.Goals as goal

pub returns : goal.returns
returns c = put-rises
