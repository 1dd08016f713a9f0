use Rattle.put_spec.specs.PutsLaws.{put-settled}
use Rattle.put_spec.proofs.laws.written_page_is_put.Goals as goal

pub returns : goal.returns
returns c = put-settled
