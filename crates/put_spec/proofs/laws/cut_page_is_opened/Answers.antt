use Rattle.put_spec.specs.PutsLaws.{put-cut}
use Rattle.put_spec.proofs.laws.cut_page_is_opened.Goals as goal

pub returns : goal.returns
returns c = put-cut
