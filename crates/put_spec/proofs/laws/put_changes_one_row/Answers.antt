use Rattle.put_spec.specs.MembersLaws.{put-members}
use Rattle.put_spec.proofs.laws.put_changes_one_row.Goals as goal

pub returns : goal.returns
returns c = put-members
