use Rattle.tree_spec.specs.ChangesLaws.{slack-kept}
use Rattle.tree_spec.proofs.laws.slack_is_kept.Goals as goal

pub returns : goal.returns
returns c = slack-kept
