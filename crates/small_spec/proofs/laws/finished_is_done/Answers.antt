use Rattle.small_spec.specs.SmallLaws.{IsFinished-done}
use Rattle.small_spec.proofs.laws.finished_is_done.Goals as goal

pub returns : goal.returns
returns c = IsFinished-done
