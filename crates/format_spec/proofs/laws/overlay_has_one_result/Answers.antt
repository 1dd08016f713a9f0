use Rattle.format_spec.specs.LogLaws.{overlay-same}
use Rattle.format_spec.proofs.laws.overlay_has_one_result.Goals as goal

pub returns : goal.returns
returns c = overlay-same
