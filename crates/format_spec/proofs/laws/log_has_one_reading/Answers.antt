use Rattle.format_spec.specs.LogLaws.{log-same_reading}
use Rattle.format_spec.proofs.laws.log_has_one_reading.Goals as goal

pub returns : goal.returns
returns c = λ bytes p q frames others v w. log-same_reading v w
