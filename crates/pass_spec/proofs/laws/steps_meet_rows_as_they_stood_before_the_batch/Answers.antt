use Rattle.pass_spec.specs.BatchStepsLaws.{met-same}
use Rattle.pass_spec.specs.RowidKeysLaws.{meets-alone}
use Rattle.pass_spec.proofs.laws.steps_meet_rows_as_they_stood_before_the_batch.Goals as goal

pub returns : goal.returns
returns c = λ format table g start before done prepared taken now rowid_key due is. met-same format table g start before done prepared now is.after (meets-alone format table g start before done prepared now rowid_key due is.after)
