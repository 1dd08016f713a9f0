use Rattle.pass_spec.specs.RowidKeysLaws.{rowid_step-behind}
use Rattle.pass_spec.proofs.laws.steps_by_rowid_make_a_batch.Goals as goal

pub returns : goal.returns
returns c = λ format table g start before done prepared taken now new rowid_key due is stepped. rowid_step-behind format table g start before done prepared now rowid_key due is.after taken new is.taken_is stepped
