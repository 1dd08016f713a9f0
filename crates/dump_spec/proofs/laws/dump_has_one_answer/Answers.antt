use Rattle.dump_spec.specs.DumpsLaws.{dump-one}
use Rattle.dump_spec.proofs.laws.dump_has_one_answer.Goals as goal

pub returns : goal.returns
returns c = dump-one
