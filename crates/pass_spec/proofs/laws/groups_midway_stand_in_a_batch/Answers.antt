use Rattle.pass_spec.specs.GroupsLaws.{mid-stands}
use Rattle.pass_spec.proofs.laws.groups_midway_stand_in_a_batch.Goals as goal

pub returns : goal.returns
returns c = λ format lists named earlier batch later from taken rows now mid is. mid-stands format lists named earlier batch later from taken now mid rows is
