use Rattle.delete_spec.specs.WorldsLaws.{world-deleted, deleted-slack}
use Rattle.delete_spec.proofs.laws.world_has_the_delete.Goals as goal

pub returns-clause-world : goal.returns-clause-world
returns-clause-world c = world-deleted

pub returns-clause-slack : goal.returns-clause-slack
returns-clause-slack c = deleted-slack
