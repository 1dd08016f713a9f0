use Rattle.index_delete_spec.specs.WorldsLaws.{delete-in-world, deleted-slack}
use Rattle.index_delete_spec.proofs.laws.world_has_the_delete.Goals as goal

pub returns-clause-world : goal.returns-clause-world
returns-clause-world c = delete-in-world

pub returns-clause-slack : goal.returns-clause-slack
returns-clause-slack c = deleted-slack
