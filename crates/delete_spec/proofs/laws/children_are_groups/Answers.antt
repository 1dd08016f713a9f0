use Rattle.delete_spec.specs.NeighboursLaws.{alone-among, pair-among}
use Rattle.delete_spec.proofs.laws.children_are_groups.Goals as goal

pub returns-clause-one : goal.returns-clause-one
returns-clause-one c = alone-among

pub returns-clause-two : goal.returns-clause-two
returns-clause-two c = pair-among
