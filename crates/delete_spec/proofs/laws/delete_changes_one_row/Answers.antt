use Rattle.delete_spec.specs.WorldsLaws.{taken-members, taken-was}
use Rattle.delete_spec.proofs.laws.delete_changes_one_row.Goals as goal

pub returns-clause-others : goal.returns-clause-others
returns-clause-others c = taken-members

pub returns-clause-was : goal.returns-clause-was
returns-clause-was c = taken-was
