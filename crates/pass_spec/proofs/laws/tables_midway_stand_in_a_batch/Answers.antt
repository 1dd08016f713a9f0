use Rattle.pass_spec.specs.BatchesLaws.{stand-steps, steps-stand}
use Rattle.pass_spec.proofs.laws.tables_midway_stand_in_a_batch.Goals as goal

pub returns-clause-stands : goal.returns-clause-stands
returns-clause-stands c = λ format table g earlier done rest later old now is. steps-stand format table g earlier done rest later old now is

pub returns-clause-behind : goal.returns-clause-behind
returns-clause-behind c = λ format table g earlier done rest later old start before taken now reached is. stand-steps format table g earlier done rest later old start before taken now reached is
