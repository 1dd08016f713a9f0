use Rattle.put_spec.specs.StepsLaws.{leaf-rooted, interior-rooted, interior-stays}
use Rattle.put_spec.proofs.laws.root_keeps_or_moves_out.Goals as goal

pub returns-clause-leaf : goal.returns-clause-leaf
returns-clause-leaf c = leaf-rooted

pub returns-clause-interior : goal.returns-clause-interior
returns-clause-interior c = interior-rooted

pub returns-clause-untouched : goal.returns-clause-untouched
returns-clause-untouched c = interior-stays
