use Rattle.rbu_value.specs.OrderLaws.{value_cmp-total, value_cmp-itself, value_cmp-same}
use Rattle.rbu_value.proofs.order.values_are_ordered.Goals as goal

pub returns-clause-total : goal.returns-clause-total
returns-clause-total c = value_cmp-total

pub returns-clause-reflexive : goal.returns-clause-reflexive
returns-clause-reflexive c = value_cmp-itself

pub returns-clause-binary : goal.returns-clause-binary
returns-clause-binary c = value_cmp-same
