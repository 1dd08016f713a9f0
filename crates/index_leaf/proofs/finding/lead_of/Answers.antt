use Rattle.std.proofs.Common.{subst}
use Rattle.index_leaf.specs.Searches.{IsFound}
use Rattle.index_leaf.proofs.finding.lead_of.Goals as goal

pub returns-in-Some : goal.returns-in-Some
returns-in-Some c = λ cells right are. (
  c.in-Some-At.at,
  subst (IsFound c.args.order.now c.args.payload.now cells) c.in-Some-At.field-0-is (c.in-Some-At.ensures.found cells right are),
  c.in-Some.ensures cells right are,
)

pub returns-in-Some-Present : goal.returns-in-Some-Present
returns-in-Some-Present c = λ cells right are. subst (IsFound c.args.order.now c.args.payload.now cells) c.in-Some-Present.field-0-is (c.in-Some-Present.ensures.found cells right are)
