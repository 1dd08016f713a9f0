use Rattle.walk_laws.specs.PagesDecidedLaws.{accepted-or_refused}
use Rattle.walk_laws.proofs.laws.pages_are_accepted_or_refused.Goals as goal

pub returns : goal.returns
returns c = accepted-or_refused
