use Rattle.prepared_laws.specs.TransactionsLaws.{outcome-some}
use Rattle.prepared_laws.proofs.laws.transaction_has_an_outcome.Goals as goal

pub returns : goal.returns
returns c = outcome-some
