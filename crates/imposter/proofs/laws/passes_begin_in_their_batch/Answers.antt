use Rattle.imposter.proofs.Beginning.{begins-in}
use Rattle.imposter.proofs.laws.passes_begin_in_their_batch.Goals as goal

pub returns : goal.returns
returns c = λ sizes base lists named earlier batch later from taken pass front table back trunks rows mid begins keyed has can.
    begins-in sizes base lists named earlier batch later from taken pass front table back trunks rows mid begins keyed has can
