use Rattle.page_spec.specs.RoomsLaws.{rooms-fit}
use Rattle.page_spec.proofs.laws.cells_fit.Goals as goal

pub returns : goal.returns
returns c = rooms-fit
