use Rattle.index_cells.specs.RespellingLaws.{cell-respelled, respelled-child}
use Rattle.index_cells.proofs.laws.cell_keeps_its_payload.Goals as goal

pub returns-clause-respelled : goal.returns-clause-respelled
returns-clause-respelled c = cell-respelled

pub returns-clause-child : goal.returns-clause-child
returns-clause-child c = respelled-child
