use Rattle.put_spec.specs.SpelledLaws.{page-tells}
use Rattle.put_spec.proofs.laws.page_tells_its_tree.Goals as goal

pub returns : goal.returns
returns c = page-tells
