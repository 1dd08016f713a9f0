use Rattle.index_delete_spec.specs.UnderLaws.{leaf-opens-under}
use Rattle.index_delete_spec.proofs.laws.leaf_loses_an_entry.Goals as goal

pub returns : goal.returns
returns c = leaf-opens-under
