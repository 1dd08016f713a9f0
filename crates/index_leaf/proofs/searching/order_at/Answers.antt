use Rattle.std.proofs.lemmas.Option.{IfSome_then}
use Rattle.index_leaf.proofs.searching.order_at.Goals as goal

pub returns : goal.returns
returns c =
    IfSome_then c.compare_with.result c.compare_with.ensures (λ found compares. λ payload cells right d header are. (c.in-Some.entry.now, c.in-Some.ensures cells right d are, compares payload header))
