use Rattle.page_layout.proofs.places.kind_of.Goals as goal

pub unreachable-requires : goal.unreachable-requires
unreachable-requires c = c.in-None.ensures.none c.requires.kind.0 c.requires.kind.1
