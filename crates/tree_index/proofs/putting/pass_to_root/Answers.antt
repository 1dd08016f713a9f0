use Rattle.std.proofs.Common.{subst}
use Rattle.std.specs.List.{All}
use Rattle.format_spec.specs.declared.PageKind.TheVariants.{IndexInterior}
use Rattle.page_spec.specs.Rooms.{IsOneCell}
use Rattle.tree_index.specs.declared.descending.Below.{Below}
use Rattle.tree_index.specs.Puts.{risen_cells}
use Rattle.tree_index.proofs.putting.pass_to_root.Goals as goal

pub raise_root-requires-clause-came : goal.raise_root-requires-clause-came
raise_root-requires-clause-came g c = subst (λ (b : Below). All (IsOneCell IndexInterior (g.S.PageRead.usable c.args.store.now)) (risen_cells b)) c.in-Grown.is c.requires.dividers
