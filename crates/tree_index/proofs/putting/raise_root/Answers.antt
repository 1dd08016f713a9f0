use Rattle.std.proofs.Math.Path.{subst⁻¹}
use Rattle.std.specs.List.{All}
use Rattle.format_spec.specs.declared.PageKind.{PageKind}
use Rattle.page_spec.specs.Rooms.{IsOneCell}
use Rattle.tree_index.proofs.Entering.{dividers-fit}
use Rattle.tree_index.proofs.putting.raise_root.Goals as goal

pub change_root-requires-clause-comes : goal.change_root-requires-clause-comes
change_root-requires-clause-comes g c = subst⁻¹ (λ (k : PageKind). All (IsOneCell k (g.S.PageRead.usable c.args.store.now)) c.args.came.items) c.requires.kind c.requires.came

pub change_root-requires-clause-few : goal.change_root-requires-clause-few
change_root-requires-clause-few g c = dividers-fit (g.S.PageRead.usable c.args.store.now) c.args.came.items c.args.page.kind c.requires.kind c.requires.sizes.usable c.requires.came c.requires.few
