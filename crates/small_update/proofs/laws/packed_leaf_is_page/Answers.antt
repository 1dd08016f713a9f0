use Rattle.std.proofs.Common.{map, [], arith}
use Rattle.std.proofs.lemmas.List.{length-map}
use Rattle.small_spec.specs.declared.TargetRow.{TargetRow}
use Rattle.small_update.proofs.Leaf.{page_room-is}
use Rattle.small_update.proofs.Page.{packed_leaf-page}
use Rattle.small_update.proofs.laws.packed_leaf_is_page.Goals as goal

pub returns : goal.returns
returns c rows room leaf =
    let cells = map (λ (row : TargetRow). row.cell) rows in
    packed_leaf-page 4096 cells (omega arith) (omega (arith, page_room-is rows, length-map rows (λ (row : TargetRow). row.cell))) (λ k l. leaf k [] l)
