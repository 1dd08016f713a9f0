use Rattle.std.proofs.Common.{ℕ, List}
use Rattle.std.proofs.Math.Path.{subst⁻¹}
use Rattle.std.specs.List.{remove}
use Rattle.format_spec.specs.declared.PageKind.{PageKind}
use Rattle.page_spec.specs.Rooms.{IsWritten}
use Rattle.page_layout.specs.Written.{IsPacked}
use Rattle.page_layout.proofs.Inserting.{packed-laid}
use Rattle.page_layout.proofs.Packing.{layout-to_known}
use Rattle.page_layout.proofs.change.remove_over.Goals as goal

pub take_cell-requires-clause-packed : goal.take_cell-requires-clause-packed
take_cell-requires-clause-packed c =
    let m = c.pack_into-measured in
    let of = c.requires.page.accepted in
    (of.cells, of.right, subst⁻¹ (λ (bytes : List ℕ). IsPacked bytes m.result.layout of.cells of.right) c.copy_from_slice.ensures.after (packed-laid (m.ensures.laid of.kind of.cells of.right of.is_page)))

pub returns-clause-written : goal.returns-clause-written
returns-clause-written c kind cells right is =
    let a = c.args in
    let m = c.pack_into-measured in
    let its = m.ensures.measured kind cells right is in
    let packed = subst⁻¹ (λ (bytes : List ℕ). IsPacked bytes m.result.layout cells right) c.copy_from_slice.ensures.after (packed-laid (m.ensures.laid kind cells right is)) in
    layout-to_known (λ (n u : ℕ) (k : PageKind). IsWritten c.take_cell.new.page n u k (remove cells a.at) right) m.result.layout a.number a.usable kind its.number_is its.usable_is its.kind_is
    (c.take_cell.ensures.written cells right packed)
