use Rattle.std.proofs.Common.{ℕ, rules}
use Rattle.std.specs.List.{remove}
use Rattle.format_spec.specs.declared.PageKind.{PageKind}
use Rattle.page_spec.specs.Rooms.{IsWritten}
use Rattle.page_layout.proofs.Changing.{IsPacked-measured}
use Rattle.page_layout.proofs.Packing.{layout-to_known}
use Rattle.page_layout.proofs.change.remove_cell.Goals as goal

pub returns-clause-written : goal.returns-clause-written
returns-clause-written c kind cells right is =
    let a = c.args in
    let m = c.measure-measured in
    let its = m.ensures kind cells right is in
    layout-to_known (λ (n u : ℕ) (k : PageKind). IsWritten c.take_cell.new.page n u k (remove cells a.at) right) m.result.layout a.number a.usable kind its.number_is its.usable_is its.kind_is
    (c.take_cell.ensures.written cells right (IsPacked-measured a.page.now a.number a.usable kind cells right m.result is its (search rules)))
