use Rattle.std.proofs.Common.{◌≡◌, ℕ, List, take, slice_index_or, ◌∙◌, subst, inl, inr, arith}
use Rattle.std.proofs.lemmas.Bool.{cases_lt}
use Rattle.std.proofs.lemmas.List.{take_all, get_or_default}
use Rattle.format_spec.specs.Cell.{IsCell}
use Rattle.page_spec.specs.Rooms.{IsOneCell}
use Rattle.page_tests.proofs.layouts.are_cells.Goals as goal

pub loop-cell-preserved : goal.loop-cell-preserved
loop-cell-preserved c k d low =
    elim (cases_lt k c.loop-cell.cell-index) [
      | inl below ↦ c.loop-cell.invariant k d below
      | inr not_below ↦
          let a = c.args in
          let i = c.loop-cell.cell-index in
          let here : i ≡ k = omega arith in
          let bytes = c.as_slice-bytes.result.now in
          let holds = rw c.in-Ok.is at c.read_cell.ensures.holds in
          let whole : take c.in-Ok.view.size bytes ≡ bytes = take_all c.in-Ok.view.size bytes (omega arith) in
          let is : bytes ≡ slice_index_or a.list.now i d = c.as_slice-bytes.ensures ∙ c.cell-item.is ∙ get_or_default a.list.now i c.cell-item.result d c.loop-cell-test.true in
          let one : IsOneCell a.kind a.usable bytes = (c.in-Ok.view, subst (λ (b : List ℕ). IsCell a.kind a.usable b c.in-Ok.view) whole holds.1) in
          subst (λ (n : ℕ). IsOneCell a.kind a.usable (slice_index_or a.list.now n d)) here (subst (IsOneCell a.kind a.usable) is one)
    ]
