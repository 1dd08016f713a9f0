use Rattle.std.proofs.Common.{◌≡◌, ℕ, ◌+◌, ◌≤◌, List, slice_index_or, ap, ◌∙◌, subst, inl, inr, arith}
use Rattle.std.proofs.lemmas.Bool.{cases_lt}
use Rattle.std.proofs.lemmas.List.{get_or_default}
use Rattle.format_spec.specs.Page.{cell_room}
use Rattle.page_tests.proofs.shares.fit.Goals as goal

pub loop-cell-preserved : goal.loop-cell-preserved
loop-cell-preserved c k d low =
    elim (cases_lt k c.loop-cell.cell-index) [
      | inl below ↦ c.loop-cell.invariant k d below
      | inr not_below ↦
          let i = c.loop-cell.cell-index in
          let here : i ≡ k = omega arith in
          let is : c.as_slice.result.now ≡ slice_index_or c.args.cells.now i d = c.as_slice.ensures ∙ c.cell-item.is ∙ get_or_default c.args.cells.now i c.cell-item.result d c.loop-cell-test.true in
          let one : cell_room c.as_slice.result.now + 2 ≤ c.args.room = omega (arith, c.max-size.ensures) in
          subst (λ (n : ℕ). cell_room (slice_index_or c.args.cells.now n d) + 2 ≤ c.args.room) here (omega (arith, one, ap cell_room is))
    ]
