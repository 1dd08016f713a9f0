use Rattle.std.proofs.Common.{◌≡◌, ◌-◌, ◌+◌, [], ◌∷◌, ◌++◌, take, drop, slice_index_or, sym, ap, ◌∙◌, append_assoc, arith}
use Rattle.put_spec.specs.Steps.{bytes_in}
use Rattle.tree_level.proofs.Changed.{cells-many, part-more}
use Rattle.tree_level.proofs.cells.copy_cells.Goals as goal

pub loop-at-preserved : goal.loop-at-preserved
loop-at-preserved c usable all has =
    let at = c.loop-at.at in
    let to = c.args.to in
    let cell = c.in_ok-cell.cell in
    let was = c.loop-at.cells.items in
    let bytes = bytes_in all in
    let here : cell ≡ slice_index_or bytes at [] = c.in_ok-cell.ensures ∙ c.cell_of.ensures usable all has in
    let more : c.push_cell.new.cells.items ≡ was ++ cell ∷ [] = c.in_ok-push_cell.ensures in
    ap (λ l. l ++ take (to - (at + 1)) (drop (at + 1) bytes)) more
    ∙ append_assoc was (cell ∷ []) (take (to - (at + 1)) (drop (at + 1) bytes))
    ∙ ap (λ l. was ++ l) (ap (λ x. x ∷ take (to - (at + 1)) (drop (at + 1) bytes)) here ∙ sym (part-more bytes at to (omega (arith, c.loop-at-test.true)) (omega (arith, c.loop-at-test.true, c.requires.within, cells-many usable c.args.page.now all has))))
    ∙ c.loop-at.invariant usable all has
