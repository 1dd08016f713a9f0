use Rattle.std.proofs.Common.{◌≡◌, ℕ, ◌<◌, false, List, [], ◌++◌, refl, ap, ◌∙◌, subst, arith}
use Rattle.std.proofs.Math.Path.{subst⁻¹}
use Rattle.std.proofs.lemmas.Result.{err_from_is_err_and}
use Rattle.std.specs.List.{All}
use Rattle.page_spec.specs.Rooms.{IsOneCell, free_bytes, needs}
use Rattle.put_spec.specs.Steps.{bytes_in}
use Rattle.tree_pages.specs.Writers.{paged, sizes_of}
use Rattle.tree_level.specs.declared.writing.Node.{Node}
use Rattle.tree_level.specs.declared.cells.Change.{Change}
use Rattle.tree_level.specs.Levels.{WritesNode}
use Rattle.tree_level.proofs.Changed.{made-cells, made-moves, readable}
use Rattle.tree_level.proofs.moving.move_cells.Goals as goal

pub changed_cells-requires-clause-page : goal.changed_cells-requires-clause-page
changed_cells-requires-clause-page g c = readable (g.S.PageRead.usable c.args.store.now) c.args.page c.requires.page (omega (arith, c.requires.sizes.within, c.requires.whole))

pub write_node-requires-clause-cells : goal.write_node-requires-clause-cells
write_node-requires-clause-cells g c =
    let a = c.args in
    let u = g.S.PageRead.usable a.store.now in
    let change : Change = record { at = 0; goes = false; right = a.page.right } in
    let none : All (IsOneCell a.page.kind u) c.new-comes.result.items = subst⁻¹ (All (IsOneCell a.page.kind u)) c.new-comes.ensures.items (λ k d low. absurd (omega arith)) in
    subst⁻¹ (All (IsOneCell a.page.kind u)) c.as_slice-slice.ensures.value
    (made-cells (sizes_of g.S.PageRead a.store.now) a.page change c.new-comes.result.items c.requires.page c.in_ok-cells.cells.items c.in_ok-cells.ensures none)

pub returns-then-needs-room-clause-moved : goal.returns-then-needs-room-clause-moved
returns-then-needs-room-clause-moved g c = λ old told.
    let a = c.args in
    let z = sizes_of g.S.PageRead a.store.now in
    let change : Change = record { at = 0; goes = false; right = a.page.right } in
    let made = c.in_ok-cells.cells.items in
    let over : free_bytes a.number z.usable a.page.kind [] < needs made =
    omega (
      arith,
      c.if-needs-room.true,
      c.needs.ensures,
      c.room_in-room.ensures,
      ap needs c.as_slice-slice.ensures.value,
      ap (λ (u : ℕ). free_bytes a.number u a.page.kind []) c.usable.ensures,
    ) in (
      old,
      told,
      (
        refl,
        made-moves z a.page change c.new-comes.result.items c.requires.page made c.in_ok-cells.ensures a.number c.requires.sizes.usable (ap needs c.new-comes.ensures.items) c.requires.first over,
      ),
    )

pub returns-in-Ok-clause-moved : goal.returns-in-Ok-clause-moved
returns-in-Ok-clause-moved g c = λ old told.
    let S = g.S.PageRead in
    let a = c.args in
    let z = sizes_of S a.store.now in
    let node : Node = record { number = a.number; kind = a.page.kind; right = a.page.right } in
    let w = c.in-Ok.ensures.written old told in (
      w.0,
      w.1,
      λ cells has.
          let same : c.as_slice-slice.result.now ≡ bytes_in cells =
          c.as_slice-slice.ensures.value ∙ c.in_ok-cells.ensures z.usable cells has ∙ ap (λ (l : List (List ℕ)). l ++ bytes_in cells) c.new-comes.ensures.items in
          subst (λ (l : List (List ℕ)). WritesNode z node l (paged S a.store.now old) (paged S c.write_node.new.store w.0)) same w.2,
    )

pub returns-in_err-cells-clause-other : goal.returns-in_err-cells-clause-other
returns-in_err-cells-clause-other g c = let p = err_from_is_err_and c.from_residual.result c.from_residual.ensures.1 in rw (p.1, p.2) tt
