use Rattle.std.proofs.Common.{◌≡◌, ℕ, List, length, map, take, rules, arith, ap, sym, ◌∙◌, replicate, subst, drop, ◌++◌, ◌∷◌, []}
use Rattle.byteorder.specs.Endian.{big_bytes}
use Rattle.std.proofs.lemmas.List.{take_all, length-map}
use Rattle.small_spec.specs.declared.TargetRow.{TargetRow}
use Rattle.small_update.proofs.Leaf.{IsPacking, IsPacking-none, IsPacking-packed_leaf, page_room-for_cell, IsPacking-next_row}
use Rattle.small_update.proofs.pages.write_leaf.Goals as goal

pub loop-k-init : goal.loop-k-init
loop-k-init c =
    let zeros : c.fill.new.self ≡ replicate (length c.args.page.now) 0 = c.fill.ensures.after (search rules) in
    rw c.fill.ensures.len (IsPacking-none c.fill.new.self (length c.args.page.now) (omega arith) zeros)

pub overflow_sub-place : goal.overflow_sub-place
overflow_sub-place c =
    let left = page_room-for_cell c.loop-k.page (length c.args.page.now) c.loop-k.place c.loop-k.k c.args.rows.now c.index-rows-k.result c.as_slice-cell.result.now c.loop-k.invariant c.loop-k-test.true c.index-rows-k.is c.as_slice-cell.ensures c.requires.room in
    omega arith

pub write_cell-requires-clause-below : goal.write_cell-requires-clause-below
write_cell-requires-clause-below c =
    let left = page_room-for_cell c.loop-k.page (length c.args.page.now) c.loop-k.place c.loop-k.k c.args.rows.now c.index-rows-k.result c.as_slice-cell.result.now c.loop-k.invariant c.loop-k-test.true c.index-rows-k.is c.as_slice-cell.ensures c.requires.room in
    omega arith

pub loop-k-preserved : goal.loop-k-preserved
loop-k-preserved c =
    IsPacking-next_row c.loop-k.page c.write_cell.new.page (length c.args.page.now) c.loop-k.place c.loop-k.k c.args.rows.now c.index-rows-k.result c.as_slice-cell.result.now c.loop-k.invariant c.loop-k-test.true c.index-rows-k.is c.as_slice-cell.ensures c.requires.room c.write_cell.ensures

pub returns : goal.returns
returns c =
    let rows = c.args.rows.now in
    let size = length c.args.page.now in
    let cells = map (λ (row : TargetRow). row.cell) rows in
    let all : take c.loop-k.k rows ≡ rows = take_all c.loop-k.k rows c.loop-k-test.false in
    let packing : IsPacking c.loop-k.page size c.loop-k.place cells =
    subst (λ (x : List TargetRow). IsPacking c.loop-k.page size c.loop-k.place (map (λ (row : TargetRow). row.cell) x)) all c.loop-k.invariant in
    let count = length-map rows (λ (row : TargetRow). row.cell) in
    c.write_header.ensures
    ∙ (ap (λ (n : ℕ). (13 ∷ (big_bytes 2 0 ++ (big_bytes 2 n ++ (big_bytes 2 c.loop-k.place ++ 0 ∷ [])))) ++ drop 8 c.loop-k.page) (sym count)
    ∙ IsPacking-packed_leaf c.loop-k.page size c.loop-k.place cells packing)
