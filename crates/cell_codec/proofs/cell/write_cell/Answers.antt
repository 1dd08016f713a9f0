use Rattle.std.proofs.Common.{◌≡◌, ◌≤◌, ◌++◌, List, ℕ, length, drop, sym, ◌∙◌, ap, subst}
use Rattle.format_spec.specs.declared.PageKind.{PageKind}
use Rattle.format_spec.specs.declared.PageKind.TheVariants.{IndexInterior, TableInterior, IndexLeaf}
use Rattle.format_spec.specs.declared.CellView.{CellView}
use Rattle.format_spec.specs.Cell.{cell_bytes}
use Rattle.cell_codec.specs.CellLaws.{table_interior_cell-is, index_leaf_cell_is, index_interior_cell_is}
use Rattle.cell_codec.proofs.cell.write_cell.Goals as goal

-- the bytes at a kind that is known
cell_bytes-at_kind : (kind other : PageKind) (cell : CellView) (local bytes : List ℕ) → kind ≡ other → cell_bytes other cell local ≡ bytes → cell_bytes kind cell local ≡ bytes
cell_bytes-at_kind kind other cell local bytes e f = ap (λ k. cell_bytes k cell local) e ∙ f

pub write_table_interior_cell-requires : goal.write_table_interior_cell-requires
write_table_interior_cell-requires c =
    let same = cell_bytes-at_kind c.args.kind TableInterior c.args.cell.now c.args.local.now _ c.in-TableInterior.is (table_interior_cell-is c.args.cell.now c.args.local.now) in
    subst (λ s. length s ≤ length c.args.into.now) same c.requires.room

pub returns-in-TableInterior : goal.returns-in-TableInterior
returns-in-TableInterior c =
    let same = cell_bytes-at_kind c.args.kind TableInterior c.args.cell.now c.args.local.now _ c.in-TableInterior.is (table_interior_cell-is c.args.cell.now c.args.local.now) in
    record {
      length = c.write_table_interior_cell.ensures.length ∙ sym (ap length same);
      written = c.write_table_interior_cell.ensures.written ∙ ap (λ s. s ++ drop c.write_table_interior_cell.result c.args.into.now) (sym same);
    }

pub write_index_cell-requires-clause-room : goal.write_index_cell-requires-clause-room
write_index_cell-requires-clause-room c =
    let same = cell_bytes-at_kind c.args.kind IndexLeaf c.args.cell.now c.args.local.now _ c.in-IndexLeaf.is (index_leaf_cell_is c.args.cell.now c.args.local.now) in
    subst (λ s. length s ≤ length c.args.into.now) same c.requires.room

pub returns-in-IndexLeaf : goal.returns-in-IndexLeaf
returns-in-IndexLeaf c =
    let same = cell_bytes-at_kind c.args.kind IndexLeaf c.args.cell.now c.args.local.now _ c.in-IndexLeaf.is (index_leaf_cell_is c.args.cell.now c.args.local.now) in
    record {
      length = c.write_index_cell.ensures.length ∙ sym (ap length same);
      written = c.write_index_cell.ensures.written ∙ ap (λ s. s ++ drop c.write_index_cell.result c.args.into.now) (sym same);
    }

pub write_index_cell-requires-in-IndexInterior-clause-room : goal.write_index_cell-requires-in-IndexInterior-clause-room
write_index_cell-requires-in-IndexInterior-clause-room c =
    let same = cell_bytes-at_kind c.args.kind IndexInterior c.args.cell.now c.args.local.now _ c.in-IndexInterior.is (index_interior_cell_is c.args.cell.now c.args.local.now) in
    subst (λ s. length s ≤ length c.args.into.now) same c.requires.room

pub returns-in-IndexInterior : goal.returns-in-IndexInterior
returns-in-IndexInterior c =
    let same = cell_bytes-at_kind c.args.kind IndexInterior c.args.cell.now c.args.local.now _ c.in-IndexInterior.is (index_interior_cell_is c.args.cell.now c.args.local.now) in
    record {
      length = c.write_index_cell-in-IndexInterior.ensures.length ∙ sym (ap length same);
      written = c.write_index_cell-in-IndexInterior.ensures.written ∙ ap (λ s. s ++ drop c.write_index_cell-in-IndexInterior.result c.args.into.now) (sym same);
    }
