use Rattle.std.proofs.Common.{◌≡◌, ◌↔◌, ℕ, List, Result, Ok, Err, IfOk, refl, sym, subst}
use Rattle.format_spec.specs.declared.PageKind.{PageKind}
use Rattle.format_spec.specs.declared.PageKind.TheVariants.{IndexInterior, TableInterior, IndexLeaf, TableLeaf}
use Rattle.format_spec.specs.declared.CellView.{CellView}
use Rattle.common_spec.specs.Reading.{Reads, OrFault}
use Rattle.common_spec.specs.ReadingLaws.{OrFault-reads}
use Rattle.cell_codec.specs.Cells.{BeginsWithCell, BeginsOverLimit, HasCellFault}
use Rattle.cell_codec.specs.declared.cell.CellFault.{CellFault}
use Rattle.cell_codec.specs.declared.cell.CellFault.TheVariants.{ShortCell, SizeOverLimit}
use Rattle.cell_codec.proofs.cell.read_cell.Goals as goal

-- the cell at the front was read, or there is none
record IsRead (kind : PageKind) (usable : ℕ) (bytes : List ℕ) (r : Result CellView CellFault) : Type 0 where
  found : IfOk r (BeginsWithCell kind usable bytes)
  only : (cell : CellView) → BeginsWithCell kind usable bytes cell → r ≡ Ok cell
  over : (r ≡ Err SizeOverLimit) ↔ BeginsOverLimit kind bytes

-- then what is neither a cell nor over the limit is short
cell-short : (P : CellView → Type 0) (Q : Type 0) (r : Result CellView CellFault) → IfOk r P → ((cell : CellView) → P cell → r ≡ Ok cell) → ((r ≡ Err SizeOverLimit) ↔ Q)
    → (((cell : CellView) → ¬ P cell) × ¬ Q) → r ≡ Err ShortCell
cell-short P Q (Ok cell) found only over none = absurd (none.0 cell found)
cell-short P Q (Err ShortCell) found only over none = refl
cell-short P Q (Err SizeOverLimit) found only over none = absurd (none.1 (over.0 refl))

cell-none : (P : CellView → Type 0) (Q : Type 0) (r : Result CellView CellFault) → ((cell : CellView) → P cell → r ≡ Ok cell) → ((r ≡ Err SizeOverLimit) ↔ Q)
    → r ≡ Err ShortCell → ((cell : CellView) → ¬ P cell) × ¬ Q
cell-none P Q r only over e = (λ cell h. let f : r ≡ Ok cell = only cell h in absurd (cc), λ h. let f : r ≡ Err SizeOverLimit = over.1 h in absurd (cc))

-- the answer both ways
IsRead-reads : (kind : PageKind) (usable : ℕ) (bytes : List ℕ) (r : Result CellView CellFault) → IsRead kind usable bytes r
    → Reads (OrFault (BeginsWithCell kind usable bytes) (HasCellFault kind usable bytes)) r
IsRead-reads kind usable bytes r h = OrFault-reads (BeginsWithCell kind usable bytes) (HasCellFault kind usable bytes) r (holds r h) h.only faults
  where
    holds : (r : Result CellView CellFault) → IsRead kind usable bytes r → OrFault (BeginsWithCell kind usable bytes) (HasCellFault kind usable bytes) r
    holds (Ok cell) h = h.found
    holds (Err ShortCell) h = cell-none (BeginsWithCell kind usable bytes) (BeginsOverLimit kind bytes) (Err ShortCell) h.only h.over refl
    holds (Err SizeOverLimit) h = h.over.0 refl

    faults : (fault : CellFault) → HasCellFault kind usable bytes fault → r ≡ Err fault
    faults ShortCell none = cell-short (BeginsWithCell kind usable bytes) (BeginsOverLimit kind bytes) r h.found h.only h.over none
    faults SizeOverLimit over = h.over.1 over

IsRead-at_kind : (kind other : PageKind) (usable : ℕ) (bytes : List ℕ) (r : Result CellView CellFault) → other ≡ kind → IsRead kind usable bytes r → IsRead other usable bytes r
IsRead-at_kind kind other usable bytes r e h = subst (λ k. IsRead k usable bytes r) (sym e) h

pub returns-in-TableLeaf : goal.returns-in-TableLeaf
returns-in-TableLeaf c =
    let read = IsRead-at_kind TableLeaf c.args.kind c.args.usable c.args.bytes.now c.read_table_leaf_cell.result c.in-TableLeaf.is (record { found = c.read_table_leaf_cell.ensures.found; only = c.read_table_leaf_cell.ensures.only; over = c.read_table_leaf_cell.ensures.over }) in
    IsRead-reads c.args.kind c.args.usable c.args.bytes.now c.read_table_leaf_cell.result read

pub returns-in-TableInterior : goal.returns-in-TableInterior
returns-in-TableInterior c =
    let read = IsRead-at_kind TableInterior c.args.kind c.args.usable c.args.bytes.now c.read_table_interior_cell.result c.in-TableInterior.is (record { found = c.read_table_interior_cell.ensures.found; only = c.read_table_interior_cell.ensures.only; over = (λ e. c.read_table_interior_cell.ensures.over e, λ h. absurd h) }) in
    IsRead-reads c.args.kind c.args.usable c.args.bytes.now c.read_table_interior_cell.result read

pub returns-in-IndexLeaf : goal.returns-in-IndexLeaf
returns-in-IndexLeaf c =
    let read = IsRead-at_kind IndexLeaf c.args.kind c.args.usable c.args.bytes.now c.read_index_cell.result c.in-IndexLeaf.is (record { found = c.read_index_cell.ensures.found; only = c.read_index_cell.ensures.only; over = c.read_index_cell.ensures.over }) in
    IsRead-reads c.args.kind c.args.usable c.args.bytes.now c.read_index_cell.result read

pub returns-in-IndexInterior : goal.returns-in-IndexInterior
returns-in-IndexInterior c =
    let read = IsRead-at_kind IndexInterior c.args.kind c.args.usable c.args.bytes.now c.read_index_cell-in-IndexInterior.result c.in-IndexInterior.is (record { found = c.read_index_cell-in-IndexInterior.ensures.found; only = c.read_index_cell-in-IndexInterior.ensures.only; over = c.read_index_cell-in-IndexInterior.ensures.over }) in
    IsRead-reads c.args.kind c.args.usable c.args.bytes.now c.read_index_cell-in-IndexInterior.result read
