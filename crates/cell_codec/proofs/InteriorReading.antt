-- The bytes that begin with a table interior page's cell, part by part.
use Rattle.std.proofs.Common.{◌≡◌, ℕ, ◌+◌, ◌≤◌, List, ◌++◌, length, take, drop, refl, sym, ◌∙◌, ap, subst, append_assoc, length-append, arith}
use Rattle.std.proofs.Math.Seq.{take-add}
use Rattle.std.proofs.lemmas.List.{take_at, drop_at, take-append-drop, length-take-le, length-drop}
use Rattle.std.specs.Int.{w64, cast_signed}
use Rattle.byteorder.specs.Endian.{big_number}
use Rattle.format_spec.specs.declared.CellView.{CellView}
use Rattle.format_spec.specs.Varint.{IsVarint}
use Rattle.format_spec.specs.Cell.{IsTableInteriorCell}
use Rattle.cell_codec.specs.CellLaws.{table_interior_cell-same}
use Rattle.cell_codec.proofs.CellReading.{BeginsWithNone, VarintIs}

abbrev pub BeginsWithInterior : List ℕ → CellView → Type 0
BeginsWithInterior bytes cell = (cell.size ≤ length bytes) × IsTableInteriorCell (take cell.size bytes) cell

-- bytes begin with one cell at most
pub interior_cell-same_first : (bytes : List ℕ) (c d : CellView) → BeginsWithInterior bytes c → BeginsWithInterior bytes d → c ≡ d
interior_cell-same_first bytes c d v w =
    (table_interior_cell-same (drop c.size bytes) (drop d.size bytes) v.1 w.1 (take-append-drop c.size bytes ∙ sym (take-append-drop d.size bytes))).1

-- bytes with no rowid behind the child
pub interior_cell-needs_rowid : (bytes : List ℕ) → BeginsWithNone (drop 4 bytes) → (cell : CellView) → BeginsWithInterior bytes cell → ⊥
interior_cell-needs_rowid bytes none cell h =
    let v : IsTableInteriorCell (take cell.size bytes) cell = h.1 in
    let c = v.child_bytes in
    let q = v.rowid_bytes in
    let left = drop cell.size bytes in
    let whole : bytes ≡ c ++ (q ++ left) = sym (take-append-drop cell.size bytes) ∙ ap (λ s. s ++ left) v.whole ∙ append_assoc c q left in
    let behind : drop 4 bytes ≡ q ++ left = ap (drop 4) whole ∙ drop_at c (q ++ left) 4 v.child_length in
    let first : take (length q) (drop 4 bytes) ≡ q = ap (take (length q)) behind ∙ take_at q left (length q) refl in
    none v.rowid_number (length q) (omega (arith, ap length behind, length-append q left)) (subst (λ s. IsVarint s v.rowid_number) (sym first) v.rowid_varint)

-- bytes that have all of a table interior page's cell
pub interior_cell-read : (bytes : List ℕ) (number j : ℕ) (cell : CellView) → VarintIs (drop 4 bytes) number j → 4 ≤ length bytes → cell.size ≡ 4 + j
    → cell.child ≡ big_number 4 (take 4 bytes) → cell.rowid ≡ cast_signed w64 number → cell.payload ≡ 0 → cell.local_at ≡ 0 → cell.local ≡ 0 → cell.overflow ≡ 0 → BeginsWithInterior bytes cell
interior_cell-read bytes number j cell w four size child rowid payload at local overflow =
    let within : cell.size ≤ length bytes = omega (arith, w.within, length-drop 4 bytes) in (
      within,
      record {
        child_bytes = take 4 bytes;
        rowid_bytes = take j (drop 4 bytes);
        rowid_number = number;
        whole = ap (λ k. take k bytes) size ∙ take-add 4 j bytes;
        child_length = length-take-le 4 bytes four;
        child = child;
        rowid_varint = w.spelled;
        rowid = rowid;
        payload = payload;
        local_at = at;
        local = local;
        overflow = overflow;
        size = sym (length-take-le cell.size bytes within);
      },
    )
