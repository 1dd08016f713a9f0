-- The rows that cells are.
use Rattle.std.proofs.Common.{◌≡◌, ℕ, ◌+◌, ◌≤◌, ℤ, pos, List, [], ◌∷◌, ◌++◌, length, map, get_or, take, drop, refl, sym, ◌∙◌, ap, Option, Some, None, subst, length-append, length-drop, arith}
use Rattle.std.proofs.lemmas.List.{length-map, take_all}
use Rattle.std.specs.Option.{IfNone}
use Rattle.byte_fields.specs.Bytes.{part_of}
use Rattle.byte_fields.specs.BytesLaws.{resized-short}
use Rattle.format_spec.specs.declared.PageKind.TheVariants.{TableLeaf}
use Rattle.format_spec.specs.declared.CellView.{CellView}
use Rattle.format_spec.specs.Cell.{IsCell}
use Rattle.byte_fields.specs.Numbers.{page_at}
use Rattle.format_spec.specs.Page.{IsPage}
use Rattle.small_spec.specs.SmallFile.{IsWholeCell, IsSmallFile, IsSmallHeader}
use Rattle.small_file.specs.declared.page.PlacedCell.{PlacedCell}
use Rattle.small_file.specs.Pages.{cell_of, IsPlaced, HoldsCells}
use Rattle.small_file.specs.Files.{payload_of, HasSchema, HoldsTable}
use Rattle.small_file.proofs.Pages.{view-one}

-- what makes a placed cell a whole cell
pub whole_cell-from_view : (page : List ℕ) (cell : PlacedCell) (payload : List ℕ) → IsPlaced page cell → cell.view.local ≡ cell.view.payload → payload_of page cell ≡ payload
    → IsWholeCell (cell_of page cell) cell.view.rowid payload
whole_cell-from_view page cell payload h whole e = record { view = cell.view; is_cell = h.is_cell; rowid_is = refl; whole = whole; payload_is = e }

-- and what a whole cell says of it
pub record WholeParts (page : List ℕ) (cell : PlacedCell) (rowid : ℤ) (payload : List ℕ) : Type 0 where
  pub rowid_is : cell.view.rowid ≡ rowid
  pub whole : cell.view.local ≡ cell.view.payload
  pub payload_is : payload_of page cell ≡ payload

pub whole_cell-parts : (page : List ℕ) (cell : PlacedCell) (rowid : ℤ) (payload : List ℕ) → IsPlaced page cell → IsWholeCell (cell_of page cell) rowid payload
    → WholeParts page cell rowid payload
whole_cell-parts page cell rowid payload h w =
    let same = view-one page cell w.view h w.is_cell in
    record {
      rowid_is = ap (λ v. v.rowid) (sym same) ∙ w.rowid_is;
      whole = subst (λ v. v.local ≡ v.payload) same w.whole;
      payload_is = ap (λ v. part_of (cell_of page cell) v.local_at v.local) (sym same) ∙ w.payload_is;
    }

-- the local payload lies in the cell
pub local-inside : (bytes : List ℕ) (view : CellView) → IsCell TableLeaf 4096 bytes view → view.local_at + view.local ≤ view.size
local-inside bytes view h =
    omega (
      arith,
      h.size,
      ap length h.whole,
      h.local_at,
      h.local_length,
      length-append h.payload_bytes (h.rowid_bytes ++ (h.local_bytes ++ h.overflow_bytes)),
      length-append h.rowid_bytes (h.local_bytes ++ h.overflow_bytes),
      length-append h.local_bytes h.overflow_bytes,
    )

-- the pages of a file of two
pub page-first : (bytes : List ℕ) → length bytes ≡ 8192 → page_at 4096 1 bytes ≡ take 4096 bytes
page-first bytes h = resized-short bytes 4096 (omega arith)

pub page-second : (bytes : List ℕ) → length bytes ≡ 8192 → page_at 4096 2 bytes ≡ drop 4096 bytes
page-second bytes h =
    let long : length (drop 4096 bytes) ≡ 4096 = omega (arith, length-drop 4096 bytes) in
    resized-short (drop 4096 bytes) 4096 (omega arith) ∙ take_all 4096 (drop 4096 bytes) (omega arith)

pub list-one_element : {X : Type 0} (xs : List X) (d : X) → length xs ≡ 1 → xs ≡ get_or xs 0 d ∷ []
list-one_element [] d e = absurd (omega arith)
list-one_element (x ∷ []) d e = refl
list-one_element (x ∷ y ∷ xs) d e = absurd (omega arith)

-- the schema's page, read
pub schema-from_cell : (page schema : List ℕ) (cells : List PlacedCell) (cell : PlacedCell) → HoldsCells page 1 cells → cells ≡ cell ∷ [] → IsWholeCell (cell_of page cell) (pos 1) schema → HasSchema page schema
schema-from_cell page schema cells cell h e w = (cell_of page cell, subst (λ s. IsPage page 1 4096 TableLeaf (map (cell_of page) s) 0) e h.is_page, w)

pub schema-cell : (page schema : List ℕ) (cells : List PlacedCell) (cell : PlacedCell) → HoldsCells page 1 cells → cells ≡ cell ∷ [] → HasSchema page schema → IsWholeCell (cell_of page cell) (pos 1) schema
schema-cell page schema cells cell h e w =
    let all : w.0 ∷ [] ≡ cell_of page cell ∷ [] = h.only (w.0 ∷ []) 0 w.1 ∙ ap (map (cell_of page)) e in
    subst (λ s. IsWholeCell s (pos 1) schema) (ap (λ s. get_or s 0 []) all) w.2

pub schema-one_cell : (page schema : List ℕ) (cells : List PlacedCell) → HoldsCells page 1 cells → HasSchema page schema → length cells ≡ 1
schema-one_cell page schema cells h w = sym (length-map cells (cell_of page)) ∙ sym (ap length (h.only (w.0 ∷ []) 0 w.1))

-- the whole file, from its pages
module _ (bytes schema : List ℕ) where
  pub small_file-schema : (cells : List (List ℕ)) → IsSmallFile bytes schema cells → HasSchema (take 4096 bytes) schema
  small_file-schema cells s = (s.schema_cell, subst (λ p. IsPage p 1 4096 TableLeaf (s.schema_cell ∷ []) 0) (page-first bytes s.long) s.schema_page, s.schema_row)

  pub small_file-table : (cells : List (List ℕ)) → IsSmallFile bytes schema cells → IsPage (drop 4096 bytes) 2 4096 TableLeaf cells 0
  small_file-table cells s = subst (λ p. IsPage p 2 4096 TableLeaf cells 0) (page-second bytes s.long) s.table_page

  pub HoldsTable-from_cells : (cells : List PlacedCell) → length bytes ≡ 8192 → IsSmallHeader bytes → HasSchema (take 4096 bytes) schema → HoldsCells (drop 4096 bytes) 2 cells → HoldsTable bytes schema cells
  HoldsTable-from_cells cells long header has_schema h = record {
    second = h;
    file = record {
      long = long;
      header = header;
      schema_cell = has_schema.0;
      schema_page = subst (λ p. IsPage p 1 4096 TableLeaf (has_schema.0 ∷ []) 0) (sym (page-first bytes long)) has_schema.1;
      schema_row = has_schema.2;
      table_page = subst (λ p. IsPage p 2 4096 TableLeaf (map (cell_of (drop 4096 bytes)) cells) 0) (sym (page-second bytes long)) h.is_page;
    };
  }

-- what follows where nothing was found
pub IfNone-then : {X : Type 0} (o : Option X) {P Q : Type 0} → IfNone o P → (P → Q) → IfNone o Q
IfNone-then None h f = f h
IfNone-then (Some x) h f = tt
