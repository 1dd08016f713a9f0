-- The target after the update is a small target again.
use Rattle.std.proofs.Common.{◌≡◌, ℕ, zero, suc, ◌+◌, ◌-◌, ◌*◌, ◌≤◌, List, [], ◌∷◌, ◌++◌, length, take, drop, map, get_or, refl, sym, ap, ◌∙◌, subst, arith, ℤ, pos}
use Rattle.std.proofs.lemmas.List.{length-append, length-map, length-take, length-take-le, length-drop, take_at, drop_at, take-take, take-append-le}
use Rattle.std.proofs.lemmas.List.Elements.{All-append, All-map}
use Rattle.std.proofs.lemmas.List.Sorted.{All-permutation}
use Rattle.std.specs.List.{All, AllZip}
use Rattle.rbu_value.specs.declared.value.Value.{Value}
use Rattle.rbu_value.specs.declared.value.Value.TheVariants.{Null, Int}
use Rattle.format_spec.specs.declared.PageKind.TheVariants.{TableLeaf}
use Rattle.byte_fields.specs.Numbers.{page_at}
use Rattle.format_spec.specs.Varint.{varint, varint_front}
use Rattle.format_spec.specs.Record.{body, canonical_record, serial_type, header_size_bytes, serial_types}
use Rattle.format_spec.specs.Page.{IsPage, packed_leaf}
use Rattle.cell_codec.specs.Cells.{whole_cell}
use Rattle.cell_codec.specs.VarintLaws.{varint_size}
use Rattle.cell_codec.specs.CellLaws.{whole_cell-read, whole_cell-payload, cell-parts, local_at-bounds, local_size_room}
use Rattle.record_codec.specs.RecordLaws.{header-size, header_size_bytes-grows, record-size}
use Rattle.small_spec.specs.declared.TargetRow.{TargetRow}
use Rattle.small_spec.specs.declared.PreparedRow.{PreparedRow}
use Rattle.small_spec.specs.SmallFile.{IsSmallHeader, IsSmallFile, IsSmallTarget, IsSmallRbu, IsRowCell, IsTargetRow, IsPreparedRow, target_table, schema_record}
use Rattle.small_spec.specs.Inserts.{inserted, all_rows, page_room, IsMerged, new_first_page, new_pages}
use Rattle.small_update.proofs.Leaf.{content, page_room-is}
use Rattle.small_update.proofs.Whole.{page-first}
use Rattle.small_update.proofs.Page.{packed_leaf-page, length-packed_leaf}
use Rattle.byte_fields.specs.BytesLaws.{resized-same}
use Rattle.byte_fields.specs.NumbersLaws.{number_at-append, number_at-take}
use Rattle.small_update.specs.PackedLeaf.{IsLeafCell}
use Rattle.small_update.proofs.FirstPage.{length-new_first_page, number_at-new_first_page, new_first_page-front, new_first_page-back, page-same}

-- ---- rows

-- a record that lies in its cell whole is short
record-within : (cell : List ℕ) (rowid : ℤ) (values : List Value) → IsRowCell cell rowid values → length (canonical_record 4 values) + 35 ≤ 4096
record-within cell rowid values row =
    let within = local_size_room TableLeaf 4096 row.view.payload (omega arith) in
    let local = row.is_cell.local in
    omega (arith, ap length row.payload_is, length-take row.view.local (drop row.view.local_at cell), within, local)

varint-zero_byte : length (varint 0) ≡ 1
unfolding varint_front
varint-zero_byte = varint_size 0

-- the record of NULL and a value is no longer than one of three values with it
record-shorter : (x value z : Value) → length (canonical_record 4 (x ∷ value ∷ z ∷ [])) ≤ 4096
    → length (canonical_record 4 (Null ∷ value ∷ [])) ≤ length (canonical_record 4 (x ∷ value ∷ z ∷ []))
record-shorter x value z small =
    let t = varint (serial_type 4 value) in
    let last = varint (serial_type 4 z) in
    let two = length (serial_types 4 (Null ∷ value ∷ [])) in
    let three = length (serial_types 4 (x ∷ value ∷ z ∷ [])) in
    let one = record-size 4 (Null ∷ value ∷ []) in
    let other = record-size 4 (x ∷ value ∷ z ∷ []) in
    let bodies : length (body 4 value ++ []) ≤ length (body 4 x ++ (body 4 value ++ (body 4 z ++ []))) =
    omega (arith, length-append (body 4 x) (body 4 value ++ (body 4 z ++ [])), length-append (body 4 value) (body 4 z ++ []), length-append (body 4 value) []) in
    let types : two ≤ three =
    omega (
      arith,
      length-append (varint 0) (t ++ []),
      length-append t [],
      length-append (varint (serial_type 4 x)) (t ++ (last ++ [])),
      length-append t (last ++ []),
      varint_size (serial_type 4 x),
      varint-zero_byte,
    ) in
    let most : three ≤ 4096 = omega (arith, other, small) in
    omega (arith, one, other, bodies, types, header-size two, header-size three, header_size_bytes-grows two three types)

-- a row that a prepared insert makes
inserted-row : (cell : List ℕ) (row : PreparedRow) → IsPreparedRow cell row → IsTargetRow (inserted row).cell (inserted row)
inserted-row cell row p =
    let payload = canonical_record 4 (Null ∷ row.value ∷ []) in
    let short = record-within cell row.data_rowid (Int row.key ∷ row.value ∷ Int (pos 0) ∷ []) p.1 in
    let shorter = record-shorter (Int row.key) row.value (Int (pos 0)) (omega (arith, short)) in
    let most : length payload ≤ 4096 - 35 = omega (arith, short, shorter) in
    let is_row : IsRowCell (inserted row).cell row.key (Null ∷ row.value ∷ []) = record {
      view = whole_cell row.key payload;
      is_cell = whole_cell-read 4096 row.key payload p.2 most (omega (arith, most));
      rowid_is = refl;
      whole = refl;
      payload_is = whole_cell-payload row.key payload;
    } in
    (refl, (row.value, p.0, is_row))

-- a target row's cell is a table leaf's, of at least four bytes
row-leaf_cell : (row : TargetRow) → IsTargetRow row.cell row → IsLeafCell row.cell
row-leaf_cell row r =
    let value = r.1.0 in
    let values = Null ∷ value ∷ [] in
    let is_row = r.1.2 in
    let view = is_row.view in
    let types : List ℕ = varint 0 ++ (varint (serial_type 4 value) ++ []) in
    let size = record-size 4 values in
    let front = varint_size (length types + header_size_bytes (length types)) in
    let within : length (canonical_record 4 values) ≤ view.local = omega (arith, ap length is_row.payload_is, length-take view.local (drop view.local_at row.cell)) in
    let parts = cell-parts 4096 row.cell view is_row.is_cell in
    let at = local_at-bounds 4096 row.cell view is_row.is_cell in
    let all = is_row.is_cell.size in
    let some : 1 ≤ length types = omega (arith, length-append (varint 0) (varint (serial_type 4 value) ++ []), varint_size 0) in
    ((view, is_row.is_cell), omega (arith, size, front, within, parts, at.0, all, some))

-- cells and their rows, one by one
target_rows-each : (cells : List (List ℕ)) (rows : List TargetRow) → AllZip IsTargetRow cells rows → All (λ row. IsTargetRow row.cell row) rows
target_rows-each [] [] all k d l = absurd (omega (arith, l))
target_rows-each [] (row ∷ rows) all k d l = absurd all
target_rows-each (cell ∷ cells) [] all k d l = absurd all
target_rows-each (cell ∷ cells) (row ∷ rows) all zero d l = subst (λ c. IsTargetRow c row) all.0.0 all.0
target_rows-each (cell ∷ cells) (row ∷ rows) all (suc k) d l = target_rows-each cells rows all.1 k d (omega (arith, l))

prepared_rows-each : (cells : List (List ℕ)) (rows : List PreparedRow) → AllZip IsPreparedRow cells rows → All (λ row. IsTargetRow (inserted row).cell (inserted row)) rows
prepared_rows-each [] [] all k d l = absurd (omega (arith, l))
prepared_rows-each [] (row ∷ rows) all k d l = absurd all
prepared_rows-each (cell ∷ cells) [] all k d l = absurd all
prepared_rows-each (cell ∷ cells) (row ∷ rows) all zero d l = inserted-row cell row all.0
prepared_rows-each (cell ∷ cells) (row ∷ rows) all (suc k) d l = prepared_rows-each cells rows all.1 k d (omega (arith, l))

rows-all_zip : (rows : List TargetRow) → All (λ row. IsTargetRow row.cell row) rows → AllZip IsTargetRow (map (λ row. row.cell) rows) rows
rows-all_zip [] each = tt
rows-all_zip (row ∷ rows) each = (each 0 row (omega arith), rows-all_zip rows (λ k d l. each (suc k) d (omega (arith, l))))

-- each of all rows is a target row
rows-again : (old rows : List TargetRow) (prepared : List PreparedRow) → All (λ row. IsTargetRow row.cell row) old → All (λ row. IsTargetRow (inserted row).cell (inserted row)) prepared
    → IsMerged old prepared rows → All (λ row. IsTargetRow row.cell row) rows
rows-again old rows prepared each made merged =
    All-permutation (λ row. IsTargetRow row.cell row) (all_rows old prepared) rows merged.same_rows
    (All-append (λ row. IsTargetRow row.cell row) old (map inserted prepared) each (All-map (λ row. IsTargetRow row.cell row) inserted prepared made))

-- ---- pages

-- the header of a small file whose first page is written
header-again : (size : ℕ) (target second : List ℕ) → 100 ≤ size → size ≤ length target → IsSmallHeader target → IsSmallHeader (new_first_page (take size target) ++ second)
header-again size target second h l header =
    let page = take size target in
    let long : length page ≡ size = length-take-le size target l in
    let enough : 96 ≤ length page = omega arith in
    let now : length (new_first_page page) ≡ size = length-new_first_page page enough ∙ long in
    let front = λ (k m : ℕ) (end : k + m ≤ 96). number_at-append k m (new_first_page page) second (omega arith) ∙ number_at-new_first_page k m page enough in
    let old = λ (k m : ℕ) (end : k + m ≤ 96). number_at-take k m size target (omega arith) in
    record {
      magic = take-append-le 16 (new_first_page page) second (omega arith) ∙ (new_first_page-front page enough ∙ (take-take 16 size target (omega arith) ∙ header.magic));
      layout = (
        front 16 2 (omega arith) ∙ old 16 2 (omega arith) ∙ header.layout.0,
        (
          front 18 1 (omega arith) ∙ old 18 1 (omega arith) ∙ header.layout.1.0,
          (
            front 19 1 (omega arith) ∙ old 19 1 (omega arith) ∙ header.layout.1.1.0,
            (
              front 20 1 (omega arith) ∙ old 20 1 (omega arith) ∙ header.layout.1.1.1.0,
              (
                front 21 1 (omega arith) ∙ old 21 1 (omega arith) ∙ header.layout.1.1.1.1.0,
                (front 22 1 (omega arith) ∙ old 22 1 (omega arith) ∙ header.layout.1.1.1.1.1.0, (front 23 1 (omega arith) ∙ old 23 1 (omega arith) ∙ header.layout.1.1.1.1.1.1.0, tt)),
              ),
            ),
          ),
        ),
      );
      state = (
        front 28 4 (omega arith) ∙ old 28 4 (omega arith) ∙ header.state.0,
        (
          front 32 4 (omega arith) ∙ old 32 4 (omega arith) ∙ header.state.1.0,
          (
            front 36 4 (omega arith) ∙ old 36 4 (omega arith) ∙ header.state.1.1.0,
            (
              front 44 4 (omega arith) ∙ old 44 4 (omega arith) ∙ header.state.1.1.1.0,
              (front 52 4 (omega arith) ∙ old 52 4 (omega arith) ∙ header.state.1.1.1.1.0, (front 56 4 (omega arith) ∙ old 56 4 (omega arith) ∙ header.state.1.1.1.1.1.0, tt)),
            ),
          ),
        ),
      );
      valid = front 92 4 (omega arith) ∙ sym (front 24 4 (omega arith));
    }

-- a small file whose table gets other cells
file-again : (schema target : List ℕ) (before cells : List (List ℕ)) → IsSmallFile target schema before → 8 + 2 * length cells + content cells ≤ 4096 → All IsLeafCell cells
    → IsSmallFile (new_first_page (take 4096 target) ++ packed_leaf 4096 cells) schema cells
file-again schema target before cells f room leaf =
    let page = take 4096 target in
    let first = new_first_page page in
    let second = packed_leaf 4096 cells in
    let both = first ++ second in
    let cut_at : length page ≡ 4096 = length-take-le 4096 target (omega (arith, f.long)) in
    let at : length first ≡ 4096 = length-new_first_page page (omega arith) ∙ cut_at in
    let all : length both ≡ 8192 = omega (arith, length-append first second, at, length-packed_leaf 4096 cells room) in
    let behind : drop 4096 both ≡ second = drop_at first second 4096 at in
    let now_first : page_at 4096 1 both ≡ first = page-first 4096 both all ∙ take_at first second 4096 at in
    let now_second : page_at 4096 2 both ≡ second = resized-same (drop 4096 both) 4096 (omega (arith, length-drop 4096 both, all)) ∙ behind in
    let schema_page : IsPage page 1 4096 TableLeaf (f.schema_cell ∷ []) 0 =
    subst (λ (x : List ℕ). IsPage x 1 4096 TableLeaf (f.schema_cell ∷ []) 0) (page-first 4096 target f.long) f.schema_page in
    record {
      long = all;
      header = header-again 4096 target second (omega arith) (omega (arith, f.long)) f.header;
      schema_cell = f.schema_cell;
      schema_page = subst (λ (x : List ℕ). IsPage x 1 4096 TableLeaf (f.schema_cell ∷ []) 0) (sym now_first) (page-same page first (f.schema_cell ∷ []) (new_first_page-back page (omega arith)) schema_page);
      schema_row = f.schema_row;
      table_page = subst (λ (x : List ℕ). IsPage x 2 4096 TableLeaf cells 0) (sym now_second) (packed_leaf-page 4096 cells (omega arith) room (λ k l. leaf k [] l));
    }

-- ---- the whole

pub small_target-again : (target rbu : List ℕ) (old rows : List TargetRow) (prepared : List PreparedRow) → IsSmallTarget target old → IsSmallRbu rbu prepared
    → IsMerged old prepared rows → page_room rows ≤ 4096 → IsSmallTarget (new_pages target rows) rows
small_target-again target rbu old rows prepared small made merged room =
    let cells = map (λ (row : TargetRow). row.cell) rows in
    let each = rows-again old rows prepared (target_rows-each small.cells old small.each) (prepared_rows-each made.cells prepared made.each) merged in
    let count = length-map rows (λ (row : TargetRow). row.cell) in
    let leaf : All IsLeafCell cells = All-map IsLeafCell (λ (row : TargetRow). row.cell) rows (λ k d l. row-leaf_cell (get_or rows k d) (each k d l)) in
    let file = file-again (schema_record target_table.name target_table.text) target small.cells cells small.file (omega (arith, page_room-is rows, count)) leaf in
    let same : new_first_page (take 4096 target) ++ packed_leaf 4096 cells ≡ new_pages target rows =
    ap (λ (page : List ℕ). new_first_page page ++ packed_leaf 4096 cells) (sym (page-first 4096 target small.file.long)) in
    record {
      cells = cells;
      file = subst (λ (bytes : List ℕ). IsSmallFile bytes (schema_record target_table.name target_table.text) cells) same file;
      each = rows-all_zip rows each;
      rising = merged.rising;
    }
