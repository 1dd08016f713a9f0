-- Cells in parts, and the cells that go up.
use Rattle.std.proofs.Common.{◌≡◌, ℕ, ℤ, zero, suc, ◌+◌, ◌-◌, ◌^◌, ◌<◌, ◌≤◌, List, [], ◌∷◌, ◌++◌, Result, Ok, Err, IfOk, length, map, take, drop, slice_index_or, refl, sym, ap, ◌∙◌, subst, length-append, arith}
use Rattle.std.proofs.Math.Path.{subst⁻¹}
use Rattle.std.proofs.Math.Seq.{take-append_seam, drop-append_seam, drop-append-add}
use Rattle.std.proofs.lemmas.List.{take-map, drop-map, take-append-drop, append-nil, length-take-le, take_all}
use Rattle.std.proofs.lemmas.Int.{ints}
use Rattle.std.specs.Int.{w64, cast_signed, cast_unsigned}
use Rattle.std.specs.Int.RustNames.{FitsSigned}
use Rattle.std.specs.List.{AllByRecursion}
use Rattle.byteorder.specs.Endian.{big_bytes, big_number}
use Rattle.byteorder.specs.Numbers.{length-bytes_high_first, big_number-reads_back}
use Rattle.byte_fields.specs.Bytes.{part_of}
use Rattle.byte_fields.specs.Numbers.{number_at}
use Rattle.byte_fields.specs.NumbersLaws.{number_at-append}
use Rattle.format_spec.specs.declared.PageKind.{PageKind}
use Rattle.format_spec.specs.declared.PageKind.TheVariants.{IndexInterior, TableInterior, IndexLeaf, TableLeaf}
use Rattle.format_spec.specs.declared.CellView.{CellView}
use Rattle.format_spec.specs.Cell.{IsCell, IsTableLeafCell, IsTableInteriorCell, IsIndexCell, cell_bytes, child_size, local_size}
use Rattle.format_spec.specs.Varint.{varint}
use Rattle.cell_codec.specs.VarintLaws.{spelling-number_fits, varint-one_to_nine}
use Rattle.cell_codec.specs.Cells.{BeginsWithCell, interior_cell}
use Rattle.cell_codec.specs.CellLaws.{cell-same, cell-written, interior_cell-writable, table_interior_cell_bytes_size}
use Rattle.page_spec.specs.Rooms.{IsOneCell}
use Rattle.page_layout.specs.ViewsLaws.{view-size}
use Rattle.tree_spec.specs.declared.TreeKind.{TreeKind}
use Rattle.tree_spec.specs.declared.TreeKind.TheVariants.{Table, Index}
use Rattle.tree_spec.specs.Trees.{interior_kind, kind_at}
use Rattle.tree_spec.specs.WorldsLaws.{all-front, all-back}
use Rattle.tree_balance.specs.Cuts.{risen}
use Rattle.put_spec.specs.Steps.{Spelled, bytes_in, AreParts}
use Rattle.tree_level.specs.Levels.{AreSpelled, IsEndDivider, IsDivider, left_child}

-- the item at a place of a list, and what stands before and behind it
pub record IsMiddle {A : Type 0} (xs : List A) (n : ℕ) : Type 0 where
  pub item : A
  pub whole : xs ≡ take n xs ++ item ∷ drop (suc n) xs
  pub here : (d : A) → slice_index_or xs n d ≡ item

pub middle : {A : Type 0} (xs : List A) (n : ℕ) → n < length xs → IsMiddle xs n
middle [] n low = absurd (omega arith)
middle (x ∷ xs) zero low = record { item = x; whole = refl; here = λ d. refl }
middle (x ∷ xs) (suc n) low =
    let m = middle xs n (omega arith) in
    record { item = m.item; whole = ap (λ l. x ∷ l) m.whole; here = m.here }

-- a front of a list ends with the item before it
front-ends : {A : Type 0} (xs : List A) (n : ℕ) (m : IsMiddle xs n) → n < length xs → take (suc n) xs ≡ take n xs ++ m.item ∷ []
front-ends xs n m low =
    let size : length (take n xs) ≡ n = length-take-le n xs (omega arith) in
    let by = ap (take (suc n)) m.whole in
    by ∙ front-of (take n xs) m.item (drop (suc n) xs) n size
  where
    front-of : {A : Type 0} (ys : List A) (x : A) (zs : List A) (n : ℕ) → length ys ≡ n → take (suc n) (ys ++ x ∷ zs) ≡ ys ++ x ∷ []
    front-of [] x zs zero size = refl
    front-of [] x zs (suc n) size = absurd (omega arith)
    front-of (y ∷ ys) x zs zero size = absurd (omega arith)
    front-of (y ∷ ys) x zs (suc n) size = ap (λ l. y ∷ l) (front-of ys x zs n (omega arith))

pub at-map : {A B : Type 0} (f : A → B) (xs : List A) (n : ℕ) (m : IsMiddle xs n) (d : B) → n < length xs → slice_index_or (map f xs) n d ≡ f m.item
at-map f [] n m d low = absurd (omega arith)
at-map f (x ∷ xs) zero m d low = ap f (m.here x)
at-map f (x ∷ xs) (suc n) m d low =
    let inner = middle xs n (omega arith) in
    at-map f xs n inner d (omega arith) ∙ ap f (sym (inner.here x) ∙ m.here x)

pub all-middle : {A : Type 0} (P : A → Type 0) (xs : List A) (n : ℕ) (m : IsMiddle xs n) → AllByRecursion P xs → P m.item
all-middle P xs n m all = (all-back P (take n xs) (m.item ∷ drop (suc n) xs) (subst (AllByRecursion P) m.whole all)).0

pub all-drop : {A : Type 0} (P : A → Type 0) (xs : List A) (n : ℕ) → AllByRecursion P xs → AllByRecursion P (drop n xs)
all-drop P xs n all = all-back P (take n xs) (drop n xs) (subst⁻¹ (AllByRecursion P) (take-append-drop n xs) all)

pub all-take : {A : Type 0} (P : A → Type 0) (xs : List A) (n : ℕ) → AllByRecursion P xs → AllByRecursion P (take n xs)
all-take P xs n all = all-front P (take n xs) (drop n xs) (subst⁻¹ (AllByRecursion P) (take-append-drop n xs) all)

spelled-many : (cells : List Spelled) → length (bytes_in cells) ≡ length cells
spelled-many [] = refl
spelled-many (cell ∷ cells) = omega (arith, spelled-many cells)

-- cells that are left are spelled as they were
pub spelled-drop : (kind : PageKind) (usable n : ℕ) (cells : List Spelled) (bytes : List (List ℕ)) → AreSpelled kind usable cells bytes → AreSpelled kind usable (drop n cells) (drop n bytes)
spelled-drop kind usable n cells bytes are = record {
  bytes_are = sym (drop-map (λ (cell : Spelled). cell.bytes) n cells) ∙ ap (drop n) are.bytes_are;
  are_cells = all-drop (λ (cell : Spelled). IsCell kind usable cell.bytes cell.view) cells n are.are_cells;
}

next-one : (n : ℕ) → suc n ≡ n + 1
next-one n = omega arith

none-more : (n : ℕ) → n ≡ n + 0
none-more n = omega arith

-- Cells that go up.

number-read : (n x : ℕ) → x < 256 ^ n → x ≡ big_number n (big_bytes n x)
number-read n x fits =
    let back : big_number n (big_bytes n x ++ []) ≡ x = big_number-reads_back n x [] fits in
    sym (ap (big_number n) (sym (append-nil (big_bytes n x))) ∙ back)

behind-front : (front rest : List ℕ) (n : ℕ) → length front ≡ n → drop n (front ++ rest) ≡ rest
behind-front front rest n size = ap (λ (m : ℕ). drop m (front ++ rest)) (sym size) ∙ drop-append_seam front rest

local-part : (a b c d : List ℕ) (at n : ℕ) → at ≡ length a + length b → n ≡ length c → part_of (a ++ (b ++ (c ++ d))) at n ≡ c
local-part a b c d at n at_is n_is =
    ap (λ (m : ℕ). take m (drop at (a ++ (b ++ (c ++ d))))) n_is
    ∙ ap (λ (m : ℕ). take (length c) (drop m (a ++ (b ++ (c ++ d))))) at_is
    ∙ ap (take (length c)) (drop-append-add a (b ++ (c ++ d)) (length b) ∙ drop-append_seam b (c ++ d))
    ∙ take-append_seam c d

none-local : (a b : List ℕ) (at n : ℕ) → n ≡ 0 → part_of a at n ≡ part_of b at n
none-local a b at n none = ap (λ (m : ℕ). take m (drop at a)) none ∙ sym (ap (λ (m : ℕ). take m (drop at b)) none)

-- the child that a cell names
front-number : (bytes front rest : List ℕ) → bytes ≡ front ++ rest → length front ≡ 4 → number_at 0 4 bytes ≡ big_number 4 front
front-number bytes front rest whole size = ap (number_at 0 4) whole ∙ number_at-append 0 4 front rest (omega arith)

table-child : (bytes : List ℕ) (view : CellView) → IsTableInteriorCell bytes view → number_at 0 4 bytes ≡ view.child
table-child bytes view is = front-number bytes is.child_bytes is.rowid_bytes is.whole is.child_length ∙ sym is.child

index-child : (usable : ℕ) (bytes : List ℕ) (view : CellView) → IsIndexCell IndexInterior usable bytes view → number_at 0 4 bytes ≡ view.child
index-child usable bytes view is =
    front-number bytes is.child_bytes (is.payload_bytes ++ (is.local_bytes ++ is.overflow_bytes)) is.whole is.child_length
    ∙ sym (is.child ∙ ap (λ (n : ℕ). big_number n is.child_bytes) is.child_length)

-- the view of a cell that goes up, with another child
abbrev pub raised_view : CellView → ℕ → ℕ → CellView
raised_view view child more = record view { size = view.size + more; child = child; local_at = view.local_at + more }

raised-table : (usable : ℕ) (bytes : List ℕ) (view : CellView) (child : ℕ) → child < 256 ^ 4 → IsTableInteriorCell bytes view
    → IsTableInteriorCell (big_bytes 4 child ++ drop 4 bytes) (record view { child = child })
raised-table usable bytes view child fits is =
    let rest : drop 4 bytes ≡ is.rowid_bytes = ap (drop 4) is.whole ∙ behind-front is.child_bytes is.rowid_bytes 4 is.child_length in
    record {
      child_bytes = big_bytes 4 child;
      rowid_bytes = is.rowid_bytes;
      rowid_number = is.rowid_number;
      whole = ap (λ (l : List ℕ). big_bytes 4 child ++ l) rest;
      child_length = length-bytes_high_first 4 child;
      child = number-read 4 child fits;
      rowid_varint = is.rowid_varint;
      rowid = is.rowid;
      payload = is.payload;
      local_at = is.local_at;
      local = is.local;
      overflow = is.overflow;
      size = omega (
        arith,
        is.size,
        ap length is.whole,
        length-append is.child_bytes is.rowid_bytes,
        is.child_length,
        length-append (big_bytes 4 child) (drop 4 bytes),
        length-bytes_high_first 4 child,
        ap length rest,
      );
    }

module _ (kind : PageKind) (usable more : ℕ) (bytes : List ℕ) (view : CellView) (child : ℕ) (fits : child < 256 ^ 4) (bigger : child_size kind + more ≡ 4) (is : IsIndexCell kind usable bytes view) where
  index-rest : drop (child_size kind) bytes ≡ is.payload_bytes ++ (is.local_bytes ++ is.overflow_bytes)
  index-rest = ap (drop (child_size kind)) is.whole ∙ behind-front is.child_bytes (is.payload_bytes ++ (is.local_bytes ++ is.overflow_bytes)) (child_size kind) is.child_length

  raised-index : local_size kind usable view.payload ≡ local_size IndexInterior usable view.payload → IsIndexCell IndexInterior usable (big_bytes 4 child ++ drop (child_size kind) bytes) (raised_view view child more)
  raised-index same =
      let rest = is.payload_bytes ++ (is.local_bytes ++ is.overflow_bytes) in
      let size : length (big_bytes 4 child) ≡ 4 = length-bytes_high_first 4 child in
      record {
        child_bytes = big_bytes 4 child;
        payload_bytes = is.payload_bytes;
        local_bytes = is.local_bytes;
        overflow_bytes = is.overflow_bytes;
        whole = ap (λ (l : List ℕ). big_bytes 4 child ++ l) index-rest;
        child_length = size;
        child = number-read 4 child fits ∙ ap (λ (n : ℕ). big_number n (big_bytes 4 child)) (sym size);
        payload = is.payload;
        limit = is.limit;
        local_at = omega (arith, is.local_at, is.child_length, size, bigger);
        local = is.local ∙ same;
        local_length = is.local_length;
        overflow_length = is.overflow_length;
        overflow = is.overflow;
        rowid = is.rowid;
        size = omega (
          arith,
          is.size,
          ap length is.whole,
          length-append is.child_bytes rest,
          is.child_length,
          length-append (big_bytes 4 child) (drop (child_size kind) bytes),
          size,
          ap length index-rest,
          bigger,
        );
      }

  raised-local : part_of (big_bytes 4 child ++ drop (child_size kind) bytes) (view.local_at + more) view.local ≡ part_of bytes view.local_at view.local
  raised-local =
      let size : length (big_bytes 4 child) ≡ 4 = length-bytes_high_first 4 child in
      ap (λ (l : List ℕ). part_of (big_bytes 4 child ++ l) (view.local_at + more) view.local) index-rest
      ∙ local-part (big_bytes 4 child) is.payload_bytes is.local_bytes is.overflow_bytes (view.local_at + more) view.local (omega (arith, is.local_at, is.child_length, size, bigger)) (sym is.local_length)
      ∙ sym
      (
      ap (λ (l : List ℕ). part_of l view.local_at view.local) is.whole
      ∙ local-part is.child_bytes is.payload_bytes is.local_bytes is.overflow_bytes view.local_at view.local is.local_at (sym is.local_length)
      )

-- the cell behind a leaf of a table
end-cell : (usable child : ℕ) (rowid : ℤ) → child < 2 ^ 32 → FitsSigned w64 rowid → IsCell TableInterior usable (cell_bytes TableInterior (interior_cell child rowid) []) (interior_cell child rowid)
end-cell usable child rowid fits long = cell-written TableInterior usable (interior_cell child rowid) [] (interior_cell-writable usable child rowid fits long)

pub rowid-fits : (usable : ℕ) (bytes : List ℕ) (view : CellView) → IsTableLeafCell usable bytes view → FitsSigned w64 view.rowid
rowid-fits usable bytes view is =
    let fits = spelling-number_fits is.rowid_bytes is.rowid_number is.rowid_varint in
    subst⁻¹ (FitsSigned w64) is.rowid (signed is.rowid_number fits)
  where
    signed : (n : ℕ) → n < 2 ^ 64 → FitsSigned w64 (cast_signed w64 n)
    signed n fits = omega (arith, ints)

-- A front of cells that is cut off, the cell that goes up, and the cells that are left.
pub record IsFrontCut (levels : ℕ) (kind : TreeKind) (usable : ℕ) (cells : List Spelled) (bytes : List (List ℕ)) (front child : ℕ) (divider : List ℕ) : Type 0 where
  pub up : Spelled
  pub head : List Spelled
  pub back : List Spelled
  pub up_is : up.bytes ≡ divider
  pub child_is : up.view.child ≡ child
  pub is_cell : IsCell (interior_kind kind) usable up.bytes up.view
  pub head_are : bytes_in head ≡ take front bytes
  pub back_are : AreSpelled (kind_at kind levels) usable back (drop (front + risen (kind_at kind levels)) bytes)
  pub parts : AreParts levels kind cells up head (left_child (kind_at kind levels) (slice_index_or bytes front [])) back

module _ (usable : ℕ) (cells : List Spelled) (bytes : List (List ℕ)) (front child : ℕ) (fits : child < 2 ^ 32) where
  head-bytes : (kind : PageKind) → AreSpelled kind usable cells bytes → bytes_in (take front cells) ≡ take front bytes
  head-bytes kind are = sym (take-map (λ (cell : Spelled). cell.bytes) front cells) ∙ ap (take front) are.bytes_are

  count-same : (kind : PageKind) → AreSpelled kind usable cells bytes → length cells ≡ length bytes
  count-same kind are = sym (spelled-many cells) ∙ ap length are.bytes_are

  middle-bytes : (kind : PageKind) (n : ℕ) → AreSpelled kind usable cells bytes → (m : IsMiddle cells n) → n < length cells → slice_index_or bytes n [] ≡ m.item.bytes
  middle-bytes kind n are m low = sym (ap (λ (l : List (List ℕ)). slice_index_or l n []) are.bytes_are) ∙ at-map (λ (cell : Spelled). cell.bytes) cells n m [] low

  cut-table : (divider : List ℕ) → AreSpelled TableLeaf usable cells bytes → 1 ≤ front → front < length bytes → IsEndDivider usable (slice_index_or bytes (front - 1) []) child divider
      → IsFrontCut zero Table usable cells bytes front child divider
  cut-table divider are some within (view, read, is) =
      let n = front - 1 in
      let low : n < length cells = omega (arith, count-same TableLeaf are) in
      let m = middle cells n low in
      let end = all-middle (λ (cell : Spelled). IsCell TableLeaf usable cell.bytes cell.view) cells n m are.are_cells in
      let same : view ≡ m.item.view = (cell-same TableLeaf usable _ _ [] [] view m.item.view read end (ap (λ (l : List ℕ). l ++ []) (middle-bytes TableLeaf n are m low))).1 in
      let one_more : suc n ≡ front = omega arith in
      record {
        up = record { bytes = divider; view = interior_cell child view.rowid };
        head = take front cells;
        back = drop front cells;
        up_is = refl;
        child_is = refl;
        is_cell = subst⁻¹ (λ (l : List ℕ). IsCell TableInterior usable l (interior_cell child view.rowid)) is (end-cell usable child view.rowid fits (rowid-fits usable _ view read));
        head_are = head-bytes TableLeaf are;
        back_are = subst (λ (k : ℕ). AreSpelled TableLeaf usable (drop front cells) (drop k bytes)) (none-more front) (spelled-drop TableLeaf usable front cells bytes are);
        parts = record {
          start = take n cells;
          end = m.item;
          whole = sym (take-append-drop front cells);
          ends = sym (ap (λ (k : ℕ). take k cells) one_more) ∙ front-ends cells n m low;
          rowid = ap (λ (v : CellView). v.rowid) same;
          no_right = refl;
        };
      }

  cut-index : (divider : List ℕ) → AreSpelled IndexLeaf usable cells bytes → front + 1 < length bytes → divider ≡ big_bytes 4 child ++ slice_index_or bytes front []
      → IsFrontCut zero Index usable cells bytes front child divider
  cut-index divider are within is =
      let low : front < length cells = omega (arith, count-same IndexLeaf are) in
      let m = middle cells front low in
      let cell = all-middle (λ (cell : Spelled). IsCell IndexLeaf usable cell.bytes cell.view) cells front m are.are_cells in
      let of : divider ≡ big_bytes 4 child ++ m.item.bytes = is ∙ ap (λ (l : List ℕ). big_bytes 4 child ++ l) (middle-bytes IndexLeaf front are m low) in
      let view = raised_view m.item.view child 4 in
      record {
        up = record { bytes = divider; view = view };
        head = take front cells;
        back = drop (suc front) cells;
        up_is = refl;
        child_is = refl;
        is_cell = subst⁻¹ (λ (l : List ℕ). IsCell IndexInterior usable l view) of (raised-index IndexLeaf usable 4 m.item.bytes m.item.view child fits refl cell refl);
        head_are = head-bytes IndexLeaf are;
        back_are = subst (λ (k : ℕ). AreSpelled IndexLeaf usable (drop (suc front) cells) (drop k bytes)) (next-one front) (spelled-drop IndexLeaf usable (suc front) cells bytes are);
        parts = record {
          middle = m.item;
          whole = m.whole;
          raised = record {
            rowid = refl;
            payload = refl;
            local = refl;
            overflow = refl;
            same_bytes = ap (λ (l : List ℕ). part_of l view.local_at view.local) of ∙ raised-local IndexLeaf usable 4 m.item.bytes m.item.view child fits refl cell;
          };
          no_right = refl;
        };
      }

  cut-interior : (levels : ℕ) (kind : TreeKind) (divider : List ℕ) → AreSpelled (interior_kind kind) usable cells bytes → front + 1 < length bytes
      → divider ≡ big_bytes 4 child ++ drop 4 (slice_index_or bytes front []) → IsFrontCut (suc levels) kind usable cells bytes front child divider
  cut-interior levels Table divider are within is =
      let low : front < length cells = omega (arith, count-same TableInterior are) in
      let m = middle cells front low in
      let cell = all-middle (λ (cell : Spelled). IsCell TableInterior usable cell.bytes cell.view) cells front m are.are_cells in
      let here = middle-bytes TableInterior front are m low in
      let of : divider ≡ big_bytes 4 child ++ drop 4 m.item.bytes = is ∙ ap (λ (l : List ℕ). big_bytes 4 child ++ drop 4 l) here in
      let view : CellView = record m.item.view { child = child } in
      record {
        up = record { bytes = divider; view = view };
        head = take front cells;
        back = drop (suc front) cells;
        up_is = refl;
        child_is = refl;
        is_cell = subst⁻¹ (λ (l : List ℕ). IsCell TableInterior usable l view) of (raised-table usable m.item.bytes m.item.view child fits cell);
        head_are = head-bytes TableInterior are;
        back_are = subst (λ (k : ℕ). AreSpelled TableInterior usable (drop (suc front) cells) (drop k bytes)) (next-one front) (spelled-drop TableInterior usable (suc front) cells bytes are);
        parts = record {
          middle = m.item;
          whole = m.whole;
          raised = record {
            rowid = refl;
            payload = refl;
            local = refl;
            overflow = refl;
            same_bytes = none-local divider m.item.bytes m.item.view.local_at m.item.view.local cell.local;
          };
          right_is = ap (number_at 0 4) here ∙ table-child m.item.bytes m.item.view cell;
        };
      }
  cut-interior levels Index divider are within is =
      let low : front < length cells = omega (arith, count-same IndexInterior are) in
      let m = middle cells front low in
      let cell = all-middle (λ (cell : Spelled). IsCell IndexInterior usable cell.bytes cell.view) cells front m are.are_cells in
      let here = middle-bytes IndexInterior front are m low in
      let of : divider ≡ big_bytes 4 child ++ drop 4 m.item.bytes = is ∙ ap (λ (l : List ℕ). big_bytes 4 child ++ drop 4 l) here in
      let view = raised_view m.item.view child 0 in
      record {
        up = record { bytes = divider; view = view };
        head = take front cells;
        back = drop (suc front) cells;
        up_is = refl;
        child_is = refl;
        is_cell = subst⁻¹ (λ (l : List ℕ). IsCell IndexInterior usable l view) of (raised-index IndexInterior usable 0 m.item.bytes m.item.view child fits refl cell refl);
        head_are = head-bytes IndexInterior are;
        back_are = subst (λ (k : ℕ). AreSpelled IndexInterior usable (drop (suc front) cells) (drop k bytes)) (next-one front) (spelled-drop IndexInterior usable (suc front) cells bytes are);
        parts = record {
          middle = m.item;
          whole = m.whole;
          raised = record {
            rowid = refl;
            payload = refl;
            local = refl;
            overflow = refl;
            same_bytes = ap (λ (l : List ℕ). part_of l view.local_at view.local) of ∙ raised-local IndexInterior usable 0 m.item.bytes m.item.view child fits refl cell;
          };
          right_is = ap (number_at 0 4) here ∙ index-child usable m.item.bytes m.item.view cell;
        };
      }

-- the same at each kind of page
pub front-cut : (levels : ℕ) (kind : TreeKind) (usable : ℕ) (cells : List Spelled) (bytes : List (List ℕ)) (front child : ℕ) (divider : List ℕ) → child < 2 ^ 32
    → AreSpelled (kind_at kind levels) usable cells bytes → 1 ≤ front → front + risen (kind_at kind levels) < length bytes → IsDivider (kind_at kind levels) usable bytes front child divider
    → IsFrontCut levels kind usable cells bytes front child divider
front-cut zero Table usable cells bytes front child divider fits are some within is = cut-table usable cells bytes front child fits divider are some (omega arith) is
front-cut zero Index usable cells bytes front child divider fits are some within is = cut-index usable cells bytes front child fits divider are within is
front-cut (suc levels) Table usable cells bytes front child divider fits are some within is = cut-interior usable cells bytes front child fits levels Table divider are within is
front-cut (suc levels) Index usable cells bytes front child divider fits are some within is = cut-interior usable cells bytes front child fits levels Index divider are within is

-- a cell of an interior page begins with its child
pub child-inside : (kind : PageKind) (usable : ℕ) (cell : List ℕ) → IsOneCell kind usable cell → child_size kind ≤ length cell
child-inside TableLeaf usable cell (view, is) = omega arith
child-inside TableInterior usable cell (view, is) = omega (arith, ap length is.whole, length-append is.child_bytes is.rowid_bytes, is.child_length)
child-inside IndexLeaf usable cell (view, is) = omega arith
child-inside IndexInterior usable cell (view, is) =
    omega (arith, ap length is.whole, length-append is.child_bytes (is.payload_bytes ++ (is.local_bytes ++ is.overflow_bytes)), is.child_length)

-- a cell that is all of the bytes is the one that they begin with
pub cell-begins : (kind : PageKind) (usable : ℕ) (cell : List ℕ) (view : CellView) → IsCell kind usable cell view → BeginsWithCell kind usable cell view
cell-begins kind usable cell view is =
    let size = view-size kind usable cell view is in
    (omega (arith, size), subst⁻¹ (λ (n : ℕ). IsCell kind usable (take n cell) view) size (subst⁻¹ (λ (l : List ℕ). IsCell kind usable l view) (take_all (length cell) cell (omega arith)) is))

-- the spelling of a child and a rowid has at most 13 bytes, and does not tell more of a view
pub key-cell : (view : CellView) (child : ℕ) (rowid : ℤ) → view.child ≡ child → view.rowid ≡ rowid → cell_bytes TableInterior view [] ≡ cell_bytes TableInterior (interior_cell child rowid) []
unfolding cell_bytes
key-cell view child rowid child_is rowid_is = λ i. big_bytes 4 (child_is i) ++ varint (cast_unsigned w64 (rowid_is i))

pub key-cell_size : (view : CellView) (rowid : ℤ) → view.rowid ≡ rowid → FitsSigned w64 rowid → length (cell_bytes TableInterior view []) ≤ 13
key-cell_size view rowid is fits =
    let number = cast_unsigned w64 view.rowid in
    let small : number < 2 ^ 64 = subst⁻¹ (λ (r : ℤ). cast_unsigned w64 r < 2 ^ 64) is (unsigned rowid fits) in
    omega (arith, table_interior_cell_bytes_size view [], (varint-one_to_nine number small).1)
  where
    unsigned : (rowid : ℤ) → FitsSigned w64 rowid → cast_unsigned w64 rowid < 2 ^ 64
    unsigned rowid fits = omega (arith, ints)

-- the front of what was written
pub written-front : (into old bytes : List ℕ) (size : ℕ) → size ≡ length bytes → into ≡ bytes ++ drop size old → take size into ≡ bytes
written-front into old bytes size size_is is =
    ap (λ (n : ℕ). take n into) size_is ∙ ap (take (length bytes)) is ∙ take-append_seam bytes (drop size old)

pub if-ok_map : {T E : Type 0} {P Q : T → Type 0} (result : Result T E) → ((x : T) → P x → Q x) → IfOk result P → IfOk result Q
if-ok_map (Ok x) more holds = more x holds
if-ok_map (Err e) more holds = tt
