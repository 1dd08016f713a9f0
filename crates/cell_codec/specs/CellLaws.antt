-- What follows from the definition of cells alone: crates above cite these facts in their proofs.
use Rattle.std.proofs.Common.{◌≡◌, ℕ, ℤ, pos, ◌+◌, ◌-◌, ◌^◌, ◌<◌, ◌≤◌, cond, ltb, leb, List, [], ◌++◌, length, take, drop, refl, sym, ◌∙◌, ap, subst, append_assoc, length-append, arith, rules}
use Rattle.std.proofs.lemmas.List.{append_cancel_left, append-nil, take_all, drop_at, take-append-drop}
use Rattle.std.proofs.lemmas.Int.{ints, to_z-of_z}
use Rattle.std.proofs.lemmas.Bool.{cond_both, cond-true, ltb-false, le-leb, le-ltb}
use Rattle.std.proofs.lemmas.Bool.Decides.{nat_tests}
use Rattle.std.specs.Int.{w64, cast_signed, cast_unsigned}
use Rattle.std.specs.Int.RustNames.{FitsSigned}
use Rattle.byteorder.specs.Endian.{big_bytes, big_number}
use Rattle.byteorder.specs.Numbers.{length-bytes_high_first, big_number-reads_back}
use Rattle.format_spec.specs.declared.PageKind.{PageKind}
use Rattle.format_spec.specs.declared.PageKind.TheVariants.{IndexInterior, TableInterior, IndexLeaf, TableLeaf}
use Rattle.format_spec.specs.declared.CellView.{CellView}
use Rattle.format_spec.specs.Varint.{varint}
use Rattle.byte_fields.specs.BytesLaws.{append-same}
use Rattle.format_spec.specs.Cell.{IsCell, IsTableLeafCell, IsTableInteriorCell, IsIndexCell, payload_limit, max_local, min_local, fitted_local, local_size, child_size, overflow_size, cell_bytes, index_cell_bytes, table_leaf_cell}
use Rattle.cell_codec.specs.VarintLaws.{spelling-one_to_nine, varint-same, varint_spells}
use Rattle.cell_codec.specs.Cells.{BeginsWithCell, IsWritable, whole_cell, interior_cell, whole_index_cell}

regroup : (a b c d x : List ℕ) → (a ++ (b ++ (c ++ d))) ++ x ≡ a ++ (b ++ (c ++ (d ++ x)))
regroup a b c d x = simp append_assoc

view-one : (c d : CellView) → c.size ≡ d.size → c.rowid ≡ d.rowid → c.child ≡ d.child → c.payload ≡ d.payload → c.local_at ≡ d.local_at → c.local ≡ d.local → c.overflow ≡ d.overflow → c ≡ d
view-one c d p q r s t u v = λ i. record {
  size = p i;
  rowid = q i;
  child = r i;
  payload = s i;
  local_at = t i;
  local = u i;
  overflow = v i;
}

same_table_leaf_cell : {usable : ℕ} {a b : List ℕ} {c d : CellView} (x y : List ℕ) → IsTableLeafCell usable a c → IsTableLeafCell usable b d → a ++ x ≡ b ++ y → (a ≡ b) × (c ≡ d)
same_table_leaf_cell {usable} {a} {b} {c} {d} x y v w e =
    let left = ap (λ s. s ++ x) v.whole ∙ regroup v.payload_bytes v.rowid_bytes v.local_bytes v.overflow_bytes x in
    let right = ap (λ s. s ++ y) w.whole ∙ regroup w.payload_bytes w.rowid_bytes w.local_bytes w.overflow_bytes y in
    let all = sym left ∙ e ∙ right in
    let payloads = varint-same _ _ v.payload w.payload all in
    let p : v.payload_bytes ≡ w.payload_bytes = payloads.0 in
    let payload : c.payload ≡ d.payload = payloads.1 in
    let behind = append_cancel_left _ _ _ (ap (λ s. s ++ (v.rowid_bytes ++ (v.local_bytes ++ (v.overflow_bytes ++ x)))) (sym p) ∙ all) in
    let rowids = varint-same _ _ v.rowid_varint w.rowid_varint behind in
    let q : v.rowid_bytes ≡ w.rowid_bytes = rowids.0 in
    let rowid : v.rowid_number ≡ w.rowid_number = rowids.1 in
    let rest = append_cancel_left _ _ _ (ap (λ s. s ++ (v.local_bytes ++ (v.overflow_bytes ++ x))) (sym q) ∙ behind) in
    let local : c.local ≡ d.local = v.local ∙ ap (local_size TableLeaf usable) payload ∙ sym w.local in
    let locals = append-same v.local_bytes w.local_bytes _ _ (v.local_length ∙ local ∙ sym w.local_length) rest in
    let over : length v.overflow_bytes ≡ length w.overflow_bytes = v.overflow_length ∙ ap (λ n. overflow_size n c.payload) local ∙ ap (overflow_size d.local) payload ∙ sym w.overflow_length in
    let overflows = append-same v.overflow_bytes w.overflow_bytes x y over locals.1 in
    let r : v.local_bytes ≡ w.local_bytes = locals.0 in
    let s : v.overflow_bytes ≡ w.overflow_bytes = overflows.0 in
    let bytes : a ≡ b =
    v.whole ∙ ap (λ z. z ++ (v.rowid_bytes ++ (v.local_bytes ++ v.overflow_bytes))) p ∙ ap (λ z. w.payload_bytes ++ (z ++ (v.local_bytes ++ v.overflow_bytes))) q
    ∙ ap (λ z. w.payload_bytes ++ (w.rowid_bytes ++ (z ++ v.overflow_bytes))) r ∙ ap (λ z. w.payload_bytes ++ (w.rowid_bytes ++ (w.local_bytes ++ z))) s ∙ sym w.whole in (
      bytes,
      view-one c d
          (v.size ∙ ap length bytes ∙ sym w.size)
          (v.rowid ∙ ap (cast_signed w64) rowid ∙ sym w.rowid)
          (v.child ∙ sym w.child)
          payload
          (v.local_at ∙ ap (λ z. length z + length v.rowid_bytes) p ∙ ap (λ z. length w.payload_bytes + length z) q ∙ sym w.local_at)
          local
          (v.overflow ∙ ap (λ z. big_number (length z) z) s ∙ sym w.overflow),
    )

-- the cells of a table interior page
pub table_interior_cell-same : {a b : List ℕ} {c d : CellView} (x y : List ℕ) → IsTableInteriorCell a c → IsTableInteriorCell b d → a ++ x ≡ b ++ y → (a ≡ b) × (c ≡ d)
table_interior_cell-same {a} {b} {c} {d} x y v w e =
    let left = ap (λ s. s ++ x) v.whole ∙ append_assoc v.child_bytes v.rowid_bytes x in
    let right = ap (λ s. s ++ y) w.whole ∙ append_assoc w.child_bytes w.rowid_bytes y in
    let children = append-same v.child_bytes w.child_bytes (v.rowid_bytes ++ x) (w.rowid_bytes ++ y) (v.child_length ∙ sym w.child_length) (sym left ∙ e ∙ right) in
    let p : v.child_bytes ≡ w.child_bytes = children.0 in
    let rowids = varint-same x y v.rowid_varint w.rowid_varint children.1 in
    let q : v.rowid_bytes ≡ w.rowid_bytes = rowids.0 in
    let bytes : a ≡ b = v.whole ∙ ap (λ z. z ++ v.rowid_bytes) p ∙ ap (λ z. w.child_bytes ++ z) q ∙ sym w.whole in (
      bytes,
      view-one c d
          (v.size ∙ ap length bytes ∙ sym w.size)
          (v.rowid ∙ ap (cast_signed w64) rowids.1 ∙ sym w.rowid)
          (v.child ∙ ap (big_number 4) p ∙ sym w.child)
          (v.payload ∙ sym w.payload)
          (v.local_at ∙ sym w.local_at)
          (v.local ∙ sym w.local)
          (v.overflow ∙ sym w.overflow),
    )

-- and of an index page
pub index_cell-same : {kind : PageKind} {usable : ℕ} {a b : List ℕ} {c d : CellView} (x y : List ℕ) → IsIndexCell kind usable a c → IsIndexCell kind usable b d → a ++ x ≡ b ++ y → (a ≡ b) × (c ≡ d)
index_cell-same {kind} {usable} {a} {b} {c} {d} x y v w e =
    let left = ap (λ s. s ++ x) v.whole ∙ regroup v.child_bytes v.payload_bytes v.local_bytes v.overflow_bytes x in
    let right = ap (λ s. s ++ y) w.whole ∙ regroup w.child_bytes w.payload_bytes w.local_bytes w.overflow_bytes y in
    let children = append-same v.child_bytes w.child_bytes _ _ (v.child_length ∙ sym w.child_length) (sym left ∙ e ∙ right) in
    let p : v.child_bytes ≡ w.child_bytes = children.0 in
    let payloads = varint-same _ _ v.payload w.payload children.1 in
    let q : v.payload_bytes ≡ w.payload_bytes = payloads.0 in
    let payload : c.payload ≡ d.payload = payloads.1 in
    let rest = append_cancel_left _ _ _ (ap (λ s. s ++ (v.local_bytes ++ (v.overflow_bytes ++ x))) (sym q) ∙ children.1) in
    let local : c.local ≡ d.local = v.local ∙ ap (local_size kind usable) payload ∙ sym w.local in
    let locals = append-same v.local_bytes w.local_bytes _ _ (v.local_length ∙ local ∙ sym w.local_length) rest in
    let over : length v.overflow_bytes ≡ length w.overflow_bytes = v.overflow_length ∙ ap (λ n. overflow_size n c.payload) local ∙ ap (overflow_size d.local) payload ∙ sym w.overflow_length in
    let overflows = append-same v.overflow_bytes w.overflow_bytes x y over locals.1 in
    let r : v.local_bytes ≡ w.local_bytes = locals.0 in
    let s : v.overflow_bytes ≡ w.overflow_bytes = overflows.0 in
    let bytes : a ≡ b =
    v.whole ∙ ap (λ z. z ++ (v.payload_bytes ++ (v.local_bytes ++ v.overflow_bytes))) p ∙ ap (λ z. w.child_bytes ++ (z ++ (v.local_bytes ++ v.overflow_bytes))) q
    ∙ ap (λ z. w.child_bytes ++ (w.payload_bytes ++ (z ++ v.overflow_bytes))) r ∙ ap (λ z. w.child_bytes ++ (w.payload_bytes ++ (w.local_bytes ++ z))) s ∙ sym w.whole in (
      bytes,
      view-one c d
          (v.size ∙ ap length bytes ∙ sym w.size)
          (v.rowid ∙ sym w.rowid)
          (v.child ∙ ap (λ z. big_number (length z) z) p ∙ sym w.child)
          payload
          (v.local_at ∙ ap (λ z. length z + length v.payload_bytes) p ∙ ap (λ z. length w.child_bytes + length z) q ∙ sym w.local_at)
          local
          (v.overflow ∙ ap (λ z. big_number (length z) z) s ∙ sym w.overflow),
    )

-- bytes spell one cell, and no cell begins another
pub cell-same : (kind : PageKind) (usable : ℕ) (a b x y : List ℕ) (c d : CellView) → IsCell kind usable a c → IsCell kind usable b d → a ++ x ≡ b ++ y → (a ≡ b) × (c ≡ d)
cell-same TableLeaf usable a b x y c d v w e = same_table_leaf_cell x y v w e
cell-same TableInterior usable a b x y c d v w e = table_interior_cell-same x y v w e
cell-same IndexLeaf usable a b x y c d v w e = index_cell-same x y v w e
cell-same IndexInterior usable a b x y c d v w e = index_cell-same x y v w e

-- bytes begin with one cell at most
pub cell-same_first : (kind : PageKind) (usable : ℕ) (bytes : List ℕ) (c d : CellView) → BeginsWithCell kind usable bytes c → BeginsWithCell kind usable bytes d → c ≡ d
cell-same_first kind usable bytes c d v w =
    (cell-same kind usable _ _ (drop c.size bytes) (drop d.size bytes) c d v.1 w.1 (take-append-drop c.size bytes ∙ sym (take-append-drop d.size bytes))).1

-- the lengths of a cell's parts
pub cell-parts : (usable : ℕ) (bytes : List ℕ) (cell : CellView) → IsTableLeafCell usable bytes cell → cell.size ≡ cell.local_at + cell.local + overflow_size cell.local cell.payload
cell-parts usable bytes cell v =
    omega (arith, v.size, ap length v.whole, length-append v.payload_bytes (v.rowid_bytes ++ (v.local_bytes ++ v.overflow_bytes)), length-append v.rowid_bytes (v.local_bytes ++ v.overflow_bytes), length-append v.local_bytes v.overflow_bytes, v.local_at, v.local_length, v.overflow_length)

-- how long the shortest spelling is
pub cell_bytes_size : (cell : CellView) (local : List ℕ) → length (cell_bytes TableLeaf cell local) ≡ length (varint cell.payload) + length (varint (cast_unsigned w64 cell.rowid)) + length local + overflow_size cell.local cell.payload
unfolding cell_bytes
cell_bytes_size cell local =
    let p = varint cell.payload in
    let q = varint (cast_unsigned w64 cell.rowid) in
    let o = big_bytes (overflow_size cell.local cell.payload) cell.overflow in
    omega (arith, length-append p (q ++ (local ++ o)), length-append q (local ++ o), length-append local o, length-bytes_high_first (overflow_size cell.local cell.payload) cell.overflow)

-- on a table interior page
pub table_interior_cell_bytes_size : (cell : CellView) (local : List ℕ) → length (cell_bytes TableInterior cell local) ≡ 4 + length (varint (cast_unsigned w64 cell.rowid))
unfolding cell_bytes
table_interior_cell_bytes_size cell local = omega (arith, length-append (big_bytes 4 cell.child) (varint (cast_unsigned w64 cell.rowid)), length-bytes_high_first 4 cell.child)

-- and on an index page
pub index_cell_bytes_size : (kind : PageKind) (cell : CellView) (local : List ℕ) → length (index_cell_bytes kind cell local) ≡ child_size kind + length (varint cell.payload) + length local + overflow_size cell.local cell.payload
unfolding index_cell_bytes
index_cell_bytes_size kind cell local =
    let c = big_bytes (child_size kind) cell.child in
    let p = varint cell.payload in
    let o = big_bytes (overflow_size cell.local cell.payload) cell.overflow in
    omega (arith, length-append c (p ++ (local ++ o)), length-append p (local ++ o), length-append local o, length-bytes_high_first (child_size kind) cell.child, length-bytes_high_first (overflow_size cell.local cell.payload) cell.overflow)

-- which of them they are at each kind
pub table_interior_cell-is : (cell : CellView) (local : List ℕ) → cell_bytes TableInterior cell local ≡ cell_bytes TableInterior cell []
unfolding cell_bytes
table_interior_cell-is cell local = refl

pub index_leaf_cell_is : (cell : CellView) (local : List ℕ) → cell_bytes IndexLeaf cell local ≡ index_cell_bytes IndexLeaf cell local
unfolding cell_bytes
index_leaf_cell_is cell local = refl

pub index_interior_cell_is : (cell : CellView) (local : List ℕ) → cell_bytes IndexInterior cell local ≡ index_cell_bytes IndexInterior cell local
unfolding cell_bytes
index_interior_cell_is cell local = refl

rowid_fits : (rowid : ℤ) → FitsSigned w64 rowid → cast_unsigned w64 rowid < 2 ^ 64
rowid_fits rowid h = omega (arith, ints)

number_read : (n x : ℕ) → x < 256 ^ n → x ≡ big_number (length (big_bytes n x)) (big_bytes n x)
number_read n x h =
    let back : big_number n (big_bytes n x ++ []) ≡ x = big_number-reads_back n x [] h in
    sym (ap (λ k. big_number k (big_bytes n x)) (length-bytes_high_first n x) ∙ ap (big_number n) (sym (append-nil (big_bytes n x))) ∙ back)

overflow_fits : (local payload page : ℕ) → page < 2 ^ 32 → (payload ≤ local → page ≡ 0) → page < 256 ^ overflow_size local payload
overflow_fits local payload page h z =
    cond_both (ltb local payload) 4 0 (λ n. page < 256 ^ n) (λ _. h) (λ e. omega (arith, z (ltb-false local payload e)))

written_table_leaf_cell : (usable : ℕ) (cell : CellView) (local : List ℕ) → IsWritable TableLeaf usable cell local → IsTableLeafCell usable (cell_bytes TableLeaf cell local) cell
unfolding cell_bytes
written_table_leaf_cell usable cell local w =
    let number = cast_unsigned w64 cell.rowid in
    let n = overflow_size cell.local cell.payload in
    record {
      payload_bytes = varint cell.payload;
      rowid_bytes = varint number;
      rowid_number = number;
      local_bytes = local;
      overflow_bytes = big_bytes n cell.overflow;
      whole = refl;
      payload = varint_spells cell.payload (omega (arith, w.limit));
      limit = w.limit;
      rowid_varint = varint_spells number (rowid_fits cell.rowid w.rowid);
      rowid = sym (to_z-of_z w64 cell.rowid w.rowid);
      local_at = w.local_at;
      local = w.local;
      local_length = w.local_length;
      overflow_length = length-bytes_high_first n cell.overflow;
      overflow = number_read n cell.overflow (overflow_fits cell.local cell.payload cell.overflow w.overflow w.no_overflow);
      child = w.lacked;
      size = w.size;
    }

written_table_interior_cell : (usable : ℕ) (cell : CellView) (local : List ℕ) → IsWritable TableInterior usable cell local → IsTableInteriorCell (cell_bytes TableInterior cell local) cell
unfolding cell_bytes
written_table_interior_cell usable cell local w =
    let number = cast_unsigned w64 cell.rowid in
    let none : cell.payload ≡ 0 = w.lacked in
    let local_none : cell.local ≡ 0 = w.local ∙ ap (local_size TableInterior usable) none ∙ cond-true _ _ _ (le-leb 0 (usable - 35) (omega arith)) in
    record {
      child_bytes = big_bytes 4 cell.child;
      rowid_bytes = varint number;
      rowid_number = number;
      whole = refl;
      child_length = length-bytes_high_first 4 cell.child;
      child = number_read 4 cell.child w.child;
      rowid_varint = varint_spells number (rowid_fits cell.rowid w.rowid);
      rowid = sym (to_z-of_z w64 cell.rowid w.rowid);
      payload = none;
      local_at = w.local_at;
      local = local_none;
      overflow = w.no_overflow (omega arith);
      size = w.size;
    }

-- an index page's child, over which a leaf has none
child_fits : (kind : PageKind) (child : ℕ) → child < 2 ^ 32 → (child_size kind ≡ 0 → child ≡ 0) → child < 256 ^ child_size kind
child_fits TableLeaf child h z = omega (arith, z refl)
child_fits TableInterior child h z = h
child_fits IndexLeaf child h z = omega (arith, z refl)
child_fits IndexInterior child h z = h

written_index_cell : (kind : PageKind) (usable : ℕ) (cell : CellView) (local : List ℕ) → IsWritable kind usable cell local → (child_size kind ≡ 0 → cell.child ≡ 0) → cell.rowid ≡ pos 0
    → cell.local_at ≡ child_size kind + length (varint cell.payload) → cell.size ≡ length (index_cell_bytes kind cell local) → IsIndexCell kind usable (index_cell_bytes kind cell local) cell
unfolding index_cell_bytes
written_index_cell kind usable cell local w child rowid at size =
    let n = overflow_size cell.local cell.payload in
    let m = child_size kind in
    record {
      child_bytes = big_bytes m cell.child;
      payload_bytes = varint cell.payload;
      local_bytes = local;
      overflow_bytes = big_bytes n cell.overflow;
      whole = refl;
      child_length = length-bytes_high_first m cell.child;
      child = number_read m cell.child (child_fits kind cell.child w.child child);
      payload = varint_spells cell.payload (omega (arith, w.limit));
      limit = w.limit;
      local_at = at ∙ ap (λ k. k + length (varint cell.payload)) (sym (length-bytes_high_first m cell.child));
      local = w.local;
      local_length = w.local_length;
      overflow_length = length-bytes_high_first n cell.overflow;
      overflow = number_read n cell.overflow (overflow_fits cell.local cell.payload cell.overflow w.overflow w.no_overflow);
      rowid = rowid;
      size = size;
    }

-- what is written is the cell
pub cell-written : (kind : PageKind) (usable : ℕ) (cell : CellView) (local : List ℕ) → IsWritable kind usable cell local → IsCell kind usable (cell_bytes kind cell local) cell
unfolding cell_bytes
cell-written TableLeaf usable cell local w = written_table_leaf_cell usable cell local w
cell-written TableInterior usable cell local w = written_table_interior_cell usable cell local w
cell-written IndexLeaf usable cell local w = written_index_cell IndexLeaf usable cell local w (λ _. w.lacked.1) w.lacked.0 (omega (arith, w.local_at)) w.size
cell-written IndexInterior usable cell local w = written_index_cell IndexInterior usable cell local w (λ e. absurd (omega arith)) w.lacked w.local_at w.size

whole_bytes : (rowid : ℤ) (payload : List ℕ) → cell_bytes TableLeaf (whole_cell rowid payload) payload ≡ table_leaf_cell rowid payload
unfolding cell_bytes table_leaf_cell
whole_bytes rowid payload =
    let n = length payload in
    let none : overflow_size n n ≡ 0 = ap (λ b. cond b 4 0) (le-ltb n n (omega arith)) in
    ap (λ k. varint n ++ (varint (cast_unsigned w64 rowid) ++ (payload ++ big_bytes k 0))) none
    ∙ ap (λ s. varint n ++ (varint (cast_unsigned w64 rowid) ++ s)) (append-nil payload)

-- a view of a payload that lies in its cell whole
pub whole_cell-writable : (usable : ℕ) (rowid : ℤ) (payload : List ℕ) → FitsSigned w64 rowid → length payload ≤ usable - 35 → length payload ≤ payload_limit → IsWritable TableLeaf usable (whole_cell rowid payload) payload
whole_cell-writable usable rowid payload r h l =
    record {
      limit = l;
      rowid = r;
      local = sym (cond-true _ _ _ (le-leb (length payload) (usable - 35) h));
      local_length = refl;
      child = omega arith;
      overflow = omega arith;
      no_overflow = λ _. refl;
      lacked = refl;
      local_at = refl;
      size = sym (ap length (whole_bytes rowid payload));
    }

-- and its cell
pub whole_cell-read : (usable : ℕ) (rowid : ℤ) (payload : List ℕ) → FitsSigned w64 rowid → length payload ≤ usable - 35 → length payload ≤ payload_limit → IsCell TableLeaf usable (table_leaf_cell rowid payload) (whole_cell rowid payload)
whole_cell-read usable rowid payload r h l =
    subst (λ bytes. IsTableLeafCell usable bytes (whole_cell rowid payload)) (whole_bytes rowid payload)
    (written_table_leaf_cell usable (whole_cell rowid payload) payload (whole_cell-writable usable rowid payload r h l))

-- a view of a child and a rowid
pub interior_cell-writable : (usable child : ℕ) (rowid : ℤ) → child < 2 ^ 32 → FitsSigned w64 rowid → IsWritable TableInterior usable (interior_cell child rowid) []
interior_cell-writable usable child rowid h r =
    record {
      limit = omega arith;
      rowid = r;
      child = h;
      local = sym (cond-true _ _ _ (le-leb 0 (usable - 35) (omega arith)));
      local_length = refl;
      overflow = omega arith;
      no_overflow = λ _. refl;
      lacked = refl;
      local_at = refl;
      size = sym (table_interior_cell_bytes_size (interior_cell child rowid) []);
    }

whole_index_size : (kind : PageKind) (child : ℕ) (payload : List ℕ) → (whole_index_cell kind child payload).size ≡ length (index_cell_bytes kind (whole_index_cell kind child payload) payload)
whole_index_size kind child payload =
    let n = length payload in
    let none : overflow_size n n ≡ 0 = ap (λ b. cond b 4 0) (le-ltb n n (omega arith)) in
    omega (arith, none, index_cell_bytes_size kind (whole_index_cell kind child payload) payload)

-- views of payloads that lie whole in the cells of an index
pub whole_index_leaf_cell-writable : (usable : ℕ) (payload : List ℕ) → length payload ≤ max_local IndexLeaf usable → length payload ≤ payload_limit → IsWritable IndexLeaf usable (whole_index_cell IndexLeaf 0 payload) payload
whole_index_leaf_cell-writable usable payload h l =
    record {
      limit = l;
      rowid = search rules;
      child = omega arith;
      local = sym (cond-true _ _ _ (le-leb (length payload) (max_local IndexLeaf usable) h));
      local_length = refl;
      overflow = omega arith;
      no_overflow = λ _. refl;
      lacked = (refl, refl);
      local_at = omega arith;
      size = whole_index_size IndexLeaf 0 payload ∙ sym (ap length (index_leaf_cell_is (whole_index_cell IndexLeaf 0 payload) payload));
    }

pub whole_index_interior_cell-writable : (usable child : ℕ) (payload : List ℕ) → child < 2 ^ 32 → length payload ≤ max_local IndexInterior usable → length payload ≤ payload_limit
    → IsWritable IndexInterior usable (whole_index_cell IndexInterior child payload) payload
whole_index_interior_cell-writable usable child payload c h l =
    record {
      limit = l;
      rowid = search rules;
      child = c;
      local = sym (cond-true _ _ _ (le-leb (length payload) (max_local IndexInterior usable) h));
      local_length = refl;
      overflow = omega arith;
      no_overflow = λ _. refl;
      lacked = refl;
      local_at = refl;
      size = whole_index_size IndexInterior child payload ∙ sym (ap length (index_interior_cell_is (whole_index_cell IndexInterior child payload) payload));
    }

-- the payload lies in it
pub whole_cell-payload : (rowid : ℤ) (payload : List ℕ) → take (length payload) (drop (whole_cell rowid payload).local_at (table_leaf_cell rowid payload)) ≡ payload
unfolding table_leaf_cell
whole_cell-payload rowid payload =
    let head = varint (length payload) ++ varint (cast_unsigned w64 rowid) in
    let size : length head ≡ (whole_cell rowid payload).local_at = length-append (varint (length payload)) (varint (cast_unsigned w64 rowid)) in
    ap (λ s. take (length payload) (drop (whole_cell rowid payload).local_at s)) (sym (append_assoc (varint (length payload)) (varint (cast_unsigned w64 rowid)) payload))
    ∙ ap (take (length payload)) (drop_at head payload (whole_cell rowid payload).local_at size)
    ∙ take_all (length payload) payload (omega arith)

-- the length of that cell
pub table_leaf_cell-size : (rowid : ℤ) (payload : List ℕ) → length (table_leaf_cell rowid payload) ≡ length (varint (length payload)) + length (varint (cast_unsigned w64 rowid)) + length payload
unfolding table_leaf_cell
table_leaf_cell-size rowid payload =
    let p = varint (length payload) in
    let q = varint (cast_unsigned w64 rowid) in
    omega (arith, length-append p (q ++ payload), length-append q payload)

-- a cell's payload begins behind two varints
pub local_at-bounds : (usable : ℕ) (bytes : List ℕ) (cell : CellView) → IsTableLeafCell usable bytes cell → (2 ≤ cell.local_at) × (cell.local_at ≤ 18)
local_at-bounds usable bytes cell v =
    let p = spelling-one_to_nine v.payload_bytes cell.payload v.payload in
    let q = spelling-one_to_nine v.rowid_bytes v.rowid_number v.rowid_varint in
    (omega (arith, v.local_at, p, q), omega (arith, v.local_at, p, q))

size_within : (usable payload most : ℕ) → min_local usable ≤ most → cond (leb payload most) payload (cond (leb (fitted_local usable payload) most) (fitted_local usable payload) (min_local usable)) ≤ payload
size_within usable payload most h = grind (arith, nat_tests)

size_room : (usable payload most : ℕ) → min_local usable ≤ most → most + 35 ≤ usable → cond (leb payload most) payload (cond (leb (fitted_local usable payload) most) (fitted_local usable payload) (min_local usable)) + 35 ≤ usable
size_room usable payload most h m = grind (arith, nat_tests)

-- the least that a cell keeps of a longer payload is below the most
pub min_local-below_max : (kind : PageKind) (usable : ℕ) → min_local usable ≤ max_local kind usable
min_local-below_max TableLeaf usable = omega arith
min_local-below_max TableInterior usable = omega arith
min_local-below_max IndexLeaf usable = omega arith
min_local-below_max IndexInterior usable = omega arith

-- which a page has room for
pub max_local-room : (kind : PageKind) (usable : ℕ) → 480 ≤ usable → max_local kind usable + 35 ≤ usable
max_local-room TableLeaf usable h = omega arith
max_local-room TableInterior usable h = omega arith
max_local-room IndexLeaf usable h = omega arith
max_local-room IndexInterior usable h = omega arith

-- a cell keeps no more than its payload has
pub local_size_within : (kind : PageKind) (usable payload : ℕ) → local_size kind usable payload ≤ payload
local_size_within kind usable payload = size_within usable payload (max_local kind usable) (min_local-below_max kind usable)

-- and no more than a page has room for
pub local_size_room : (kind : PageKind) (usable payload : ℕ) → 480 ≤ usable → local_size kind usable payload + 35 ≤ usable
local_size_room kind usable payload h = size_room usable payload (max_local kind usable) (min_local-below_max kind usable) (max_local-room kind usable h)
