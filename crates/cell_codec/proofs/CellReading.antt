-- The bytes that begin with a cell, part by part.
use Rattle.std.proofs.Common.{◌≡◌, ℕ, ℤ, ◌+◌, ◌<◌, ◌≤◌, ◌↔◌, List, ◌++◌, Option, Some, None, Result, Ok, Err, IfSome, IsNone, length, take, drop, refl, sym, ◌∙◌, ap, subst, append_assoc, length-append, arith}
use Rattle.std.proofs.Math.Seq.{take-add}
use Rattle.std.proofs.lemmas.List.{take_at, drop_at, take-append-drop, length-take-le, length-drop, drop-drop}
use Rattle.std.proofs.lemmas.Option.{none-some}
use Rattle.std.specs.Int.{w64, cast_signed}
use Rattle.std.specs.Option.{ok_or}
use Rattle.byteorder.specs.Endian.{big_number}
use Rattle.format_spec.specs.declared.PageKind.{PageKind}
use Rattle.format_spec.specs.declared.PageKind.TheVariants.{TableLeaf}
use Rattle.format_spec.specs.declared.CellView.{CellView}
use Rattle.format_spec.specs.Varint.{IsVarint}
use Rattle.format_spec.specs.Cell.{IsTableLeafCell, payload_limit, local_size, overflow_size}
use Rattle.common_spec.specs.Reading.{Reads, OrNone}
use Rattle.cell_codec.specs.Varints.{BeginsWithVarint}
use Rattle.cell_codec.specs.VarintLaws.{varint-same_front}
use Rattle.cell_codec.specs.Cells.{BeginsWithCell, BeginsWithLengthOver, part_size, IsLocalPart}
use Rattle.cell_codec.specs.declared.cell.LocalPart.{LocalPart}
use Rattle.cell_codec.specs.declared.cell.CellFault.{CellFault}
use Rattle.cell_codec.specs.declared.cell.CellFault.TheVariants.{ShortCell, SizeOverLimit}

-- the bytes begin with no varint
abbrev pub BeginsWithNone : List ℕ → Type 0
BeginsWithNone bytes = (value n : ℕ) → n ≤ length bytes → IsVarint (take n bytes) value → ⊥

pub BeginsWithNone-read : (bytes : List ℕ) (r : Option (ℕ × ℕ)) → r ≡ None → Reads (OrNone (BeginsWithVarint bytes)) r → BeginsWithNone bytes
BeginsWithNone-read bytes r e reads value n h v = none-some (value, n) (sym e ∙ reads.only (Some (value, n)) (h, v))

-- nor with a length that a payload can have
abbrev pub BeginsWithNoLength : List ℕ → Type 0
BeginsWithNoLength bytes = (value n : ℕ) → n ≤ length bytes → IsVarint (take n bytes) value → value ≤ payload_limit → ⊥

pub BeginsWithNoLength-read : (bytes : List ℕ) (r : Result (ℕ × ℕ) CellFault) (x : CellFault) → r ≡ Err x
    → ((value n : ℕ) → n ≤ length bytes → IsVarint (take n bytes) value → value ≤ payload_limit → r ≡ Ok (value, n)) → BeginsWithNoLength bytes
BeginsWithNoLength-read bytes r x e only value n h v l = let f : r ≡ Ok (value, n) = only value n h v l in absurd (cc)

-- the bytes begin with this number, in so many bytes
pub record VarintIs (bytes : List ℕ) (value size : ℕ) : Type 0 where
  pub within : size ≤ length bytes
  pub spelled : IsVarint (take size bytes) value

-- what was read behind n bytes
pub VarintIs-read : (bytes rest : List ℕ) (n : ℕ) (r : Option (ℕ × ℕ)) (value size : ℕ) → rest ≡ drop n bytes → r ≡ Some (value, size) → Reads (OrNone (BeginsWithVarint rest)) r
    → VarintIs (drop n bytes) value size
VarintIs-read bytes rest n r value size s e h =
    let f : BeginsWithVarint rest (value, size) = subst (OrNone (BeginsWithVarint rest)) e h.holds in
    record { within = subst (λ t. size ≤ length t) s f.0; spelled = subst (λ t. IsVarint (take size t) value) s f.1 }

pub VarintIs-behind : (bytes rest : List ℕ) (n value size : ℕ) → rest ≡ drop n bytes → size ≤ length rest → IsVarint (take size rest) value → VarintIs (drop n bytes) value size
VarintIs-behind bytes rest n value size s h v = record { within = subst (λ t. size ≤ length t) s h; spelled = subst (λ t. IsVarint (take size t) value) s v }

-- the part that was read
pub part-some : (P : LocalPart → Type 0) (r : Option LocalPart) (part : LocalPart) → r ≡ Some part → IfSome r P → P part
part-some P r part e h = subst (λ (o : Option LocalPart). IfSome o P) e h

-- what is said of none that was read
pub part-none : (Q : Type 0) (r : Option LocalPart) → r ≡ None → (IsNone r ↔ Q) → Q
part-none Q r e h = h.0 (rw e refl)

-- a local part's own parts
pub part-whole : (kind : PageKind) (usable payload : ℕ) (bytes : List ℕ) (part : LocalPart) → IsLocalPart kind usable payload bytes part
    → take part.size bytes ≡ take part.local bytes ++ take (overflow_size part.local payload) (drop part.local bytes)
part-whole kind usable payload bytes part h = ap (λ k. take k bytes) h.size ∙ take-add part.local (overflow_size part.local payload) bytes

pub part-local_length : (kind : PageKind) (usable payload : ℕ) (bytes : List ℕ) (part : LocalPart) → IsLocalPart kind usable payload bytes part → length (take part.local bytes) ≡ part.local
part-local_length kind usable payload bytes part h = length-take-le part.local bytes (omega (arith, h.size, h.within))

pub part-overflow_length : (kind : PageKind) (usable payload : ℕ) (bytes : List ℕ) (part : LocalPart) → IsLocalPart kind usable payload bytes part
    → length (take (overflow_size part.local payload) (drop part.local bytes)) ≡ overflow_size part.local payload
part-overflow_length kind usable payload bytes part h =
    length-take-le (overflow_size part.local payload) (drop part.local bytes) (omega (arith, h.size, h.within, length-drop part.local bytes))

-- where a part was not read the cell is short, and not over the limit
pub short-not_over_limit : {A : Type 0} (r : Result CellView CellFault) (x y : CellFault) (o : Option A) → r ≡ Err x → x ≡ y → ◌≡◌ {A = Result A CellFault} (Err y) (ok_or o ShortCell) → o ≡ None → r ≡ Err SizeOverLimit → ⊥
short-not_over_limit {A} r x y o e f g h over =
    let k : ◌≡◌ {A = Result A CellFault} (Err y) (Err ShortCell) = g ∙ ap (λ (t : Option A). ok_or t ShortCell) h in
    let short : r ≡ Err ShortCell = cc in
    absurd (cc)

-- a cell's parts, in the bytes that begin with it
record HasHead (usable : ℕ) (bytes : List ℕ) (cell : CellView) : Type 0 where
  rowid_at : ℕ
  rowid_length : ℕ
  number : ℕ
  payload : VarintIs bytes cell.payload rowid_at
  limit : cell.payload ≤ payload_limit
  rowid : VarintIs (drop rowid_at bytes) number rowid_length
  size : cell.size ≡ rowid_at + rowid_length + cell.local + overflow_size cell.local cell.payload
  local : cell.local ≡ local_size TableLeaf usable cell.payload
  within : cell.size ≤ length bytes

cell-head : (usable : ℕ) (bytes : List ℕ) (cell : CellView) → BeginsWithCell TableLeaf usable bytes cell → HasHead usable bytes cell
cell-head usable bytes cell h =
    let v : IsTableLeafCell usable (take cell.size bytes) cell = h.1 in
    let p = v.payload_bytes in
    let q = v.rowid_bytes in
    let rest = v.local_bytes ++ v.overflow_bytes in
    let left = drop cell.size bytes in
    let whole : bytes ≡ p ++ (q ++ (rest ++ left)) =
    sym (take-append-drop cell.size bytes) ∙ ap (λ s. s ++ left) v.whole ∙ append_assoc p (q ++ rest) left ∙ ap (λ s. p ++ s) (append_assoc q rest left) in
    let first : take (length p) bytes ≡ p = ap (take (length p)) whole ∙ take_at p (q ++ (rest ++ left)) (length p) refl in
    let behind : drop (length p) bytes ≡ q ++ (rest ++ left) = ap (drop (length p)) whole ∙ drop_at p (q ++ (rest ++ left)) (length p) refl in
    let second : take (length q) (drop (length p) bytes) ≡ q = ap (take (length q)) behind ∙ take_at q (rest ++ left) (length q) refl in
    record {
      rowid_at = length p;
      rowid_length = length q;
      number = v.rowid_number;
      payload = record {
        within = omega (arith, ap length whole, length-append p (q ++ (rest ++ left)));
        spelled = subst (λ s. IsVarint s cell.payload) (sym first) v.payload;
      };
      limit = v.limit;
      rowid = record {
        within = omega (arith, ap length behind, length-append q (rest ++ left));
        spelled = subst (λ s. IsVarint s v.rowid_number) (sym second) v.rowid_varint;
      };
      size = omega (arith, v.size, ap length v.whole, length-append p (q ++ rest), length-append q rest, length-append v.local_bytes v.overflow_bytes, v.local_length, v.overflow_length);
      local = v.local;
      within = h.0;
    }

pub VarintIs-same : (bytes : List ℕ) (m n i j : ℕ) → VarintIs bytes m i → VarintIs bytes n j → (m ≡ n) × (i ≡ j)
VarintIs-same bytes m n i j v w = varint-same_front bytes i j m n v.within w.within v.spelled w.spelled

-- bytes with no payload's length
pub cell-needs_length : (usable : ℕ) (bytes : List ℕ) → BeginsWithNoLength bytes → (cell : CellView) → BeginsWithCell TableLeaf usable bytes cell → ⊥
cell-needs_length usable bytes none cell h =
    let head = cell-head usable bytes cell h in
    none cell.payload head.rowid_at head.payload.within head.payload.spelled head.limit

-- bytes with a payload within it
pub length-not_over : (bytes : List ℕ) (payload i : ℕ) → VarintIs bytes payload i → payload ≤ payload_limit → BeginsWithLengthOver bytes → ⊥
length-not_over bytes payload i v limit h =
    omega (arith, h.4, varint-same_front bytes i h.1 payload h.0 v.within h.2 v.spelled h.3)

-- bytes with no rowid
pub cell-needs_rowid : (usable : ℕ) (bytes : List ℕ) (payload i : ℕ) → VarintIs bytes payload i → BeginsWithNone (drop i bytes) → (cell : CellView) → BeginsWithCell TableLeaf usable bytes cell → ⊥
cell-needs_rowid usable bytes payload i v none cell h =
    let head = cell-head usable bytes cell h in
    let same : head.rowid_at ≡ i = sym (VarintIs-same bytes payload cell.payload i head.rowid_at v head.payload).1 in
    let rowid = subst (λ k. VarintIs (drop k bytes) head.number head.rowid_length) same head.rowid in
    none head.number head.rowid_length rowid.within rowid.spelled

-- bytes that end before their cell
pub cell-too_short : (usable : ℕ) (bytes : List ℕ) (payload i number j : ℕ) → VarintIs bytes payload i → VarintIs (drop i bytes) number j
    → length (drop (i + j) bytes) < part_size TableLeaf usable payload → (cell : CellView) → BeginsWithCell TableLeaf usable bytes cell → ⊥
cell-too_short usable bytes payload i number j v w short cell h =
    let head = cell-head usable bytes cell h in
    let payloads = VarintIs-same bytes payload cell.payload i head.rowid_at v head.payload in
    let same : head.rowid_at ≡ i = sym payloads.1 in
    let rowid = subst (λ k. VarintIs (drop k bytes) head.number head.rowid_length) same head.rowid in
    let rowids = VarintIs-same (drop i bytes) number head.number j head.rowid_length w rowid in
    let part : cell.local + overflow_size cell.local cell.payload ≡ part_size TableLeaf usable payload =
    ap (λ k. k + overflow_size k cell.payload) head.local ∙ ap (part_size TableLeaf usable) (sym payloads.0) in
    omega (arith, head.size, head.within, rowids.1, same, part, short, length-drop (i + j) bytes)

-- bytes that have all of their cell
pub cell-read : (usable : ℕ) (bytes : List ℕ) (payload i number j : ℕ) (rowid : ℤ) (part : LocalPart) → VarintIs bytes payload i → VarintIs (drop i bytes) number j
    → payload ≤ payload_limit → rowid ≡ cast_signed w64 number → IsLocalPart TableLeaf usable payload (drop (i + j) bytes) part
    → BeginsWithCell TableLeaf usable bytes (record { size = i + j + part.size; rowid = rowid; child = 0; payload = payload; local_at = i + j; local = part.local; overflow = part.overflow })
cell-read usable bytes payload i number j rowid part v w limit e h =
    let n = overflow_size part.local payload in
    let behind = drop (i + j) bytes in
    let size = i + j + part.size in
    let within : size ≤ length bytes = omega (arith, h.within, v.within, w.within, length-drop i bytes, length-drop (i + j) bytes) in
    let whole : take size bytes ≡ take i bytes ++ (take j (drop i bytes) ++ (take part.local behind ++ take n (drop part.local behind))) =
    ap (λ k. take k bytes) (let e : size ≡ i + (j + part.size) = omega arith in e)
    ∙ take-add i (j + part.size) bytes
    ∙ ap (λ s. take i bytes ++ s) (take-add j part.size (drop i bytes))
    ∙ ap (λ s. take i bytes ++ (take j (drop i bytes) ++ take part.size s)) (drop-drop j i bytes)
    ∙ ap (λ s. take i bytes ++ (take j (drop i bytes) ++ s)) (part-whole TableLeaf usable payload behind part h) in
    let first_length : length (take i bytes) ≡ i = length-take-le i bytes v.within in
    let second_length : length (take j (drop i bytes)) ≡ j = length-take-le j (drop i bytes) w.within in
    let overflow_length = part-overflow_length TableLeaf usable payload behind part h in (
      within,
      record {
        payload_bytes = take i bytes;
        rowid_bytes = take j (drop i bytes);
        rowid_number = number;
        local_bytes = take part.local behind;
        overflow_bytes = take n (drop part.local behind);
        whole = whole;
        payload = v.spelled;
        limit = limit;
        rowid_varint = w.spelled;
        rowid = e;
        local_at = omega (arith, first_length, second_length);
        local = h.local;
        local_length = part-local_length TableLeaf usable payload behind part h;
        overflow_length = overflow_length;
        overflow = h.overflow ∙ ap (λ k. big_number k (take n (drop part.local behind))) (sym overflow_length);
        child = refl;
        size = sym (length-take-le size bytes within);
      },
    )
