-- The bytes that begin with an index page's cell, part by part.
use Rattle.std.proofs.Common.{◌≡◌, ℕ, pos, ◌+◌, ◌<◌, ◌≤◌, List, ◌++◌, length, take, drop, refl, sym, ◌∙◌, ap, subst, append_assoc, length-append, arith}
use Rattle.std.proofs.Math.Seq.{take-add}
use Rattle.std.proofs.lemmas.List.{take_at, drop_at, take-append-drop, length-take-le, length-drop, drop-drop}
use Rattle.byteorder.specs.Endian.{big_number}
use Rattle.format_spec.specs.declared.PageKind.{PageKind}
use Rattle.format_spec.specs.declared.CellView.{CellView}
use Rattle.format_spec.specs.Varint.{IsVarint}
use Rattle.format_spec.specs.Cell.{IsIndexCell, payload_limit, local_size, child_size, overflow_size}
use Rattle.cell_codec.specs.CellLaws.{index_cell-same}
use Rattle.cell_codec.specs.Cells.{part_size, IsLocalPart}
use Rattle.cell_codec.specs.declared.cell.LocalPart.{LocalPart}
use Rattle.cell_codec.proofs.CellReading.{BeginsWithNoLength, VarintIs, VarintIs-same, part-whole, part-local_length, part-overflow_length}

abbrev pub BeginsWithIndex : PageKind → ℕ → List ℕ → CellView → Type 0
BeginsWithIndex kind usable bytes cell = (cell.size ≤ length bytes) × IsIndexCell kind usable (take cell.size bytes) cell

-- bytes begin with one cell at most
pub index_cell-same_first : (kind : PageKind) (usable : ℕ) (bytes : List ℕ) (c d : CellView) → BeginsWithIndex kind usable bytes c → BeginsWithIndex kind usable bytes d → c ≡ d
index_cell-same_first kind usable bytes c d v w =
    (index_cell-same (drop c.size bytes) (drop d.size bytes) v.1 w.1 (take-append-drop c.size bytes ∙ sym (take-append-drop d.size bytes))).1

-- the parts of an index page's cell, in the bytes that begin with it
record HasIndexHead (kind : PageKind) (usable : ℕ) (bytes : List ℕ) (cell : CellView) : Type 0 where
  payload_length : ℕ
  payload : VarintIs (drop (child_size kind) bytes) cell.payload payload_length
  limit : cell.payload ≤ payload_limit
  size : cell.size ≡ child_size kind + payload_length + cell.local + overflow_size cell.local cell.payload
  local : cell.local ≡ local_size kind usable cell.payload
  within : cell.size ≤ length bytes

index_cell-head : (kind : PageKind) (usable : ℕ) (bytes : List ℕ) (cell : CellView) → BeginsWithIndex kind usable bytes cell → HasIndexHead kind usable bytes cell
index_cell-head kind usable bytes cell h =
    let v : IsIndexCell kind usable (take cell.size bytes) cell = h.1 in
    let c = v.child_bytes in
    let p = v.payload_bytes in
    let rest = v.local_bytes ++ v.overflow_bytes in
    let left = drop cell.size bytes in
    let whole : bytes ≡ c ++ (p ++ (rest ++ left)) =
    sym (take-append-drop cell.size bytes) ∙ ap (λ s. s ++ left) v.whole ∙ append_assoc c (p ++ rest) left ∙ ap (λ s. c ++ s) (append_assoc p rest left) in
    let behind : drop (child_size kind) bytes ≡ p ++ (rest ++ left) = ap (drop (child_size kind)) whole ∙ drop_at c (p ++ (rest ++ left)) (child_size kind) v.child_length in
    let first : take (length p) (drop (child_size kind) bytes) ≡ p = ap (take (length p)) behind ∙ take_at p (rest ++ left) (length p) refl in
    record {
      payload_length = length p;
      payload = record {
        within = omega (arith, ap length behind, length-append p (rest ++ left));
        spelled = subst (λ s. IsVarint s cell.payload) (sym first) v.payload;
      };
      limit = v.limit;
      size = omega (arith, v.size, ap length v.whole, length-append c (p ++ rest), length-append p rest, length-append v.local_bytes v.overflow_bytes, v.child_length, v.local_length, v.overflow_length);
      local = v.local;
      within = h.0;
    }

-- bytes with no payload's length behind the child
pub index_cell-needs_length : (kind : PageKind) (usable : ℕ) (bytes : List ℕ) → BeginsWithNoLength (drop (child_size kind) bytes) → (cell : CellView) → BeginsWithIndex kind usable bytes cell → ⊥
index_cell-needs_length kind usable bytes none cell h =
    let head = index_cell-head kind usable bytes cell h in
    none cell.payload head.payload_length head.payload.within head.payload.spelled head.limit

-- bytes that end before their cell
pub index_cell-too_short : (kind : PageKind) (usable : ℕ) (bytes : List ℕ) (payload i : ℕ) → VarintIs (drop (child_size kind) bytes) payload i
    → length (drop (child_size kind + i) bytes) < part_size kind usable payload → (cell : CellView) → BeginsWithIndex kind usable bytes cell → ⊥
index_cell-too_short kind usable bytes payload i v short cell h =
    let head = index_cell-head kind usable bytes cell h in
    let payloads = VarintIs-same (drop (child_size kind) bytes) payload cell.payload i head.payload_length v head.payload in
    let same : head.payload_length ≡ i = sym payloads.1 in
    let part : cell.local + overflow_size cell.local cell.payload ≡ part_size kind usable payload =
    ap (λ k. k + overflow_size k cell.payload) head.local ∙ ap (part_size kind usable) (sym payloads.0) in
    omega (arith, head.size, head.within, same, part, short, length-drop (child_size kind + i) bytes)

-- bytes that have all of an index page's cell
pub index_cell-read : (kind : PageKind) (usable : ℕ) (bytes : List ℕ) (payload i child : ℕ) (part : LocalPart) → child_size kind ≤ length bytes → VarintIs (drop (child_size kind) bytes) payload i
    → payload ≤ payload_limit → child ≡ big_number (child_size kind) (take (child_size kind) bytes) → IsLocalPart kind usable payload (drop (child_size kind + i) bytes) part
    → BeginsWithIndex kind usable bytes (record { size = child_size kind + i + part.size; rowid = pos 0; child = child; payload = payload; local_at = child_size kind + i; local = part.local; overflow = part.overflow })
index_cell-read kind usable bytes payload i child part fits v limit e h =
    let m = child_size kind in
    let n = overflow_size part.local payload in
    let behind = drop (m + i) bytes in
    let size = m + i + part.size in
    let within : size ≤ length bytes = omega (arith, fits, h.within, v.within, length-drop m bytes, length-drop (m + i) bytes) in
    let whole : take size bytes ≡ take m bytes ++ (take i (drop m bytes) ++ (take part.local behind ++ take n (drop part.local behind))) =
    ap (λ k. take k bytes) (let e : size ≡ m + (i + part.size) = omega arith in e)
    ∙ take-add m (i + part.size) bytes
    ∙ ap (λ s. take m bytes ++ s) (take-add i part.size (drop m bytes))
    ∙ ap (λ s. take m bytes ++ (take i (drop m bytes) ++ take part.size s)) (drop-drop i m bytes)
    ∙ ap (λ s. take m bytes ++ (take i (drop m bytes) ++ s)) (part-whole kind usable payload behind part h) in
    let child_length : length (take m bytes) ≡ m = length-take-le m bytes fits in
    let payload_length : length (take i (drop m bytes)) ≡ i = length-take-le i (drop m bytes) v.within in
    let overflow_length = part-overflow_length kind usable payload behind part h in (
      within,
      record {
        child_bytes = take m bytes;
        payload_bytes = take i (drop m bytes);
        local_bytes = take part.local behind;
        overflow_bytes = take n (drop part.local behind);
        whole = whole;
        child_length = child_length;
        child = e ∙ ap (λ k. big_number k (take m bytes)) (sym child_length);
        payload = v.spelled;
        limit = limit;
        local_at = omega (arith, child_length, payload_length);
        local = h.local;
        local_length = part-local_length kind usable payload behind part h;
        overflow_length = overflow_length;
        overflow = h.overflow ∙ ap (λ k. big_number k (take n (drop part.local behind))) (sym overflow_length);
        rowid = refl;
        size = sym (length-take-le size bytes within);
      },
    )
