-- The row of a key in its parts.
use Rattle.std.proofs.Common.{◌≡◌, ℕ, ℤ, pos, negsuc, ◌+◌, ◌*◌, ◌<◌, ◌≤◌, ◌^◌, List, [], ◌∷◌, ◌++◌, length, refl, sym, ap, ap₂, ◌∙◌, arith, append_assoc, length-append}
use Rattle.std.proofs.lemmas.List.{append-nil}
use Rattle.std.proofs.lemmas.Bool.{cond_both, ltb-true}
use Rattle.std.proofs.lemmas.Bool.Decides.{nat_tests}
use Rattle.std.proofs.lemmas.List.Sums.{sum_by-cons}
use Rattle.std.proofs.Math.Dec.{ltb}
use Rattle.std.specs.List.{sum_by}
use Rattle.byteorder.specs.Endian.{big_bytes, low_bytes}
use Rattle.byteorder.specs.Numbers.{length-bytes_high_first}
use Rattle.std.specs.Int.{w64, cast_unsigned}
use Rattle.rbu_value.specs.declared.value.Value.{Value}
use Rattle.rbu_value.specs.declared.value.Value.TheVariants.{Null, Int, Text, Blob}
use Rattle.format_spec.specs.Varint.{varint, varint_front}
use Rattle.format_spec.specs.Cell.{table_leaf_cell}
use Rattle.format_spec.specs.Record.{int_size, int_body, int_serial_type, serial_type, body, header_size_bytes, canonical_record}
use Rattle.cell_codec.specs.VarintLaws.{varint-one_to_nine}
use Rattle.cell_codec.specs.CellLaws.{table_leaf_cell-size}
use Rattle.record_codec.specs.RecordLaws.{record-size}
use Rattle.state_file.specs.StateFile.{row_cell, rows_from, next_key}

-- the type of NULL
varint-null : varint 0 ≡ 0 ∷ []
unfolding varint varint_front
varint-null = refl

-- the serial type of an integer is one digit
int_serial_type-small : (z : ℤ) → int_serial_type 4 z ≤ 9
int_serial_type-small (pos n) = grind (arith, nat_tests)
int_serial_type-small (negsuc n) = grind (arith, nat_tests)

-- a header of few bytes has its size in one
header_size-short : (n : ℕ) → n ≤ 100 → header_size_bytes n ≡ 1
header_size-short n h = grind (arith, nat_tests)

-- the payload: the header's size, NULL's serial type, the value's, and its body
pub row_record-parts : (value : Value) → serial_type 4 value < 2 ^ 64
    → canonical_record 4 (Null ∷ value ∷ []) ≡ varint (length (varint (serial_type 4 value)) + 2) ++ ((0 ∷ []) ++ (varint (serial_type 4 value) ++ body 4 value))
unfolding canonical_record
row_record-parts value fits =
    let s : List ℕ = varint (serial_type 4 value) in
    let types : List ℕ = varint 0 ++ (s ++ []) in
    let types_are : types ≡ (0 ∷ []) ++ s = ap₂ (λ (a b : List ℕ). a ++ b) varint-null (append-nil s) in
    let long : length types ≡ length s + 1 = ap length types_are ∙ omega arith in
    let few = varint-one_to_nine (serial_type 4 value) fits in
    let size : length types + header_size_bytes (length types) ≡ length s + 2 = omega (arith, header_size-short (length types) (omega (arith, long, few)), long) in
    let bodies : body 4 value ++ [] ≡ body 4 value = append-nil (body 4 value) in
    append_assoc (varint (length types + header_size_bytes (length types))) types (body 4 value ++ [])
    ∙ ap (λ (n : ℕ). varint n ++ (types ++ (body 4 value ++ []))) size
    ∙ ap₂ (λ (t b : List ℕ). varint (length s + 2) ++ (t ++ b)) types_are bodies

-- a value whose body is short has a serial type of 64 bits
serial_type-fits : (value : Value) → length (body 4 value) < 2 ^ 32 → serial_type 4 value < 2 ^ 64
serial_type-fits Null h = omega arith
serial_type-fits (Int z) h = omega (arith, int_serial_type-small z)
serial_type-fits (Text bytes) h = omega arith
serial_type-fits (Blob bytes) h = omega arith

-- the payload of a row
abbrev pub row_payload : Value → List ℕ
row_payload value = varint (length (varint (serial_type 4 value)) + 2) ++ ((0 ∷ []) ++ (varint (serial_type 4 value) ++ body 4 value))

-- a row in its parts, and how long they are
pub record RowParts (key : ℕ) (value : Value) : Type 0 where
  pub whole : row_cell key value ≡ varint (length (row_payload value)) ++ (varint key ++ row_payload value)
  pub payload : length (row_payload value) ≡ length (varint (length (varint (serial_type 4 value)) + 2)) + (1 + (length (varint (serial_type 4 value)) + length (body 4 value)))
  pub size : length (row_cell key value) ≡ length (varint (length (row_payload value))) + (length (varint key) + length (row_payload value))

-- a body is shorter than its row
pub body-within : (key : ℕ) (value : Value) → length (body 4 value) ≤ length (row_cell key value)
unfolding row_cell
body-within key value =
    omega (arith, table_leaf_cell-size (pos key) (canonical_record 4 (Null ∷ value ∷ [])), record-size 4 (Null ∷ value ∷ []), length-append (body 4 value) [])

pub cell-of_payload : (key : ℕ) (value : Value) (payload : List ℕ) → canonical_record 4 (Null ∷ value ∷ []) ≡ payload
    → row_cell key value ≡ varint (length payload) ++ (varint key ++ payload)
unfolding row_cell table_leaf_cell
cell-of_payload key value payload e = ap (λ (p : List ℕ). varint (length p) ++ (varint key ++ p)) e

pub row_cell-parts : (key : ℕ) (value : Value) → length (body 4 value) < 2 ^ 32 → RowParts key value
row_cell-parts key value short =
    let whole : row_cell key value ≡ varint (length (row_payload value)) ++ (varint key ++ row_payload value) =
    cell-of_payload key value (row_payload value) (row_record-parts value (serial_type-fits value short)) in
    let s : List ℕ = varint (serial_type 4 value) in
    record {
      whole = whole;
      payload =
          length-append (varint (length s + 2)) ((0 ∷ []) ++ (s ++ body 4 value))
          ∙ ap (λ (n : ℕ). length (varint (length s + 2)) + n) (length-append (0 ∷ []) (s ++ body 4 value) ∙ ap (λ (n : ℕ). 1 + n) (length-append s (body 4 value)));
      size =
          ap length whole
          ∙ length-append (varint (length (row_payload value))) (varint key ++ row_payload value)
          ∙ ap (λ (n : ℕ). length (varint (length (row_payload value))) + n) (length-append (varint key) (row_payload value));
    }

-- a key is at most two over the one before
pub next_key-most : (key : ℕ) → next_key key ≤ key + 2
next_key-most key = grind (arith, nat_tests)

-- a row takes few bytes more than its value's body
pub row_cell-short : (key : ℕ) (value : Value) → key < 2 ^ 32 → length (body 4 value) < 2 ^ 32 → length (row_cell key value) ≤ length (body 4 value) + 37
row_cell-short key value small short =
    let parts = row_cell-parts key value short in
    let serial = varint-one_to_nine (serial_type 4 value) (serial_type-fits value short) in
    let size = varint-one_to_nine (length (varint (serial_type 4 value)) + 2) (omega (arith, serial)) in
    let payload = varint-one_to_nine (length (row_payload value)) (omega (arith, parts.payload, serial, size)) in
    let rowid = varint-one_to_nine key (omega arith) in
    omega (arith, parts.size, parts.payload, serial, size, payload, rowid)

-- an integer's body has at most eight bytes
int_size-most : (type : ℕ) → type < 7 → int_size type ≤ 8
int_size-most type h = grind (arith, nat_tests)

int_body-most : (type : ℕ) (z : ℤ) → length (int_body type z) ≤ 8
int_body-most type z =
    let bytes : List ℕ = big_bytes (int_size type) (low_bytes w64 (int_size type) z) in
    cond_both (ltb type 7) bytes [] (λ (b : List ℕ). length b ≤ 8)
    (λ h. omega (arith, length-bytes_high_first (int_size type) (low_bytes w64 (int_size type) z), int_size-most type (ltb-true type 7 h)))
    (λ h. omega arith)

pub integer-body : (z : ℤ) → length (body 4 (Int z)) ≤ 8
integer-body z = int_body-most (int_serial_type 4 z) z

-- the room of rows by that of their bodies
pub rows_from-room : (key : ℕ) (values : List Value) → key + 2 * length values < 2 ^ 32 → sum_by (λ value. length (body 4 value)) values < 2 ^ 32
    → 2 * length (rows_from key values) + sum_by length (rows_from key values) ≤ 39 * length values + sum_by (λ value. length (body 4 value)) values
rows_from-room key [] small short = omega arith
rows_from-room key (value ∷ values) small short =
    let bodies = sum_by-cons (λ (v : Value). length (body 4 v)) value values in
    let rest = rows_from-room (next_key key) values (omega (arith, next_key-most key)) (omega (arith, bodies)) in
    let first = row_cell-short key value (omega arith) (omega (arith, bodies)) in
    omega (arith, rest, first, bodies, sum_by-cons length (row_cell key value) (rows_from (next_key key) values))
