-- How long the bytes of an integer are, and a record.
use Rattle.std.proofs.Common.{◌≡◌, ℕ, ℤ, pos, negsuc, ◌+◌, ◌-◌, ◌/◌, ◌^◌, ◌<◌, ◌≤◌, ◌==◌, ◌&&◌, Bool, true, false, length, refl, sym, ap, ◌∙◌, if◌then◌else◌, arith}
use Rattle.std.specs.Prelude.{nat_lt, List, []}
use Rattle.std.specs.Int.{w64}
use Rattle.std.proofs.lemmas.Bool.{and_parts}
use Rattle.byteorder.specs.Endian.{big_bytes, low_bytes}
use Rattle.byteorder.specs.Numbers.{length-bytes_high_first}
use Rattle.std.specs.List.{flat_map}
use Rattle.rbu_value.specs.declared.value.Value.{Value}
use Rattle.format_spec.specs.Record.{magnitude, int_type, int_size, int_serial_type, int_body, header_size_bytes, serial_types, body, canonical_record}
use Rattle.record_codec.specs.Faults.{body_size}
use Rattle.record_codec.specs.RecordLaws.{record-size, header-size}

in_bytes : (n : ℕ) (bytes : List ℕ) → length bytes ≡ n → (t : Bool) → length (if t then bytes else []) ≡ (if t then n else 0)
in_bytes n bytes e true = e
in_bytes n bytes e false = refl

abbrev size_by : ℕ → Bool → Bool → Bool → ℕ
size_by type none some constant = if none then 0 else (if some then int_size type else (if constant then 0 else (type - 12) / 2))

int_body-size : (type : ℕ) (z : ℤ) → 1 ≤ type → type ≤ 9 → length (int_body type z) ≡ body_size type
int_body-size type z least most =
    let none : nat_lt type 1 ≡ false = grind (arith, least) in
    let constant : nat_lt type 12 ≡ true = grind (arith, most) in
    let n = int_size type in
    in_bytes n (big_bytes n (low_bytes w64 n z)) (length-bytes_high_first n (low_bytes w64 n z)) (nat_lt type 7)
    ∙ sym (ap (λ t. size_by type t (nat_lt type 7) (nat_lt type 12)) none ∙ ap (λ t. size_by type false (nat_lt type 7) t) constant)

abbrev IsType : ℕ → Type 0
IsType type = (1 ≤ type) × (type ≤ 9)

if-type : (b : Bool) (s t : ℕ) → (b ≡ true → IsType s) → IsType t → IsType (if b then s else t)
if-type true s t p q = p refl
if-type false s t p q = q

int_type-bounds : (z : ℤ) → IsType (int_type z)
int_type-bounds z =
    let m = magnitude z in
    if-type (nat_lt m (2 ^ 7)) 1 _ (λ e. (omega arith, omega arith)) (if-type (nat_lt m (2 ^ 15)) 2 _ (λ e. (omega arith, omega arith)) (if-type (nat_lt m (2 ^ 23)) 3 _ (λ e. (omega arith, omega arith))
    (if-type (nat_lt m (2 ^ 31)) 4 _ (λ e. (omega arith, omega arith)) (if-type (nat_lt m (2 ^ 47)) 5 6 (λ e. (omega arith, omega arith)) (omega arith, omega arith)))))

below_two : (n : ℕ) → nat_lt n 2 ≡ true → IsType (8 + n)
below_two n e = let less : n < 2 = grind (arith, e) in (omega arith, omega (arith, less))

int_serial_type-bounds : (format : ℕ) (z : ℤ) → IsType (int_serial_type format z)
int_serial_type-bounds format (pos n) = if-type ((format == 4) && nat_lt n 2) (8 + n) (int_type (pos n)) (λ e. below_two n (and_parts (format == 4) (nat_lt n 2) e).1) (int_type-bounds (pos n))
int_serial_type-bounds format (negsuc n) = int_type-bounds (negsuc n)

pub int_body_is : (format : ℕ) (z : ℤ) → length (int_body (int_serial_type format z) z) ≡ body_size (int_serial_type format z)
int_body_is format z = let bounds = int_serial_type-bounds format z in int_body-size (int_serial_type format z) z bounds.0 bounds.1

pub record_length_is : (format : ℕ) (values : List Value)
    → length (canonical_record format values) ≡ length (serial_types format values) + header_size_bytes (length (serial_types format values)) + length (flat_map (body format) values)
record_length_is format values =
    let n = length (serial_types format values) in
    record-size format values ∙ ap (λ k. k + n + length (flat_map (body format) values)) (header-size n) ∙ omega arith
