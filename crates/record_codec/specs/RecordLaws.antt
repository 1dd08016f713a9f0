-- What follows from the definition of records alone: crates above cite these facts in their proofs.
use Rattle.std.proofs.Common.{◌≡◌, ℕ, ◌+◌, ◌*◌, ◌^◌, ◌<◌, ◌≤◌, ◌&&◌, ℤ, pos, negsuc, cond, ltb, eqb, List, [], ◌∷◌, ◌++◌, length, inl, inr, refl, sym, ◌∙◌, ap, subst, append_assoc, length-append, arith}
use Rattle.std.proofs.lemmas.Bool.{cond_both, and_parts, ltb-true, ltb-false}
use Rattle.std.proofs.lemmas.Bool.Decides.{nat_tests}
use Rattle.std.proofs.lemmas.List.{append_cancel_left}
use Rattle.std.specs.List.{AllByRecursion, flat_map}
use Rattle.rbu_value.specs.declared.value.Value.{Value}
use Rattle.rbu_value.specs.declared.value.Value.TheVariants.{Null, Int, Text, Blob}
use Rattle.format_spec.specs.Varint.{IsVarint, varint, varint_front}
use Rattle.format_spec.specs.Record.{int_type, int_size, int_body, serial_type, body, header_size_bytes, serial_types, record_header, canonical_record, IsField, AreFields, IsRecord}
use Rattle.cell_codec.specs.VarintLaws.{varint-same, spelling-one_to_nine, varint_size, varint_spells}
use Rattle.byte_fields.specs.BytesLaws.{append-same}
use Rattle.record_codec.specs.Faults.{body_size}
use Rattle.record_codec.specs.Records.{IsStored, HaveRecord}
use Rattle.record_codec.specs.IntegersLaws.{field-shortest, int_body-none}

-- how many bytes a field has
pub field-size : (type : ℕ) (bytes : List ℕ) (value : Value) → IsField type bytes value → length bytes ≡ body_size type
field-size type bytes Null f = grind (arith, nat_tests)
field-size type bytes (Int z) f =
    elim f [
      | inl g ↦
          let least : 1 ≤ type = g.0 in
          let most : type ≤ 6 = g.1 in
          let size : length bytes ≡ int_size type = g.2 in
          grind (arith, nat_tests)
      | inr g ↦
          let least : 8 ≤ type = g.0 in
          let most : type ≤ 9 = g.1 in
          let none : length bytes ≡ 0 = ap length g.2 in
          grind (arith, nat_tests)
    ]
field-size type bytes (Text text) f =
    let size : length bytes ≡ length text = ap length f.1 in
    let is : type ≡ 2 * length text + 13 = f.0 in
    grind (arith, nat_tests)
field-size type bytes (Blob blob) f =
    let size : length bytes ≡ length blob = ap length f.1 in
    let is : type ≡ 2 * length blob + 12 = f.0 in
    grind (arith, nat_tests)

-- an integer's serial type is below 10
int_type_below : (type : ℕ) (bytes : List ℕ) (z : ℤ) → IsField type bytes (Int z) → (1 ≤ type) × (type < 10)
int_type_below type bytes z f = elim f [ inl g ↦ (omega (arith, g.0), omega (arith, g.1)) | inr g ↦ (omega (arith, g.0), omega (arith, g.1)) ]

same_int : (type : ℕ) (bytes : List ℕ) (y z : ℤ) → IsField type bytes (Int y) → IsField type bytes (Int z) → y ≡ z
same_int type bytes y z f g =
    elim f [
      | inl h ↦ elim g [ inl k ↦ h.3 ∙ sym k.3 | inr k ↦ absurd (omega (arith, h.1, k.0)) ]
      | inr h ↦ elim g [ inl k ↦ absurd (omega (arith, h.0, k.1)) | inr k ↦ h.3 ∙ sym k.3 ]
    ]

-- a serial type and bytes stand for one value
pub field-same : (type : ℕ) (bytes : List ℕ) (a b : Value) → IsField type bytes a → IsField type bytes b → a ≡ b
field-same type bytes Null Null f g = refl
field-same type bytes Null (Int z) f g = absurd (omega (arith, f.0, int_type_below type bytes z g))
field-same type bytes Null (Text text) f g = absurd (omega (arith, f.0, g.0))
field-same type bytes Null (Blob blob) f g = absurd (omega (arith, f.0, g.0))
field-same type bytes (Int z) Null f g = absurd (omega (arith, g.0, int_type_below type bytes z f))
field-same type bytes (Int y) (Int z) f g = ap Int (same_int type bytes y z f g)
field-same type bytes (Int z) (Text text) f g = absurd (omega (arith, g.0, int_type_below type bytes z f))
field-same type bytes (Int z) (Blob blob) f g = absurd (omega (arith, g.0, int_type_below type bytes z f))
field-same type bytes (Text text) Null f g = absurd (omega (arith, f.0, g.0))
field-same type bytes (Text text) (Int z) f g = absurd (omega (arith, f.0, int_type_below type bytes z g))
field-same type bytes (Text text) (Text other) f g = ap Text (sym f.1 ∙ g.1)
field-same type bytes (Text text) (Blob blob) f g = absurd (omega (arith, f.0, g.0))
field-same type bytes (Blob blob) Null f g = absurd (omega (arith, f.0, g.0))
field-same type bytes (Blob blob) (Int z) f g = absurd (omega (arith, f.0, int_type_below type bytes z g))
field-same type bytes (Blob blob) (Text text) f g = absurd (omega (arith, f.0, g.0))
field-same type bytes (Blob blob) (Blob other) f g = ap Blob (sym f.1 ∙ g.1)

-- a varint is not empty
pub varint-not_empty : (bytes spelling rest : List ℕ) (type : ℕ) → IsVarint spelling type → bytes ≡ spelling ++ rest → bytes ≡ [] → ⊥
varint-not_empty bytes spelling rest type v e n =
    omega (arith, spelling-one_to_nine spelling type v, ap length (sym e ∙ n), length-append spelling rest)

-- serial types say what values they are of, and where their bodies end
pub fields-same : (types b c x y : List ℕ) (vs ws : List Value) → AreFields types b vs → AreFields types c ws → b ++ x ≡ c ++ y → (vs ≡ ws) × (b ≡ c)
fields-same types b c x y [] [] f g e = (refl, f.1 ∙ sym g.1)
fields-same types b c x y [] (w ∷ ws) f g e = absurd (varint-not_empty types g.1 g.3 g.0 g.5 g.6 f.0)
fields-same types b c x y (v ∷ vs) [] f g e = absurd (varint-not_empty types f.1 f.3 f.0 f.5 f.6 g.0)
fields-same types b c x y (v ∷ vs) (w ∷ ws) f g e =
    let same = varint-same f.3 g.3 f.5 g.5 (sym f.6 ∙ g.6) in
    let spellings : f.1 ≡ g.1 = same.0 in
    let kinds : f.0 ≡ g.0 = same.1 in
    let others : f.3 ≡ g.3 = append_cancel_left f.1 f.3 g.3 (sym f.6 ∙ g.6 ∙ ap (λ s. s ++ g.3) (sym spellings)) in
    let sizes : length f.2 ≡ length g.2 = field-size f.0 f.2 v f.8 ∙ ap body_size kinds ∙ sym (field-size g.0 g.2 w g.8) in
    let split : f.2 ++ (f.4 ++ x) ≡ g.2 ++ (g.4 ++ y) =
    sym (append_assoc f.2 f.4 x) ∙ ap (λ s. s ++ x) (sym f.7) ∙ e ∙ ap (λ s. s ++ y) g.7 ∙ append_assoc g.2 g.4 y in
    let parts = append-same f.2 g.2 (f.4 ++ x) (g.4 ++ y) sizes split in
    let field : IsField g.0 g.2 v = subst (λ t. IsField t g.2 v) kinds (subst (λ s. IsField f.0 s v) parts.0 f.8) in
    let first : v ≡ w = field-same g.0 g.2 v w field g.8 in
    let rest = fields-same g.3 f.4 g.4 x y vs ws (subst (λ s. AreFields s f.4 vs) others f.9) g.9 parts.1 in
    let values : vs ≡ ws = rest.0 in
    let left : f.4 ≡ g.4 = rest.1 in
    (cc, f.7 ∙ ap (λ s. s ++ f.4) parts.0 ∙ ap (λ s. g.2 ++ s) left ∙ sym g.7)

-- the size of a header says where it ends
pub header-same : (size types rest other_size other_types other_rest : List ℕ) → IsVarint size (length size + length types) → IsVarint other_size (length other_size + length other_types)
    → size ++ (types ++ rest) ≡ other_size ++ (other_types ++ other_rest) → (size ≡ other_size) × (types ≡ other_types) × (rest ≡ other_rest)
header-same size types rest other_size other_types other_rest v w e =
    let same = varint-same (types ++ rest) (other_types ++ other_rest) v w e in
    let sizes : size ≡ other_size = same.0 in
    let behind : types ++ rest ≡ other_types ++ other_rest =
    append_cancel_left size (types ++ rest) (other_types ++ other_rest) (e ∙ ap (λ s. s ++ (other_types ++ other_rest)) (sym sizes)) in
    let parts = append-same types other_types rest other_rest (omega (arith, same.1, ap length sizes)) behind in
    (sizes, parts.0, parts.1)

-- no record begins a record of other values
pub record-same : (a b : List Value) (bytes others x y : List ℕ) → IsRecord bytes a → IsRecord others b → bytes ++ x ≡ others ++ y → (a ≡ b) × (bytes ≡ others)
record-same a b bytes others x y r s e =
    let left : bytes ++ x ≡ r.size ++ (r.types ++ (r.bodies ++ x)) =
    ap (λ t. t ++ x) r.whole ∙ append_assoc r.size (r.types ++ r.bodies) x ∙ ap (λ t. r.size ++ t) (append_assoc r.types r.bodies x) in
    let right : others ++ y ≡ s.size ++ (s.types ++ (s.bodies ++ y)) =
    ap (λ t. t ++ y) s.whole ∙ append_assoc s.size (s.types ++ s.bodies) y ∙ ap (λ t. s.size ++ t) (append_assoc s.types s.bodies y) in
    let parts = header-same r.size r.types (r.bodies ++ x) s.size s.types (s.bodies ++ y) r.header s.header (sym left ∙ e ∙ right) in
    let fields = fields-same s.types r.bodies s.bodies x y a b (subst (λ t. AreFields t r.bodies a) parts.1 r.fields) s.fields parts.2 in (
      fields.0,
      r.whole ∙ ap (λ t. t ++ (r.types ++ r.bodies)) parts.0 ∙ ap (λ t. s.size ++ (t ++ r.bodies)) parts.1 ∙ ap (λ t. s.size ++ (s.types ++ t)) fields.1 ∙ sym s.whole,
    )

-- 0 and 1 in serial types of their own
small_field : (n : ℕ) → n < 2 → IsField (8 + n) (int_body (8 + n) (pos n)) (Int (pos n))
small_field n h = inr (omega arith, omega arith, int_body-none (8 + n) (pos n) (omega arith), ap pos (omega arith))

-- what the canonical record gives a value is a field of it
canonical_field : (format : ℕ) (value : Value) → IsStored value → IsField (serial_type format value) (body format value) value
canonical_field format Null s = (refl, refl)
canonical_field format (Int (pos n)) s =
    cond_both (eqb format 4 && ltb n 2) (8 + n) (int_type (pos n)) (λ t. IsField t (int_body t (pos n)) (Int (pos n)))
    (λ h. small_field n (ltb-true n 2 (and_parts (eqb format 4) (ltb n 2) h).1))
    (λ _. field-shortest (pos n) s)
canonical_field format (Int (negsuc n)) s = field-shortest (negsuc n) s
canonical_field format (Text bytes) s = (refl, refl)
canonical_field format (Blob bytes) s = (refl, refl)

-- and its serial type fits 64 bits
serial_type_fits : (format : ℕ) (value : Value) → IsStored value → serial_type format value < 2 ^ 64
serial_type_fits format Null s = omega arith
serial_type_fits format (Int z) s = omega (arith, int_type_below (serial_type format (Int z)) (body format (Int z)) z (canonical_field format (Int z) s))
serial_type_fits format (Text bytes) s = s
serial_type_fits format (Blob bytes) s = s

canonical_fields : (format : ℕ) (values : List Value) → AllByRecursion IsStored values → AreFields (serial_types format values) (flat_map (body format) values) values
canonical_fields format [] s = (refl, refl)
canonical_fields format (value ∷ values) s = (
  serial_type format value,
  varint (serial_type format value),
  body format value,
  serial_types format values,
  flat_map (body format) values,
  varint_spells (serial_type format value) (serial_type_fits format value s.0),
  refl,
  refl,
  canonical_field format value s.0,
  canonical_fields format values s.1,
)

-- the size of a header takes so many bytes
SizeTakes : ℕ → ℕ → Type 0
SizeTakes n k = length (varint (n + k)) ≡ k

front_between : (x : ℕ) → (x < 2 ^ 7 → varint_front x ≡ 0) × (2 ^ 7 ≤ x → x < 2 ^ 14 → varint_front x ≡ 1) × (2 ^ 14 ≤ x → x < 2 ^ 21 → varint_front x ≡ 2) × (2 ^ 21 ≤ x → x < 2 ^ 28 → varint_front x ≡ 3) × (2 ^ 28 ≤ x → x < 2 ^ 35 → varint_front x ≡ 4) × (2 ^ 35 ≤ x → x < 2 ^ 42 → varint_front x ≡ 5) × (2 ^ 42 ≤ x → x < 2 ^ 49 → varint_front x ≡ 6) × (2 ^ 49 ≤ x → x < 2 ^ 56 → varint_front x ≡ 7) × (2 ^ 56 ≤ x → varint_front x ≡ 8)
unfolding varint_front
front_between x = (λ h. grind (arith, nat_tests), λ h k. grind (arith, nat_tests), λ h k. grind (arith, nat_tests), λ h k. grind (arith, nat_tests), λ h k. grind (arith, nat_tests), λ h k. grind (arith, nat_tests), λ h k. grind (arith, nat_tests), λ h k. grind (arith, nat_tests), λ h. grind (arith, nat_tests))

size_takes : (n : ℕ) → SizeTakes n (header_size_bytes n)
unfolding SizeTakes
size_takes n =
    cond_both (ltb (n + 1) (2 ^ 7)) 1 _ (SizeTakes n) (λ h. omega (arith, varint_size (n + 1), (front_between (n + 1)).0 (ltb-true (n + 1) (2 ^ 7) h))) (λ h1.
    cond_both (ltb (n + 2) (2 ^ 14)) 2 _ (SizeTakes n) (λ h. omega (arith, varint_size (n + 2), (front_between (n + 2)).1 (omega (arith, ltb-false (n + 1) (2 ^ 7) h1)) (ltb-true (n + 2) (2 ^ 14) h))) (λ h2.
    cond_both (ltb (n + 3) (2 ^ 21)) 3 _ (SizeTakes n) (λ h. omega (arith, varint_size (n + 3), (front_between (n + 3)).2 (omega (arith, ltb-false (n + 2) (2 ^ 14) h2)) (ltb-true (n + 3) (2 ^ 21) h))) (λ h3.
    cond_both (ltb (n + 4) (2 ^ 28)) 4 _ (SizeTakes n) (λ h. omega (arith, varint_size (n + 4), (front_between (n + 4)).3 (omega (arith, ltb-false (n + 3) (2 ^ 21) h3)) (ltb-true (n + 4) (2 ^ 28) h))) (λ h4.
    cond_both (ltb (n + 5) (2 ^ 35)) 5 _ (SizeTakes n) (λ h. omega (arith, varint_size (n + 5), (front_between (n + 5)).4 (omega (arith, ltb-false (n + 4) (2 ^ 28) h4)) (ltb-true (n + 5) (2 ^ 35) h))) (λ h5.
    cond_both (ltb (n + 6) (2 ^ 42)) 6 _ (SizeTakes n) (λ h. omega (arith, varint_size (n + 6), (front_between (n + 6)).5 (omega (arith, ltb-false (n + 5) (2 ^ 35) h5)) (ltb-true (n + 6) (2 ^ 42) h))) (λ h6.
    cond_both (ltb (n + 7) (2 ^ 49)) 7 _ (SizeTakes n) (λ h. omega (arith, varint_size (n + 7), (front_between (n + 7)).6 (omega (arith, ltb-false (n + 6) (2 ^ 42) h6)) (ltb-true (n + 7) (2 ^ 49) h))) (λ h7.
    cond_both (ltb (n + 8) (2 ^ 56)) 8 9 (SizeTakes n) (λ h. omega (arith, varint_size (n + 8), (front_between (n + 8)).7 (omega (arith, ltb-false (n + 7) (2 ^ 49) h7)) (ltb-true (n + 8) (2 ^ 56) h))) (λ h8.
    omega (arith, varint_size (n + 9), (front_between (n + 9)).8 (omega (arith, ltb-false (n + 8) (2 ^ 56) h8)))))))))))

-- the size of a header says so
pub header-size : (n : ℕ) → length (varint (n + header_size_bytes n)) ≡ header_size_bytes n
unfolding SizeTakes
header-size n = size_takes n

-- one more case of a size: that of the longer header is no less, and at least this one
size_step : (m n k limit a b : ℕ) → m ≤ n → (a ≤ b) × (k + 1 ≤ b) → (cond (ltb (m + k) limit) k a ≤ cond (ltb (n + k) limit) k b) × (k ≤ cond (ltb (n + k) limit) k b)
size_step m n k limit a b less rest = (grind (arith, nat_tests), grind (arith, nat_tests))

-- more serial types have no shorter size
pub header_size_bytes-grows : (m n : ℕ) → m ≤ n → header_size_bytes m ≤ header_size_bytes n
header_size_bytes-grows m n less =
    (size_step m n 1 (2 ^ 7) _ _ less (
    size_step m n 2 (2 ^ 14) _ _ less (
    size_step m n 3 (2 ^ 21) _ _ less (
    size_step m n 4 (2 ^ 28) _ _ less (
    size_step m n 5 (2 ^ 35) _ _ less (
    size_step m n 6 (2 ^ 42) _ _ less (
    size_step m n 7 (2 ^ 49) _ _ less (
    size_step m n 8 (2 ^ 56) _ _ less (
    (omega arith, omega arith)))))))))).0

-- the length of a record
pub record-size : (format : ℕ) (values : List Value) → length (canonical_record format values)
    ≡ length (varint (length (serial_types format values) + header_size_bytes (length (serial_types format values)))) + length (serial_types format values) + length (flat_map (body format) values)
unfolding canonical_record
record-size format values =
    let types = serial_types format values in
    let size = varint (length types + header_size_bytes (length types)) in
    omega (arith, length-append (size ++ types) (flat_map (body format) values), length-append size types)

-- the canonical record of values is a record of them
pub canonical_record_read : (format : ℕ) (values : List Value) → HaveRecord format values → IsRecord (canonical_record format values) values
unfolding canonical_record
canonical_record_read format values h =
    let types = serial_types format values in
    let n = length types in
    let k = header_size_bytes n in
    let size = varint (n + k) in
    let takes : length size ≡ k = header-size n in
    let most : n + k < 2 ^ 64 = omega (arith, h.header, takes, length-append size types) in
    record {
      size = size;
      types = types;
      bodies = flat_map (body format) values;
      whole = append_assoc size types (flat_map (body format) values);
      header = subst (IsVarint size) (omega (arith, takes)) (varint_spells (n + k) most);
      fields = canonical_fields format values h.stored;
    }

-- no canonical record begins another
pub canonical_record-apart : (format : ℕ) (a b : List Value) (x y : List ℕ) → HaveRecord format a → HaveRecord format b → canonical_record format a ++ x ≡ canonical_record format b ++ y → (a ≡ b) × (x ≡ y)
canonical_record-apart format a b x y h k e =
    let same = record-same a b (canonical_record format a) (canonical_record format b) x y (canonical_record_read format a h) (canonical_record_read format b k) e in
    (same.0, append_cancel_left (canonical_record format a) x y (e ∙ ap (λ s. s ++ y) (sym same.1)))

-- the header is shorter than its record
pub record-short : (format : ℕ) (values : List Value) → AllByRecursion IsStored values → length (canonical_record format values) < 2 ^ 64 → HaveRecord format values
unfolding canonical_record
record-short format values s h =
    record {
      stored = s;
      header = omega (arith, h, length-append (record_header format values) (flat_map (body format) values));
    }
