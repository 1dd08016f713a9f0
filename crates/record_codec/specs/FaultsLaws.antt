-- Bytes have one fault at most, and a record has none: crates above cite these facts in their proofs.
use Rattle.std.proofs.Common.{◌≡◌, ℕ, ◌+◌, List, [], ◌∷◌, ◌++◌, length, inl, inr, refl, sym, ◌∙◌, ap, subst, length-append, take, arith}
use Rattle.std.proofs.lemmas.List.{append_cancel_left, take_at}
use Rattle.std.proofs.lemmas.List.Sums.{sum_by-cons}
use Rattle.std.specs.List.{sum_by}
use Rattle.rbu_value.specs.declared.value.Value.{Value}
use Rattle.rbu_value.specs.declared.value.Value.TheVariants.{Null, Int, Text, Blob}
use Rattle.format_spec.specs.Varint.{IsVarint}
use Rattle.format_spec.specs.Record.{IsField, AreFields, IsRecord}
use Rattle.cell_codec.specs.Varints.{IsCut}
use Rattle.cell_codec.specs.VarintLaws.{varint-same, high-none}
use Rattle.record_codec.specs.declared.read.RecordFault.{RecordFault}
use Rattle.record_codec.specs.declared.read.RecordFault.TheVariants.{ShortHeader, ReservedType, RealValue, BodyLength, Memory}
use Rattle.record_codec.specs.Faults.{IsReserved, IsValueType, body_size, BeginsWith, After, StopsWith, FieldsHaveFault, HasHeader, HasNoHeader, HasFault}
use Rattle.record_codec.specs.RecordLaws.{field-size, varint-not_empty, header-same, record-same}
use Rattle.common_spec.specs.Reading.{OrFault}
use Rattle.common_spec.specs.ReadingLaws.{IsOne, OrFault-one}

-- no varint stands at the front of bytes that end inside it
pub varint-not_cut : (bytes spelling rest : List ℕ) (type : ℕ) → IsCut bytes → IsVarint spelling type → bytes ≡ spelling ++ rest → ⊥
varint-not_cut bytes spelling rest type c v e =
    high-none bytes (length spelling) type c.0 c.1 (subst (λ s. IsVarint s type) (sym (ap (take (length spelling)) e ∙ take_at spelling rest (length spelling) refl)) v)

reserved-no_value : (type : ℕ) → IsReserved type → IsValueType type → ⊥
reserved-no_value type r k = elim r [ inl e ↦ k.1 e | inr e ↦ k.2 e ]

-- the serial type of a value stops no reading
pub value_type-no_stop : (fault : RecordFault) (bytes spelling rest : List ℕ) (type : ℕ) → StopsWith fault bytes → IsVarint spelling type → IsValueType type → bytes ≡ spelling ++ rest → ⊥
value_type-no_stop ShortHeader bytes spelling rest type s v k e = varint-not_cut bytes spelling rest type s.1 v e
value_type-no_stop ReservedType bytes spelling rest type s v k e =
    reserved-no_value type (subst IsReserved (varint-same s.rest rest s.varint v (sym s.whole ∙ e)).1 s.holds) k
value_type-no_stop RealValue bytes spelling rest type s v k e = k.0 (sym (varint-same s.rest rest s.varint v (sym s.whole ∙ e)).1 ∙ s.holds)
value_type-no_stop BodyLength bytes spelling rest type s v k e = varint-not_empty bytes spelling rest type v e s
value_type-no_stop (Memory error) bytes spelling rest type s v k e = s

-- a varint at the front is neither cut nor the end
BeginsWith-not_cut : (P : ℕ → Type 0) (bytes : List ℕ) → BeginsWith P bytes → IsCut bytes → ⊥
BeginsWith-not_cut P bytes b c = varint-not_cut bytes b.spelling b.rest b.type c b.varint b.whole

BeginsWith-not_end : (P : ℕ → Type 0) (bytes : List ℕ) → BeginsWith P bytes → bytes ≡ [] → ⊥
BeginsWith-not_end P bytes b e = varint-not_empty bytes b.spelling b.rest b.type b.varint b.whole e

reserved-not_real : (bytes : List ℕ) → BeginsWith IsReserved bytes → BeginsWith (λ type. type ≡ 7) bytes → ⊥
reserved-not_real bytes b c =
    let same : b.type ≡ c.type = (varint-same b.rest c.rest b.varint c.varint (sym b.whole ∙ c.whole)).1 in
    let seven : c.type ≡ 7 = c.holds in
    elim b.holds [ inl e ↦ omega (arith, e, same, seven) | inr e ↦ omega (arith, e, same, seven) ]

-- one fault stops the reading
pub StopsWith-same : (f g : RecordFault) (bytes : List ℕ) → StopsWith f bytes → StopsWith g bytes → f ≡ g
StopsWith-same ShortHeader ShortHeader bytes s t = refl
StopsWith-same ShortHeader ReservedType bytes s t = absurd (BeginsWith-not_cut IsReserved bytes t s.1)
StopsWith-same ShortHeader RealValue bytes s t = absurd (BeginsWith-not_cut (λ type. type ≡ 7) bytes t s.1)
StopsWith-same ShortHeader BodyLength bytes s t = absurd (s.0 t)
StopsWith-same ShortHeader (Memory error) bytes s t = absurd t
StopsWith-same ReservedType ShortHeader bytes s t = absurd (BeginsWith-not_cut IsReserved bytes s t.1)
StopsWith-same ReservedType ReservedType bytes s t = refl
StopsWith-same ReservedType RealValue bytes s t = absurd (reserved-not_real bytes s t)
StopsWith-same ReservedType BodyLength bytes s t = absurd (BeginsWith-not_end IsReserved bytes s t)
StopsWith-same ReservedType (Memory error) bytes s t = absurd t
StopsWith-same RealValue ShortHeader bytes s t = absurd (BeginsWith-not_cut (λ type. type ≡ 7) bytes s t.1)
StopsWith-same RealValue ReservedType bytes s t = absurd (reserved-not_real bytes t s)
StopsWith-same RealValue RealValue bytes s t = refl
StopsWith-same RealValue BodyLength bytes s t = absurd (BeginsWith-not_end (λ type. type ≡ 7) bytes s t)
StopsWith-same RealValue (Memory error) bytes s t = absurd t
StopsWith-same BodyLength ShortHeader bytes s t = absurd (t.0 s)
StopsWith-same BodyLength ReservedType bytes s t = absurd (BeginsWith-not_end IsReserved bytes t s)
StopsWith-same BodyLength RealValue bytes s t = absurd (BeginsWith-not_end (λ type. type ≡ 7) bytes t s)
StopsWith-same BodyLength BodyLength bytes s t = refl
StopsWith-same BodyLength (Memory error) bytes s t = absurd t
StopsWith-same (Memory error) g bytes s t = absurd s

-- and after the same serial types
pub After-same_stop : (f g : RecordFault) (rs ss types : List ℕ) → After (StopsWith f) rs types → After (StopsWith g) ss types → (rs ≡ ss) × (f ≡ g)
After-same_stop f g [] [] types a b = (refl, StopsWith-same f g types a b)
After-same_stop f g [] (s ∷ ss) types a b = absurd (value_type-no_stop f types b.0 b.1 s a b.2 b.3 b.4)
After-same_stop f g (r ∷ rs) [] types a b = absurd (value_type-no_stop g types a.0 a.1 r b a.2 a.3 a.4)
After-same_stop f g (r ∷ rs) (s ∷ ss) types a b =
    let same = varint-same a.1 b.1 a.2 b.2 (sym a.4 ∙ b.4) in
    let rests : a.1 ≡ b.1 = append_cancel_left a.0 a.1 b.1 (sym a.4 ∙ b.4 ∙ ap (λ t. t ++ b.1) (sym same.0)) in
    let behind = After-same_stop f g rs ss b.1 (subst (After (StopsWith f) rs) rests a.5) b.5 in
    let first : r ≡ s = same.1 in
    let others : rs ≡ ss = behind.0 in
    (cc, behind.1)

-- a field's serial type is one of a value
pub field-value_type : (type : ℕ) (bytes : List ℕ) (value : Value) → IsField type bytes value → IsValueType type
field-value_type type bytes Null f = (λ e. omega (arith, f.0, e), λ e. omega (arith, f.0, e), λ e. omega (arith, f.0, e))
field-value_type type bytes (Int z) f =
    elim f [
      | inl g ↦ (λ e. omega (arith, g.1, e), λ e. omega (arith, g.1, e), λ e. omega (arith, g.1, e))
      | inr g ↦ (λ e. omega (arith, g.0, e), λ e. omega (arith, g.1, e), λ e. omega (arith, g.1, e))
    ]
field-value_type type bytes (Text text) f = (λ e. omega (arith, f.0, e), λ e. omega (arith, f.0, e), λ e. omega (arith, f.0, e))
field-value_type type bytes (Blob blob) f = (λ e. omega (arith, f.0, e), λ e. omega (arith, f.0, e), λ e. omega (arith, f.0, e))

-- the serial types of fields
fields-types : (types bodies : List ℕ) (values : List Value) → AreFields types bodies values → (read : List ℕ) × After (StopsWith BodyLength) read types × (length bodies ≡ sum_by body_size read)
fields-types types bodies [] f = ([], f.0, ap length f.1)
fields-types types bodies (v ∷ vs) f =
    let rest = fields-types f.3 f.4 vs f.9 in (
      f.0 ∷ rest.0,
      (f.1, f.3, f.5, field-value_type f.0 f.2 v f.8, f.6, rest.1),
      ap length f.7 ∙ length-append f.2 f.4 ∙ ap (λ n. n + length f.4) (field-size f.0 f.2 v f.8) ∙ ap (λ n. body_size f.0 + n) rest.2 ∙ sym (sum_by-cons body_size f.0 rest.0),
    )

fields-no_fault : (types bodies : List ℕ) (values : List Value) (fault : RecordFault) → AreFields types bodies values → FieldsHaveFault types bodies fault → ⊥
fields-no_fault types bodies values fault f h =
    let read = fields-types types bodies values f in
    let same = After-same_stop fault BodyLength h.read read.0 types h.stop read.1 in
    h.sizes same.1 (read.2 ∙ ap (sum_by body_size) (sym same.0))

header-whole : (bytes types bodies : List ℕ) → HasHeader bytes types bodies → HasNoHeader bytes → ⊥
header-whole bytes types bodies h n =
    elim n [
      | inl cut ↦ varint-not_cut bytes h.size (types ++ bodies) (length h.size + length types) cut h.header h.whole
      | inr w ↦
          let same = varint-same (types ++ bodies) w.1 h.header w.4 (sym h.whole ∙ w.3) in
          let sizes : length h.size ≡ length w.0 = ap length same.0 in
          let header : length h.size + length types ≡ w.2 = same.1 in
          let all : length bytes ≡ length h.size + (length types + length bodies) =
          ap length h.whole ∙ length-append h.size (types ++ bodies) ∙ ap (λ n. length h.size + n) (length-append types bodies) in
          elim w.5 [ inl less ↦ omega (arith, less, sizes, header) | inr more ↦ omega (arith, more, all, header) ]
    ]

-- a record has no fault
pub record-no_fault : (bytes : List ℕ) (values : List Value) (fault : RecordFault) → IsRecord bytes values → HasFault bytes fault → ⊥
record-no_fault bytes values fault r h =
    let own : HasHeader bytes r.types r.bodies = record { size = r.size; whole = r.whole; header = r.header } in
    elim h [
      | inl n ↦ header-whole bytes r.types r.bodies own n.1
      | inr f ↦
          let parts = header-same r.size r.types r.bodies f.2.size f.0 f.1 r.header f.2.header (sym r.whole ∙ f.2.whole) in
          fields-no_fault f.0 f.1 values fault (subst (λ t. AreFields t f.1 values) parts.1 (subst (λ b. AreFields r.types b values) parts.2 r.fields)) f.3
    ]

-- and other bytes have one
pub HasFault-same : (bytes : List ℕ) (f g : RecordFault) → HasFault bytes f → HasFault bytes g → f ≡ g
HasFault-same bytes f g h k =
    elim h [
      | inl m ↦ elim k [ inl n ↦ m.0 ∙ sym n.0 | inr w ↦ absurd (header-whole bytes w.0 w.1 w.2 m.1) ]
      | inr v ↦
          elim k [
            | inl n ↦ absurd (header-whole bytes v.0 v.1 v.2 n.1)
            | inr w ↦
                let parts = header-same v.2.size v.0 v.1 w.2.size w.0 w.1 v.2.header w.2.header (sym v.2.whole ∙ w.2.whole) in
                (After-same_stop f g v.3.read w.3.read w.0 (subst (After (StopsWith f) v.3.read) parts.1 v.3.stop) w.3.stop).1
          ]
    ]

-- bytes are a record of one list of values, or have one fault
pub answer-one : (bytes : List ℕ) → IsOne (OrFault (IsRecord bytes) (HasFault bytes))
answer-one bytes =
    OrFault-one (IsRecord bytes) (HasFault bytes)
    (λ a b r s. (record-same a b bytes bytes [] [] r s refl).0)
    (HasFault-same bytes)
    (λ values fault. record-no_fault bytes values fault)
