-- What the loops of the reader keep.
use Rattle.std.proofs.Common.{◌≡◌, ℕ, ◌-◌, ◌<◌, ◌≤◌, ◌⊎◌, List, [], ◌∷◌, ◌++◌, length, take, drop, inl, inr, refl, sym, ◌∙◌, ap, subst, append_assoc, length-append, arith, Option, Some}
use Rattle.cell_codec.specs.VarintLaws.{spelling-one_to_nine}
use Rattle.std.proofs.lemmas.List.{nil_from_length, length-take-le, length-drop, take_all, drop-drop, take-append-drop}
use Rattle.std.proofs.lemmas.List.Sums.{sum_by-cons}
use Rattle.std.proofs.lemmas.Bool.{cases_lt}
use Rattle.rbu_value.specs.declared.value.Value.{Value}
use Rattle.format_spec.specs.Varint.{IsVarint}
use Rattle.format_spec.specs.Record.{IsField, AreFields}
use Rattle.record_codec.specs.declared.read.RecordFault.{RecordFault}
use Rattle.record_codec.specs.declared.read.RecordFault.TheVariants.{BodyLength}
use Rattle.record_codec.specs.Faults.{IsReserved, IsValueType, body_size, BeginsWith, After, StopsWith, FieldsHaveFault, HasHeader, HasNoHeader}
use Rattle.record_codec.specs.RecordLaws.{field-size}
use Rattle.common_spec.specs.Reading.{Reads, OrNone}
use Rattle.cell_codec.specs.Varints.{BeginsWithVarint}

-- the reading of serial types ends with this fault
abbrev pub ReadingStops : List ℕ → RecordFault → Type 0
ReadingStops types fault = (read : List ℕ) × After (StopsWith fault) read types

-- what stops the reading of the rest stops that of the whole
pub record TypesContinue (types rest : List ℕ) : Type 0 where
  pub stop : (fault : RecordFault) → ReadingStops rest fault → ReadingStops types fault

-- a serial type of a value at the front, and what is behind it
abbrev pub Splits : List ℕ → ℕ → List ℕ → Type 0
Splits types type behind = IsValueType type × ((spelling : List ℕ) × IsVarint spelling type × (types ≡ spelling ++ behind))

pub TypesContinue-one_more : (types rest behind : List ℕ) (type : ℕ) → TypesContinue types rest → Splits rest type behind → TypesContinue types behind
TypesContinue-one_more types rest behind type c s =
    record { stop = λ fault r. c.stop fault (type ∷ r.0, (s.1.0, behind, s.1.1, s.0, s.1.2, r.1)) }

-- a varint takes something off the serial types
pub Splits-shorter : (types behind : List ℕ) (type : ℕ) → Splits types type behind → length behind < length types
Splits-shorter types behind type s = omega (arith, ap length s.1.2, length-append s.1.0 behind, spelling-one_to_nine s.1.0 type s.1.1)

-- the fields that were read stand in front of those of the rest, and the rest has the fault of the whole
pub record FieldsContinue (types bodies types_left bodies_left : List ℕ) (values : List Value) : Type 0 where
  pub fields : (others : List Value) → AreFields types_left bodies_left others → AreFields types bodies (values ++ others)
  pub fault : (fault : RecordFault) → FieldsHaveFault types_left bodies_left fault → FieldsHaveFault types bodies fault

pub FieldsContinue-none : (types bodies : List ℕ) → FieldsContinue types bodies types bodies []
FieldsContinue-none types bodies = record { fields = λ others f. f; fault = λ fault h. h }

-- the fault of what is behind a field
fields-fault_behind : (types bodies behind rest body : List ℕ) (type : ℕ) (fault : RecordFault) → Splits types type behind → bodies ≡ body ++ rest → length body ≡ body_size type
    → FieldsHaveFault behind rest fault → FieldsHaveFault types bodies fault
fields-fault_behind types bodies behind rest body type fault s e n h =
    record {
      read = type ∷ h.read;
      stop = (s.1.0, behind, s.1.1, s.0, s.1.2, h.stop);
      sizes = λ b all. h.sizes b (omega (arith, all, ap length e, length-append body rest, n, sum_by-cons body_size type h.read));
    }

pub FieldsContinue-one_more : (types bodies types_left bodies_left behind rest body : List ℕ) (values : List Value) (type : ℕ) (value : Value) → FieldsContinue types bodies types_left bodies_left values
    → Splits types_left type behind → bodies_left ≡ body ++ rest → IsField type body value → FieldsContinue types bodies behind rest (values ++ value ∷ [])
FieldsContinue-one_more types bodies types_left bodies_left behind rest body values type value c s e f =
    record {
      fields =
          λ others g.
          subst (AreFields types bodies) (sym (append_assoc values (value ∷ []) others))
          (c.fields (value ∷ others) (type, s.1.0, body, behind, rest, s.1.1, s.1.2, e, f, g));
      fault = λ fault h. c.fault fault (fields-fault_behind types_left bodies_left behind rest body type fault s e (field-size type body value f) h);
    }

-- the serial type at the front has the fault
pub fields-stopped : (types bodies : List ℕ) (fault : RecordFault) → 0 < length types → StopsWith fault types → FieldsHaveFault types bodies fault
fields-stopped types bodies fault p s =
    record {
      read = [];
      stop = s;
      sizes = λ b all. let none : types ≡ [] = subst (λ f. StopsWith f types) b s in omega (arith, ap length none, p);
    }

-- the bodies end inside the first one
pub bodies-end : (types bodies behind : List ℕ) (type : ℕ) (fault : RecordFault) → Splits types type behind → length bodies < body_size type → ReadingStops behind fault → FieldsHaveFault types bodies fault
bodies-end types bodies behind type fault s short r =
    record {
      read = type ∷ r.0;
      stop = (s.1.0, behind, s.1.1, s.0, s.1.2, r.1);
      sizes = λ b all. omega (arith, all, short, sum_by-cons body_size type r.0);
    }

-- something follows the last body
pub bodies-go_on : (bodies : List ℕ) → (bodies ≡ [] → ⊥) → FieldsHaveFault [] bodies BodyLength
bodies-go_on bodies n = record { read = []; stop = refl; sizes = λ b all. n (nil_from_length bodies all) }

-- a varint at the front of bytes, and how many bytes it takes
pub record FrontIs (bytes : List ℕ) (number size : ℕ) : Type 0 where
  pub within : size ≤ length bytes
  pub spelled : IsVarint (take size bytes) number

pub FrontIs-read : (bytes : List ℕ) (r : Option (ℕ × ℕ)) (number size : ℕ) → r ≡ Some (number, size) → Reads (OrNone (BeginsWithVarint bytes)) r → FrontIs bytes number size
FrontIs-read bytes r number size e h =
    let f : BeginsWithVarint bytes (number, size) = subst (OrNone (BeginsWithVarint bytes)) e h.holds in
    record { within = f.0; spelled = f.1 }

pub header-found : (bytes : List ℕ) (end start : ℕ) → FrontIs bytes end start → start ≤ end → end ≤ length bytes
    → HasHeader bytes (take (end - start) (drop start bytes)) (take (length bytes - end) (drop end bytes))
header-found bytes end start f l m =
    let types = take (end - start) (drop start bytes) in
    let bodies = take (length bytes - end) (drop end bytes) in
    let first : length (take start bytes) ≡ start = length-take-le start bytes f.within in
    let second : length types ≡ end - start = length-take-le (end - start) (drop start bytes) (omega (arith, length-drop start bytes)) in
    let all : bodies ≡ drop end bytes = take_all (length bytes - end) (drop end bytes) (omega (arith, length-drop end bytes)) in
    let behind : drop (end - start) (drop start bytes) ≡ drop end bytes = drop-drop (end - start) start bytes ∙ ap (λ k. drop k bytes) (omega arith) in
    record {
      size = take start bytes;
      whole =
          sym (take-append-drop start bytes)
          ∙ ap (λ s. take start bytes ++ s) (sym (take-append-drop (end - start) (drop start bytes)) ∙ ap (λ s. types ++ s) (behind ∙ sym all));
      header = subst (IsVarint (take start bytes)) (omega (arith, first, second)) f.spelled;
    }

pub header-wrong_size : (bytes : List ℕ) (end start : ℕ) → FrontIs bytes end start → (end < start) ⊎ (length bytes < end) → HasNoHeader bytes
header-wrong_size bytes end start f w =
    let size : length (take start bytes) ≡ start = length-take-le start bytes f.within in
    inr (
      take start bytes,
      drop start bytes,
      end,
      sym (take-append-drop start bytes),
      f.spelled,
      elim w [ inl less ↦ inl (omega (arith, less, size)) | inr more ↦ inr more ],
    )

pub FrontIs-begins : (P : ℕ → Type 0) (bytes : List ℕ) (number size : ℕ) → FrontIs bytes number size → P number → BeginsWith P bytes
FrontIs-begins P bytes number size f p =
    record { type = number; spelling = take size bytes; rest = drop size bytes; whole = sym (take-append-drop size bytes); varint = f.spelled; holds = p }

pub reserved-between : (type : ℕ) → 10 ≤ type → type < 12 → IsReserved type
reserved-between type low high = elim (cases_lt type 11) [ inl less ↦ inl (omega arith) | inr more ↦ inr (omega arith) ]
