-- Rows and their payloads as they are read.
use Rattle.std.proofs.Common.{◌≡◌, ℕ, ◌+◌, ◌-◌, ◌<◌, ◌≤◌, ◌^◌, List, [], ◌∷◌, ◌++◌, length, take, drop, Bool, true, false, Option, Some, None, Result, Ok, Err, refl, sym, ap, ◌∙◌, subst, arith, length-append}
use Rattle.std.proofs.lemmas.List.{take_at, drop_at, take_rest}
use Rattle.std.specs.declared.alloc.AllocError.{AllocError}
use Rattle.rbu_value.specs.declared.value.Value.{Value}
use Rattle.rbu_value.specs.declared.value.Value.TheVariants.{Null}
use Rattle.format_spec.specs.Varint.{IsVarint, varint}
use Rattle.format_spec.specs.Record.{canonical_record}
use Rattle.common_spec.specs.Reading.{Reads, OrNone}
use Rattle.cell_codec.specs.Varints.{BeginsWithVarint}
use Rattle.cell_codec.specs.VarintLaws.{varint_spells}
use Rattle.record_codec.specs.declared.read.RecordFault.{RecordFault}
use Rattle.record_codec.specs.declared.read.RecordFault.TheVariants.{ShortHeader, ReservedType, RealValue, BodyLength, Memory}
use Rattle.record_codec.specs.Faults.{IsMemory}
use Rattle.record_codec.specs.Records.{HaveRecord, IsStored}
use Rattle.record_codec.specs.RecordLaws.{record-short}

-- values that were read are these
pub Ok-same : {a b : List Value} → ◌≡◌ {A = Result (List Value) RecordFault} (Ok a) (Ok b) → a ≡ b
Ok-same e = cc

-- a fault that is not of memory
pub fault-not_memory : (fault : RecordFault) → ((error : AllocError) → fault ≡ Memory error → ⊥) → IsMemory fault → ⊥
fault-not_memory ShortHeader n m = m
fault-not_memory ReservedType n m = m
fault-not_memory RealValue n m = m
fault-not_memory BodyLength n m = m
fault-not_memory (Memory error) n m = n error refl

-- a number's shortest spelling is read
pub begins-varint : (bytes rest : List ℕ) (n : ℕ) → n < 2 ^ 64 → bytes ≡ varint n ++ rest → BeginsWithVarint bytes (n, length (varint n))
begins-varint bytes rest n fits e =
    (omega (arith, ap length e, length-append (varint n) rest), subst (λ (s : List ℕ). IsVarint s n) (sym (ap (take (length (varint n))) e ∙ take_at (varint n) rest (length (varint n)) refl)) (varint_spells n fits))

-- a stored value's row has a record
pub row-have_record : (value : Value) → IsStored value → length (canonical_record 4 (Null ∷ value ∷ [])) < 2 ^ 32 → HaveRecord 4 (Null ∷ value ∷ [])
row-have_record value stored short = record-short 4 (Null ∷ value ∷ []) (tt, (stored, tt)) (omega arith)

-- nothing is no value
pub None-Some : {A : Type 0} {x : A} → None ≡ Some x → ⊥
None-Some e = cc

pub Some-same : {A : Type 0} {x y : A} → ◌≡◌ {A = Option A} (Some x) (Some y) → x ≡ y
Some-same e = cc

second_part : {a b c d : ℕ} → ◌≡◌ {A = Option (ℕ × ℕ)} (Some (a, b)) (Some (c, d)) → b ≡ d
second_part e = ap (λ (p : ℕ × ℕ). p.1) (Some-same e)

-- what stands behind the first varint
pub behind-first : (cell payload : List ℕ) (key n p : ℕ) → length payload < 2 ^ 64 → cell ≡ varint (length payload) ++ (varint key ++ payload)
    → Reads (OrNone (BeginsWithVarint cell)) (Some (n, p)) → take (length cell - p) (drop p cell) ≡ varint key ++ payload
behind-first cell payload key n p short e first =
    let P : ℕ = length (varint (length payload)) in
    let at : p ≡ P = second_part (first.only (Some (length payload, P)) (begins-varint cell (varint key ++ payload) (length payload) short e)) in
    take_rest cell p ∙ ap (λ (i : ℕ). drop i cell) at ∙ ap (drop P) e ∙ drop_at (varint (length payload)) (varint key ++ payload) P refl

-- the payload behind two varints
pub payload-behind : (cell payload : List ℕ) (key n p m k : ℕ) → key < 2 ^ 64 → length payload < 2 ^ 64 → cell ≡ varint (length payload) ++ (varint key ++ payload)
    → Reads (OrNone (BeginsWithVarint cell)) (Some (n, p)) → Reads (OrNone (BeginsWithVarint (take (length cell - p) (drop p cell)))) (Some (m, k))
    → take (length (take (length cell - p) (drop p cell)) - k) (drop k (take (length cell - p) (drop p cell))) ≡ payload
payload-behind cell payload key n p m k small short e first second =
    let behind = behind-first cell payload key n p short e first in
    let K : ℕ = length (varint key) in
    let then : k ≡ K = second_part (second.only (Some (key, K)) (begins-varint (take (length cell - p) (drop p cell)) payload key small behind)) in
    take_rest (take (length cell - p) (drop p cell)) k ∙ ap (λ (i : ℕ). drop i (take (length cell - p) (drop p cell))) then ∙ ap (drop K) behind ∙ drop_at (varint key) payload K refl

-- a row is longer than its payload
pub payload-within : (cell payload : List ℕ) (key : ℕ) → cell ≡ varint (length payload) ++ (varint key ++ payload) → length payload ≤ length cell
payload-within cell payload key e = omega (arith, ap length e, length-append (varint (length payload)) (varint key ++ payload), length-append (varint key) payload)

-- a test that holds and does not
pub not-both : (b : Bool) → b ≡ false → b ≡ true → ⊥
not-both b fails holds = let e : false ≡ true = sym fails ∙ holds in absurd (cc)
