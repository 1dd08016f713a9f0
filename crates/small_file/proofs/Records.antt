-- The records of rows that fit a page.
use Rattle.std.proofs.Common.{◌≡◌, ℕ, ◌≤◌, ℤ, List, [], ◌++◌, length, ap, length-append, arith, refl, sym, ◌∙◌, Option, Some, None, IfSome, IfNone, MatchOption, FitsSigned}
use Rattle.std.specs.Int.{w64}
use Rattle.std.specs.declared.alloc.AllocError.{AllocError}
use Rattle.rbu_value.specs.declared.value.Value.{Value}
use Rattle.rbu_value.specs.declared.value.Value.TheVariants.{Null, Int, Text, Blob}
use Rattle.format_spec.specs.Record.{body, int_body, int_serial_type, canonical_record}
use Rattle.record_codec.specs.Records.{IsStored, HaveRecord}
use Rattle.record_codec.specs.RecordLaws.{record-size, record-short}
use Rattle.record_codec.specs.declared.read.RecordFault.{RecordFault}
use Rattle.record_codec.specs.declared.read.RecordFault.TheVariants.{ShortHeader, ReservedType, RealValue, BodyLength, Memory}
use Rattle.record_codec.specs.Faults.{IsMemory}
use Rattle.small_spec.specs.SmallFile.{IsNullOrText}
use Rattle.small_file.specs.Records.{target_values, prepared_values}

value-stored : (value : Value) → IsNullOrText value → length (body 4 value) ≤ 4096 → IsStored value
value-stored Null p h = tt
value-stored (Int z) p h = absurd p
value-stored (Text text) p h = omega arith
value-stored (Blob bytes) p h = absurd p

-- the values of a payload of a page are ones that have a record
pub target_values-have_record : (payload : List ℕ) (value : Value) → length payload ≤ 4096 → IsNullOrText value → payload ≡ canonical_record 4 (target_values value) → HaveRecord 4 (target_values value)
target_values-have_record payload value h p e =
    let within = record-size 4 (target_values value) in
    let short : length (canonical_record 4 (target_values value)) ≤ 4096 = omega (arith, ap length e, h) in
    let body_short : length (body 4 value) ≤ 4096 = omega (arith, within, short, length-append (body 4 value) []) in
    record-short 4 (target_values value) (tt, (value-stored value p body_short, tt)) (omega (arith, short))

pub prepared_values-have_record : (payload : List ℕ) (key : ℤ) (value : Value) → length payload ≤ 4096 → FitsSigned w64 key → IsNullOrText value → payload ≡ canonical_record 4 (prepared_values key value)
    → HaveRecord 4 (prepared_values key value)
prepared_values-have_record payload key value h f p e =
    let own = int_body (int_serial_type 4 key) key in
    let within = record-size 4 (prepared_values key value) in
    let short : length (canonical_record 4 (prepared_values key value)) ≤ 4096 = omega (arith, ap length e, h) in
    let body_short : length (body 4 value) ≤ 4096 = omega (arith, within, short, length-append own (body 4 value ++ []), length-append (body 4 value) []) in
    record-short 4 (prepared_values key value) (f, (value-stored value p body_short, (record { sfits = omega arith }, tt))) (omega (arith, short))

-- where they are the values of an insert, these are found
pub insert-found : (r : Option (ℤ × Value)) (items : List Value) (key : ℤ) (value : Value) → IfSome r (λ row. IsNullOrText row.1 × (items ≡ prepared_values row.0 row.1))
    → IfNone r ((k : ℤ) (v : Value) → IsNullOrText v → items ≡ prepared_values k v → ⊥) → IsNullOrText value → items ≡ prepared_values key value
    → MatchOption r ⊥ (λ row. (row.0 ≡ key) × (row.1 ≡ value))
insert-found (Some row) items key value s n p e =
    let same : prepared_values row.0 row.1 ≡ prepared_values key value = sym s.1 ∙ e in
    (cc, cc)
insert-found None items key value s n p e = n key value p e

-- a fault that is not of memory
pub fault-not_memory : (fault : RecordFault) → ((error : AllocError) → fault ≡ Memory error → ⊥) → IsMemory fault → ⊥
fault-not_memory ShortHeader n m = m
fault-not_memory ReservedType n m = m
fault-not_memory RealValue n m = m
fault-not_memory BodyLength n m = m
fault-not_memory (Memory error) n m = n error refl
