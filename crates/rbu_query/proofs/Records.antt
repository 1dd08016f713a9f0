-- Whether a record has the five columns of the schema table.
use Rattle.std.proofs.Common.{◌≡◌, ◌≢◌, ℕ, List, [], length, Option, None, option_map, Result, Ok, Err, IfOk, Vec, Global, sym, subst, refl, ap, ◌∙◌, inl, inr}
use Rattle.std.specs.declared.alloc.AllocError.{AllocError}
use Rattle.common_spec.specs.Reading.{Reads, OrNone, OrFault, ReadsOrWants}
use Rattle.common_spec.specs.ReadingLaws.{IsOne, Reads-one, OrNone-one}
use Rattle.format_spec.specs.Record.{IsRecord}
use Rattle.rbu_value.specs.declared.value.Value.{Value}
use Rattle.record_codec.specs.RecordLaws.{record-same}
use Rattle.record_codec.specs.declared.read.RecordFault.{RecordFault}
use Rattle.record_codec.specs.Faults.{HasFault, IsMemory}
use Rattle.dump_spec.specs.SchemaRows.{IsSchemaRecord}

IsSchemaRecord-one : (bytes : List ℕ) → IsOne (IsSchemaRecord bytes)
IsSchemaRecord-one bytes a b p q = (record-same a b bytes bytes [] [] p.is_record q.is_record refl).0

pub reads-five : (bytes : List ℕ) (found : Option (List Value)) → OrNone (IsSchemaRecord bytes) found → Reads (OrNone (IsSchemaRecord bytes)) found
reads-five bytes found holds = Reads-one (OrNone (IsSchemaRecord bytes)) found (OrNone-one (IsSchemaRecord bytes) (IsSchemaRecord-one bytes)) holds

-- another number of values
pub none-other : (bytes : List ℕ) (values : List Value) → IsRecord bytes values → length values ≢ 5 → (other : List Value) → ¬ IsSchemaRecord bytes other
none-other bytes values is other_number other has =
    let same : values ≡ other = (record-same values other bytes bytes [] [] is has.is_record refl).0 in
    other_number (ap length same ∙ has.five)

-- no record at all
pub none-refused : (bytes : List ℕ) (fault : RecordFault) → (let refused : Result (List Value) RecordFault = Err fault in Reads (OrFault (IsRecord bytes) (HasFault bytes)) refused)
    → (other : List Value) → ¬ IsSchemaRecord bytes other
none-refused bytes fault reads other has = let e = reads.only (Ok other) has.is_record in absurd (cc)

-- so where memory is not wanting
pub none-read : (bytes : List ℕ) (fault : RecordFault) → (IsMemory fault → ⊥)
    → (let refused : Result (Vec Value Global) RecordFault = Err fault in ReadsOrWants (λ values. values.items) IsMemory (OrFault (IsRecord bytes) (HasFault bytes)) refused)
    → (other : List Value) → ¬ IsSchemaRecord bytes other
none-read bytes fault there (inl memory) other = absurd (there memory)
none-read bytes fault there (inr reads) other = none-refused bytes fault reads other

-- what is answered of a fault
pub reads-fault : (bytes : List ℕ) (fault : RecordFault) (answer : Result (Option (Vec Value Global)) AllocError) → IfOk answer (λ found. (found ≡ None) × ¬ IsMemory fault)
    → (let refused : Result (Vec Value Global) RecordFault = Err fault in ReadsOrWants (λ (values : Vec Value Global). values.items) IsMemory (OrFault (IsRecord bytes) (HasFault bytes)) refused)
    → IfOk answer (λ found. Reads (OrNone (IsSchemaRecord bytes)) (option_map (λ (values : Vec Value Global). values.items) found))
reads-fault bytes fault (Ok found) none refused =
    subst (λ (o : Option (Vec Value Global)). Reads (OrNone (IsSchemaRecord bytes)) (option_map (λ (values : Vec Value Global). values.items) o)) (sym none.0) (reads-five bytes None (none-read bytes fault none.1 refused))
reads-fault bytes fault (Err error) none refused = tt
