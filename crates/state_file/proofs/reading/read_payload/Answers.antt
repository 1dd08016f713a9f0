use Rattle.std.proofs.Common.{◌≡◌, List, [], ◌∷◌, Result, Ok, Err, sym, ◌∙◌, subst, inl, inr}
use Rattle.rbu_value.specs.declared.value.Value.TheVariants.{Null}
use Rattle.format_spec.specs.Record.{IsRecord}
use Rattle.record_codec.specs.RecordLaws.{canonical_record_read}
use Rattle.state_file.proofs.Payloads.{Ok-same, fault-not_memory}
use Rattle.state_file.proofs.reading.read_payload.Goals as goal

pub returns-in-Ok : goal.returns-in-Ok
returns-in-Ok c = λ value have e.
    c.second_of.ensures value (Ok-same (c.in-Ok.ensures.only (Ok (Null ∷ value ∷ [])) (subst (λ s. IsRecord s (Null ∷ value ∷ [])) (sym e) (canonical_record_read 4 (Null ∷ value ∷ []) have))))

pub returns-in_default : goal.returns-in_default
returns-in_default c = λ value have e.
    elim c.in-Err.ensures [
      | inl memory ↦ absurd (fault-not_memory c.in-Err.fault c.in_default.not-Memory memory)
      | inr reads ↦ let read : Err c.in-Err.fault ≡ Ok (Null ∷ value ∷ []) = reads.only (Ok (Null ∷ value ∷ [])) (subst (λ s. IsRecord s (Null ∷ value ∷ [])) (sym e) (canonical_record_read 4 (Null ∷ value ∷ []) have)) in absurd (cc)
    ]
