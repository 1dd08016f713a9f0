use Rattle.std.proofs.Common.{◌≡◌, List, Result, Ok, Err, inl, inr, sym, ◌∙◌, ap, subst}
use Rattle.rbu_value.specs.declared.value.Value.{Value}
use Rattle.record_codec.specs.declared.read.RecordFault.{RecordFault}
use Rattle.std.proofs.lemmas.Bool.{both_ways}
use Rattle.std.proofs.lemmas.Bool.Decides.{Decides-eqb}
use Rattle.std.proofs.lemmas.Slice.Eq.{slice_eq-Decides}
use Rattle.format_spec.specs.Record.{canonical_record, IsRecord}
use Rattle.record_codec.specs.RecordLaws.{canonical_record_read}
use Rattle.small_file.proofs.Records.{fault-not_memory}
use Rattle.small_file.proofs.record.read_canonical.Goals as goal

Ok-same : {a b : List Value} → ◌≡◌ {A = Result (List Value) RecordFault} (Ok a) (Ok b) → a ≡ b
Ok-same e = cc

pub returns-in_default-clause-only : goal.returns-in_default-clause-only
returns-in_default-clause-only c = λ values h e.
    elim c.in-Err.ensures [
      | inl memory ↦ absurd (fault-not_memory c.in-Err.fault c.in_default.not-Memory memory)
      | inr reads ↦ let read : Err c.in-Err.fault ≡ Ok values = reads.only (Ok values) (subst (λ s. IsRecord s values) (sym e) (canonical_record_read 4 values h)) in absurd (cc)
    ]

pub returns-then-eq-clause-only : goal.returns-then-eq-clause-only
returns-then-eq-clause-only c = λ values h e. Ok-same (c.in-Ok.ensures.only (Ok values) (subst (λ s. IsRecord s values) (sym e) (canonical_record_read 4 values h)))

pub returns-else-eq-clause-only : goal.returns-else-eq-clause-only
returns-else-eq-clause-only c = λ values h e.
    let same = slice_eq-Decides Decides-eqb c.as_slice.result.now c.args.payload.now c.eq.result c.eq.ensures in
    let read : c.in-Ok.values.items ≡ values = Ok-same (c.in-Ok.ensures.only (Ok values) (subst (λ s. IsRecord s values) (sym e) (canonical_record_read 4 values h))) in
    both_ways c.eq.result c.if-eq.false (same.1 (c.as_slice.ensures.value ∙ c.in_ok-canonical.ensures ∙ ap (canonical_record 4) (c.deref.ensures.value ∙ read) ∙ sym e))
