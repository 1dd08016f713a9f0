-- An RBU database has one first refusal for a target: crates above cite these facts in their proofs.
use Rattle.std.proofs.Common.{◌≡◌, ℕ, List, [], ◌∷◌, ◌++◌, length, Option, Some, None, sym, ap, ap₂, ◌∙◌, ◌⊎◌, inl, inr}
use Rattle.std.proofs.Math.Path.{subst⁻¹}
use Rattle.rbu_value.specs.declared.value.Value.{Value}
use Rattle.format_spec.specs.Record.{IsRecord}
use Rattle.common_spec.specs.Reading.{OrFault}
use Rattle.common_spec.specs.ReadingLaws.{IsOne, OrFault-one}
use Rattle.record_codec.specs.declared.read.RecordFault.{RecordFault}
use Rattle.record_codec.specs.declared.read.RecordFault.TheVariants as bad
use Rattle.record_codec.specs.Faults.{HasFault as RecordHasFault}
use Rattle.record_codec.specs.FaultsLaws.{HasFault-same, record-no_fault}
use Rattle.rbu_rows.specs.declared.control.ControlFault.{ControlFault}
use Rattle.rbu_rows.specs.declared.prepared.Prepared.{Prepared}
use Rattle.rbu_rows.specs.Controls.{IsControl, HasFault as ControlHasFault}
use Rattle.rbu_rows.specs.ControlsLaws.{one_fault, no_fault}
use Rattle.schema_spec.specs.declared.schema.Table.{Table}
use Rattle.tree_spec.specs.Trees.{Member}
use Rattle.tree_spec.specs.Standing.{Sizes, Paged}
use Rattle.database_spec.specs.declared.catalog.Catalog.{Catalog}
use Rattle.database_spec.specs.Rows.{TableRow}
use Rattle.database_spec.specs.RowsLaws.{record-one, row-one}
use Rattle.prepared_spec.specs.declared.input_fault.RecordCause.{RecordCause}
use Rattle.prepared_spec.specs.declared.input_fault.RecordCause.TheVariants.{SizeOverLimit, ShortHeader, ReservedType, RealValue, BodyLength, ShortRecord}
use Rattle.prepared_spec.specs.declared.input_fault.InputFault.{InputFault}
use Rattle.prepared_spec.specs.declared.input_fault.InputFault.TheVariants.{Control as ControlRefused, DuplicateKey, DataRecord}
use Rattle.prepared_spec.specs.DataTables.{table_fault}
use Rattle.prepared_spec.specs.PreparedRows.{control_value, HasCause, IsPrepared, IsUnprepared, IsWrongRow}
use Rattle.prepared_spec.specs.Inputs.{Input, Opens, Reads, Damages, Closes, key_twice, sum_fault, IsWrongInput, FirstWrongInput, ArePreparedRows, HasInputFault}
use Rattle.prepared_spec.specs.InputsLaws.{wrong_row-one, inputs-one, prepared_rows-one, prepared_rows-no_fault}

-- the cause that a record's fault is
abbrev cause_of : RecordFault → RecordCause
cause_of bad.ShortHeader = ShortHeader
cause_of bad.ReservedType = ReservedType
cause_of bad.RealValue = RealValue
cause_of bad.BodyLength = BodyLength
cause_of (bad.Memory error) = ShortRecord

-- a record is read as no row for a fault of its own, or has another number of values
abbrev Causes : List ℕ → ℕ → RecordCause → Type 0
Causes payload columns cause =
    ((fault : RecordFault) × RecordHasFault payload fault × (cause_of fault ≡ cause))
    ⊎ ((ShortRecord ≡ cause) × ((values : List Value) × IsRecord payload values × (length values ≡ columns → ⊥)))

causes-are : (payload : List ℕ) (columns : ℕ) (cause : RecordCause) → HasCause payload columns cause → Causes payload columns cause
causes-are payload columns SizeOverLimit h = absurd h
causes-are payload columns ShortHeader h = inl (bad.ShortHeader, h, λ i. ShortHeader)
causes-are payload columns ReservedType h = inl (bad.ReservedType, h, λ i. ReservedType)
causes-are payload columns RealValue h = inl (bad.RealValue, h, λ i. RealValue)
causes-are payload columns BodyLength h = inl (bad.BodyLength, h, λ i. BodyLength)
causes-are payload columns ShortRecord h = inr (λ i. ShortRecord, h)

cause-same : (payload : List ℕ) (columns : ℕ) (a b : RecordCause) → Causes payload columns a → Causes payload columns b → a ≡ b
cause-same payload columns a b (inl (fault, p, e)) (inl (other, q, f)) = sym e ∙ ap cause_of (HasFault-same payload fault other p q) ∙ f
cause-same payload columns a b (inl (fault, p, e)) (inr (f, (values, q, n))) = absurd (record-no_fault payload values fault q p)
cause-same payload columns a b (inr (e, (values, p, n))) (inl (fault, q, f)) = absurd (record-no_fault payload values fault p q)
cause-same payload columns a b (inr p) (inr q) = sym p.0 ∙ q.0

-- a record is read as no row for one cause
pub cause-one : (payload : List ℕ) (columns : ℕ) → IsOne (HasCause payload columns)
cause-one payload columns a b p q = cause-same payload columns a b (causes-are payload columns a p) (causes-are payload columns b q)

row-causes : (payload : List ℕ) (columns : ℕ) (cause : RecordCause) (values : List Value) → Causes payload columns cause → IsRecord payload values → length values ≡ columns → ⊥
row-causes payload columns cause values (inl (fault, p, e)) is many = record-no_fault payload values fault is p
row-causes payload columns cause values (inr (e, (others, p, n))) is many = n (ap length (record-one payload others values p is) ∙ many)

-- a record of as many values as columns has no cause
pub row-no_cause : (payload : List ℕ) (columns : ℕ) (cause : RecordCause) (values : List Value) → HasCause payload columns cause → IsRecord payload values → length values ≡ columns → ⊥
row-no_cause payload columns cause values p = row-causes payload columns cause values (causes-are payload columns cause p)

-- a member prepares nothing for one reason
pub unprepared-one : (source : List ℕ) (target own : Table) (member : Member) → IsOne (IsUnprepared source target own member)
unprepared-one source target own member a b (inl (cause, p, e)) (inl (other, q, f)) =
    e ∙ ap (DataRecord source member.rowid) (cause-one member.payload (length own.columns) cause other p q) ∙ sym f
unprepared-one source target own member a b (inl (cause, p, e)) (inr (row, wrong, is, q, f)) =
    absurd (row-no_cause member.payload (length own.columns) cause is.stored p is.is_record is.many)
unprepared-one source target own member a b (inr (row, wrong, is, p, e)) (inl (cause, q, f)) =
    absurd (row-no_cause member.payload (length own.columns) cause is.stored q is.is_record is.many)
unprepared-one source target own member a b (inr (row, wrong, is, p, e)) (inr (other, fault, also, q, f)) =
    let there = subst⁻¹ (λ (r : TableRow). ControlHasFault (control_value own r) (length target.columns) fault) (row-one own member row other is also) q in
    e ∙ ap (ControlRefused source member.rowid) (one_fault (control_value own row) (length target.columns) wrong fault p there) ∙ sym f

-- and a member that prepares a row does not
pub unprepared-not_prepared : (source : List ℕ) (target own : Table) (member : Member) (fault : InputFault) (prepared : Prepared)
    → IsUnprepared source target own member fault → ¬ IsPrepared target own member prepared
unprepared-not_prepared source target own member fault prepared (inl (cause, p, e)) (row, is, prepares) =
    row-no_cause member.payload (length own.columns) cause is.stored p is.is_record is.many
unprepared-not_prepared source target own member fault prepared (inr (row, wrong, is, p, e)) (other, also, prepares) =
    let there = subst⁻¹ (λ (r : TableRow). IsControl (control_value own r) (length target.columns) prepares.control) (row-one own member row other is also) prepares.is_control in
    no_fault (control_value own row) (length target.columns) prepares.control wrong there p

pub some-one : {A : Type 0} (o : Option A) (a b : A) → o ≡ Some a → o ≡ Some b → a ≡ b
some-one o a b p q = let h : Some a ≡ Some b = sym p ∙ q in cc

module _ (sizes : Sizes) (base : Paged) (catalog : Catalog) where
  -- what is found is wrong in one way
  pub wrong_input-one : (before : List Input) (one : Input) → IsOne (IsWrongInput catalog before one)
  wrong_input-one before (Opens source) a b p q = some-one (table_fault catalog source) a b p q
  wrong_input-one before (Damages stop) a b p q = p ∙ sym q
  wrong_input-one before (Reads opened member None) a b p q = unprepared-one opened.source opened.target opened.own member a b p q
  wrong_input-one before (Reads opened member (Some prepared)) a b (inl p) (inl q) = wrong_row-one opened.source opened.target prepared a b p q
  wrong_input-one before (Reads opened member (Some prepared)) a b (inl p) (inr q) = absurd (q.0 a p)
  wrong_input-one before (Reads opened member (Some prepared)) a b (inr p) (inl q) = absurd (p.0 b q)
  wrong_input-one before (Reads opened member (Some prepared)) a b (inr p) (inr q) =
      some-one (sum_fault before (Reads opened member (Some prepared))) a b p.1 q.1
  wrong_input-one before (Closes opened rows) a b (first, second, p, e) (one, two, q, f) =
      let same = some-one (key_twice opened.target [] rows) (first, second) (one, two) p q in
      e ∙ ap (λ (rows : Prepared × Prepared). DuplicateKey opened.source rows.0.data_rowid rows.1.data_rowid) same ∙ sym f

  pub first_wrong_input-one : (before inputs : List Input) → IsOne (FirstWrongInput catalog before inputs)
  first_wrong_input-one before [] a b p q = absurd p
  first_wrong_input-one before (one ∷ inputs) a b (inl p) (inl q) = wrong_input-one before one a b p q
  first_wrong_input-one before (one ∷ inputs) a b (inl p) (inr q) = absurd (q.0 a p)
  first_wrong_input-one before (one ∷ inputs) a b (inr p) (inl q) = absurd (p.0 b q)
  first_wrong_input-one before (one ∷ inputs) a b (inr p) (inr q) = first_wrong_input-one (before ++ one ∷ []) inputs a b p.1 q.1

  -- an RBU database has one first refusal
  pub input_fault-one : (rbu : Catalog) → IsOne (HasInputFault sizes base catalog rbu)
  input_fault-one rbu a b (inputs, are, p) (others, also, q) =
      let same = inputs-one sizes base catalog rbu inputs others are also in
      first_wrong_input-one [] inputs a b p (subst⁻¹ (λ (i : List Input). FirstWrongInput catalog [] i b) same q)

  -- and has prepared rows or that refusal, never both
  pub input_answer-one : (rbu : Catalog) → IsOne (OrFault (ArePreparedRows sizes base catalog rbu) (HasInputFault sizes base catalog rbu))
  input_answer-one rbu =
      OrFault-one (ArePreparedRows sizes base catalog rbu) (HasInputFault sizes base catalog rbu) (prepared_rows-one sizes base catalog rbu) (input_fault-one rbu)
      (λ groups fault. prepared_rows-no_fault sizes base catalog rbu groups fault)
