-- What a row of a `data_` table prepares, from its parts.
use Rattle.std.proofs.Common.{◌≡◌, ℕ, ℤ, ◌⊎◌, List, [], ◌∷◌, length, map, Ok, Err, refl, ap, ap₂, ◌∙◌, subst, inl, inr}
use Rattle.std.specs.Prelude.{false, slice_index_or}
use Rattle.rbu_value.specs.declared.value.Value.{Value}
use Rattle.common_spec.specs.Reading.{Reads, OrFault}
use Rattle.common_spec.specs.ReadingLaws.{Reads-one}
use Rattle.format_spec.specs.Record.{IsRecord}
use Rattle.record_codec.specs.declared.read.RecordFault.{RecordFault}
use Rattle.record_codec.specs.Faults.{IsMemory, HasFault}
use Rattle.tree_spec.specs.Trees.{Member}
use Rattle.rbu_value.specs.declared.value.Value.TheVariants.{Null}
use Rattle.rbu_rows.specs.declared.control.Control.{Control}
use Rattle.rbu_rows.specs.declared.control.Control.TheVariants.{Insert, Replace, Delete, Update}
use Rattle.rbu_rows.specs.declared.control.ControlFault.{ControlFault}
use Rattle.rbu_rows.specs.declared.prepared.Prepared.{Prepared}
use Rattle.rbu_rows.specs.Controls.{IsControl, HasFault as ControlHasFault}
use Rattle.schema_spec.specs.declared.schema.Table.{Table}
use Rattle.schema_spec.specs.Names.{place_of}
use Rattle.prepared_spec.specs.declared.input_fault.RecordCause.{RecordCause}
use Rattle.prepared_spec.specs.declared.input_fault.InputFault.{InputFault}
use Rattle.prepared_spec.specs.declared.input_fault.InputFault.TheVariants.{Control as ControlRefused, DataRecord}
use Rattle.prepared_spec.specs.RowKeys.{key_at}
use Rattle.prepared_spec.specs.DataTables.{column_names}
use Rattle.prepared_spec.specs.PreparedRows.{in_target_order, lettered, control_value, IsPrepared, IsUnprepared, IsWrongRow}
use Rattle.rbu_input.specs.declared.fault.InputError.{InputError}
use Rattle.rbu_input.specs.declared.fault.InputError.TheVariants.{Refused, Memory}
use Rattle.rbu_input.specs.declared.layout.Layout.{Layout}
use Rattle.rbu_input.specs.declared.values.Unread.{Unread}
use Rattle.rbu_input.specs.declared.values.Unread.TheVariants as unread
use Rattle.rbu_input.specs.Layouts.{IsLayout, values_at, marks_at, reordered}
use Rattle.rbu_input.specs.RowAnswers.{IsWant, Refuses, HasValues, IsUnread, IsUnreadWant, IsCauseOf, IsRightRow, HasInputError, IsRefused, row_with, member_with}
use Rattle.rbu_input.specs.RowAnswersLaws.{row_answer-one}

-- what is refused for one thing is refused for what follows from it
pub refuses-then : (F G : InputFault → Type 0) (fault : InputError) → ((refused : InputFault) → F refused → G refused) → IsWant fault ⊎ Refuses F fault → IsWant fault ⊎ Refuses G fault
refuses-then F G (Refused refused) then_ (inl want) = inl want
refuses-then F G (Refused refused) then_ (inr told) = inr (then_ refused told)
refuses-then F G (Memory error) then_ told = inl tt

map-after : {A B C : Type 0} (f : B → C) (g : A → B) (xs : List A) → map f (map g xs) ≡ map (λ x. f (g x)) xs
map-after f g [] = refl
map-after f g (x ∷ xs) = ap (λ ys. f (g x) ∷ ys) (map-after f g xs)

module _ (target own : Table) (layout : Layout) (is : IsLayout target own layout) where
  reordered-is : (control : Control) → reordered layout.letters.items control ≡ in_target_order target own control
  reordered-is Insert = refl
  reordered-is Replace = refl
  reordered-is Delete = refl
  reordered-is (Update marks) =
      ap Update (ap (marks_at marks) is.letters ∙ map-after (λ (at : ℕ). slice_index_or marks at false) (λ (name : List ℕ). place_of name (lettered target own)) (column_names target))

  module _ (rowid : ℤ) (payload : List ℕ) (values : List Value) (has : HasValues own rowid payload values) where
    control-is : slice_index_or values layout.control Null ≡ control_value own (row_with rowid payload values)
    control-is = ap (λ (at : ℕ). slice_index_or values at Null) is.control

    pub prepared-is : (control : Control) (prepared : Prepared) → IsControl (slice_index_or values layout.control Null) (length target.columns) control
        → prepared.data_rowid ≡ rowid → prepared.control ≡ reordered layout.letters.items control → prepared.values ≡ values_at values layout.columns.items
        → prepared.key ≡ key_at layout.key.items (slice_index_or values layout.rowid Null) prepared.values → IsPrepared target own (member_with rowid payload) prepared
    prepared-is control prepared says at ordered own_values key = (
      row_with rowid payload values,
      has,
      record {
        control = control;
        is_control = subst (λ (v : Value). IsControl v (length target.columns) control) control-is says;
        control_is = ordered ∙ reordered-is control;
        data_rowid = at;
        values = own_values ∙ ap (values_at values) is.columns
            ∙ map-after (λ (at : ℕ). slice_index_or values at Null) (λ (name : List ℕ). place_of name (column_names own)) (column_names target);
        key = key ∙ ap₂ (λ (places : List ℕ) (v : Value). key_at places v prepared.values) is.key (ap (λ (at : ℕ). slice_index_or values at Null) is.rowid);
      },
    )

    pub control-refused : (source : List ℕ) (refused : InputFault)
        → (wrong : ControlFault) × ControlHasFault (slice_index_or values layout.control Null) (length target.columns) wrong × (refused ≡ ControlRefused source rowid wrong)
        → IsUnprepared source target own (member_with rowid payload) refused
    control-refused source refused (wrong, fault, e) =
        inr (row_with rowid payload values, wrong, has, subst (λ (v : Value). ControlHasFault v (length target.columns) wrong) control-is fault, e)

pub record-refused : (source : List ℕ) (target own : Table) (rowid : ℤ) (payload : List ℕ) (unread_ : Unread) (refused : InputFault) → IsUnreadWant unread_ ⊎ IsUnread own payload unread_
    → (cause : RecordCause) × (unread_ ≡ unread.Cause cause) × (refused ≡ DataRecord source rowid cause) → IsUnprepared source target own (member_with rowid payload) refused
record-refused source target own rowid payload unread_ refused (inl want) (cause, e, f) = absurd (subst IsUnreadWant e want)
record-refused source target own rowid payload unread_ refused (inr is) (cause, e, f) = inl (cause, subst (IsUnread own payload) e is, f)

-- a record that is not read has a cause, unless memory was wanting
pub cause-unread : (own : Table) (payload : List ℕ) (fault : RecordFault) (unread_ : Unread) → IsCauseOf fault unread_ → IsMemory fault ⊎ Reads (OrFault (IsRecord payload) (HasFault payload)) (Err fault)
    → IsUnreadWant unread_ ⊎ IsUnread own payload unread_
cause-unread own payload fault (unread.Memory error) is read = inl tt
cause-unread own payload fault (unread.Cause cause) is (inl want) = absurd (is.0 want)
cause-unread own payload fault (unread.Cause cause) is (inr read) = inr (is.1 payload (length own.columns) read.holds)

module _ (source : List ℕ) (target own : Table) (member : Member) where
  -- the one answer of a row that is refused
  pub refused-reads : (fault : InputError) → IsWant fault ⊎ Refuses (HasInputError source target own member) fault
      → IsWant fault ⊎ Reads (OrFault (IsRightRow source target own member) (IsRefused source target own member)) (Err fault)
  refused-reads fault (inl want) = inl want
  refused-reads fault (inr refused) = inr (Reads-one (OrFault (IsRightRow source target own member) (IsRefused source target own member)) (Err fault) (row_answer-one source target own member) refused)

  pub unprepared-reads : (fault : InputError) → IsWant fault ⊎ Refuses (IsUnprepared source target own member) fault
      → IsWant fault ⊎ Reads (OrFault (IsRightRow source target own member) (IsRefused source target own member)) (Err fault)
  unprepared-reads fault told = refused-reads fault (refuses-then (IsUnprepared source target own member) (HasInputError source target own member) fault (λ refused is. inl is) told)

  pub wrong-reads : (prepared : Prepared) (fault : InputError) → IsPrepared target own member prepared → IsWant fault ⊎ Refuses (IsWrongRow source target prepared) fault
      → IsWant fault ⊎ Reads (OrFault (IsRightRow source target own member) (IsRefused source target own member)) (Err fault)
  wrong-reads prepared fault prepares told =
      refused-reads fault (refuses-then (IsWrongRow source target prepared) (HasInputError source target own member) fault (λ refused is. inr (prepared, prepares, is)) told)

  -- and of one that is right
  pub right-reads : (prepared : Prepared) → IsPrepared target own member prepared → ((fault : InputFault) → ¬ IsWrongRow source target prepared fault)
      → Reads (OrFault (IsRightRow source target own member) (IsRefused source target own member)) (Ok prepared)
  right-reads prepared prepares right =
      Reads-one (OrFault (IsRightRow source target own member) (IsRefused source target own member)) (Ok prepared) (row_answer-one source target own member) (record { prepares = prepares; right = right })
