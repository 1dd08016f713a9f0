-- A row of a `data_` table is right or has one fault: crates above cite these facts in their proofs.
use Rattle.std.proofs.Common.{ℕ, ℤ, List, length, ap, inl, inr}
use Rattle.std.proofs.Math.Path.{subst⁻¹}
use Rattle.rbu_value.specs.declared.value.Value.{Value}
use Rattle.common_spec.specs.Reading.{OrFault}
use Rattle.common_spec.specs.ReadingLaws.{IsOne, OrFault-one}
use Rattle.rbu_rows.specs.declared.prepared.Prepared.{Prepared}
use Rattle.schema_spec.specs.declared.schema.Table.{Table}
use Rattle.tree_spec.specs.Trees.{Member}
use Rattle.database_spec.specs.Rows.{TableRow}
use Rattle.database_spec.specs.RowsLaws.{row-one}
use Rattle.prepared_spec.specs.declared.input_fault.InputFault.{InputFault}
use Rattle.prepared_spec.specs.PreparedRows.{IsWrongRow}
use Rattle.prepared_spec.specs.InputsLaws.{prepared-one, wrong_row-one}
use Rattle.prepared_spec.specs.InputFaultsLaws.{cause-one, row-no_cause, unprepared-one, unprepared-not_prepared}
use Rattle.rbu_input.specs.declared.fault.InputError.{InputError}
use Rattle.rbu_input.specs.declared.fault.InputError.TheVariants.{Refused, Memory}
use Rattle.rbu_input.specs.declared.values.Unread.{Unread}
use Rattle.rbu_input.specs.declared.values.Unread.TheVariants as unread
use Rattle.rbu_input.specs.RowAnswers.{Refuses, row_with, member_with, HasValues, IsUnread, IsRightRow, HasInputError, IsRefused}

-- what is refused for one fault
pub refuses-one : (F : InputFault → Type 0) → IsOne F → IsOne (Refuses F)
refuses-one F one (Refused a) (Refused b) p q = ap Refused (one a b p q)
refuses-one F one (Refused a) (Memory b) p q = absurd q
refuses-one F one (Memory a) b p q = absurd p

-- a record is read as one list of values, or has one cause
values-one : (own : Table) (rowid : ℤ) (payload : List ℕ) → IsOne (HasValues own rowid payload)
values-one own rowid payload a b p q = ap (λ (row : TableRow). row.values) (row-one own (member_with rowid payload) (row_with rowid payload a) (row_with rowid payload b) p q)

unread-one : (own : Table) (payload : List ℕ) → IsOne (IsUnread own payload)
unread-one own payload (unread.Cause a) (unread.Cause b) p q = ap unread.Cause (cause-one payload (length own.columns) a b p q)
unread-one own payload (unread.Cause a) (unread.Memory b) p q = absurd q
unread-one own payload (unread.Memory a) b p q = absurd p

values-not_unread : (own : Table) (rowid : ℤ) (payload : List ℕ) (values : List Value) (fault : Unread) → HasValues own rowid payload values → ¬ IsUnread own payload fault
values-not_unread own rowid payload values (unread.Cause cause) is has = row-no_cause payload (length own.columns) cause is.stored has is.is_record is.many
values-not_unread own rowid payload values (unread.Memory error) is has = has

pub values_answer-one : (own : Table) (rowid : ℤ) (payload : List ℕ) → IsOne (OrFault (HasValues own rowid payload) (IsUnread own payload))
values_answer-one own rowid payload = OrFault-one (HasValues own rowid payload) (IsUnread own payload) (values-one own rowid payload) (unread-one own payload) (values-not_unread own rowid payload)

module _ (source : List ℕ) (target own : Table) (member : Member) where
  right_row-one : IsOne (IsRightRow source target own member)
  right_row-one a b p q = prepared-one target own member a b p.prepares q.prepares

  row_fault-one : IsOne (HasInputError source target own member)
  row_fault-one a b (inl p) (inl q) = unprepared-one source target own member a b p q
  row_fault-one a b (inl p) (inr (prepared, is, q)) = absurd (unprepared-not_prepared source target own member a prepared p is)
  row_fault-one a b (inr (prepared, is, p)) (inl q) = absurd (unprepared-not_prepared source target own member b prepared q is)
  row_fault-one a b (inr (prepared, is, p)) (inr (other, also, q)) =
      let same = prepared-one target own member prepared other is also in
      wrong_row-one source target prepared a b p (subst⁻¹ (λ (r : Prepared). IsWrongRow source target r b) same q)

  right-no_fault : (prepared : Prepared) (fault : InputFault) → IsRightRow source target own member prepared → ¬ HasInputError source target own member fault
  right-no_fault prepared fault right (inl p) = unprepared-not_prepared source target own member fault prepared p right.prepares
  right-no_fault prepared fault right (inr (other, is, p)) =
      let same = prepared-one target own member prepared other right.prepares is in
      right.right fault (subst⁻¹ (λ (r : Prepared). IsWrongRow source target r fault) same p)

  right-not_refused : (prepared : Prepared) (fault : InputError) → IsRightRow source target own member prepared → ¬ IsRefused source target own member fault
  right-not_refused prepared (Refused fault) right p = right-no_fault prepared fault right p
  right-not_refused prepared (Memory error) right p = p

  -- a row is right or is refused for one fault
  pub row_answer-one : IsOne (OrFault (IsRightRow source target own member) (IsRefused source target own member))
  row_answer-one =
      OrFault-one (IsRightRow source target own member) (IsRefused source target own member) right_row-one (refuses-one (HasInputError source target own member) row_fault-one) right-not_refused
