-- What is known of a fault goes on to what follows from it.
use Rattle.std.proofs.Common.{◌⊎◌, ℕ, ℤ, List, length, inl, inr}
use Rattle.tree_spec.specs.Trees.{Member}
use Rattle.prepared_spec.specs.declared.input_fault.RecordCause.{RecordCause}
use Rattle.prepared_spec.specs.PreparedRows.{HasCause}
use Rattle.pass_fault.specs.declared.fault.PassFault.{PassFault}
use Rattle.pass_fault.specs.Faults.{IsWanting, RefusesLong}
use Rattle.pass_fault.specs.FaultsLaws.{record-then, tree-then}
use Rattle.row_values.specs.declared.read.Unread.{Unread}
use Rattle.row_values.specs.declared.read.Unread.TheVariants.{Cause, Memory}
use Rattle.row_values.specs.Values.{IsUnread, IsWant}
use Rattle.imposter.specs.declared.target.Target.{Target}
use Rattle.imposter.specs.Finds.{IsMissedIn, IsUnreadRow, RefusesUnread}
use Rattle.imposter.specs.Steps.{IsRefusedIn}
use Rattle.row_writes.specs.declared.write.RowWrite.{RowWrite}
use Rattle.imposter.specs.Writes.{IsLong, IsTreeOrLong, IsWriteFault}
use Rattle.std.proofs.Math.Path.{subst⁻¹}

-- a record that is none of a row is refused for its cause
pub unread-refused : {F : Type 0} (target : Target) (rowid : ℤ) (payload : List ℕ) (unread : Unread) (fault : PassFault F) → IsWant unread ⊎ IsUnread target.table payload unread → RefusesUnread target.name rowid unread fault
    → IsWanting fault ⊎ IsUnreadRow target rowid payload fault
unread-refused target rowid payload (Cause cause) fault (inl want) refuses = absurd want
unread-refused target rowid payload (Cause cause) fault (inr is) (inl want) = inl want
unread-refused target rowid payload (Cause cause) fault (inr is) (inr told) =
    inr (record-then fault (λ name at why same. (same.0, same.1, subst⁻¹ (λ (c : RecordCause). HasCause payload (length target.table.columns) c) same.2 is)) told)
unread-refused target rowid payload (Memory error) fault is refuses = inl refuses

-- what is refused of records
pub missed-refused : {F : Type 0} (target : Target) (rowid : ℤ) (members : List Member) (fault : PassFault F) → IsMissedIn target rowid members fault → IsRefusedIn target rowid members fault
missed-refused target rowid members fault (inl wants) = inl (tree-then fault (λ f o. tt) wants)
missed-refused target rowid members fault (inr (payload, there, unread)) = inr (record-then fault (λ name at cause is. (is.0, is.1, inr (payload, there, is.2))) unread)

pub long-refused : {F : Type 0} (target : Target) (rowid : ℤ) (members : List Member) (fault : PassFault F) → IsTreeOrLong target rowid fault → IsRefusedIn target rowid members fault
long-refused target rowid members fault (inl tree) = inl tree
long-refused target rowid members fault (inr long) = inr (record-then fault (λ name at cause is. (is.0, is.1, inl is.2)) long)

-- a record that is too long is refused as what is written
pub long-written : {F : Type 0} (usable : ℕ) (target : Target) (rowid : ℤ) (write : RowWrite) (room count : ℕ) (fault : PassFault F) → RefusesLong target.name rowid fault → IsLong write → IsWriteFault usable target rowid write room count fault
long-written usable target rowid write room count fault (inl wants) long = inl (tree-then fault (λ f o. inl o) wants)
long-written usable target rowid write room count fault (inr told) long = inr (told, long)

pub long-kind : {F : Type 0} (target : Target) (rowid : ℤ) (fault : PassFault F) → RefusesLong target.name rowid fault → IsTreeOrLong target rowid fault
long-kind target rowid fault (inl wants) = inl (tree-then fault (λ f o. tt) wants)
long-kind target rowid fault (inr told) = inr told
