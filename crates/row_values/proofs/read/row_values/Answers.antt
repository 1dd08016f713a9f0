use Rattle.std.proofs.Common.{◌⊎◌, ℕ, List, length, Err, subst, inl, inr}
use Rattle.common_spec.specs.Reading.{Reads, OrFault}
use Rattle.format_spec.specs.Record.{IsRecord}
use Rattle.record_codec.specs.declared.read.RecordFault.{RecordFault}
use Rattle.record_codec.specs.Faults.{IsMemory, HasFault}
use Rattle.schema_spec.specs.declared.schema.Table.{Table}
use Rattle.row_values.specs.declared.read.Unread.{Unread}
use Rattle.row_values.specs.declared.read.Unread.TheVariants.{Cause, Memory}
use Rattle.row_values.specs.Values.{IsCauseOf, IsUnread, IsWant}
use Rattle.row_values.proofs.read.row_values.Goals as goal

cause-unread : (table : Table) (payload : List ℕ) (fault : RecordFault) (unread : Unread) → IsCauseOf fault unread → IsMemory fault ⊎ Reads (OrFault (IsRecord payload) (HasFault payload)) (Err fault) → IsWant unread ⊎ IsUnread table payload unread
cause-unread table payload fault (Memory error) is read = inl tt
cause-unread table payload fault (Cause cause) is (inl want) = absurd (is.0 want)
cause-unread table payload fault (Cause cause) is (inr read) = inr (is.1 payload (length table.columns) read.holds)

pub returns-in-Err-clause-fault : goal.returns-in-Err-clause-fault
returns-in-Err-clause-fault c =
    cause-unread c.args.table.now c.args.row.now.payload c.in-Err.fault c.cause_of.result c.cause_of.ensures
    (subst (λ (payload : List ℕ). IsMemory c.in-Err.fault ⊎ Reads (OrFault (IsRecord payload) (HasFault payload)) (Err c.in-Err.fault)) c.as_slice.ensures c.in-Err.ensures)
