use Rattle.std.proofs.Common.{◌⊎◌, ℕ, List, Err, subst}
use Rattle.common_spec.specs.Reading.{Reads, OrFault}
use Rattle.format_spec.specs.Record.{IsRecord}
use Rattle.record_codec.specs.Faults.{IsMemory, HasFault}
use Rattle.rbu_input.proofs.Rows.{cause-unread}
use Rattle.rbu_input.proofs.values.row_values.Goals as goal

pub returns-in-Err-clause-fault : goal.returns-in-Err-clause-fault
returns-in-Err-clause-fault c =
    cause-unread c.args.own.now c.args.row.now.payload c.in-Err.fault c.cause_of.result c.cause_of.ensures
    (subst (λ (payload : List ℕ). IsMemory c.in-Err.fault ⊎ Reads (OrFault (IsRecord payload) (HasFault payload)) (Err c.in-Err.fault)) c.as_slice.ensures c.in-Err.ensures)
