use Rattle.std.proofs.Common.{rules}
use Rattle.common_spec.specs.Reading.{OrFault}
use Rattle.common_spec.specs.ReadingLaws.{ReadsOrWants-one}
use Rattle.format_spec.specs.Record.{IsRecord}
use Rattle.record_codec.specs.Faults.{IsMemory, HasFault}
use Rattle.record_codec.specs.FaultsLaws.{answer-one}
use Rattle.record_codec.proofs.read.read_record.Goals as goal

pub returns-in_err-types : goal.returns-in_err-types
returns-in_err-types c =
    let bytes = c.args.bytes.now in
    ReadsOrWants-one (λ v. v.items) IsMemory (OrFault (IsRecord bytes) (HasFault bytes)) c.from_residual.result (answer-one bytes) (search rules) (search rules)

pub returns : goal.returns
returns c =
    let bytes = c.args.bytes.now in
    ReadsOrWants-one (λ v. v.items) IsMemory (OrFault (IsRecord bytes) (HasFault bytes)) c.read_fields.result (answer-one bytes) (search rules) (search rules)
