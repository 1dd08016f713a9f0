use Rattle.std.proofs.Common.{◌≢◌}
use Rattle.record_codec.specs.declared.read.RecordFault.TheVariants.{ShortHeader, ReservedType, RealValue, BodyLength}
use Rattle.db_check.proofs.Taken.{told-real, told-unreadable}
use Rattle.db_check.proofs.members.is_readable.Goals as goal

pub returns-in-Err-ShortHeader : goal.returns-in-Err-ShortHeader
returns-in-Err-ShortHeader c =
    let apart : ShortHeader ≢ RealValue = λ e. cc in told-unreadable c.args.payload.now c.in-Err-ShortHeader.field-0 ShortHeader c.in-Err-ShortHeader.field-0-is (λ m. m) apart c.in-Err-ShortHeader.ensures

pub returns-in-Err-ReservedType : goal.returns-in-Err-ReservedType
returns-in-Err-ReservedType c =
    let apart : ReservedType ≢ RealValue = λ e. cc in told-unreadable c.args.payload.now c.in-Err-ReservedType.field-0 ReservedType c.in-Err-ReservedType.field-0-is (λ m. m) apart c.in-Err-ReservedType.ensures

pub returns-in-Err-RealValue : goal.returns-in-Err-RealValue
returns-in-Err-RealValue c = told-real c.args.payload.now c.in-Err-RealValue.field-0 c.in-Err-RealValue.field-0-is c.in-Err-RealValue.ensures

pub returns-in-Err-BodyLength : goal.returns-in-Err-BodyLength
returns-in-Err-BodyLength c =
    let apart : BodyLength ≢ RealValue = λ e. cc in told-unreadable c.args.payload.now c.in-Err-BodyLength.field-0 BodyLength c.in-Err-BodyLength.field-0-is (λ m. m) apart c.in-Err-BodyLength.ensures
