use Rattle.record_codec.specs.declared.read.RecordFault.TheVariants.{ShortHeader, ReservedType, RealValue, BodyLength}
use Rattle.db_check.proofs.Taken.{told-no_record}
use Rattle.db_check.proofs.members.read_values.Goals as goal

pub returns-in-Err-ShortHeader-clause-none : goal.returns-in-Err-ShortHeader-clause-none
returns-in-Err-ShortHeader-clause-none c = told-no_record c.args.payload.now c.in-Err-ShortHeader.field-0 ShortHeader c.in-Err-ShortHeader.field-0-is (λ m. m) c.in-Err-ShortHeader.ensures

pub returns-in-Err-ReservedType-clause-none : goal.returns-in-Err-ReservedType-clause-none
returns-in-Err-ReservedType-clause-none c = told-no_record c.args.payload.now c.in-Err-ReservedType.field-0 ReservedType c.in-Err-ReservedType.field-0-is (λ m. m) c.in-Err-ReservedType.ensures

pub returns-in-Err-RealValue-clause-none : goal.returns-in-Err-RealValue-clause-none
returns-in-Err-RealValue-clause-none c = told-no_record c.args.payload.now c.in-Err-RealValue.field-0 RealValue c.in-Err-RealValue.field-0-is (λ m. m) c.in-Err-RealValue.ensures

pub returns-in-Err-BodyLength-clause-none : goal.returns-in-Err-BodyLength-clause-none
returns-in-Err-BodyLength-clause-none c = told-no_record c.args.payload.now c.in-Err-BodyLength.field-0 BodyLength c.in-Err-BodyLength.field-0-is (λ m. m) c.in-Err-BodyLength.ensures
