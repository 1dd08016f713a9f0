use Rattle.schema_spec.specs.Texts.{MeansTable, HasTableFault}
use Rattle.schema_read.proofs.TextMeanings.{told-outside}
use Rattle.schema_read.proofs.meanings.text_meaning.Goals as goal

pub returns-in-Err-OutsideProfile : goal.returns-in-Err-OutsideProfile
returns-in-Err-OutsideProfile c =
    told-outside (MeansTable c.args.text.now) (HasTableFault c.args.text.now) c.in-Err-OutsideProfile.field-0 c.in-Err-OutsideProfile.clause c.in-Err-OutsideProfile.field-0-is c.in-Err-OutsideProfile.ensures
