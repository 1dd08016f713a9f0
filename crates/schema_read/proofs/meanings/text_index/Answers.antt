use Rattle.schema_spec.specs.Texts.{MeansIndex, HasIndexFault}
use Rattle.schema_read.proofs.TextMeanings.{told-outside}
use Rattle.schema_read.proofs.meanings.text_index.Goals as goal

pub returns-in-Err-OutsideProfile : goal.returns-in-Err-OutsideProfile
returns-in-Err-OutsideProfile c =
    told-outside (MeansIndex c.args.text.now c.args.table.now) (HasIndexFault c.args.text.now c.args.table.now) c.in-Err-OutsideProfile.field-0 c.in-Err-OutsideProfile.clause c.in-Err-OutsideProfile.field-0-is c.in-Err-OutsideProfile.ensures
