use Rattle.std.proofs.Common.{Option, Result, subst}
use Rattle.common_spec.specs.Reading.{OrNone}
use Rattle.schema_spec.specs.declared.schema.SqlFault.{SqlFault}
use Rattle.schema_spec.specs.declared.schema.Index.{Index}
use Rattle.database_spec.specs.Catalogs.{IsIndexMeaning}
use Rattle.schema_read.proofs.Rights.{other-name}
use Rattle.schema_read.proofs.check.place.Goals as goal

pub returns-else-is_named_alike : goal.returns-else-is_named_alike
returns-else-is_named_alike c =
    other-name c.args.format c.args.row.now c.args.table.now c.in-Ok-Some.meaning c.is_named_alike.result
    (subst (λ (o : Option (Result Index SqlFault)). OrNone (IsIndexMeaning c.args.format c.args.row.now c.args.table.now) o) c.in-Ok-Some.field-0-is c.in-Ok-Some.ensures) c.is_named_alike.ensures c.if-is_named_alike.false
