use Rattle.walk_laws.specs.RecordsDecidedLaws.{plain-decided, record-decided}
use Rattle.walk_laws.proofs.laws.tables_are_plain_or_not.Goals as goal

pub returns-clause-records : goal.returns-clause-records
returns-clause-records c = record-decided

pub returns-clause-tables : goal.returns-clause-tables
returns-clause-tables c = plain-decided
