use Rattle.schema_read.proofs.Records.{five-none}
use Rattle.schema_read.proofs.rows.row_in.Goals as goal

pub returns-in-None : goal.returns-in-None
returns-in-None c = five-none c.args.rowid c.args.values.items c.in-None.ensures
