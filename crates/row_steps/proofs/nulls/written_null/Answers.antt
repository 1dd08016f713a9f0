use Rattle.row_steps.proofs.NullsWritten.{deletion-none, update-none}
use Rattle.row_steps.proofs.nulls.written_null.Goals as goal

pub returns-in-Delete : goal.returns-in-Delete
returns-in-Delete c = deletion-none c.args.table.now c.args.met c.args.prepared.now c.in-Delete.is

pub returns-else-met : goal.returns-else-met
returns-else-met c = update-none c.args.table.now c.args.met c.args.prepared.now _ c.in-Update.is c.if-met.false
