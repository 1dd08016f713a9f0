use Rattle.std.proofs.Common.{sym, ◌∙◌}
use Rattle.schema_read.proofs.Placing.{place-none}
use Rattle.schema_read.proofs.check.place_row.Goals as goal

pub returns-in-None : goal.returns-in-None
returns-in-None c = place-none c.args.format c.args.members.now c.args.row.now (sym c.place_for.ensures ∙ c.in-None.is)
