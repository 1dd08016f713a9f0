use Rattle.std.proofs.Common.{◌∙◌}
use Rattle.schema_read.proofs.AutomaticNames.{digits-behind}
use Rattle.schema_read.proofs.numbers.digits.Goals as goal

pub returns : goal.returns
returns c n same fits = c.behind.ensures ∙ digits-behind c.args.name.now c.args.table.now n fits same
