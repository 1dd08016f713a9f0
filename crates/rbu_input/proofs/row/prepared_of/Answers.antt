use Rattle.rbu_input.proofs.Rows.{prepared-is}
use Rattle.rbu_input.proofs.row.prepared_of.Goals as goal

pub returns-in-Ok-prepare-clause-found : goal.returns-in-Ok-prepare-clause-found
returns-in-Ok-prepare-clause-found c = λ own is has.
    prepared-is c.args.target.now own c.args.layout.now is c.args.row.now.rowid c.args.row.now.payload c.args.values.now has c.in-Ok.control c.in-Ok-prepare.read.prepared c.in-Ok.ensures.found
    c.in-Ok-prepare.ensures.rowid c.in-Ok-prepare.ensures.control c.in-Ok-prepare.ensures.values c.in-Ok-prepare.ensures.key
