use Rattle.std.proofs.Common.{List, map, subst}
use Rattle.schema_read.specs.Entries.{IsMadeOf}
use Rattle.schema_read.specs.Rows.{member_of}
use Rattle.schema_read.specs.declared.found.Found.{Found}
use Rattle.schema_read.proofs.Saying.{meant-found, say-catalog, say-fault}
use Rattle.schema_read.proofs.read.say.Goals as goal

pub check_all-requires-clause-meant : goal.check_all-requires-clause-meant
check_all-requires-clause-meant c = meant-found (map member_of c.args.members.now) c.in-Ok.found c.in-Ok.ensures

pub returns-in-Ok-catalog_of : goal.returns-in-Ok-catalog_of
returns-in-Ok-catalog_of c = λ sizes base is.
    let checks = c.in-Ok-check_all.ensures sizes base is in
    let made = subst (λ (l : List Found). IsMadeOf l c.in-Ok-check_all.placed.items c.in-Ok-catalog_of.catalog) c.into_vec.ensures c.in-Ok-catalog_of.ensures in
    say-catalog sizes base c.args.basis is c.requires.few (map member_of c.args.members.now) c.in-Ok.found c.in-Ok-check_all.placed.items c.in-Ok-catalog_of.catalog c.in-Ok.ensures checks.0 checks.1 made

pub returns-in-Err-check_all : goal.returns-in-Err-check_all
returns-in-Err-check_all c = λ sizes base is.
    say-fault sizes base (map member_of c.args.members.now) c.in-Ok.found c.in-Err-check_all.fault c.in-Ok.ensures (c.in-Err-check_all.ensures sizes base is)
