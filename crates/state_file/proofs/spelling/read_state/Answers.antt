use Rattle.std.proofs.Common.{subst, inr}
use Rattle.common_spec.specs.Reading.{Reads, OrNone}
use Rattle.state_file.specs.Keys.{IsSpelled}
use Rattle.state_file.proofs.StatesRead.{read-none, read-state, read-broken}
use Rattle.state_file.proofs.spelling.read_state.Goals as goal

pub returns-in-Ok : goal.returns-in-Ok
returns-in-Ok c =
    read-state c.args.bytes.now c.in-Some.values (subst (Reads (OrNone (IsSpelled c.args.bytes.now))) c.in-Some.is c.in_ok-values.ensures)
    c.in-Ok.state c.in-Ok.ensures.found.0 c.in-Ok.ensures.found.1 c.in-Ok.ensures.found.2

pub returns-in-Err : goal.returns-in-Err
returns-in-Err c =
    inr (read-broken c.args.bytes.now c.in-Some.values (subst (Reads (OrNone (IsSpelled c.args.bytes.now))) c.in-Some.is c.in_ok-values.ensures) c.in-Err.key c.in-Err.ensures.fault)

pub returns-in-None : goal.returns-in-None
returns-in-None c = inr (read-none c.args.bytes.now (subst (Reads (OrNone (IsSpelled c.args.bytes.now))) c.in-None.is c.in_ok-values.ensures))
