use Rattle.std.proofs.Common.{arith}
use Rattle.rbu_value.proofs.Scanning.{IsCut, decimal-only, decimal-front}
use Rattle.rbu_value.proofs.numeric.skip_decimal.Goals as goal

pub returns-then-digits-gt0 : goal.returns-then-digits-gt0
returns-then-digits-gt0 c =
    let text = c.args.text.now in
    let whole = c.skip_digits-behind_whole.result.now in
    let fraction = c.skip_point-fraction.result.now in
    let rest = c.skip_digits-rest.result.now in
    let cut : IsCut text whole fraction rest = record { first = c.skip_digits-behind_whole.ensures.rest; second = c.skip_point-fraction.ensures.rest; third = c.skip_digits-rest.ensures.rest } in
    record { front = decimal-front text whole fraction rest cut (omega arith); only = λ other behind ends. (decimal-only text whole fraction rest other cut behind ends).0 }

pub returns-else-digits-gt0 : goal.returns-else-digits-gt0
returns-else-digits-gt0 c =
    let text = c.args.text.now in
    let whole = c.skip_digits-behind_whole.result.now in
    let fraction = c.skip_point-fraction.result.now in
    let rest = c.skip_digits-rest.result.now in
    let cut : IsCut text whole fraction rest = record { first = c.skip_digits-behind_whole.ensures.rest; second = c.skip_point-fraction.ensures.rest; third = c.skip_digits-rest.ensures.rest } in
    λ other behind ends. let some = (decimal-only text whole fraction rest other cut behind ends).1 in absurd (omega (arith, some))
