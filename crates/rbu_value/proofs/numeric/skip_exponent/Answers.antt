use Rattle.std.proofs.Common.{◌≡◌, ◌<◌, true, length, get_or, arith}
use Rattle.std.proofs.lemmas.Bool.Decides.{nat_tests}
use Rattle.std.proofs.lemmas.Slice.{first_rest}
use Rattle.std.specs.List.{between}
use Rattle.rbu_value.specs.NumericText.{is_exponent_letter}
use Rattle.rbu_value.proofs.Scanning.{exponent-some, exponent-none, exponent-only}
use Rattle.rbu_value.proofs.numeric.skip_exponent.Goals as goal

pub returns-then-rest-power : goal.returns-then-rest-power
returns-then-rest-power c =
    let text = c.args.text.now in
    let letter : is_exponent_letter (get_or text 0 0) ≡ true = grind (arith, nat_tests) in
    exponent-some text c.skip_sign-power.result.now c.skip_digits-rest.result.now (get_or text 0 0) (between 1 (length text) text) (first_rest text 0 c.in-101.len_at_least) letter c.skip_sign-power.ensures c.skip_digits-rest.ensures.rest c.if-rest-power.true

pub returns-else-rest-power : goal.returns-else-rest-power
returns-else-rest-power c =
    let text = c.args.text.now in
    let power = c.skip_sign-power.result.now in
    let rest = c.skip_digits-rest.result.now in
    exponent-none text
    (λ other behind ends.
    let some : length rest < length power = (exponent-only text power rest other (get_or text 0 0) (between 1 (length text) text) (first_rest text 0 c.in-101.len_at_least) c.skip_sign-power.ensures c.skip_digits-rest.ensures.rest behind ends).1 in
    absurd (omega arith))
