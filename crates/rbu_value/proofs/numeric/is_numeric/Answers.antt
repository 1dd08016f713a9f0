use Rattle.std.proofs.Common.{◌≡◌, eqb, eqb-true, [], length, sym, ap, ◌∙◌}
use Rattle.std.proofs.lemmas.List.{nil_from_length}
use Rattle.rbu_value.specs.NumericText.{is_space}
use Rattle.rbu_value.specs.Scan.{skip_while}
use Rattle.rbu_value.proofs.Scanning.{number-has_parts, number-from_parts}
use Rattle.rbu_value.proofs.numeric.is_numeric.Goals as goal

pub returns-in-Some : goal.returns-in-Some
returns-in-Some c =
    let text = c.args.text.now in
    let unspaced = c.skip_spaces-unspaced.result.now in
    let unsigned = c.skip_sign-unsigned.result.now in
    let rest = c.in-Some.rest.now in
    let after = c.skip_exponent.result.now in
    let left = c.skip_spaces.result.now in
    let parts = number-has_parts text unspaced unsigned c.skip_spaces-unspaced.ensures c.skip_sign-unsigned.ensures in (
      λ e.
          let empty : left ≡ [] = nil_from_length left (eqb-true (length left) 0 (sym c.is_empty.ensures ∙ e)) in
          number-from_parts text unspaced unsigned rest after c.skip_spaces-unspaced.ensures c.skip_sign-unsigned.ensures c.in-Some.ensures.front c.skip_exponent.ensures.front (sym c.skip_spaces.ensures ∙ empty),
      λ is.
          let p = parts is in
          let first : rest ≡ p.behind_decimal = c.in-Some.ensures.only p.behind_decimal p.decimal p.decimal_ends in
          let second : after ≡ p.after = c.skip_exponent.ensures.only p.after (p.exponent.0, p.exponent.1, first ∙ p.exponent.2) p.exponent_ends in
          c.is_empty.ensures ∙ ap (λ x. eqb (length x) 0) (c.skip_spaces.ensures ∙ ap (skip_while is_space) second ∙ p.spaces),
    )

pub returns-in-None : goal.returns-in-None
returns-in-None c =
    let parts = number-has_parts c.args.text.now c.skip_spaces-unspaced.result.now c.skip_sign-unsigned.result.now c.skip_spaces-unspaced.ensures c.skip_sign-unsigned.ensures in
    (λ e. absurd (cc), λ is. absurd (c.in-None.ensures (parts is).behind_decimal (parts is).decimal (parts is).decimal_ends))
