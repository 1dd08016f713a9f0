use Rattle.std.proofs.Common.{◌≡◌, ◌≤◌, length}
use Rattle.std.specs.Char.{is_ascii_digit}
use Rattle.rbu_value.specs.Scan.{skip_while}
use Rattle.rbu_value.proofs.numeric.skip_digits.Given as goal

abbrev pub invariant-loop-text : goal.invariant-loop-text
invariant-loop-text l = (skip_while is_ascii_digit l.text ≡ skip_while is_ascii_digit l.fn.text) × (length l.text ≤ length l.fn.text)

abbrev pub decreases-loop-text : goal.decreases-loop-text
decreases-loop-text l = length l.text
