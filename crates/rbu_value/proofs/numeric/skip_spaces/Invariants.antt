use Rattle.std.proofs.Common.{◌≡◌, length}
use Rattle.rbu_value.specs.NumericText.{is_space}
use Rattle.rbu_value.specs.Scan.{skip_while}
use Rattle.rbu_value.proofs.numeric.skip_spaces.Given as goal

abbrev pub invariant-loop-text : goal.invariant-loop-text
invariant-loop-text l = skip_while is_space l.text ≡ skip_while is_space l.fn.text

abbrev pub decreases-loop-text : goal.decreases-loop-text
decreases-loop-text l = length l.text
