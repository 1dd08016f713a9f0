use Rattle.std.proofs.Common.{◌≡◌, length}
use Rattle.schema_spec.specs.Brackets.{to_end}
use Rattle.schema_grammar.proofs.brackets.to_end.Given as goal

abbrev pub invariant-loop-left : goal.invariant-loop-left
invariant-loop-left l = to_end l.text l.fn.tokens ≡ to_end l.text l.left

abbrev pub decreases-loop-left : goal.decreases-loop-left
decreases-loop-left l = length l.left
