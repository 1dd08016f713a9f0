use Rattle.std.proofs.Common.{◌≡◌, ◌≤◌, ◌+◌, length}
use Rattle.schema_spec.specs.Brackets.{to_close}
use Rattle.schema_grammar.proofs.brackets.to_close.Given as goal

abbrev pub invariant-loop-left : goal.invariant-loop-left
invariant-loop-left l = record {
  rest : to_close l.text 1 l.fn.tokens ≡ to_close l.text l.depth l.left;
  shorter : length l.left ≤ length l.fn.tokens;
  bound : l.depth + length l.left ≤ length l.fn.tokens + 1;
}

abbrev pub decreases-loop-left : goal.decreases-loop-left
decreases-loop-left l = length l.left
