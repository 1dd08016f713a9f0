use Rattle.std.proofs.Common.{◌≡◌, ◌≤◌, length}
use Rattle.schema_spec.specs.Tokens.{past, goes_on}
use Rattle.schema_tokens.proofs.tokenizer.past.Given as goal

abbrev pub invariant-loop-left : goal.invariant-loop-left
invariant-loop-left l = record {
  rest : past (goes_on l.kind) l.fn.before l.fn.text ≡ past (goes_on l.kind) l.last l.left;
  shorter : length l.left ≤ length l.fn.text;
}

abbrev pub decreases-loop-left : goal.decreases-loop-left
decreases-loop-left l = length l.left
