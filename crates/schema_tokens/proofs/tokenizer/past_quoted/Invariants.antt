use Rattle.std.proofs.Common.{◌≡◌, ◌≤◌, length}
use Rattle.schema_spec.specs.Tokens.{past_quoted}
use Rattle.schema_tokens.proofs.tokenizer.past_quoted.Given as goal

abbrev pub invariant-loop-left : goal.invariant-loop-left
invariant-loop-left l = record {
  rest : past_quoted l.quote l.fn.text ≡ past_quoted l.quote l.left;
  shorter : length l.left ≤ length l.fn.text;
}

abbrev pub decreases-loop-left : goal.decreases-loop-left
decreases-loop-left l = length l.left
