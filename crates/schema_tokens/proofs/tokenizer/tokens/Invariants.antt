use Rattle.std.proofs.Common.{◌≡◌, ◌≤◌, List, ◌++◌, length, filter}
use Rattle.schema_spec.specs.declared.token.Token.{Token}
use Rattle.schema_spec.specs.Tokens.{AreParts, is_token}
use Rattle.schema_tokens.proofs.tokenizer.tokens.Given as goal

-- the parts of what is left complete those of the text
abbrev pub invariant-loop-left : goal.invariant-loop-left
invariant-loop-left l = record {
  completes : (rest : List Token) → AreParts (length l.fn.text) l.left rest
      → (parts : List Token) × AreParts (length l.fn.text) l.fn.text parts
      × (filter (λ part. is_token part.kind) parts ≡ l.tokens.items ++ filter (λ part. is_token part.kind) rest);
  shorter : length l.left ≤ length l.fn.text;
}

abbrev pub decreases-loop-left : goal.decreases-loop-left
decreases-loop-left l = length l.left
