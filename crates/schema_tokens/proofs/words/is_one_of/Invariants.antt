use Rattle.std.proofs.Common.{◌≡◌, map, length}
use Rattle.schema_spec.specs.Words.{is_one_of}
use Rattle.schema_tokens.proofs.words.is_one_of.Given as goal

abbrev pub invariant-loop-left : goal.invariant-loop-left
invariant-loop-left l = is_one_of (map (λ word. word.now) l.fn.words) l.text ≡ is_one_of (map (λ word. word.now) l.left) l.text

abbrev pub decreases-loop-left : goal.decreases-loop-left
decreases-loop-left l = length l.left
