use Rattle.std.proofs.Common.{◌≡◌, ◌++◌, length}
use Rattle.schema_spec.specs.Words.{undoubled}
use Rattle.schema_tokens.proofs.words.undoubled.Given as goal

abbrev pub invariant-loop-left : goal.invariant-loop-left
invariant-loop-left l = undoubled l.quote l.fn.text ≡ l.bytes.items ++ undoubled l.quote l.left

abbrev pub decreases-loop-left : goal.decreases-loop-left
decreases-loop-left l = length l.left
