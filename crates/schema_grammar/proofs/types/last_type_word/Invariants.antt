use Rattle.std.proofs.Common.{◌≡◌, ◌≤◌, length}
use Rattle.schema_spec.specs.ColumnGrammar.{last_type_word}
use Rattle.schema_grammar.proofs.types.last_type_word.Given as goal

abbrev pub invariant-loop-left : goal.invariant-loop-left
invariant-loop-left l = record {
  words : last_type_word l.text l.fn.last l.fn.tokens ≡ last_type_word l.text l.word l.left;
  shorter : length l.left ≤ length l.fn.tokens;
}

abbrev pub decreases-loop-left : goal.decreases-loop-left
decreases-loop-left l = length l.left
