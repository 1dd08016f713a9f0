use Rattle.std.proofs.Common.{◌≡◌, ◌≤◌, ◌+◌, length}
use Rattle.schema_spec.specs.declared.syntax.IndexedPart.TheVariants.{Expression}
use Rattle.schema_spec.specs.Brackets.{to_separator}
use Rattle.schema_grammar.proofs.indexes.to_separator.Given as goal

abbrev pub invariant-loop-left : goal.invariant-loop-left
invariant-loop-left l = record {
  rest : to_separator Expression l.text l.fn.depth l.fn.tokens ≡ to_separator Expression l.text l.open l.left;
  shorter : length l.left ≤ length l.fn.tokens;
  bound : l.open + length l.left ≤ length l.fn.tokens + 1;
}

abbrev pub decreases-loop-left : goal.decreases-loop-left
decreases-loop-left l = length l.left
