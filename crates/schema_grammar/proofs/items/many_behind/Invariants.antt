use Rattle.std.proofs.Common.{◌≤◌, length}
use Rattle.schema_grammar.proofs.Repeating.{HasRead}
use Rattle.schema_grammar.proofs.items.many_behind.Given as goal

abbrev pub invariant-more : goal.invariant-more
invariant-more g l = record {
  read : HasRead (g.R.Repeated.begins l.text) (g.R.Item.front l.text) l.fn.tokens l.fn.before l.items.items l.left;
  shorter : length l.left ≤ length l.fn.tokens;
}

abbrev pub decreases-more : goal.decreases-more
decreases-more g l = length l.left
