use Rattle.std.proofs.Common.{◌≡◌, ◌++◌, length, map}
use Rattle.compared_keys.specs.Keys.{compared_key}
use Rattle.group_rows.specs.Runs.{seen}
use Rattle.group_rows.proofs.ordered.keyed_rows.Given as goal

abbrev pub invariant-loop-left : goal.invariant-loop-left
invariant-loop-left l = map seen l.keyed.items ++ map (λ row. (compared_key l.collations row.key, row)) l.left ≡ map (λ row. (compared_key l.collations row.key, row)) l.fn.rows

abbrev pub decreases-loop-left : goal.decreases-loop-left
decreases-loop-left l = length l.left
