use Rattle.std.proofs.Common.{◌≡◌, ◌++◌, length, map}
use Rattle.std.specs.Prelude.{filter}
use Rattle.rbu_input.specs.Sources.{is_source}
use Rattle.rbu_input.proofs.sources.find_sources.Given as goal

abbrev pub invariant-loop-left : goal.invariant-loop-left
invariant-loop-left l = filter is_source l.fn.catalog.tables ≡ map (λ named. named.now) l.sources.items ++ filter is_source l.left

abbrev pub decreases-loop-left : goal.decreases-loop-left
decreases-loop-left l = length l.left
