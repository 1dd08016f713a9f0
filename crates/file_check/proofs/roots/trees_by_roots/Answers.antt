use Rattle.std.proofs.Common.{List, map, rules, subst}
use Rattle.std.specs.Prelude.{IsPermutation}
use Rattle.std.proofs.lemmas.List.Sorted.{IsNonDecreasingBy-from_sort_by_key, IsPermutation-map}
use Rattle.file_check.specs.Trees.{KnownTree, root_of, seen}
use Rattle.file_check.proofs.roots.trees_by_roots.Goals as goal

pub returns-clause-same : goal.returns-clause-same
returns-clause-same c =
    let sorted = c.sort_unstable_by_key.new.self.items in
    subst (λ (trees : List KnownTree). IsPermutation trees (map seen sorted)) c.in_ok-trees.ensures (IsPermutation-map seen c.in_ok-trees.trees.items sorted c.sort_unstable_by_key.ensures.permutation)

pub returns-clause-sorted : goal.returns-clause-sorted
returns-clause-sorted c = IsNonDecreasingBy-from_sort_by_key (λ tree. root_of (seen tree)) _ c.sort_unstable_by_key.ensures.sorted (λ a r q k. search rules)
