use Rattle.std.proofs.Common.{List, map, rules, subst}
use Rattle.std.proofs.lemmas.List.Sorted.{IsPermutation-map}
use Rattle.std.specs.List.Sorted.{IsPermutation}
use denote.Ref.{Bor}
use Rattle.database_spec.specs.declared.catalog.NamedEntry.{NamedEntry}
use Rattle.rbu_input.proofs.SourceOrders.{sorted-from}
use Rattle.rbu_input.proofs.sources.sorted_sources.Goals as goal

pub returns-clause-all : goal.returns-clause-all
returns-clause-all c =
    subst (λ (tables : List NamedEntry). IsPermutation tables (map (λ (named : Bor NamedEntry). named.now) c.sort_unstable_by.new.self.items)) c.in_ok-sources.ensures
    (IsPermutation-map (λ (named : Bor NamedEntry). named.now) c.in_ok-sources.sources.items c.sort_unstable_by.new.self.items c.sort_unstable_by.ensures.permutation)

pub returns-clause-sorted : goal.returns-clause-sorted
returns-clause-sorted c = sorted-from _ c.sort_unstable_by.ensures.sorted (λ a r q k. search rules)
