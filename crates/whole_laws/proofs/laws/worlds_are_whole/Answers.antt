use Rattle.std.proofs.Common.{ℕ, List, refl, subst}
use Rattle.std.specs.Prelude.{IfOk}
use Rattle.std.specs.List.{AllByRecursion}
use Rattle.tree_spec.specs.Trees.{Member}
use Rattle.database_spec.specs.declared.catalog.NamedEntry.{NamedEntry}
use Rattle.database_spec.specs.Databases.{list_at, IsReadable}
use Rattle.whole_laws.proofs.laws.worlds_are_whole.Goals as goal

pub returns-clause-whole : goal.returns-clause-whole
returns-clause-whole c sizes base catalog world whole = record {
  world = world;
  is_world = whole.is_world;
  has_catalog = whole.has_catalog;
  roots = whole.roots;
  kinds = whole.kinds;
  header = refl;
  lists = refl;
  readable = whole.readable;
}

pub returns-clause-world : goal.returns-clause-world
returns-clause-world c sizes base catalog db whole = (
  whole.world,
  record {
    is_world = whole.is_world;
    has_catalog = whole.has_catalog;
    roots = whole.roots;
    kinds = whole.kinds;
    readable = subst (λ (lists : List (ℕ × List Member)). AllByRecursion (λ (named : NamedEntry). IfOk named.entry.meaning (λ _. AllByRecursion IsReadable (list_at lists named.entry.root))) catalog.tables) whole.lists whole.readable;
  },
  λ i. record { header = whole.header i; lists = whole.lists i },
)
