-- When a world is whole by a catalog: `Databases` of `database_spec` says it of a database, which is told by its header and lists.
use Rattle.std.specs.Prelude.{◌≡◌, ℕ, List, map, IfOk}
use Rattle.std.specs.List.{AllByRecursion}
use Rattle.tree_spec.specs.Trees.{Rooted, Member, root_of, list_in}
use Rattle.tree_spec.specs.Standing.{Sizes, Paged}
use Rattle.tree_spec.specs.Worlds.{World, IsWorld}
use Rattle.database_spec.specs.declared.catalog.Catalog.{Catalog}
use Rattle.database_spec.specs.RightRows.{HasCatalog}
use Rattle.database_spec.specs.Databases.{Database, header_of, list_at, HasItsKind, IsReadable}

-- the list of each tree, by its root
abbrev pub rooted_list : Rooted → ℕ × List Member
rooted_list rooted = (root_of rooted, list_in rooted)

abbrev pub lists_of : List Rooted → List (ℕ × List Member)
lists_of trees = map rooted_list trees

-- the database of a world
abbrev pub database_of : Paged → World → Database
database_of base world = record { header = header_of (base.pages 1); lists = lists_of world.trees }

-- the trees of a world are those of the catalog, each of its kind, and records of tables in the profile can be read
pub record IsWholeWorld (sizes : Sizes) (base : Paged) (catalog : Catalog) (world : World) : Type 0 where
  pub is_world : IsWorld sizes base world
  pub has_catalog : HasCatalog sizes base catalog
  pub roots : map root_of world.trees ≡ catalog.roots
  pub kinds : AllByRecursion (HasItsKind catalog) world.trees
  pub readable : AllByRecursion (λ named. IfOk named.entry.meaning (λ _. AllByRecursion IsReadable (list_at (lists_of world.trees) named.entry.root))) catalog.tables
