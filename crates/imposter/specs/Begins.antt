-- Where a pass of a batch over its table begins (The RBU Extension, section 2.1).
use Rattle.std.specs.Prelude.{◌≡◌, ℕ, ℤ, List, Ok}
use Rattle.std.specs.List.{AllByRecursion, AllZip}
use Rattle.page_spec.specs.Freelists.{Trunk}
use Rattle.rbu_rows.specs.declared.prepared.Batch.{Batch}
use Rattle.tree_spec.specs.declared.TreeKind.TheVariants.{Table as TableTree}
use Rattle.tree_spec.specs.Trees.{Rooted, list_in, root_of}
use Rattle.tree_spec.specs.Standing.{Sizes, Paged}
use Rattle.tree_spec.specs.Worlds.{IsWorld, with_tree}
use Rattle.database_spec.specs.declared.catalog.Entry.{Entry}
use Rattle.database_spec.specs.Rows.{TableRow, IsRow}
use Rattle.prepared_spec.specs.RowKeys.{IsInKeyOrder}
use Rattle.prepared_laws.specs.TablesMadeLaws.{HaveKeys}
use Rattle.row_writes.specs.StoredLaws.{CanStore}
use Rattle.imposter.specs.declared.pass.TablePass.{TablePass}
use Rattle.imposter.specs.declared.target.Target.{Target}

-- A pass of a batch over the table of an entry begins behind so many of its prepared rows, and behind so many new rows of its group.
pub record Begins (batch : Batch) (entry : Entry) (g : ℤ) (from taken : ℕ) (pass : TablePass) : Type 0 where
  pub meaning : entry.meaning ≡ Ok pass.target.table
  pub name : pass.target.name ≡ batch.table
  pub root : pass.target.root ≡ entry.root
  pub greatest : pass.target.greatest ≡ g
  pub rows : HaveKeys pass.target.table batch.rows → IsInKeyOrder pass.target.table batch.rows pass.rows
  pub at : pass.at ≡ from
  pub taken_is : pass.taken ≡ taken

-- A world has the target's table, whose members are these rows, and records can hold what is stored of them.
pub record HasRows (sizes : Sizes) (target : Target) (front : List Rooted) (table : Rooted) (back : List Rooted) (trunks : List Trunk) (rows : List TableRow) (base : Paged) : Type 0 where
  pub world : IsWorld sizes base (with_tree front table back trunks)
  pub kind_is : table.kind ≡ TableTree
  pub root_is : root_of table ≡ target.root
  pub rows_are : AllZip (IsRow target.table) (list_in table) rows
  pub can_store : AllByRecursion (λ row. CanStore target.table row.values) rows
