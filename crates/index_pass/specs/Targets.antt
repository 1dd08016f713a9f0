-- The index that a pass goes over.
use Rattle.std.specs.Prelude.{◌≡◌, ℕ, true, List}
use Rattle.schema_spec.specs.declared.schema.Index.{Index}
use Rattle.key_order.specs.ProjectionsLaws.{IsOrderOf}
use Rattle.index_steps.specs.IndexSteps.{IsColumnsOrderOf}
use Rattle.index_pass.specs.declared.target.Target.{Target}

-- what the target of a pass says of an index
pub record NamesIndex (target : Target) (index : Index) : Type 0 where
  pub name : target.name ≡ index.name
  pub unique : target.unique ≡ index.unique
  pub ordered : IsOrderOf target.order index
  pub by_columns : IsColumnsOrderOf target.alike index

-- the target is this index, of a table with this name, at this root
pub record IsTargetOf (table : List ℕ) (index : Index) (root : ℕ) (target : Target) : Type 0 where
  pub names : NamesIndex target index
  pub table_is : target.table ≡ table
  pub root_is : target.root ≡ root

-- the order of a target has the rowid behind its columns, and the other one has the same columns
pub record HasOrders (target : Target) : Type 0 where
  pub columns : target.order.columns ≡ target.alike.columns
  pub last : target.order.rowid_last ≡ true
