-- What is answered of a `data_` table: its rows as a batch, or the first thing that is wrong with it.
use Rattle.std.specs.Prelude.{◌≡◌, ◌≤◌, ℕ, List, [], ◌∷◌, ◌++◌, Result, Ok, Err, filter_map}
use Rattle.schema_spec.specs.declared.schema.Table.{Table}
use Rattle.tree_spec.specs.declared.TreeKind.TheVariants.{Table as TableTree}
use Rattle.tree_spec.specs.Standing.{Sizes, Paged}
use Rattle.database_spec.specs.declared.catalog.Catalog.{Catalog}
use Rattle.database_spec.specs.declared.catalog.Entry.{Entry}
use Rattle.std.specs.List.{AllZip}
use Rattle.database_spec.specs.Walks.{Finding, IsWalk}
use Rattle.prepared_spec.specs.DataTables.{DataTable}
use Rattle.prepared_spec.specs.Inputs.{Input, Closes, Opened, FirstWrongInput, AllRight, IsInputOf, IsTableInput, batches_in, prepared_in}
use Rattle.rbu_input.specs.declared.batches.CountedBatch.{CountedBatch}
use Rattle.rbu_input.specs.declared.reading.CountedRows.{CountedRows}
use Rattle.rbu_input.specs.declared.store_fault.StoreFault.{StoreFault}
use Rattle.rbu_input.specs.declared.sums.Sums.{Sums}
use Rattle.rbu_input.specs.Reading.{IsRefusedOrOther, joined, opened_as}
use Rattle.rbu_input.specs.Sums.{AreSums}

-- the batch of rows that were read
pub record IsClosed (source name : List ℕ) (read : CountedRows) (counted : CountedBatch) : Type 0 where
  pub batch : counted.batch ≡ record { table = name; source = source; rows = read.rows.items }
  pub sums : counted.sums ≡ read.sums

-- the tree of a table has a root among so many pages
pub record IsRooted (count : ℕ) (entry : Entry) : Type 0 where
  pub first : 1 ≤ entry.root
  pub last : entry.root ≤ count

-- what is found of the tree of a `data_` table, and its end
abbrev pub with_end : Opened → List Input → List Input
with_end opened inputs = inputs ++ Closes opened (filter_map prepared_in inputs) ∷ []

module _ (catalog : Catalog) where
  -- what was found is right, and is this batch
  pub record AreInBatch (before inputs : List Input) (counted : CountedBatch) : Type 0 where
    pub right : AllRight catalog before inputs
    pub batch : batches_in inputs ≡ counted.batch ∷ []
    pub sums : AreSums (before ++ inputs) counted.sums

  -- or the first thing that is wrong is refused
  abbrev pub TakesInputs : {F : Type 0} → List Input → List Input → Result CountedBatch (StoreFault F) → Type 0
  TakesInputs before inputs (Ok counted) = AreInBatch before inputs counted
  TakesInputs before inputs (Err fault) = IsRefusedOrOther (FirstWrongInput catalog before inputs) fault

module _ (sizes : Sizes) (base : Paged) where
  -- the rows that a walk over the tree at a root finds are taken as a batch
  abbrev pub ReadsBatch : {F : Type 0} → List ℕ → List ℕ → Table → Table → ℕ → Sums → Result CountedBatch (StoreFault F) → Type 0
  ReadsBatch source name target own root sums result =
      (catalog : Catalog) (before : List Input) (findings : List Finding) (parts : List (List Input)) → AreSums before sums → AllZip (IsInputOf (opened_as source name target own)) findings parts
      → IsWalk sizes base TableTree root findings → TakesInputs catalog before (with_end (opened_as source name target own) (joined parts)) result

  -- Whatever the store holds, all that is found of a `data_` table is taken, or the first thing that is wrong is refused.
  abbrev pub ReadsTable : {F : Type 0} → Catalog → DataTable → Sums → Result CountedBatch (StoreFault F) → Type 0
  ReadsTable catalog source sums result = (before inputs : List Input) → AreSums before sums → IsTableInput sizes base catalog source inputs → TakesInputs catalog before inputs result
