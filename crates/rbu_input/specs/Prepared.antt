-- What is answered of the prepared rows of an RBU database for a target.
use Rattle.std.specs.Prelude.{◌≡◌, ℕ, List, [], Result, Ok, Err, IfOk, Vec, flat_map}
use Rattle.std.specs.Global.{Global}
use Rattle.std.specs.List.{AllZip, AllByRecursion}
use Rattle.common_spec.specs.Reading.{Reads, OrFault}
use Rattle.rbu_rows.specs.declared.prepared.Batch.{Batch}
use Rattle.tree_spec.specs.Standing.{Sizes, Paged}
use Rattle.database_spec.specs.declared.catalog.Catalog.{Catalog}
use Rattle.database_spec.specs.declared.catalog.NamedEntry.{NamedEntry}
use Rattle.database_spec.specs.ListsLaws.{PairsByRecursion}
use Rattle.prepared_spec.specs.declared.input_fault.InputFault.{InputFault}
use Rattle.prepared_spec.specs.DataTables.{DataTable}
use Rattle.prepared_spec.specs.Inputs.{Input, FirstWrongInput, AllRight, IsTableInput, AreInputs, ArePreparedRows, HasInputFault, batches_in}
use Rattle.input_laws.specs.CatalogNamesLaws.{IsKnown, OwnName}
use Rattle.rbu_input.specs.declared.store_fault.StoreFault.{StoreFault}
use Rattle.rbu_input.specs.Batches.{IsRooted}
use Rattle.rbu_input.specs.Reading.{IsRefusedOrOther}

-- the tree of a table whose text is read has a root among so many pages
abbrev pub IsRootedIfRead : ℕ → NamedEntry → Type 0
IsRootedIfRead count named = IfOk named.entry.meaning (λ table. IsRooted count named.entry)

-- what was found is right, and has these batches
pub record AreInBatches (catalog : Catalog) (inputs : List Input) (batches : List Batch) : Type 0 where
  pub right : AllRight catalog [] inputs
  pub batches_are : batches_in inputs ≡ batches

abbrev pub TakesAll : {F : Type 0} → Catalog → List Input → Result (Vec Batch Global) (StoreFault F) → Type 0
TakesAll catalog inputs (Ok batches) = AreInBatches catalog inputs batches.items
TakesAll catalog inputs (Err fault) = IsRefusedOrOther (FirstWrongInput catalog [] inputs) fault

module _ (sizes : Sizes) (base : Paged) (catalog : Catalog) where
  -- `data_` tables are read, one after the other
  abbrev pub ReadsBatches : {F : Type 0} → List DataTable → Result (Vec Batch Global) (StoreFault F) → Type 0
  ReadsBatches tables result =
      (parts : List (List Input)) → AllZip (IsTableInput sizes base catalog) tables parts → TakesAll catalog (flat_map (λ part. part) parts) result

  -- the one answer of an RBU database
  abbrev pub IsInputAnswer : Catalog → Result (List (List Batch)) InputFault → Type 0
  IsInputAnswer rbu answer = Reads (OrFault (ArePreparedRows sizes base catalog rbu) (HasInputFault sizes base catalog rbu)) answer

  abbrev pub AnswersInputs : {F : Type 0} → Catalog → Result (List (List Batch)) (StoreFault F) → Type 0
  AnswersInputs rbu (Ok groups) = IsInputAnswer rbu (Ok groups)
  AnswersInputs rbu (Err fault) = IsRefusedOrOther (λ refused. IsInputAnswer rbu (Err refused)) fault

  -- Whatever the store holds, and whatever is found of the RBU database in it: the prepared rows are answered that it has, or its first refusal.
  abbrev pub ReadsPrepared : {F : Type 0} → Catalog → Result (List (List Batch)) (StoreFault F) → Type 0
  ReadsPrepared rbu result = (inputs : List Input) → AreInputs sizes base catalog rbu inputs → AnswersInputs rbu result

  -- Whatever the store holds: the prepared rows are answered that the RBU database has, or its first refusal. What that takes of the catalogs, each that is read of a database says: that each text is read or has a fault, and that no two tables of the RBU database have one name.
  abbrev pub AnswersCatalogs : {F : Type 0} → Catalog → Result (List (List Batch)) (StoreFault F) → Type 0
  AnswersCatalogs rbu result = AllByRecursion IsKnown catalog.tables → AllByRecursion IsKnown rbu.tables → PairsByRecursion OwnName rbu.tables → AnswersInputs rbu result
