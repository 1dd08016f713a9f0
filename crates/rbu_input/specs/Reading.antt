-- What is answered of the rows of a `data_` table, one after the other.
use Rattle.std.specs.Prelude.{◌≡◌, ℕ, List, [], ◌∷◌, ◌++◌, flat_map, filter_map, Option, Some, None, Result, Ok, Err, ◌⊎◌}
use Rattle.std.specs.List.{AllZip}
use Rattle.rbu_rows.specs.declared.prepared.Prepared.{Prepared}
use Rattle.schema_spec.specs.declared.schema.Table.{Table}
use Rattle.tree_spec.specs.declared.TreeKind.TheVariants.{Table as TableTree}
use Rattle.refusal.specs.declared.Rule.TheVariants as broken
use Rattle.tree_spec.specs.declared.fault.TreeFault.{TreeFault}
use Rattle.tree_spec.specs.declared.fault.TreeFault.TheVariants as tree
use Rattle.tree_rows.specs.Remaining.{Remains}
use Rattle.database_spec.specs.Walks.{Finding, IsWalk}
use Rattle.tree_spec.specs.Standing.{Sizes, Paged}
use Rattle.tree_spec.specs.Trees.{Member}
use Rattle.tree_walk.specs.declared.path.Cursor.{Cursor}
use Rattle.database_spec.specs.declared.catalog.Catalog.{Catalog}
use Rattle.prepared_spec.specs.declared.input_fault.InputFault.{InputFault}
use Rattle.prepared_spec.specs.declared.input_fault.InputFault.TheVariants.{TreeDamaged}
use Rattle.prepared_spec.specs.Inputs.{Input, Reads, Opened, IsInputOf, IsWrongInput, FirstWrongInput, AllRight, batches_in, prepared_in}
use Rattle.rbu_input.specs.declared.fault.InputError.{InputError}
use Rattle.rbu_input.specs.declared.fault.InputError.TheVariants as input
use Rattle.rbu_input.specs.declared.store_fault.StoreFault.{StoreFault}
use Rattle.rbu_input.specs.declared.store_fault.StoreFault.TheVariants.{Refused, Store, Memory}
use Rattle.rbu_input.specs.declared.reading.CountedRow.{CountedRow}
use Rattle.rbu_input.specs.declared.reading.CountedRows.{CountedRows}
use Rattle.rbu_input.specs.declared.sums.Sums.{Sums}
use Rattle.rbu_input.specs.RowAnswers.{IsWant, Refuses}
use Rattle.rbu_input.specs.Sums.{AreSums}

-- the fault of the store that a fault has, if any
abbrev pub fault_in : {F : Type 0} → StoreFault F → Option F
fault_in (Refused fault) = None
fault_in (Store fault) = Some fault
fault_in (Memory error) = None

-- a refusal of which P holds, or the store failed, or memory is wanting
abbrev pub IsRefusedOrOther : {F : Type 0} → (InputFault → Type 0) → StoreFault F → Type 0
IsRefusedOrOther P (Refused fault) = P fault
IsRefusedOrOther P (Store fault) = Unit {0}
IsRefusedOrOther P (Memory error) = Unit {0}

-- the damage that a walk meets as a refusal
abbrev pub of_tree_fault : {F : Type 0} → TreeFault F → StoreFault F
of_tree_fault (tree.TreeDamaged page rule) = Refused (TreeDamaged page rule)
of_tree_fault (tree.TrunkDamaged page) = Refused (TreeDamaged page broken.Trunk)
of_tree_fault (tree.TargetFull pages limit) = Refused (TreeDamaged pages broken.Count)
of_tree_fault (tree.Store fault) = Store fault
of_tree_fault (tree.Memory error) = Memory error

-- a fault of a call that reads no page
abbrev pub of_input_error : {F : Type 0} → InputError → StoreFault F
of_input_error (input.Refused fault) = Refused fault
of_input_error (input.Memory error) = Memory error

-- a `data_` table as it is read
abbrev pub opened_as : List ℕ → List ℕ → Table → Table → Opened
opened_as source name target own = record { source = source; name = name; target = target; own = own }

-- the inputs of all that is found, one after the other
abbrev pub joined : List (List Input) → List Input
joined parts = flat_map (λ part. part) parts

-- what a call over a `data_` table says of all that may be found before what a walk over its tree finds
abbrev pub OfRows : List ℕ → Table → Table → Sums → (Catalog → List Input → Opened → List Finding → List (List Input) → Type 0) → Type 0
OfRows source target own sums Says =
    (catalog : Catalog) (before : List Input) (name : List ℕ) (findings : List Finding) (parts : List (List Input)) → AreSums before sums → AllZip (IsInputOf (opened_as source name target own)) findings parts
    → Says catalog before (opened_as source name target own) findings parts

module _ (catalog : Catalog) where
  -- a row is right behind what was found before it
  pub record IsTaken (before : List Input) (opened : Opened) (member : Member) (row : Option Prepared) (counted : CountedRow) : Type 0 where
    pub prepared : row ≡ Some counted.prepared
    pub right : (fault : InputFault) → ¬ IsWrongInput catalog before (Reads opened member row) fault
    pub sums : AreSums (before ++ Reads opened member row ∷ []) counted.sums

  -- it is right, or is refused for what is wrong
  abbrev pub TakesRow : List Input → Opened → Member → Option Prepared → Result CountedRow InputError → Type 0
  TakesRow before opened member row (Ok counted) = IsTaken before opened member row counted
  TakesRow before opened member row (Err fault) = IsWant fault ⊎ Refuses (IsWrongInput catalog before (Reads opened member row)) fault

  -- these inputs are rows that are right, one after the other
  pub record AreTaken (before inputs : List Input) (rows : List Prepared) (sums : Sums) : Type 0 where
    pub rows_are : filter_map prepared_in inputs ≡ rows
    pub right : AllRight catalog before inputs
    pub sums_are : AreSums (before ++ inputs) sums
    pub batches : batches_in inputs ≡ []

  -- they are right, or the first thing that is wrong is refused
  abbrev pub TakesRows : {F : Type 0} → List Input → List Input → Result CountedRows (StoreFault F) → Type 0
  TakesRows before inputs (Ok rows) = AreTaken before inputs rows.rows.items rows.sums
  TakesRows before inputs (Err fault) = IsRefusedOrOther (FirstWrongInput catalog before inputs) fault

module _ (sizes : Sizes) (base : Paged) where
  -- a cursor left a member, which is a right row, and stands at the rest of the walk
  pub record Leaves (catalog : Catalog) (before : List Input) (opened : Opened) (inputs : List Input) (counted : CountedRow) (cursor : Cursor) : Type 0 where
    pub member : Member
    pub findings : List Finding
    pub parts : List (List Input)
    pub are_parts : AllZip (IsInputOf opened) findings parts
    pub inputs_are : inputs ≡ Reads opened member (Some counted.prepared) ∷ joined parts
    pub taken : IsTaken catalog before opened member (Some counted.prepared) counted
    pub remains : Remains sizes base TableTree findings cursor

  abbrev pub LeavesOrRefuses : {F : Type 0} → Catalog → List Input → Opened → List Input → Cursor → Result (Option CountedRow) (StoreFault F) → Type 0
  LeavesOrRefuses catalog before opened inputs cursor (Ok (Some counted)) = Leaves catalog before opened inputs counted cursor
  LeavesOrRefuses catalog before opened inputs cursor (Ok None) = inputs ≡ []
  LeavesOrRefuses catalog before opened inputs cursor (Err fault) = IsRefusedOrOther (FirstWrongInput catalog before inputs) fault

  -- a row is read, and the cursor moves on
  abbrev pub ReadsNext : {F : Type 0} → List ℕ → Table → Table → Sums → Cursor → Cursor → Result (Option CountedRow) (StoreFault F) → Type 0
  ReadsNext source target own sums old new result =
      OfRows source target own sums (λ catalog before opened findings parts. Remains sizes base TableTree findings old → LeavesOrRefuses catalog before opened (joined parts) new result)

  -- all rows from a cursor on are read
  abbrev pub ReadsFrom : {F : Type 0} → List ℕ → Table → Table → Sums → Cursor → Result CountedRows (StoreFault F) → Type 0
  ReadsFrom source target own sums cursor result =
      OfRows source target own sums (λ catalog before opened findings parts. Remains sizes base TableTree findings cursor → TakesRows catalog before (joined parts) result)

  -- Whatever the store holds, the rows that a walk over the tree at a root finds are answered, or the first thing that is wrong.
  abbrev pub ReadsRows : {F : Type 0} → List ℕ → Table → Table → ℕ → Sums → Result CountedRows (StoreFault F) → Type 0
  ReadsRows source target own root sums result =
      OfRows source target own sums (λ catalog before opened findings parts. IsWalk sizes base TableTree root findings → TakesRows catalog before (joined parts) result)
