-- The prepared rows of an RBU database for a target, as groups of batches, or the first refusal (The RBU Extension, section 2.1; the order of refusals and the limits are this project's).
use Rattle.std.specs.Prelude.{◌≡◌, ℕ, zero, suc, ◌+◌, not, nat_lt, Bool, true, false, ◌⊎◌, if◌then◌else◌, List, [], ◌∷◌, ◌++◌, length, flat_map, filter, filter_map, find, Option, Some, None, Ok, sum_by}
use Rattle.std.specs.List.{AllZip}
use Rattle.common_spec.specs.Reading.{OrNone}
use Rattle.refusal.specs.declared.Rule.{Rule}
use Rattle.rbu_rows.specs.declared.prepared.Prepared.{Prepared}
use Rattle.rbu_rows.specs.declared.prepared.Batch.{Batch}
use Rattle.schema_spec.specs.declared.schema.Table.{Table}
use Rattle.schema_spec.specs.Words.{same_name}
use Rattle.tree_spec.specs.declared.TreeKind.TheVariants.{Table as TableTree}
use Rattle.tree_spec.specs.Trees.{Member}
use Rattle.tree_spec.specs.Standing.{Sizes, Paged}
use Rattle.database_spec.specs.declared.catalog.NamedEntry.{NamedEntry}
use Rattle.database_spec.specs.declared.catalog.Catalog.{Catalog}
use Rattle.database_spec.specs.Walks.{Finding, Finds, Ends, Holds, Breaks, Disorders, Bares, IsWalk, stop_of}
use Rattle.refusal.specs.declared.Measure.TheVariants as measure
use Rattle.prepared_spec.specs.declared.input_fault.InputFault.{InputFault}
use Rattle.prepared_spec.specs.declared.input_fault.InputFault.TheVariants.{TreeDamaged, DuplicateKey, TooMuch}
use Rattle.prepared_spec.specs.RowKeys.{same_key}
use Rattle.prepared_spec.specs.Plans.{table_named}
use Rattle.prepared_spec.specs.DataTables.{DataTable, AreDataTables, table_fault}
use Rattle.prepared_spec.specs.PreparedRows.{IsPrepared, IsUnprepared, record_length, IsWrongRow}

-- a `data_` table that is read: the name and the table of its target, and its own
pub record Opened : Type 0 where
  pub source : List ℕ
  pub name : List ℕ
  pub target : Table
  pub own : Table

-- What is found in an RBU database: a `data_` table, a row of it with what it prepares, damage of its tree, and that all rows of it are read.
pub data Input : Type 0 where
  Opens : DataTable → Input
  Reads : Opened → Member → Option Prepared → Input
  Damages : ℕ × Rule → Input
  Closes : Opened → List Prepared → Input

-- a `data_` table without a fault of its own, as it is read
pub record IsOpened (catalog : Catalog) (source : DataTable) (opened : Opened) : Type 0 where
  pub faultless : table_fault catalog source ≡ None
  pub named : NamedEntry
  pub found : table_named source.target catalog.tables ≡ Some named
  pub target : named.entry.meaning ≡ Ok opened.target
  pub own : source.entry.meaning ≡ Ok opened.own
  pub source_is : opened.source ≡ source.source
  pub name_is : opened.name ≡ named.name

-- what a thing that is found in its tree is: a row with what it prepares, damage, or nothing that counts
abbrev pub IsInputOf : Opened → Finding → List Input → Type 0
IsInputOf opened (Holds page member) inputs = (prepared : Option Prepared) × OrNone (IsPrepared opened.target opened.own member) prepared × (inputs ≡ Reads opened member prepared ∷ [])
IsInputOf opened (Breaks page rule) inputs = inputs ≡ Damages (page, rule) ∷ []
IsInputOf opened (Disorders page) inputs = elim (stop_of (Disorders page)) as (λ _. Type 0) [ Some stop ↦ inputs ≡ Damages stop ∷ [] | None ↦ ⊥ ]
IsInputOf opened (Finds page) inputs = inputs ≡ []
IsInputOf opened (Ends page depth) inputs = inputs ≡ []
IsInputOf opened (Bares page) inputs = inputs ≡ []

abbrev pub prepared_in : Input → Option Prepared
prepared_in (Opens source) = None
prepared_in (Reads opened member prepared) = prepared
prepared_in (Damages stop) = None
prepared_in (Closes opened rows) = None

module _ (sizes : Sizes) (base : Paged) (catalog : Catalog) where
  -- what is found of a `data_` table: itself alone where it has a fault, else its rows by rowid too
  abbrev pub IsTableInput : DataTable → List Input → Type 0
  IsTableInput source inputs =
      ((fault : InputFault) × (table_fault catalog source ≡ Some fault) × (inputs ≡ Opens source ∷ []))
      ⊎ ((opened : Opened) × (findings : List Finding) × (parts : List (List Input)) × IsOpened catalog source opened × IsWalk sizes base TableTree source.entry.root findings
      × AllZip (IsInputOf opened) findings parts
      × (inputs ≡ Opens source ∷ (flat_map (λ part. part) parts ++ Closes opened (filter_map prepared_in (flat_map (λ part. part) parts)) ∷ [])))

  -- all that is found for a target with this catalog
  pub record AreInputs (rbu : Catalog) (inputs : List Input) : Type 0 where
    pub tables : List DataTable
    pub are_tables : AreDataTables rbu tables
    pub parts : List (List Input)
    pub are_parts : AllZip IsTableInput tables parts
    pub inputs_are : inputs ≡ flat_map (λ part. part) parts

abbrev pub is_row : Input → Bool
is_row (Reads opened member prepared) = true
is_row (Opens source) = false
is_row (Damages stop) = false
is_row (Closes opened rows) = false

abbrev pub input_bytes : Input → ℕ
input_bytes (Reads opened member (Some prepared)) = record_length opened.target prepared
input_bytes (Reads opened member None) = 0
input_bytes (Opens source) = 0
input_bytes (Damages stop) = 0
input_bytes (Closes opened rows) = 0

-- the limits of all rows, at the row that passes one: how many there are, and then the bytes of their records
abbrev pub sum_fault : List Input → Input → Option InputFault
sum_fault before input =
    if nat_lt 1000000 (suc (length (filter is_row before))) then Some (TooMuch measure.Rows (suc (length (filter is_row before))) 1000000)
    else (if nat_lt 268435456 (sum_by input_bytes before + input_bytes input) then Some (TooMuch measure.Bytes (sum_by input_bytes before + input_bytes input) 268435456) else None)

-- the first row, in their order, whose key an earlier one has, with that one
abbrev pub key_twice : Table → List Prepared → List Prepared → Option (Prepared × Prepared)
key_twice table before [] = None
key_twice table before (row ∷ rows) =
    elim (find (λ (other : Prepared). same_key table other.key row.key) before) as (λ _. Option (Prepared × Prepared)) [
      | Some other ↦ Some (other, row)
      | None ↦ key_twice table (before ++ row ∷ []) rows
    ]

-- the batches that were read
abbrev pub batches_in : List Input → List Batch
batches_in [] = []
batches_in (Closes opened rows ∷ inputs) = record { table = opened.name; source = opened.source; rows = rows } ∷ batches_in inputs
batches_in (Opens source ∷ inputs) = batches_in inputs
batches_in (Reads opened member prepared ∷ inputs) = batches_in inputs
batches_in (Damages stop ∷ inputs) = batches_in inputs

-- batches in groups, as many at most: all of the first one's target in their order, and then those of the others
abbrev pub grouped : ℕ → List Batch → List (List Batch)
grouped zero batches = []
grouped (suc n) [] = []
grouped (suc n) (batch ∷ batches) =
    (batch ∷ filter (λ other. same_name other.table batch.table) batches) ∷ grouped n (filter (λ other. not (same_name other.table batch.table)) batches)

module _ (catalog : Catalog) where
  -- what is found is wrong after all that was found before it
  abbrev pub IsWrongInput : List Input → Input → InputFault → Type 0
  IsWrongInput before (Opens source) fault = table_fault catalog source ≡ Some fault
  IsWrongInput before (Damages stop) fault = fault ≡ TreeDamaged stop.0 stop.1
  IsWrongInput before (Reads opened member None) fault = IsUnprepared opened.source opened.target opened.own member fault
  IsWrongInput before (Reads opened member (Some prepared)) fault =
      IsWrongRow opened.source opened.target prepared fault
      ⊎ (((other : InputFault) → ¬ IsWrongRow opened.source opened.target prepared other) × (sum_fault before (Reads opened member (Some prepared)) ≡ Some fault))
  IsWrongInput before (Closes opened rows) fault =
      (first : Prepared) × (second : Prepared) × (key_twice opened.target [] rows ≡ Some (first, second)) × (fault ≡ DuplicateKey opened.source first.data_rowid second.data_rowid)

  abbrev pub FirstWrongInput : List Input → List Input → InputFault → Type 0
  FirstWrongInput before [] fault = ⊥
  FirstWrongInput before (one ∷ inputs) fault =
      IsWrongInput before one fault ⊎ (((other : InputFault) → ¬ IsWrongInput before one other) × FirstWrongInput (before ++ one ∷ []) inputs fault)

  abbrev pub AllRight : List Input → List Input → Type 0
  AllRight before [] = Unit {0}
  AllRight before (one ∷ inputs) = ((other : InputFault) → ¬ IsWrongInput before one other) × AllRight (before ++ one ∷ []) inputs

module _ (sizes : Sizes) (base : Paged) (catalog : Catalog) where
  -- The prepared rows of an RBU database with this catalog: its groups, in order of their first batches.
  abbrev pub ArePreparedRows : Catalog → List (List Batch) → Type 0
  ArePreparedRows rbu groups = (inputs : List Input) × AreInputs sizes base catalog rbu inputs × AllRight catalog [] inputs × (groups ≡ grouped (length (batches_in inputs)) (batches_in inputs))

  -- Why it is refused: the first thing in the order that is wrong.
  abbrev pub HasInputFault : Catalog → InputFault → Type 0
  HasInputFault rbu fault = (inputs : List Input) × AreInputs sizes base catalog rbu inputs × FirstWrongInput catalog [] inputs fault
