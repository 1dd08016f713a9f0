-- What one step of a pass over a table leaves of a store, and what it refuses (The RBU Extension, section 2.1).
use Rattle.std.specs.Prelude.{◌≡◌, ◌≢◌, ◌⊎◌, ℕ, ℤ, suc, ◌+◌, ◌≤◌, ◌&&◌, not, true, List, length, Contains, Option, Some, None, is_some, option_map, Result, IfErr}
use Rattle.std.specs.List.{AllByRecursion, AllZip}
use Rattle.rbu_value.specs.declared.value.Value.{Value}
use Rattle.page_spec.specs.Freelists.{Trunk}
use Rattle.page_spec.specs.Pages.{Pages}
use Rattle.page_store.specs.declared.store.PageRead.{Ghosts}
use Rattle.rbu_rows.specs.declared.prepared.Prepared.{Prepared}
use Rattle.tree_spec.specs.declared.TreeKind.TheVariants.{Table as TableTree}
use Rattle.tree_spec.specs.Changes.{SameHeader}
use Rattle.tree_spec.specs.Trees.{Member, Rooted, list_in, root_of}
use Rattle.tree_spec.specs.Standing.{Sizes, Paged, IsTree}
use Rattle.tree_spec.specs.Worlds.{IsWorld, with_tree}
use Rattle.tree_pages.specs.Writers.{paged, sizes_of}
use Rattle.database_spec.specs.declared.catalog.Catalog.{Catalog}
use Rattle.database_spec.specs.Catalogs.{format_of}
use Rattle.database_spec.specs.Rows.{TableRow, IsRow}
use Rattle.prepared_spec.specs.declared.input_fault.InputFault.TheVariants.{TargetRecord}
use Rattle.prepared_spec.specs.declared.input_fault.RecordCause.TheVariants.{SizeOverLimit}
use Rattle.prepared_spec.specs.declared.violation.Violation.{Violation}
use Rattle.prepared_spec.specs.NeededPages.{step_pages}
use Rattle.prepared_spec.specs.Outcomes.{row_member}
use Rattle.prepared_spec.specs.PreparedRows.{HasCause}
use Rattle.prepared_spec.specs.RowKeys.{is_met}
use Rattle.prepared_spec.specs.StepFaults.{row_fault}
use Rattle.prepared_spec.specs.StepRecords.{Step, put_row, too_long}
use Rattle.prepared_spec.specs.Tables.{is_new, makes_row, new_rowid}
use Rattle.pass_spec.specs.TableSteps.{AreStepped, MeetsRowid}
use Rattle.pass_fault.specs.declared.fault.PassFault.{PassFault}
use Rattle.pass_fault.specs.Faults.{IsFullFor, IsRecordFault, IsTreeFault, IsWanting, room_in}
use Rattle.row_values.specs.Values.{member_with}
use Rattle.row_writes.specs.declared.write.RowWrite.{RowWrite}
use Rattle.row_writes.specs.RowWrites.{Writes}
use Rattle.row_writes.specs.StoredLaws.{CanStore}
use Rattle.whole_laws.specs.WholeWorlds.{IsWholeWorld}
use Rattle.imposter.specs.declared.step.RowStep.{RowStep}
use Rattle.imposter.specs.declared.step.RowStep.TheVariants.{Moved, Constraint}
use Rattle.imposter.specs.declared.target.Target.{Target}
use Rattle.imposter.specs.Writes.{DoesWrite, IsWriteFault}

-- the step that is due: what it puts into a table of these rows, and its fault
abbrev pub due_step : Target → ℕ → ℕ → List TableRow → Prepared → Step
due_step target format taken rows prepared = record {
  table = target.name;
  put = option_map row_member (put_row format target.table target.greatest taken rows prepared);
  fault = row_fault target.name target.table target.greatest taken rows prepared;
}

-- A world has the target's table, whose members are these rows. The prepared row meets the row of this rowid, where there is one, and no other; a row that it makes has this rowid.
pub record IsDueIn (sizes : Sizes) (target : Target) (taken : ℕ) (rowid : ℤ) (prepared : Prepared) (front : List Rooted) (table : Rooted) (back : List Rooted) (trunks : List Trunk) (rows : List TableRow) (base : Paged) : Type 0 where
  pub world : IsWorld sizes base (with_tree front table back trunks)
  pub kind_is : table.kind ≡ TableTree
  pub root_is : root_of table ≡ target.root
  pub rows_are : AllZip (IsRow target.table) (list_in table) rows
  pub meets_row : MeetsRowid target.table rows prepared rowid
  pub makes_row : is_new target.table rows prepared ≡ true → new_rowid target.table target.greatest (suc taken) prepared ≡ rowid

-- Records can hold what is stored of the prepared row and of each row. A prepared row has a value for each column.
pub record CanBeStored (target : Target) (prepared : Prepared) (rows : List TableRow) : Type 0 where
  pub many : length prepared.values ≡ length target.table.columns
  pub stored : CanStore target.table prepared.values
  pub each : AllByRecursion (λ row. CanStore target.table row.values) rows

-- The table's list is the one that the step leaves of its rows; all other trees are as they were, and of page 1's first 100 bytes only the size in pages and the freelist's fields may have changed. There are as many pages as before, or more, by as many at most as the step may take. The members are the rows that the step leaves, and a database that was whole is whole.
pub record HasStepped (sizes : Sizes) (target : Target) (taken : ℕ) (prepared : Prepared) (front : List Rooted) (table : Rooted) (back : List Rooted) (trunks : List Trunk) (rows : List TableRow) (old new : Paged) : Type 0 where
  pub now : Rooted
  pub rest : List Trunk
  pub world : IsWorld sizes new (with_tree front now back rest)
  pub root : root_of now ≡ root_of table
  pub kind_is : now.kind ≡ TableTree
  pub stepped : AreStepped (format_of old) target.table target.greatest taken prepared rows (list_in now)
  pub header : SameHeader (old.pages 1) (new.pages 1)
  pub grows : old.count ≤ new.count
  pub rises : new.count ≤ old.count + step_pages sizes.usable (due_step target (format_of old) taken rows prepared)
  pub fits : too_long target.name (option_map row_member (put_row (format_of old) target.table target.greatest taken rows prepared)) ≡ None
  pub rows_are : CanBeStored target prepared rows → AllZip (IsRow target.table) (list_in now) stepped.0 × AllByRecursion (λ row. CanStore target.table row.values) stepped.0
  pub whole : (catalog : Catalog) → CanBeStored target prepared rows → IsWholeWorld sizes old catalog (with_tree front table back trunks) → root_of table ≢ 1 → IsWholeWorld sizes new catalog (with_tree front now back rest)

-- what a step did with a table of these rows: it was made, or it has a fault and nothing was done
abbrev pub IsStepOf : Sizes → Target → ℕ → Prepared → List Rooted → Rooted → List Rooted → List Trunk → List TableRow → RowStep → Paged → Paged → Type 0
IsStepOf sizes target taken prepared front table back trunks rows (Moved made) old new =
    (row_fault target.name target.table target.greatest taken rows prepared ≡ None) × (made ≡ is_new target.table rows prepared) × HasStepped sizes target taken prepared front table back trunks rows old new
IsStepOf sizes target taken prepared front table back trunks rows (Constraint violation) old new =
    (row_fault target.name target.table target.greatest taken rows prepared ≡ Some violation) × (new ≡ old)

-- so in every world with the table, whatever its rows
abbrev pub StepsRow : Sizes → Target → ℕ → ℤ → Prepared → RowStep → Paged → Paged → Type 0
StepsRow sizes target taken rowid prepared step old new =
    (front : List Rooted) (table : Rooted) (back : List Rooted) (trunks : List Trunk) (rows : List TableRow) → IsDueIn sizes target taken rowid prepared front table back trunks rows old
    → IsStepOf sizes target taken prepared front table back trunks rows step old new

-- the step would put a record that no cell can have
abbrev pub IsLongStep : {F : Type 0} → Step → PassFault F → Type 0
IsLongStep step fault = IsRecordFault (λ name rowid cause. (step.fault ≡ None) × (too_long step.table step.put ≡ Some (TargetRecord name rowid cause))) fault

-- What a step refuses over such a world: that no page is left, [51], only where fewer pages could be taken than the step may take, or that it puts a record that is too long.
abbrev pub IsStepFault : {F : Type 0} → ℕ → Target → ℕ → Prepared → List TableRow → Paged → List Trunk → ℕ → PassFault F → Type 0
IsStepFault usable target taken prepared rows base trunks count fault =
    let step = due_step target (format_of base) taken rows prepared in IsTreeFault (IsFullFor (step_pages usable step) (room_in base trunks) count) fault ⊎ IsLongStep step fault

-- what is refused of records: that of the row that is met is none of a row, for a cause that it has, or the one that is put is too long
abbrev pub IsRefusedIn : {F : Type 0} → Target → ℤ → List Member → PassFault F → Type 0
IsRefusedIn target rowid members fault =
    IsTreeFault (λ _. Unit {0}) fault
    ⊎ IsRecordFault (λ name at cause. (name ≡ target.name) × (at ≡ rowid) × ((cause ≡ SizeOverLimit) ⊎ ((payload : List ℕ) × Contains members (member_with rowid payload) × HasCause payload (length target.table.columns) cause))) fault

-- Where it is known which row is met.

-- the fault of the prepared row
abbrev pub IsFaultOf : Target → ℕ → Option (ℤ × List Value) → Prepared → Option Violation → Type 0
IsFaultOf target taken met prepared fault = (before : List TableRow) → is_met target.table before prepared ≡ is_some met → fault ≡ row_fault target.name target.table target.greatest taken before prepared

-- what is written, and that it was
abbrev pub WritesStep : Sizes → Target → ℤ → Option (ℤ × List Value) → Prepared → Paged → Paged → Type 0
WritesStep sizes target rowid met prepared old new = (write : RowWrite) × Writes (format_of old) target.table met prepared write × DoesWrite sizes target.root rowid write old new

abbrev pub StepsMet : Sizes → Target → ℕ → ℤ → Option (ℤ × List Value) → Prepared → RowStep → Paged → Paged → Type 0
StepsMet sizes target taken rowid met prepared (Moved made) old new =
    IsFaultOf target taken met prepared None × (made ≡ (makes_row prepared.control && not (is_some met))) × WritesStep sizes target rowid met prepared old new
StepsMet sizes target taken rowid met prepared (Constraint violation) old new = IsFaultOf target taken met prepared (Some violation) × (new ≡ old)

-- what writing a step refuses, whatever it writes
abbrev pub IsFaultWriting : {F : Type 0} → ℕ → Target → ℤ → Option (ℤ × List Value) → Prepared → Paged → List Trunk → ℕ → PassFault F → Type 0
IsFaultWriting usable target rowid met prepared base trunks count fault =
    IsWanting fault ⊎ ((write : RowWrite) × Writes (format_of base) target.table met prepared write × IsWriteFault usable target rowid write (room_in base trunks) count fault)

-- so of a step
abbrev pub IsFaultMet : {F : Type 0} → ℕ → Target → ℕ → ℤ → Option (ℤ × List Value) → Prepared → Paged → List Trunk → ℕ → PassFault F → Type 0
IsFaultMet usable target taken rowid met prepared base trunks count fault =
    IsWanting fault ⊎ (IsFaultOf target taken met prepared None × IsFaultWriting usable target rowid met prepared base trunks count fault)

module _ {P F : Type 0} (g : Ghosts P F) where
  -- what a step refuses in every world with the table, whatever its rows
  abbrev pub RefusesStep : {T : Type 0} → Target → ℕ → ℤ → Prepared → P → P → Result T (PassFault F) → Type 0
  RefusesStep target taken rowid prepared before after result =
      (m : Pages) (front : List Rooted) (table : Rooted) (back : List Rooted) (trunks : List Trunk) (rows : List TableRow) → g.pages before ≡ Some m
      → IsDueIn (sizes_of g before) target taken rowid prepared front table back trunks rows (paged g before m)
      → IfErr result (IsStepFault (g.usable before) target taken prepared rows (paged g before m) trunks (g.count after))

  -- what it refuses of records, whatever table stands at the root
  abbrev pub RefusesRecords : {T : Type 0} → Target → ℤ → P → P → Result T (PassFault F) → Type 0
  RefusesRecords target rowid before after result =
      (m : Pages) (depth : ℕ) (members : List Member) (numbers : List ℕ) → g.pages before ≡ Some m → IsTree (sizes_of g before) (paged g before m) target.root TableTree depth members numbers
      → IfErr result (IsRefusedIn target rowid members)

  -- what writing a step refuses in every world with the table
  abbrev pub RefusesWriting : {T : Type 0} → Target → ℤ → Option (ℤ × List Value) → Prepared → P → P → Result T (PassFault F) → Type 0
  RefusesWriting target rowid met prepared before after result =
      (m : Pages) (front : List Rooted) (table : Rooted) (back : List Rooted) (trunks : List Trunk) → g.pages before ≡ Some m → IsWorld (sizes_of g before) (paged g before m) (with_tree front table back trunks)
      → table.kind ≡ TableTree → root_of table ≡ target.root
      → IfErr result (IsFaultWriting (g.usable before) target rowid met prepared (paged g before m) trunks (g.count after))

  -- so of a step where it is known which row is met
  abbrev pub RefusesMet : {T : Type 0} → Target → ℕ → ℤ → Option (ℤ × List Value) → Prepared → P → P → Result T (PassFault F) → Type 0
  RefusesMet target taken rowid met prepared before after result =
      (m : Pages) (front : List Rooted) (table : Rooted) (back : List Rooted) (trunks : List Trunk) → g.pages before ≡ Some m → IsWorld (sizes_of g before) (paged g before m) (with_tree front table back trunks)
      → table.kind ≡ TableTree → root_of table ≡ target.root
      → IfErr result (IsFaultMet (g.usable before) target taken rowid met prepared (paged g before m) trunks (g.count after))
