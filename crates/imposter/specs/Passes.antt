-- What a step of a pass of a batch over its table leaves, and what it refuses (The RBU Extension, section 2.1).
use Rattle.std.specs.Prelude.{◌≡◌, ◌≢◌, ◌⊎◌, ℕ, ℤ, suc, ◌+◌, ◌<◌, ◌≤◌, Bool, true, if◌then◌else◌, List, length, take, Option, Some, None, option_map, slice_get, slice_index_or, Result, IfErr}
use Rattle.std.specs.List.{AllByRecursion, AllZip}
use Rattle.rbu_value.specs.declared.value.Value.TheVariants.{Null}
use Rattle.page_spec.specs.Freelists.{Trunk}
use Rattle.page_spec.specs.Pages.{Pages}
use Rattle.page_store.specs.declared.store.PageRead.{Ghosts}
use Rattle.rbu_rows.specs.declared.prepared.Prepared.{Prepared}
use Rattle.tree_spec.specs.declared.TreeKind.TheVariants.{Table as TableTree}
use Rattle.tree_spec.specs.Changes.{SameHeader}
use Rattle.tree_spec.specs.Trees.{Rooted, list_in, root_of}
use Rattle.tree_spec.specs.Standing.{Sizes, Paged}
use Rattle.tree_spec.specs.Worlds.{IsWorld, with_tree}
use Rattle.tree_pages.specs.Writers.{paged, sizes_of}
use Rattle.database_spec.specs.declared.catalog.Catalog.{Catalog}
use Rattle.database_spec.specs.Catalogs.{format_of}
use Rattle.database_spec.specs.Rows.{TableRow, IsRow}
use Rattle.prepared_spec.specs.NeededPages.{step_pages}
use Rattle.prepared_spec.specs.RowKeys.{has_rowid_key}
use Rattle.prepared_spec.specs.StepFaults.{row_fault}
use Rattle.prepared_spec.specs.Tables.{integer_in}
use Rattle.pass_fault.specs.declared.answer.PassAnswer.{PassAnswer}
use Rattle.pass_fault.specs.declared.answer.PassAnswer.TheVariants.{Moved as MovedOn, End, Constraint as Violates}
use Rattle.pass_fault.specs.declared.fault.PassFault.{PassFault}
use Rattle.pass_spec.specs.TableSteps.{AreDue, IsInBatch}
use Rattle.row_writes.specs.StoredLaws.{CanStore}
use Rattle.whole_laws.specs.WholeWorlds.{IsWholeWorld}
use Rattle.imposter.specs.declared.pass.TablePass.{TablePass}
use Rattle.imposter.specs.declared.step.RowStep.{RowStep}
use Rattle.imposter.specs.declared.step.RowStep.TheVariants.{Moved, Constraint}
use Rattle.imposter.specs.Steps.{IsStepFault, RefusesStep, StepsRow, due_step}

-- the rowid that a prepared row has for a key
abbrev pub key_rowid : Prepared → ℤ
key_rowid prepared = integer_in (slice_index_or prepared.key 0 Null)

-- the pass behind the step that was due, which made a new row or not
abbrev pub step_behind : TablePass → Bool → TablePass
step_behind pass made = record { target = pass.target; rows = pass.rows; at = suc pass.at; taken = if made then suc pass.taken else pass.taken }

-- the step that was due, if one was left
abbrev pub StepsAt : Sizes → TablePass → Option RowStep → Paged → Paged → Type 0
StepsAt sizes pass None old new = (length pass.rows ≤ pass.at) × (new ≡ old)
StepsAt sizes pass (Some step) old new = (prepared : Prepared) × (slice_get pass.rows pass.at ≡ Some prepared) × StepsRow sizes pass.target pass.taken (key_rowid prepared) prepared step old new

-- whether one was left
abbrev pub IsLeft : TablePass → Option RowStep → Type 0
IsLeft pass None = length pass.rows ≤ pass.at
IsLeft pass (Some step) = pass.at < length pass.rows

-- what is answered of it, and where the pass is then
abbrev pub AnswersStep : TablePass → TablePass → Option RowStep → PassAnswer → Type 0
AnswersStep pass behind None answer = (answer ≡ End) × (behind ≡ pass)
AnswersStep pass behind (Some (Moved made)) answer = (answer ≡ MovedOn) × (behind ≡ step_behind pass made)
AnswersStep pass behind (Some (Constraint violation)) answer = (answer ≡ Violates violation) × (behind ≡ pass)

-- the same with what was done
abbrev pub StepsPass : Sizes → TablePass → TablePass → PassAnswer → Paged → Paged → Type 0
StepsPass sizes pass behind MovedOn old new =
    (prepared : Prepared) × (made : Bool) × (slice_get pass.rows pass.at ≡ Some prepared) × (behind ≡ step_behind pass made)
    × StepsRow sizes pass.target pass.taken (key_rowid prepared) prepared (Moved made) old new
StepsPass sizes pass behind End old new = (length pass.rows ≤ pass.at) × (behind ≡ pass) × (new ≡ old)
StepsPass sizes pass behind (Violates violation) old new =
    (prepared : Prepared) × (slice_get pass.rows pass.at ≡ Some prepared) × (behind ≡ pass) × StepsRow sizes pass.target pass.taken (key_rowid prepared) prepared (Constraint violation) old new

-- A pass stands in a batch: a world has its table, whose members are these rows, which are those behind the prepared rows that it is behind. Before the batch the table had the rows `before`, and so many rows of the group were new.
pub record IsPassIn (sizes : Sizes) (pass : TablePass) (start : ℕ) (before : List TableRow) (front : List Rooted) (table : Rooted) (back : List Rooted) (trunks : List Trunk) (rows : List TableRow) (base : Paged) : Type 0 where
  pub rowid_key : has_rowid_key pass.target.table ≡ true
  pub world : IsWorld sizes base (with_tree front table back trunks)
  pub kind_is : table.kind ≡ TableTree
  pub root_is : root_of table ≡ pass.target.root
  pub rows_are : AllZip (IsRow pass.target.table) (list_in table) rows
  pub can_store : AllByRecursion (λ row. CanStore pass.target.table row.values) rows
  pub prepared_can : AllByRecursion (λ prepared. CanStore pass.target.table prepared.values) pass.rows
  pub due : AreDue pass.target.table pass.target.greatest start before pass.rows
  pub behind : IsInBatch (format_of base) pass.target.table pass.target.greatest start before (take pass.at pass.rows) pass.taken rows

-- The pass stands behind one prepared row more. All other trees are as they were, and of page 1's first 100 bytes only the size in pages and the freelist's fields may have changed. There are as many pages as before, or more, by as many at most as the step may take, and a database that was whole is whole.
pub record HasPassed (sizes : Sizes) (pass : TablePass) (prepared : Prepared) (behind : TablePass) (start : ℕ) (before : List TableRow) (front : List Rooted) (table : Rooted) (back : List Rooted) (trunks : List Trunk) (rows : List TableRow) (old new : Paged) : Type 0 where
  pub now : Rooted
  pub rest : List Trunk
  pub rows_now : List TableRow
  pub passing : IsPassIn sizes behind start before front now back rest rows_now new
  pub root : root_of now ≡ root_of table
  pub header : SameHeader (old.pages 1) (new.pages 1)
  pub grows : old.count ≤ new.count
  pub rises : new.count ≤ old.count + step_pages sizes.usable (due_step pass.target (format_of old) pass.taken rows prepared)
  pub whole : (catalog : Catalog) → IsWholeWorld sizes old catalog (with_tree front table back trunks) → root_of table ≢ 1 → IsWholeWorld sizes new catalog (with_tree front now back rest)

-- what a pass answers in a batch: its end, that it went on, or the fault of the prepared row that is due, by the rows before the batch; then nothing was done
abbrev pub IsPassed : Sizes → TablePass → TablePass → ℕ → List TableRow → List Rooted → Rooted → List Rooted → List Trunk → List TableRow → PassAnswer → Paged → Paged → Type 0
IsPassed sizes pass behind start before front table back trunks rows MovedOn old new =
    (prepared : Prepared) × (slice_get pass.rows pass.at ≡ Some prepared) × (row_fault pass.target.name pass.target.table pass.target.greatest pass.taken before prepared ≡ None)
    × HasPassed sizes pass prepared behind start before front table back trunks rows old new
IsPassed sizes pass behind start before front table back trunks rows End old new = (length pass.rows ≤ pass.at) × (behind ≡ pass) × (new ≡ old)
IsPassed sizes pass behind start before front table back trunks rows (Violates violation) old new =
    (prepared : Prepared) × (slice_get pass.rows pass.at ≡ Some prepared) × (row_fault pass.target.name pass.target.table pass.target.greatest pass.taken before prepared ≡ Some violation) × (behind ≡ pass) × (new ≡ old)

-- so wherever the pass stands in a batch
abbrev pub PassesOn : Sizes → TablePass → TablePass → PassAnswer → Paged → Paged → Type 0
PassesOn sizes pass behind answer old new =
    (start : ℕ) (before : List TableRow) (front : List Rooted) (table : Rooted) (back : List Rooted) (trunks : List Trunk) (rows : List TableRow) → IsPassIn sizes pass start before front table back trunks rows old
    → IsPassed sizes pass behind start before front table back trunks rows answer old new

module _ {P F : Type 0} (g : Ghosts P F) where
  -- what the step that is due refuses
  abbrev pub RefusesAt : {T : Type 0} → TablePass → P → P → Result T (PassFault F) → Type 0
  RefusesAt pass before after result = (prepared : Prepared) → slice_get pass.rows pass.at ≡ Some prepared → RefusesStep g pass.target pass.taken (key_rowid prepared) prepared before after result

  -- so wherever the pass stands in a batch
  abbrev pub RefusesPass : {T : Type 0} → TablePass → P → P → Result T (PassFault F) → Type 0
  RefusesPass pass before after result =
      (m : Pages) (start : ℕ) (old : List TableRow) (front : List Rooted) (table : Rooted) (back : List Rooted) (trunks : List Trunk) (rows : List TableRow) (prepared : Prepared) → g.pages before ≡ Some m
      → IsPassIn (sizes_of g before) pass start old front table back trunks rows (paged g before m) → slice_get pass.rows pass.at ≡ Some prepared
      → IfErr result (IsStepFault (g.usable before) pass.target pass.taken prepared rows (paged g before m) trunks (g.count after))
