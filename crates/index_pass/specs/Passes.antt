-- What a step of a pass over an index leaves, and what it refuses (The RBU Extension, section 2.1).
use Rattle.std.specs.Prelude.{◌≡◌, ◌⊎◌, ℕ, suc, ◌+◌, ◌<◌, ◌≤◌, List, [], ◌∷◌, ◌++◌, length, drop, Option, Some, None, slice_get, Result, IfErr}
use Rattle.page_spec.specs.Freelists.{Trunk}
use Rattle.page_spec.specs.Pages.{Pages}
use Rattle.page_store.specs.declared.store.PageRead.{Ghosts}
use Rattle.schema_spec.specs.declared.schema.Index.{Index}
use Rattle.tree_spec.specs.declared.TreeKind.TheVariants.{Index as IndexTree}
use Rattle.tree_spec.specs.Changes.{SameHeader}
use Rattle.tree_spec.specs.Trees.{Member, Rooted, list_in, root_of}
use Rattle.tree_spec.specs.Standing.{Sizes, Paged}
use Rattle.tree_spec.specs.Worlds.{IsWorld, with_tree}
use Rattle.tree_pages.specs.Writers.{paged, sizes_of}
use Rattle.database_spec.specs.Catalogs.{format_of}
use Rattle.database_spec.specs.Rows.{TableRow}
use Rattle.prepared_spec.specs.declared.input_fault.InputFault.TheVariants.{TargetRecord}
use Rattle.prepared_spec.specs.declared.violation.Change.{Change}
use Rattle.prepared_spec.specs.declared.violation.Violation.{Violation}
use Rattle.prepared_spec.specs.NeededPages.{step_pages}
use Rattle.prepared_spec.specs.Outcomes.{IsIndexAfter}
use Rattle.prepared_spec.specs.StepFaults.{IsChangeFault}
use Rattle.prepared_spec.specs.StepRecords.{Step, put_entry, too_long}
use Rattle.pass_fault.specs.declared.answer.PassAnswer.{PassAnswer}
use Rattle.pass_fault.specs.declared.answer.PassAnswer.TheVariants.{Moved as MovedOn, End, Constraint as Violates}
use Rattle.pass_fault.specs.declared.fault.PassFault.{PassFault}
use Rattle.pass_fault.specs.Faults.{IsFullFor, IsRecordFault, IsTreeFault, room_in}
use Rattle.index_steps.specs.IndexSteps.{AreChangesOf, AreFaultless, IsStepped}
use Rattle.index_pass.specs.declared.change.EntryStep.{EntryStep}
use Rattle.index_pass.specs.declared.change.EntryStep.TheVariants.{Moved, Constraint}
use Rattle.index_pass.specs.declared.pass.IndexPass.{IndexPass}
use Rattle.index_pass.specs.declared.target.Target.{Target}
use Rattle.index_pass.specs.Changes.{RefusesChange, StepsChange}
use Rattle.index_pass.specs.Targets.{HasOrders, IsTargetOf, NamesIndex}

-- the changes that a pass has left
abbrev pub left_of : IndexPass → List Change
left_of pass = drop pass.at pass.changes

-- the pass behind the step that was due
abbrev pub pass_behind : IndexPass → IndexPass
pass_behind pass = record { target = pass.target; changes = pass.changes; at = suc pass.at }

-- A pass over an index of a table with this name, at this root, has these changes left.
pub record IsPassOver (table : List ℕ) (index : Index) (root : ℕ) (left : List Change) (pass : IndexPass) : Type 0 where
  pub target : IsTargetOf table index root pass.target
  pub orders : HasOrders pass.target
  pub left_is : left_of pass ≡ left

-- the step that was due, if one was left
abbrev pub StepsAt : Sizes → IndexPass → Option EntryStep → Paged → Paged → Type 0
StepsAt sizes pass None old new = (length pass.changes ≤ pass.at) × (new ≡ old)
StepsAt sizes pass (Some step) old new = (change : Change) × (slice_get pass.changes pass.at ≡ Some change) × StepsChange sizes pass.target change step old new

-- whether one was left
abbrev pub IsLeft : IndexPass → Option EntryStep → Type 0
IsLeft pass None = length pass.changes ≤ pass.at
IsLeft pass (Some step) = pass.at < length pass.changes

-- what is answered of it, and where the pass is then
abbrev pub AnswersStep : IndexPass → IndexPass → Option EntryStep → PassAnswer → Type 0
AnswersStep pass behind None answer = (answer ≡ End) × (behind ≡ pass)
AnswersStep pass behind (Some Moved) answer = (answer ≡ MovedOn) × (behind ≡ pass_behind pass)
AnswersStep pass behind (Some (Constraint violation)) answer = (answer ≡ Violates violation) × (behind ≡ pass)

-- where a pass stands behind an answer
abbrev pub IsBehind : IndexPass → IndexPass → PassAnswer → Type 0
IsBehind pass behind MovedOn = behind ≡ pass_behind pass
IsBehind pass behind End = behind ≡ pass
IsBehind pass behind (Violates violation) = behind ≡ pass

-- An index of a table that an update changes: the rows of the table before the update and after it, and the list of the index before it.
pub record IndexUpdate : Type 0 where
  pub index : Index
  pub old_rows : List TableRow
  pub new_rows : List TableRow
  pub old : List Member

-- the fault of a change
abbrev pub HasFault : IndexUpdate → Change → Option Violation → Type 0
HasFault update change fault = IsChangeFault update.index update.old_rows update.new_rows change fault

-- A pass stands in the changes of an index: behind these, of which none has a fault, it has the others left, and a world has the index at the root with the list that it has behind these.
pub record IsPassIn (sizes : Sizes) (pass : IndexPass) (update : IndexUpdate) (done : List Change) (front : List Rooted) (tree : Rooted) (back : List Rooted) (trunks : List Trunk) (base : Paged) : Type 0 where
  pub names : NamesIndex pass.target update.index
  pub world : IsWorld sizes base (with_tree front tree back trunks)
  pub kind_is : tree.kind ≡ IndexTree
  pub root_is : root_of tree ≡ pass.target.root
  pub changes : AreChangesOf (format_of base) update.index update.old_rows update.new_rows update.old (done ++ left_of pass)
  pub faultless : AreFaultless update.index update.old_rows update.new_rows done
  pub midway : IsIndexAfter (format_of base) update.index done update.old (list_in tree)

-- the step of a change that has no fault: what it puts
abbrev pub due_step : List ℕ → ℕ → IndexUpdate → Change → Step
due_step table format update change = record { table = table; put = put_entry format update.index change; fault = None }

-- The pass stands behind one change more: the entry went out of the list of the index, or into it. All other trees are as they were, and of page 1's first 100 bytes only the size in pages and the freelist's fields may have changed. There are as many pages as before, or more, by as many at most as the step may take. A cell can have the record of an entry that went in.
pub record HasPassed (sizes : Sizes) (pass : IndexPass) (change : Change) (behind : IndexPass) (update : IndexUpdate) (done : List Change) (front : List Rooted) (tree : Rooted) (back : List Rooted) (trunks : List Trunk) (old new : Paged) : Type 0 where
  pub now : Rooted
  pub rest : List Trunk
  pub passing : IsPassIn sizes behind update (done ++ change ∷ []) front now back rest new
  pub root : root_of now ≡ root_of tree
  pub stepped : IsStepped (format_of old) pass.target.order change (list_in tree) (list_in now)
  pub header : SameHeader (old.pages 1) (new.pages 1)
  pub grows : old.count ≤ new.count
  pub rises : new.count ≤ old.count + step_pages sizes.usable (due_step pass.target.table (format_of old) update change)
  pub fits : too_long pass.target.table (put_entry (format_of old) update.index change) ≡ None

-- what a pass answers in the changes of an index: its end, that it went on, or the fault of the change that is due; then nothing was done
abbrev pub IsPassed : Sizes → IndexPass → IndexPass → IndexUpdate → List Change → List Rooted → Rooted → List Rooted → List Trunk → PassAnswer → Paged → Paged → Type 0
IsPassed sizes pass behind update done front tree back trunks MovedOn old new =
    (change : Change) × (slice_get pass.changes pass.at ≡ Some change) × HasFault update change None × HasPassed sizes pass change behind update done front tree back trunks old new
IsPassed sizes pass behind update done front tree back trunks End old new = (length pass.changes ≤ pass.at) × (behind ≡ pass) × (new ≡ old)
IsPassed sizes pass behind update done front tree back trunks (Violates violation) old new =
    (change : Change) × (slice_get pass.changes pass.at ≡ Some change) × HasFault update change (Some violation) × (behind ≡ pass) × (new ≡ old)

-- so wherever the pass stands in the changes of an index
abbrev pub PassesOn : Sizes → IndexPass → IndexPass → PassAnswer → Paged → Paged → Type 0
PassesOn sizes pass behind answer old new =
    (update : IndexUpdate) (done : List Change) (front : List Rooted) (tree : Rooted) (back : List Rooted) (trunks : List Trunk) → IsPassIn sizes pass update done front tree back trunks old
    → IsPassed sizes pass behind update done front tree back trunks answer old new

-- the step has no fault, and the entry that it would add has a record that no cell can have
abbrev pub IsLongStep : {F : Type 0} → Target → IndexUpdate → ℕ → Change → PassFault F → Type 0
IsLongStep target update format change fault =
    IsRecordFault (λ name rowid cause. HasFault update change None × (too_long target.table (put_entry format update.index change) ≡ Some (TargetRecord name rowid cause))) fault

-- What a step refuses over such a world: that no page is left, [51], only where fewer pages could be taken than the step may take, or that it adds an entry whose record is too long.
abbrev pub IsStepFault : {F : Type 0} → ℕ → Target → IndexUpdate → Change → Paged → List Trunk → ℕ → PassFault F → Type 0
IsStepFault usable target update change base trunks count fault =
    IsTreeFault (IsFullFor (step_pages usable (due_step target.table (format_of base) update change)) (room_in base trunks) count) fault ⊎ IsLongStep target update (format_of base) change fault

module _ {P F : Type 0} (g : Ghosts P F) where
  -- what the step that is due refuses, whatever index stands at the root
  abbrev pub RefusesAt : {T : Type 0} → IndexPass → P → P → Result T (PassFault F) → Type 0
  RefusesAt pass before after result = (change : Change) → slice_get pass.changes pass.at ≡ Some change → RefusesChange g pass.target change before after result

  -- so wherever the pass stands in the changes of an index
  abbrev pub RefusesPass : {T : Type 0} → IndexPass → P → P → Result T (PassFault F) → Type 0
  RefusesPass pass before after result =
      (m : Pages) (update : IndexUpdate) (done : List Change) (front : List Rooted) (tree : Rooted) (back : List Rooted) (trunks : List Trunk) (change : Change) → g.pages before ≡ Some m
      → IsPassIn (sizes_of g before) pass update done front tree back trunks (paged g before m) → slice_get pass.changes pass.at ≡ Some change
      → IfErr result (IsStepFault (g.usable before) pass.target update change (paged g before m) trunks (g.count after))
