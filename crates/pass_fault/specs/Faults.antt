-- What a fault of a pass says.
use Rattle.std.specs.Prelude.{◌≡◌, ◌⊎◌, ℕ, ℤ, ◌+◌, ◌-◌, ◌<◌, List, length, Option, None}
use Rattle.page_spec.specs.Freelists.{Trunk, free_pages}
use Rattle.tree_spec.specs.declared.fault.TreeFault.{TreeFault}
use Rattle.tree_spec.specs.Faults.{IsFull, IsOther, fault_in as tree_fault_in}
use Rattle.tree_spec.specs.Standing.{Paged}
use Rattle.tree_spec.specs.Worlds.{greatest_count}
use Rattle.prepared_spec.specs.declared.input_fault.RecordCause.{RecordCause}
use Rattle.prepared_spec.specs.declared.input_fault.RecordCause.TheVariants.{SizeOverLimit}
use Rattle.pass_fault.specs.declared.fault.PassFault.{PassFault}
use Rattle.pass_fault.specs.declared.fault.PassFault.TheVariants.{Tree, TargetRecord}

-- the fault of the store that a fault has, if any
abbrev pub fault_in : {F : Type 0} → PassFault F → Option F
fault_in (Tree fault) = tree_fault_in fault
fault_in (TargetRecord table rowid cause) = None

-- what stops a call on a tree, of which P holds
abbrev pub IsTreeFault : {F : Type 0} → (TreeFault F → Type 0) → PassFault F → Type 0
IsTreeFault P (Tree fault) = P fault
IsTreeFault P (TargetRecord table rowid cause) = ⊥

-- refusal 96, with a table, a rowid and a cause of which P holds
abbrev pub IsRecordFault : {F : Type 0} → (List ℕ → ℤ → RecordCause → Type 0) → PassFault F → Type 0
IsRecordFault P (Tree fault) = ⊥
IsRecordFault P (TargetRecord table rowid cause) = P table rowid cause

-- refusal 96 with this name, rowid and cause
abbrev pub IsRecordOf : {F : Type 0} → List ℕ → ℤ → RecordCause → PassFault F → Type 0
IsRecordOf name rowid cause fault = IsRecordFault (λ table at why. (table ≡ name) × (at ≡ rowid) × (why ≡ cause)) fault

-- the store failed or memory is wanting
abbrev pub IsWanting : {F : Type 0} → PassFault F → Type 0
IsWanting fault = IsTreeFault IsOther fault

-- refusal 96 of a record that is too long, or memory is wanting
abbrev pub RefusesLong : {F : Type 0} → List ℕ → ℤ → PassFault F → Type 0
RefusesLong name rowid fault = IsWanting fault ⊎ IsRecordOf name rowid SizeOverLimit fault

-- the store failed or memory is wanting; or it is refusal 51, with the pages that there are then, and fewer than so many pages could be taken
abbrev pub IsFullFor : {F : Type 0} → ℕ → ℕ → ℕ → TreeFault F → Type 0
IsFullFor most room count fault = IsOther fault ⊎ (IsFull count greatest_count fault × (room < most))

-- the pages that could be taken: the free ones, and those up to the limit
abbrev pub room_in : Paged → List Trunk → ℕ
room_in base trunks = length (free_pages trunks) + (greatest_count - base.count)
