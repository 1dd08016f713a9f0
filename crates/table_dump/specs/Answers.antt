-- What is answered of a table over a store, which may fail.
use Rattle.std.specs.Prelude.{◌≤◌, ℕ, List, Option, Some, None, Result, Ok, Err, IfOk}
use Rattle.refusal.specs.declared.Refusal.{Refusal}
use Rattle.refusal.specs.declared.Refusal.TheVariants as refused
use Rattle.refusal.specs.declared.Rule.TheVariants as broken
use Rattle.tree_spec.specs.declared.fault.TreeFault.{TreeFault}
use Rattle.tree_spec.specs.declared.fault.TreeFault.TheVariants as tree
use Rattle.tree_spec.specs.Standing.{Paged}
use Rattle.database_spec.specs.declared.catalog.NamedEntry.{NamedEntry}
use Rattle.table_dump.specs.declared.fault.PrintFault.{PrintFault}
use Rattle.table_dump.specs.declared.fault.PrintFault.TheVariants.{Refused, Store, Memory}
use Rattle.table_dump.specs.declared.fault.RowFault.{RowFault}
use Rattle.table_dump.specs.declared.fault.RowFault.TheVariants as row

-- the fault of the store that a fault has, if any
abbrev pub fault_in : {F : Type 0} → PrintFault F → Option F
fault_in (Refused refusal) = None
fault_in (Store fault) = Some fault
fault_in (Memory error) = None

-- a refusal of which P holds, or the store failed, or memory is wanting
abbrev pub IsRefusedOrOther : {F : Type 0} → (Refusal → Type 0) → PrintFault F → Type 0
IsRefusedOrOther P (Refused refusal) = P refusal
IsRefusedOrOther P (Store fault) = Unit {0}
IsRefusedOrOther P (Memory error) = Unit {0}

-- the lines, or the refusal, of which P holds; or the store failed, or memory is wanting
abbrev pub Answers : {F : Type 0} → (Result (List ℕ) Refusal → Type 0) → Result (List ℕ) (PrintFault F) → Type 0
Answers P (Ok text) = P (Ok text)
Answers P (Err fault) = IsRefusedOrOther (λ refusal. P (Err refusal)) fault

-- the same of what reads no page
abbrev pub RefusesRow : (Refusal → Type 0) → RowFault → Type 0
RefusesRow P (row.Refused refusal) = P refusal
RefusesRow P (row.Memory error) = Unit {0}

-- what stops a walk over a tree; a walk takes no page, and so it meets neither a trunk nor a limit
abbrev pub of_tree_fault : {F : Type 0} → TreeFault F → PrintFault F
of_tree_fault (tree.TreeDamaged page rule) = Refused (refused.TreeDamaged page rule)
of_tree_fault (tree.TrunkDamaged page) = Refused (refused.TreeDamaged page broken.Trunk)
of_tree_fault (tree.TargetFull pages limit) = Refused (refused.TreeDamaged pages broken.Count)
of_tree_fault (tree.Store fault) = Store fault
of_tree_fault (tree.Memory error) = Memory error

-- a fault of what reads no page
abbrev pub of_row_fault : {F : Type 0} → RowFault → PrintFault F
of_row_fault (row.Refused refusal) = Refused refusal
of_row_fault (row.Memory error) = Memory error

-- the tree of a table whose text is read has a root among the pages
abbrev pub HasRoot : Paged → NamedEntry → Type 0
HasRoot base named = IfOk named.entry.meaning (λ table. (1 ≤ named.entry.root) × (named.entry.root ≤ base.count))
