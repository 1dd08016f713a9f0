-- What stops a check.
use Rattle.std.specs.Prelude.{ℕ, Option, Some, None}
use Rattle.refusal.specs.declared.Rule.TheVariants.{Trunk, Count}
use Rattle.tree_spec.specs.declared.fault.TreeFault.{TreeFault}
use Rattle.tree_spec.specs.declared.fault.TreeFault.TheVariants as tree
use Rattle.database_spec.specs.declared.fault.FileFault.{FileFault}
use Rattle.database_spec.specs.declared.fault.FileFault.TheVariants as file
use Rattle.db_check.specs.declared.fault.CheckFault.{CheckFault}
use Rattle.db_check.specs.declared.fault.CheckFault.TheVariants.{PageTwice, PageLost, KeyOrder, IndexDisagrees, Damaged, Store, Memory}

-- the fault of the store that a fault has, if any
abbrev pub fault_in : {F : Type 0} → CheckFault F → Option F
fault_in (PageTwice page) = None
fault_in (PageLost page) = None
fault_in (KeyOrder page) = None
fault_in (IndexDisagrees index rowid) = None
fault_in (Damaged page rule) = None
fault_in (Store fault) = Some fault
fault_in (Memory error) = None

-- a refusal of which P holds; where the store failed, or memory is wanting, nothing is said of the file
abbrev pub IsRefusal : {F : Type 0} → (FileFault → Type 0) → CheckFault F → Type 0
IsRefusal P (PageTwice page) = P (file.PageTwice page)
IsRefusal P (PageLost page) = P (file.PageLost page)
IsRefusal P (KeyOrder page) = P (file.KeyOrder page)
IsRefusal P (IndexDisagrees index rowid) = P (file.IndexDisagrees index rowid)
IsRefusal P (Damaged page rule) = P (file.Damaged page rule)
IsRefusal P (Store fault) = Unit {0}
IsRefusal P (Memory error) = Unit {0}

-- the store failed, or memory is wanting
abbrev pub IsOther : {F : Type 0} → CheckFault F → Type 0
IsOther (PageTwice page) = ⊥
IsOther (PageLost page) = ⊥
IsOther (KeyOrder page) = ⊥
IsOther (IndexDisagrees index rowid) = ⊥
IsOther (Damaged page rule) = ⊥
IsOther (Store fault) = Unit {0}
IsOther (Memory error) = Unit {0}

-- what a walk meets at a page, as a check tells it
abbrev pub told : {F : Type 0} → ℕ → TreeFault F → CheckFault F
told number (tree.TreeDamaged page rule) = Damaged number rule
told number (tree.TrunkDamaged page) = Damaged number Trunk
told number (tree.TargetFull pages limit) = Damaged number Count
told number (tree.Store fault) = Store fault
told number (tree.Memory error) = Memory error
