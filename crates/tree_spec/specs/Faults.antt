-- What a fault of a call on a tree says.
use Rattle.std.specs.Prelude.{◌≡◌, ℕ, Option, Some, None}
use Rattle.refusal.specs.declared.Rule.{Rule}
use Rattle.tree_spec.specs.declared.fault.TreeFault.{TreeFault}
use Rattle.tree_spec.specs.declared.fault.TreeFault.TheVariants.{TreeDamaged, TrunkDamaged, TargetFull, Store, Memory}

-- the fault of the store that a fault has, if any
abbrev pub fault_in : {F : Type 0} → TreeFault F → Option F
fault_in (TreeDamaged page rule) = None
fault_in (TrunkDamaged page) = None
fault_in (TargetFull pages limit) = None
fault_in (Store fault) = Some fault
fault_in (Memory error) = None

-- the store failed, or memory is wanting
abbrev pub IsOther : {F : Type 0} → TreeFault F → Type 0
IsOther (TreeDamaged page rule) = ⊥
IsOther (TrunkDamaged page) = ⊥
IsOther (TargetFull pages limit) = ⊥
IsOther (Store fault) = Unit {0}
IsOther (Memory error) = Unit {0}

-- refusal 55, with a page and a rule of which P holds
abbrev pub IsDamage : {F : Type 0} → (ℕ → Rule → Type 0) → TreeFault F → Type 0
IsDamage P (TreeDamaged page rule) = P page rule
IsDamage P (TrunkDamaged page) = ⊥
IsDamage P (TargetFull pages limit) = ⊥
IsDamage P (Store fault) = ⊥
IsDamage P (Memory error) = ⊥

-- the same, or the store failed, or memory is wanting
abbrev pub IsDamageOrOther : {F : Type 0} → (ℕ → Rule → Type 0) → TreeFault F → Type 0
IsDamageOrOther P (TreeDamaged page rule) = P page rule
IsDamageOrOther P (TrunkDamaged page) = ⊥
IsDamageOrOther P (TargetFull pages limit) = ⊥
IsDamageOrOther P (Store fault) = Unit {0}
IsDamageOrOther P (Memory error) = Unit {0}

-- refusal 51, with the number of pages and the limit
abbrev pub IsFull : {F : Type 0} → ℕ → ℕ → TreeFault F → Type 0
IsFull count limit (TreeDamaged page rule) = ⊥
IsFull count limit (TrunkDamaged page) = ⊥
IsFull count limit (TargetFull pages most) = (pages ≡ count) × (most ≡ limit)
IsFull count limit (Store fault) = ⊥
IsFull count limit (Memory error) = ⊥
