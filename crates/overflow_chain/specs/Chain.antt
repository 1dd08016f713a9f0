-- What is answered of an overflow chain.
use Rattle.std.specs.Prelude.{◌≡◌, ◌⊎◌, ℕ, List, ◌++◌, Option, Some, None, Result, Ok, Err}
use Rattle.std.specs.List.{flat_map}
use Rattle.page_spec.specs.Pages.{Pages}
use Rattle.page_spec.specs.Chains.{IsChain, IsBroken, chain_bytes}
use Rattle.overflow_chain.specs.declared.fault.ChainFault.{ChainFault}
use Rattle.overflow_chain.specs.declared.fault.ChainFault.TheVariants.{ChainBroken, Store, Memory}

-- the fault of the store that a fault has, if any
abbrev pub fault_in : {F : Type 0} → ChainFault F → Option F
fault_in (ChainBroken page) = None
fault_in (Store fault) = Some fault
fault_in (Memory error) = None

-- the fault says where the chain breaks
abbrev pub BreaksAt : {F : Type 0} → Pages → ℕ → ℕ → ℕ → ℕ → ℕ → ChainFault F → Type 0
BreaksAt pages size usable count first bytes (ChainBroken page) = IsBroken pages size usable count first bytes page
BreaksAt pages size usable count first bytes (Store fault) = ⊥
BreaksAt pages size usable count first bytes (Memory error) = ⊥

-- the store failed, or memory is wanting: nothing is said of the chain
abbrev pub IsOther : {F : Type 0} → ChainFault F → Type 0
IsOther (ChainBroken page) = ⊥
IsOther (Store fault) = Unit {0}
IsOther (Memory error) = Unit {0}

-- the bytes are those of a chain
abbrev pub HoldsBytes : Pages → ℕ → ℕ → ℕ → ℕ → ℕ → List ℕ → Type 0
HoldsBytes pages size usable count first length bytes =
    (numbers : List ℕ) × IsChain pages size usable count first length numbers × (bytes ≡ chain_bytes pages usable numbers length)

-- How a walk over a chain ends: it came to all pages, and of each of them a part was appended to what was kept; or it was stopped.
abbrev pub Walks : {F : Type 0} → ℕ → ℕ → ℕ → ℕ → ℕ → (ℕ → List ℕ → List ℕ) → List ℕ → List ℕ → Result Unit (ChainFault F) → Pages → Type 0
Walks size usable count first length part before after (Ok done) pages =
    (numbers : List ℕ) × IsChain pages size usable count first length numbers × (after ≡ before ++ flat_map (λ n. part n (pages n)) numbers)
Walks size usable count first length part before after (Err fault) pages = IsOther fault ⊎ BreaksAt pages size usable count first length fault
