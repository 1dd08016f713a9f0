-- What is answered of the payload of a cell.
use Rattle.std.specs.Prelude.{◌≡◌, ℕ, ◌+◌, ◌-◌, ◌<◌, ◌⊎◌, List, ◌++◌, Result, Ok, Err, slice_index_or}
use Rattle.byte_fields.specs.Bytes.{part_of}
use Rattle.format_spec.specs.declared.CellView.{CellView}
use Rattle.format_spec.specs.Page.{cell_place}
use Rattle.page_spec.specs.Pages.{Pages, IsInRange}
use Rattle.page_spec.specs.Chains.{IsBroken}
use Rattle.overflow_chain.specs.declared.fault.ChainFault.{ChainFault}
use Rattle.overflow_chain.specs.declared.fault.ChainFault.TheVariants as chain
use Rattle.overflow_chain.specs.Chain.{HoldsBytes}
use Rattle.refusal.specs.declared.Rule.{Rule}
use Rattle.refusal.specs.declared.Rule.TheVariants as broken
use Rattle.tree_spec.specs.declared.fault.TreeFault.{TreeFault}
use Rattle.tree_spec.specs.declared.fault.TreeFault.TheVariants.{TreeDamaged, Store, Memory}
use Rattle.tree_spec.specs.Faults.{IsDamageOrOther}
use Rattle.tree_walk.specs.declared.page.TreePage.{TreePage}
use Rattle.tree_walk.specs.Pages.{PageView, view_of}

-- a chain that breaks is damage of its tree
abbrev pub tree_fault : {F : Type 0} → ChainFault F → TreeFault F
tree_fault (chain.ChainBroken page) = TreeDamaged page broken.Chain
tree_fault (chain.Store fault) = Store fault
tree_fault (chain.Memory error) = Memory error

-- the part of a payload that lies in the page, by the view of its cell
abbrev pub part_at : PageView → ℕ → CellView → List ℕ
part_at page at view = part_of page.bytes (cell_place page.bytes page.number page.kind at + view.local_at) view.local

module _ (pages : Pages) (size usable count : ℕ) where
  -- The chain is broken: its first number is out of range, which stands in the page of the cell, or a later one is wrong.
  abbrev pub IsBadChain : ℕ → ℕ → ℕ → ℕ → Rule → Type 0
  IsBadChain number first bytes page rule =
      (rule ≡ broken.Chain) × (((page ≡ number) × ¬ IsInRange size count first) ⊎ (IsInRange size count first × IsBroken pages size usable count first bytes page))

  abbrev pub ReadsRest : {F : Type 0} → ℕ → ℕ → ℕ → Result (List ℕ) (TreeFault F) → Type 0
  ReadsRest number first bytes (Ok rest) = HoldsBytes pages size usable count first bytes rest
  ReadsRest number first bytes (Err fault) = IsDamageOrOther (IsBadChain number first bytes) fault

  -- a payload lies in its cell whole, or an overflow chain holds the rest
  abbrev pub IsPayload : PageView → ℕ → CellView → List ℕ → Type 0
  IsPayload page at view payload =
      ((view.payload - view.local ≡ 0) × (payload ≡ part_at page at view))
      ⊎ ((rest : List ℕ) × HoldsBytes pages size usable count view.overflow (view.payload - view.local) rest × (payload ≡ part_at page at view ++ rest))

  -- the payload of a cell has a broken chain
  abbrev pub IsBadPayload : PageView → ℕ → ℕ → Rule → Type 0
  IsBadPayload page at number rule = (d : CellView) → let view = slice_index_or page.views at d in
      (0 < view.payload - view.local) × IsBadChain page.number view.overflow (view.payload - view.local) number rule

  abbrev pub ReadsPayload : {F : Type 0} → TreePage → ℕ → Result (List ℕ) (TreeFault F) → Type 0
  ReadsPayload page at (Ok payload) = (d : CellView) → IsPayload (view_of page) at (slice_index_or page.views at d) payload
  ReadsPayload page at (Err fault) = IsDamageOrOther (IsBadPayload (view_of page) at) fault
