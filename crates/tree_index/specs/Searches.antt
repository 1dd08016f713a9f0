-- Where an entry stands among the cells of a page, or belongs.
use Rattle.std.specs.Prelude.{◌≡◌, ℕ, suc, ◌<◌, ◌≤◌, ◌⊎◌, List, length, Result, Ok, Err, slice_index_or}
use Rattle.std.specs.declared.cmp.Ordering.{Ordering}
use Rattle.std.specs.declared.cmp.Ordering.TheVariants.{Less, Equal, Greater}
use Rattle.format_spec.specs.declared.CellView.{CellView}
use Rattle.key_order.specs.declared.order.KeyOrder.{KeyOrder}
use Rattle.key_order.specs.Orders.{Compares, IsEntry}
use Rattle.page_spec.specs.Pages.{Pages}
use Rattle.refusal.specs.declared.Rule.{Rule}
use Rattle.refusal.specs.declared.Rule.TheVariants as broken
use Rattle.tree_spec.specs.declared.fault.TreeFault.{TreeFault}
use Rattle.tree_spec.specs.Faults.{IsDamage, IsDamageOrOther}
use Rattle.tree_walk.specs.declared.page.TreePage.{TreePage}
use Rattle.tree_walk.specs.Pages.{view_of}
use Rattle.tree_walk.specs.Payloads.{IsBadPayload, IsPayload}
use Rattle.tree_index.specs.declared.searching.Sought.{Sought}
use Rattle.tree_index.specs.declared.searching.Sought.TheVariants.{Present, At}

-- bytes that are no entry, in this page
abbrev pub IsNoEntry : KeyOrder → ℕ → List ℕ → ℕ → Rule → Type 0
IsNoEntry order number entry page rule = (page ≡ number) × (rule ≡ broken.Record) × ¬ IsEntry order entry

-- the order of two entries, or that the first is none
abbrev pub Judges : {F : Type 0} → KeyOrder → ℕ → List ℕ → List ℕ → Result Ordering (TreeFault F) → Type 0
Judges order number entry payload (Ok found) = Compares order found entry payload
Judges order number entry payload (Err fault) = IsDamage (IsNoEntry order number entry) fault

-- the index of a cell, or of the place behind them
abbrev pub IsWithin : TreePage → Sought → Type 0
IsWithin page (Present at) = at < length page.views
IsWithin page (At at) = at ≤ length page.views

module _ (pages : Pages) (size usable count : ℕ) (page : TreePage) where
  -- the payload of the cell at an index
  abbrev pub PayloadAt : ℕ → List ℕ → Type 0
  PayloadAt at entry = (d : CellView) → IsPayload pages size usable count (view_of page) at (slice_index_or page.views at d) entry

  -- the payload of the cell at an index has a broken chain, or is no entry
  abbrev pub IsBadEntry : KeyOrder → ℕ → ℕ → Rule → Type 0
  IsBadEntry order at number rule = IsBadPayload pages size usable count (view_of page) at number rule ⊎ ((entry : List ℕ) × PayloadAt at entry × IsNoEntry order page.number entry number rule)

  module _ (order : KeyOrder) (payload : List ℕ) where
    -- the entry of the cell at an index compares so with another
    abbrev pub ComparesSo : Ordering → ℕ → Type 0
    ComparesSo found at = (entry : List ℕ) → PayloadAt at entry → Compares order found entry payload

    abbrev pub ComparesAt : {F : Type 0} → ℕ → Result Ordering (TreeFault F) → Type 0
    ComparesAt at (Ok found) = ComparesSo found at
    ComparesAt at (Err fault) = IsDamageOrOther (IsBadEntry order at) fault

    -- the entry of the cell at an index is equal; or the one before an index is less, and the one at it greater
    abbrev pub IsSought : Sought → Type 0
    IsSought (Present at) = (at < length page.views) × ComparesSo Equal at
    IsSought (At at) = (at ≤ length page.views) × ((before : ℕ) → suc before ≡ at → ComparesSo Less before) × (at < length page.views → ComparesSo Greater at)

    abbrev pub Searches : {F : Type 0} → Result Sought (TreeFault F) → Type 0
    Searches (Ok sought) = IsSought sought
    Searches (Err fault) = IsDamageOrOther (λ number rule. (at : ℕ) × (at < length page.views) × IsBadEntry order at number rule) fault
