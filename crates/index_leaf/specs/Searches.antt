-- The search for an entry among the cells of a page that is not decoded.
use Rattle.std.specs.Prelude.{◌≡◌, ℕ, suc, ◌-◌, ◌<◌, ◌≤◌, List, length, slice_index_or}
use Rattle.std.specs.declared.cmp.Ordering.{Ordering}
use Rattle.std.specs.declared.cmp.Ordering.TheVariants.{Less, Equal, Greater}
use Rattle.byte_fields.specs.Bytes.{part_of}
use Rattle.key_order.specs.declared.order.KeyOrder.{KeyOrder}
use Rattle.key_order.specs.Orders.{Compares, IsEntry}
use Rattle.put_spec.specs.Steps.{Spelled}
use Rattle.index_leaf.specs.declared.searching.Found.{Found}
use Rattle.index_leaf.specs.declared.searching.Found.TheVariants.{Present, At}

-- no overflow chain has a part of the payload of a cell, which is this
pub record HoldsWhole (cell : Spelled) (entry : List ℕ) : Type 0 where
  pub all : cell.view.payload - cell.view.local ≡ 0
  pub is : entry ≡ part_of cell.bytes cell.view.local_at cell.view.local

-- the payload of a cell lies in it whole, and compares so with another one, where both are entries
abbrev pub IsJudged : KeyOrder → List ℕ → Ordering → Spelled → Type 0
IsJudged order payload found cell = (entry : List ℕ) × HoldsWhole cell entry × (IsEntry order entry → IsEntry order payload → Compares order found entry payload)

-- an index of so many cells, or the one behind them
abbrev pub IsWithin : ℕ → Found → Type 0
IsWithin count Present = Unit {0}
IsWithin count (At at) = at ≤ count

module _ (order : KeyOrder) (payload : List ℕ) (cells : List Spelled) where
  -- the entry before an index is less, and the one at another greater
  pub record IsHalved (low high : ℕ) : Type 0 where
    pub within : low ≤ high
    pub few : high ≤ length cells
    pub less : (before : ℕ) (d : Spelled) → suc before ≡ low → IsJudged order payload Less (slice_index_or cells before d)
    pub greater : (d : Spelled) → high < length cells → IsJudged order payload Greater (slice_index_or cells high d)

  -- some entry is equal; or the one before an index is less, and the one at it greater
  abbrev pub IsFound : Found → Type 0
  IsFound Present = (at : ℕ) × (at < length cells) × ((d : Spelled) → IsJudged order payload Equal (slice_index_or cells at d))
  IsFound (At at) = IsHalved at at
