-- What a writer of trees says of a store. Each word takes the store's members, as `S.PageRead`.
use Rattle.std.specs.Prelude.{◌≡◌, ℕ, Some, List, [], length}
use Rattle.page_spec.specs.Chains.{IsChain, chain_bytes}
use Rattle.page_spec.specs.Freelists.{Trunk}
use Rattle.page_spec.specs.Pages.{Pages}
use Rattle.page_store.specs.declared.store.PageRead.{Ghosts}
use Rattle.tree_spec.specs.Standing.{Sizes, Paged}
use Rattle.tree_spec.specs.Worlds.{IsFree}
use Rattle.tree_spec.specs.Changes.{Turns}

module _ {P F : Type 0} (g : Ghosts P F) where
  -- the sizes of the store's pages
  abbrev pub sizes_of : P → Sizes
  sizes_of store = record { size = g.size store; usable = g.usable store }

  -- what the store holds, where these are its pages
  abbrev pub paged : P → Pages → Paged
  paged store pages = record { count = g.count store; pages = pages }

  -- Whatever pages the store told before, it tells pages now, and the ones became the others by R.
  abbrev pub Becomes : P → P → (Paged → Paged → Type 0) → Type 0
  Becomes before after R = (old : Pages) → g.pages before ≡ Some old → (new : Pages) × (g.pages after ≡ Some new) × R (paged before old) (paged after new)

-- The bytes stand in an overflow chain over pages that were taken.
pub record HasOverflow (sizes : Sizes) (first : ℕ) (bytes : List ℕ) (old : Paged) (trunks : List Trunk) (new : Paged) : Type 0 where
  pub chain : List ℕ
  pub rest : List Trunk
  pub turns : Turns sizes old [] trunks new chain rest
  pub is_chain : IsChain new.pages sizes.size sizes.usable new.count first (length bytes) chain
  pub holds : chain_bytes new.pages sizes.usable chain (length bytes) ≡ bytes

-- so whatever freelist stood there
abbrev pub WritesOverflow : Sizes → ℕ → List ℕ → Paged → Paged → Type 0
WritesOverflow sizes first bytes old new = (trunks : List Trunk) → IsFree sizes old trunks → HasOverflow sizes first bytes old trunks new
