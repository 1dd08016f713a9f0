-- What trees see of a store.
use Rattle.page_spec.specs.Pages.{Pages}
use Rattle.page_store.specs.declared.store.PageRead.{Ghosts}
use Rattle.page_store.specs.Store.{Sees}
use Rattle.tree_spec.specs.Standing.{Sizes, Paged}

module _ {P F : Type 0} (g : Ghosts P F) where
  -- the sizes of its pages
  abbrev pub sizes_of : P → Sizes
  sizes_of store = record { size = g.size store; usable = g.usable store }

  -- its pages, where it tells them
  abbrev pub paged : P → Pages → Paged
  paged store pages = record { count = g.count store; pages = pages }

  -- the pages and their count stay, and the whole answer, also one that is an error, is as is said of the trees in them, where the store tells them
  abbrev pub SeesTree : P → P → (Sizes → Paged → Type 0) → Type 0
  SeesTree before after Is = Sees g before after (λ m. Is (sizes_of before) (paged before m))
