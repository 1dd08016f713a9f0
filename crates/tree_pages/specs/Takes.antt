-- How many pages a call takes, and when there are too few.
use Rattle.std.specs.Prelude.{◌≡◌, ℕ, ◌+◌, ◌<◌, ◌≤◌, ◌⊎◌, Some, List, length, Result, IfErr}
use Rattle.format_spec.specs.Header.{freelist_pages}
use Rattle.page_spec.specs.Counts.{times}
use Rattle.page_spec.specs.FreePages.{due_pages}
use Rattle.page_spec.specs.Freelists.{Trunk}
use Rattle.page_spec.specs.Pages.{Pages}
use Rattle.page_store.specs.declared.store.PageRead.{Ghosts}
use Rattle.tree_spec.specs.declared.fault.TreeFault.{TreeFault}
use Rattle.tree_spec.specs.Faults.{IsFull, IsOther}
use Rattle.tree_spec.specs.Standing.{Sizes, Paged}
use Rattle.tree_spec.specs.Worlds.{IsFree, slack}
use Rattle.tree_spec.specs.Changes.{Turns}
use Rattle.tree_pages.specs.Writers.{paged, sizes_of}

-- Pages in hand stay in hand, and at most so many more come to them.
pub record TakesAtMost (sizes : Sizes) (most : ℕ) (hand : List ℕ) (old : Paged) (trunks : List Trunk) (new : Paged) : Type 0 where
  pub later : List ℕ
  pub rest : List Trunk
  pub turns : Turns sizes old hand trunks new later rest
  pub keeps : (n : ℕ) → times n hand ≤ times n later
  pub few : length later ≤ length hand + most

-- At most so many pages more are in use, which are those that are due but for the free ones that page 1 counts.
abbrev pub UsesBy : Sizes → ℕ → Paged → Paged → Type 0
UsesBy sizes most old new = due_pages sizes.size new.count + freelist_pages (old.pages 1) ≤ due_pages sizes.size old.count + freelist_pages (new.pages 1) + most

-- The store failed or memory is wanting; or it is refusal 51, with the pages that there are then and the limit, and fewer than so many pages could be taken before.
abbrev pub IsShort : {F : Type 0} → Sizes → ℕ → ℕ → Paged → List Trunk → ℕ → TreeFault F → Type 0
IsShort sizes most limit old trunks count fault = IsOther fault ⊎ (IsFull count limit fault × (slack sizes old limit trunks < most))

module _ {P F : Type 0} (g : Ghosts P F) where
  -- there are at most so many pages more, the lock-byte page left out
  abbrev pub RisesBy : ℕ → P → P → Type 0
  RisesBy most before after = due_pages (g.size before) (g.count after) ≤ due_pages (g.size before) (g.count before) + most

  -- over a sound freelist a call that takes so many pages at most refuses nothing but that there are fewer
  abbrev pub RefusesShort : {T : Type 0} → ℕ → ℕ → P → P → Result T (TreeFault F) → Type 0
  RefusesShort most limit before after result = (m : Pages) (trunks : List Trunk) → g.pages before ≡ Some m → IsFree (sizes_of g before) (paged g before m) trunks
      → IfErr result (IsShort (sizes_of g before) most limit (paged g before m) trunks (g.count after))
