-- A change of some pages and of the freelist, which leaves all other pages.
use Rattle.std.specs.Prelude.{◌≡◌, ◌≢◌, ℕ, ◌+◌, ◌<◌, ◌≤◌, ◌⊎◌, List, slice_index}
use Rattle.format_spec.specs.Page.{header_place}
use Rattle.page_spec.specs.Freelists.{Trunk, free_pages}
use Rattle.page_spec.specs.Counts.{times}
use Rattle.tree_spec.specs.Standing.{Sizes, Paged, SamePage}
use Rattle.tree_spec.specs.Worlds.{IsFree}
use Rattle.page_spec.specs.FreePages.{due}

-- of the database header only the size in pages and the freelist's place and length may change: offsets 28 to 39 (Database File Format, section 1.3)
abbrev pub SameHeader : List ℕ → List ℕ → Type 0
SameHeader old new = (k : ℕ) → k < 100 → (k < 28) ⊎ (40 ≤ k) → slice_index new k ≡ slice_index old k

-- one page is written: all others stay, and so does the database header where it is page 1
pub record Writes (number : ℕ) (old new : Paged) : Type 0 where
  pub count : new.count ≡ old.count
  pub others : (n : ℕ) → n ≢ number → new.pages n ≡ old.pages n
  pub front : (k : ℕ) → k < header_place number → slice_index (new.pages number) k ≡ slice_index (old.pages number) k

module _ (sizes : Sizes) where
  -- pages in hand and free pages stand once at most, and are among those that are due
  abbrev pub Within : Paged → List ℕ → List Trunk → Type 0
  Within base hand trunks = (n : ℕ) → times n hand + times n (free_pages trunks) ≤ due sizes.size base.count n

  -- Pages in hand and free pages become others: no page is lost, none is taken twice, and every other page stays. So is a change of one tree, whose pages are in hand.
  pub record Turns (old : Paged) (hand : List ℕ) (trunks : List Trunk) (new : Paged) (later : List ℕ) (rest : List Trunk) : Type 0 where
    pub grows : old.count ≤ new.count
    pub kept : (n : ℕ) → 0 < due sizes.size old.count n → times n hand ≡ 0 → times n (free_pages trunks) ≡ 0 → SamePage n (old.pages n) (new.pages n)
    pub header : SameHeader (old.pages 1) (new.pages 1)
    pub freelist : IsFree sizes old trunks → IsFree sizes new rest
    pub balance : (n : ℕ) →
        times n later + times n (free_pages rest) + due sizes.size old.count n ≡ times n hand + times n (free_pages trunks) + due sizes.size new.count n
