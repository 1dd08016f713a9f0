-- What a page that is taken or given back makes of the pages.
use Rattle.std.specs.Prelude.{◌≡◌, ◌≢◌, ◌⊎◌, ℕ, ◌+◌, ◌<◌, ◌≤◌, List, [], ◌∷◌, Option, Some}
use Rattle.format_spec.specs.Header.{freelist_trunk, pages as pages_field}
use Rattle.page_spec.specs.Pages.{Pages}
use Rattle.page_spec.specs.Counts.{times}
use Rattle.page_spec.specs.FreePages.{due, slack, page_past, KeepsFirstPage}
use Rattle.page_spec.specs.Freelists.{Trunk, IsFreelist, free_pages}

-- Of page 1 at most the size and the fields of the freelist changed, and else no page up to the count but the first trunk and one more.
pub record ChangesFew (count page : ℕ) (old : Pages) (told : Option Pages) : Type 0 where
  pub new : Pages
  pub tells : told ≡ Some new
  pub first : KeepsFirstPage (old 1) (new 1)
  pub others : (n : ℕ) → n ≢ 1 → n ≢ page → n ≢ freelist_trunk (old 1) → n ≤ count → new n ≡ old n

-- A page was taken. It is one of the free pages, and the others are those that are free now; or there was none, it is the next one past the end, and now the last. What is told now is the pages after that, with their count.
pub record Takes (size usable limit count : ℕ) (old : Pages) (trunks : List Trunk) (page : ℕ) (told : Option Pages) (count_now : ℕ) : Type 0 where
  pub new : Pages
  pub tells : told ≡ Some new
  pub left : List Trunk
  pub freelist : IsFreelist new size usable count_now left
  pub from : ((0 < times page (free_pages trunks)) × (count_now ≡ count))
      ⊎ ((free_pages trunks ≡ []) × (page ≡ page_past size count) × (count_now ≡ page))
  pub balance : (n : ℕ) → times n (page ∷ free_pages left) + due size count n ≡ times n (free_pages trunks) + due size count_now n
  pub slack_falls : slack size count_now limit (free_pages left) + 1 ≡ slack size count limit (free_pages trunks)
  pub others : (n : ℕ) → n ≢ 1 → n ≤ count → times n (free_pages trunks) ≡ 0 → new n ≡ old n
  pub first : KeepsFirstPage (old 1) (new 1)
  pub size_field : pages_field (old 1) ≡ count → pages_field (new 1) ≡ count_now

-- A page was given back: it is free now, beside those that were.
pub record Gives (size usable limit count : ℕ) (old : Pages) (trunks : List Trunk) (page : ℕ) (told : Option Pages) : Type 0 where
  pub new : Pages
  pub tells : told ≡ Some new
  pub more : List Trunk
  pub freelist : IsFreelist new size usable count more
  pub balance : (n : ℕ) → times n (free_pages more) ≡ times n (page ∷ free_pages trunks)
  pub slack_rises : slack size count limit (free_pages more) ≡ slack size count limit (free_pages trunks) + 1
  pub others : (n : ℕ) → n ≢ 1 → n ≢ page → times n (free_pages trunks) ≡ 0 → new n ≡ old n
  pub first : KeepsFirstPage (old 1) (new 1)
  pub size_field : pages_field (new 1) ≡ pages_field (old 1)
