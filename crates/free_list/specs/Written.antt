-- The pages that a change of the freelist writes, and what each part of it makes of all pages.
use Rattle.std.specs.Prelude.{◌≡◌, ◌≢◌, ◌⊎◌, ℕ, ◌+◌, ◌-◌, ◌*◌, ◌^◌, ◌<◌, ◌≤◌, min, List, length, replicate, Result, IfErr}
use Rattle.byte_fields.specs.Numbers.{with_number_at}
use Rattle.format_spec.specs.Header.{freelist_pages}
use Rattle.page_spec.specs.Pages.{Pages, IsInRange, with_page, next_page}
use Rattle.page_spec.specs.Freelists.{leaf_count, leaf_at}
use Rattle.page_store.specs.declared.store.PageRead.{Ghosts}
use Rattle.free_list.specs.declared.fault.FreeFault.{FreeFault}
use Rattle.free_list.specs.declared.fault.FreeFault.TheVariants.{TrunkDamaged, TargetFull, Store, Memory}
use Rattle.free_list.specs.Answers.{HasTrunk}

-- page 1 with another first trunk and another number of free pages
abbrev pub with_freelist : ℕ → ℕ → List ℕ → List ℕ
with_freelist trunk free page = with_number_at 36 4 free (with_number_at 32 4 trunk page)

-- page 1 with another size in pages
abbrev pub with_size : ℕ → List ℕ → List ℕ
with_size count page = with_number_at 28 4 count page

-- a trunk without the last of its leaf pages, or with one more behind so many
abbrev pub without_leaf : List ℕ → List ℕ
without_leaf page = with_number_at 4 4 (leaf_count page - 1) page

abbrev pub with_leaf : ℕ → ℕ → List ℕ → List ℕ
with_leaf leaves leaf page = with_number_at (8 + 4 * leaves) 4 leaf (with_number_at 4 4 (leaves + 1) page)

-- a trunk without leaf pages, which names the next
abbrev pub empty_trunk : ℕ → ℕ → List ℕ
empty_trunk size next = with_number_at 0 4 next (replicate size 0)

-- one free page more; the greatest number stands still
abbrev pub one_more_free : List ℕ → ℕ
one_more_free first = min (freelist_pages first + 1) (2 ^ 32 - 1)

-- the fault is one of the store
abbrev pub IsOfStore : {F : Type 0} → FreeFault F → Type 0
IsOfStore (TrunkDamaged page) = ⊥
IsOfStore (TargetFull pages limit) = ⊥
IsOfStore (Store fault) = Unit {0}
IsOfStore (Memory error) = ⊥

-- the pages and their count stay, where an error is not one of the store
abbrev pub StaysRefused : {P F T : Type 0} → Ghosts P F → P → P → Result T (FreeFault F) → Type 0
StaysRefused g before after result = IfErr result (λ fault. IsOfStore fault ⊎ ((g.pages after ≡ g.pages before) × (g.count after ≡ g.count before)))

-- A page was taken from the first trunk, with `first` for page 1: the trunk itself, which has no leaf page, or its last leaf page.
pub record TakesFrom (size usable count trunk : ℕ) (first : List ℕ) (page : ℕ) (old new : Pages) : Type 0 where
  pub has : HasTrunk old size usable count trunk
  pub long : length (old trunk) ≡ size
  pub written :
      ((leaf_count (old trunk) ≡ 0) × (page ≡ trunk) × (new ≡ with_page old 1 (with_freelist (next_page (old trunk)) (freelist_pages first - 1) first)))
      ⊎ ((0 < leaf_count (old trunk)) × (page ≡ leaf_at (old trunk) (leaf_count (old trunk) - 1)) × IsInRange size count page
      × (new ≡ with_page (with_page old trunk (without_leaf (old trunk))) 1 (with_freelist trunk (freelist_pages first - 1) first)))

-- the next page past the end was taken, with `first` for page 1
pub record Appends (count : ℕ) (first : List ℕ) (page : ℕ) (old new : Pages) : Type 0 where
  pub written : new 1 ≡ with_size page first
  pub others : (n : ℕ) → n ≢ 1 → n ≤ count → new n ≡ old n
