-- Overflow chains (Database File Format, section 1.6).
use Rattle.std.specs.Prelude.{◌≡◌, ◌≢◌, ℕ, ◌+◌, ◌-◌, ◌/◌, ◌%◌, ◌<◌, ◌==◌, ◌⊎◌, if◌then◌else◌, List, [], ◌∷◌, length, take}
use Rattle.std.specs.List.{flat_map}
use Rattle.byte_fields.specs.Bytes.{part_of}
use Rattle.page_spec.specs.Pages.{Pages, IsInRange, next_page}

-- how many overflow pages so many bytes fill
abbrev pub pages_for : ℕ → ℕ → ℕ
pages_for usable bytes = bytes / (usable - 4) + (if bytes % (usable - 4) == 0 then 0 else 1)

-- pages of which each names the next, the first of them being named outside; all numbers are in range
abbrev pub AreLinked : Pages → ℕ → ℕ → ℕ → List ℕ → Type 0
AreLinked pages size count first [] = Unit {0}
AreLinked pages size count first (number ∷ numbers) =
    (first ≡ number) × IsInRange size count number × AreLinked pages size count (next_page (pages number)) numbers

-- the number that the last of linked pages names, or the one that is named outside where there are none
abbrev pub named_behind : Pages → ℕ → List ℕ → ℕ
named_behind pages first [] = first
named_behind pages first (number ∷ numbers) = named_behind pages (next_page (pages number)) numbers

-- the last of linked pages, or the number that is named outside where there are none
abbrev pub last_linked : ℕ → List ℕ → ℕ
last_linked first [] = first
last_linked first (number ∷ numbers) = last_linked number numbers

-- the pages of a chain that has so many bytes: as many as these fill, the last of which names 0
pub record IsChain (pages : Pages) (size usable count first bytes : ℕ) (numbers : List ℕ) : Type 0 where
  pub linked : AreLinked pages size count first numbers
  pub ends : named_behind pages first numbers ≡ 0
  pub many : length numbers ≡ pages_for usable bytes

-- what an overflow page holds behind its link
abbrev pub content_of : ℕ → List ℕ → List ℕ
content_of usable page = part_of page 4 (usable - 4)

-- the first so many bytes of what these pages hold
abbrev pub chain_bytes : Pages → ℕ → List ℕ → ℕ → List ℕ
chain_bytes pages usable numbers bytes = take bytes (flat_map (λ number. content_of usable (pages number)) numbers)

-- Linked pages behind which a wrong number stands: one out of range where a further page is due, or not 0 where none is. It stands in the last of these pages; where there are none, it is `first` itself.
pub record IsBroken (pages : Pages) (size usable count first bytes page : ℕ) : Type 0 where
  pub numbers : List ℕ
  pub linked : AreLinked pages size count first numbers
  pub wrong : ((length numbers < pages_for usable bytes) × ¬ IsInRange size count (named_behind pages first numbers))
      ⊎ ((length numbers ≡ pages_for usable bytes) × (named_behind pages first numbers ≢ 0))
  pub page_is : page ≡ last_linked first numbers
