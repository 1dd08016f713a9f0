-- The freelist (Database File Format, section 1.5).
use Rattle.std.specs.Prelude.{◌≡◌, ℕ, ◌+◌, ◌-◌, ◌*◌, ◌/◌, ◌<◌, ◌≤◌, ◌==◌, List, [], ◌∷◌, length, slice_index}
use Rattle.std.specs.List.{flat_map, IsDistinct, All}
use Rattle.byte_fields.specs.Numbers.{number_at}
use Rattle.format_spec.specs.Header.{freelist_trunk, freelist_pages}
use Rattle.page_spec.specs.Pages.{Pages, IsInRange, next_page}

-- a trunk page of the freelist, and the leaf pages that it names
pub record Trunk : Type 0 where
  pub page : ℕ
  pub leaves : List ℕ

-- the most leaf pages that a trunk names
abbrev pub trunk_limit : ℕ → ℕ
trunk_limit usable = usable / 4 - 2

-- how many leaf pages a trunk counts
abbrev pub leaf_count : List ℕ → ℕ
leaf_count = number_at 4 4

-- the leaf page that a trunk has at an index
abbrev pub leaf_at : List ℕ → ℕ → ℕ
leaf_at page k = number_at (8 + 4 * k) 4 page

-- the trunk's page says so
pub record IsTrunk (pages : Pages) (size usable count : ℕ) (trunk : Trunk) : Type 0 where
  pub in_range : IsInRange size count trunk.page
  pub counts : leaf_count (pages trunk.page) ≡ length trunk.leaves
  pub few : length trunk.leaves ≤ trunk_limit usable
  pub names : (k : ℕ) → k < length trunk.leaves → leaf_at (pages trunk.page) k ≡ slice_index trunk.leaves k
  pub leaves_in_range : All (IsInRange size count) trunk.leaves

-- trunks of which each names the next and the last names 0, the first of them being named outside
abbrev pub AreTrunks : Pages → ℕ → ℕ → ℕ → ℕ → List Trunk → Type 0
AreTrunks pages size usable count first [] = first ≡ 0
AreTrunks pages size usable count first (trunk ∷ trunks) =
    (first ≡ trunk.page) × IsTrunk pages size usable count trunk × AreTrunks pages size usable count (next_page (pages trunk.page)) trunks

-- all free pages, each trunk before its leaf pages
abbrev pub free_pages : List Trunk → List ℕ
free_pages trunks = flat_map (λ trunk. trunk.page ∷ trunk.leaves) trunks

-- the freelist of a database: its trunks, all of whose pages differ and are as many as page 1 says
pub record IsFreelist (pages : Pages) (size usable count : ℕ) (trunks : List Trunk) : Type 0 where
  pub named : AreTrunks pages size usable count (freelist_trunk (pages 1)) trunks
  pub many : freelist_pages (pages 1) ≡ length (free_pages trunks)
  pub differ : IsDistinct (λ (x y : ℕ). x == y) (free_pages trunks)
