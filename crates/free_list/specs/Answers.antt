-- Which page is taken, and when none is taken or given back.
use Rattle.std.specs.Prelude.{◌≡◌, ◌≢◌, ◌⊎◌, ℕ, ◌-◌, ◌<◌, ◌≤◌, ◌==◌, if◌then◌else◌, List, Option, Some, None}
use Rattle.format_spec.specs.Header.{freelist_trunk}
use Rattle.page_spec.specs.Pages.{Pages, IsInRange}
use Rattle.page_spec.specs.FreePages.{page_past}
use Rattle.page_spec.specs.Freelists.{trunk_limit, leaf_count, leaf_at}
use Rattle.free_list.specs.declared.fault.FreeFault.{FreeFault}
use Rattle.free_list.specs.declared.fault.FreeFault.TheVariants.{TrunkDamaged, TargetFull, Store, Memory}

-- the fault of the store that a fault has, if any
abbrev pub fault_in : {F : Type 0} → FreeFault F → Option F
fault_in (TrunkDamaged page) = None
fault_in (TargetFull pages limit) = None
fault_in (Store fault) = Some fault
fault_in (Memory error) = None

-- the store failed, or memory is wanting: nothing is said of the freelist
abbrev pub IsOther : {F : Type 0} → FreeFault F → Type 0
IsOther (TrunkDamaged page) = ⊥
IsOther (TargetFull pages limit) = ⊥
IsOther (Store fault) = Unit {0}
IsOther (Memory error) = Unit {0}

-- the page that a trunk gives: its last leaf page, or itself where it has none
abbrev pub given_page : ℕ → List ℕ → ℕ
given_page trunk page = if leaf_count page == 0 then trunk else leaf_at page (leaf_count page - 1)

-- the next page past the end passes the limit
abbrev pub IsFull : {F : Type 0} → ℕ → ℕ → ℕ → FreeFault F → Type 0
IsFull size count limit (TrunkDamaged page) = ⊥
IsFull size count limit (TargetFull has most) = (limit < page_past size count) × (has ≡ count) × (most ≡ limit)
IsFull size count limit (Store fault) = ⊥
IsFull size count limit (Memory error) = ⊥

module _ (pages : Pages) (size usable count : ℕ) where
  -- the first trunk is in range, and does not count too many
  pub record HasTrunk (trunk : ℕ) : Type 0 where
    pub in_range : IsInRange size count trunk
    pub few : leaf_count (pages trunk) ≤ trunk_limit usable

  -- what is wrong with the first trunk stands in this page: its number in page 1, or in itself the number of its leaf pages
  abbrev pub IsBadTrunk : ℕ → ℕ → Type 0
  IsBadTrunk trunk page =
      ((¬ IsInRange size count trunk) × (page ≡ 1))
      ⊎ (IsInRange size count trunk × (trunk_limit usable < leaf_count (pages trunk)) × (page ≡ trunk))

  abbrev pub IsTrunkFault : {F : Type 0} → ℕ → FreeFault F → Type 0
  IsTrunkFault trunk (TrunkDamaged page) = IsBadTrunk trunk page
  IsTrunkFault trunk (TargetFull has most) = ⊥
  IsTrunkFault trunk (Store fault) = ⊥
  IsTrunkFault trunk (Memory error) = ⊥

  -- the page that is taken: one of the first trunk's, or where there is no trunk the next one past the end, up to a limit
  abbrev pub IsNext : ℕ → ℕ → Type 0
  IsNext limit page =
      ((freelist_trunk (pages 1) ≡ 0) × (page ≡ page_past size count) × (page ≤ limit))
      ⊎ ((freelist_trunk (pages 1) ≢ 0) × HasTrunk (freelist_trunk (pages 1))
      × (page ≡ given_page (freelist_trunk (pages 1)) (pages (freelist_trunk (pages 1)))) × IsInRange size count page)

  -- why a page of the first trunk is not taken: a number that is wrong stands in this page
  abbrev pub IsBadTake : ℕ → ℕ → Type 0
  IsBadTake trunk page =
      IsBadTrunk trunk page ⊎ (HasTrunk trunk × (¬ IsInRange size count (given_page trunk (pages trunk))) × (page ≡ trunk))

  abbrev pub IsTakeFault : {F : Type 0} → ℕ → FreeFault F → Type 0
  IsTakeFault trunk (TrunkDamaged page) = IsBadTake trunk page
  IsTakeFault trunk (TargetFull has most) = ⊥
  IsTakeFault trunk (Store fault) = ⊥
  IsTakeFault trunk (Memory error) = ⊥

  -- why no page is taken
  abbrev pub RefusesNext : {F : Type 0} → ℕ → FreeFault F → Type 0
  RefusesNext limit fault =
      ((freelist_trunk (pages 1) ≡ 0) × IsFull size count limit fault) ⊎ ((freelist_trunk (pages 1) ≢ 0) × IsTakeFault (freelist_trunk (pages 1)) fault)

  -- a page can be given back: there is no trunk, or the first is in range and does not count too many
  abbrev pub CanRelease : Type 0
  CanRelease = (freelist_trunk (pages 1) ≡ 0) ⊎ HasTrunk (freelist_trunk (pages 1))

  -- why no page is given back
  abbrev pub RefusesRelease : {F : Type 0} → FreeFault F → Type 0
  RefusesRelease fault = (freelist_trunk (pages 1) ≢ 0) × IsTrunkFault (freelist_trunk (pages 1)) fault
