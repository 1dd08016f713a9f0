-- Each store has a walk from a root: crates above cite this fact in their proofs.
use Rattle.std.proofs.Common.{◌≡◌, ◌≢◌, ℕ, ℤ, zero, suc, ◌-◌, ◌<◌, ◌≤◌, ◌<ℤ◌, ◌≤ℤ◌, ◌⊎◌, Bool, true, false, List, [], ◌∷◌, ◌++◌, length, map, refl, ap, subst, inl, inr, arith}
use Rattle.std.proofs.lemmas.Bool.{cases_lt, cases_eq}
use Rattle.std.proofs.lemmas.Int.{ints, by_lt_z}
use Rattle.std.specs.List.{AllByRecursion}
use Rattle.byte_fields.specs.Bytes.{part_of}
use Rattle.format_spec.specs.declared.PageKind.{PageKind}
use Rattle.format_spec.specs.declared.PageKind.TheVariants.{IndexInterior, TableInterior, IndexLeaf, TableLeaf}
use Rattle.format_spec.specs.Cell.{IsCell}
use Rattle.page_spec.specs.Pages.{Pages, IsInRange, lock_byte_page, next_page}
use Rattle.page_spec.specs.Chains.{AreLinked, chain_bytes, last_linked, named_behind, pages_for}
use Rattle.page_layout.specs.Views.{IsRefused}
use Rattle.refusal.specs.declared.Rule.{Rule}
use Rattle.refusal.specs.declared.Rule.TheVariants as broken
use Rattle.tree_spec.specs.declared.TreeKind.{TreeKind}
use Rattle.tree_spec.specs.declared.TreeKind.TheVariants.{Table, Index}
use Rattle.tree_spec.specs.Trees.{TreeCell, Member, member, between, leaf_kind, interior_kind, greatest_depth}
use Rattle.tree_spec.specs.Bounds.{RisesIn, below_rowids, greatest_rowid}
use Rattle.tree_spec.specs.Standing.{Sizes, Paged}
use Rattle.database_spec.specs.Walks.{Finding, Finds, Ends, Holds, Breaks, Disorders, Seen, is_empty, bare, IsRising, IsAccepted, IsCellVisit, AreCellVisits, IsChildVisit, AreChildVisits, GoesOn, IsInside, IsRead, IsVisit, IsWalk, stops, members_found, IsList, StopsAt}
use Rattle.walk_laws.specs.CellsDecidedLaws.{Decided}
use Rattle.walk_laws.specs.PagesDecidedLaws.{accepted-or_refused}

-- Numbers.

in_range-decided : (size count number : ℕ) → Decided (IsInRange size count number)
in_range-decided size count number = by (cases_lt number 2) (cases_lt count number) (cases_eq number (lock_byte_page size))
  where
    by : ((number < 2) ⊎ (2 ≤ number)) → ((count < number) ⊎ (number ≤ count)) → ((number ≡ lock_byte_page size) ⊎ ((number ≡ lock_byte_page size) → ⊥)) → Decided (IsInRange size count number)
    by (inr behind) (inr within) (inr other) = inl (record { behind_first = behind; within = within; not_lock_byte = other })
    by (inl first) within other = inr (λ is. omega (arith, first, is.behind_first))
    by (inr behind) (inl past) other = inr (λ is. omega (arith, past, is.within))
    by (inr behind) (inr within) (inl lock) = inr (λ is. is.not_lock_byte lock)

int_lt-decided : (a b : ℤ) → Decided (a <ℤ b)
int_lt-decided a b = by_lt_z {P = Decided (a <ℤ b)} a b (λ less. inl less) (λ past. inr (λ less. omega (arith, ints, past, less)))

int_le-decided : (a b : ℤ) → Decided (a ≤ℤ b)
int_le-decided a b = by_lt_z {P = Decided (a ≤ℤ b)} b a (λ less. inr (λ within. omega (arith, ints, less, within))) (λ within. inl within)

rises-decided : (low high : ℤ) (xs : List ℤ) → Decided (RisesIn low high xs)
rises-decided low high [] = int_le-decided low high
rises-decided low high (x ∷ xs) = by (int_lt-decided low x) (rises-decided x high xs)
  where
    by : Decided (low <ℤ x) → Decided (RisesIn x high xs) → Decided (RisesIn low high (x ∷ xs))
    by (inl less) (inl rises) = inl (less, rises)
    by (inr not_so) rest = inr (λ all. not_so all.0)
    by (inl less) (inr not_so) = inr (λ all. not_so all.1)

rising-decided : (kind : TreeKind) (low high : ℤ) (cells : List Seen) → Decided (IsRising kind low high cells)
rising-decided Table low high cells = rises-decided low high (map (λ (c : Seen). c.1.rowid) cells)
rising-decided Index low high cells = inl tt

-- Chains.

module _ (pages : Pages) (size count : ℕ) where
  -- so many pages more are linked from a number on, and then 0 is named; or they break before
  record IsWholeFrom (first left : ℕ) : Type 0 where
    numbers : List ℕ
    linked : AreLinked pages size count first numbers
    ends : named_behind pages first numbers ≡ 0
    many : length numbers ≡ left

  record IsBrokenFrom (first left : ℕ) : Type 0 where
    numbers : List ℕ
    linked : AreLinked pages size count first numbers
    wrong : ((length numbers < left) × ¬ IsInRange size count (named_behind pages first numbers)) ⊎ ((length numbers ≡ left) × (named_behind pages first numbers ≢ 0))

  linked-on : (left first : ℕ) → IsWholeFrom first left ⊎ IsBrokenFrom first left
  linked-on zero first = elim (cases_eq first 0) [
    | inl ends ↦ inl (record { numbers = []; linked = tt; ends = ends; many = refl })
    | inr other ↦ inr (record { numbers = []; linked = tt; wrong = inr (refl, other) })
  ]
  linked-on (suc left) first = by (in_range-decided size count first) (linked-on left (next_page (pages first)))
    where
      by : Decided (IsInRange size count first) → IsWholeFrom (next_page (pages first)) left ⊎ IsBrokenFrom (next_page (pages first)) left → IsWholeFrom first (suc left) ⊎ IsBrokenFrom first (suc left)
      by (inr out) rest = inr (record { numbers = []; linked = tt; wrong = inl (omega arith, out) })
      by (inl is) (inl rest) = inl (record { numbers = first ∷ rest.numbers; linked = (refl, is, rest.linked); ends = rest.ends; many = ap (λ (n : ℕ). suc n) rest.many })
      by (inl is) (inr rest) = inr (record { numbers = first ∷ rest.numbers; linked = (refl, is, rest.linked); wrong = wrong rest.numbers rest.wrong })
        where
          wrong : (numbers : List ℕ) → ((length numbers < left) × ¬ IsInRange size count (named_behind pages (next_page (pages first)) numbers)) ⊎ ((length numbers ≡ left) × (named_behind pages (next_page (pages first)) numbers ≢ 0))
              → ((suc (length numbers) < suc left) × ¬ IsInRange size count (named_behind pages (next_page (pages first)) numbers)) ⊎ ((suc (length numbers) ≡ suc left) × (named_behind pages (next_page (pages first)) numbers ≢ 0))
          wrong numbers (inl w) = inl (omega (arith, w.0), w.1)
          wrong numbers (inr w) = inr (ap (λ (n : ℕ). suc n) w.0, w.1)

module _ (sizes : Sizes) (base : Paged) where
  -- what a walk finds of a cell
  cell-found : (page_kind : PageKind) (holds : TreeCell → List Member) (page : ℕ) (cell : Seen) → IsCell page_kind sizes.usable cell.0 cell.1 → (findings : List Finding) × IsCellVisit sizes base page_kind holds page cell.0 findings
  cell-found page_kind holds page cell is = by (linked-on base.pages sizes.size base.count (pages_for sizes.usable (cell.1.payload - cell.1.local)) cell.1.overflow)
    where
      by : IsWholeFrom base.pages sizes.size base.count cell.1.overflow (pages_for sizes.usable (cell.1.payload - cell.1.local))
          ⊎ IsBrokenFrom base.pages sizes.size base.count cell.1.overflow (pages_for sizes.usable (cell.1.payload - cell.1.local))
          → (findings : List Finding) × IsCellVisit sizes base page_kind holds page cell.0 findings
      by (inl whole) =
          let left = cell.1.payload - cell.1.local in
          let held : TreeCell = record {
            bytes = cell.0;
            view = cell.1;
            payload = part_of cell.0 cell.1.local_at cell.1.local ++ chain_bytes base.pages sizes.usable whole.numbers left;
            chain = whole.numbers;
          } in (
            map Finds whole.numbers ++ map (Holds page) (holds held),
            inl (record {
              cell = held;
              bytes_are = refl;
              held = record { is_cell = is; is_chain = record { linked = whole.linked; ends = whole.ends; many = whole.many }; whole = refl };
              findings_are = refl;
            }),
          )
      by (inr torn) = (
        map Finds torn.numbers ++ (Breaks (last_linked page torn.numbers) broken.Chain ∷ []),
        inr (record {
          view = cell.1;
          is_cell = is;
          at = last_linked cell.1.overflow torn.numbers;
          is_broken = record { numbers = torn.numbers; linked = torn.linked; wrong = torn.wrong; page_is = refl };
          findings_are = refl;
        }),
      )

  module _ (kind : TreeKind) where
    cells-found : (page : ℕ) (cells : List Seen) → AllByRecursion (λ (c : Seen). IsCell (leaf_kind kind) sizes.usable c.0 c.1) cells → (findings : List Finding) × AreCellVisits sizes base kind page cells findings
    cells-found page [] are = ([], refl)
    cells-found page (cell ∷ cells) are =
        let own = cell-found (leaf_kind kind) (λ c. member c ∷ []) page cell are.0 in
        let rest = cells-found page cells are.1 in
        (own.0 ++ rest.0, (own.0, rest.0, own.1, rest.1, refl))

    module _ (visit : ℤ → ℤ → ℕ → List Finding → Type 0) (visits : (low high : ℤ) (number : ℕ) → (findings : List Finding) × visit low high number findings) where
      child-found : (parent : ℕ) (low high : ℤ) (number : ℕ) → (findings : List Finding) × IsChildVisit sizes base kind visit parent low high number findings
      child-found parent low high number = by (in_range-decided sizes.size base.count number) (visits low high number)
        where
          by : Decided (IsInRange sizes.size base.count number) → (findings : List Finding) × visit low high number findings → (findings : List Finding) × IsChildVisit sizes base kind visit parent low high number findings
          by (inl is) found = (found.0, inr (is, found.1))
          by (inr out) found = (Breaks parent broken.Child ∷ [], inl (out, refl))

      children-found : (page : ℕ) (low high : ℤ) (cells : List Seen) (right : ℕ) → AllByRecursion (λ (c : Seen). IsCell (interior_kind kind) sizes.usable c.0 c.1) cells
          → (findings : List Finding) × AreChildVisits sizes base kind visit page low high cells right findings
      children-found page low high [] right are = child-found page low high right
      children-found page low high (cell ∷ cells) right are =
          let first = child-found page low cell.1.rowid cell.1.child in
          let own = cell-found (interior_kind kind) (between kind) page cell are.0 in
          let rest = children-found page cell.1.rowid high cells right are.1 in
          (first.0 ++ (own.0 ++ rest.0), (first.0, own.0, rest.0, first.1, own.1, rest.1, refl))

      goes-found : (root : Bool) (low high : ℤ) (number : ℕ) (cells : List Seen) (Inside : List Finding → Type 0) → (findings : List Finding) × Inside findings
          → (findings : List Finding) × GoesOn sizes base kind visit root low high number cells Inside findings
      goes-found root low high number cells Inside inside = by (is_empty root cells) refl (rising-decided kind low high cells)
        where
          by : (empty : Bool) → is_empty root cells ≡ empty → Decided (IsRising kind low high cells) → (findings : List Finding) × GoesOn sizes base kind visit root low high number cells Inside findings
          by true is rising = (Breaks number broken.Empty ∷ [], inl (is, refl))
          by false is (inr falls) = (Disorders number ∷ [], inr (inl (is, falls, refl)))
          by false is (inl rises) = (inside.0, inr (inr (is, rises, inside.1)))

      inside-found : (root : Bool) (depth : ℕ) (low high : ℤ) (number : ℕ) (page_kind : PageKind) (cells : List Seen) (right : ℕ) → AllByRecursion (λ (c : Seen). IsCell page_kind sizes.usable c.0 c.1) cells
          → (findings : List Finding) × IsInside sizes base kind visit root depth low high number page_kind cells right findings
      inside-found root depth low high number page_kind cells right are = by (kinds kind page_kind)
        where
          kinds : (k : TreeKind) (p : PageKind) → ((p ≢ leaf_kind k) × (p ≢ interior_kind k)) ⊎ ((p ≡ leaf_kind k) ⊎ (p ≡ interior_kind k))
          kinds Table TableLeaf = inr (inl refl)
          kinds Table TableInterior = inr (inr refl)
          kinds Table IndexLeaf = inl (λ e. cc, λ e. cc)
          kinds Table IndexInterior = inl (λ e. cc, λ e. cc)
          kinds Index TableLeaf = inl (λ e. cc, λ e. cc)
          kinds Index TableInterior = inl (λ e. cc, λ e. cc)
          kinds Index IndexLeaf = inr (inl refl)
          kinds Index IndexInterior = inr (inr refl)

          by : ((page_kind ≢ leaf_kind kind) × (page_kind ≢ interior_kind kind)) ⊎ ((page_kind ≡ leaf_kind kind) ⊎ (page_kind ≡ interior_kind kind))
              → (findings : List Finding) × IsInside sizes base kind visit root depth low high number page_kind cells right findings
          by (inl other) = (Breaks number broken.Kind ∷ [], inl (other.0, other.1, refl))
          by (inr (inl is)) =
              let found = goes-found root low high number cells (AreCellVisits sizes base kind number cells)
              (cells-found number cells (subst (λ (p : PageKind). AllByRecursion (λ (c : Seen). IsCell p sizes.usable c.0 c.1) cells) is are)) in
              (Ends number depth ∷ found.0, inr (inl (is, (found.0, refl, found.1))))
          by (inr (inr is)) =
              let found = goes-found root low high number cells (AreChildVisits sizes base kind visit number low high cells right)
              (children-found number low high cells right (subst (λ (p : PageKind). AllByRecursion (λ (c : Seen). IsCell p sizes.usable c.0 c.1) cells) is are)) in
              (bare root number cells ++ found.0, inr (inr (is, (found.0, refl, found.1))))

      read-found : (root : Bool) (depth : ℕ) (low high : ℤ) (number : ℕ) → (findings : List Finding) × IsRead sizes base kind visit root depth low high number findings
      read-found root depth low high number = by (accepted-or_refused sizes base number)
        where
          by : ((rule : Rule) × IsRefused (base.pages number) number sizes.usable rule) ⊎ ((page_kind : PageKind) × (cells : List Seen) × (right : ℕ) × IsAccepted sizes base number page_kind cells right)
              → (findings : List Finding) × IsRead sizes base kind visit root depth low high number findings
          by (inl (rule, is)) = (Breaks number rule ∷ [], inl (rule, is, refl))
          by (inr (page_kind, cells, right, accepted)) =
              let found = inside-found root depth low high number page_kind cells right accepted.views in (found.0, inr (page_kind, cells, right, accepted, found.1))

    visit-found : (left : ℕ) (root : Bool) (depth : ℕ) (low high : ℤ) (number : ℕ) → (findings : List Finding) × IsVisit sizes base kind left root depth low high number findings
    visit-found zero root depth low high number = (Finds number ∷ (Breaks number broken.Depth ∷ []), refl)
    visit-found (suc left) root depth low high number =
        let found = read-found (IsVisit sizes base kind left false (suc depth)) (λ l h n. visit-found left false (suc depth) l h n) root depth low high number in
        (Finds number ∷ found.0, (found.0, refl, found.1))

    -- a walk from a root finds something, whatever the pages hold
    pub walk-found : (root : ℕ) → (findings : List Finding) × IsWalk sizes base kind root findings
    walk-found root = visit-found greatest_depth true 1 below_rowids greatest_rowid root

    -- a cursor comes to the end of the tree at a root, with its members, or meets something
    pub list_or_stop : (root : ℕ) → ((members : List Member) × IsList sizes base kind root members) ⊎ ((stop : ℕ × Rule) × StopsAt sizes base kind root stop)
    list_or_stop root = let walk = walk-found root in by walk.0 walk.1 (stops walk.0) refl
      where
        by : (findings : List Finding) → IsWalk sizes base kind root findings → (found : List (ℕ × Rule)) → stops findings ≡ found
            → ((members : List Member) × IsList sizes base kind root members) ⊎ ((stop : ℕ × Rule) × StopsAt sizes base kind root stop)
        by findings walk [] none = inl (members_found findings, (findings, walk, none, refl))
        by findings walk (stop ∷ later) is = inr (stop, (findings, later, walk, is))
