-- Each page is accepted or refused: crates above cite these facts in their proofs.
use Rattle.std.proofs.Common.{◌≡◌, ℕ, zero, suc, ◌+◌, ◌*◌, ◌<◌, ◌≤◌, ◌⊎◌, List, [], ◌∷◌, ◌++◌, length, drop, slice_index, slice_index_or, refl, sym, ap, ap₂, ◌∙◌, subst, inl, inr, arith}
use Rattle.std.proofs.Math.Path.{subst⁻¹}
use Rattle.std.proofs.lemmas.Bool.{cases_lt, cases_eq}
use Rattle.std.proofs.lemmas.List.{take-append-drop}
use Rattle.std.specs.List.{AllByRecursion}
use Rattle.byte_fields.specs.Bytes.{part_of}
use Rattle.byte_fields.specs.Numbers.{number_at}
use Rattle.format_spec.specs.declared.PageKind.{PageKind}
use Rattle.format_spec.specs.declared.PageKind.TheVariants.{IndexInterior, TableInterior, IndexLeaf, TableLeaf}
use Rattle.format_spec.specs.declared.CellView.{CellView}
use Rattle.format_spec.specs.Cell.{IsCell}
use Rattle.format_spec.specs.Page.{IsPage, IsCellAt, AreApart, RightChild, array_place, cell_count, cell_place, cell_room, header_place}
use Rattle.cell_codec.specs.CellLaws.{cell-same}
use Rattle.page_layout.specs.Views.{HasKind, IsRefused}
use Rattle.page_layout.specs.ViewsLaws.{kind_byte-same}
use Rattle.refusal.specs.declared.Rule.{Rule}
use Rattle.refusal.specs.declared.Rule.TheVariants as broken
use Rattle.tree_spec.specs.Standing.{Sizes, Paged}
use Rattle.database_spec.specs.Walks.{Seen, bytes_seen, IsAccepted}
use Rattle.walk_laws.specs.CellsDecidedLaws.{Decided, SomeBelow, all-decided, below-decided, cell-decided, decided-by}

module _ (page : List ℕ) (number usable : ℕ) (kind : PageKind) (count : ℕ) where
  -- a cell stands at an index
  abbrev HasCell : ℕ → Type 0
  HasCell k = (cell : List ℕ) × IsCellAt page number usable kind count k cell

  -- the cell at an index has so many bytes
  record HasLong (k long : ℕ) : Type 0 where
    size : length (part_of page (cell_place page number kind k) long) ≡ long
    is_cell : (view : CellView) × IsCell kind usable (part_of page (cell_place page number kind k) long) view
    behind_array : array_place number kind + 2 * count ≤ cell_place page number kind k
    inside : cell_place page number kind k + cell_room (part_of page (cell_place page number kind k) long) ≤ usable

  long-decided : (k long : ℕ) → Decided (HasLong k long)
  long-decided k long =
      let cell = part_of page (cell_place page number kind k) long in
      by (cases_eq (length cell) long) (cell-decided kind usable cell) (cases_lt (cell_place page number kind k) (array_place number kind + 2 * count)) (cases_lt usable (cell_place page number kind k + cell_room cell))
    where
      by : (length (part_of page (cell_place page number kind k) long) ≡ long) ⊎ ((length (part_of page (cell_place page number kind k) long) ≡ long) → ⊥)
          → Decided ((view : CellView) × IsCell kind usable (part_of page (cell_place page number kind k) long) view)
          → ((cell_place page number kind k < array_place number kind + 2 * count) ⊎ (array_place number kind + 2 * count ≤ cell_place page number kind k))
          → ((usable < cell_place page number kind k + cell_room (part_of page (cell_place page number kind k) long)) ⊎ (cell_place page number kind k + cell_room (part_of page (cell_place page number kind k) long) ≤ usable))
          → Decided (HasLong k long)
      by (inl size) (inl is) (inr behind) (inr inside) = inl (record { size = size; is_cell = is; behind_array = behind; inside = inside })
      by (inr not_so) is behind inside = inr (λ h. not_so h.size)
      by (inl size) (inr not_so) behind inside = inr (λ h. not_so h.is_cell)
      by (inl size) (inl is) (inl before) inside = inr (λ h. omega (arith, before, h.behind_array))
      by (inl size) (inl is) (inr behind) (inl outside) = inr (λ h. omega (arith, outside, h.inside))

  cell-decided_at : (k : ℕ) → Decided (HasCell k)
  cell-decided_at k = decided-by to from (below-decided (HasLong k) (long-decided k) (usable + 1))
    where
      to : SomeBelow (HasLong k) (usable + 1) → HasCell k
      to some =
          let place = cell_place page number kind k in
          let h = some.is in (
            part_of page place some.at,
            record {
              view = h.is_cell.0;
              is_cell = h.is_cell.1;
              stands = ap (part_of page place) h.size;
              behind_array = h.behind_array;
              inside = h.inside;
            },
          )

      from : HasCell k → SomeBelow (HasLong k) (usable + 1)
      from (cell, is) =
          let place = cell_place page number kind k in
          record {
            at = length cell;
            low = omega (arith, is.inside);
            is = record {
              size = ap length is.stands;
              is_cell = (is.view, subst⁻¹ (λ (b : List ℕ). IsCell kind usable b is.view) is.stands is.is_cell);
              behind_array = is.behind_array;
              inside = subst⁻¹ (λ (b : List ℕ). place + cell_room b ≤ usable) is.stands is.inside;
            };
          }

  cell-one : (k : ℕ) (a b : List ℕ) → IsCellAt page number usable kind count k a → IsCellAt page number usable kind count k b → a ≡ b
  cell-one k a b one two =
      let bytes = drop (cell_place page number kind k) page in
      let left : a ++ drop (length a) bytes ≡ bytes = ap (λ (c : List ℕ). c ++ drop (length a) bytes) (sym one.stands) ∙ take-append-drop (length a) bytes in
      let right : b ++ drop (length b) bytes ≡ bytes = ap (λ (c : List ℕ). c ++ drop (length b) bytes) (sym two.stands) ∙ take-append-drop (length b) bytes in
      (cell-same kind usable a b (drop (length a) bytes) (drop (length b) bytes) one.view two.view one.is_cell two.is_cell (left ∙ sym right)).0

  -- the cells from an index on
  abbrev AreCellsFrom : ℕ → List (List ℕ) → Type 0
  AreCellsFrom at [] = Unit {0}
  AreCellsFrom at (cell ∷ cells) = IsCellAt page number usable kind count at cell × AreCellsFrom (suc at) cells

  abbrev HasCells : ℕ → ℕ → Type 0
  HasCells at left = (cells : List (List ℕ)) × (length cells ≡ left) × AreCellsFrom at cells

  cells-decided : (at left : ℕ) → Decided (HasCells at left)
  cells-decided at zero = inl ([], refl, tt)
  cells-decided at (suc left) = by (cell-decided_at at) (cells-decided (suc at) left)
    where
      first : HasCells at (suc left) → HasCell at
      first ([], many, are) = absurd (omega (arith, many))
      first (cell ∷ cells, many, are) = (cell, are.0)

      rest : HasCells at (suc left) → HasCells (suc at) left
      rest ([], many, are) = absurd (omega (arith, many))
      rest (cell ∷ cells, many, are) = (cells, omega (arith, many), are.1)

      by : Decided (HasCell at) → Decided (HasCells (suc at) left) → Decided (HasCells at (suc left))
      by (inl one) (inl more) = inl (one.0 ∷ more.0, ap (λ (n : ℕ). suc n) more.1, (one.1, more.2))
      by (inr not_so) more = inr (λ has. not_so (first has))
      by (inl one) (inr not_so) = inr (λ has. not_so (rest has))

  -- by their indexes
  from-each : (cells : List (List ℕ)) (at : ℕ) → ((k : ℕ) → k < length cells → IsCellAt page number usable kind count (at + k) (slice_index_or cells k [])) → AreCellsFrom at cells
  from-each [] at each = tt
  from-each (cell ∷ cells) at each = (
    subst (λ (k : ℕ). IsCellAt page number usable kind count k cell) (let e : at + 0 ≡ at = omega arith in e) (each 0 (omega arith)),
    from-each cells (suc at) (λ k low. subst (λ (n : ℕ). IsCellAt page number usable kind count n (slice_index_or cells k [])) (let e : at + suc k ≡ suc at + k = omega arith in e) (each (suc k) (omega (arith, low)))),
  )

  to-each : (cells : List (List ℕ)) (at : ℕ) → AreCellsFrom at cells → (k : ℕ) → k < length cells → IsCellAt page number usable kind count (at + k) (slice_index_or cells k [])
  to-each [] at are k low = absurd (omega (arith, low))
  to-each (cell ∷ cells) at are zero low = subst (λ (k : ℕ). IsCellAt page number usable kind count k cell) (let e : at ≡ at + 0 = omega arith in e) are.0
  to-each (cell ∷ cells) at are (suc k) low =
      subst (λ (n : ℕ). IsCellAt page number usable kind count n (slice_index_or cells k [])) (let e : suc at + k ≡ at + suc k = omega arith in e) (to-each cells (suc at) are.1 k (omega (arith, low)))

  cells-one : (at : ℕ) (a b : List (List ℕ)) → length a ≡ length b → AreCellsFrom at a → AreCellsFrom at b → a ≡ b
  cells-one at [] [] many one two = refl
  cells-one at [] (y ∷ b) many one two = absurd (omega (arith, many))
  cells-one at (x ∷ a) [] many one two = absurd (omega (arith, many))
  cells-one at (x ∷ a) (y ∷ b) many one two = ap₂ (λ (c : List ℕ) (cs : List (List ℕ)). c ∷ cs) (cell-one at x y one.0 two.0) (cells-one (suc at) a b (omega (arith, many)) one.1 two.1)

  -- rooms that do not overlap
  abbrev ApartAt : List (List ℕ) → ℕ → ℕ → Type 0
  ApartAt cells k j = AreApart (cell_place page number kind j) (cell_room (slice_index_or cells j [])) (cell_place page number kind k) (cell_room (slice_index_or cells k []))

  apart-decided_at : (cells : List (List ℕ)) (k j : ℕ) → Decided (ApartAt cells k j)
  apart-decided_at cells k j =
      by (cell_place page number kind j) (cell_room (slice_index_or cells j [])) (cell_place page number kind k) (cell_room (slice_index_or cells k []))
      (cases_lt (cell_place page number kind k) (cell_place page number kind j + cell_room (slice_index_or cells j [])))
      (cases_lt (cell_place page number kind j) (cell_place page number kind k + cell_room (slice_index_or cells k [])))
    where
      by : (p m q n : ℕ) → ((q < p + m) ⊎ (p + m ≤ q)) → ((p < q + n) ⊎ (q + n ≤ p)) → Decided (AreApart p m q n)
      by p m q n (inr before) other = inl (inl before)
      by p m q n (inl not_so) (inr behind) = inl (inr behind)
      by p m q n (inl not_so) (inl none) = inr (λ apart. elim apart [ inl before ↦ omega (arith, not_so, before) | inr behind ↦ omega (arith, none, behind) ])

  apart-decided : (cells : List (List ℕ)) → Decided ((k : ℕ) → k < length cells → (j : ℕ) → j < k → ApartAt cells k j)
  apart-decided cells = all-decided (λ k. (j : ℕ) → j < k → ApartAt cells k j) (λ k. all-decided (ApartAt cells k) (apart-decided_at cells k) k) (length cells)

-- the right child that bytes name
right_in : (kind : PageKind) (page : List ℕ) (header : ℕ) → (right : ℕ) × RightChild kind page header right
right_in TableLeaf page header = (0, refl)
right_in TableInterior page header = (number_at (header + 8) 4 page, refl)
right_in IndexLeaf page header = (0, refl)
right_in IndexInterior page header = (number_at (header + 8) 4 page, refl)

module _ (page : List ℕ) (number usable : ℕ) where
  -- the page has some cells
  abbrev HasPage : PageKind → Type 0
  HasPage kind = (cells : List (List ℕ)) × (right : ℕ) × IsPage page number usable kind cells right

  cells_in : (kind : PageKind) (cells : List (List ℕ)) (right : ℕ) → IsPage page number usable kind cells right → AreCellsFrom page number usable kind (cell_count page number) 0 cells
  cells_in kind cells right is =
      subst⁻¹ (λ (n : ℕ). AreCellsFrom page number usable kind n 0 cells) is.count
      (from-each page number usable kind (length cells) cells 0
      (λ k low. subst⁻¹ (λ (n : ℕ). IsCellAt page number usable kind (length cells) n (slice_index_or cells k [])) (let e : 0 + k ≡ k = omega arith in e) (is.each k low)))

  page-made : (kind : PageKind) → HasKind page number kind → (has : HasCells page number usable kind (cell_count page number) 0 (cell_count page number))
      → ((k : ℕ) → k < length has.0 → (j : ℕ) → j < k → ApartAt page number usable kind (cell_count page number) has.0 k j) → HasPage kind
  page-made kind its_kind (cells, many, are) apart =
      let right = right_in kind page (header_place number) in (
        cells,
        right.0,
        record {
          kind_is = its_kind;
          count = sym many;
          each = λ k low.
              let at = to-each page number usable kind (cell_count page number) cells 0 are k low in
              subst⁻¹ (λ (n : ℕ). IsCellAt page number usable kind n k (slice_index_or cells k [])) many
              (subst (λ (n : ℕ). IsCellAt page number usable kind (cell_count page number) n (slice_index_or cells k [])) (let e : 0 + k ≡ k = omega arith in e) at);
          apart = λ j k less low. apart k low j less;
          right_child = right.1;
        },
      )

  page-decided : (kind : PageKind) → HasKind page number kind → Decided (HasPage kind)
  page-decided kind its_kind = by (cells-decided page number usable kind (cell_count page number) 0 (cell_count page number))
    where
      apart : (has : HasCells page number usable kind (cell_count page number) 0 (cell_count page number))
          → Decided ((k : ℕ) → k < length has.0 → (j : ℕ) → j < k → ApartAt page number usable kind (cell_count page number) has.0 k j) → Decided (HasPage kind)
      apart has (inl are) = inl (page-made kind its_kind has are)
      apart has (inr not_so) =
          inr (λ found.
          let cells = found.0 in
          let is = found.2 in
          let same : cells ≡ has.0 = cells-one page number usable kind (cell_count page number) 0 cells has.0 (sym is.count ∙ sym has.1) (cells_in kind cells found.1 is) has.2 in
          not_so (subst (λ (cs : List (List ℕ)). (k : ℕ) → k < length cs → (j : ℕ) → j < k → ApartAt page number usable kind (cell_count page number) cs k j) same (λ k low j less. is.apart j k less low)))

      by : Decided (HasCells page number usable kind (cell_count page number) 0 (cell_count page number)) → Decided (HasPage kind)
      by (inl has) = apart has (apart-decided page number usable kind (cell_count page number) has.0)
      by (inr not_so) = inr (λ found. not_so (found.0, sym found.2.count, cells_in kind found.0 found.1 found.2))

  -- what byte a page has for its kind
  kind-decided : Decided ((kind : PageKind) × HasKind page number kind)
  kind-decided =
      let byte = slice_index page (header_place number) in
      by (cases_eq byte 13) (cases_eq byte 5) (cases_eq byte 10) (cases_eq byte 2)
    where
      by : ((slice_index page (header_place number) ≡ 13) ⊎ ((slice_index page (header_place number) ≡ 13) → ⊥)) → ((slice_index page (header_place number) ≡ 5) ⊎ ((slice_index page (header_place number) ≡ 5) → ⊥))
          → ((slice_index page (header_place number) ≡ 10) ⊎ ((slice_index page (header_place number) ≡ 10) → ⊥)) → ((slice_index page (header_place number) ≡ 2) ⊎ ((slice_index page (header_place number) ≡ 2) → ⊥))
          → Decided ((kind : PageKind) × HasKind page number kind)
      by (inl is) b c d = inl (TableLeaf, is)
      by (inr a) (inl is) c d = inl (TableInterior, is)
      by (inr a) (inr b) (inl is) d = inl (IndexLeaf, is)
      by (inr a) (inr b) (inr c) (inl is) = inl (IndexInterior, is)
      by (inr a) (inr b) (inr c) (inr d) = inr none
        where
          none : (kind : PageKind) × HasKind page number kind → ⊥
          none (TableLeaf, is) = a is
          none (TableInterior, is) = b is
          none (IndexLeaf, is) = c is
          none (IndexInterior, is) = d is

  abbrev SomeRefused : Type 0
  SomeRefused = (rule : Rule) × IsRefused page number usable rule

  abbrev SomePage : Type 0
  SomePage = (kind : PageKind) × (cells : List (List ℕ)) × (right : ℕ) × IsPage page number usable kind cells right

  -- bytes are refused as a page, or are one
  pub page-or_refused : SomeRefused ⊎ SomePage
  page-or_refused = by kind-decided
    where
      of_kind : (kind : PageKind) → HasKind page number kind → Decided (HasPage kind) → SomeRefused ⊎ SomePage
      of_kind kind its (inl found) = inr (kind, found.0, found.1, found.2)
      of_kind kind its (inr not_so) =
          inl (
            broken.Cells,
            (
              (kind, its),
              λ other cells right is.
                  let same : other ≡ kind = kind_byte-same other kind (sym is.kind_is ∙ its) in
                  not_so (cells, right, subst (λ (k : PageKind). IsPage page number usable k cells right) same is),
            ),
          )

      by : Decided ((kind : PageKind) × HasKind page number kind) → SomeRefused ⊎ SomePage
      by (inl found) = of_kind found.0 found.1 (page-decided found.0 found.1)
      by (inr not_so) = inl (broken.Kind, λ kind is. not_so (kind, is))

-- The same of a page of a database, with the views of its cells.
module _ (sizes : Sizes) (base : Paged) (number : ℕ) where
  record SeenCells (kind : PageKind) (cells : List (List ℕ)) : Type 0 where
    seen : List Seen
    bytes_are : bytes_seen seen ≡ cells
    views : AllByRecursion (λ cell. IsCell kind sizes.usable cell.0 cell.1) seen

  seen-made : (kind : PageKind) (count at : ℕ) (cells : List (List ℕ)) → AreCellsFrom (base.pages number) number sizes.usable kind count at cells → SeenCells kind cells
  seen-made kind count at [] are = record { seen = []; bytes_are = refl; views = tt }
  seen-made kind count at (cell ∷ cells) are =
      let rest = seen-made kind count (suc at) cells are.1 in
      record { seen = (cell, are.0.view) ∷ rest.seen; bytes_are = ap (λ (cs : List (List ℕ)). cell ∷ cs) rest.bytes_are; views = (are.0.is_cell, rest.views) }

  abbrev pub SomeAccepted : Type 0
  SomeAccepted = (kind : PageKind) × (cells : List Seen) × (right : ℕ) × IsAccepted sizes base number kind cells right

  pub accepted-or_refused : ((rule : Rule) × IsRefused (base.pages number) number sizes.usable rule) ⊎ SomeAccepted
  accepted-or_refused = by (page-or_refused (base.pages number) number sizes.usable)
    where
      by : ((rule : Rule) × IsRefused (base.pages number) number sizes.usable rule)
          ⊎ ((kind : PageKind) × (cells : List (List ℕ)) × (right : ℕ) × IsPage (base.pages number) number sizes.usable kind cells right)
          → ((rule : Rule) × IsRefused (base.pages number) number sizes.usable rule) ⊎ SomeAccepted
      by (inl refused) = inl refused
      by (inr (kind, cells, right, is)) =
          let made = seen-made kind (cell_count (base.pages number) number) 0 cells (cells_in (base.pages number) number sizes.usable kind cells right is) in
          inr (
            kind,
            made.seen,
            right,
            record { is_page = subst⁻¹ (λ (cs : List (List ℕ)). IsPage (base.pages number) number sizes.usable kind cs right) made.bytes_are is; views = made.views },
          )
