-- A page without a hole into which a cell was put is a written page with one cell more.
use Rattle.std.proofs.Common.{◌≡◌, ℕ, ◌+◌, ◌-◌, ◌*◌, ◌%◌, ◌<◌, ◌≤◌, ◌⊎◌, List, [], ◌++◌, length, length-append, slice_index, slice_index_or, refl, sym, ap, ◌∙◌, subst, inl, inr, arith}
use Rattle.std.proofs.Math.Path.{subst⁻¹}
use Rattle.std.specs.List.{insert}
use Rattle.std.proofs.lemmas.Bool.{cases_lt}
use Rattle.std.proofs.lemmas.List.Edits.{length-insert, get_or-insert_below, get_or-insert_at, get_or-insert_above}
use Rattle.std.proofs.lemmas.List.Sums.{sum_by-insert}
use Rattle.byte_fields.specs.Bytes.{part_of}
use Rattle.format_spec.specs.declared.PageKind.{PageKind}
use Rattle.format_spec.specs.declared.PageKind.TheVariants.{IndexInterior, TableInterior, IndexLeaf, TableLeaf}
use Rattle.format_spec.specs.declared.CellView.{CellView}
use Rattle.format_spec.specs.Cell.{IsCell}
use Rattle.format_spec.specs.Page.{IsPage, IsCellAt, AreApart, RightChild, header_place, header_length, array_place, cell_place, cell_room}
use Rattle.page_spec.specs.PlacesLaws.{number_at-same, part_of-same}
use Rattle.cell_codec.specs.VarintLaws.{spelling-one_to_nine}
use Rattle.page_spec.specs.Rooms.{array_end, rooms, HasNoHole, IsOneCell, IsWritten, KeepsRest}
use Rattle.page_layout.specs.declared.put.Layout.{Layout}
use Rattle.page_layout.specs.Written.{PutsCell, IsPacked, IsLaid, KeepsPlaces, laid_more}

pub header_length-least : (kind : PageKind) → 8 ≤ header_length kind
header_length-least TableLeaf = omega arith
header_length-least TableInterior = omega arith
header_length-least IndexLeaf = omega arith
header_length-least IndexInterior = omega arith

-- the right child stays where the bytes of the header behind the counts stay
pub right_child-same : (kind : PageKind) (old new : List ℕ) (header right : ℕ) → ((k : ℕ) → header + 8 ≤ k → k < header + header_length kind → slice_index new k ≡ slice_index old k)
    → RightChild kind old header right → RightChild kind new header right
right_child-same TableLeaf old new header right same is = is
right_child-same TableInterior old new header right same is = is ∙ sym (number_at-same 4 new (header + 8) old (header + 8) (λ j small. same (header + 8 + j) (omega arith) (omega arith)))
right_child-same IndexLeaf old new header right same is = is
right_child-same IndexInterior old new header right same is = is ∙ sym (number_at-same 4 new (header + 8) old (header + 8) (λ j small. same (header + 8 + j) (omega arith) (omega arith)))

-- a cell of the new page that stands where one of the old page stood
record IsKept (old new : List ℕ) (number : ℕ) (kind : PageKind) (cells others : List (List ℕ)) (k i : ℕ) : Type 0 where
  low : i < length cells
  place : cell_place new number kind k ≡ cell_place old number kind i
  cell : slice_index_or others k [] ≡ slice_index_or cells i []

module _ (old new : List ℕ) (number usable : ℕ) (kind : PageKind) (cells : List (List ℕ)) (right at : ℕ) (cell : List ℕ) (view : CellView)
    (within : usable ≤ length old) (long : length old ≤ 65536) (was : IsPage old number usable kind cells right) (inside : at ≤ length cells) (is_cell : IsCell kind usable cell view) (place : ℕ)
    (room : array_end number kind (length cells + 1) ≤ place) (fits : place + cell_room cell ≤ usable) (below : (k : ℕ) → k < length cells → place + cell_room cell ≤ cell_place old number kind k)
    (puts : PutsCell old new (header_place number) (array_place number kind) (length cells) at place cell) where
  others : List (List ℕ)
  others = insert cells at cell

  length-others : length others ≡ length cells + 1
  unfolding others
  length-others = length-insert cells at cell inside

  IsKept-below : (k : ℕ) → k < at → IsKept old new number kind cells others k k
  unfolding others
  IsKept-below k low = record {
    low = omega arith;
    place = number_at-same 2 new (array_place number kind + 2 * k) old (array_place number kind + 2 * k) (puts.stays k low);
    cell = get_or-insert_below cells at cell [] k low inside;
  }

  IsKept-above : (i : ℕ) → at ≤ i → i < length cells → IsKept old new number kind cells others (i + 1) i
  unfolding others
  IsKept-above i high low = record {
    low = low;
    place = number_at-same 2 new (array_place number kind + 2 * (i + 1)) old (array_place number kind + 2 * i) (puts.moved i high low);
    cell = get_or-insert_above cells at cell [] i high inside;
  }

  place-here : cell_place new number kind at ≡ place
  place-here = puts.here

  cell-here : slice_index_or others at [] ≡ cell
  unfolding others
  cell-here = get_or-insert_at cells at cell [] inside

  -- a cell that stood there
  IsCellAt-kept : (k i : ℕ) → IsKept old new number kind cells others k i → IsCellAt new number usable kind (length cells + 1) k (slice_index_or others k [])
  IsCellAt-kept k i kept =
      let was_at = was.each i kept.low in
      let low_end = below i kept.low in
      let its_place = cell_place old number kind i in
      let its_cell = slice_index_or cells i [] in
      let P : List ℕ → Type 0 = λ c. IsCellAt new number usable kind (length cells + 1) k c in
      let same_place : cell_place new number kind k ≡ its_place = kept.place in
      let in_page : its_place + length its_cell ≤ length old = omega (arith, was_at.inside) in
      let stood : part_of new its_place (length its_cell) ≡ its_cell =
      part_of-same (length its_cell) new its_place old its_place (omega (arith, puts.long)) in_page (λ j small. puts.behind (its_place + j) (omega arith)) ∙ was_at.stands in
      subst⁻¹ P kept.cell (record {
        view = was_at.view;
        is_cell = was_at.is_cell;
        stands = ap (λ (p : ℕ). part_of new p (length its_cell)) same_place ∙ stood;
        behind_array = omega arith;
        inside = omega (arith, was_at.inside, same_place);
      })

  -- the cell that was put in
  IsCellAt-here : IsCellAt new number usable kind (length cells + 1) at (slice_index_or others at [])
  IsCellAt-here =
      let P : List ℕ → Type 0 = λ c. IsCellAt new number usable kind (length cells + 1) at c in
      subst⁻¹ P cell-here (record {
        view = view;
        is_cell = is_cell;
        stands = ap (λ (p : ℕ). part_of new p (length cell)) place-here ∙ puts.cell_is;
        behind_array = omega (arith, place-here);
        inside = omega (arith, place-here);
      })

  IsCellAt-each : (k : ℕ) → k < length cells + 1 → IsCellAt new number usable kind (length cells + 1) k (slice_index_or others k [])
  IsCellAt-each k low =
      elim (cases_lt k at) [
        | inl lower ↦ IsCellAt-kept k k (IsKept-below k lower)
        | inr not_below ↦ elim (cases_lt at k) [
          | inl above ↦
              let i = k - 1 in
              let k_is : i + 1 ≡ k = omega arith in
              let P : ℕ → Type 0 = λ n. IsCellAt new number usable kind (length cells + 1) n (slice_index_or others n []) in
              subst P k_is (IsCellAt-kept (i + 1) i (IsKept-above i (omega arith) (omega arith)))
          | inr not_above ↦
              let at_is : at ≡ k = omega arith in
              let P : ℕ → Type 0 = λ n. IsCellAt new number usable kind (length cells + 1) n (slice_index_or others n []) in
              subst P at_is IsCellAt-here
        ]
      ]

  -- apart from a cell that stood there
  AreApart-here : (k : ℕ) (i : ℕ) → IsKept old new number kind cells others k i
      → AreApart (cell_place new number kind at) (cell_room (slice_index_or others at [])) (cell_place new number kind k) (cell_room (slice_index_or others k []))
  AreApart-here k i kept =
      let P : List ℕ → Type 0 = λ c. AreApart (cell_place new number kind at) (cell_room c) (cell_place new number kind k) (cell_room (slice_index_or others k [])) in
      let low_end = below i kept.low in
      subst⁻¹ P cell-here (inl (omega (arith, place-here, kept.place)))

  AreApart-turned : (p m q n : ℕ) → AreApart p m q n → AreApart q n p m
  AreApart-turned p m q n (inl before) = inr before
  AreApart-turned p m q n (inr behind) = inl behind

  AreApart-kept : (j k a b : ℕ) → a < b → IsKept old new number kind cells others j a → IsKept old new number kind cells others k b
      → AreApart (cell_place new number kind j) (cell_room (slice_index_or others j [])) (cell_place new number kind k) (cell_room (slice_index_or others k []))
  AreApart-kept j k a b order one other =
      let P : ℕ → ℕ → Type 0 = λ p q. AreApart p (cell_room (slice_index_or others j [])) q (cell_room (slice_index_or others k [])) in
      let Q : List ℕ → List ℕ → Type 0 = λ c d. AreApart (cell_place old number kind a) (cell_room c) (cell_place old number kind b) (cell_room d) in
      subst⁻¹ (λ (p : ℕ). P p (cell_place new number kind k)) one.place
      (subst⁻¹ (λ (q : ℕ). P (cell_place old number kind a) q) other.place
      (subst⁻¹ (λ (c : List ℕ). Q c (slice_index_or others k [])) one.cell
      (subst⁻¹ (λ (d : List ℕ). Q (slice_index_or cells a []) d) other.cell (was.apart a b order other.low))))

  -- which cell of the old page stands at an index of the new one
  IsKept-source : (k : ℕ) → k < length cells + 1 → (k ≡ at) ⊎ ((i : ℕ) × (IsKept old new number kind cells others k i × (((k < at) × (i ≡ k)) ⊎ ((at < k) × (i + 1 ≡ k)))))
  IsKept-source k low =
      elim (cases_lt k at) [
        | inl lower ↦ inr (k, (IsKept-below k lower, inl (lower, refl)))
        | inr not_below ↦ elim (cases_lt at k) [
          | inl above ↦
              let i = k - 1 in
              let k_is : i + 1 ≡ k = omega arith in
              let P : ℕ → Type 0 = λ n. IsKept old new number kind cells others n i in
              inr (i, (subst P k_is (IsKept-above i (omega arith) (omega arith)), inr (above, k_is)))
          | inr not_above ↦ inl (omega arith)
        ]
      ]

  AreApart-each : (j k : ℕ) → j < k → k < length cells + 1
      → AreApart (cell_place new number kind j) (cell_room (slice_index_or others j [])) (cell_place new number kind k) (cell_room (slice_index_or others k []))
  AreApart-each j k order low =
      let P : ℕ → ℕ → Type 0 = λ a b. AreApart (cell_place new number kind a) (cell_room (slice_index_or others a [])) (cell_place new number kind b) (cell_room (slice_index_or others b [])) in
      elim (IsKept-source j (omega arith)) [
        | inl j_here ↦ elim (IsKept-source k low) [
          | inl k_here ↦ absurd (omega arith)
          | inr other ↦ subst⁻¹ (λ (a : ℕ). P a k) j_here (AreApart-here k other.0 other.1.0)
        ]
        | inr one ↦ elim (IsKept-source k low) [
          | inl k_here ↦ subst⁻¹ (λ (b : ℕ). P j b) k_here (AreApart-turned _ _ _ _ (AreApart-here j one.0 one.1.0))
          | inr other ↦ AreApart-kept j k one.0 other.0 (ordered one.0 other.0 one.1.1 other.1.1 order) one.1.0 other.1.0
        ]
      ]
    where
      ordered : (a b : ℕ) → ((j < at) × (a ≡ j)) ⊎ ((at < j) × (a + 1 ≡ j)) → ((k < at) × (b ≡ k)) ⊎ ((at < k) × (b + 1 ≡ k)) → j < k → a < b
      ordered a b (inl p) (inl q) h = omega arith
      ordered a b (inl p) (inr q) h = omega arith
      ordered a b (inr p) (inl q) h = omega arith
      ordered a b (inr p) (inr q) h = omega arith

  pub IsPage-inserted : IsPage new number usable kind (insert cells at cell) right
  unfolding others
  IsPage-inserted =
      let P : ℕ → Type 0 = λ n. (k : ℕ) → k < n → IsCellAt new number usable kind n k (slice_index_or others k []) in
      let Q : ℕ → Type 0 = λ n. (j k : ℕ) → j < k → k < n
      → AreApart (cell_place new number kind j) (cell_room (slice_index_or others j [])) (cell_place new number kind k) (cell_room (slice_index_or others k [])) in
      record {
        kind_is = puts.front (header_place number) (omega arith) ∙ was.kind_is;
        count = puts.counts ∙ sym length-others;
        each = subst⁻¹ P length-others IsCellAt-each;
        apart = subst⁻¹ Q length-others AreApart-each;
        right_child = right_child-same kind old new (header_place number) right puts.rest was.right_child;
      }

  -- no cell stands below the new one
  pub place-lowest : (k : ℕ) → k < length (insert cells at cell) → place ≤ cell_place new number kind k
  unfolding others
  place-lowest k low =
      elim (IsKept-source k (omega (arith, length-others))) [
        | inl here ↦ let P : ℕ → Type 0 = λ n. place ≤ cell_place new number kind n in subst⁻¹ P here (omega (arith, place-here))
        | inr kept ↦ let low_end = below kept.0 kept.1.0.low in omega (arith, kept.1.0.place)
      ]

module _ (old new : List ℕ) (number usable : ℕ) (kind : PageKind) (cells : List (List ℕ)) (right at : ℕ) (cell : List ℕ) (view : CellView)
    (within : usable ≤ length old) (long : length old ≤ 65536) (was : IsPage old number usable kind cells right) (no_hole : HasNoHole old number usable kind cells) (inside : at ≤ length cells)
    (is_cell : IsCell kind usable cell view) (room : array_end number kind (length cells + 1) + (rooms cells + cell_room cell) ≤ usable)
    (puts : PutsCell old new (header_place number) (array_place number kind) (length cells) at (usable - (rooms cells + cell_room cell)) cell) where
  abbrev bottom : ℕ
  bottom = usable - (rooms cells + cell_room cell)

  under : (k : ℕ) → k < length cells → bottom + cell_room cell ≤ cell_place old number kind k
  under k low = let low_end = no_hole k low in omega arith

  rooms-begin : usable - rooms (insert cells at cell) ≡ bottom
  rooms-begin = omega (arith, sum_by-insert cell_room cells at cell)

  pub IsWritten-inserted : IsWritten new number usable kind (insert cells at cell) right
  IsWritten-inserted = record {
    is_page = IsPage-inserted old new number usable kind cells right at cell view within long was inside is_cell bottom (omega arith) (omega arith) under puts;
    no_hole = λ k low.
        let from = place-lowest old new number usable kind cells right at cell view within long was inside is_cell bottom (omega arith) (omega arith) under puts k low in
        omega (arith, rooms-begin);
    no_freeblock = puts.no_freeblock;
    content = puts.content ∙ ap (λ (n : ℕ). (usable - n) % 65536) (sym (sum_by-insert cell_room cells at cell));
    no_fragment = puts.no_fragment;
  }

-- a cell has a byte
pub cell-some : (kind : PageKind) (usable : ℕ) (cell : List ℕ) (view : CellView) → IsCell kind usable cell view → 0 < length cell
cell-some TableLeaf usable cell view is =
    omega (arith, ap length is.whole, length-append is.payload_bytes (is.rowid_bytes ++ (is.local_bytes ++ is.overflow_bytes)), spelling-one_to_nine is.payload_bytes view.payload is.payload)
cell-some TableInterior usable cell view is = omega (arith, ap length is.whole, length-append is.child_bytes is.rowid_bytes, is.child_length)
cell-some IndexLeaf usable cell view is =
    omega (arith, ap length is.whole, length-append is.child_bytes (is.payload_bytes ++ (is.local_bytes ++ is.overflow_bytes)), length-append is.payload_bytes (is.local_bytes ++ is.overflow_bytes), spelling-one_to_nine is.payload_bytes view.payload is.payload)
cell-some IndexInterior usable cell view is =
    omega (arith, ap length is.whole, length-append is.child_bytes (is.payload_bytes ++ (is.local_bytes ++ is.overflow_bytes)), is.child_length)

-- a cell put where the layout says
pub PutCell-is_laid : (old new : List ℕ) (layout : Layout) (cells : List (List ℕ)) (right at : ℕ) (cell : List ℕ) (header length_of place : ℕ)
    → layout.usable ≤ length old → length old ≤ 65536 → at ≤ layout.count → IsOneCell layout.kind layout.usable cell
    → array_end layout.number layout.kind (layout.count + 1) + cell_room cell ≤ layout.bottom → IsPacked old layout cells right
    → header ≡ header_place layout.number → length_of ≡ header_length layout.kind → place ≡ layout.bottom - cell_room cell
    → PutsCell old new header (header + length_of) layout.count at place cell → IsLaid new (laid_more layout (cell_room cell)) (insert cells at cell) right
PutCell-is_laid old new layout cells right at cell header length_of place whole long inside one room laid h l p puts =
    let begins : place ≡ layout.usable - (rooms cells + cell_room cell) = omega (arith, laid.bottom) in
    let at_header = subst (λ (x : ℕ). PutsCell old new x (x + length_of) layout.count at place cell) h puts in
    let at_array = subst (λ (x : ℕ). PutsCell old new (header_place layout.number) (header_place layout.number + x) layout.count at place cell) l at_header in
    let at_count = subst (λ (x : ℕ). PutsCell old new (header_place layout.number) (array_place layout.number layout.kind) x at place cell) laid.count at_array in
    let at_place = subst (λ (x : ℕ). PutsCell old new (header_place layout.number) (array_place layout.number layout.kind) (length cells) at x cell) begins at_count in
    record {
      written = IsWritten-inserted old new layout.number layout.usable layout.kind cells right at cell one.0 whole long laid.is_page laid.no_hole (omega (arith, laid.count)) one.1 (omega (arith, laid.count, laid.bottom)) at_place;
      count = omega (arith, laid.count, length-insert cells at cell (omega (arith, laid.count)));
      bottom = omega (arith, laid.bottom, sum_by-insert cell_room cells at cell);
    }

-- a cell put between the array and the cells of a page
pub PutCell-is_page : (old new : List ℕ) (number usable : ℕ) (kind : PageKind) (cells : List (List ℕ)) (right at : ℕ) (cell : List ℕ) (header length_of count place : ℕ)
    → usable ≤ length old → length old ≤ 65536 → at ≤ length cells → count ≡ length cells → IsOneCell kind usable cell → array_end number kind (count + 1) ≤ place → place + cell_room cell ≤ usable
    → ((k : ℕ) → k < length cells → place + cell_room cell ≤ cell_place old number kind k) → IsPage old number usable kind cells right → header ≡ header_place number → length_of ≡ header_length kind
    → PutsCell old new header (header + length_of) count at place cell → IsPage new number usable kind (insert cells at cell) right
PutCell-is_page old new number usable kind cells right at cell header length_of count place whole long inside many one room fits below is h l puts =
    let at_header = subst (λ (x : ℕ). PutsCell old new x (x + length_of) count at place cell) h puts in
    let at_array = subst (λ (x : ℕ). PutsCell old new (header_place number) (header_place number + x) count at place cell) l at_header in
    let at_count = subst (λ (x : ℕ). PutsCell old new (header_place number) (array_place number kind) x at place cell) many at_array in
    IsPage-inserted old new number usable kind cells right at cell one.0 whole long is inside one.1 place (omega (arith, room, many)) fits below at_count

pub PutCell-keeps_rest : (old new : List ℕ) (number usable header array count at place : ℕ) (cell : List ℕ) → header ≡ header_place number → place + length cell ≤ usable
    → PutsCell old new header array count at place cell → KeepsRest number usable old new
PutCell-keeps_rest old new number usable header array count at place cell h within puts k (inl front) = puts.front k (omega (arith, h))
PutCell-keeps_rest old new number usable header array count at place cell h within puts k (inr behind) = puts.behind k (omega arith)

-- the other cells keep their places
pub PutCell-keeps_places : (old new : List ℕ) (number : ℕ) (kind : PageKind) (header length_of count at place : ℕ) (cell : List ℕ) → header ≡ header_place number → length_of ≡ header_length kind
    → PutsCell old new header (header + length_of) count at place cell → KeepsPlaces old new number kind count at
PutCell-keeps_places old new number kind header length_of count at place cell h l puts =
    let at_header = subst (λ (x : ℕ). PutsCell old new x (x + length_of) count at place cell) h puts in
    let at_array = subst (λ (x : ℕ). PutsCell old new (header_place number) (header_place number + x) count at place cell) l at_header in
    record {
      in_front = λ k low. number_at-same 2 new (array_place number kind + 2 * k) old (array_place number kind + 2 * k) (at_array.stays k low);
      behind = λ k low high. number_at-same 2 new (array_place number kind + 2 * (k + 1)) old (array_place number kind + 2 * k) (at_array.moved k low high);
    }

-- a written page has no hole
pub packed-laid : {page : List ℕ} {layout : Layout} {cells : List (List ℕ)} {right : ℕ} → IsLaid page layout cells right → IsPacked page layout cells right
packed-laid laid = record { is_page = laid.written.is_page; no_hole = laid.written.no_hole; count = laid.count; bottom = laid.bottom }
