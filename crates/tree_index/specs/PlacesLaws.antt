-- The place of an entry in an index that stands at a page which was read: crates above cite these facts in their proofs.
use Rattle.std.proofs.Common.{◌≡◌, ℕ, zero, suc, ◌+◌, ◌-◌, ◌<◌, ◌≤◌, List, [], ◌∷◌, ◌++◌, length, map, take, drop, slice_index_or, refl, sym, ap, ◌∙◌, subst, inl, inr, arith, append_assoc}
use Rattle.std.proofs.Math.Path.{subst⁻¹}
use Rattle.std.proofs.lemmas.Bool.{cases_lt}
use Rattle.std.proofs.lemmas.List.{drop_all, take-append-drop}
use Rattle.std.specs.List.{AllByRecursion, Contains}
use Rattle.byte_fields.specs.Bytes.{part_of}
use Rattle.byte_fields.specs.BytesLaws.{part_of-part_of}
use Rattle.format_spec.specs.declared.PageKind.{PageKind}
use Rattle.format_spec.specs.declared.CellView.{CellView}
use Rattle.format_spec.specs.Cell.{IsCell}
use Rattle.format_spec.specs.Page.{IsPage, cell_place}
use Rattle.key_order.specs.declared.order.KeyOrder.{KeyOrder}
use Rattle.key_order.specs.Orders.{HasEqual, IsEntry, IsEqual, IsHigh, IsLow, IsRising}
use Rattle.key_order.specs.OrdersLaws.{high-behind, low-before, rising-back, rising-front}
use Rattle.page_layout.specs.ViewsLaws.{kind_byte-same, view-size}
use Rattle.page_spec.specs.Chains.{chain_bytes}
use Rattle.refusal.specs.declared.Rule.{Rule}
use Rattle.tree_spec.specs.declared.TreeKind.TheVariants.{Index}
use Rattle.tree_spec.specs.Trees.{Member, TreeCell, TreeOf, cells_behind, interior_kind, kind_at, list_beside, list_of, member, own_cells, own_right, page_of}
use Rattle.tree_spec.specs.Standing.{Sizes, Paged, HasBelow, IsHeld, Stands, StandsBefore}
use Rattle.tree_spec.specs.WorldsLaws.{all-join}
use Rattle.put_spec.specs.Children.{child_at}
use Rattle.put_spec.specs.ImagesLaws.{length-of, map-append, map-map}
use Rattle.tree_index.specs.Entries.{members_before, members_behind}
use Rattle.tree_index.specs.EntriesLaws.{members-around}
use Rattle.put_spec.specs.Steps.{HasCells, Spelled, bytes_in, spelled, views_in}
use Rattle.put_spec.specs.SpelledLaws.{page-tells}
use Rattle.tree_level.specs.Changes.{HasSpelled}
use Rattle.tree_level.specs.ChangesLaws.{spelled-read}
use Rattle.tree_walk.specs.declared.page.TreePage.{TreePage}
use Rattle.tree_walk.specs.Pages.{IsDecoded, view_of}
use Rattle.tree_walk.specs.Payloads.{IsPayload, part_at}
use Rattle.tree_walk.specs.PayloadsLaws.{local_part, no_view, payload-one, payload-not_broken}
use Rattle.tree_index.specs.declared.searching.Sought.TheVariants as sought
use Rattle.tree_index.specs.Searches.{IsBadEntry, IsSought, PayloadAt}
use Rattle.tree_index.specs.ListsLaws.{all-index, around-item, contains-middle, drop-here, index-any, take-more}

-- any cell
abbrev no_cell : TreeCell
no_cell = record { bytes = []; view = no_view; payload = []; chain = [] }

abbrev pub cell_at : List TreeCell → ℕ → TreeCell
cell_at cells k = slice_index_or cells k no_cell

-- the cells of a standing tree's own page are held
held-behind : (sizes : Sizes) (base : Paged) (levels : ℕ) (children : List (TreeOf levels × TreeCell)) → AllByRecursion (StandsBefore sizes base Index levels) children
    → AllByRecursion (IsHeld sizes base (interior_kind Index)) (cells_behind children)
held-behind sizes base levels [] all = tt
held-behind sizes base levels (child ∷ children) all = (all.0.0.held, held-behind sizes base levels children all.1)

held-own : (sizes : Sizes) (base : Paged) (levels : ℕ) (tree : TreeOf levels) → HasBelow sizes base Index levels tree → AllByRecursion (IsHeld sizes base (kind_at Index levels)) (own_cells levels tree)
held-own sizes base zero tree below = below
held-own sizes base (suc levels) tree below = held-behind sizes base levels tree.children below.0

-- a page that was read from pages is that of its own bytes
pub decoded-own : (number usable : ℕ) (page : TreePage) → IsDecoded page.bytes number usable page → IsDecoded page.bytes page.number usable page
decoded-own number usable page decoded = subst⁻¹ (λ (n : ℕ). IsDecoded page.bytes n usable page) decoded.number_is decoded

-- The payload of a cell that is held is read of a page that has it at an index.
module _ (sizes : Sizes) (base : Paged) (page : TreePage) (cells : List Spelled) (has : HasSpelled sizes.usable page cells) (k : ℕ) (low : k < length cells) (cell : TreeCell) (same : slice_index_or cells k (spelled cell) ≡ spelled cell)
    (page_kind : PageKind) (held : IsHeld sizes base page_kind cell) where
  view-at : (d : CellView) → slice_index_or page.views k d ≡ cell.view
  view-at d = ap (λ (l : List CellView). slice_index_or l k d) (sym has.views_are) ∙ index-any (λ (c : Spelled). c.view) cells k d (spelled cell) low ∙ ap (λ (c : Spelled). c.view) same

  abbrev start : ℕ
  start = cell_place page.bytes page.number page.kind k

  bytes-at : part_of page.bytes start (length cell.bytes) ≡ cell.bytes
  bytes-at =
      let bytes : slice_index_or (bytes_in cells) k [] ≡ cell.bytes = index-any (λ (c : Spelled). c.bytes) cells k [] (spelled cell) low ∙ ap (λ (c : Spelled). c.bytes) same in
      let place = has.is_page.each k (omega (arith, low, length-of (λ (c : Spelled). c.bytes) cells)) in
      subst (λ (b : List ℕ). part_of page.bytes start (length b) ≡ b) bytes place.stands

  part-is : part_at (view_of page) k cell.view ≡ part_of cell.bytes cell.view.local_at cell.view.local
  part-is =
      let view = cell.view in
      let inside : view.local_at + view.local ≤ length cell.bytes = omega (arith, local_part page_kind sizes.usable cell.bytes view held.is_cell, view-size page_kind sizes.usable cell.bytes view held.is_cell) in
      sym (part_of-part_of page.bytes start (length cell.bytes) view.local_at view.local inside) ∙ ap (λ (b : List ℕ). part_of b view.local_at view.local) bytes-at

  pub payload-held : PayloadAt base.pages sizes.size sizes.usable base.count page k cell.payload
  payload-held d =
      let view = cell.view in
      let rest = chain_bytes base.pages sizes.usable cell.chain (view.payload - view.local) in
      subst⁻¹ (λ (v : CellView). IsPayload base.pages sizes.size sizes.usable base.count (view_of page) k v cell.payload) (view-at d)
      (inr (rest, (cell.chain, held.is_chain, refl), held.whole ∙ ap (λ (part : List ℕ). part ++ rest) (sym part-is)))

-- The page that was read is that of an index.
module _ (sizes : Sizes) (base : Paged) (levels : ℕ) (tree : TreeOf levels) (page : TreePage) (is : page_of levels tree ≡ page.number) (stands : Stands sizes base Index levels tree) (there : base.pages page.number ≡ page.bytes)
    (decoded : IsDecoded page.bytes page.number sizes.usable page) where
  pub kind-is : kind_at Index levels ≡ page.kind
  kind-is =
      let own : IsPage (base.pages page.number) page.number sizes.usable (kind_at Index levels) (map (λ (c : TreeCell). c.bytes) (own_cells levels tree)) (own_right levels tree) =
      subst (λ (n : ℕ). IsPage (base.pages n) n sizes.usable (kind_at Index levels) (map (λ (c : TreeCell). c.bytes) (own_cells levels tree)) (own_right levels tree)) is stands.0 in
      let here : IsPage page.bytes page.number sizes.usable (kind_at Index levels) (map (λ (c : TreeCell). c.bytes) (own_cells levels tree)) (own_right levels tree) =
      subst (λ (b : List ℕ). IsPage b page.number sizes.usable (kind_at Index levels) (map (λ (c : TreeCell). c.bytes) (own_cells levels tree)) (own_right levels tree)) there own in
      kind_byte-same (kind_at Index levels) page.kind (sym here.kind_is ∙ decoded.kind_is)

  abbrev pub read_cells : List Spelled
  read_cells = (spelled-read sizes.usable page decoded).0

  pub has-spelled : HasSpelled sizes.usable page read_cells
  has-spelled = (spelled-read sizes.usable page decoded).1

  -- its cells are those that were read
  pub has-cells : HasCells sizes base (kind_at Index levels) page.number read_cells page.right
  has-cells = record {
    is_page = subst⁻¹ (λ (k : PageKind). IsPage (base.pages page.number) page.number sizes.usable k (bytes_in read_cells) page.right) kind-is
        (subst⁻¹ (λ (b : List ℕ). IsPage b page.number sizes.usable page.kind (bytes_in read_cells) page.right) there has-spelled.is_page);
    are_cells = subst⁻¹ (λ (k : PageKind). AllByRecursion (λ cell. IsCell k sizes.usable cell.bytes cell.view) read_cells) kind-is has-spelled.are_cells;
  }

  pub told : (read_cells ≡ map spelled (own_cells levels tree)) × (page.right ≡ own_right levels tree)
  told = page-tells sizes base Index levels page.number tree read_cells page.right is has-cells stands

  views-are : page.views ≡ map (λ (c : TreeCell). c.view) (own_cells levels tree)
  views-are = sym has-spelled.views_are ∙ ap views_in told.0 ∙ map-map (λ (c : Spelled). c.view) spelled (own_cells levels tree)

  pub views-many : length page.views ≡ length (own_cells levels tree)
  views-many = ap length views-are ∙ length-of (λ (c : TreeCell). c.view) (own_cells levels tree)

  pub cells-many : length read_cells ≡ length (own_cells levels tree)
  cells-many = ap length told.0 ∙ length-of spelled (own_cells levels tree)

  module _ (k : ℕ) (low : k < length (own_cells levels tree)) where
    abbrev here : TreeCell
    here = cell_at (own_cells levels tree) k

    held : IsHeld sizes base (kind_at Index levels) here
    held = all-index (IsHeld sizes base (kind_at Index levels)) (own_cells levels tree) k no_cell low (held-own sizes base levels tree stands.1)

    -- the payload of its cell is read of the page
    pub payload-there : PayloadAt base.pages sizes.size sizes.usable base.count page k here.payload
    payload-there =
        let same = ap (λ (l : List Spelled). slice_index_or l k (spelled here)) told.0 ∙ index-any spelled (own_cells levels tree) k (spelled here) no_cell low in
        payload-held sizes base page read_cells has-spelled k (omega (arith, low, cells-many)) here same (kind_at Index levels) held

  -- no entry of an index of entries is refused
  pub none-bad : (order : KeyOrder) → AllByRecursion (λ (c : TreeCell). IsEntry order c.payload) (own_cells levels tree) → (k number : ℕ) (rule : Rule) → k < length page.views
      → IsBadEntry base.pages sizes.size sizes.usable base.count page order k number rule → ⊥
  none-bad order entries k number rule low (inl broken) =
      let inside : k < length (own_cells levels tree) = omega (arith, low, views-many) in
      payload-not_broken base.pages sizes.size sizes.usable base.count (view_of page) k (slice_index_or page.views k no_view) (here k inside).payload (payload-there k inside no_view) (broken no_view).0 number rule (broken no_view).1
  none-bad order entries k number rule low (inr wrong) =
      let inside : k < length (own_cells levels tree) = omega (arith, low, views-many) in
      let same : (here k inside).payload ≡ wrong.0 =
      payload-one base.pages sizes.size sizes.usable base.count (view_of page) k (slice_index_or page.views k no_view) (here k inside).payload wrong.0 (payload-there k inside no_view) (wrong.1 no_view) in
      wrong.2.2 (subst (IsEntry order) same (all-index (λ (c : TreeCell). IsEntry order c.payload) (own_cells levels tree) k no_cell inside entries))

  module _ (order : KeyOrder) (payload : List ℕ) where
    -- what a search found of the tree's own cells
    pub record IsAt (at : ℕ) : Type 0 where
      pub within : at ≤ length (own_cells levels tree)
      pub less : (before : ℕ) → suc before ≡ at → IsLow order payload (member (cell_at (own_cells levels tree) before))
      pub greater : at < length (own_cells levels tree) → IsHigh order payload (member (cell_at (own_cells levels tree) at))

    pub sought-at : (at : ℕ) → IsSought base.pages sizes.size sizes.usable base.count page order payload (sought.At at) → IsAt at
    sought-at at is_sought = record {
      within = omega (arith, is_sought.0, views-many);
      less = λ before e. is_sought.1 before e (here before (let low : before < length (own_cells levels tree) = omega (arith, e, is_sought.0, views-many) in low)).payload
          (payload-there before (let low : before < length (own_cells levels tree) = omega (arith, e, is_sought.0, views-many) in low));
      greater = λ low. is_sought.2 (omega (arith, low, views-many)) (here at low).payload (payload-there at low);
    }

    pub sought-equal : (k : ℕ) → IsSought base.pages sizes.size sizes.usable base.count page order payload (sought.Present k)
        → (k < length (own_cells levels tree)) × IsEqual order payload (member (cell_at (own_cells levels tree) k))
    sought-equal k (low, equal) =
        let inside : k < length (own_cells levels tree) = omega (arith, low, views-many) in
        (inside, equal (here k inside).payload (payload-there k inside))

-- Members before a place, and behind it.

module _ (order : KeyOrder) (payload : List ℕ) (entry : IsEntry order payload) where
  module _ (cells : List TreeCell) (at : ℕ) (within : at ≤ length cells) (less : (before : ℕ) → suc before ≡ at → IsLow order payload (member (cell_at cells before)))
      (greater : at < length cells → IsHigh order payload (member (cell_at cells at))) (rises : IsRising order (map member cells)) where
    members-apart : (k : ℕ) → k < length cells → map member cells ≡ map member (take k cells) ++ member (cell_at cells k) ∷ map member (drop (suc k) cells)
    members-apart k low = ap (map member) (around-item cells k no_cell low) ∙ map-append member (take k cells) (cell_at cells k ∷ drop (suc k) cells)

    -- the cells of a leaf in front of an index are less
    pub leaf-low : AllByRecursion (IsLow order payload) (map member (take at cells))
    leaf-low = by at refl
      where
        by : (n : ℕ) → n ≡ at → AllByRecursion (IsLow order payload) (map member (take n cells))
        by zero e = tt
        by (suc k) e =
            let low : k < length cells = omega (arith, e, within) in
            let here = less k e in
            subst⁻¹ (AllByRecursion (IsLow order payload)) (ap (map member) (take-more cells k no_cell low) ∙ map-append member (take k cells) (cell_at cells k ∷ []))
            (
            all-join (IsLow order payload) (map member (take k cells)) (member (cell_at cells k) ∷ [])
            (low-before order payload entry (map member (take k cells)) (map member (drop (suc k) cells)) (member (cell_at cells k)) (subst (IsRising order) (members-apart k low) rises) here)
            (here, tt)
            )

    -- and those from it on greater
    pub leaf-high : AllByRecursion (IsHigh order payload) (map member (drop at cells))
    leaf-high = elim (cases_lt at (length cells)) [
      | inl low ↦
          subst⁻¹ (AllByRecursion (IsHigh order payload)) (ap (map member) (drop-here cells at no_cell low)) (
            greater low,
            high-behind order payload entry (member (cell_at cells at)) (map member (drop (suc at) cells))
                (rising-back order (map member (take at cells)) (member (cell_at cells at) ∷ map member (drop (suc at) cells)) (subst (IsRising order) (members-apart at low) rises))
                (greater low),
          )
      | inr past ↦ subst⁻¹ (λ (l : List TreeCell). AllByRecursion (IsHigh order payload) (map member l)) (drop_all at cells past) tt
    ]

  pub leaf-list : (cells : List TreeCell) (at : ℕ) → map member cells ≡ map member (take at cells) ++ map member (drop at cells)
  leaf-list cells at = ap (map member) (sym (take-append-drop at cells)) ∙ map-append member (take at cells) (drop at cells)

  -- The members of an interior page before a child end in the cell before it, and those behind it begin with the cell behind it.
  before-end : (levels k : ℕ) (children : List (TreeOf levels × TreeCell)) (last : TreeOf levels) → k < length children
      → members_before levels (suc k) children ≡ (members_before levels k children ++ list_of Index levels (child_at k children last)) ++ member (cell_at (cells_behind children) k) ∷ []
  before-end levels k [] last low = absurd (omega (arith, low))
  before-end levels zero (child ∷ []) last low = simp append_assoc
  before-end levels zero (child ∷ other ∷ children) last low = simp append_assoc
  before-end levels (suc k) (child ∷ children) last low =
      let first = list_of Index levels child.0 ++ member child.1 ∷ [] in
      ap (λ (l : List Member). first ++ l) (before-end levels k children last (omega (arith, low)))
      ∙ sym (append_assoc first (members_before levels k children ++ list_of Index levels (child_at k children last)) (member (cell_at (cells_behind children) k) ∷ []))
      ∙ ap (λ (l : List Member). l ++ member (cell_at (cells_behind children) k) ∷ []) (sym (append_assoc first (members_before levels k children) (list_of Index levels (child_at k children last))))

  behind-first : (levels at : ℕ) (children : List (TreeOf levels × TreeCell)) (last : TreeOf levels) → at < length children
      → (rest : List Member) × (members_behind levels at children last ≡ member (cell_at (cells_behind children) at) ∷ rest)
  behind-first levels at [] last low = absurd (omega (arith, low))
  behind-first levels zero (child ∷ children) last low = (list_beside Index levels children last, refl)
  behind-first levels (suc at) (child ∷ children) last low = behind-first levels at children last (omega (arith, low))

  behind-none : (levels at : ℕ) (children : List (TreeOf levels × TreeCell)) (last : TreeOf levels) → length children ≤ at → members_behind levels at children last ≡ []
  behind-none levels at [] last past = refl
  behind-none levels zero (child ∷ children) last past = absurd (omega (arith, past))
  behind-none levels (suc at) (child ∷ children) last past = behind-none levels at children last (omega (arith, past))

  behind-many : {Child : Type 0} (children : List (Child × TreeCell)) → length (cells_behind children) ≡ length children
  behind-many [] = refl
  behind-many (child ∷ children) = omega (arith, behind-many children)

  module _ (levels at : ℕ) (children : List (TreeOf levels × TreeCell)) (last : TreeOf levels) (within : at ≤ length (cells_behind children))
      (less : (before : ℕ) → suc before ≡ at → IsLow order payload (member (cell_at (cells_behind children) before)))
      (greater : at < length (cells_behind children) → IsHigh order payload (member (cell_at (cells_behind children) at))) (rises : IsRising order (list_beside Index levels children last)) where
    abbrev child_list : List Member
    child_list = list_of Index levels (child_at at children last)

    rises-around : IsRising order (members_before levels at children ++ (child_list ++ members_behind levels at children last))
    rises-around = subst (IsRising order) (members-around levels at children last) rises

    pub page-low : AllByRecursion (IsLow order payload) (members_before levels at children)
    page-low = by at refl (rising-front order (members_before levels at children) (child_list ++ members_behind levels at children last) rises-around)
      where
        none : (cs : List (TreeOf levels × TreeCell)) → members_before levels zero cs ≡ []
        none [] = refl
        none (c ∷ cs) = refl

        by : (n : ℕ) → n ≡ at → IsRising order (members_before levels n children) → AllByRecursion (IsLow order payload) (members_before levels n children)
        by zero e up = subst⁻¹ (AllByRecursion (IsLow order payload)) (none children) tt
        by (suc k) e up =
            let low : k < length children = omega (arith, e, within, behind-many children) in
            let here = less k e in
            let m = member (cell_at (cells_behind children) k) in
            let front = members_before levels k children ++ list_of Index levels (child_at k children last) in
            let ends = before-end levels k children last low in
            subst⁻¹ (AllByRecursion (IsLow order payload)) ends
            (all-join (IsLow order payload) front (m ∷ []) (low-before order payload entry front [] m (subst (IsRising order) ends up) here) (here, tt))

    pub page-high : AllByRecursion (IsHigh order payload) (members_behind levels at children last)
    page-high = elim (cases_lt at (length children)) [
      | inl low ↦
          let first = behind-first levels at children last low in
          let here = greater (omega (arith, low, behind-many children)) in
          let m = member (cell_at (cells_behind children) at) in
          let rest = rising-back order child_list (members_behind levels at children last) (rising-back order (members_before levels at children) (child_list ++ members_behind levels at children last) rises-around) in
          subst⁻¹ (AllByRecursion (IsHigh order payload)) first.1 (here, high-behind order payload entry m first.0 (subst (IsRising order) first.1 rest) here)
      | inr past ↦ subst⁻¹ (AllByRecursion (IsHigh order payload)) (behind-none levels at children last past) tt
    ]

    pub child-rises : IsRising order child_list
    child-rises = rising-front order child_list (members_behind levels at children last) (rising-back order (members_before levels at children) (child_list ++ members_behind levels at children last) rises-around)

  -- An equal entry.

  pub leaf-equal : (cells : List TreeCell) (k : ℕ) → k < length cells → IsEqual order payload (member (cell_at cells k)) → HasEqual order payload (map member cells)
  leaf-equal cells k low equal = (
    member (cell_at cells k),
    subst⁻¹ (λ (l : List Member). Contains l (member (cell_at cells k))) (ap (map member) (around-item cells k no_cell low) ∙ map-append member (take k cells) (cell_at cells k ∷ drop (suc k) cells))
        (contains-middle (map member (take k cells)) (member (cell_at cells k)) (map member (drop (suc k) cells))),
    equal,
  )

  pub page-equal : (levels k : ℕ) (children : List (TreeOf levels × TreeCell)) (last : TreeOf levels) → k < length (cells_behind children) → IsEqual order payload (member (cell_at (cells_behind children) k))
      → HasEqual order payload (list_beside Index levels children last)
  page-equal levels k children last low equal =
      let m = member (cell_at (cells_behind children) k) in
      let first = behind-first levels k children last (omega (arith, low, behind-many children)) in
      let front = members_before levels k children in
      let middle = list_of Index levels (child_at k children last) in
      let whole : list_beside Index levels children last ≡ (front ++ middle) ++ m ∷ first.0 =
      members-around levels k children last ∙ ap (λ (l : List Member). front ++ (middle ++ l)) first.1 ∙ sym (append_assoc front middle (m ∷ first.0)) in
      (m, subst⁻¹ (λ (l : List Member). Contains l m) whole (contains-middle (front ++ middle) m first.0), equal)
