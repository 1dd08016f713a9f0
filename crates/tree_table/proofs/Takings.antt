-- A row that is taken out of a leaf.
use Rattle.std.proofs.Common.{◌≡◌, ◌≢◌, ℕ, ℤ, zero, suc, ◌+◌, ◌-◌, ◌<◌, ◌≤◌, Bool, true, false, List, [], ◌∷◌, ◌++◌, length, take, drop, slice_get, slice_index_or, inl, inr, refl, sym, ap, ◌∙◌, subst, arith, length-append}
use Rattle.std.proofs.Math.Path.{subst⁻¹}
use Rattle.std.proofs.lemmas.Bool.{cases_lt}
use Rattle.std.proofs.lemmas.List.{append-nil, length-drop, length-take-le}
use Rattle.std.specs.List.{AllByRecursion}
use Rattle.byte_fields.specs.Bytes.{part_of}
use Rattle.byte_fields.specs.BytesLaws.{part_of-part_of}
use Rattle.cell_codec.specs.CellLaws.{cell-parts}
use Rattle.format_spec.specs.declared.PageKind.{PageKind}
use Rattle.format_spec.specs.declared.PageKind.TheVariants.{TableInterior, TableLeaf}
use Rattle.format_spec.specs.declared.CellView.{CellView}
use Rattle.format_spec.specs.Cell.{IsCell}
use Rattle.format_spec.specs.Page.{IsPage, cell_place}
use Rattle.format_spec.specs.Sizes.{IsUsable}
use Rattle.page_spec.specs.Chains.{chain_bytes}
use Rattle.page_spec.specs.ChainsLaws.{same_chain}
use Rattle.page_spec.specs.Rooms.{free_bytes, needs, right_kept}
use Rattle.page_spec.specs.RoomsLaws.{rooms-fit}
use Rattle.tree_spec.specs.Standing.{Sizes, Paged}
use Rattle.tree_spec.specs.WorldsLaws.{all-back}
use Rattle.put_spec.specs.Children.{Belongs, Meets}
use Rattle.put_spec.specs.ImagesLaws.{length-of, none-map}
use Rattle.put_spec.specs.Steps.{Spelled, bytes_in, views_in, HasCells, child_page}
use Rattle.put_spec.specs.StepsLaws.{index-map}
use Rattle.delete_spec.specs.Steps.{DeleteInto, EmptiesPage, GrowsUnder, IsPayload, MissingUnder, OpensUnder}
use Rattle.delete_spec.specs.UnderLaws.{leaf-missing-under, leaf-opens-under, leaf-under, root-leaf-under}
use Rattle.tree_walk.specs.declared.page.TreePage.{TreePage}
use Rattle.tree_walk.specs.Pages.{IsDecoded, view_of}
use Rattle.tree_walk.specs.Payloads.{part_at, IsPayload as HasPayload}
use Rattle.tree_walk.specs.Places.{rowids}
use Rattle.tree_walk.specs.Seeks.{IsIndexOf}
use Rattle.tree_level.specs.declared.cells.Change.{Change}
use Rattle.tree_level.specs.Changes.{HasSpelled, WritesChange, behind, bytes_changed, changed}
use Rattle.tree_level.specs.ChangesLaws.{changed-map, needs-changed_most, spelled-read}
use Rattle.tree_level.specs.Levels.{AreSpelled}
use Rattle.tree_table.specs.declared.taking.Taken.{Taken}
use Rattle.tree_table.specs.Deletes.{Opens, gone_of}
use Rattle.tree_table.specs.Puts.{HasRowidAt}
use Rattle.tree_table.proofs.Edits.{got-low, index-belongs, meets-got}
use Rattle.tree_table.proofs.Unders.{has-cells}

-- The cell at an index, and what stands in front of it and behind it.
pub record IsMiddle (cells : List Spelled) (at : ℕ) : Type 0 where
  pub cell : Spelled
  pub whole : cells ≡ take at cells ++ cell ∷ drop (suc at) cells
  pub here : (d : Spelled) → slice_index_or cells at d ≡ cell
  pub child : (right : ℕ) → child_page at cells right ≡ cell.view.child
  pub next : (right : ℕ) → child_page (suc at) cells right ≡ child_page (length (take at cells)) (take at cells ++ drop (suc at) cells) right
  pub many : length (take at cells) ≡ at

pub middle : (cells : List Spelled) (at : ℕ) → at < length cells → IsMiddle cells at
middle [] at low = absurd (omega arith)
middle (cell ∷ cells) zero low = record { cell = cell; whole = refl; here = λ d. refl; child = λ right. refl; next = λ right. refl; many = refl }
middle (cell ∷ cells) (suc at) low =
    let m = middle cells at (omega arith) in
    record { cell = m.cell; whole = ap (λ l. cell ∷ l) m.whole; here = m.here; child = m.child; next = m.next; many = ap suc m.many }

pub views-many : (usable : ℕ) (page : TreePage) (cells : List Spelled) → HasSpelled usable page cells → length page.views ≡ length cells
views-many usable page cells has = omega (arith, ap length has.views_are, length-of (λ (cell : Spelled). cell.view) cells)

-- what a page's view at an index says is what the cell there says
pub view-at : (usable : ℕ) (page : TreePage) (cells : List Spelled) (at : ℕ) (m : IsMiddle cells at) → HasSpelled usable page cells → (d : CellView) → slice_index_or page.views at d ≡ m.cell.view
view-at usable page cells at m has d =
    let e : Spelled = record { bytes = []; view = d } in
    ap (λ (l : List CellView). slice_index_or l at d) (sym has.views_are) ∙ index-map (λ (c : Spelled). c.view) cells at e ∙ ap (λ (c : Spelled). c.view) (m.here e)

-- how many cells there are once some go and others come
pub changed-many : {A : Type 0} (xs : List A) (at : ℕ) (goes : Bool) (ys : List A) → behind at goes ≤ length xs → length (changed xs at goes ys) + behind 0 goes ≡ length xs + length ys
changed-many xs at true ys low =
    omega (arith, length-append (take at xs) (ys ++ drop (suc at) xs), length-append ys (drop (suc at) xs), length-take-le at xs (omega (arith, low)), length-drop (suc at) xs, low)
changed-many xs at false ys low =
    omega (arith, length-append (take at xs) (ys ++ drop at xs), length-append ys (drop at xs), length-take-le at xs (omega (arith, low)), length-drop at xs, low)

pub none-long : {A : Type 0} (xs : List A) → length xs ≡ 0 → xs ≡ []
none-long [] none = refl
none-long (x ∷ xs) none = absurd (omega (arith, none))

-- a cell that goes, in place of one that may go
pub behind-goes : (at size : ℕ) (goes : Bool) → goes ≡ true → at < size → behind at goes ≤ size
behind-goes at size goes is low = subst⁻¹ (λ (g : Bool). behind at g ≤ size) is (omega (arith, low))

-- no cell comes
pub none-spelled : (kind : PageKind) (usable : ℕ) (cells : List Spelled) → AreSpelled kind usable cells [] → cells ≡ []
none-spelled kind usable cells are = none-map (λ (c : Spelled). c.bytes) cells are.bytes_are

pub spelled-none : (kind : PageKind) (usable : ℕ) → AreSpelled kind usable [] []
spelled-none kind usable = record { bytes_are = refl; are_cells = tt }

-- a page has room for its cells without one
pub room-without : (usable : ℕ) (page : TreePage) (change : Change) → IsUsable usable → (cells : List Spelled) → HasSpelled usable page cells
    → needs (bytes_changed cells change []) ≤ free_bytes page.number usable page.kind []
room-without usable page change fits cells has =
    omega (arith, needs-changed_most (bytes_in cells) change.at change.goes [], rooms-fit page.bytes page.number usable page.kind (bytes_in cells) page.right fits has.is_page)

row-there : (rowid : ℤ) (cells : List Spelled) (at : ℕ) (d : Spelled) → HasRowidAt rowid (slice_get (views_in cells) at) → (slice_index_or cells at d).view.rowid ≡ rowid
row-there rowid [] at d has = absurd has
row-there rowid (cell ∷ cells) zero d has = has
row-there rowid (cell ∷ cells) (suc at) d has = row-there rowid cells at d has

module _ (sizes : Sizes) (page : TreePage) (a : Paged) (there : a.pages page.number ≡ page.bytes) (decoded : IsDecoded page.bytes page.number sizes.usable page) (kind : page.kind ≡ TableLeaf) where
  abbrev leaf_cells : List Spelled
  leaf_cells = (spelled-read sizes.usable page decoded).0

  read : HasSpelled sizes.usable page leaf_cells
  read = (spelled-read sizes.usable page decoded).1

  leaf-has : (cells : List Spelled) → HasSpelled sizes.usable page cells → HasCells sizes a TableLeaf page.number cells page.right
  leaf-has cells has = has-cells sizes page a there decoded TableLeaf kind cells has

  no-right : (right : ℕ) → right_kept page.kind right ≡ 0
  no-right right = ap (λ (k : PageKind). right_kept k right) kind

  module _ (rowid : ℤ) where
    -- there is no row of the rowid
    pub none-found : (at : ℕ) → IsIndexOf rowid (rowids page.views) at → (HasRowidAt rowid (slice_get page.views at) → ⊥) → MissingUnder sizes page.number rowid a
    none-found at index none =
        leaf-missing-under sizes rowid page.number a leaf_cells page.right at (leaf-has leaf_cells read) (subst⁻¹ (Belongs rowid at) read.views_are (index-belongs rowid page.views at index))
        (λ meets. none (meets-got rowid page.views at (subst (Meets rowid at) read.views_are meets)))

    module _ (at : ℕ) (cells : List Spelled) (has : HasSpelled sizes.usable page cells) (m : IsMiddle cells at) (low : at < length cells) where
      -- the local part of a payload, by the page and by the cell
      cell-part : part_at (view_of page) at m.cell.view ≡ part_of m.cell.bytes m.cell.view.local_at m.cell.view.local
      cell-part =
          let view = m.cell.view in
          let start = cell_place page.bytes page.number page.kind at in
          let e : Spelled = record { bytes = []; view = view } in
          let place = has.is_page.each at (omega (arith, low, length-of (λ (c : Spelled). c.bytes) cells)) in
          let is : slice_index_or (bytes_in cells) at [] ≡ m.cell.bytes = index-map (λ (c : Spelled). c.bytes) cells at e ∙ ap (λ (c : Spelled). c.bytes) (m.here e) in
          let stands : part_of page.bytes start (length m.cell.bytes) ≡ m.cell.bytes = subst (λ (b : List ℕ). part_of page.bytes start (length b) ≡ b) is place.stands in
          let each = all-back (λ (c : Spelled). IsCell page.kind sizes.usable c.bytes c.view) (take at cells) (m.cell ∷ drop (suc at) cells)
          (subst (AllByRecursion (λ (c : Spelled). IsCell page.kind sizes.usable c.bytes c.view)) m.whole has.are_cells) in
          let is_cell : IsCell TableLeaf sizes.usable m.cell.bytes view = subst (λ (k : PageKind). IsCell k sizes.usable m.cell.bytes view) kind each.0 in
          let inside : view.local_at + view.local ≤ length m.cell.bytes = omega (arith, cell-parts sizes.usable m.cell.bytes view is_cell, is_cell.size) in
          sym (part_of-part_of page.bytes start (length m.cell.bytes) view.local_at view.local inside) ∙ ap (λ (b : List ℕ). part_of b view.local_at view.local) stands

      -- what was read of the cell is its payload, whichever pages its chain has
      payload-whole : (payload : List ℕ) → HasPayload a.pages sizes.size sizes.usable a.count (view_of page) at m.cell.view payload → IsPayload sizes a m.cell payload
      payload-whole payload (inl one) chain is_chain =
          let view = m.cell.view in
          one.1 ∙ cell-part ∙ sym (append-nil (part_of m.cell.bytes view.local_at view.local))
          ∙ ap (λ (n : ℕ). part_of m.cell.bytes view.local_at view.local ++ chain_bytes a.pages sizes.usable chain n) (sym one.0)
      payload-whole payload (inr two) chain is_chain =
          let view = m.cell.view in
          let same = same_chain a.pages sizes.size a.count sizes.usable view.overflow (view.payload - view.local) two.1.0 chain two.1.1 is_chain in
          two.2 ∙ (λ i. cell-part i ++ (two.1.2 ∙ ap (λ (ns : List ℕ). chain_bytes a.pages sizes.usable ns (view.payload - view.local)) same) i)

    -- there is one, and the leaf is to have its cells without that of the row
    pub row-opens : (row : Taken) (at right : ℕ) (view : CellView) → HasRowidAt rowid (slice_get page.views at) → ((d : CellView) → view ≡ slice_index_or page.views at d) → row.old.first ≡ view.overflow
        → row.old.bytes ≡ view.payload - view.local
        → ((d : CellView) → HasPayload a.pages sizes.size sizes.usable a.count (view_of page) at (slice_index_or page.views at d) row.payload)
        → Opens sizes rowid row page (record { at = at; goes = true; right = right }) [] a a
    row-opens row at right view got view_is first bytes payload cells comes has are =
        let low : at < length cells = omega (arith, got-low rowid page.views at got, views-many sizes.usable page cells has) in
        let m = middle cells at low in
        let same : slice_index_or page.views at view ≡ m.cell.view = view-at sizes.usable page cells at m has view in
        let is : view ≡ m.cell.view = view_is view ∙ same in
        let here : m.cell.view.rowid ≡ rowid =
        ap (λ (c : Spelled). c.view.rowid) (sym (m.here m.cell)) ∙ row-there rowid cells at m.cell (subst⁻¹ (λ (l : List CellView). HasRowidAt rowid (slice_get l at)) has.views_are got) in
        let whole = payload-whole at cells has m low row.payload
        (subst (λ (v : CellView). HasPayload a.pages sizes.size sizes.usable a.count (view_of page) at v row.payload) same (payload view)) in
        let opens = leaf-opens-under sizes (gone_of rowid row) row.old.first row.old.bytes page.number a cells page.right (take at cells) m.cell (drop (suc at) cells) (leaf-has cells has) m.whole (sym here) whole
        (first ∙ ap (λ (v : CellView). v.overflow) is) (bytes ∙ ap (λ (v : CellView). v.payload - v.local) is) in
        subst⁻¹ (λ (l : List Spelled). OpensUnder sizes (gone_of rowid row) page.number (changed cells at true l) (right_kept page.kind right) a a row.old.first row.old.bytes) (none-spelled page.kind sizes.usable comes are)
        (subst⁻¹ (λ (r : ℕ). OpensUnder sizes (gone_of rowid row) page.number (take at cells ++ drop (suc at) cells) r a a row.old.first row.old.bytes) (no-right right) opens)

    module _ (row : Taken) (change : Change) (goes : change.goes ≡ true) (low : change.at < length page.views) (opens : Opens sizes rowid row page change [] a a) where
      abbrev kept : List Spelled
      kept = changed leaf_cells change.at change.goes []

      opens-leaf : OpensUnder sizes (gone_of rowid row) page.number kept 0 a a row.old.first row.old.bytes
      opens-leaf =
          subst (λ (r : ℕ). OpensUnder sizes (gone_of rowid row) page.number kept r a a row.old.first row.old.bytes) (no-right change.right)
          (opens leaf_cells [] read (spelled-none page.kind sizes.usable))

      kept-many : length kept + 1 ≡ length page.views
      kept-many =
          let inside : change.at < length leaf_cells = omega (arith, low, views-many sizes.usable page leaf_cells read) in
          omega (arith, changed-many leaf_cells change.at change.goes [] (behind-goes change.at (length leaf_cells) change.goes goes inside), ap (behind 0) goes, views-many sizes.usable page leaf_cells read)

      -- it has no other cell
      pub leaf-emptied : length page.views ≡ 1 → EmptiesPage sizes (gone_of rowid row) TableLeaf page.number 0 a a row.old.first row.old.bytes
      leaf-emptied one = record {
        cells = leaf_cells;
        right = page.right;
        has = leaf-has leaf_cells read;
        empties = subst (λ (l : List Spelled). OpensUnder sizes (gone_of rowid row) page.number l 0 a a row.old.first row.old.bytes) (none-long kept (omega (arith, kept-many, one))) opens-leaf;
      }

      module _ (b : Paged) (writes : WritesChange sizes page change [] a b) where
        kept-page : IsPage (b.pages page.number) page.number sizes.usable TableLeaf (bytes_in kept) 0
        kept-page =
            subst (λ (r : ℕ). IsPage (b.pages page.number) page.number sizes.usable TableLeaf (bytes_in kept) r) (no-right change.right)
            (subst (λ (k : PageKind). IsPage (b.pages page.number) page.number sizes.usable k (bytes_in kept) (right_kept page.kind change.right)) kind
            (subst⁻¹ (λ (l : List (List ℕ)). IsPage (b.pages page.number) page.number sizes.usable page.kind l (right_kept page.kind change.right))
            (changed-map (λ (c : Spelled). c.bytes) leaf_cells change.at change.goes []) (writes leaf_cells read).is_page))

        -- it is written
        pub leaf-shrunk : length page.views ≢ 1 → (up : List Spelled) → AreSpelled TableInterior sizes.usable up [] → GrowsUnder sizes (gone_of rowid row) page.number a b up row.old.first row.old.bytes
        leaf-shrunk more up are =
            subst⁻¹ (λ (l : List Spelled). GrowsUnder sizes (gone_of rowid row) page.number a b l row.old.first row.old.bytes) (none-spelled TableInterior sizes.usable up are)
            (leaf-under sizes (gone_of rowid row) row.old.first row.old.bytes page.number a leaf_cells page.right kept b (leaf-has leaf_cells read) opens-leaf some (writes leaf_cells read).writes kept-page)
          where
            some : 0 < length kept
            some = elim (cases_lt 0 (length kept)) [
              | inl more_than ↦ more_than
              | inr none ↦ absurd (more (omega (arith, kept-many, none)))
            ]

        -- it is a root
        pub leaf-deleted : DeleteInto sizes (gone_of rowid row) page.number a b row.old.first row.old.bytes
        leaf-deleted =
            root-leaf-under sizes (gone_of rowid row) row.old.first row.old.bytes page.number a leaf_cells page.right kept b (leaf-has leaf_cells read) opens-leaf (writes leaf_cells read).writes kept-page
