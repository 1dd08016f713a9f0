-- What a page tells of the tree that stands there, and its cells in parts.
use Rattle.std.proofs.Common.{◌≡◌, ℕ, zero, suc, ◌-◌, List, [], ◌∷◌, ◌++◌, map, refl, sym, ap, ◌∙◌, subst, arith}
use Rattle.std.proofs.Math.Path.{subst⁻¹}
use Rattle.std.specs.List.{AllByRecursion}
use Rattle.byte_fields.specs.Bytes.{part_of}
use Rattle.format_spec.specs.declared.PageKind.{PageKind}
use Rattle.format_spec.specs.Cell.{IsCell}
use Rattle.format_spec.specs.Page.{IsPage}
use Rattle.cell_codec.specs.CellLaws.{cell-same}
use Rattle.page_spec.specs.Chains.{IsChain, chain_bytes}
use Rattle.tree_spec.specs.declared.TreeKind.{TreeKind}
use Rattle.tree_spec.specs.declared.TreeKind.TheVariants.{Table, Index}
use Rattle.page_spec.specs.CountsLaws.{hit-itself}
use Rattle.tree_spec.specs.Trees.{TreeCell, TreeOf, between, leaf_kind, interior_kind, kind_at, page_of, own_cells, own_right, cells_behind}
use Rattle.tree_spec.specs.Standing.{Sizes, Paged, IsHeld, HasBelow, Stands, StandsBefore}
use Rattle.tree_spec.specs.StandingLaws.{divider-held}
use Rattle.tree_spec.specs.PagesLaws.{page-same}
use Rattle.tree_spec.specs.WorldsLaws.{all-back}
use Rattle.tree_spec.specs.Changes.{Writes}
use Rattle.tree_spec.specs.ChangesLaws.{free-within, Turns-then, Turns-write, Turns-within}
use Rattle.put_spec.specs.ImagesLaws.{split-map, first-map, none-map, map-map}
use Rattle.put_spec.specs.Children.{views_of}
use Rattle.put_spec.specs.Puts.{IsCut}
use Rattle.put_spec.specs.Steps.{Spelled, spelled, bytes_in, views_in, HasCells, IsRaised, AreParts, Took}

-- Lists of cells.

pub bytes-of : (cells : List TreeCell) → bytes_in (map spelled cells) ≡ map (λ (cell : TreeCell). cell.bytes) cells
bytes-of cells = map-map (λ (cell : Spelled). cell.bytes) spelled cells

pub views-of : (cells : List TreeCell) → views_in (map spelled cells) ≡ views_of cells
views-of cells = map-map (λ (cell : Spelled). cell.view) spelled cells

-- What a page tells.

module _ (sizes : Sizes) (page_kind : PageKind) where
  same-spelled : (a b : Spelled) → a.bytes ≡ b.bytes → IsCell page_kind sizes.usable a.bytes a.view → IsCell page_kind sizes.usable b.bytes b.view → a ≡ b
  same-spelled a b bytes one two =
      let view : a.view ≡ b.view = (cell-same page_kind sizes.usable a.bytes b.bytes [] [] a.view b.view one two (ap (λ (x : List ℕ). x ++ []) bytes)).1 in
      λ i. record { bytes = bytes i; view = view i }

  cells-same : (xs ys : List Spelled) → bytes_in xs ≡ bytes_in ys → AllByRecursion (λ cell. IsCell page_kind sizes.usable cell.bytes cell.view) xs
      → AllByRecursion (λ cell. IsCell page_kind sizes.usable cell.bytes cell.view) ys → xs ≡ ys
  cells-same [] [] bytes one two = refl
  cells-same [] (y ∷ ys) bytes one two = absurd (let h : ⊥ = cc in h)
  cells-same (x ∷ xs) [] bytes one two = absurd (let h : ⊥ = cc in h)
  cells-same (x ∷ xs) (y ∷ ys) bytes one two =
      let first : x.bytes ≡ y.bytes = cc in
      let after : bytes_in xs ≡ bytes_in ys = cc in
      let cell = same-spelled x y first one.0 two.0 in
      let cells = cells-same xs ys after one.1 two.1 in
      λ i. cell i ∷ cells i

  held-cells : (base : Paged) (cells : List TreeCell) → AllByRecursion (IsHeld sizes base page_kind) cells → AllByRecursion (λ cell. IsCell page_kind sizes.usable cell.bytes cell.view) (map spelled cells)
  held-cells base [] held = tt
  held-cells base (cell ∷ cells) held = (held.0.is_cell, held-cells base cells held.1)

behind-cells : (sizes : Sizes) (base : Paged) (kind : TreeKind) (levels : ℕ) (children : List (TreeOf levels × TreeCell)) → AllByRecursion (StandsBefore sizes base kind levels) children
    → AllByRecursion (λ cell. IsCell (interior_kind kind) sizes.usable cell.bytes cell.view) (map spelled (cells_behind children))
behind-cells sizes base kind levels [] stand = tt
behind-cells sizes base kind levels (child ∷ children) stand = (stand.0.0.held.is_cell, behind-cells sizes base kind levels children stand.1)

own-cells : (sizes : Sizes) (base : Paged) (kind : TreeKind) (levels : ℕ) (tree : TreeOf levels) → HasBelow sizes base kind levels tree
    → AllByRecursion (λ cell. IsCell (kind_at kind levels) sizes.usable cell.bytes cell.view) (map spelled (own_cells levels tree))
own-cells sizes base kind zero tree below = held-cells sizes (leaf_kind kind) base tree.cells below
own-cells sizes base kind (suc levels) tree below = behind-cells sizes base kind levels tree.children below.0

-- A page that has these cells is that of the tree that stands there: its own cells are these.
pub page-tells : (sizes : Sizes) (base : Paged) (kind : TreeKind) (levels page : ℕ) (tree : TreeOf levels) (cells : List Spelled) (right : ℕ) → page_of levels tree ≡ page
    → HasCells sizes base (kind_at kind levels) page cells right → Stands sizes base kind levels tree → (cells ≡ map spelled (own_cells levels tree)) × (right ≡ own_right levels tree)
page-tells sizes base kind levels page tree cells right is has stands =
    let own = map (λ (cell : TreeCell). cell.bytes) (own_cells levels tree) in
    let there = subst (λ (p : ℕ). IsPage (base.pages p) p sizes.usable (kind_at kind levels) own (own_right levels tree)) is stands.0 in
    let same = page-same (base.pages page) page sizes.usable (kind_at kind levels) (bytes_in cells) own right (own_right levels tree) has.is_page there in
    (cells-same sizes (kind_at kind levels) cells (map spelled (own_cells levels tree)) (same.0 ∙ sym (bytes-of (own_cells levels tree))) has.are_cells (own-cells sizes base kind levels tree stands.1), same.1)

-- a page that was taken may be written
pub took-written : (sizes : Sizes) (fresh : ℕ) (old between new : Paged) → Took sizes fresh old between → Writes fresh between new → Took sizes fresh old new
took-written sizes fresh old between new took writes trunks free =
    let t = took trunks free in
    let within = free-within sizes old trunks free in
    let later = Turns-within sizes old between [] (fresh ∷ []) trunks t.0 within t.1 in
    (t.0, Turns-then sizes old between new [] (fresh ∷ []) (fresh ∷ []) trunks t.0 t.0 within t.1 (Turns-write sizes between new fresh (fresh ∷ []) t.0 later (omega (arith, hit-itself fresh)) writes))

-- Cells in parts are a tree in parts.

pub record IsLifted (sizes : Sizes) (base : Paged) (levels : ℕ) (kind : TreeKind) (tree : TreeOf levels) (divider : Spelled) (front : List Spelled) (right : ℕ) (back : List Spelled) : Type 0 where
  pub left : TreeOf levels
  pub cell : TreeCell
  pub rest : TreeOf levels
  pub cut : IsCut levels kind tree left cell rest
  pub page : page_of levels left ≡ divider.view.child
  pub cell_is : spelled cell ≡ divider
  pub held : IsHeld sizes base (interior_kind kind) cell
  pub left_cells : front ≡ map spelled (own_cells levels left)
  pub left_right : right ≡ own_right levels left
  pub rest_cells : back ≡ map spelled (own_cells levels rest)
  pub rest_right : own_right levels tree ≡ own_right levels rest

-- a cell that goes up keeps its payload and its chain
raised-held : (sizes : Sizes) (base : Paged) (page_kind : PageKind) (kind : TreeKind) (divider : Spelled) (middle : TreeCell) → IsRaised divider (spelled middle)
    → IsCell (interior_kind kind) sizes.usable divider.bytes divider.view → IsHeld sizes base page_kind middle
    → IsHeld sizes base (interior_kind kind) (record { bytes = divider.bytes; view = divider.view; payload = middle.payload; chain = middle.chain })
raised-held sizes base page_kind kind divider middle raised is held =
    let rest : middle.view.payload - middle.view.local ≡ divider.view.payload - divider.view.local = λ i. sym raised.payload i - sym raised.local i in
    record {
      is_cell = is;
      is_chain = subst⁻¹ (λ (n : ℕ). IsChain base.pages sizes.size sizes.usable base.count n (divider.view.payload - divider.view.local) middle.chain) raised.overflow
          (subst (λ (n : ℕ). IsChain base.pages sizes.size sizes.usable base.count middle.view.overflow n middle.chain) rest held.is_chain);
      whole = held.whole
          ∙ ap (λ (bytes : List ℕ). bytes ++ chain_bytes base.pages sizes.usable middle.chain (middle.view.payload - middle.view.local)) (sym raised.same_bytes)
          ∙ ap (λ (n : ℕ). part_of divider.bytes divider.view.local_at divider.view.local ++ chain_bytes base.pages sizes.usable middle.chain n) rest;
    }

all-first : {A : Type 0} (P : A → Type 0) (xs front back after : List A) (first : A) → AllByRecursion P xs → xs ≡ front ++ back → back ≡ first ∷ after → P first
all-first P xs front back after first all whole is =
    (all-back P front (first ∷ after) (subst (AllByRecursion P) (whole ∙ ap (λ l. front ++ l) is) all)).0

pub lifted : (sizes : Sizes) (base : Paged) (levels : ℕ) (kind : TreeKind) (tree : TreeOf levels) (divider : Spelled) (front : List Spelled) (right : ℕ) (back : List Spelled)
    → HasBelow sizes base kind levels tree → AreParts levels kind (map spelled (own_cells levels tree)) divider front right back
    → IsCell (interior_kind kind) sizes.usable divider.bytes divider.view → IsLifted sizes base levels kind tree divider front right back
lifted sizes base zero Table tree divider front right back below parts is =
    let s = split-map spelled tree.cells front back parts.whole in
    let u = split-map spelled s.front parts.start (parts.end ∷ []) (s.one ∙ parts.ends) in
    let h = first-map spelled u.back parts.end [] u.two in
    let none = none-map spelled h.after h.rest in
    let ends : s.front ≡ u.front ++ h.first ∷ [] = u.whole ∙ ap (λ l. u.front ++ l) (h.whole ∙ ap (λ l. h.first ∷ l) none) in
    record {
      left = record { page = divider.view.child; cells = s.front };
      cell = record { bytes = divider.bytes; view = divider.view; payload = []; chain = [] };
      rest = record { page = tree.page; cells = s.back };
      cut = record {
        front = u.front;
        end = h.first;
        cells = s.whole;
        ends = ends;
        page = refl;
        rowid = parts.rowid ∙ sym (ap (λ (c : Spelled). c.view.rowid) h.one);
        payload = refl;
        chain = refl;
      };
      page = refl;
      cell_is = refl;
      held = divider-held sizes base divider.bytes divider.view is;
      left_cells = sym s.one;
      left_right = parts.no_right;
      rest_cells = sym s.two;
      rest_right = refl;
    }
lifted sizes base zero Index tree divider front right back below parts is =
    let s = split-map spelled tree.cells front (parts.middle ∷ back) parts.whole in
    let h = first-map spelled s.back parts.middle back s.two in
    let raised = subst⁻¹ (IsRaised divider) h.one parts.raised in
    let held = all-first (IsHeld sizes base (leaf_kind Index)) tree.cells s.front s.back h.after h.first below s.whole h.whole in
    record {
      left = record { page = divider.view.child; cells = s.front };
      cell = record { bytes = divider.bytes; view = divider.view; payload = h.first.payload; chain = h.first.chain };
      rest = record { page = tree.page; cells = h.after };
      cut = record { middle = h.first; cells = s.whole ∙ ap (λ l. s.front ++ l) h.whole; page = refl; rowid = raised.rowid; payload = refl; chain = refl };
      page = refl;
      cell_is = refl;
      held = raised-held sizes base (leaf_kind Index) Index divider h.first raised is held;
      left_cells = sym s.one;
      left_right = parts.no_right;
      rest_cells = sym h.rest;
      rest_right = refl;
    }
lifted sizes base (suc levels) kind tree divider front right back below parts is =
    let f : TreeOf levels × TreeCell → Spelled = λ child. spelled child.1 in
    let s = split-map f tree.children front (parts.middle ∷ back) (sym (map-map spelled (λ (child : TreeOf levels × TreeCell). child.1) tree.children) ∙ parts.whole) in
    let h = first-map f s.back parts.middle back s.two in
    let raised = subst⁻¹ (IsRaised divider) h.one parts.raised in
    let stands = all-first (StandsBefore sizes base kind levels) tree.children s.front s.back h.after h.first below.0 s.whole h.whole in
    record {
      left = record { page = divider.view.child; children = s.front; last = h.first.0 };
      cell = record { bytes = divider.bytes; view = divider.view; payload = h.first.1.payload; chain = h.first.1.chain };
      rest = record { page = tree.page; children = h.after; last = tree.last };
      cut = record { middle = h.first.1; children = s.whole ∙ ap (λ l. s.front ++ l) h.whole; last = refl; page = refl; rowid = raised.rowid; payload = refl; chain = refl };
      page = refl;
      cell_is = refl;
      held = raised-held sizes base (interior_kind kind) kind divider h.first.1 raised is stands.0.held;
      left_cells = sym (map-map spelled (λ (child : TreeOf levels × TreeCell). child.1) s.front ∙ s.one);
      left_right = parts.right_is ∙ sym (ap (λ (c : Spelled). c.view.child) h.one) ∙ stands.0.names;
      rest_cells = sym (map-map spelled (λ (child : TreeOf levels × TreeCell). child.1) h.after ∙ h.rest);
      rest_right = refl;
    }
