-- Trees of an index in parts, in another page, and beside one another: crates above cite these facts in their proofs.
use Rattle.std.proofs.Common.{◌≡◌, ◌⊎◌, ℕ, zero, suc, ◌+◌, ◌-◌, ◌<◌, ◌≤◌, List, [], ◌∷◌, ◌++◌, length, map, drop, refl, sym, ap, ◌∙◌, subst, inl, inr, arith, append_assoc}
use Rattle.std.proofs.Math.Path.{subst⁻¹}
use Rattle.std.specs.List.{flat_map, AllByRecursion}
use Rattle.std.proofs.lemmas.List.{map-append}
use Rattle.byte_fields.specs.Bytes.{part_of}
use Rattle.format_spec.specs.declared.PageKind.{PageKind}
use Rattle.format_spec.specs.Cell.{IsCell}
use Rattle.format_spec.specs.Page.{header_place}
use Rattle.page_spec.specs.Chains.{IsChain, chain_bytes}
use Rattle.page_spec.specs.Counts.{hit, times}
use Rattle.page_spec.specs.CountsLaws.{times-append, hit-itself}
use Rattle.page_spec.specs.Freelists.{Trunk, free_pages}
use Rattle.page_spec.specs.FreePagesLaws.{due-most}
use Rattle.tree_spec.specs.declared.TreeKind.TheVariants.{Index}
use Rattle.tree_spec.specs.Trees.{TreeCell, TreeOf, Member, leaf_kind, interior_kind, page_of, own_cells, own_right, chain_pages, pages_of, pages_below, pages_beside, member, between, list_of, list_beside, IsFull, IsFullBelow}
use Rattle.tree_spec.specs.Standing.{Sizes, Paged, SamePage, Keeps, IsNumber, IsHeld, IsBehind, HasBelow, StandsBefore, StandsLast}
use Rattle.tree_spec.specs.StandingLaws.{behind-kept, Stands-kept}
use Rattle.tree_spec.specs.WorldsLaws.{all-front, all-back, all-join}
use Rattle.tree_spec.specs.Changes.{Within, Turns, Writes}
use Rattle.tree_spec.specs.ChangesLaws.{Turns-then, Turns-wide, Turns-within, Turns-keeps}
use Rattle.put_spec.specs.Children.{child_at, children_with, last_with}
use Rattle.put_spec.specs.ChildrenLaws.{beside-first, beside-join, beside-kept, list-join}
use Rattle.put_spec.specs.Puts.{moved, IsCut}
use Rattle.put_spec.specs.Steps.{Spelled, spelled, IsRaised, AreParts}
use Rattle.delete_spec.specs.NeighboursLaws.{group-count}
use Rattle.delete_spec.specs.StepsLaws.{around-map, spelled-children}

-- Lists of cells.

-- how often a page stands in the chains of cells of which one is out
pub chains-without : (n : ℕ) (front : List TreeCell) (cell : TreeCell) (back : List TreeCell)
    → times n (chain_pages (front ++ cell ∷ back)) ≡ times n (chain_pages (front ++ back)) + times n cell.chain
chains-without n [] cell back = omega (arith, times-append n cell.chain (chain_pages back))
chains-without n (x ∷ xs) cell back =
    omega (arith, chains-without n xs cell back, times-append n x.chain (chain_pages (xs ++ cell ∷ back)), times-append n x.chain (chain_pages (xs ++ back)))

-- Trees that are cut.

pub cut-page : (levels : ℕ) (whole left : TreeOf levels) (divider : TreeCell) (right : TreeOf levels) → IsCut levels Index whole left divider right → page_of levels right ≡ page_of levels whole
cut-page zero whole left divider right cut = cut.page
cut-page (suc levels) whole left divider right cut = cut.page

same-member : (a b : TreeCell) → a.view.rowid ≡ b.view.rowid → a.payload ≡ b.payload → member a ≡ member b
same-member a b rowid payload = λ i. record { rowid = rowid i; payload = payload i }

-- the list of a tree that is cut is that of its parts, with the entry between them
pub cut-list : (levels : ℕ) (whole left : TreeOf levels) (divider : TreeCell) (right : TreeOf levels) → IsCut levels Index whole left divider right
    → list_of Index levels whole ≡ list_of Index levels left ++ member divider ∷ list_of Index levels right
cut-list zero whole left divider right cut =
    ap (map member) cut.cells ∙ map-append member left.cells (cut.middle ∷ right.cells)
    ∙ ap (λ (m : Member). map member left.cells ++ m ∷ map member right.cells) (sym (same-member divider cut.middle cut.rowid cut.payload))
cut-list (suc levels) whole left divider right cut =
    ap (λ (xs : List (TreeOf levels × TreeCell)). list_beside Index levels xs whole.last) cut.children
    ∙ ap (λ (l : TreeOf levels). list_beside Index levels (left.children ++ (left.last, cut.middle) ∷ right.children) l) cut.last
    ∙ list-join Index levels left.children right.children left.last right.last cut.middle
    ∙ ap (λ (m : Member). list_beside Index levels left.children left.last ++ m ∷ list_beside Index levels right.children right.last) (sym (same-member divider cut.middle cut.rowid cut.payload))

pub siblings-list : (levels : ℕ) (siblings : List (TreeOf levels × TreeCell)) (whole left : TreeOf levels) (divider : TreeCell) (right : TreeOf levels) → IsCut levels Index whole left divider right
    → list_beside Index levels siblings whole ≡ list_beside Index levels (siblings ++ (left, divider) ∷ []) right
siblings-list levels siblings whole left divider right cut =
    let front = flat_map (λ (child : TreeOf levels × TreeCell). list_of Index levels child.0 ++ between Index child.1) siblings in
    ap (λ (l : List Member). front ++ l) (cut-list levels whole left divider right cut)
    ∙ sym (append_assoc front (list_of Index levels left) (member divider ∷ list_of Index levels right))
    ∙ sym (list-join Index levels siblings [] left right divider)

pub cut-full : (levels : ℕ) (whole left : TreeOf levels) (divider : TreeCell) (right : TreeOf levels) → IsCut levels Index whole left divider right → IsFullBelow levels whole → IsFullBelow levels left × IsFullBelow levels right
cut-full zero whole left divider right cut full = (tt, tt)
cut-full (suc levels) whole left divider right cut full =
    let is = λ (child : TreeOf levels × TreeCell). IsFull levels child.0 in
    let all = subst (AllByRecursion (λ (child : TreeOf levels × TreeCell). IsFull levels child.0)) cut.children full.0 in
    let back = all-back (λ (child : TreeOf levels × TreeCell). IsFull levels child.0) left.children ((left.last, cut.middle) ∷ right.children) all in
    ((all-front (λ (child : TreeOf levels × TreeCell). IsFull levels child.0) left.children ((left.last, cut.middle) ∷ right.children) all, back.0), (back.1, subst (IsFull levels) cut.last full.1))

-- Trees in another page.

pub moved-rest : (levels fresh : ℕ) (tree : TreeOf levels) → pages_below levels (moved levels fresh tree) ≡ pages_below levels tree
moved-rest zero fresh tree = refl
moved-rest (suc levels) fresh tree = refl

pub moved-list : (levels fresh : ℕ) (tree : TreeOf levels) → list_of Index levels (moved levels fresh tree) ≡ list_of Index levels tree
moved-list zero fresh tree = refl
moved-list (suc levels) fresh tree = refl

pub moved-full : (levels fresh : ℕ) (tree : TreeOf levels) → IsFullBelow levels tree → IsFullBelow levels (moved levels fresh tree)
moved-full zero fresh tree full = full
moved-full (suc levels) fresh tree full = full

pub moved-some : (levels fresh : ℕ) (tree : TreeOf levels) → 0 < length (own_cells levels tree) → 0 < length (own_cells levels (moved levels fresh tree))
moved-some zero fresh tree some = some
moved-some (suc levels) fresh tree some = some

-- Neighbours.

pub pair-count : (n levels : ℕ) (left : TreeOf levels) (divider : TreeCell) (right : TreeOf levels)
    → times n (pages_beside levels ((left, divider) ∷ []) right) ≡ times n (pages_of levels left) + times n divider.chain + times n (pages_of levels right)
pair-count n levels left divider right = beside-first n levels (left, divider) [] right

module _ (sizes : Sizes) where
  pub moved-below : (base : Paged) (levels fresh : ℕ) (tree : TreeOf levels) → HasBelow sizes base Index levels tree → HasBelow sizes base Index levels (moved levels fresh tree)
  moved-below base zero fresh tree below = below
  moved-below base (suc levels) fresh tree below = below

  pub cut-below : (base : Paged) (levels : ℕ) (whole left : TreeOf levels) (divider : TreeCell) (right : TreeOf levels) → IsCut levels Index whole left divider right
      → HasBelow sizes base Index levels whole → HasBelow sizes base Index levels left × HasBelow sizes base Index levels right
  cut-below base zero whole left divider right cut below =
      let held = IsHeld sizes base (leaf_kind Index) in
      let all = subst (AllByRecursion held) cut.cells below in
      (all-front held left.cells (cut.middle ∷ right.cells) all, (all-back held left.cells (cut.middle ∷ right.cells) all).1)
  cut-below base (suc levels) whole left divider right cut below =
      let stands = StandsBefore sizes base Index levels in
      let all = subst (AllByRecursion stands) cut.children below.0 in
      let back = all-back stands left.children ((left.last, cut.middle) ∷ right.children) all in (
        (all-front stands left.children ((left.last, cut.middle) ∷ right.children) all, (back.0.0.in_range, back.0.1)),
        (back.1, subst (StandsLast sizes base Index levels) cut.last below.1),
      )

  -- a cell that goes up or comes down keeps its payload and its chain
  pub raised-held : (base : Paged) (page_kind other_kind : PageKind) (divider : Spelled) (middle : TreeCell) → IsRaised divider (spelled middle)
      → IsCell other_kind sizes.usable divider.bytes divider.view → IsHeld sizes base page_kind middle
      → IsHeld sizes base other_kind (record { bytes = divider.bytes; view = divider.view; payload = middle.payload; chain = middle.chain })
  raised-held base page_kind other_kind divider middle raised is held =
      let rest : middle.view.payload - middle.view.local ≡ divider.view.payload - divider.view.local = λ i. sym raised.payload i - sym raised.local i in
      record {
        is_cell = is;
        is_chain = subst⁻¹ (λ (n : ℕ). IsChain base.pages sizes.size sizes.usable base.count n (divider.view.payload - divider.view.local) middle.chain) raised.overflow
            (subst (λ (n : ℕ). IsChain base.pages sizes.size sizes.usable base.count middle.view.overflow n middle.chain) rest held.is_chain);
        whole = held.whole
            ∙ ap (λ (bytes : List ℕ). bytes ++ chain_bytes base.pages sizes.usable middle.chain (middle.view.payload - middle.view.local)) (sym raised.same_bytes)
            ∙ ap (λ (n : ℕ). part_of divider.bytes divider.view.local_at divider.view.local ++ chain_bytes base.pages sizes.usable middle.chain n) rest;
      }

  -- Cells in parts are a tree in parts.
  pub record IsLifted (base : Paged) (levels : ℕ) (tree : TreeOf levels) (divider : Spelled) (front : List Spelled) (right : ℕ) (back : List Spelled) : Type 0 where
    pub left : TreeOf levels
    pub cell : TreeCell
    pub rest : TreeOf levels
    pub cut : IsCut levels Index tree left cell rest
    pub page : page_of levels left ≡ divider.view.child
    pub cell_is : spelled cell ≡ divider
    pub held : IsHeld sizes base (interior_kind Index) cell
    pub left_cells : front ≡ map spelled (own_cells levels left)
    pub left_right : right ≡ own_right levels left
    pub rest_cells : back ≡ map spelled (own_cells levels rest)
    pub rest_right : own_right levels tree ≡ own_right levels rest

  pub lifted : (base : Paged) (levels : ℕ) (tree : TreeOf levels) (divider : Spelled) (front : List Spelled) (right : ℕ) (back : List Spelled) → HasBelow sizes base Index levels tree
      → AreParts levels Index (map spelled (own_cells levels tree)) divider front right back → IsCell (interior_kind Index) sizes.usable divider.bytes divider.view → IsLifted base levels tree divider front right back
  lifted base zero tree divider front right back below parts is =
      let a = around-map spelled tree.cells front parts.middle back parts.whole in
      let held = IsHeld sizes base (leaf_kind Index) in
      let raised = subst⁻¹ (IsRaised divider) a.here parts.raised in
      let here = (all-back held a.before (a.item ∷ a.after) (subst (AllByRecursion held) a.whole below)).0 in
      record {
        left = record { page = divider.view.child; cells = a.before };
        cell = record { bytes = divider.bytes; view = divider.view; payload = a.item.payload; chain = a.item.chain };
        rest = record { page = tree.page; cells = a.after };
        cut = record { middle = a.item; cells = a.whole; page = refl; rowid = raised.rowid; payload = refl; chain = refl };
        page = refl;
        cell_is = refl;
        held = raised-held base (leaf_kind Index) (interior_kind Index) divider a.item raised is here;
        left_cells = sym a.in_front;
        left_right = parts.no_right;
        rest_cells = sym a.behind;
        rest_right = refl;
      }
  lifted base (suc levels) tree divider front right back below parts is =
      let f : TreeOf levels × TreeCell → Spelled = λ child. spelled child.1 in
      let a = around-map f tree.children front parts.middle back (sym (spelled-children tree.children) ∙ parts.whole) in
      let stands = StandsBefore sizes base Index levels in
      let raised = subst⁻¹ (IsRaised divider) a.here parts.raised in
      let here = (all-back stands a.before (a.item ∷ a.after) (subst (AllByRecursion stands) a.whole below.0)).0 in
      record {
        left = record { page = divider.view.child; children = a.before; last = a.item.0 };
        cell = record { bytes = divider.bytes; view = divider.view; payload = a.item.1.payload; chain = a.item.1.chain };
        rest = record { page = tree.page; children = a.after; last = tree.last };
        cut = record { middle = a.item.1; children = a.whole; last = refl; page = refl; rowid = raised.rowid; payload = refl; chain = refl };
        page = refl;
        cell_is = refl;
        held = raised-held base (interior_kind Index) (interior_kind Index) divider a.item.1 raised is here.0.held;
        left_cells = sym (spelled-children a.before ∙ a.in_front);
        left_right = parts.right_is ∙ sym (ap (λ (c : Spelled). c.view.child) a.here) ∙ here.0.names;
        rest_cells = sym (spelled-children a.after ∙ a.behind);
        rest_right = refl;
      }

  -- Pages in hand.

  -- after a change, a page that is left over is given back
  pub turns-given : (a b c : Paged) (x y z : List ℕ) (p q r : List Trunk) (page : ℕ) → Within sizes a x p → Turns sizes a x p b y q → ((n : ℕ) → times n y ≡ hit page n + times n z)
      → Turns sizes b (page ∷ []) q c [] r → Turns sizes a x p c z r
  turns-given a b c x y z p q r page within t parts given =
      Turns-then sizes a b c x y z p q r within t (Turns-wide sizes b c (page ∷ []) [] y z q r (λ n. times n z) (λ n. omega (arith, parts n)) (λ n. omega arith) given)

  -- what is in hand beside that page is kept
  pub keeps-given : (b c : Paged) (y z : List ℕ) (q r : List Trunk) (page : ℕ) → Within sizes b y q → ((n : ℕ) → hit page n + times n z ≤ times n y) → Turns sizes b (page ∷ []) q c [] r → Keeps z b c
  keeps-given b c y z q r page within parts given = Turns-keeps sizes b c (page ∷ []) [] q r z (λ n. omega (arith, within n, parts n)) given

  -- pages in hand beside one that is written are kept
  pub kept-beside : (old new : Paged) (page : ℕ) (hand others : List ℕ) (trunks : List Trunk) → Within sizes old hand trunks → Writes page old new → ((n : ℕ) → hit page n + times n others ≤ times n hand) → Keeps others old new
  kept-beside old new page hand others trunks within writes fewer = record {
    same = λ n some. ap (drop (header_place n)) (writes.others n (λ is. omega (arith, fewer n, within n, due-most sizes.size old.count n, ap (λ (m : ℕ). hit page m) is, hit-itself page)));
    grows = omega (arith, writes.count);
  }

  -- a page in hand is not free
  pub not-free : (old mid : Paged) (x y : List ℕ) (p q : List Trunk) (page : ℕ) → Within sizes old x p → Turns sizes old x p mid y q → 0 < times page y → times page (free_pages q) ≡ 0
  not-free old mid x y p q page within t some = omega (arith, Turns-within sizes old mid x y p q within t page, due-most sizes.size mid.count page)

  -- Children.

  pub child-number : (base : Paged) (levels i : ℕ) (children : List (TreeOf levels × TreeCell)) (last : TreeOf levels) → AllByRecursion (StandsBefore sizes base Index levels) children
      → StandsLast sizes base Index levels last → IsNumber sizes base (page_of levels (child_at i children last))
  child-number base levels i [] last all end = end.0
  child-number base levels zero (child ∷ children) last all end = all.0.0.in_range
  child-number base levels (suc i) (child ∷ children) last all end = child-number base levels i children last all.1 end

module _ (sizes : Sizes) (old new : Paged) (levels : ℕ) where
  -- One group of neighbours has become another, and all pages outside it stay. Its last tree has the page that it had, or stands at the end.
  pub group-stands : (i : ℕ) (children siblings : List (TreeOf levels × TreeCell)) (last home : TreeOf levels) (others : List (TreeOf levels × TreeCell)) (other : TreeOf levels) → old.count ≤ new.count
      → ((n : ℕ) → times n (pages_beside levels siblings home) < times n (pages_beside levels (children_with i children siblings home) (last_with i children last home)) → SamePage n (old.pages n) (new.pages n))
      → AllByRecursion (StandsBefore sizes old Index levels) (children_with i children siblings home) → StandsLast sizes old Index levels (last_with i children last home)
      → AllByRecursion (StandsBefore sizes new Index levels) others → StandsLast sizes new Index levels other → (page_of levels other ≡ page_of levels home) ⊎ (length children ≤ i)
      → AllByRecursion (StandsBefore sizes new Index levels) (children_with i children others other) × StandsLast sizes new Index levels (last_with i children last other)
  group-stands i [] siblings last home others other grows same all end new_all new_end place = (new_all, new_end)
  group-stands zero (child ∷ children) siblings last home others other grows same all end new_all new_end place =
      let stands = StandsBefore sizes old Index levels in
      let back = all-back stands siblings ((home, child.1) ∷ children) all in
      let count = λ (n : ℕ). beside-join n levels siblings children home last child.1 in
      let rest = beside-kept sizes Index old new levels children last (record { same = λ n some. same n (omega (arith, count n)); grows = grows }) back.1 end in
      let cell = behind-kept sizes old new (interior_kind Index) child.1 (page_of levels home) (record { same = λ n some. same n (omega (arith, count n)); grows = grows }) back.0.0 in
      (all-join (StandsBefore sizes new Index levels) others ((other, child.1) ∷ children) new_all ((at place cell, new_end.1), rest.0), rest.1)
    where
      at : (page_of levels other ≡ page_of levels home) ⊎ (length (child ∷ children) ≤ zero) → IsBehind sizes new (interior_kind Index) child.1 (page_of levels home)
          → IsBehind sizes new (interior_kind Index) child.1 (page_of levels other)
      at (inl page) cell = subst⁻¹ (IsBehind sizes new (interior_kind Index) child.1) page cell
      at (inr none) cell = absurd (omega arith)
  group-stands (suc i) (child ∷ children) siblings last home others other grows same all end new_all new_end place =
      let count = λ (n : ℕ). beside-first n levels child (children_with i children siblings home) (last_with i children last home) in
      let within = λ (n : ℕ). (group-count n levels i children last siblings home siblings home).0 in
      let rest = group-stands i children siblings last home others other grows (λ n less. same n (omega (arith, count n))) all.1 end new_all new_end (place_in place) in
      let kept = λ (numbers : List ℕ) (fewer : (n : ℕ) → times n numbers ≤ times n (pages_of levels child.0) + times n child.1.chain).
      let keeps : Keeps numbers old new = record { same = λ n some. same n (omega (arith, count n, within n, fewer n)); grows = grows } in keeps in (
        (
          (
            behind-kept sizes old new (interior_kind Index) child.1 (page_of levels child.0) (kept child.1.chain (λ n. omega arith)) all.0.0,
            Stands-kept sizes old new Index levels child.0 (kept (pages_of levels child.0) (λ n. omega arith)) all.0.1,
          ),
          rest.0,
        ),
        rest.1,
      )
    where
      place_in : (page_of levels other ≡ page_of levels home) ⊎ (length (child ∷ children) ≤ suc i) → (page_of levels other ≡ page_of levels home) ⊎ (length children ≤ i)
      place_in (inl page) = inl page
      place_in (inr past) = inr (omega arith)
