-- One level of a put: what became of a child makes the parent, a page is cut, a page is written, and a root gets a new level. Crates above cite these facts in their proofs.
use Rattle.std.proofs.Common.{◌≡◌, ◌≢◌, ℕ, ℤ, zero, suc, ◌+◌, ◌-◌, ◌<◌, ◌≤◌, ◌<ℤ◌, ◌≤ℤ◌, List, [], ◌∷◌, ◌++◌, length, map, drop, refl, sym, ap, ◌∙◌, subst, arith, append_assoc}
use Rattle.std.proofs.Math.Path.{subst⁻¹}
use Rattle.std.specs.List.{flat_map, AllByRecursion}
use Rattle.std.proofs.lemmas.Int.{ints}
use Rattle.format_spec.specs.Page.{header_place}
use Rattle.page_spec.specs.Freelists.{Trunk}
use Rattle.tree_spec.specs.declared.TreeKind.{TreeKind}
use Rattle.tree_spec.specs.declared.TreeKind.TheVariants.{Table, Index}
use Rattle.page_spec.specs.Counts.{hit, times}
use Rattle.page_spec.specs.CountsLaws.{times-append, hit-itself}
use Rattle.tree_spec.specs.Trees.{TreeCell, TreeOf, Member, leaf_kind, interior_kind, page_of, own_cells, cells_behind, chain_pages, pages_of, pages_below, pages_beside, member, between, list_of, list_beside, IsFull, IsFullBelow}
use Rattle.tree_spec.specs.Bounds.{RisesIn, BesideIn, InOrder}
use Rattle.tree_spec.specs.Standing.{Sizes, Paged, Keeps, IsNumber, IsHeld, IsBehind, HasOwnPage, HasBelow, Stands, StandsBefore, StandsLast}
use Rattle.page_spec.specs.FreePagesLaws.{due-most}
use Rattle.page_spec.specs.FreelistsLaws.{IsInRange-wider}
use Rattle.tree_spec.specs.StandingLaws.{chain-kept, children-kept, HasBelow-kept, Stands-kept}
use Rattle.tree_spec.specs.WorldsLaws.{all-front, all-back, all-join}
use Rattle.tree_spec.specs.Changes.{Within, Turns, Writes}
use Rattle.tree_spec.specs.ChangesLaws.{Turns-then, Turns-wide, Turns-within, Turns-write, Turns-keeps}
use Rattle.put_spec.specs.Children.{PutIn, Belongs, views_of, child_at, children_with, last_with, interior_with}
use Rattle.put_spec.specs.ChildrenLaws.{beside-join, child-within, count-with, keeps-fewer, stands-with, all-with, all-child, some-with, order-with, list-join, list-with, put-within}
use Rattle.put_spec.specs.Puts.{moved, deeper, InBounds, Before, After, hand_before, hand_after, child_before, interior_after, IsCut, cut_after, IsOpened, IsPut, IsRootPut}

-- all pages of a tree, by its own page and the others
pub pages-parts : (n levels : ℕ) (tree : TreeOf levels) → times n (pages_of levels tree) ≡ hit (page_of levels tree) n + times n (pages_below levels tree)
pages-parts n zero tree = refl
pages-parts n (suc levels) tree = refl

pub hand-parts : (n levels : ℕ) (after : After levels)
    → times n (hand_after after) ≡ times n (flat_map (λ child. pages_of levels child.0 ++ child.1.chain) after.siblings) + hit (page_of levels after.home) n + times n (pages_below levels after.home) + times n after.chain
hand-parts n levels after =
    let front = flat_map (λ (child : TreeOf levels × TreeCell). pages_of levels child.0 ++ child.1.chain) after.siblings in
    omega (arith, times-append n (pages_beside levels after.siblings after.home) after.chain, times-append n front (pages_of levels after.home), pages-parts n levels after.home)

module _ (sizes : Sizes) (kind : TreeKind) where
  bounds-above : (k : TreeKind) (levels : ℕ) (before : Before (suc levels)) (i : ℕ) (after : After levels)
      → (k ≡ Table → Belongs before.cell.view.rowid i (views_of (cells_behind before.tree.children)))
      → ((low high : ℤ) → low <ℤ before.cell.view.rowid → before.cell.view.rowid ≤ℤ high → InBounds k levels low high (child_at i before.tree.children before.tree.last) → BesideIn (InBounds k levels) low high after.siblings after.home)
      → (low high : ℤ) → low <ℤ before.cell.view.rowid → before.cell.view.rowid ≤ℤ high → InBounds k (suc levels) low high before.tree
      → InBounds k (suc levels) low high (interior_with levels before.tree i after.siblings after.home)
  bounds-above Table levels before i after here grown low high above under order =
      order-with before.cell.view.rowid levels i low high before.tree.children after.siblings before.tree.last after.home (here refl) above under grown order
  bounds-above Index levels before i after here grown low high above under order = tt

  -- Where a child has had the put, its parent has, but for the writing of its own page.
  pub put-above : (levels : ℕ) (before : Before (suc levels)) (i : ℕ) (after : After levels) → Within sizes before.base (hand_before before) before.trunks
      → Stands sizes before.base kind (suc levels) before.tree → (kind ≡ Table → Belongs before.cell.view.rowid i (views_of (cells_behind before.tree.children)))
      → IsPut sizes kind levels (child_before levels before i) after → IsOpened sizes kind (suc levels) before (interior_after levels before i after)
  put-above levels before i after within stands here put =
      let tree = before.tree in
      let child = child_at i tree.children tree.last in
      let o = put.opened in
      let chain = before.cell.chain in
      let base = before.base in
      let split = λ (n : ℕ). times-append n (pages_of (suc levels) tree) chain in
      let split_child = λ (n : ℕ). times-append n (pages_of levels child) chain in
      let split_after = λ (n : ℕ). times-append n (pages_beside levels after.siblings after.home) after.chain in
      let split_new = λ (n : ℕ). times-append n (pages_of (suc levels) (interior_with levels tree i after.siblings after.home)) after.chain in
      let stand = stands-with sizes kind base after.base levels i tree.children after.siblings tree.last after.home o.turns.grows
      (λ n less. o.turns.kept n (omega (arith, within n, split n, due-most sizes.size base.count n)) (omega (arith, within n, split n, split_child n, due-most sizes.size base.count n)) (omega (arith, within n, split n, due-most sizes.size base.count n)))
      stands.1.0 stands.1.1 o.siblings (put.own, o.below) o.page in
      let around = list-with kind levels i tree.children tree.last in
      record {
        within = within;
        turns = Turns-wide sizes base after.base (pages_of levels child ++ chain) (hand_after after) (hand_before before) (hand_after (interior_after levels before i after)) before.trunks after.trunks
            (λ n. hit tree.page n + times n (pages_beside levels tree.children tree.last) - times n (pages_of levels child))
            (λ n. omega (arith, child-within n levels i tree.children tree.last, split n, split_child n))
            (λ n. omega (arith, child-within n levels i tree.children tree.last, split_new n, split_after n, count-with n levels i tree.children after.siblings tree.last after.home))
            o.turns;
        page = refl;
        siblings = tt;
        below = stand;
        freed = o.freed;
        bounds = bounds-above kind levels before i after here o.bounds;
        list = subst⁻¹ (λ (l : List Member). PutIn kind (member before.cell) l (list_beside kind levels (children_with i tree.children after.siblings after.home) (last_with i tree.children tree.last after.home))) around.old
            (subst⁻¹ (λ (l : List Member). PutIn kind (member before.cell) (around.before ++ (list_of kind levels child ++ around.after)) l) (around.new after.siblings after.home)
            (put-within kind (member before.cell) around.before around.after (list_of kind levels child) (list_beside kind levels after.siblings after.home) o.list));
        full = λ full.
            let old = all-child (IsFull levels) i tree.children tree.last full.0 full.1 in
            let grown = o.full old.1 in
            (tt, all-with (IsFull levels) i tree.children after.siblings tree.last after.home full.0 full.1 grown.0 (o.some (omega (arith, old.0)), grown.1));
        some = λ some. some-with i tree.children after.siblings after.home (omega arith);
      }

  -- A tree is cut in two.

  chains-join : (n : ℕ) (xs ys : List TreeCell) → times n (chain_pages (xs ++ ys)) ≡ times n (chain_pages xs) + times n (chain_pages ys)
  chains-join n [] ys = omega arith
  chains-join n (x ∷ xs) ys = omega (arith, chains-join n xs ys, times-append n x.chain (chain_pages (xs ++ ys)), times-append n x.chain (chain_pages xs))

  -- how often a page stands in the parts of a tree that is cut
  pub cut-count : (levels : ℕ) (k : TreeKind) (n : ℕ) (whole left : TreeOf levels) (divider : TreeCell) (right : TreeOf levels) → IsCut levels k whole left divider right
      → times n (pages_of levels left) + times n divider.chain + times n (pages_of levels right) ≡ times n (pages_of levels whole) + hit (page_of levels left) n
  cut-count zero Table n whole left divider right cut =
      omega (arith, ap (λ cells. times n (chain_pages cells)) cut.cells, chains-join n left.cells right.cells, ap (λ q. hit q n) cut.page, ap (times n) cut.chain)
  cut-count zero Index n whole left divider right cut =
      omega (
        arith,
        ap (λ cells. times n (chain_pages cells)) cut.cells,
        chains-join n left.cells (cut.middle ∷ right.cells),
        times-append n cut.middle.chain (chain_pages right.cells),
        ap (λ q. hit q n) cut.page,
        ap (times n) cut.chain,
      )
  cut-count (suc levels) k n whole left divider right cut =
      let children = left.children ++ (left.last, cut.middle) ∷ right.children in
      omega (
        arith,
        ap (λ xs. times n (pages_beside levels xs whole.last)) cut.children,
        ap (λ l. times n (pages_beside levels children l)) cut.last,
        beside-join n levels left.children right.children left.last right.last cut.middle,
        ap (λ q. hit q n) cut.page,
        ap (times n) cut.chain,
      )

  cut-page : (levels : ℕ) (k : TreeKind) (whole left : TreeOf levels) (divider : TreeCell) (right : TreeOf levels) → IsCut levels k whole left divider right → page_of levels right ≡ page_of levels whole
  cut-page zero Table whole left divider right cut = cut.page
  cut-page zero Index whole left divider right cut = cut.page
  cut-page (suc levels) k whole left divider right cut = cut.page

  cut-below : (base : Paged) (levels : ℕ) (k : TreeKind) (whole left : TreeOf levels) (divider : TreeCell) (right : TreeOf levels) → IsCut levels k whole left divider right
      → HasBelow sizes base k levels whole → HasBelow sizes base k levels left × HasBelow sizes base k levels right
  cut-below base zero Table whole left divider right cut below =
      let all = subst (AllByRecursion (IsHeld sizes base (leaf_kind Table))) cut.cells below in
      (all-front (IsHeld sizes base (leaf_kind Table)) left.cells right.cells all, all-back (IsHeld sizes base (leaf_kind Table)) left.cells right.cells all)
  cut-below base zero Index whole left divider right cut below =
      let all = subst (AllByRecursion (IsHeld sizes base (leaf_kind Index))) cut.cells below in
      (all-front (IsHeld sizes base (leaf_kind Index)) left.cells (cut.middle ∷ right.cells) all, (all-back (IsHeld sizes base (leaf_kind Index)) left.cells (cut.middle ∷ right.cells) all).1)
  cut-below base (suc levels) k whole left divider right cut below =
      let stands = StandsBefore sizes base k levels in
      let all = subst (AllByRecursion stands) cut.children below.0 in
      let back = all-back stands left.children ((left.last, cut.middle) ∷ right.children) all in (
        (all-front stands left.children ((left.last, cut.middle) ∷ right.children) all, (back.0.0.in_range, back.0.1)),
        (back.1, subst (StandsLast sizes base k levels) cut.last below.1),
      )

  rises-cut : (low high : ℤ) (front : List TreeCell) (end : TreeCell) (back : List TreeCell) → RisesIn low high (map (λ (c : TreeCell). c.view.rowid) ((front ++ end ∷ []) ++ back))
      → RisesIn low end.view.rowid (map (λ (c : TreeCell). c.view.rowid) (front ++ end ∷ [])) × RisesIn end.view.rowid high (map (λ (c : TreeCell). c.view.rowid) back)
  rises-cut low high [] end back rises = ((rises.0, omega (arith, ints)), rises.1)
  rises-cut low high (x ∷ xs) end back rises = let rest = rises-cut x.view.rowid high xs end back rises.1 in ((rises.0, rest.0), rest.1)

  beside-cut : (levels : ℕ) (low high : ℤ) (front : List (TreeOf levels × TreeCell)) (child : TreeOf levels) (cell : TreeCell) (back : List (TreeOf levels × TreeCell)) (last : TreeOf levels)
      → BesideIn (InOrder levels) low high (front ++ (child, cell) ∷ back) last → BesideIn (InOrder levels) low cell.view.rowid front child × BesideIn (InOrder levels) cell.view.rowid high back last
  beside-cut levels low high [] child cell back last order = (order.0, order.1)
  beside-cut levels low high (x ∷ xs) child cell back last order = let rest = beside-cut levels x.1.view.rowid high xs child cell back last order.1 in ((order.0, rest.0), rest.1)

  cut-bounds : (levels : ℕ) (k : TreeKind) (low high : ℤ) (whole left : TreeOf levels) (divider : TreeCell) (right : TreeOf levels) → IsCut levels k whole left divider right
      → InBounds k levels low high whole → InBounds k levels low divider.view.rowid left × InBounds k levels divider.view.rowid high right
  cut-bounds zero Table low high whole left divider right cut order =
      let rowids = λ (cells : List TreeCell). map (λ (c : TreeCell). c.view.rowid) cells in
      let end = cut.end.view.rowid in
      let both = rises-cut low high cut.front cut.end right.cells
      (subst (λ (cells : List TreeCell). RisesIn low high (map (λ (c : TreeCell). c.view.rowid) cells)) (cut.cells ∙ ap (λ (l : List TreeCell). l ++ right.cells) cut.ends) order) in (
        subst⁻¹ (λ (n : ℤ). RisesIn low n (map (λ (c : TreeCell). c.view.rowid) left.cells)) cut.rowid
            (subst⁻¹ (λ (cells : List TreeCell). RisesIn low end (map (λ (c : TreeCell). c.view.rowid) cells)) cut.ends both.0),
        subst⁻¹ (λ (n : ℤ). RisesIn n high (map (λ (c : TreeCell). c.view.rowid) right.cells)) cut.rowid both.1,
      )
  cut-bounds zero Index low high whole left divider right cut order = (tt, tt)
  cut-bounds (suc levels) Table low high whole left divider right cut order =
      let both = beside-cut levels low high left.children left.last cut.middle right.children right.last
      (
      subst (λ (l : TreeOf levels). BesideIn (InOrder levels) low high (left.children ++ (left.last, cut.middle) ∷ right.children) l) cut.last
      (subst (λ (xs : List (TreeOf levels × TreeCell)). BesideIn (InOrder levels) low high xs whole.last) cut.children order)
      ) in (
        subst⁻¹ (λ (n : ℤ). BesideIn (InOrder levels) low n left.children left.last) cut.rowid both.0,
        subst⁻¹ (λ (n : ℤ). BesideIn (InOrder levels) n high right.children right.last) cut.rowid both.1,
      )
  cut-bounds (suc levels) Index low high whole left divider right cut order = (tt, tt)

  -- the last of several trees is cut
  siblings-bounds : (levels : ℕ) (k : TreeKind) (low high : ℤ) (siblings : List (TreeOf levels × TreeCell)) (whole left : TreeOf levels) (divider : TreeCell) (right : TreeOf levels)
      → IsCut levels k whole left divider right → BesideIn (InBounds k levels) low high siblings whole → BesideIn (InBounds k levels) low high (siblings ++ (left, divider) ∷ []) right
  siblings-bounds levels k low high [] whole left divider right cut bounds = cut-bounds levels k low high whole left divider right cut bounds
  siblings-bounds levels k low high (x ∷ xs) whole left divider right cut bounds = (bounds.0, siblings-bounds levels k x.1.view.rowid high xs whole left divider right cut bounds.1)

  members-append : (xs ys : List TreeCell) → map member (xs ++ ys) ≡ map member xs ++ map member ys
  members-append [] ys = refl
  members-append (x ∷ xs) ys = ap (λ (l : List Member). member x ∷ l) (members-append xs ys)

  same-member : (a b : TreeCell) → a.view.rowid ≡ b.view.rowid → a.payload ≡ b.payload → member a ≡ member b
  same-member a b rowid payload = λ i. record { rowid = rowid i; payload = payload i }

  same-between : (k : TreeKind) (a b : TreeCell) → a.view.rowid ≡ b.view.rowid → a.payload ≡ b.payload → between k a ≡ between k b
  same-between Table a b rowid payload = refl
  same-between Index a b rowid payload = ap (λ (m : Member). m ∷ []) (same-member a b rowid payload)

  cut-list : (levels : ℕ) (k : TreeKind) (whole left : TreeOf levels) (divider : TreeCell) (right : TreeOf levels) → IsCut levels k whole left divider right
      → list_of k levels whole ≡ list_of k levels left ++ (between k divider ++ list_of k levels right)
  cut-list zero Table whole left divider right cut = ap (map member) cut.cells ∙ members-append left.cells right.cells
  cut-list zero Index whole left divider right cut =
      ap (map member) cut.cells ∙ members-append left.cells (cut.middle ∷ right.cells)
      ∙ ap (λ (m : Member). map member left.cells ++ m ∷ map member right.cells) (sym (same-member divider cut.middle cut.rowid cut.payload))
  cut-list (suc levels) k whole left divider right cut =
      ap (λ (xs : List (TreeOf levels × TreeCell)). list_beside k levels xs whole.last) cut.children
      ∙ ap (λ (l : TreeOf levels). list_beside k levels (left.children ++ (left.last, cut.middle) ∷ right.children) l) cut.last
      ∙ list-join k levels left.children right.children left.last right.last cut.middle
      ∙ ap (λ (l : List Member). list_beside k levels left.children left.last ++ (l ++ list_beside k levels right.children right.last)) (sym (same-between k divider cut.middle cut.rowid cut.payload))

  -- a cut changes no list
  pub siblings-list : (levels : ℕ) (siblings : List (TreeOf levels × TreeCell)) (whole left : TreeOf levels) (divider : TreeCell) (right : TreeOf levels) → IsCut levels kind whole left divider right
      → list_beside kind levels siblings whole ≡ list_beside kind levels (siblings ++ (left, divider) ∷ []) right
  siblings-list levels siblings whole left divider right cut =
      let front = flat_map (λ (child : TreeOf levels × TreeCell). list_of kind levels child.0 ++ between kind child.1) siblings in
      ap (λ (l : List Member). front ++ l) (cut-list levels kind whole left divider right cut)
      ∙ sym (append_assoc front (list_of kind levels left) (between kind divider ++ list_of kind levels right))
      ∙ sym (list-join kind levels siblings [] left right divider)

  cut-full : (levels : ℕ) (k : TreeKind) (whole left : TreeOf levels) (divider : TreeCell) (right : TreeOf levels) → IsCut levels k whole left divider right
      → IsFullBelow levels whole → IsFullBelow levels left × IsFullBelow levels right
  cut-full zero Table whole left divider right cut full = (tt, tt)
  cut-full zero Index whole left divider right cut full = (tt, tt)
  cut-full (suc levels) k whole left divider right cut full =
      let is = λ (child : TreeOf levels × TreeCell). IsFull levels child.0 in
      let all = subst (AllByRecursion (λ (child : TreeOf levels × TreeCell). IsFull levels child.0)) cut.children full.0 in
      let back = all-back (λ (child : TreeOf levels × TreeCell). IsFull levels child.0) left.children ((left.last, cut.middle) ∷ right.children) all in
      ((all-front (λ (child : TreeOf levels × TreeCell). IsFull levels child.0) left.children ((left.last, cut.middle) ∷ right.children) all, back.0), (back.1, subst (IsFull levels) cut.last full.1))

  -- The own page of a tree is cut, and its front is put on a page that was taken.
  pub put-cut : (levels : ℕ) (before : Before levels) (after : After levels) (left : TreeOf levels) (divider : TreeCell) (right : TreeOf levels) (base : Paged) (trunks : List Trunk)
      → IsOpened sizes kind levels before after → IsCut levels kind after.home left divider right
      → Turns sizes after.base [] after.trunks base (page_of levels left ∷ []) trunks → HasOwnPage sizes base kind levels left
      → IsBehind sizes base (interior_kind kind) divider (page_of levels left)
      → 0 < length (own_cells levels left) → 0 < length (own_cells levels right) → IsOpened sizes kind levels before (cut_after levels after left divider right base trunks)
  put-cut levels before after left divider right base trunks o cut taken own behind some_left some_right =
      let within = Turns-within sizes before.base after.base (hand_before before) (hand_after after) before.trunks after.trunks o.within o.turns in
      let keeps : Keeps (hand_after after) after.base base =
      Turns-keeps sizes after.base base [] (page_of levels left ∷ []) after.trunks trunks (hand_after after) (λ n. omega (arith, within n)) taken in
      let parts = λ (n : ℕ). hand-parts n levels after in
      let front = flat_map (λ (child : TreeOf levels × TreeCell). pages_of levels child.0 ++ child.1.chain) after.siblings in
      let below = cut-below base levels kind after.home left divider right cut
      (HasBelow-kept sizes after.base base kind levels after.home (keeps-fewer after.base base (hand_after after) (pages_below levels after.home) (λ n some. omega (arith, parts n)) keeps) o.below) in
      let siblings = children-kept sizes after.base base kind levels (Stands-kept sizes after.base base kind levels) after.siblings (keeps-fewer after.base base (hand_after after) front (λ n some. omega (arith, parts n)) keeps) o.siblings in
      record {
        within = o.within;
        turns = Turns-then sizes before.base after.base base (hand_before before) (hand_after after) (hand_after (cut_after levels after left divider right base trunks)) before.trunks after.trunks trunks o.within o.turns
            (
            Turns-wide sizes after.base base [] (page_of levels left ∷ []) (hand_after after) (hand_after (cut_after levels after left divider right base trunks)) after.trunks trunks (λ n. times n (hand_after after))
            (λ n. omega arith)
            (λ n.
            omega (
              arith,
              times-append n (pages_beside levels after.siblings after.home) after.chain,
              times-append n front (pages_of levels after.home),
              times-append n (pages_beside levels (after.siblings ++ (left, divider) ∷ []) right) after.chain,
              beside-join n levels after.siblings [] left right divider,
              times-append n front (pages_of levels left),
              cut-count levels kind n after.home left divider right cut,
            ))
            taken
            );
        page = cut-page levels kind after.home left divider right cut ∙ o.page;
        siblings = all-join (StandsBefore sizes base kind levels) after.siblings ((left, divider) ∷ []) siblings ((behind, (own, below.0)), tt);
        below = below.1;
        freed = chain-kept sizes after.base base after.first after.bytes after.chain (keeps-fewer after.base base (hand_after after) after.chain (λ n some. omega (arith, parts n)) keeps) o.freed;
        bounds = λ low high over under bounds. siblings-bounds levels kind low high after.siblings after.home left divider right cut (o.bounds low high over under bounds);
        list = subst (PutIn kind (member before.cell) (list_of kind levels before.tree)) (siblings-list levels after.siblings after.home left divider right cut) o.list;
        full = λ full.
            let old = o.full full in
            let new = cut-full levels kind after.home left divider right cut old.1 in
            (all-join (λ sibling. IsFull levels sibling.0) after.siblings ((left, divider) ∷ []) old.0 ((some_left, new.0), tt), new.1);
        some = λ _. some_right;
      }

  -- pages in hand beside one that is written are kept
  beside-written : (old new : Paged) (number : ℕ) (hand others : List ℕ) (trunks : List Trunk) → Within sizes old hand trunks → Writes number old new → ((n : ℕ) → hit number n + times n others ≤ times n hand) → Keeps others old new
  beside-written old new number hand others trunks within writes fewer = record {
    same = λ n some. ap (drop (header_place n)) (writes.others n (λ is. omega (arith, fewer n, within n, due-most sizes.size old.count n, ap (λ (m : ℕ). hit number m) is, hit-itself number)));
    grows = omega (arith, writes.count);
  }

  -- The own page is written.
  pub put-settled : (levels : ℕ) (before : Before levels) (after : After levels) (base : Paged) → IsOpened sizes kind levels before after
      → Writes (page_of levels after.home) after.base base → HasOwnPage sizes base kind levels after.home → IsPut sizes kind levels before (record after { base = base })
  put-settled levels before after base o writes own =
      let within = Turns-within sizes before.base after.base (hand_before before) (hand_after after) before.trunks after.trunks o.within o.turns in
      let page = page_of levels after.home in
      let parts = λ (n : ℕ). hand-parts n levels after in
      let front = flat_map (λ (child : TreeOf levels × TreeCell). pages_of levels child.0 ++ child.1.chain) after.siblings in
      let kept = beside-written after.base base page (hand_after after) in
      record {
        opened = record {
          within = o.within;
          turns = Turns-then sizes before.base after.base base (hand_before before) (hand_after after) (hand_after after) before.trunks after.trunks after.trunks o.within o.turns
              (Turns-write sizes after.base base page (hand_after after) after.trunks within (omega (arith, parts page, hit-itself page)) writes);
          page = o.page;
          siblings = children-kept sizes after.base base kind levels (Stands-kept sizes after.base base kind levels) after.siblings (kept front after.trunks within writes (λ n. omega (arith, parts n))) o.siblings;
          below = HasBelow-kept sizes after.base base kind levels after.home (kept (pages_below levels after.home) after.trunks within writes (λ n. omega (arith, parts n))) o.below;
          freed = chain-kept sizes after.base base after.first after.bytes after.chain (kept after.chain after.trunks within writes (λ n. omega (arith, parts n))) o.freed;
          bounds = o.bounds;
          list = o.list;
          full = o.full;
          some = o.some;
        };
        own = own;
      }

  -- A root that needs no new level.
  pub put-stays : (levels : ℕ) (before : Before levels) (after : After levels) → IsPut sizes kind levels before after → after.siblings ≡ []
      → IsRootPut sizes kind levels before after.base (record { kind = kind; levels = levels; tree = after.home }) after.first after.bytes after.chain after.trunks
  put-stays levels before after put none =
      let o = put.opened in
      record {
        turns = subst (λ (s : List (TreeOf levels × TreeCell)). Turns sizes before.base (hand_before before) before.trunks after.base (pages_beside levels s after.home ++ after.chain) after.trunks) none o.turns;
        kind_is = refl;
        stands = (put.own, o.below);
        freed = o.freed;
        root = o.page;
        bounds = λ low high over under bounds. subst (λ (s : List (TreeOf levels × TreeCell)). BesideIn (InBounds kind levels) low high s after.home) none (o.bounds low high over under bounds);
        list = subst (λ (s : List (TreeOf levels × TreeCell)). PutIn kind (member before.cell) (list_of kind levels before.tree) (list_beside kind levels s after.home)) none o.list;
        full = λ full. record {
          below = (o.full full.below).1;
          root = λ deep other. o.some (omega (arith, full.root deep (λ is. other (o.page ∙ is))));
        };
      }

  -- A root gets a new level.

  pub moved-page : (levels fresh : ℕ) (tree : TreeOf levels) → page_of levels (moved levels fresh tree) ≡ fresh
  moved-page zero fresh tree = refl
  moved-page (suc levels) fresh tree = refl

  moved-rest : (levels fresh : ℕ) (tree : TreeOf levels) → pages_below levels (moved levels fresh tree) ≡ pages_below levels tree
  moved-rest zero fresh tree = refl
  moved-rest (suc levels) fresh tree = refl

  moved-below : (base : Paged) (levels fresh : ℕ) (tree : TreeOf levels) → HasBelow sizes base kind levels tree → HasBelow sizes base kind levels (moved levels fresh tree)
  moved-below base zero fresh tree below = below
  moved-below base (suc levels) fresh tree below = below

  moved-bounds : (k : TreeKind) (levels : ℕ) (low high : ℤ) (fresh : ℕ) (tree : TreeOf levels) → InBounds k levels low high tree → InBounds k levels low high (moved levels fresh tree)
  moved-bounds Table zero low high fresh tree bounds = bounds
  moved-bounds Table (suc levels) low high fresh tree bounds = bounds
  moved-bounds Index levels low high fresh tree bounds = tt

  moved-full : (levels fresh : ℕ) (tree : TreeOf levels) → IsFull levels tree → IsFull levels (moved levels fresh tree)
  moved-full zero fresh tree full = full
  moved-full (suc levels) fresh tree full = full

  pub moved-list : (levels fresh : ℕ) (tree : TreeOf levels) → list_of kind levels (moved levels fresh tree) ≡ list_of kind levels tree
  moved-list zero fresh tree = refl
  moved-list (suc levels) fresh tree = refl

  siblings-moved : (levels : ℕ) (low high : ℤ) (fresh : ℕ) (siblings : List (TreeOf levels × TreeCell)) (tree : TreeOf levels) → BesideIn (InBounds kind levels) low high siblings tree
      → BesideIn (InBounds kind levels) low high siblings (moved levels fresh tree)
  siblings-moved levels low high fresh [] tree bounds = moved-bounds kind levels low high fresh tree bounds
  siblings-moved levels low high fresh (x ∷ xs) tree bounds = (bounds.0, siblings-moved levels x.1.view.rowid high fresh xs tree bounds.1)

  bounds-deeper : (k : TreeKind) (levels : ℕ) (low high : ℤ) (tree : TreeOf (suc levels)) → BesideIn (InBounds k levels) low high tree.children tree.last → InBounds k (suc levels) low high tree
  bounds-deeper Table levels low high tree bounds = bounds
  bounds-deeper Index levels low high tree bounds = tt

  cells-some : {Child : Type 0} (children : List (Child × TreeCell)) → 0 < length children → 0 < length (cells_behind children)
  cells-some [] some = absurd (omega arith)
  cells-some (child ∷ children) some = omega arith

  -- What a root's page is to have is put on a page that was taken, and then the root is written with the cells between the siblings. Page 1 may be left without a cell.
  pub put-rises : (levels : ℕ) (before : Before levels) (after : After levels) (fresh : ℕ) (between_them new : Paged) (trunks : List Trunk) → IsOpened sizes kind levels before after
      → Turns sizes after.base [] after.trunks between_them (fresh ∷ []) trunks → IsNumber sizes between_them fresh → HasOwnPage sizes between_them kind levels (moved levels fresh after.home)
      → Writes (page_of levels after.home) between_them new → HasOwnPage sizes new kind (suc levels) (deeper levels after fresh) → 0 < length (own_cells levels after.home)
      → (page_of levels after.home ≢ 1 → 0 < length after.siblings) → IsRootPut sizes kind levels before new (record { kind = kind; levels = suc levels; tree = deeper levels after fresh }) after.first after.bytes after.chain trunks
  put-rises levels before after fresh mid new trunks o taken number own writes root filled some =
      let page = page_of levels after.home in
      let home = moved levels fresh after.home in
      let within = Turns-within sizes before.base after.base (hand_before before) (hand_after after) before.trunks after.trunks o.within o.turns in
      let keeps : Keeps (hand_after after) after.base mid = Turns-keeps sizes after.base mid [] (fresh ∷ []) after.trunks trunks (hand_after after) (λ n. omega (arith, within n)) taken in
      let parts = λ (n : ℕ). hand-parts n levels after in
      let front = flat_map (λ (child : TreeOf levels × TreeCell). pages_of levels child.0 ++ child.1.chain) after.siblings in
      let hand = pages_of (suc levels) (deeper levels after fresh) ++ after.chain in
      let new_parts = λ (n : ℕ).
      let whole = times-append n (pages_of (suc levels) (deeper levels after fresh)) after.chain in
      let inner = times-append n front (pages_of levels home) in
      let own_page = pages-parts n levels home in
      let moved_page = ap (λ (p : ℕ). hit p n) (moved-page levels fresh after.home) in
      let rest = ap (times n) (moved-rest levels fresh after.home) in
      let all : times n hand ≡ hit page n + times n front + hit fresh n + times n (pages_below levels after.home) + times n after.chain = omega arith in
      all in
      let step : Turns sizes after.base (hand_after after) after.trunks mid hand trunks =
      Turns-wide sizes after.base mid [] (fresh ∷ []) (hand_after after) hand after.trunks trunks (λ n. times n (hand_after after)) (λ n. omega arith) (λ n. omega (arith, parts n, new_parts n)) taken in
      let later = Turns-within sizes after.base mid (hand_after after) hand after.trunks trunks within step in
      let kept = beside-written mid new page hand in
      let siblings = children-kept sizes mid new kind levels (Stands-kept sizes mid new kind levels) after.siblings (kept front trunks later writes (λ n. omega (arith, new_parts n)))
      (children-kept sizes after.base mid kind levels (Stands-kept sizes after.base mid kind levels) after.siblings (keeps-fewer after.base mid (hand_after after) front (λ n more. omega (arith, parts n)) keeps) o.siblings) in
      let below = moved-below mid levels fresh after.home
      (HasBelow-kept sizes after.base mid kind levels after.home (keeps-fewer after.base mid (hand_after after) (pages_below levels after.home) (λ n more. omega (arith, parts n)) keeps) o.below) in
      let home_stands : Stands sizes new kind levels home =
      Stands-kept sizes mid new kind levels home
      (kept (pages_of levels home) trunks later writes (λ n. omega (arith, new_parts n, pages-parts n levels home, ap (λ (p : ℕ). hit p n) (moved-page levels fresh after.home), ap (times n) (moved-rest levels fresh after.home))))
      (own, below) in
      record {
        turns = Turns-then sizes before.base after.base new (hand_before before) (hand_after after) hand before.trunks after.trunks trunks o.within o.turns
            (Turns-then sizes after.base mid new (hand_after after) hand hand after.trunks trunks trunks within step (Turns-write sizes mid new page hand trunks later (omega (arith, new_parts page, hit-itself page)) writes));
        kind_is = refl;
        stands = (
          root,
          (
            siblings,
            (
              subst⁻¹ (IsNumber sizes new) (moved-page levels fresh after.home) (IsInRange-wider sizes.size mid.count new.count fresh (omega (arith, writes.count)) number),
              home_stands,
            ),
          ),
        );
        freed = chain-kept sizes mid new after.first after.bytes after.chain (kept after.chain trunks later writes (λ n. omega (arith, new_parts n)))
            (chain-kept sizes after.base mid after.first after.bytes after.chain (keeps-fewer after.base mid (hand_after after) after.chain (λ n more. omega (arith, parts n)) keeps) o.freed);
        root = o.page;
        bounds = λ low high over under bounds. bounds-deeper kind levels low high (deeper levels after fresh) (siblings-moved levels low high fresh after.siblings after.home (o.bounds low high over under bounds));
        list = subst⁻¹ (λ (l : List Member). PutIn kind (member before.cell) (list_of kind levels before.tree) (flat_map (λ (child : TreeOf levels × TreeCell). list_of kind levels child.0 ++ between kind child.1) after.siblings ++ l))
            (moved-list levels fresh after.home) o.list;
        full = λ full.
            let grown = o.full full.below in
            record {
              below = (grown.0, moved-full levels fresh after.home (filled, grown.1));
              root = λ deep other. omega (arith, cells-some after.siblings (some other));
            };
      }

  -- the same of what a root's page had
  pub put-deepens : (levels : ℕ) (before : Before levels) (after : After levels) (fresh : ℕ) (between_them new : Paged) (trunks : List Trunk) → IsPut sizes kind levels before after
      → Turns sizes after.base [] after.trunks between_them (fresh ∷ []) trunks → IsNumber sizes between_them fresh → HasOwnPage sizes between_them kind levels (moved levels fresh after.home)
      → Writes (page_of levels after.home) between_them new → HasOwnPage sizes new kind (suc levels) (deeper levels after fresh) → 0 < length after.siblings
      → IsRootPut sizes kind levels before new (record { kind = kind; levels = suc levels; tree = deeper levels after fresh }) after.first after.bytes after.chain trunks
  put-deepens levels before after fresh mid new trunks put taken number own writes root some =
      put-rises levels before after fresh mid new trunks put.opened taken number own writes root (put.opened.some (omega arith)) (λ other. some)
