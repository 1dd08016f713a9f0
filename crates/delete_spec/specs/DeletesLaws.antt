-- One level of a delete: a leaf loses a cell, what became of a child makes its parent, two neighbours become one, a page is cut or written, and a root takes the content of its only child. Crates above cite these facts in their proofs.
use Rattle.std.proofs.Common.{◌≡◌, ◌≢◌, ◌⊎◌, ℕ, ℤ, zero, suc, ◌+◌, ◌-◌, ◌<◌, ◌≤◌, List, [], ◌∷◌, ◌++◌, length, map, drop, refl, sym, ap, ◌∙◌, subst, arith, append_assoc}
use Rattle.std.proofs.Math.Path.{subst⁻¹}
use Rattle.std.specs.List.{flat_map, AllByRecursion}
use Rattle.std.proofs.lemmas.Int.{ints}
use Rattle.std.proofs.lemmas.List.{map-append, append-nil, nil_from_length}
use Rattle.format_spec.specs.Page.{IsPage, header_place}
use Rattle.page_spec.specs.Chains.{pages_for}
use Rattle.page_spec.specs.Counts.{hit, times}
use Rattle.page_spec.specs.CountsLaws.{times-append, hit-itself}
use Rattle.page_spec.specs.Freelists.{Trunk}
use Rattle.page_spec.specs.FreelistsLaws.{IsInRange-wider}
use Rattle.page_spec.specs.FreePagesLaws.{due-most}
use Rattle.tree_spec.specs.declared.TreeKind.TheVariants.{Table}
use Rattle.tree_spec.specs.Trees.{TreeCell, TreeOf, Leaf, Member, leaf_kind, interior_kind, page_of, own_cells, cells_behind, chain_pages, pages_of, pages_below, pages_beside, member, between, list_of, list_beside, IsFull, IsFullBelow}
use Rattle.tree_spec.specs.Bounds.{BesideIn, InOrder}
use Rattle.tree_spec.specs.BoundsLaws.{rises-bounds}
use Rattle.tree_spec.specs.Standing.{Sizes, Paged, SamePage, Keeps, IsNumber, IsHeld, IsBehind, HasOwnPage, HasBelow, Stands, StandsBefore, StandsLast}
use Rattle.tree_spec.specs.StandingLaws.{chain-none, chain-kept, children-kept, own-kept, HasBelow-kept, Stands-kept}
use Rattle.tree_spec.specs.WorldsLaws.{all-front, all-back, all-join}
use Rattle.tree_spec.specs.Changes.{Within, Turns, Writes}
use Rattle.tree_spec.specs.ChangesLaws.{Turns-then, Turns-wide, Turns-same, Turns-within, Turns-write, Turns-keeps}
use Rattle.put_spec.specs.Children.{children_with, last_with}
use Rattle.put_spec.specs.ChildrenLaws.{beside-first, beside-join, keeps-fewer, list-join, list-with}
use Rattle.put_spec.specs.Puts.{After, hand_after, moved, deeper, IsInteriorCut, cut_after}
use Rattle.put_spec.specs.PutsLaws.{pages-parts, hand-parts, cut-count, moved-page}
use Rattle.delete_spec.specs.Deletes.{TakenOut, Before, hand_of, alone, pair, became, parent_with, IsOpened, IsLoose, IsDeleted, IsSunk, IsRootDeleted}
use Rattle.delete_spec.specs.NeighboursLaws.{rises-without, order-wider, order-split, order-join, taken-within, taken-behind, group-count, group-all, group-last, group-of, group-order, group-stands}

-- Lists of cells.

-- how often a page stands in the chains of cells of which one is out
chains-without : (n : ℕ) (front : List TreeCell) (cell : TreeCell) (back : List TreeCell)
    → times n (chain_pages (front ++ cell ∷ back)) ≡ times n (chain_pages (front ++ back)) + times n cell.chain
chains-without n [] cell back = omega (arith, times-append n cell.chain (chain_pages back))
chains-without n (x ∷ xs) cell back =
    omega (arith, chains-without n xs cell back, times-append n x.chain (chain_pages (xs ++ cell ∷ back)), times-append n x.chain (chain_pages (xs ++ back)))

-- the divider of a table has no overflow chain
pub divider-chain : (sizes : Sizes) (base : Paged) (divider : TreeCell) → IsHeld sizes base (interior_kind Table) divider → divider.chain ≡ []
divider-chain sizes base divider held =
    let none : divider.view.payload - divider.view.local ≡ 0 = omega (arith, held.is_cell.payload) in
    nil_from_length divider.chain (held.is_chain.many ∙ ap (pages_for sizes.usable) none ∙ sym (chain-none sizes base).many)

-- Interior pages that are cut.

cut-order : (levels : ℕ) (low high : ℤ) (siblings : List (TreeOf (suc levels) × TreeCell)) (whole left : TreeOf (suc levels)) (divider : TreeCell) (right : TreeOf (suc levels))
    → IsInteriorCut whole left divider right → BesideIn (InOrder (suc levels)) low high siblings whole → BesideIn (InOrder (suc levels)) low high (siblings ++ (left, divider) ∷ []) right
cut-order levels low high [] whole left divider right cut order =
    let both = order-split levels low high left.children left.last cut.middle right.children right.last
    (
    subst (λ (l : TreeOf levels). BesideIn (InOrder levels) low high (left.children ++ (left.last, cut.middle) ∷ right.children) l) cut.last
    (subst (λ (xs : List (TreeOf levels × TreeCell)). BesideIn (InOrder levels) low high xs whole.last) cut.children order)
    ) in (
      subst⁻¹ (λ (r : ℤ). BesideIn (InOrder levels) low r left.children left.last) cut.rowid both.0,
      subst⁻¹ (λ (r : ℤ). BesideIn (InOrder levels) r high right.children right.last) cut.rowid both.1,
    )
cut-order levels low high (x ∷ xs) whole left divider right cut order = (order.0, cut-order levels x.1.view.rowid high xs whole left divider right cut order.1)

-- the list of a page that is cut is that of its parts
parts-list : (levels : ℕ) (whole left : TreeOf (suc levels)) (divider : TreeCell) (right : TreeOf (suc levels)) → IsInteriorCut whole left divider right
    → list_of Table (suc levels) whole ≡ list_of Table (suc levels) left ++ list_of Table (suc levels) right
parts-list levels whole left divider right cut =
    ap (λ (xs : List (TreeOf levels × TreeCell)). list_beside Table levels xs whole.last) cut.children
    ∙ ap (λ (l : TreeOf levels). list_beside Table levels (left.children ++ (left.last, cut.middle) ∷ right.children) l) cut.last
    ∙ list-join Table levels left.children right.children left.last right.last cut.middle

cut-list : (levels : ℕ) (siblings : List (TreeOf (suc levels) × TreeCell)) (whole left : TreeOf (suc levels)) (divider : TreeCell) (right : TreeOf (suc levels)) → IsInteriorCut whole left divider right
    → list_beside Table (suc levels) siblings whole ≡ list_beside Table (suc levels) (siblings ++ (left, divider) ∷ []) right
cut-list levels siblings whole left divider right cut =
    let front = flat_map (λ (child : TreeOf (suc levels) × TreeCell). list_of Table (suc levels) child.0 ++ between Table child.1) siblings in
    ap (λ (l : List Member). front ++ l) (parts-list levels whole left divider right cut)
    ∙ sym (append_assoc front (list_of Table (suc levels) left) (list_of Table (suc levels) right))
    ∙ sym (list-join Table (suc levels) siblings [] left right divider)

-- Trees in another page.

moved-rest : (levels fresh : ℕ) (tree : TreeOf levels) → pages_below levels (moved levels fresh tree) ≡ pages_below levels tree
moved-rest zero fresh tree = refl
moved-rest (suc levels) fresh tree = refl

moved-order : (levels : ℕ) (low high : ℤ) (fresh : ℕ) (tree : TreeOf levels) → InOrder levels low high tree → InOrder levels low high (moved levels fresh tree)
moved-order zero low high fresh tree order = order
moved-order (suc levels) low high fresh tree order = order

moved-list : (levels fresh : ℕ) (tree : TreeOf levels) → list_of Table levels (moved levels fresh tree) ≡ list_of Table levels tree
moved-list zero fresh tree = refl
moved-list (suc levels) fresh tree = refl

moved-full : (levels fresh : ℕ) (tree : TreeOf levels) → IsFullBelow levels tree → IsFullBelow levels (moved levels fresh tree)
moved-full zero fresh tree full = full
moved-full (suc levels) fresh tree full = full

moved-some : (levels fresh : ℕ) (tree : TreeOf levels) → 0 < length (own_cells levels tree) → 0 < length (own_cells levels (moved levels fresh tree))
moved-some zero fresh tree some = some
moved-some (suc levels) fresh tree some = some

siblings-moved : (levels : ℕ) (low high : ℤ) (fresh : ℕ) (siblings : List (TreeOf levels × TreeCell)) (tree : TreeOf levels) → BesideIn (InOrder levels) low high siblings tree
    → BesideIn (InOrder levels) low high siblings (moved levels fresh tree)
siblings-moved levels low high fresh [] tree order = moved-order levels low high fresh tree order
siblings-moved levels low high fresh (x ∷ xs) tree order = (order.0, siblings-moved levels x.1.view.rowid high fresh xs tree order.1)

-- Children that stay where they are.

pub cells-same : (levels i : ℕ) (children : List (TreeOf levels × TreeCell)) (home other : TreeOf levels) → cells_behind (children_with i children [] other) ≡ cells_behind (children_with i children [] home)
cells-same levels i [] home other = refl
cells-same levels zero (child ∷ children) home other = refl
cells-same levels (suc i) (child ∷ children) home other = ap (λ (cells : List TreeCell). child.1 ∷ cells) (cells-same levels i children home other)

pub last-same : (levels i : ℕ) (children : List (TreeOf levels × TreeCell)) (last home other : TreeOf levels) → page_of levels other ≡ page_of levels home
    → page_of levels (last_with i children last other) ≡ page_of levels (last_with i children last home)
last-same levels i [] last home other same = same
last-same levels zero (child ∷ children) last home other same = refl
last-same levels (suc i) (child ∷ children) last home other same = last-same levels i children last home other same

module _ (sizes : Sizes) where
  -- after a change, a page that is left over is given back
  turns-given : (a b c : Paged) (x y z : List ℕ) (p q r : List Trunk) (page : ℕ) → Within sizes a x p → Turns sizes a x p b y q → ((n : ℕ) → times n y ≡ hit page n + times n z)
      → Turns sizes b (page ∷ []) q c [] r → Turns sizes a x p c z r
  turns-given a b c x y z p q r page within t parts given =
      Turns-then sizes a b c x y z p q r within t (Turns-wide sizes b c (page ∷ []) [] y z q r (λ n. times n z) (λ n. omega (arith, parts n)) (λ n. omega arith) given)

  -- what is in hand beside that page is kept
  keeps-given : (b c : Paged) (y z : List ℕ) (q r : List Trunk) (page : ℕ) → Within sizes b y q → ((n : ℕ) → hit page n + times n z ≤ times n y) → Turns sizes b (page ∷ []) q c [] r → Keeps z b c
  keeps-given b c y z q r page within parts given = Turns-keeps sizes b c (page ∷ []) [] q r z (λ n. omega (arith, within n, parts n)) given

  -- A leaf loses a cell, whose overflow chain is in hand then.
  pub leaf-taken : (base : Paged) (tree : Leaf) (trunks : List Trunk) (front : List TreeCell) (cell : TreeCell) (back : List TreeCell) → Within sizes base (pages_of zero tree) trunks
      → Stands sizes base Table zero tree → tree.cells ≡ front ++ cell ∷ back
      → IsOpened sizes zero (member cell) (alone zero base tree trunks)
      (record { base = base; siblings = []; home = record { page = tree.page; cells = front ++ back }; trunks = trunks; first = cell.view.overflow; bytes = cell.view.payload - cell.view.local; chain = cell.chain })
  leaf-taken base tree trunks front cell back within stands cells =
      let held = IsHeld sizes base (leaf_kind Table) in
      let all = subst (AllByRecursion held) cells stands.1 in
      let rest = all-back held front (cell ∷ back) all in
      record {
        within = within;
        turns = Turns-same sizes base (pages_of zero tree) ((tree.page ∷ chain_pages (front ++ back)) ++ cell.chain) trunks
            (λ n. omega (arith, times-append n (tree.page ∷ chain_pages (front ++ back)) cell.chain, chains-without n front cell back, ap (λ (xs : List TreeCell). times n (chain_pages xs)) cells));
        siblings = tt;
        below = all-join held front back (all-front held front (cell ∷ back) all) rest.1;
        freed = rest.0.is_chain;
        bounds = λ low high order. rises-without (λ (c : TreeCell). c.view.rowid) low high front cell back (subst (λ (xs : List TreeCell). InOrder zero low high (record { page = tree.page; cells = xs })) cells order);
        list = record {
          front = map member front;
          back = map member back;
          old_is = ap (map member) cells ∙ map-append member front (cell ∷ back);
          new_is = map-append member front back;
        };
        full = λ _ _. (tt, tt);
      }

  -- What became of a group of children makes their parent, but for the writing of its own page.
  pub group-above : (levels : ℕ) (gone : Member) (page i : ℕ) (children : List (TreeOf levels × TreeCell)) (last : TreeOf levels) (before : Before levels) (after : After levels)
      → Within sizes before.base (pages_of (suc levels) (parent_with levels page i children last before.siblings before.home)) before.trunks
      → Stands sizes before.base Table (suc levels) (parent_with levels page i children last before.siblings before.home)
      → IsDeleted sizes levels gone before after → IsNumber sizes after.base (page_of levels after.home) → (page_of levels after.home ≡ page_of levels before.home) ⊎ (length children ≤ i)
      → (AllByRecursion (λ sibling. IsFull levels sibling.0) before.siblings → IsFull levels before.home → 0 < length (own_cells levels after.home))
      → IsOpened sizes (suc levels) gone (alone (suc levels) before.base (parent_with levels page i children last before.siblings before.home) before.trunks)
      (became levels (suc levels) after [] (parent_with levels page i children last after.siblings after.home) after.base after.trunks)
  group-above levels gone page i children last before after within stands done number place some =
      let o = done.opened in
      let old = parent_with levels page i children last before.siblings before.home in
      let new = parent_with levels page i children last after.siblings after.home in
      let count = λ (n : ℕ). group-count n levels i children last before.siblings before.home after.siblings after.home in
      let around = list-with Table levels i children last in
      let standing = group-stands sizes before.base after.base levels i children before.siblings last before.home after.siblings after.home o.turns.grows
      (λ n less. o.turns.kept n (omega (arith, within n, due-most sizes.size before.base.count n)) (omega (arith, within n, due-most sizes.size before.base.count n)) (omega (arith, within n, due-most sizes.size before.base.count n)))
      stands.1.0 stands.1.1 o.siblings (number, (done.own, o.below)) place in
      record {
        within = within;
        turns = Turns-wide sizes before.base after.base (hand_of before) (hand_after after) (pages_of (suc levels) old) (pages_of (suc levels) new ++ after.chain) before.trunks after.trunks
            (λ n. hit page n + times n (pages_beside levels old.children old.last) - times n (hand_of before))
            (λ n. omega (arith, count n))
            (λ n. omega (arith, count n, times-append n (pages_of (suc levels) new) after.chain, times-append n (pages_beside levels after.siblings after.home) after.chain))
            o.turns;
        siblings = tt;
        below = standing;
        freed = o.freed;
        bounds = λ low high order. group-order levels i low high children before.siblings last before.home after.siblings after.home o.bounds order;
        list = subst⁻¹ (λ (l : List Member). TakenOut gone l (list_beside Table levels new.children new.last)) (around.new before.siblings before.home)
            (subst⁻¹ (TakenOut gone (around.before ++ (list_beside Table levels before.siblings before.home ++ around.after))) (around.new after.siblings after.home)
            (taken-within gone around.before around.after (list_beside Table levels before.siblings before.home) (list_beside Table levels after.siblings after.home) o.list));
        full = λ _ full.
            let is = λ (child : TreeOf levels × TreeCell). IsFull levels child.0 in
            let group = group-of (IsFull levels) i children before.siblings last before.home full.0 full.1 in
            let made = o.full group.0 group.1.1 in
            let home : IsFull levels after.home = (some group.0 group.1, made.1) in (
              tt,
              (
                group-all is i children before.siblings before.home after.siblings after.home (λ cell _. home) made.0 full.0,
                group-last (IsFull levels) i children last before.home after.home home full.1,
              ),
            );
      }

  -- Two neighbours.

  pair-count : (n levels : ℕ) (left : TreeOf levels) (divider : TreeCell) (right : TreeOf levels)
      → times n (pages_beside levels ((left, divider) ∷ []) right) ≡ times n (pages_of levels left) + times n divider.chain + times n (pages_of levels right)
  pair-count n levels left divider right = beside-first n levels (left, divider) [] right

  pair-list : (levels : ℕ) (left : TreeOf levels) (divider : TreeCell) (right : TreeOf levels)
      → list_beside Table levels ((left, divider) ∷ []) right ≡ list_of Table levels left ++ list_of Table levels right
  pair-list levels left divider right = list-join Table levels [] [] left right divider

  -- One tree has become another, of which this is all.
  alone-count : (n levels : ℕ) (after : After levels) → after.siblings ≡ [] → times n (hand_after after) ≡ times n (pages_of levels after.home) + times n after.chain
  alone-count n levels after none =
      omega (arith, times-append n (pages_beside levels after.siblings after.home) after.chain, ap (λ (s : List (TreeOf levels × TreeCell)). times n (pages_beside levels s after.home)) none)

  -- The left one of two neighbours has had the delete.
  pub left-loose : (levels : ℕ) (gone : Member) (base : Paged) (left : TreeOf levels) (divider : TreeCell) (right : TreeOf levels) (trunks : List Trunk) (after : After levels)
      → Within sizes base (hand_of (pair levels base left divider right trunks)) trunks → HasBelow sizes base Table levels right
      → IsOpened sizes levels gone (alone levels base left trunks) after → after.siblings ≡ []
      → IsLoose sizes levels gone (pair levels base left divider right trunks) (became levels levels after ((after.home, divider) ∷ []) right after.base after.trunks)
  left-loose levels gone base left divider right trunks after within below o none =
      let new = pages_beside levels ((after.home, divider) ∷ []) right in
      let siblings = list_beside Table levels in
      record {
        within = within;
        turns = Turns-wide sizes base after.base (pages_of levels left) (hand_after after) (hand_of (pair levels base left divider right trunks)) (new ++ after.chain) trunks after.trunks
            (λ n. times n divider.chain + times n (pages_of levels right))
            (λ n. omega (arith, pair-count n levels left divider right))
            (λ n. omega (arith, pair-count n levels after.home divider right, times-append n new after.chain, alone-count n levels after none))
            o.turns;
        siblings = (o.below, tt);
        below = HasBelow-kept sizes base after.base Table levels right
            (Turns-keeps sizes base after.base (pages_of levels left) (hand_after after) trunks after.trunks (pages_below levels right)
            (λ n. omega (arith, within n, pair-count n levels left divider right, pages-parts n levels right)) o.turns) below;
        freed = o.freed;
        bounds = λ low high order.
            (subst (λ (s : List (TreeOf levels × TreeCell)). BesideIn (InOrder levels) low divider.view.rowid s after.home) none (o.bounds low divider.view.rowid order.0), order.1);
        list = subst⁻¹ (λ (l : List Member). TakenOut gone l (siblings ((after.home, divider) ∷ []) right)) (pair-list levels left divider right)
            (subst⁻¹ (TakenOut gone (list_of Table levels left ++ list_of Table levels right)) (pair-list levels after.home divider right)
            (taken-within gone [] (list_of Table levels right) (list_of Table levels left) (list_of Table levels after.home)
            (subst (λ (s : List (TreeOf levels × TreeCell)). TakenOut gone (list_of Table levels left) (list_beside Table levels s after.home)) none o.list)));
        full = λ full full_below. (((o.full tt full.0.1).1, tt), full_below);
      }

  -- The right one has had it.
  pub right-loose : (levels : ℕ) (gone : Member) (base : Paged) (left : TreeOf levels) (divider : TreeCell) (right : TreeOf levels) (trunks : List Trunk) (after : After levels)
      → Within sizes base (hand_of (pair levels base left divider right trunks)) trunks → HasBelow sizes base Table levels left
      → IsOpened sizes levels gone (alone levels base right trunks) after → after.siblings ≡ []
      → IsLoose sizes levels gone (pair levels base left divider right trunks) (became levels levels after ((left, divider) ∷ []) after.home after.base after.trunks)
  right-loose levels gone base left divider right trunks after within below o none =
      let new = pages_beside levels ((left, divider) ∷ []) after.home in
      let siblings = list_beside Table levels in
      record {
        within = within;
        turns = Turns-wide sizes base after.base (pages_of levels right) (hand_after after) (hand_of (pair levels base left divider right trunks)) (new ++ after.chain) trunks after.trunks
            (λ n. times n divider.chain + times n (pages_of levels left))
            (λ n. omega (arith, pair-count n levels left divider right))
            (λ n. omega (arith, pair-count n levels left divider after.home, times-append n new after.chain, alone-count n levels after none))
            o.turns;
        siblings = (
          HasBelow-kept sizes base after.base Table levels left
              (Turns-keeps sizes base after.base (pages_of levels right) (hand_after after) trunks after.trunks (pages_below levels left)
              (λ n. omega (arith, within n, pair-count n levels left divider right, pages-parts n levels left)) o.turns) below,
          tt,
        );
        below = o.below;
        freed = o.freed;
        bounds = λ low high order.
            (order.0, subst (λ (s : List (TreeOf levels × TreeCell)). BesideIn (InOrder levels) divider.view.rowid high s after.home) none (o.bounds divider.view.rowid high order.1));
        list = subst⁻¹ (λ (l : List Member). TakenOut gone l (siblings ((left, divider) ∷ []) after.home)) (pair-list levels left divider right)
            (subst⁻¹ (TakenOut gone (list_of Table levels left ++ list_of Table levels right)) (pair-list levels left divider after.home)
            (taken-behind gone (list_of Table levels left) (list_of Table levels right) (list_of Table levels after.home)
            (subst (λ (s : List (TreeOf levels × TreeCell)). TakenOut gone (list_of Table levels right) (list_beside Table levels s after.home)) none o.list)));
        full = λ full full_below. ((full.0.1, tt), (o.full tt full_below).1);
      }

  -- Two interior pages are joined over the divider between them, in the right one's page: the left one's is given back.
  pub pair-joined : (levels : ℕ) (gone : Member) (before : Before (suc levels)) (after : After (suc levels)) (left : TreeOf (suc levels)) (divider : TreeCell) (right whole : TreeOf (suc levels)) (base : Paged) (trunks : List Trunk)
      → IsLoose sizes (suc levels) gone before (became (suc levels) (suc levels) after ((left, divider) ∷ []) right after.base after.trunks) → (cut : IsInteriorCut whole left divider right)
      → IsBehind sizes after.base (interior_kind Table) cut.middle (page_of levels left.last) → Turns sizes after.base (left.page ∷ []) after.trunks base [] trunks
      → IsOpened sizes (suc levels) gone before (became (suc levels) (suc levels) after [] whole base trunks)
  pair-joined levels gone before after left divider right whole base trunks o cut behind given =
      let mid = pages_beside (suc levels) ((left, divider) ∷ []) right ++ after.chain in
      let new = pages_of (suc levels) whole ++ after.chain in
      let stands = StandsBefore sizes after.base Table levels in
      let is = λ (child : TreeOf levels × TreeCell). IsFull levels child.0 in
      let within = Turns-within sizes before.base after.base (hand_of before) mid before.trunks after.trunks o.within o.turns in
      let count = λ (n : ℕ).
      let one = times-append n (pages_beside (suc levels) ((left, divider) ∷ []) right) after.chain in
      let two = pair-count n (suc levels) left divider right in
      let three = cut-count sizes Table (suc levels) Table n whole left divider right cut in
      let four = times-append n (pages_of (suc levels) whole) after.chain in
      let all : times n mid ≡ hit left.page n + times n new = omega arith in
      all in
      let whole_below : HasBelow sizes after.base Table (suc levels) whole = (
        subst⁻¹ (AllByRecursion stands) cut.children (all-join stands left.children ((left.last, cut.middle) ∷ right.children) o.siblings.0.0 ((behind, o.siblings.0.1.1), o.below.0)),
        subst⁻¹ (StandsLast sizes after.base Table levels) cut.last o.below.1,
      ) in
      let kept = λ (others : List ℕ) (fewer : (n : ℕ) → times n others ≤ times n new). keeps-given after.base base mid others after.trunks trunks left.page within (λ n. omega (arith, count n, fewer n)) given in
      record {
        within = o.within;
        turns = turns-given before.base after.base base (hand_of before) mid new before.trunks after.trunks trunks left.page o.within o.turns count given;
        siblings = tt;
        below = HasBelow-kept sizes after.base base Table (suc levels) whole
            (kept (pages_below (suc levels) whole) (λ n. omega (arith, times-append n (pages_of (suc levels) whole) after.chain))) whole_below;
        freed = chain-kept sizes after.base base after.first after.bytes after.chain (kept after.chain (λ n. omega (arith, times-append n (pages_of (suc levels) whole) after.chain))) o.freed;
        bounds = λ low high order.
            let both = o.bounds low high order in
            let joined = order-join levels low high left.children left.last cut.middle right.children right.last
            (subst (λ (r : ℤ). BesideIn (InOrder levels) low r left.children left.last) cut.rowid both.0)
            (subst (λ (r : ℤ). BesideIn (InOrder levels) r high right.children right.last) cut.rowid both.1) in
            subst⁻¹ (λ (xs : List (TreeOf levels × TreeCell)). BesideIn (InOrder levels) low high xs whole.last) cut.children
            (subst⁻¹ (λ (l : TreeOf levels). BesideIn (InOrder levels) low high (left.children ++ (left.last, cut.middle) ∷ right.children) l) cut.last joined);
        list = subst (TakenOut gone (list_beside Table (suc levels) before.siblings before.home))
            (pair-list (suc levels) left divider right ∙ sym (parts-list levels whole left divider right cut)) o.list;
        full = λ full full_below.
            let both = o.full full full_below in (
              tt,
              (
                subst⁻¹ (AllByRecursion (λ (child : TreeOf levels × TreeCell). IsFull levels child.0)) cut.children
                    (all-join is left.children ((left.last, cut.middle) ∷ right.children) both.0.0.0 (both.0.0.1, both.1.0)),
                subst⁻¹ (IsFull levels) cut.last both.1.1,
              ),
            );
      }

  -- Of two leaves the left one has no cell any more: its page is given back, and the cell between them goes.
  pub left-leaf-gone : (gone : Member) (before : Before zero) (after : After zero) (left : Leaf) (divider : TreeCell) (right : Leaf) (base : Paged) (trunks : List Trunk)
      → IsLoose sizes zero gone before (became zero zero after ((left, divider) ∷ []) right after.base after.trunks) → left.cells ≡ [] → IsHeld sizes after.base (interior_kind Table) divider
      → HasOwnPage sizes after.base Table zero right → Turns sizes after.base (left.page ∷ []) after.trunks base [] trunks
      → IsDeleted sizes zero gone before (became zero zero after [] right base trunks)
  left-leaf-gone gone before after left divider right base trunks o empty held own given =
      let mid = pages_beside zero ((left, divider) ∷ []) right ++ after.chain in
      let new = pages_of zero right ++ after.chain in
      let within = Turns-within sizes before.base after.base (hand_of before) mid before.trunks after.trunks o.within o.turns in
      let count = λ (n : ℕ).
      let one = times-append n (pages_beside zero ((left, divider) ∷ []) right) after.chain in
      let two = pair-count n zero left divider right in
      let three = ap (λ (cells : List TreeCell). times n (chain_pages cells)) empty in
      let four = ap (λ (l : List ℕ). times n l) (divider-chain sizes after.base divider held) in
      let five = times-append n (pages_of zero right) after.chain in
      let all : times n mid ≡ hit left.page n + times n new = omega arith in
      all in
      let kept = λ (others : List ℕ) (fewer : (n : ℕ) → times n others ≤ times n new). keeps-given after.base base mid others after.trunks trunks left.page within (λ n. omega (arith, count n, fewer n)) given in
      let stands = Stands-kept sizes after.base base Table zero right (kept (pages_of zero right) (λ n. omega (arith, times-append n (pages_of zero right) after.chain))) (own, o.below) in
      record {
        opened = record {
          within = o.within;
          turns = turns-given before.base after.base base (hand_of before) mid new before.trunks after.trunks trunks left.page o.within o.turns count given;
          siblings = tt;
          below = stands.1;
          freed = chain-kept sizes after.base base after.first after.bytes after.chain (kept after.chain (λ n. omega (arith, times-append n (pages_of zero right) after.chain))) o.freed;
          bounds = λ low high order.
              let both = o.bounds low high order in
              let under = rises-bounds low divider.view.rowid (map (λ (c : TreeCell). c.view.rowid) left.cells) both.0 in
              order-wider zero low divider.view.rowid high high right under (omega (arith, ints)) both.1;
          list = subst (TakenOut gone (list_beside Table zero before.siblings before.home))
              (pair-list zero left divider right ∙ ap (λ (cells : List TreeCell). map member cells ++ list_of Table zero right) empty) o.list;
          full = λ _ _. (tt, tt);
        };
        own = stands.0;
      }

  -- The right one has none any more: it goes, and the left one stands in its place.
  pub right-leaf-gone : (gone : Member) (before : Before zero) (after : After zero) (left : Leaf) (divider : TreeCell) (right : Leaf) (base : Paged) (trunks : List Trunk)
      → IsLoose sizes zero gone before (became zero zero after ((left, divider) ∷ []) right after.base after.trunks) → right.cells ≡ [] → IsHeld sizes after.base (interior_kind Table) divider
      → HasOwnPage sizes after.base Table zero left → Turns sizes after.base (right.page ∷ []) after.trunks base [] trunks
      → IsDeleted sizes zero gone before (became zero zero after [] left base trunks)
  right-leaf-gone gone before after left divider right base trunks o empty held own given =
      let mid = pages_beside zero ((left, divider) ∷ []) right ++ after.chain in
      let new = pages_of zero left ++ after.chain in
      let within = Turns-within sizes before.base after.base (hand_of before) mid before.trunks after.trunks o.within o.turns in
      let count = λ (n : ℕ).
      let one = times-append n (pages_beside zero ((left, divider) ∷ []) right) after.chain in
      let two = pair-count n zero left divider right in
      let three = ap (λ (cells : List TreeCell). times n (chain_pages cells)) empty in
      let four = ap (λ (l : List ℕ). times n l) (divider-chain sizes after.base divider held) in
      let five = times-append n (pages_of zero left) after.chain in
      let all : times n mid ≡ hit right.page n + times n new = omega arith in
      all in
      let kept = λ (others : List ℕ) (fewer : (n : ℕ) → times n others ≤ times n new). keeps-given after.base base mid others after.trunks trunks right.page within (λ n. omega (arith, count n, fewer n)) given in
      let stands = Stands-kept sizes after.base base Table zero left (kept (pages_of zero left) (λ n. omega (arith, times-append n (pages_of zero left) after.chain))) (own, o.siblings.0) in
      record {
        opened = record {
          within = o.within;
          turns = turns-given before.base after.base base (hand_of before) mid new before.trunks after.trunks trunks right.page o.within o.turns count given;
          siblings = tt;
          below = stands.1;
          freed = chain-kept sizes after.base base after.first after.bytes after.chain (kept after.chain (λ n. omega (arith, times-append n (pages_of zero left) after.chain))) o.freed;
          bounds = λ low high order.
              let both = o.bounds low high order in
              let over = rises-bounds divider.view.rowid high (map (λ (c : TreeCell). c.view.rowid) right.cells) both.1 in
              order-wider zero low low divider.view.rowid high left (omega (arith, ints)) over both.0;
          list = subst (TakenOut gone (list_beside Table zero before.siblings before.home))
              (
              pair-list zero left divider right ∙ ap (λ (cells : List TreeCell). list_of Table zero left ++ map member cells) empty ∙ append-nil (list_of Table zero left)
              )
              o.list;
          full = λ _ _. (tt, tt);
        };
        own = stands.0;
      }

  -- Pages that are written.

  -- pages in hand beside one that is written are kept
  kept-beside : (old new : Paged) (page : ℕ) (hand others : List ℕ) (trunks : List Trunk) → Within sizes old hand trunks → Writes page old new → ((n : ℕ) → hit page n + times n others ≤ times n hand) → Keeps others old new
  kept-beside old new page hand others trunks within writes fewer = record {
    same = λ n some. ap (drop (header_place n)) (writes.others n (λ is. omega (arith, fewer n, within n, due-most sizes.size old.count n, ap (λ (m : ℕ). hit page m) is, hit-itself page)));
    grows = omega (arith, writes.count);
  }

  -- The own page is written.
  pub delete-settled : (levels : ℕ) (gone : Member) (before : Before levels) (after : After levels) (base : Paged) → IsOpened sizes levels gone before after
      → Writes (page_of levels after.home) after.base base → HasOwnPage sizes base Table levels after.home
      → IsDeleted sizes levels gone before (became levels levels after after.siblings after.home base after.trunks)
  delete-settled levels gone before after base o writes own =
      let within = Turns-within sizes before.base after.base (hand_of before) (hand_after after) before.trunks after.trunks o.within o.turns in
      let page = page_of levels after.home in
      let parts = λ (n : ℕ). hand-parts n levels after in
      let front = flat_map (λ (child : TreeOf levels × TreeCell). pages_of levels child.0 ++ child.1.chain) after.siblings in
      let kept = kept-beside after.base base page (hand_after after) in
      record {
        opened = record {
          within = o.within;
          turns = Turns-then sizes before.base after.base base (hand_of before) (hand_after after) (hand_after after) before.trunks after.trunks after.trunks o.within o.turns
              (Turns-write sizes after.base base page (hand_after after) after.trunks within (omega (arith, parts page, hit-itself page)) writes);
          siblings = children-kept sizes after.base base Table levels (Stands-kept sizes after.base base Table levels) after.siblings (kept front after.trunks within writes (λ n. omega (arith, parts n))) o.siblings;
          below = HasBelow-kept sizes after.base base Table levels after.home (kept (pages_below levels after.home) after.trunks within writes (λ n. omega (arith, parts n))) o.below;
          freed = chain-kept sizes after.base base after.first after.bytes after.chain (kept after.chain after.trunks within writes (λ n. omega (arith, parts n))) o.freed;
          bounds = o.bounds;
          list = o.list;
          full = o.full;
        };
        own = own;
      }

  -- The page of an interior page's tree is cut, and its front is put on a page that was taken.
  pub delete-cut : (levels : ℕ) (gone : Member) (before : Before (suc levels)) (after : After (suc levels)) (left : TreeOf (suc levels)) (divider : TreeCell) (right : TreeOf (suc levels)) (base : Paged) (trunks : List Trunk)
      → IsOpened sizes (suc levels) gone before after → IsInteriorCut after.home left divider right → Turns sizes after.base [] after.trunks base (left.page ∷ []) trunks
      → HasOwnPage sizes base Table (suc levels) left → IsBehind sizes base (interior_kind Table) divider left.page
      → 0 < length (own_cells (suc levels) left) → 0 < length (own_cells (suc levels) right) → IsOpened sizes (suc levels) gone before (cut_after (suc levels) after left divider right base trunks)
  delete-cut levels gone before after left divider right base trunks o cut taken own behind some_left some_right =
      let within = Turns-within sizes before.base after.base (hand_of before) (hand_after after) before.trunks after.trunks o.within o.turns in
      let keeps : Keeps (hand_after after) after.base base =
      Turns-keeps sizes after.base base [] (left.page ∷ []) after.trunks trunks (hand_after after) (λ n. omega (arith, within n)) taken in
      let parts = λ (n : ℕ). hand-parts n (suc levels) after in
      let new = cut_after (suc levels) after left divider right base trunks in
      let front = flat_map (λ (child : TreeOf (suc levels) × TreeCell). pages_of (suc levels) child.0 ++ child.1.chain) after.siblings in
      let is = λ (child : TreeOf levels × TreeCell). IsFull levels child.0 in
      let stands = StandsBefore sizes base Table levels in
      let below = HasBelow-kept sizes after.base base Table (suc levels) after.home (keeps-fewer after.base base (hand_after after) (pages_below (suc levels) after.home) (λ n some. omega (arith, parts n)) keeps) o.below in
      let all = subst (AllByRecursion stands) cut.children below.0 in
      let back = all-back stands left.children ((left.last, cut.middle) ∷ right.children) all in
      let siblings = children-kept sizes after.base base Table (suc levels) (Stands-kept sizes after.base base Table (suc levels)) after.siblings
      (keeps-fewer after.base base (hand_after after) front (λ n some. omega (arith, parts n)) keeps) o.siblings in
      record {
        within = o.within;
        turns = Turns-then sizes before.base after.base base (hand_of before) (hand_after after) (hand_after new) before.trunks after.trunks trunks o.within o.turns
            (
            Turns-wide sizes after.base base [] (left.page ∷ []) (hand_after after) (hand_after new) after.trunks trunks (λ n. times n (hand_after after))
            (λ n. omega arith)
            (λ n.
            omega (
              arith,
              times-append n (pages_beside (suc levels) after.siblings after.home) after.chain,
              times-append n front (pages_of (suc levels) after.home),
              times-append n (pages_beside (suc levels) (after.siblings ++ (left, divider) ∷ []) right) after.chain,
              beside-join n (suc levels) after.siblings [] left right divider,
              times-append n front (pages_of (suc levels) left),
              cut-count sizes Table (suc levels) Table n after.home left divider right cut,
            ))
            taken
            );
        siblings = all-join (StandsBefore sizes base Table (suc levels)) after.siblings ((left, divider) ∷ []) siblings
            ((behind, (own, (all-front stands left.children ((left.last, cut.middle) ∷ right.children) all, (back.0.0.in_range, back.0.1)))), tt);
        below = (back.1, subst (StandsLast sizes base Table levels) cut.last below.1);
        freed = chain-kept sizes after.base base after.first after.bytes after.chain (keeps-fewer after.base base (hand_after after) after.chain (λ n some. omega (arith, parts n)) keeps) o.freed;
        bounds = λ low high order. cut-order levels low high after.siblings after.home left divider right cut (o.bounds low high order);
        list = subst (TakenOut gone (list_beside Table (suc levels) before.siblings before.home)) (cut-list levels after.siblings after.home left divider right cut) o.list;
        full = λ full full_below.
            let old = o.full full full_below in
            let old_all = subst (AllByRecursion (λ (child : TreeOf levels × TreeCell). IsFull levels child.0)) cut.children old.1.0 in
            let full_back = all-back is left.children ((left.last, cut.middle) ∷ right.children) old_all in (
              all-join (λ sibling. IsFull (suc levels) sibling.0) after.siblings ((left, divider) ∷ []) old.0
                  ((some_left, (all-front is left.children ((left.last, cut.middle) ∷ right.children) old_all, full_back.0)), tt),
              (full_back.1, subst (IsFull levels) cut.last old.1.1),
            );
      }

  -- The parent of a child that stays in its page, with no cell of its own changed, is not written.
  pub parent-untouched : (levels : ℕ) (gone : Member) (page i : ℕ) (children : List (TreeOf levels × TreeCell)) (last : TreeOf levels) (before : Before levels) (after : After levels)
      → IsOpened sizes (suc levels) gone (alone (suc levels) before.base (parent_with levels page i children last [] before.home) before.trunks)
      (became levels (suc levels) after [] (parent_with levels page i children last [] after.home) after.base after.trunks)
      → page_of levels after.home ≡ page_of levels before.home → HasOwnPage sizes before.base Table (suc levels) (parent_with levels page i children last [] before.home)
      → SamePage page (before.base.pages page) (after.base.pages page)
      → IsDeleted sizes (suc levels) gone (alone (suc levels) before.base (parent_with levels page i children last [] before.home) before.trunks)
      (became levels (suc levels) after [] (parent_with levels page i children last [] after.home) after.base after.trunks)
  parent-untouched levels gone page i children last before after o same own kept =
      let old = parent_with levels page i children last [] before.home in
      let here = own-kept sizes before.base after.base Table (suc levels) old kept own in
      let is_page = IsPage (after.base.pages page) page sizes.usable (interior_kind Table) in
      record {
        opened = o;
        own = subst⁻¹ (λ (cells : List TreeCell). is_page (map (λ (cell : TreeCell). cell.bytes) cells) (page_of levels (last_with i children last after.home))) (cells-same levels i children before.home after.home)
            (subst⁻¹ (is_page (map (λ (cell : TreeCell). cell.bytes) (own_cells (suc levels) old))) (last-same levels i children last before.home after.home same) here);
      }

  moved-below : (base : Paged) (levels fresh : ℕ) (tree : TreeOf levels) → HasBelow sizes base Table levels tree → HasBelow sizes base Table levels (moved levels fresh tree)
  moved-below base zero fresh tree below = below
  moved-below base (suc levels) fresh tree below = below

  -- Roots.

  -- A root that stays in its page, and keeps a cell where it needs one.
  pub root-stays : (levels : ℕ) (gone : Member) (base : Paged) (tree : TreeOf levels) (trunks : List Trunk) (after : After levels) → IsDeleted sizes levels gone (alone levels base tree trunks) after
      → after.siblings ≡ [] → page_of levels after.home ≡ page_of levels tree → (0 < levels → page_of levels after.home ≢ 1 → 0 < length (own_cells levels after.home))
      → IsRootDeleted sizes levels gone base tree trunks after.base (record { kind = Table; levels = levels; tree = after.home }) after.first after.bytes after.chain after.trunks
  root-stays levels gone base tree trunks after done none page some =
      let o = done.opened in
      record {
        turns = subst (λ (s : List (TreeOf levels × TreeCell)). Turns sizes base (pages_of levels tree) trunks after.base (pages_beside levels s after.home ++ after.chain) after.trunks) none o.turns;
        kind_is = refl;
        stands = (done.own, o.below);
        freed = o.freed;
        root = page;
        bounds = λ low high order. subst (λ (s : List (TreeOf levels × TreeCell)). BesideIn (InOrder levels) low high s after.home) none (o.bounds low high order);
        list = subst (λ (s : List (TreeOf levels × TreeCell)). TakenOut gone (list_of Table levels tree) (list_beside Table levels s after.home)) none o.list;
        full = λ full. record { below = (o.full tt full.below).1; root = some };
      }

  -- one child has had the delete, but for its own page
  pub sunk-child : (levels : ℕ) (gone : Member) (page : ℕ) (before : Before levels) (after : After levels) → IsOpened sizes levels gone before after → after.siblings ≡ []
      → (0 < levels → page ≢ 1 → 0 < length (own_cells levels after.home)) → IsSunk sizes levels gone page before after
  sunk-child levels gone page before after o none some = record {
    none = none;
    turns = Turns-wide sizes before.base after.base (hand_of before) (hand_after after) (page ∷ hand_of before) (page ∷ hand_after after) before.trunks after.trunks (hit page) (λ n. omega arith) (λ n. omega arith) o.turns;
    below = o.below;
    freed = o.freed;
    bounds = λ low high order. subst (λ (s : List (TreeOf levels × TreeCell)). BesideIn (InOrder levels) low high s after.home) none (o.bounds low high order);
    list = subst (λ (s : List (TreeOf levels × TreeCell)). TakenOut gone (list_beside Table levels before.siblings before.home) (list_beside Table levels s after.home)) none o.list;
    full = λ siblings home. ((o.full siblings home.1).1, some);
  }

  -- the root is to have no cell, and one child, which stands
  pub sunk-root : (levels : ℕ) (gone : Member) (base : Paged) (tree : TreeOf (suc levels)) (trunks : List Trunk) (last : TreeOf levels) (new : Paged) (rest : List Trunk) (first bytes : ℕ) (chain : List ℕ)
      → IsOpened sizes (suc levels) gone (alone (suc levels) base tree trunks)
      (record { base = new; siblings = []; home = record { page = tree.page; children = []; last = last }; trunks = rest; first = first; bytes = bytes; chain = chain })
      → IsSunk sizes levels gone tree.page (record { base = base; siblings = tree.children; home = tree.last; trunks = trunks })
      (record { base = new; siblings = []; home = last; trunks = rest; first = first; bytes = bytes; chain = chain })
  sunk-root levels gone base tree trunks last new rest first bytes chain o = record {
    none = refl;
    turns = o.turns;
    below = o.below.1.1.1;
    freed = o.freed;
    bounds = o.bounds;
    list = o.list;
    full = λ children home. let made = o.full tt (children, home) in (made.1.1.1, λ deep other. made.1.1.0);
  }

  -- A root without a cell takes the content of its only child, whose page is given back: so the tree has a level less.
  pub root-sinks : (levels : ℕ) (gone : Member) (page : ℕ) (before : Before levels) (after : After levels) (mid new : Paged) (trunks : List Trunk) → IsSunk sizes levels gone page before after
      → Within sizes before.base (page ∷ hand_of before) before.trunks → Writes page after.base mid → HasOwnPage sizes mid Table levels (moved levels page after.home)
      → Turns sizes mid (page_of levels after.home ∷ []) after.trunks new [] trunks
      → IsRootDeleted sizes (suc levels) gone before.base (record { page = page; children = before.siblings; last = before.home }) before.trunks new
      (record { kind = Table; levels = levels; tree = moved levels page after.home }) after.first after.bytes after.chain trunks
  root-sinks levels gone page before after mid new trunks s within writes own given =
      let home = moved levels page after.home in
      let hand = page ∷ hand_of before in
      let later = page ∷ hand_after after in
      let final = pages_of levels home ++ after.chain in
      let within_later = Turns-within sizes before.base after.base hand later before.trunks after.trunks within s.turns in
      let written = Turns-write sizes after.base mid page later after.trunks within_later (omega (arith, hit-itself page)) writes in
      let within_mid = Turns-within sizes after.base mid later later after.trunks after.trunks within_later written in
      let whole = λ (n : ℕ). alone-count n levels after s.none in
      let parts = λ (n : ℕ). pages-parts n levels after.home in
      let new_parts = λ (n : ℕ).
      let one = pages-parts n levels home in
      let two = ap (λ (p : ℕ). hit p n) (moved-page sizes Table levels page after.home) in
      let three = ap (times n) (moved-rest levels page after.home) in
      let four = times-append n (pages_of levels home) after.chain in
      let all : times n final ≡ hit page n + times n (pages_below levels after.home) + times n after.chain = omega arith in
      all in
      let count = λ (n : ℕ).
      let all : times n later ≡ hit (page_of levels after.home) n + times n final = omega (arith, whole n, parts n, new_parts n) in
      all in
      let beside = kept-beside after.base mid page later in
      let kept = λ (others : List ℕ) (fewer : (n : ℕ) → times n others ≤ times n final). keeps-given mid new later others after.trunks trunks (page_of levels after.home) within_mid (λ n. omega (arith, count n, fewer n)) given in
      let below = moved-below mid levels page after.home
      (HasBelow-kept sizes after.base mid Table levels after.home (beside (pages_below levels after.home) after.trunks within_later writes (λ n. omega (arith, whole n, parts n))) s.below) in
      record {
        turns = turns-given before.base mid new hand later final before.trunks after.trunks trunks (page_of levels after.home) within
            (Turns-then sizes before.base after.base mid hand later later before.trunks after.trunks after.trunks within s.turns written) count given;
        kind_is = refl;
        stands = Stands-kept sizes mid new Table levels home (kept (pages_of levels home) (λ n. omega (arith, times-append n (pages_of levels home) after.chain))) (own, below);
        freed = chain-kept sizes mid new after.first after.bytes after.chain (kept after.chain (λ n. omega (arith, times-append n (pages_of levels home) after.chain)))
            (chain-kept sizes after.base mid after.first after.bytes after.chain (beside after.chain after.trunks within_later writes (λ n. omega (arith, whole n, parts n))) s.freed);
        root = moved-page sizes Table levels page after.home;
        bounds = λ low high order. moved-order levels low high page after.home (s.bounds low high order);
        list = subst⁻¹ (TakenOut gone (list_beside Table levels before.siblings before.home)) (moved-list levels page after.home) s.list;
        full = λ full.
            let made = s.full full.below.0 full.below.1 in
            record {
              below = moved-full levels page after.home made.0;
              root = λ deep other. moved-some levels page after.home (made.1 deep (λ is. other (moved-page sizes Table levels page after.home ∙ is)));
            };
      }

  -- A root beside which siblings stand, since a divider became longer, gets a level: what its page is to have is put on a page that was taken, and then the root is written with the cells between the siblings.
  pub root-rises : (levels : ℕ) (gone : Member) (before : Before levels) (after : After levels) (fresh : ℕ) (mid new : Paged) (trunks : List Trunk) → IsOpened sizes levels gone before after → before.siblings ≡ []
      → page_of levels after.home ≡ page_of levels before.home → Turns sizes after.base [] after.trunks mid (fresh ∷ []) trunks → IsNumber sizes mid fresh → HasOwnPage sizes mid Table levels (moved levels fresh after.home)
      → Writes (page_of levels after.home) mid new → HasOwnPage sizes new Table (suc levels) (deeper levels after fresh) → 0 < length (own_cells levels after.home)
      → (page_of levels after.home ≢ 1 → 0 < length (own_cells (suc levels) (deeper levels after fresh)))
      → IsRootDeleted sizes levels gone before.base before.home before.trunks new (record { kind = Table; levels = suc levels; tree = deeper levels after fresh }) after.first after.bytes after.chain trunks
  root-rises levels gone before after fresh mid new trunks o alone_was same taken number own writes root filled some =
      let page = page_of levels after.home in
      let home = moved levels fresh after.home in
      let within = Turns-within sizes before.base after.base (hand_of before) (hand_after after) before.trunks after.trunks o.within o.turns in
      let keeps : Keeps (hand_after after) after.base mid = Turns-keeps sizes after.base mid [] (fresh ∷ []) after.trunks trunks (hand_after after) (λ n. omega (arith, within n)) taken in
      let parts = λ (n : ℕ). hand-parts n levels after in
      let front = flat_map (λ (child : TreeOf levels × TreeCell). pages_of levels child.0 ++ child.1.chain) after.siblings in
      let hand = pages_of (suc levels) (deeper levels after fresh) ++ after.chain in
      let new_parts = λ (n : ℕ).
      let whole = times-append n (pages_of (suc levels) (deeper levels after fresh)) after.chain in
      let inner = times-append n front (pages_of levels home) in
      let own_page = pages-parts n levels home in
      let moved_page = ap (λ (p : ℕ). hit p n) (moved-page sizes Table levels fresh after.home) in
      let rest = ap (times n) (moved-rest levels fresh after.home) in
      let all : times n hand ≡ hit page n + times n front + hit fresh n + times n (pages_below levels after.home) + times n after.chain = omega arith in
      all in
      let step : Turns sizes after.base (hand_after after) after.trunks mid hand trunks =
      Turns-wide sizes after.base mid [] (fresh ∷ []) (hand_after after) hand after.trunks trunks (λ n. times n (hand_after after)) (λ n. omega arith) (λ n. omega (arith, parts n, new_parts n)) taken in
      let later = Turns-within sizes after.base mid (hand_after after) hand after.trunks trunks within step in
      let kept = kept-beside mid new page hand in
      let siblings = children-kept sizes mid new Table levels (Stands-kept sizes mid new Table levels) after.siblings (kept front trunks later writes (λ n. omega (arith, new_parts n)))
      (children-kept sizes after.base mid Table levels (Stands-kept sizes after.base mid Table levels) after.siblings (keeps-fewer after.base mid (hand_after after) front (λ n more. omega (arith, parts n)) keeps) o.siblings) in
      let below = moved-below mid levels fresh after.home
      (HasBelow-kept sizes after.base mid Table levels after.home (keeps-fewer after.base mid (hand_after after) (pages_below levels after.home) (λ n more. omega (arith, parts n)) keeps) o.below) in
      let home_stands : Stands sizes new Table levels home =
      Stands-kept sizes mid new Table levels home
      (kept (pages_of levels home) trunks later writes (λ n. omega (arith, new_parts n, pages-parts n levels home, ap (λ (p : ℕ). hit p n) (moved-page sizes Table levels fresh after.home), ap (times n) (moved-rest levels fresh after.home))))
      (own, below) in
      record {
        turns = subst (λ (s : List (TreeOf levels × TreeCell)). Turns sizes before.base (pages_beside levels s before.home) before.trunks new hand trunks) alone_was
            (Turns-then sizes before.base after.base new (hand_of before) (hand_after after) hand before.trunks after.trunks trunks o.within o.turns
            (Turns-then sizes after.base mid new (hand_after after) hand hand after.trunks trunks trunks within step (Turns-write sizes mid new page hand trunks later (omega (arith, new_parts page, hit-itself page)) writes)));
        kind_is = refl;
        stands = (
          root,
          (
            siblings,
            (
              subst⁻¹ (IsNumber sizes new) (moved-page sizes Table levels fresh after.home) (IsInRange-wider sizes.size mid.count new.count fresh (omega (arith, writes.count)) number),
              home_stands,
            ),
          ),
        );
        freed = chain-kept sizes mid new after.first after.bytes after.chain (kept after.chain trunks later writes (λ n. omega (arith, new_parts n)))
            (chain-kept sizes after.base mid after.first after.bytes after.chain (keeps-fewer after.base mid (hand_after after) after.chain (λ n more. omega (arith, parts n)) keeps) o.freed);
        root = same;
        bounds = λ low high order. siblings-moved levels low high fresh after.siblings after.home
            (o.bounds low high (subst⁻¹ (λ (s : List (TreeOf levels × TreeCell)). BesideIn (InOrder levels) low high s before.home) alone_was order));
        list = subst (λ (s : List (TreeOf levels × TreeCell)). TakenOut gone (list_beside Table levels s before.home) (list_of Table (suc levels) (deeper levels after fresh))) alone_was
            (subst⁻¹ (λ (l : List Member). TakenOut gone (list_beside Table levels before.siblings before.home) (flat_map (λ (child : TreeOf levels × TreeCell). list_of Table levels child.0 ++ between Table child.1) after.siblings ++ l))
            (moved-list levels fresh after.home) o.list);
        full = λ full.
            let made = o.full (subst⁻¹ (AllByRecursion (λ (child : TreeOf levels × TreeCell). IsFull levels child.0)) alone_was tt) full.below in
            record {
              below = (made.0, (moved-some levels fresh after.home filled, moved-full levels fresh after.home made.1));
              root = λ deep other. some other;
            };
      }
