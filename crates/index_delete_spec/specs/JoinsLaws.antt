-- A cell of an interior page and the two children beside it: the entry before the cell takes its place, or the children are joined over it. Crates above cite these facts in their proofs.
use Rattle.std.proofs.Common.{◌≡◌, ℕ, zero, suc, ◌+◌, ◌<◌, ◌≤◌, Bool, true, false, List, [], ◌∷◌, ◌++◌, length, map, refl, sym, ap, ◌∙◌, subst, inl, arith, length-append}
use Rattle.std.proofs.Math.Path.{subst⁻¹}
use Rattle.std.specs.List.{AllByRecursion}
use Rattle.std.proofs.lemmas.List.{map-append, length-map}
use Rattle.format_spec.specs.declared.PageKind.TheVariants.{IndexInterior}
use Rattle.format_spec.specs.Cell.{IsCell}
use Rattle.page_spec.specs.Counts.{times}
use Rattle.page_spec.specs.CountsLaws.{times-append, hit-itself}
use Rattle.page_spec.specs.FreelistsLaws.{IsInRange-wider}
use Rattle.page_spec.specs.Freelists.{Trunk}
use Rattle.tree_spec.specs.declared.TreeKind.TheVariants.{Index}
use Rattle.tree_spec.specs.Trees.{TreeCell, TreeOf, interior_kind, kind_at, page_of, own_cells, own_right, cells_behind, pages_of, pages_beside, IsFull, IsFullBelow}
use Rattle.tree_spec.specs.Standing.{Sizes, Paged, IsNumber, HasBelow, Stands, StandsBefore, StandsLast}
use Rattle.tree_spec.specs.StandingLaws.{held-kept, Stands-kept}
use Rattle.tree_spec.specs.Worlds.{IsFree}
use Rattle.tree_spec.specs.WorldsLaws.{all-front, all-back, all-join}
use Rattle.tree_spec.specs.Changes.{Within}
use Rattle.tree_spec.specs.ChangesLaws.{Turns-keeps}
use Rattle.put_spec.specs.Children.{child_at}
use Rattle.put_spec.specs.ChildrenLaws.{beside-first, child-stands}
use Rattle.put_spec.specs.PutsLaws.{pages-parts}
use Rattle.put_spec.specs.Steps.{Spelled, spelled, HasCells, child_page, with_dividers, IsRaised, IsSettled, Releases}
use Rattle.put_spec.specs.SpelledLaws.{page-tells}
use Rattle.put_spec.specs.ParentsLaws.{child-page}
use Rattle.delete_spec.specs.Deletes.{hand_of, alone, pair, parent_with}
use Rattle.delete_spec.specs.NeighboursLaws.{alone-among, pair-among, group-count}
use Rattle.delete_spec.specs.DeletesLaws.{last-same}
use Rattle.delete_spec.specs.CutsLaws.{dividers-in}
use Rattle.delete_spec.specs.StepsLaws.{around-map, spelled-children}
use Rattle.index_delete_spec.specs.PartsLaws.{child-number, not-free, pair-count, raised-held}
use Rattle.index_delete_spec.specs.Deletes.{After, hand_after, IsOut, IsOpened, IsLoose, IsDeleted}
use Rattle.index_delete_spec.specs.DeletesLaws.{IsMiddle, joined, left-loose, right-loose, entry-replaced, pair-joined, group-above}
use Rattle.index_delete_spec.specs.CutsLaws.{cut-settled}
use Rattle.index_delete_spec.specs.Steps.{cell_of, IsReady, OpenedDone, OpensBelow, EmptiesBelow, GrowsBelow}

-- cells behind children, one of which is told
behind-among : {Child : Type 0} (xs : List (Child × TreeCell)) (child : Child) (cell : TreeCell) (ys : List (Child × TreeCell))
    → map spelled (cells_behind (xs ++ (child, cell) ∷ ys)) ≡ map spelled (cells_behind xs) ++ spelled cell ∷ map spelled (cells_behind ys)
behind-among [] child cell ys = refl
behind-among (x ∷ xs) child cell ys = ap (λ (l : List Spelled). spelled x.1 ∷ l) (behind-among xs child cell ys)

module _ (sizes : Sizes) where
  joined-cells : (levels : ℕ) (left : TreeOf levels) (middle : TreeCell) (right : TreeOf levels)
      → map spelled (own_cells levels left) ++ spelled middle ∷ map spelled (own_cells levels right) ≡ map spelled (own_cells levels (joined sizes levels left middle right))
  joined-cells zero left middle right = sym (map-append spelled left.cells (middle ∷ right.cells))
  joined-cells (suc levels) left middle right = sym (behind-among left.children left.last middle right.children)

  joined-right : (levels : ℕ) (left : TreeOf levels) (middle : TreeCell) (right : TreeOf levels) → own_right levels right ≡ own_right levels (joined sizes levels left middle right)
  joined-right zero left middle right = refl
  joined-right (suc levels) left middle right = refl

  joined-page : (levels : ℕ) (left : TreeOf levels) (middle : TreeCell) (right : TreeOf levels) → page_of levels (joined sizes levels left middle right) ≡ page_of levels right
  joined-page zero left middle right = refl
  joined-page (suc levels) left middle right = refl

  -- the cell that came down, in the page of both
  middle-there : (levels : ℕ) (base : Paged) (left : TreeOf levels) (middle : Spelled) (between : TreeCell) → IsOut sizes base between → IsRaised middle (spelled between) → IsCell (kind_at Index levels) sizes.usable middle.bytes middle.view
      → HasBelow sizes base Index levels left → (0 < levels → middle.view.child ≡ own_right levels left) → IsMiddle sizes levels base left (cell_of middle between.payload between.chain)
  middle-there zero base left middle between out raised is below names = raised-held sizes base out.0 (kind_at Index zero) middle between raised is out.1
  middle-there (suc levels) base left middle between out raised is below names = record {
    held = raised-held sizes base out.0 (interior_kind Index) middle between raised is out.1;
    names = names (omega arith);
    in_range = below.1.0;
  }

module _ (sizes : Sizes) (levels : ℕ) where
  -- two neighbours were joined, but for the writing of the page, which is to have these cells
  pub record HasOpenedPair (ends : Bool) (out : Spelled) (old : Paged) (left : TreeOf levels) (divider : TreeCell) (right : TreeOf levels) (trunks : List Trunk) (given : Paged) (cells : List Spelled) (last : ℕ) : Type 0 where
    pub home : TreeOf levels
    pub rest : List Trunk
    pub payload : List ℕ
    pub chain : List ℕ
    pub opened : IsOpened sizes levels ends (pair levels old left divider right trunks) (record { base = given; siblings = []; home = home; trunks = rest; out = cell_of out payload chain })
    pub page : page_of levels home ≡ page_of levels right
    pub cells_are : cells ≡ map spelled (own_cells levels home)
    pub last_is : last ≡ own_right levels home
    pub free : IsFree sizes given rest

  module _ (ends : Bool) (old : Paged) (left : TreeOf levels) (divider : TreeCell) (right : TreeOf levels) (trunks : List Trunk) (mid given : Paged) (within : Within sizes old (hand_of (pair levels old left divider right trunks)) trunks)
      (free : IsFree sizes old trunks) where
    join : (out : TreeCell) (rest : List Trunk) (l : TreeOf levels) (between : TreeCell) (middle : Spelled) (r : TreeOf levels)
        → IsLoose sizes levels ends (pair levels old left divider right trunks) (record { base = mid; siblings = (l, between) ∷ []; home = r; trunks = rest; out = out })
        → IsOut sizes mid between → IsRaised middle (spelled between) → IsCell (kind_at Index levels) sizes.usable middle.bytes middle.view → (0 < levels → middle.view.child ≡ own_right levels l)
        → Releases sizes (page_of levels l) mid given → page_of levels r ≡ page_of levels right
        → HasOpenedPair ends (spelled out) old left divider right trunks given (map spelled (own_cells levels l) ++ middle ∷ map spelled (own_cells levels r)) (own_right levels r)
    join out rest l between middle r o held raised is names gives page =
        let after : After levels = record { base = mid; siblings = (l, between) ∷ []; home = r; trunks = rest; out = out } in
        let cell = cell_of middle between.payload between.chain in
        let hand = pages_beside levels ((l, between) ∷ []) r ++ out.chain in
        let in_hand : 0 < times (page_of levels l) hand =
        omega (
          arith,
          times-append (page_of levels l) (pages_beside levels ((l, between) ∷ []) r) out.chain,
          beside-first (page_of levels l) levels (l, between) [] r,
          pages-parts (page_of levels l) levels l,
          hit-itself (page_of levels l),
        ) in
        let g = gives rest (o.turns.freelist free) (not-free sizes old mid (hand_of (pair levels old left divider right trunks)) hand trunks rest (page_of levels l) within o.turns in_hand) in
        let opened = pair-joined sizes ends levels (pair levels old left divider right trunks) after l between cell r given g.0 o (sym raised.rowid) refl refl
        (middle-there sizes levels mid l middle between held raised is o.siblings.0 names) g.1 in
        record {
          home = joined sizes levels l cell r;
          rest = g.0;
          payload = out.payload;
          chain = out.chain;
          opened = opened;
          page = joined-page sizes levels l cell r ∙ page;
          cells_are = joined-cells sizes levels l cell r;
          last_is = joined-right sizes levels l cell r;
          free = opened.turns.freelist free;
        }

  module _ (old : Paged) (left : TreeOf levels) (divider : TreeCell) (right : TreeOf levels) (trunks : List Trunk) (mid given : Paged) (middle : Spelled) (within : Within sizes old (hand_of (pair levels old left divider right trunks)) trunks)
      (before : StandsBefore sizes old Index levels (left, divider)) (behind : StandsLast sizes old Index levels right) (free : IsFree sizes old trunks) (is_cell : IsCell (kind_at Index levels) sizes.usable middle.bytes middle.view) where
    -- The right one has no cell any more: the cells of the left one and the cell between go in front of what is left of it.
    right-opened : (ends : Bool) (out : Spelled) (only : ℕ) (cells : List Spelled) (last : ℕ) → IsRaised middle (spelled divider) → EmptiesBelow sizes ends out levels (page_of levels right) only old mid
        → HasCells sizes mid (kind_at Index levels) (page_of levels left) cells last → (0 < levels → middle.view.child ≡ last) → Releases sizes (page_of levels left) mid given
        → HasOpenedPair ends out old left divider right trunks given (cells ++ middle ∷ []) only
    right-opened ends out only cells last raised empties has names gives =
        let e = empties right trunks refl free (record { within = λ n. omega (arith, within n, pair-count n levels left divider right); stands = behind.1 }) in
        let after : After levels = record { base = mid; siblings = []; home = e.home; trunks = e.rest; out = cell_of out e.payload e.chain } in
        let kept = λ (numbers : List ℕ) (fewer : (n : ℕ) → times n numbers + times n (pages_of levels right) ≤ times n (pages_beside levels ((left, divider) ∷ []) right)).
        Turns-keeps sizes old mid (pages_of levels right) (hand_after after) trunks e.rest numbers (λ n. omega (arith, within n, fewer n)) e.opened.turns in
        let stays = Stands-kept sizes old mid Index levels left (kept (pages_of levels left) (λ n. omega (arith, pair-count n levels left divider right))) before.1 in
        let told = page-tells sizes mid Index levels (page_of levels left) left cells last refl has stays in
        let loose = right-loose sizes ends levels old left divider right trunks after within before.1.1 e.opened refl in
        let held = held-kept sizes old mid (interior_kind Index) divider (kept divider.chain (λ n. omega (arith, pair-count n levels left divider right))) before.0.held in
        let made = join ends old left divider right trunks mid given within free (cell_of out e.payload e.chain) e.rest left divider middle e.home loose (interior_kind Index, held) raised is_cell (λ deep. names deep ∙ told.1) gives e.page in
        let same : cells ++ middle ∷ [] ≡ map spelled (own_cells levels left) ++ middle ∷ map spelled (own_cells levels e.home) =
        λ i. told.0 i ++ middle ∷ e.cells_are i in
        subst⁻¹ (λ (so : List Spelled). HasOpenedPair ends out old left divider right trunks given so only) same
        (subst⁻¹ (λ (n : ℕ). HasOpenedPair ends out old left divider right trunks given (map spelled (own_cells levels left) ++ middle ∷ map spelled (own_cells levels e.home)) n) e.right_is made)

    -- The left one has none any more: what is left of it and the cell between go in front of the cells of the right one.
    module _ (only : ℕ) (cells : List Spelled) (last : ℕ) (has : HasCells sizes mid (kind_at Index levels) (page_of levels right) cells last) (names : 0 < levels → middle.view.child ≡ only) (gives : Releases sizes (page_of levels left) mid given) where
      left-made : (ends : Bool) (taken : Spelled) (e : OpenedDone sizes ends taken levels old left trunks mid [] only) (out between : TreeCell)
          → IsLoose sizes levels false (pair levels old left divider right trunks) (record { base = mid; siblings = (e.home, between) ∷ []; home = right; trunks = e.rest; out = out })
          → IsOut sizes mid between → IsRaised middle (spelled between) → HasOpenedPair false (spelled out) old left divider right trunks given (middle ∷ cells) last
      left-made ends taken e out between loose held raised =
          let after : After levels = record { base = mid; siblings = []; home = e.home; trunks = e.rest; out = cell_of taken e.payload e.chain } in
          let stays = Stands-kept sizes old mid Index levels right
          (Turns-keeps sizes old mid (pages_of levels left) (hand_after after) trunks e.rest (pages_of levels right) (λ n. omega (arith, within n, pair-count n levels left divider right)) e.opened.turns) behind.1 in
          let told = page-tells sizes mid Index levels (page_of levels right) right cells last refl has stays in
          let made = join false old left divider right trunks mid given within free out e.rest e.home between middle right loose held raised is_cell (λ deep. names deep ∙ e.right_is)
          (subst⁻¹ (λ (p : ℕ). Releases sizes p mid given) e.page gives) refl in
          let same : middle ∷ cells ≡ map spelled (own_cells levels e.home) ++ middle ∷ map spelled (own_cells levels right) = λ i. e.cells_are i ++ middle ∷ told.0 i in
          subst⁻¹ (λ (so : List Spelled). HasOpenedPair false (spelled out) old left divider right trunks given so last) same
          (subst⁻¹ (λ (n : ℕ). HasOpenedPair false (spelled out) old left divider right trunks given (map spelled (own_cells levels e.home) ++ middle ∷ map spelled (own_cells levels right)) n) told.1 made)

      left-needs : IsReady sizes levels old left trunks
      left-needs = record { within = λ n. omega (arith, within n, pair-count n levels left divider right); stands = before.1 }

      -- the cell between them comes down
      left-opened : (out : Spelled) → IsRaised middle (spelled divider) → EmptiesBelow sizes false out levels (page_of levels left) only old mid → HasOpenedPair false out old left divider right trunks given (middle ∷ cells) last
      left-opened out raised empties =
          let e = empties left trunks refl free left-needs in
          let after : After levels = record { base = mid; siblings = []; home = e.home; trunks = e.rest; out = cell_of out e.payload e.chain } in
          let held = held-kept sizes old mid (interior_kind Index) divider
          (Turns-keeps sizes old mid (pages_of levels left) (hand_after after) trunks e.rest divider.chain (λ n. omega (arith, within n, pair-count n levels left divider right)) e.opened.turns) before.0.held in
          left-made false out e (cell_of out e.payload e.chain) divider (left-loose sizes levels old left divider right trunks after within behind.1.1 e.opened refl) (interior_kind Index, held) raised

      -- the last entry of the left one comes in its place, and it goes
      left-replaced : (taken : Spelled) → IsRaised middle taken → EmptiesBelow sizes true taken levels (page_of levels left) only old mid → HasOpenedPair false (spelled divider) old left divider right trunks given (middle ∷ cells) last
      left-replaced taken raised empties =
          let e = empties left trunks refl free left-needs in
          let between = cell_of taken e.payload e.chain in
          let after : After levels = record { base = mid; siblings = []; home = e.home; trunks = e.rest; out = between } in
          let loose = entry-replaced sizes levels old left divider right trunks after between (λ base sibling. HasBelow sizes base Index levels sibling.0) (λ sibling. IsFullBelow levels sibling.0) within before.0.held behind.1.1 e.opened
          refl refl refl (e.opened.below, tt) (λ full. ((e.opened.full tt full).1, tt)) in
          left-made true taken e divider between loose e.opened.held raised

-- One cell of a page, and the children beside it.

module _ (sizes : Sizes) (levels page : ℕ) (old : Paged) (cells : List Spelled) (right : ℕ) (front : List Spelled) (cell : Spelled) (back : List Spelled) (has : HasCells sizes old IndexInterior page cells right) (parts : cells ≡ front ++ cell ∷ back) where
  -- the page behind the one that the cell names
  abbrev next : ℕ
  next = child_page (length front) (front ++ back) right

  -- what stands there, by the cell
  record HasPair (tree : TreeOf (suc levels)) (trunks : List Trunk) : Type 0 where
    before : List (TreeOf levels × TreeCell)
    left : TreeOf levels
    divider : TreeCell
    behind : List (TreeOf levels × TreeCell)
    others : front ++ back ≡ map spelled (cells_behind (before ++ behind))
    same : spelled divider ≡ cell
    named : page_of levels left ≡ cell.view.child
    stands : StandsBefore sizes old Index levels (left, divider)
    right_named : page_of levels (child_at (length before) (before ++ behind) tree.last) ≡ next
    right_stands : StandsLast sizes old Index levels (child_at (length before) (before ++ behind) tree.last)
    within : Within sizes old (hand_of (pair levels old left divider (child_at (length before) (before ++ behind) tree.last) trunks)) trunks
    last_is : right ≡ page_of levels tree.last
    long : length front ≡ length before
    last_goes : back ≡ [] → length (before ++ behind) ≤ length before
    was : parent_with levels tree.page (length before) (before ++ behind) tree.last ((left, divider) ∷ []) (child_at (length before) (before ++ behind) tree.last) ≡ tree

  pair-there : (tree : TreeOf (suc levels)) (trunks : List Trunk) → tree.page ≡ page → IsReady sizes (suc levels) old tree trunks → HasPair tree trunks
  pair-there tree trunks is ready =
      let told = page-tells sizes old Index (suc levels) page tree cells right is has ready.stands in
      let f : TreeOf levels × TreeCell → Spelled = λ child. spelled child.1 in
      let a = around-map f tree.children front cell back (sym (spelled-children tree.children) ∙ sym told.0 ∙ parts) in
      let i = length a.before in
      let others = a.before ++ a.after in
      let stands = StandsBefore sizes old Index levels in
      let all = subst (AllByRecursion stands) a.whole ready.stands.1.0 in
      let rest = all-back stands a.before (a.item ∷ a.after) all in
      let beside = all-join stands a.before a.after (all-front stands a.before (a.item ∷ a.after) all) rest.1 in
      let spelled_others : front ++ back ≡ map spelled (cells_behind others) = sym (map-append f a.before a.after ∙ cc (a.in_front, a.behind)) ∙ sym (spelled-children others) in
      let long : length front ≡ i = omega (arith, ap length a.in_front, length-map a.before f) in
      let among = pair-among levels a.before a.item.0 a.item.1 a.after tree.last in
      let right_tree = child_at i others tree.last in
      let was : parent_with levels tree.page i others tree.last (a.item ∷ []) right_tree ≡ tree = λ j. record { page = tree.page; children = (among.0 ∙ sym a.whole) j; last = among.1 j } in
      let count = λ (n : ℕ). ap (λ (t : TreeOf (suc levels)). times n (pages_of (suc levels) t)) was in
      let named_next : next ≡ child_page i (map spelled (cells_behind others)) (page_of levels tree.last) =
      ap (λ (k : ℕ). child_page k (front ++ back) right) long ∙ ap (λ (cs : List Spelled). child_page i cs right) spelled_others ∙ ap (λ (r : ℕ). child_page i (map spelled (cells_behind others)) r) told.1 in
      record {
        before = a.before;
        left = a.item.0;
        divider = a.item.1;
        behind = a.after;
        others = spelled_others;
        same = a.here;
        named = sym rest.0.0.names ∙ ap (λ (c : Spelled). c.view.child) a.here;
        stands = rest.0;
        right_named = child-page sizes Index old levels i others tree.last beside ∙ sym named_next;
        right_stands = (child-number sizes old levels i others tree.last beside ready.stands.1.1, child-stands sizes Index old levels i others tree.last beside ready.stands.1.1.1);
        within = λ n. omega (arith, ready.within n, count n, (group-count n levels i others tree.last (a.item ∷ []) right_tree [] right_tree).0);
        last_is = told.1;
        long = long;
        last_goes = λ none. omega (arith, ap length none, ap length a.behind, length-map a.after f, length-append a.before a.after);
        was = was;
      }

  -- What the pair has become makes their parent, which is to have the cells between the trees that it became in place of the cell.
  pair-opened : (ends : Bool) (out : Spelled) (tree : TreeOf (suc levels)) (trunks : List Trunk) (p : HasPair tree trunks) (siblings : List (TreeOf levels × TreeCell)) (home : TreeOf levels) (new : Paged) (rest : List Trunk) (payload chain : List ℕ)
      → IsReady sizes (suc levels) old tree trunks
      → IsDeleted sizes levels ends (pair levels old p.left p.divider (child_at (length p.before) (p.before ++ p.behind) tree.last) trunks) (record { base = new; siblings = siblings; home = home; trunks = rest; out = cell_of out payload chain })
      → page_of levels home ≡ page_of levels (child_at (length p.before) (p.before ++ p.behind) tree.last)
      → (IsFull levels (child_at (length p.before) (p.before ++ p.behind) tree.last) → 0 < length (own_cells levels home)) → (ends ≡ true → back ≡ [])
      → OpenedDone sizes ends out (suc levels) old tree trunks new (with_dividers (front ++ back) (length front) (map spelled (cells_behind siblings))) right
  pair-opened ends out tree trunks p siblings home new rest payload chain ready done page some none =
      let i = length p.before in
      let others = p.before ++ p.behind in
      let there = child_at i others tree.last in
      let gone = cell_of out payload chain in
      let after : After levels = record { base = new; siblings = siblings; home = home; trunks = rest; out = gone } in
      let parent = parent_with levels tree.page i others tree.last siblings home in
      let number = subst⁻¹ (IsNumber sizes new) page (IsInRange-wider sizes.size old.count new.count (page_of levels there) done.opened.turns.grows p.right_stands.0) in
      let opened = group-above sizes ends levels tree.page i others tree.last (pair levels old p.left p.divider there trunks) after
      (subst⁻¹ (λ (t : TreeOf (suc levels)). Within sizes old (pages_of (suc levels) t) trunks) p.was ready.within) (subst⁻¹ (Stands sizes old Index (suc levels)) p.was ready.stands)
      done number (inl page) (λ _ full. some full) (λ e. p.last_goes (none e)) in
      let among = alone-among levels i others tree.last in
      let cells_are : with_dividers (front ++ back) (length front) (map spelled (cells_behind siblings)) ≡ map spelled (cells_behind parent.children) =
      ap (λ (cs : List Spelled). with_dividers cs (length front) (map spelled (cells_behind siblings))) p.others
      ∙ ap (λ (k : ℕ). with_dividers (map spelled (cells_behind others)) k (map spelled (cells_behind siblings))) p.long
      ∙ dividers-in i others siblings home (omega (arith, length-append p.before p.behind)) in
      record {
        home = parent;
        rest = rest;
        payload = payload;
        chain = chain;
        opened = subst (λ (t : TreeOf (suc levels)). IsOpened sizes (suc levels) ends (alone (suc levels) old t trunks) (record { base = new; siblings = []; home = parent; trunks = rest; out = gone })) p.was opened;
        page = refl;
        cells_are = cells_are;
        right_is = p.last_is ∙ sym (last-same levels i others tree.last there home page ∙ ap (page_of levels) among.1);
      }

  -- The last entry of the child that the cell names takes its place: the page is to have the dividers that came, and that entry.
  pub parent-replaced : (taken middle : Spelled) (between : Paged) (grew : List Spelled) → IsRaised middle taken → IsCell IndexInterior sizes.usable middle.bytes middle.view → middle.view.child ≡ cell.view.child
      → GrowsBelow sizes true taken levels cell.view.child old between grew
      → OpensBelow sizes false cell (suc levels) page (with_dividers (front ++ back) (length front) (grew ++ middle ∷ [])) right old between
  parent-replaced taken middle between grew raised is_cell names below tree trunks is free ready =
      let p = pair-there tree trunks is ready in
      let there = child_at (length p.before) (p.before ++ p.behind) tree.last in
      let count = λ (n : ℕ). pair-count n levels p.left p.divider there in
      let done = below p.left trunks p.named free (record { within = λ n. omega (arith, p.within n, count n); stands = p.stands.1 }) in
      let o = done.deleted.opened in
      let taken_cell = cell_of taken done.payload done.chain in
      let up = cell_of middle done.payload done.chain in
      let after : After levels = record { base = between; siblings = done.siblings; home = done.home; trunks = done.rest; out = taken_cell } in
      let kept = λ (numbers : List ℕ) (fewer : (n : ℕ) → times n numbers + times n (pages_of levels p.left) ≤ times n (pages_beside levels ((p.left, p.divider) ∷ []) there)).
      Turns-keeps sizes old between (pages_of levels p.left) (hand_after after) trunks done.rest numbers (λ n. omega (arith, p.within n, fewer n)) o.turns in
      let up_held = raised-held sizes between o.held.0 (interior_kind Index) middle taken_cell raised is_cell o.held.1 in
      let up_names : middle.view.child ≡ page_of levels done.home = names ∙ sym p.named ∙ sym done.page in
      let up_range = subst⁻¹ (IsNumber sizes between) done.page (IsInRange-wider sizes.size old.count between.count (page_of levels p.left) o.turns.grows p.stands.0.in_range) in
      let stands_up : StandsBefore sizes between Index levels (done.home, up) = (record { held = up_held; names = up_names; in_range = up_range }, (done.deleted.own, o.below)) in
      let made = entry-replaced sizes levels old p.left p.divider there trunks after up (λ base. StandsBefore sizes base Index levels) (λ sibling. IsFull levels sibling.0) p.within p.stands.0.held p.right_stands.1.1 o raised.rowid refl refl
      (all-join (StandsBefore sizes between Index levels) done.siblings ((done.home, up) ∷ []) o.siblings (stands_up, tt))
      (λ full. let both = o.full tt full in all-join (λ (sibling : TreeOf levels × TreeCell). IsFull levels sibling.0) done.siblings ((done.home, up) ∷ []) both.0 ((done.some, both.1), tt)) in
      let own = (Stands-kept sizes old between Index levels there (kept (pages_of levels there) (λ n. omega (arith, count n))) p.right_stands.1).0 in
      let cells_are : map spelled (cells_behind (done.siblings ++ (done.home, up) ∷ [])) ≡ grew ++ middle ∷ [] =
      behind-among done.siblings done.home up [] ∙ ap (λ (l : List Spelled). l ++ middle ∷ []) done.dividers_are in
      subst (λ (ds : List Spelled). OpenedDone sizes false cell (suc levels) old tree trunks between (with_dividers (front ++ back) (length front) ds) right) cells_are
      (subst (λ (c : Spelled). OpenedDone sizes false c (suc levels) old tree trunks between (with_dividers (front ++ back) (length front) (map spelled (cells_behind (done.siblings ++ (done.home, up) ∷ [])))) right) p.same
      (pair-opened false (spelled p.divider) tree trunks p (done.siblings ++ (done.home, up) ∷ []) there between done.rest p.divider.payload p.divider.chain ready (record { opened = made; own = own }) refl (λ full. full.0)
      (λ e. absurd (let h : ⊥ = cc in h))))

  -- Two children are joined over the cell, and what they become is settled: the parent is to have the dividers that came in place of the cell.
  module _ (mid given written : Paged) (middle : Spelled) (is_cell : IsCell (kind_at Index levels) sizes.usable middle.bytes middle.view) (only : ℕ) (beside : List Spelled) (last : ℕ) (grew : List Spelled) where
    become-settled : (ends : Bool) (out : Spelled) (tree : TreeOf (suc levels)) (trunks : List Trunk) (p : HasPair tree trunks) (so : List Spelled) (its_last : ℕ) → IsReady sizes (suc levels) old tree trunks
        → HasOpenedPair sizes levels ends out old p.left p.divider (child_at (length p.before) (p.before ++ p.behind) tree.last) trunks given so its_last → 0 < length so
        → IsSettled sizes levels Index next its_last so given written grew → (ends ≡ true → back ≡ [])
        → OpenedDone sizes ends out (suc levels) old tree trunks written (with_dividers (front ++ back) (length front) grew) right
    become-settled ends out tree trunks p so its_last ready o some settled none =
        let there = child_at (length p.before) (p.before ++ p.behind) tree.last in
        let after : After levels = record { base = given; siblings = []; home = o.home; trunks = o.rest; out = cell_of out o.payload o.chain } in
        let s = cut-settled sizes ends levels grew (pair levels old p.left p.divider there trunks) after so its_last written o.free o.opened o.cells_are o.last_is some
        (subst⁻¹ (λ (n : ℕ). IsSettled sizes levels Index n its_last so given written grew) (o.page ∙ p.right_named) settled) in
        subst (λ (ds : List Spelled). OpenedDone sizes ends out (suc levels) old tree trunks written (with_dividers (front ++ back) (length front) ds) right) s.dividers_are
        (pair-opened ends out tree trunks p s.siblings s.home written s.trunks o.payload o.chain ready s.done (s.page ∙ o.page) (λ _. s.some) none)

    -- The right one has no cell any more. The page behind the cell gets the cells of the one that the cell names, and the cell that came down.
    pub right-joins : (ends : Bool) (out : Spelled) → (ends ≡ true → back ≡ []) → IsRaised middle cell → EmptiesBelow sizes ends out levels next only old mid → HasCells sizes mid (kind_at Index levels) cell.view.child beside last
        → (0 < levels → middle.view.child ≡ last) → Releases sizes cell.view.child mid given → IsSettled sizes levels Index next only (beside ++ middle ∷ []) given written grew
        → OpensBelow sizes ends out (suc levels) page (with_dividers (front ++ back) (length front) grew) right old written
    right-joins ends out none raised empties has_beside names gives settled tree trunks is free ready =
        let p = pair-there tree trunks is ready in
        let there = child_at (length p.before) (p.before ++ p.behind) tree.last in
        let made = right-opened sizes levels old p.left p.divider there trunks mid given middle p.within p.stands p.right_stands free is_cell ends out only beside last (subst⁻¹ (IsRaised middle) p.same raised)
        (subst⁻¹ (λ (n : ℕ). EmptiesBelow sizes ends out levels n only old mid) p.right_named empties) (subst⁻¹ (λ (n : ℕ). HasCells sizes mid (kind_at Index levels) n beside last) p.named has_beside) names
        (subst⁻¹ (λ (n : ℕ). Releases sizes n mid given) p.named gives) in
        become-settled ends out tree trunks p (beside ++ middle ∷ []) only ready made (omega (arith, length-append beside (middle ∷ []))) settled none

    -- The left one has none: the page behind the cell gets the cell that came down in front of its own.
    pub left-joins : (out : Spelled) → IsRaised middle cell → EmptiesBelow sizes false out levels cell.view.child only old mid → HasCells sizes mid (kind_at Index levels) next beside last → (0 < levels → middle.view.child ≡ only)
        → Releases sizes cell.view.child mid given → IsSettled sizes levels Index next last (middle ∷ beside) given written grew
        → OpensBelow sizes false out (suc levels) page (with_dividers (front ++ back) (length front) grew) right old written
    left-joins out raised empties has_beside names gives settled tree trunks is free ready =
        let p = pair-there tree trunks is ready in
        let there = child_at (length p.before) (p.before ++ p.behind) tree.last in
        let made = left-opened sizes levels old p.left p.divider there trunks mid given middle p.within p.stands p.right_stands free is_cell only beside last
        (subst⁻¹ (λ (n : ℕ). HasCells sizes mid (kind_at Index levels) n beside last) p.right_named has_beside) names (subst⁻¹ (λ (n : ℕ). Releases sizes n mid given) p.named gives) out (subst⁻¹ (IsRaised middle) p.same raised)
        (subst⁻¹ (λ (n : ℕ). EmptiesBelow sizes false out levels n only old mid) p.named empties) in
        become-settled false out tree trunks p (middle ∷ beside) last ready made (omega arith) settled (λ e. absurd (let h : ⊥ = cc in h))

    -- The left one has none, since its last entry takes the place of the cell, which goes.
    pub replaced-joins : (taken : Spelled) → IsRaised middle taken → EmptiesBelow sizes true taken levels cell.view.child only old mid → HasCells sizes mid (kind_at Index levels) next beside last → (0 < levels → middle.view.child ≡ only)
        → Releases sizes cell.view.child mid given → IsSettled sizes levels Index next last (middle ∷ beside) given written grew
        → OpensBelow sizes false cell (suc levels) page (with_dividers (front ++ back) (length front) grew) right old written
    replaced-joins taken raised empties has_beside names gives settled tree trunks is free ready =
        let p = pair-there tree trunks is ready in
        let there = child_at (length p.before) (p.before ++ p.behind) tree.last in
        let made = left-replaced sizes levels old p.left p.divider there trunks mid given middle p.within p.stands p.right_stands free is_cell only beside last
        (subst⁻¹ (λ (n : ℕ). HasCells sizes mid (kind_at Index levels) n beside last) p.right_named has_beside) names (subst⁻¹ (λ (n : ℕ). Releases sizes n mid given) p.named gives) taken raised
        (subst⁻¹ (λ (n : ℕ). EmptiesBelow sizes true taken levels n only old mid) p.named empties) in
        subst (λ (c : Spelled). OpenedDone sizes false c (suc levels) old tree trunks written (with_dividers (front ++ back) (length front) grew) right) p.same
        (become-settled false (spelled p.divider) tree trunks p (middle ∷ beside) last ready made (omega arith) settled (λ e. absurd (let h : ⊥ = cc in h)))
