-- One level of a delete from an index: a leaf loses a cell, what became of a child makes its parent, an entry takes the place of another, two neighbours become one, a page is cut or written, and a root takes the content of its only child. Crates above cite these facts in their proofs.
use Rattle.std.proofs.Common.{◌≡◌, ◌≢◌, ◌⊎◌, ℕ, zero, suc, ◌+◌, ◌-◌, ◌<◌, ◌≤◌, Bool, true, false, List, [], ◌∷◌, ◌++◌, length, map, refl, sym, ap, ◌∙◌, subst, arith, append_assoc}
use Rattle.std.proofs.Math.Path.{subst⁻¹}
use Rattle.std.specs.List.{flat_map, AllByRecursion}
use Rattle.std.proofs.lemmas.List.{map-append, append-nil}
use Rattle.format_spec.specs.Page.{IsPage}
use Rattle.page_spec.specs.Counts.{hit, times}
use Rattle.page_spec.specs.CountsLaws.{times-append, hit-itself}
use Rattle.page_spec.specs.Freelists.{Trunk}
use Rattle.page_spec.specs.FreelistsLaws.{IsInRange-wider}
use Rattle.page_spec.specs.FreePagesLaws.{due-most}
use Rattle.tree_spec.specs.declared.TreeKind.TheVariants.{Index}
use Rattle.tree_spec.specs.Trees.{TreeCell, TreeOf, Leaf, Member, leaf_kind, interior_kind, page_of, own_cells, chain_pages, pages_of, pages_below, pages_beside, member, between, list_of, list_beside, IsFull, IsFullBelow}
use Rattle.tree_spec.specs.Standing.{Sizes, Paged, SamePage, Keeps, IsNumber, IsHeld, IsBehind, HasOwnPage, HasBelow, Stands, StandsBefore}
use Rattle.tree_spec.specs.StandingLaws.{held-kept, children-kept, own-kept, HasBelow-kept, Stands-kept}
use Rattle.tree_spec.specs.WorldsLaws.{all-front, all-back, all-join}
use Rattle.tree_spec.specs.Changes.{Within, Turns, Writes}
use Rattle.tree_spec.specs.ChangesLaws.{Turns-then, Turns-wide, Turns-same, Turns-within, Turns-write, Turns-keeps}
use Rattle.put_spec.specs.Children.{children_with, last_with}
use Rattle.put_spec.specs.ChildrenLaws.{beside-join, keeps-fewer, list-join, list-with}
use Rattle.put_spec.specs.Puts.{moved, IsCut}
use Rattle.put_spec.specs.PutsLaws.{pages-parts, cut-count, moved-page}
use Rattle.delete_spec.specs.Deletes.{TakenOut, Before, hand_of, alone, pair, parent_with}
use Rattle.delete_spec.specs.NeighboursLaws.{taken-within, taken-behind, group-count, group-all, group-last, group-of}
use Rattle.delete_spec.specs.DeletesLaws.{cells-same, last-same}
use Rattle.index_delete_spec.specs.PartsLaws.{chains-without, cut-below, cut-full, cut-list, siblings-list, group-stands, keeps-given, kept-beside, moved-below, moved-full, moved-list, moved-rest, moved-some, pair-count, turns-given}
use Rattle.index_delete_spec.specs.Deletes.{Taken, After, hand_after, became, IsOut, IsMade, IsOpened, IsLoose, IsDeleted, IsSunk, IsRootDeleted}

-- Lists.

pub taken-any : (ends : Bool) (gone : Member) (xs ys : List Member) → Taken ends gone xs ys → TakenOut gone xs ys
taken-any true gone xs ys is = record { front = ys; back = []; old_is = is; new_is = sym (append-nil ys) }
taken-any false gone xs ys is = is

pub taken-after : (ends : Bool) (gone : Member) (front xs ys : List Member) → Taken ends gone xs ys → Taken ends gone (front ++ xs) (front ++ ys)
taken-after true gone front xs ys is = ap (λ (l : List Member). front ++ l) is ∙ sym (append_assoc front ys (gone ∷ []))
taken-after false gone front xs ys is = taken-behind gone front xs ys is

leaf-list : (ends : Bool) (front : List TreeCell) (cell : TreeCell) (back : List TreeCell) → (ends ≡ true → back ≡ []) → Taken ends (member cell) (map member (front ++ cell ∷ back)) (map member (front ++ back))
leaf-list true front cell back none =
    subst⁻¹ (λ (b : List TreeCell). Taken true (member cell) (map member (front ++ cell ∷ b)) (map member (front ++ b))) (none refl)
    (map-append member front (cell ∷ []) ∙ ap (λ (l : List TreeCell). map member l ++ member cell ∷ []) (sym (append-nil front)))
leaf-list false front cell back none = record {
  front = map member front;
  back = map member back;
  old_is = map-append member front (cell ∷ back);
  new_is = map-append member front back;
}

-- what a child gives to the list, with the entry behind it
abbrev gives : (levels : ℕ) → TreeOf levels × TreeCell → List Member
gives levels child = list_of Index levels child.0 ++ between Index child.1

-- nothing stands behind a last child
list-past : (levels i : ℕ) (children : List (TreeOf levels × TreeCell)) (last : TreeOf levels) (siblings : List (TreeOf levels × TreeCell)) (home : TreeOf levels) → length children ≤ i
    → list_beside Index levels (children_with i children siblings home) (last_with i children last home) ≡ flat_map (gives levels) children ++ list_beside Index levels siblings home
list-past levels i [] last siblings home past = refl
list-past levels zero (child ∷ children) last siblings home past = absurd (omega arith)
list-past levels (suc i) (child ∷ children) last siblings home past =
    append_assoc (gives levels child) (flat_map (gives levels) (children_with i children siblings home)) (list_of Index levels (last_with i children last home))
    ∙ ap (λ (l : List Member). gives levels child ++ l) (list-past levels i children last siblings home (omega arith))
    ∙ sym (append_assoc (gives levels child) (flat_map (gives levels) children) (list_beside Index levels siblings home))

-- a group of children that becomes another one, and what became of its list
group-list : (ends : Bool) (levels i : ℕ) (children : List (TreeOf levels × TreeCell)) (last : TreeOf levels) (gone : Member) (siblings : List (TreeOf levels × TreeCell)) (home : TreeOf levels) (others : List (TreeOf levels × TreeCell)) (other : TreeOf levels)
    → (ends ≡ true → length children ≤ i) → Taken ends gone (list_beside Index levels siblings home) (list_beside Index levels others other)
    → Taken ends gone (list_beside Index levels (children_with i children siblings home) (last_with i children last home)) (list_beside Index levels (children_with i children others other) (last_with i children last other))
group-list true levels i children last gone siblings home others other past taken =
    subst⁻¹ (λ (l : List Member). Taken true gone l (list_beside Index levels (children_with i children others other) (last_with i children last other))) (list-past levels i children last siblings home (past refl))
    (subst⁻¹ (Taken true gone (flat_map (gives levels) children ++ list_beside Index levels siblings home)) (list-past levels i children last others other (past refl))
    (taken-after true gone (flat_map (gives levels) children) (list_beside Index levels siblings home) (list_beside Index levels others other) taken))
group-list false levels i children last gone siblings home others other past taken =
    let around = list-with Index levels i children last in
    subst⁻¹ (λ (l : List Member). TakenOut gone l (list_beside Index levels (children_with i children others other) (last_with i children last other))) (around.new siblings home)
    (subst⁻¹ (TakenOut gone (around.before ++ (list_beside Index levels siblings home ++ around.after))) (around.new others other)
    (taken-within gone around.before around.after (list_beside Index levels siblings home) (list_beside Index levels others other) taken))

-- Pages.

pub hand-parts : (n levels : ℕ) (after : After levels)
    → times n (hand_after after) ≡ times n (flat_map (λ child. pages_of levels child.0 ++ child.1.chain) after.siblings) + hit (page_of levels after.home) n + times n (pages_below levels after.home) + times n after.out.chain
hand-parts n levels after =
    let front = flat_map (λ (child : TreeOf levels × TreeCell). pages_of levels child.0 ++ child.1.chain) after.siblings in
    omega (arith, times-append n (pages_beside levels after.siblings after.home) after.out.chain, times-append n front (pages_of levels after.home), pages-parts n levels after.home)

-- one tree has become another, of which this is all
pub alone-count : (n levels : ℕ) (after : After levels) → after.siblings ≡ [] → times n (hand_after after) ≡ times n (pages_of levels after.home) + times n after.out.chain
alone-count n levels after none =
    omega (arith, times-append n (pages_beside levels after.siblings after.home) after.out.chain, ap (λ (s : List (TreeOf levels × TreeCell)). times n (pages_beside levels s after.home)) none)

pair-list : (levels : ℕ) (left : TreeOf levels) (divider : TreeCell) (right : TreeOf levels)
    → list_beside Index levels ((left, divider) ∷ []) right ≡ list_of Index levels left ++ (between Index divider ++ list_of Index levels right)
pair-list levels left divider right = list-join Index levels [] [] left right divider

module _ (sizes : Sizes) where
  pub out-kept : (old new : Paged) (cell : TreeCell) → Keeps cell.chain old new → IsOut sizes old cell → IsOut sizes new cell
  out-kept old new cell keeps out = (out.0, held-kept sizes old new out.0 cell keeps out.1)

  -- A leaf loses a cell, whose overflow chain is in hand then.
  pub leaf-taken : (ends : Bool) (base : Paged) (tree : Leaf) (trunks : List Trunk) (front : List TreeCell) (cell : TreeCell) (back : List TreeCell) → Within sizes base (pages_of zero tree) trunks
      → Stands sizes base Index zero tree → tree.cells ≡ front ++ cell ∷ back → (ends ≡ true → back ≡ [])
      → IsOpened sizes zero ends (alone zero base tree trunks) (record { base = base; siblings = []; home = record { page = tree.page; cells = front ++ back }; trunks = trunks; out = cell })
  leaf-taken ends base tree trunks front cell back within stands cells none =
      let held = IsHeld sizes base (leaf_kind Index) in
      let all = subst (AllByRecursion held) cells stands.1 in
      let rest = all-back held front (cell ∷ back) all in
      record {
        within = within;
        turns = Turns-same sizes base (pages_of zero tree) ((tree.page ∷ chain_pages (front ++ back)) ++ cell.chain) trunks
            (λ n. omega (arith, times-append n (tree.page ∷ chain_pages (front ++ back)) cell.chain, chains-without n front cell back, ap (λ (xs : List TreeCell). times n (chain_pages xs)) cells));
        siblings = tt;
        below = all-join held front back (all-front held front (cell ∷ back) all) rest.1;
        was = (leaf_kind Index, rest.0);
        held = (leaf_kind Index, rest.0);
        list = subst⁻¹ (λ (xs : List TreeCell). Taken ends (member cell) (map member xs) (map member (front ++ back))) cells (leaf-list ends front cell back none);
        full = λ _ _. (tt, tt);
      }

  -- What became of a group of children makes their parent, but for the writing of its own page.
  pub group-above : (ends : Bool) (levels page i : ℕ) (children : List (TreeOf levels × TreeCell)) (last : TreeOf levels) (before : Before levels) (after : After levels)
      → Within sizes before.base (pages_of (suc levels) (parent_with levels page i children last before.siblings before.home)) before.trunks
      → Stands sizes before.base Index (suc levels) (parent_with levels page i children last before.siblings before.home)
      → IsDeleted sizes levels ends before after → IsNumber sizes after.base (page_of levels after.home) → (page_of levels after.home ≡ page_of levels before.home) ⊎ (length children ≤ i)
      → (AllByRecursion (λ sibling. IsFull levels sibling.0) before.siblings → IsFull levels before.home → 0 < length (own_cells levels after.home)) → (ends ≡ true → length children ≤ i)
      → IsOpened sizes (suc levels) ends (alone (suc levels) before.base (parent_with levels page i children last before.siblings before.home) before.trunks)
      (became levels (suc levels) after [] (parent_with levels page i children last after.siblings after.home) after.base after.trunks)
  group-above ends levels page i children last before after within stands done number place some last_goes =
      let o = done.opened in
      let old = parent_with levels page i children last before.siblings before.home in
      let new = parent_with levels page i children last after.siblings after.home in
      let count = λ (n : ℕ). group-count n levels i children last before.siblings before.home after.siblings after.home in
      let standing = group-stands sizes before.base after.base levels i children before.siblings last before.home after.siblings after.home o.turns.grows
      (λ n less. o.turns.kept n (omega (arith, within n, due-most sizes.size before.base.count n)) (omega (arith, within n, due-most sizes.size before.base.count n)) (omega (arith, within n, due-most sizes.size before.base.count n)))
      stands.1.0 stands.1.1 o.siblings (number, (done.own, o.below)) place in
      record {
        within = within;
        turns = Turns-wide sizes before.base after.base (hand_of before) (hand_after after) (pages_of (suc levels) old) (pages_of (suc levels) new ++ after.out.chain) before.trunks after.trunks
            (λ n. hit page n + times n (pages_beside levels old.children old.last) - times n (hand_of before))
            (λ n. omega (arith, count n))
            (λ n. omega (arith, count n, times-append n (pages_of (suc levels) new) after.out.chain, times-append n (pages_beside levels after.siblings after.home) after.out.chain))
            o.turns;
        siblings = tt;
        below = standing;
        was = o.was;
        held = o.held;
        list = group-list ends levels i children last (member after.out) before.siblings before.home after.siblings after.home last_goes o.list;
        full = λ _ full.
            let is = λ (child : TreeOf levels × TreeCell). IsFull levels child.0 in
            let group = group-of (IsFull levels) i children before.siblings last before.home full.0 full.1 in
            let made = o.full group.0 group.1.1 in
            let home : IsFull levels after.home = (some group.0 group.1, made.1) in (
              tt,
              (
                group-all is i children before.siblings before.home after.siblings after.home (λ cell _. home) made.0 full.0,
                group-last (IsFull levels) i children last before.home after.home home full.1,
              ),
            );
      }

  -- Two neighbours.

  -- The left one of two neighbours has had the delete.
  pub left-loose : (levels : ℕ) (base : Paged) (left : TreeOf levels) (divider : TreeCell) (right : TreeOf levels) (trunks : List Trunk) (after : After levels)
      → Within sizes base (hand_of (pair levels base left divider right trunks)) trunks → HasBelow sizes base Index levels right
      → IsOpened sizes levels false (alone levels base left trunks) after → after.siblings ≡ []
      → IsLoose sizes levels false (pair levels base left divider right trunks) (became levels levels after ((after.home, divider) ∷ []) right after.base after.trunks)
  left-loose levels base left divider right trunks after within below o none =
      let new = pages_beside levels ((after.home, divider) ∷ []) right in
      let siblings = list_beside Index levels in
      let behind = between Index divider ++ list_of Index levels right in
      let gone = member after.out in
      record {
        within = within;
        turns = Turns-wide sizes base after.base (pages_of levels left) (hand_after after) (hand_of (pair levels base left divider right trunks)) (new ++ after.out.chain) trunks after.trunks
            (λ n. times n divider.chain + times n (pages_of levels right))
            (λ n. omega (arith, pair-count n levels left divider right))
            (λ n. omega (arith, pair-count n levels after.home divider right, times-append n new after.out.chain, alone-count n levels after none))
            o.turns;
        siblings = (o.below, tt);
        below = HasBelow-kept sizes base after.base Index levels right
            (Turns-keeps sizes base after.base (pages_of levels left) (hand_after after) trunks after.trunks (pages_below levels right)
            (λ n. omega (arith, within n, pair-count n levels left divider right, pages-parts n levels right)) o.turns) below;
        was = o.was;
        held = o.held;
        list = subst⁻¹ (λ (l : List Member). TakenOut gone l (siblings ((after.home, divider) ∷ []) right)) (pair-list levels left divider right)
            (subst⁻¹ (TakenOut gone (list_of Index levels left ++ behind)) (pair-list levels after.home divider right)
            (taken-within gone [] behind (list_of Index levels left) (list_of Index levels after.home)
            (subst (λ (s : List (TreeOf levels × TreeCell)). TakenOut gone (list_of Index levels left) (list_beside Index levels s after.home)) none o.list)));
        full = λ full full_below. (((o.full tt full.0.1).1, tt), full_below);
      }

  -- The right one has had it.
  pub right-loose : (ends : Bool) (levels : ℕ) (base : Paged) (left : TreeOf levels) (divider : TreeCell) (right : TreeOf levels) (trunks : List Trunk) (after : After levels)
      → Within sizes base (hand_of (pair levels base left divider right trunks)) trunks → HasBelow sizes base Index levels left
      → IsOpened sizes levels ends (alone levels base right trunks) after → after.siblings ≡ []
      → IsLoose sizes levels ends (pair levels base left divider right trunks) (became levels levels after ((left, divider) ∷ []) after.home after.base after.trunks)
  right-loose ends levels base left divider right trunks after within below o none =
      let new = pages_beside levels ((left, divider) ∷ []) after.home in
      let siblings = list_beside Index levels in
      let front = list_of Index levels left in
      let gone = member after.out in
      record {
        within = within;
        turns = Turns-wide sizes base after.base (pages_of levels right) (hand_after after) (hand_of (pair levels base left divider right trunks)) (new ++ after.out.chain) trunks after.trunks
            (λ n. times n divider.chain + times n (pages_of levels left))
            (λ n. omega (arith, pair-count n levels left divider right))
            (λ n. omega (arith, pair-count n levels left divider after.home, times-append n new after.out.chain, alone-count n levels after none))
            o.turns;
        siblings = (
          HasBelow-kept sizes base after.base Index levels left
              (Turns-keeps sizes base after.base (pages_of levels right) (hand_after after) trunks after.trunks (pages_below levels left)
              (λ n. omega (arith, within n, pair-count n levels left divider right, pages-parts n levels left)) o.turns) below,
          tt,
        );
        below = o.below;
        was = o.was;
        held = o.held;
        list = subst⁻¹ (λ (l : List Member). Taken ends gone l (siblings ((left, divider) ∷ []) after.home)) (pair-list levels left divider right)
            (subst⁻¹ (Taken ends gone (front ++ (between Index divider ++ list_of Index levels right))) (pair-list levels left divider after.home)
            (taken-after ends gone front (between Index divider ++ list_of Index levels right) (between Index divider ++ list_of Index levels after.home)
            (taken-after ends gone (between Index divider) (list_of Index levels right) (list_of Index levels after.home)
            (subst (λ (s : List (TreeOf levels × TreeCell)). Taken ends gone (list_of Index levels right) (list_beside Index levels s after.home)) none o.list))));
        full = λ full full_below. ((full.0.1, tt), (o.full tt full_below).1);
      }

  -- An entry that goes from an interior page: the last entry below the child before it takes its place.

  module _ (levels : ℕ) (base : Paged) (left : TreeOf levels) (divider : TreeCell) (right : TreeOf levels) (trunks : List Trunk) (after : After levels) (raised : TreeCell) where
    -- the child that lost its last entry, that entry in the cell's place, and the next child
    abbrev pub replaced : After levels
    replaced = record { base = after.base; siblings = after.siblings ++ (after.home, raised) ∷ []; home = right; trunks = after.trunks; out = divider }

    replaced-list : member raised ≡ member after.out → Taken true (member after.out) (list_of Index levels left) (list_beside Index levels after.siblings after.home)
        → TakenOut (member divider) (list_beside Index levels ((left, divider) ∷ []) right) (list_beside Index levels (after.siblings ++ (after.home, raised) ∷ []) right)
    replaced-list same list =
        let rest = list_beside Index levels after.siblings after.home in
        record {
          front = rest ++ member after.out ∷ [];
          back = list_of Index levels right;
          old_is = pair-list levels left divider right ∙ ap (λ (l : List Member). l ++ member divider ∷ list_of Index levels right) list;
          new_is = list-join Index levels after.siblings [] after.home right raised
              ∙ ap (λ (m : Member). rest ++ m ∷ list_of Index levels right) same
              ∙ sym (append_assoc rest (member after.out ∷ []) (list_of Index levels right));
        }

    pub entry-replaced : (IsBeside : Paged → TreeOf levels × TreeCell → Type 0) (HasSome : TreeOf levels × TreeCell → Type 0) → Within sizes base (hand_of (pair levels base left divider right trunks)) trunks
        → IsHeld sizes base (interior_kind Index) divider → HasBelow sizes base Index levels right → IsOpened sizes levels true (alone levels base left trunks) after
        → raised.view.rowid ≡ after.out.view.rowid → raised.payload ≡ after.out.payload → raised.chain ≡ after.out.chain
        → AllByRecursion (IsBeside after.base) (after.siblings ++ (after.home, raised) ∷ [])
        → (IsFullBelow levels left → AllByRecursion HasSome (after.siblings ++ (after.home, raised) ∷ []))
        → IsMade sizes levels IsBeside HasSome false (pair levels base left divider right trunks) replaced
    entry-replaced IsBeside HasSome within held below o rowid payload chain beside some =
        let new = pages_beside levels (after.siblings ++ (after.home, raised) ∷ []) right in
        let turned = λ (numbers : List ℕ) (fewer : (n : ℕ) → times n numbers + times n (pages_of levels left) ≤ times n (pages_beside levels ((left, divider) ∷ []) right)).
        Turns-keeps sizes base after.base (pages_of levels left) (hand_after after) trunks after.trunks numbers (λ n. omega (arith, within n, fewer n)) o.turns in
        record {
          within = within;
          turns = Turns-wide sizes base after.base (pages_of levels left) (hand_after after) (hand_of (pair levels base left divider right trunks)) (new ++ divider.chain) trunks after.trunks
              (λ n. times n divider.chain + times n (pages_of levels right))
              (λ n. omega (arith, pair-count n levels left divider right))
              (λ n.
              omega (
                arith,
                times-append n new divider.chain,
                beside-join n levels after.siblings [] after.home right raised,
                ap (times n) chain,
                times-append n (pages_beside levels after.siblings after.home) after.out.chain,
              ))
              o.turns;
          siblings = beside;
          below = HasBelow-kept sizes base after.base Index levels right (turned (pages_below levels right) (λ n. omega (arith, pair-count n levels left divider right, pages-parts n levels right))) below;
          was = (interior_kind Index, held);
          held = out-kept base after.base divider (turned divider.chain (λ n. omega (arith, pair-count n levels left divider right))) (interior_kind Index, held);
          list = replaced-list (λ i. record { rowid = rowid i; payload = payload i }) o.list;
          full = λ full full_below. (some full.0.1, full_below);
        }

  -- Two pages are joined over the cell between them.

  -- the cell that came down is one of the page that the two become
  abbrev pub IsMiddle : (levels : ℕ) → Paged → (left : TreeOf levels) → TreeCell → Type 0
  IsMiddle zero base left middle = IsHeld sizes base (leaf_kind Index) middle
  IsMiddle (suc levels) base left middle = IsBehind sizes base (interior_kind Index) middle (page_of levels left.last)

  -- what two neighbours become, with a cell between theirs
  abbrev pub joined : (levels : ℕ) → TreeOf levels → TreeCell → TreeOf levels → TreeOf levels
  joined zero left middle right = record { page = right.page; cells = left.cells ++ middle ∷ right.cells }
  joined (suc levels) left middle right = record { page = right.page; children = left.children ++ (left.last, middle) ∷ right.children; last = right.last }

  pub joined-cut : (levels : ℕ) (left : TreeOf levels) (divider middle : TreeCell) (right : TreeOf levels) → divider.view.rowid ≡ middle.view.rowid → divider.payload ≡ middle.payload → divider.chain ≡ middle.chain
      → IsCut levels Index (joined levels left middle right) left divider right
  joined-cut zero left divider middle right rowid payload chain = record { middle = middle; cells = refl; page = refl; rowid = rowid; payload = payload; chain = chain }
  joined-cut (suc levels) left divider middle right rowid payload chain = record { middle = middle; children = refl; last = refl; page = refl; rowid = rowid; payload = payload; chain = chain }

  joined-below : (levels : ℕ) (base : Paged) (left : TreeOf levels) (middle : TreeCell) (right : TreeOf levels) → HasBelow sizes base Index levels left → IsMiddle levels base left middle → HasBelow sizes base Index levels right
      → HasBelow sizes base Index levels (joined levels left middle right)
  joined-below zero base left middle right one here two = all-join (IsHeld sizes base (leaf_kind Index)) left.cells (middle ∷ right.cells) one (here, two)
  joined-below (suc levels) base left middle right one here two =
      (all-join (StandsBefore sizes base Index levels) left.children ((left.last, middle) ∷ right.children) one.0 ((here, one.1.1), two.0), two.1)

  joined-full : (levels : ℕ) (left : TreeOf levels) (middle : TreeCell) (right : TreeOf levels) → IsFullBelow levels left → IsFullBelow levels right → IsFullBelow levels (joined levels left middle right)
  joined-full zero left middle right one two = tt
  joined-full (suc levels) left middle right one two =
      (all-join (λ (child : TreeOf levels × TreeCell). IsFull levels child.0) left.children ((left.last, middle) ∷ right.children) one.0 (one.1, two.0), two.1)

  -- The right one's page is to have the cells of both: the left one's is given back.
  pub pair-joined : (ends : Bool) (levels : ℕ) (before : Before levels) (after : After levels) (left : TreeOf levels) (divider middle : TreeCell) (right : TreeOf levels) (base : Paged) (trunks : List Trunk)
      → IsLoose sizes levels ends before (became levels levels after ((left, divider) ∷ []) right after.base after.trunks)
      → divider.view.rowid ≡ middle.view.rowid → divider.payload ≡ middle.payload → divider.chain ≡ middle.chain → IsMiddle levels after.base left middle
      → Turns sizes after.base (page_of levels left ∷ []) after.trunks base [] trunks
      → IsOpened sizes levels ends before (became levels levels after [] (joined levels left middle right) base trunks)
  pair-joined ends levels before after left divider middle right base trunks o rowid payload chain here given =
      let whole = joined levels left middle right in
      let cut = joined-cut levels left divider middle right rowid payload chain in
      let mid = pages_beside levels ((left, divider) ∷ []) right ++ after.out.chain in
      let new = pages_of levels whole ++ after.out.chain in
      let within = Turns-within sizes before.base after.base (hand_of before) mid before.trunks after.trunks o.within o.turns in
      let count = λ (n : ℕ).
      let one = times-append n (pages_beside levels ((left, divider) ∷ []) right) after.out.chain in
      let two = pair-count n levels left divider right in
      let three = cut-count sizes Index levels Index n whole left divider right cut in
      let four = times-append n (pages_of levels whole) after.out.chain in
      let all : times n mid ≡ hit (page_of levels left) n + times n new = omega arith in
      all in
      let kept = λ (others : List ℕ) (fewer : (n : ℕ) → times n others ≤ times n new).
      keeps-given sizes after.base base mid others after.trunks trunks (page_of levels left) within (λ n. omega (arith, count n, fewer n)) given in
      record {
        within = o.within;
        turns = turns-given sizes before.base after.base base (hand_of before) mid new before.trunks after.trunks trunks (page_of levels left) o.within o.turns count given;
        siblings = tt;
        below = HasBelow-kept sizes after.base base Index levels whole (kept (pages_below levels whole) (λ n. omega (arith, times-append n (pages_of levels whole) after.out.chain, pages-parts n levels whole)))
            (joined-below levels after.base left middle right o.siblings.0 here o.below);
        was = o.was;
        held = out-kept after.base base after.out (kept after.out.chain (λ n. omega (arith, times-append n (pages_of levels whole) after.out.chain))) o.held;
        list = subst (Taken ends (member after.out) (list_beside Index levels before.siblings before.home))
            (pair-list levels left divider right ∙ sym (cut-list levels whole left divider right cut)) o.list;
        full = λ full full_below.
            let both = o.full full full_below in
            (tt, joined-full levels left middle right both.0.0 both.1);
      }

  -- Pages that are written.

  -- The own page is written.
  pub delete-settled : (ends : Bool) (levels : ℕ) (before : Before levels) (after : After levels) (base : Paged) → IsOpened sizes levels ends before after
      → Writes (page_of levels after.home) after.base base → HasOwnPage sizes base Index levels after.home
      → IsDeleted sizes levels ends before (became levels levels after after.siblings after.home base after.trunks)
  delete-settled ends levels before after base o writes own =
      let within = Turns-within sizes before.base after.base (hand_of before) (hand_after after) before.trunks after.trunks o.within o.turns in
      let page = page_of levels after.home in
      let parts = λ (n : ℕ). hand-parts n levels after in
      let front = flat_map (λ (child : TreeOf levels × TreeCell). pages_of levels child.0 ++ child.1.chain) after.siblings in
      let kept = kept-beside sizes after.base base page (hand_after after) in
      record {
        opened = record {
          within = o.within;
          turns = Turns-then sizes before.base after.base base (hand_of before) (hand_after after) (hand_after after) before.trunks after.trunks after.trunks o.within o.turns
              (Turns-write sizes after.base base page (hand_after after) after.trunks within (omega (arith, parts page, hit-itself page)) writes);
          siblings = children-kept sizes after.base base Index levels (Stands-kept sizes after.base base Index levels) after.siblings (kept front after.trunks within writes (λ n. omega (arith, parts n))) o.siblings;
          below = HasBelow-kept sizes after.base base Index levels after.home (kept (pages_below levels after.home) after.trunks within writes (λ n. omega (arith, parts n))) o.below;
          was = o.was;
          held = out-kept after.base base after.out (kept after.out.chain after.trunks within writes (λ n. omega (arith, parts n))) o.held;
          list = o.list;
          full = o.full;
        };
        own = own;
      }

  -- The page of a tree is cut, and its front is put on a page that was taken.
  pub delete-cut : (ends : Bool) (levels : ℕ) (before : Before levels) (after : After levels) (left : TreeOf levels) (divider : TreeCell) (right : TreeOf levels) (base : Paged) (trunks : List Trunk)
      → IsOpened sizes levels ends before after → IsCut levels Index after.home left divider right → Turns sizes after.base [] after.trunks base (page_of levels left ∷ []) trunks
      → HasOwnPage sizes base Index levels left → IsBehind sizes base (interior_kind Index) divider (page_of levels left)
      → 0 < length (own_cells levels left) → 0 < length (own_cells levels right)
      → IsOpened sizes levels ends before (became levels levels after (after.siblings ++ (left, divider) ∷ []) right base trunks)
  delete-cut ends levels before after left divider right base trunks o cut taken own behind some_left some_right =
      let within = Turns-within sizes before.base after.base (hand_of before) (hand_after after) before.trunks after.trunks o.within o.turns in
      let keeps : Keeps (hand_after after) after.base base =
      Turns-keeps sizes after.base base [] (page_of levels left ∷ []) after.trunks trunks (hand_after after) (λ n. omega (arith, within n)) taken in
      let parts = λ (n : ℕ). hand-parts n levels after in
      let new = became levels levels after (after.siblings ++ (left, divider) ∷ []) right base trunks in
      let front = flat_map (λ (child : TreeOf levels × TreeCell). pages_of levels child.0 ++ child.1.chain) after.siblings in
      let below = cut-below sizes base levels after.home left divider right cut
      (HasBelow-kept sizes after.base base Index levels after.home (keeps-fewer after.base base (hand_after after) (pages_below levels after.home) (λ n some. omega (arith, parts n)) keeps) o.below) in
      let siblings = children-kept sizes after.base base Index levels (Stands-kept sizes after.base base Index levels) after.siblings
      (keeps-fewer after.base base (hand_after after) front (λ n some. omega (arith, parts n)) keeps) o.siblings in
      record {
        within = o.within;
        turns = Turns-then sizes before.base after.base base (hand_of before) (hand_after after) (hand_after new) before.trunks after.trunks trunks o.within o.turns
            (
            Turns-wide sizes after.base base [] (page_of levels left ∷ []) (hand_after after) (hand_after new) after.trunks trunks (λ n. times n (hand_after after))
            (λ n. omega arith)
            (λ n.
            omega (
              arith,
              times-append n (pages_beside levels after.siblings after.home) after.out.chain,
              times-append n front (pages_of levels after.home),
              times-append n (pages_beside levels (after.siblings ++ (left, divider) ∷ []) right) after.out.chain,
              beside-join n levels after.siblings [] left right divider,
              times-append n front (pages_of levels left),
              cut-count sizes Index levels Index n after.home left divider right cut,
            ))
            taken
            );
        siblings = all-join (StandsBefore sizes base Index levels) after.siblings ((left, divider) ∷ []) siblings ((behind, (own, below.0)), tt);
        below = below.1;
        was = o.was;
        held = out-kept after.base base after.out (keeps-fewer after.base base (hand_after after) after.out.chain (λ n some. omega (arith, parts n)) keeps) o.held;
        list = subst (Taken ends (member after.out) (list_beside Index levels before.siblings before.home)) (siblings-list levels after.siblings after.home left divider right cut) o.list;
        full = λ full full_below.
            let old = o.full full full_below in
            let both = cut-full levels after.home left divider right cut old.1 in
            (all-join (λ sibling. IsFull levels sibling.0) after.siblings ((left, divider) ∷ []) old.0 ((some_left, both.0), tt), both.1);
      }

  -- The parent of a child that stays in its page, with no cell of its own changed, is not written.
  pub parent-untouched : (ends : Bool) (levels page i : ℕ) (children : List (TreeOf levels × TreeCell)) (last : TreeOf levels) (before : Before levels) (after : After levels)
      → IsOpened sizes (suc levels) ends (alone (suc levels) before.base (parent_with levels page i children last [] before.home) before.trunks)
      (became levels (suc levels) after [] (parent_with levels page i children last [] after.home) after.base after.trunks)
      → page_of levels after.home ≡ page_of levels before.home → HasOwnPage sizes before.base Index (suc levels) (parent_with levels page i children last [] before.home)
      → SamePage page (before.base.pages page) (after.base.pages page)
      → IsDeleted sizes (suc levels) ends (alone (suc levels) before.base (parent_with levels page i children last [] before.home) before.trunks)
      (became levels (suc levels) after [] (parent_with levels page i children last [] after.home) after.base after.trunks)
  parent-untouched ends levels page i children last before after o same own kept =
      let old = parent_with levels page i children last [] before.home in
      let here = own-kept sizes before.base after.base Index (suc levels) old kept own in
      let is_page = IsPage (after.base.pages page) page sizes.usable (interior_kind Index) in
      record {
        opened = o;
        own = subst⁻¹ (λ (cells : List TreeCell). is_page (map (λ (cell : TreeCell). cell.bytes) cells) (page_of levels (last_with i children last after.home))) (cells-same levels i children before.home after.home)
            (subst⁻¹ (is_page (map (λ (cell : TreeCell). cell.bytes) (own_cells (suc levels) old))) (last-same levels i children last before.home after.home same) here);
      }

  -- Roots.

  -- A root that stays in its page, and keeps a cell where it needs one.
  pub root-stays : (levels : ℕ) (base : Paged) (tree : TreeOf levels) (trunks : List Trunk) (after : After levels) → IsDeleted sizes levels false (alone levels base tree trunks) after
      → after.siblings ≡ [] → page_of levels after.home ≡ page_of levels tree → (0 < levels → page_of levels after.home ≢ 1 → 0 < length (own_cells levels after.home))
      → IsRootDeleted sizes levels base tree trunks after.base (record { kind = Index; levels = levels; tree = after.home }) after.out after.trunks
  root-stays levels base tree trunks after done none page some =
      let o = done.opened in
      record {
        turns = subst (λ (s : List (TreeOf levels × TreeCell)). Turns sizes base (pages_of levels tree) trunks after.base (pages_beside levels s after.home ++ after.out.chain) after.trunks) none o.turns;
        kind_is = refl;
        stands = (done.own, o.below);
        was = o.was;
        held = o.held;
        root = page;
        list = subst (λ (s : List (TreeOf levels × TreeCell)). TakenOut (member after.out) (list_of Index levels tree) (list_beside Index levels s after.home)) none o.list;
        full = λ full. record { below = (o.full tt full.below).1; root = some };
      }

  -- one child has had the delete, but for its own page
  pub sunk-child : (levels page : ℕ) (before : Before levels) (after : After levels) → IsOpened sizes levels false before after → after.siblings ≡ []
      → (0 < levels → page ≢ 1 → 0 < length (own_cells levels after.home)) → IsSunk sizes levels page before after
  sunk-child levels page before after o none some = record {
    none = none;
    turns = Turns-wide sizes before.base after.base (hand_of before) (hand_after after) (page ∷ hand_of before) (page ∷ hand_after after) before.trunks after.trunks (hit page) (λ n. omega arith) (λ n. omega arith) o.turns;
    below = o.below;
    was = o.was;
    held = o.held;
    list = subst (λ (s : List (TreeOf levels × TreeCell)). TakenOut (member after.out) (list_beside Index levels before.siblings before.home) (list_beside Index levels s after.home)) none o.list;
    full = λ siblings home. ((o.full siblings home.1).1, some);
  }

  -- the root is to have no cell, and one child, which stands
  pub sunk-root : (levels : ℕ) (base : Paged) (tree : TreeOf (suc levels)) (trunks : List Trunk) (last : TreeOf levels) (new : Paged) (rest : List Trunk) (out : TreeCell)
      → IsOpened sizes (suc levels) false (alone (suc levels) base tree trunks)
      (record { base = new; siblings = []; home = record { page = tree.page; children = []; last = last }; trunks = rest; out = out })
      → IsSunk sizes levels tree.page (record { base = base; siblings = tree.children; home = tree.last; trunks = trunks }) (record { base = new; siblings = []; home = last; trunks = rest; out = out })
  sunk-root levels base tree trunks last new rest out o = record {
    none = refl;
    turns = o.turns;
    below = o.below.1.1.1;
    was = o.was;
    held = o.held;
    list = o.list;
    full = λ children home. let made = o.full tt (children, home) in (made.1.1.1, λ deep other. made.1.1.0);
  }

  -- A root without a cell takes the content of its only child, whose page is given back: so the tree has a level less.
  pub root-sinks : (levels page : ℕ) (before : Before levels) (after : After levels) (mid new : Paged) (trunks : List Trunk) → IsSunk sizes levels page before after
      → Within sizes before.base (page ∷ hand_of before) before.trunks → Writes page after.base mid → HasOwnPage sizes mid Index levels (moved levels page after.home)
      → Turns sizes mid (page_of levels after.home ∷ []) after.trunks new [] trunks
      → IsRootDeleted sizes (suc levels) before.base (record { page = page; children = before.siblings; last = before.home }) before.trunks new
      (record { kind = Index; levels = levels; tree = moved levels page after.home }) after.out trunks
  root-sinks levels page before after mid new trunks s within writes own given =
      let home = moved levels page after.home in
      let chain = after.out.chain in
      let hand = page ∷ hand_of before in
      let later = page ∷ hand_after after in
      let final = pages_of levels home ++ chain in
      let within_later = Turns-within sizes before.base after.base hand later before.trunks after.trunks within s.turns in
      let written = Turns-write sizes after.base mid page later after.trunks within_later (omega (arith, hit-itself page)) writes in
      let within_mid = Turns-within sizes after.base mid later later after.trunks after.trunks within_later written in
      let whole = λ (n : ℕ). alone-count n levels after s.none in
      let parts = λ (n : ℕ). pages-parts n levels after.home in
      let new_parts = λ (n : ℕ).
      let one = pages-parts n levels home in
      let two = ap (λ (p : ℕ). hit p n) (moved-page sizes Index levels page after.home) in
      let three = ap (times n) (moved-rest levels page after.home) in
      let four = times-append n (pages_of levels home) chain in
      let all : times n final ≡ hit page n + times n (pages_below levels after.home) + times n chain = omega arith in
      all in
      let count = λ (n : ℕ).
      let all : times n later ≡ hit (page_of levels after.home) n + times n final = omega (arith, whole n, parts n, new_parts n) in
      all in
      let beside = kept-beside sizes after.base mid page later in
      let kept = λ (others : List ℕ) (fewer : (n : ℕ) → times n others ≤ times n final).
      keeps-given sizes mid new later others after.trunks trunks (page_of levels after.home) within_mid (λ n. omega (arith, count n, fewer n)) given in
      let below = moved-below sizes mid levels page after.home
      (HasBelow-kept sizes after.base mid Index levels after.home (beside (pages_below levels after.home) after.trunks within_later writes (λ n. omega (arith, whole n, parts n))) s.below) in
      record {
        turns = turns-given sizes before.base mid new hand later final before.trunks after.trunks trunks (page_of levels after.home) within
            (Turns-then sizes before.base after.base mid hand later later before.trunks after.trunks after.trunks within s.turns written) count given;
        kind_is = refl;
        stands = Stands-kept sizes mid new Index levels home (kept (pages_of levels home) (λ n. omega (arith, times-append n (pages_of levels home) chain))) (own, below);
        was = s.was;
        held = out-kept mid new after.out (kept chain (λ n. omega (arith, times-append n (pages_of levels home) chain)))
            (out-kept after.base mid after.out (beside chain after.trunks within_later writes (λ n. omega (arith, whole n, parts n))) s.held);
        root = moved-page sizes Index levels page after.home;
        list = subst⁻¹ (TakenOut (member after.out) (list_beside Index levels before.siblings before.home)) (moved-list levels page after.home) s.list;
        full = λ full.
            let made = s.full full.below.0 full.below.1 in
            record {
              below = moved-full levels page after.home made.0;
              root = λ deep other. moved-some levels page after.home (made.1 deep (λ is. other (moved-page sizes Index levels page after.home ∙ is)));
            };
      }

  -- the tree of a root beside whose page siblings stand, which gets a level
  abbrev pub deepened : (levels : ℕ) → After levels → ℕ → TreeOf (suc levels)
  deepened levels after fresh = record { page = page_of levels after.home; children = after.siblings; last = moved levels fresh after.home }

  -- What its page is to have is put on a page that was taken, and then the root is written with the cells between the siblings.
  pub root-rises : (levels : ℕ) (before : Before levels) (after : After levels) (fresh : ℕ) (mid new : Paged) (trunks : List Trunk) → IsOpened sizes levels false before after → before.siblings ≡ []
      → page_of levels after.home ≡ page_of levels before.home → Turns sizes after.base [] after.trunks mid (fresh ∷ []) trunks → IsNumber sizes mid fresh → HasOwnPage sizes mid Index levels (moved levels fresh after.home)
      → Writes (page_of levels after.home) mid new → HasOwnPage sizes new Index (suc levels) (deepened levels after fresh) → 0 < length (own_cells levels after.home)
      → (page_of levels after.home ≢ 1 → 0 < length (own_cells (suc levels) (deepened levels after fresh)))
      → IsRootDeleted sizes levels before.base before.home before.trunks new (record { kind = Index; levels = suc levels; tree = deepened levels after fresh }) after.out trunks
  root-rises levels before after fresh mid new trunks o alone_was same taken number own writes root filled some =
      let page = page_of levels after.home in
      let chain = after.out.chain in
      let home = moved levels fresh after.home in
      let within = Turns-within sizes before.base after.base (hand_of before) (hand_after after) before.trunks after.trunks o.within o.turns in
      let keeps : Keeps (hand_after after) after.base mid = Turns-keeps sizes after.base mid [] (fresh ∷ []) after.trunks trunks (hand_after after) (λ n. omega (arith, within n)) taken in
      let parts = λ (n : ℕ). hand-parts n levels after in
      let front = flat_map (λ (child : TreeOf levels × TreeCell). pages_of levels child.0 ++ child.1.chain) after.siblings in
      let hand = pages_of (suc levels) (deepened levels after fresh) ++ chain in
      let new_parts = λ (n : ℕ).
      let whole = times-append n (pages_of (suc levels) (deepened levels after fresh)) chain in
      let inner = times-append n front (pages_of levels home) in
      let own_page = pages-parts n levels home in
      let moved_page = ap (λ (p : ℕ). hit p n) (moved-page sizes Index levels fresh after.home) in
      let rest = ap (times n) (moved-rest levels fresh after.home) in
      let all : times n hand ≡ hit page n + times n front + hit fresh n + times n (pages_below levels after.home) + times n chain = omega arith in
      all in
      let step : Turns sizes after.base (hand_after after) after.trunks mid hand trunks =
      Turns-wide sizes after.base mid [] (fresh ∷ []) (hand_after after) hand after.trunks trunks (λ n. times n (hand_after after)) (λ n. omega arith) (λ n. omega (arith, parts n, new_parts n)) taken in
      let later = Turns-within sizes after.base mid (hand_after after) hand after.trunks trunks within step in
      let kept = kept-beside sizes mid new page hand in
      let siblings = children-kept sizes mid new Index levels (Stands-kept sizes mid new Index levels) after.siblings (kept front trunks later writes (λ n. omega (arith, new_parts n)))
      (children-kept sizes after.base mid Index levels (Stands-kept sizes after.base mid Index levels) after.siblings (keeps-fewer after.base mid (hand_after after) front (λ n more. omega (arith, parts n)) keeps) o.siblings) in
      let below = moved-below sizes mid levels fresh after.home
      (HasBelow-kept sizes after.base mid Index levels after.home (keeps-fewer after.base mid (hand_after after) (pages_below levels after.home) (λ n more. omega (arith, parts n)) keeps) o.below) in
      let home_stands : Stands sizes new Index levels home =
      Stands-kept sizes mid new Index levels home
      (kept (pages_of levels home) trunks later writes
      (λ n. omega (arith, new_parts n, pages-parts n levels home, ap (λ (p : ℕ). hit p n) (moved-page sizes Index levels fresh after.home), ap (times n) (moved-rest levels fresh after.home))))
      (own, below) in
      record {
        turns = subst (λ (s : List (TreeOf levels × TreeCell)). Turns sizes before.base (pages_beside levels s before.home) before.trunks new hand trunks) alone_was
            (Turns-then sizes before.base after.base new (hand_of before) (hand_after after) hand before.trunks after.trunks trunks o.within o.turns
            (Turns-then sizes after.base mid new (hand_after after) hand hand after.trunks trunks trunks within step (Turns-write sizes mid new page hand trunks later (omega (arith, new_parts page, hit-itself page)) writes)));
        kind_is = refl;
        stands = (
          root,
          (
            siblings,
            (
              subst⁻¹ (IsNumber sizes new) (moved-page sizes Index levels fresh after.home) (IsInRange-wider sizes.size mid.count new.count fresh (omega (arith, writes.count)) number),
              home_stands,
            ),
          ),
        );
        was = o.was;
        held = out-kept mid new after.out (kept chain trunks later writes (λ n. omega (arith, new_parts n)))
            (out-kept after.base mid after.out (keeps-fewer after.base mid (hand_after after) chain (λ n more. omega (arith, parts n)) keeps) o.held);
        root = same;
        list = subst (λ (s : List (TreeOf levels × TreeCell)). TakenOut (member after.out) (list_beside Index levels s before.home) (list_of Index (suc levels) (deepened levels after fresh))) alone_was
            (subst⁻¹
            (λ (l : List Member). TakenOut (member after.out) (list_beside Index levels before.siblings before.home) (flat_map (λ (child : TreeOf levels × TreeCell). list_of Index levels child.0 ++ between Index child.1) after.siblings ++ l))
            (moved-list levels fresh after.home) o.list);
        full = λ full.
            let made = o.full (subst⁻¹ (AllByRecursion (λ (child : TreeOf levels × TreeCell). IsFull levels child.0)) alone_was tt) full.below in
            record {
              below = (made.0, (moved-some levels fresh after.home filled, moved-full levels fresh after.home made.1));
              root = λ deep other. some other;
            };
      }
