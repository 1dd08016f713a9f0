-- Interior pages that a delete leaves without a cell: crates above cite these facts in their proofs.
use Rattle.std.proofs.Common.{◌≡◌, ℕ, suc, ◌+◌, ◌<◌, List, [], ◌∷◌, ◌++◌, length, map, refl, sym, ap, ◌∙◌, subst, inl, arith, length-append}
use Rattle.std.proofs.Math.Path.{subst⁻¹}
use Rattle.std.specs.List.{AllByRecursion}
use Rattle.std.proofs.lemmas.List.{map-append, length-map}
use Rattle.format_spec.specs.declared.PageKind.TheVariants.{TableInterior}
use Rattle.format_spec.specs.Cell.{IsCell}
use Rattle.page_spec.specs.Counts.{times}
use Rattle.page_spec.specs.CountsLaws.{times-append, hit-itself}
use Rattle.page_spec.specs.FreelistsLaws.{IsInRange-wider}
use Rattle.page_spec.specs.Freelists.{Trunk, free_pages}
use Rattle.tree_spec.specs.declared.TreeKind.TheVariants.{Table}
use Rattle.tree_spec.specs.Trees.{TreeCell, TreeOf, Member, interior_kind, page_of, cells_behind, pages_of, pages_beside}
use Rattle.tree_spec.specs.Standing.{Sizes, Paged, IsNumber, IsBehind, Stands, StandsBefore, StandsLast}
use Rattle.tree_spec.specs.StandingLaws.{divider-held, Stands-kept}
use Rattle.tree_spec.specs.Worlds.{IsFree}
use Rattle.tree_spec.specs.WorldsLaws.{all-front, all-back, all-join}
use Rattle.tree_spec.specs.Changes.{Within, Turns}
use Rattle.tree_spec.specs.ChangesLaws.{Turns-keeps}
use Rattle.put_spec.specs.Children.{child_at}
use Rattle.put_spec.specs.ChildrenLaws.{beside-first, child-stands}
use Rattle.put_spec.specs.Puts.{After, hand_after, IsInteriorCut}
use Rattle.put_spec.specs.PutsLaws.{pages-parts}
use Rattle.put_spec.specs.Steps.{Spelled, spelled, HasCells, child_page, with_dividers, IsSettled, Releases}
use Rattle.put_spec.specs.SpelledLaws.{page-tells}
use Rattle.delete_spec.specs.Deletes.{hand_of, alone, pair, became, parent_with, IsOpened}
use Rattle.delete_spec.specs.NeighboursLaws.{alone-among, pair-among, group-count}
use Rattle.delete_spec.specs.DeletesLaws.{last-same, left-loose, right-loose, pair-joined, group-above, divider-chain}
use Rattle.delete_spec.specs.CutsLaws.{dividers-in, cut-settled}
use Rattle.delete_spec.specs.Steps.{IsReady, OpenedDone, OpensBelow, EmptiesBelow}
use Rattle.delete_spec.specs.StepsLaws.{divider-payload, around-map, spelled-children, none-spelled, child-page, child-number, not-free}

-- cells with one behind them
behind-one : {Child : Type 0} (children : List (Child × TreeCell)) (child : Child) (cell : TreeCell) → map spelled (cells_behind (children ++ (child, cell) ∷ [])) ≡ map spelled (cells_behind children) ++ spelled cell ∷ []
behind-one [] child cell = refl
behind-one (x ∷ xs) child cell = ap (λ (l : List Spelled). spelled x.1 ∷ l) (behind-one xs child cell)

module _ (sizes : Sizes) (gone : Member) (levels : ℕ) where
  -- two neighbours were joined, but for the writing of the page, which is to have these cells
  record HasOpenedPair (old : Paged) (left : TreeOf (suc levels)) (divider : TreeCell) (right : TreeOf (suc levels)) (trunks : List Trunk) (given : Paged) (first bytes : ℕ) (cells : List Spelled) (last : ℕ) : Type 0 where
    home : TreeOf (suc levels)
    rest : List Trunk
    chain : List ℕ
    opened : IsOpened sizes (suc levels) gone (pair (suc levels) old left divider right trunks) (record { base = given; siblings = []; home = home; trunks = rest; first = first; bytes = bytes; chain = chain })
    page : page_of (suc levels) home ≡ page_of (suc levels) right
    cells_are : cells ≡ map spelled (cells_behind home.children)
    last_is : last ≡ page_of levels home.last
    free : IsFree sizes given rest

  module _ (old : Paged) (left : TreeOf (suc levels)) (divider : TreeCell) (right : TreeOf (suc levels)) (trunks : List Trunk) (mid given : Paged) (first bytes : ℕ) (middle : Spelled)
      (within : Within sizes old (hand_of (pair (suc levels) old left divider right trunks)) trunks) (before : StandsBefore sizes old Table (suc levels) (left, divider)) (behind : StandsLast sizes old Table (suc levels) right)
      (free : IsFree sizes old trunks) (is_cell : IsCell TableInterior sizes.usable middle.bytes middle.view) (rowid : middle.view.rowid ≡ divider.view.rowid) where
    abbrev came_down : TreeCell
    came_down = record { bytes = middle.bytes; view = middle.view; payload = []; chain = [] }

    pair-parts : (n : ℕ) → times n (pages_beside (suc levels) ((left, divider) ∷ []) right) ≡ times n (pages_of (suc levels) left) + times n divider.chain + times n (pages_of (suc levels) right)
    pair-parts n = beside-first n (suc levels) (left, divider) [] right

    -- The right one has no cell any more: the cells of the left one and the divider go in front of its only child.
    right-opened : (only : ℕ) (cells : List Spelled) (last : ℕ) → EmptiesBelow sizes gone (suc levels) right.page only old mid first bytes → HasCells sizes mid TableInterior left.page cells last → middle.view.child ≡ last
        → Releases sizes left.page mid given
        → HasOpenedPair old left divider right trunks given first bytes (cells ++ middle ∷ []) only
    right-opened only cells last empties has names gives =
        let e = empties right trunks refl free (record { within = λ n. omega (arith, within n, pair-parts n); stands = behind.1 }) in
        let after : After (suc levels) = record { base = mid; siblings = []; home = e.home; trunks = e.rest; first = first; bytes = bytes; chain = e.chain } in
        let t = e.opened.turns in
        let whole : TreeOf (suc levels) = record { page = e.home.page; children = left.children ++ (left.last, came_down) ∷ []; last = e.home.last } in
        let loose = right-loose sizes (suc levels) gone old left divider right trunks after within before.1.1 e.opened refl in
        let stays = Stands-kept sizes old mid Table (suc levels) left
        (Turns-keeps sizes old mid (pages_of (suc levels) right) (hand_after after) trunks e.rest (pages_of (suc levels) left) (λ n. omega (arith, within n, pair-parts n)) t) before.1 in
        let told = page-tells sizes mid Table (suc levels) left.page left cells last refl has stays in
        let cut : IsInteriorCut whole left divider e.home = record {
          middle = came_down;
          children = ap (λ (l : List (TreeOf levels × TreeCell)). left.children ++ (left.last, came_down) ∷ l) (sym (none-spelled e.home.children e.cells_are));
          last = refl;
          page = refl;
          rowid = sym rowid;
          payload = divider-payload sizes old divider before.0.held;
          chain = divider-chain sizes old divider before.0.held;
        } in
        let there : IsBehind sizes mid (interior_kind Table) came_down (page_of levels left.last) =
        record { held = divider-held sizes mid middle.bytes middle.view is_cell; names = names ∙ told.1; in_range = stays.1.1.0 } in
        let hand = pages_beside (suc levels) ((left, divider) ∷ []) e.home ++ e.chain in
        let in_hand : 0 < times left.page hand =
        omega (
          arith,
          times-append left.page (pages_beside (suc levels) ((left, divider) ∷ []) e.home) e.chain,
          beside-first left.page (suc levels) (left, divider) [] e.home,
          pages-parts left.page (suc levels) left,
          hit-itself left.page,
        ) in
        let g = gives e.rest (t.freelist free) (not-free sizes gone old mid (hand_of (pair (suc levels) old left divider right trunks)) hand trunks e.rest left.page within loose.turns in_hand) in
        let opened = pair-joined sizes levels gone (pair (suc levels) old left divider right trunks) after left divider e.home whole given g.0 loose cut there g.1 in
        let same : cells ++ middle ∷ [] ≡ map spelled (cells_behind whole.children) =
        ap (λ (l : List Spelled). l ++ middle ∷ []) told.0 ∙ sym (behind-one left.children left.last came_down) in
        record {
          home = whole;
          rest = g.0;
          chain = e.chain;
          opened = opened;
          page = e.page;
          cells_are = same;
          last_is = e.right_is;
          free = opened.turns.freelist free;
        }

    -- The left one has none: its only child and the divider go in front of the cells of the right one.
    left-opened : (only : ℕ) (cells : List Spelled) (last : ℕ) → EmptiesBelow sizes gone (suc levels) left.page only old mid first bytes → HasCells sizes mid TableInterior right.page cells last → middle.view.child ≡ only
        → Releases sizes left.page mid given
        → HasOpenedPair old left divider right trunks given first bytes (middle ∷ cells) last
    left-opened only cells last empties has names gives =
        let e = empties left trunks refl free (record { within = λ n. omega (arith, within n, pair-parts n); stands = before.1 }) in
        let after : After (suc levels) = record { base = mid; siblings = []; home = e.home; trunks = e.rest; first = first; bytes = bytes; chain = e.chain } in
        let t = e.opened.turns in
        let whole : TreeOf (suc levels) = record { page = right.page; children = (e.home.last, came_down) ∷ right.children; last = right.last } in
        let loose = left-loose sizes (suc levels) gone old left divider right trunks after within behind.1.1 e.opened refl in
        let stays = Stands-kept sizes old mid Table (suc levels) right
        (Turns-keeps sizes old mid (pages_of (suc levels) left) (hand_after after) trunks e.rest (pages_of (suc levels) right) (λ n. omega (arith, within n, pair-parts n)) t) behind.1 in
        let told = page-tells sizes mid Table (suc levels) right.page right cells last refl has stays in
        let cut : IsInteriorCut whole e.home divider right = record {
          middle = came_down;
          children = ap (λ (l : List (TreeOf levels × TreeCell)). l ++ (e.home.last, came_down) ∷ right.children) (sym (none-spelled e.home.children e.cells_are));
          last = refl;
          page = refl;
          rowid = sym rowid;
          payload = divider-payload sizes old divider before.0.held;
          chain = divider-chain sizes old divider before.0.held;
        } in
        let there : IsBehind sizes mid (interior_kind Table) came_down (page_of levels e.home.last) =
        record { held = divider-held sizes mid middle.bytes middle.view is_cell; names = names ∙ e.right_is; in_range = e.opened.below.1.0 } in
        let hand = pages_beside (suc levels) ((e.home, divider) ∷ []) right ++ e.chain in
        let in_hand : 0 < times e.home.page hand =
        omega (
          arith,
          times-append e.home.page (pages_beside (suc levels) ((e.home, divider) ∷ []) right) e.chain,
          beside-first e.home.page (suc levels) (e.home, divider) [] right,
          pages-parts e.home.page (suc levels) e.home,
          hit-itself e.home.page,
        ) in
        let g = gives e.rest (t.freelist free)
        (subst (λ (p : ℕ). times p (free_pages e.rest) ≡ 0) e.page (not-free sizes gone old mid (hand_of (pair (suc levels) old left divider right trunks)) hand trunks e.rest e.home.page within loose.turns in_hand)) in
        let opened = pair-joined sizes levels gone (pair (suc levels) old left divider right trunks) after e.home divider right whole given g.0 loose cut there
        (subst⁻¹ (λ (p : ℕ). Turns sizes mid (p ∷ []) e.rest given [] g.0) e.page g.1) in
        let same : middle ∷ cells ≡ map spelled (cells_behind whole.children) = ap (λ (l : List Spelled). middle ∷ l) told.0 in
        record {
          home = whole;
          rest = g.0;
          chain = e.chain;
          opened = opened;
          page = refl;
          cells_are = same;
          last_is = told.1;
          free = opened.turns.freelist free;
        }

  module _ (page : ℕ) (old : Paged) (cells : List Spelled) (right : ℕ) (front : List Spelled) (cell : Spelled) (back : List Spelled) (only : ℕ) (mid given written : Paged) (first bytes : ℕ) (middle : Spelled) (beside : List Spelled) (last : ℕ)
      (has : HasCells sizes old TableInterior page cells right) (parts : cells ≡ front ++ cell ∷ back) (is_cell : IsCell TableInterior sizes.usable middle.bytes middle.view) (rowid : middle.view.rowid ≡ cell.view.rowid) where
    -- the page behind the one that the cell names
    abbrev next : ℕ
    next = child_page (length front) (front ++ back) right

    -- what stands there, by the cell
    record HasPair (tree : TreeOf (suc (suc levels))) (trunks : List Trunk) : Type 0 where
      before : List (TreeOf (suc levels) × TreeCell)
      left : TreeOf (suc levels)
      divider : TreeCell
      behind : List (TreeOf (suc levels) × TreeCell)
      whole : tree.children ≡ before ++ (left, divider) ∷ behind
      others : front ++ back ≡ map spelled (cells_behind (before ++ behind))
      same : spelled divider ≡ cell
      named : left.page ≡ cell.view.child
      stands : StandsBefore sizes old Table (suc levels) (left, divider)
      right_named : page_of (suc levels) (child_at (length before) (before ++ behind) tree.last) ≡ next
      right_stands : StandsLast sizes old Table (suc levels) (child_at (length before) (before ++ behind) tree.last)
      within : Within sizes old (hand_of (pair (suc levels) old left divider (child_at (length before) (before ++ behind) tree.last) trunks)) trunks
      last_is : right ≡ page_of (suc levels) tree.last
      long : length front ≡ length before
      was : parent_with (suc levels) tree.page (length before) (before ++ behind) tree.last ((left, divider) ∷ []) (child_at (length before) (before ++ behind) tree.last) ≡ tree

    pair-there : (tree : TreeOf (suc (suc levels))) (trunks : List Trunk) → tree.page ≡ page → IsReady sizes (suc (suc levels)) old tree trunks → HasPair tree trunks
    pair-there tree trunks is ready =
        let told = page-tells sizes old Table (suc (suc levels)) page tree cells right is has ready.stands in
        let f : TreeOf (suc levels) × TreeCell → Spelled = λ child. spelled child.1 in
        let a = around-map f tree.children front cell back (sym (spelled-children tree.children) ∙ sym told.0 ∙ parts) in
        let i = length a.before in
        let others = a.before ++ a.after in
        let stands = StandsBefore sizes old Table (suc levels) in
        let all = subst (AllByRecursion stands) a.whole ready.stands.1.0 in
        let rest = all-back stands a.before (a.item ∷ a.after) all in
        let beside = all-join stands a.before a.after (all-front stands a.before (a.item ∷ a.after) all) rest.1 in
        let spelled_others : front ++ back ≡ map spelled (cells_behind others) =
        sym (map-append f a.before a.after ∙ cc (a.in_front, a.behind)) ∙ sym (spelled-children others) in
        let long : length front ≡ i = omega (arith, ap length a.in_front, length-map a.before f) in
        let among = pair-among (suc levels) a.before a.item.0 a.item.1 a.after tree.last in
        let right_tree = child_at i others tree.last in
        let was : parent_with (suc levels) tree.page i others tree.last (a.item ∷ []) right_tree ≡ tree = λ j. record { page = tree.page; children = (among.0 ∙ sym a.whole) j; last = among.1 j } in
        let count = λ (n : ℕ). ap (λ (t : TreeOf (suc (suc levels))). times n (pages_of (suc (suc levels)) t)) was in
        let named_next : next ≡ child_page i (map spelled (cells_behind others)) (page_of (suc levels) tree.last) =
        ap (λ (k : ℕ). child_page k (front ++ back) right) long ∙ ap (λ (cs : List Spelled). child_page i cs right) spelled_others ∙ ap (λ (r : ℕ). child_page i (map spelled (cells_behind others)) r) told.1 in
        record {
          before = a.before;
          left = a.item.0;
          divider = a.item.1;
          behind = a.after;
          whole = a.whole;
          others = spelled_others;
          same = a.here;
          named = sym rest.0.0.names ∙ ap (λ (c : Spelled). c.view.child) a.here;
          stands = rest.0;
          right_named = child-page sizes old (suc levels) i others tree.last beside ∙ sym named_next;
          right_stands = (child-number sizes old (suc levels) i others tree.last beside ready.stands.1.1, child-stands sizes Table old (suc levels) i others tree.last beside ready.stands.1.1.1);
          within = λ n. omega (arith, ready.within n, count n, (group-count n (suc levels) i others tree.last (a.item ∷ []) right_tree [] right_tree).0);
          last_is = told.1;
          long = long;
          was = was;
        }

    -- what the two became, still to be written
    record HasBecome (tree : TreeOf (suc (suc levels))) (trunks : List Trunk) (so : List Spelled) (its_last : ℕ) : Type 0 where
      at : HasPair tree trunks
      both : HasOpenedPair old at.left at.divider (child_at (length at.before) (at.before ++ at.behind) tree.last) trunks given first bytes so its_last

    -- Two interior pages are joined where the right one has no cell any more.
    right-become : (tree : TreeOf (suc (suc levels))) (trunks : List Trunk) → tree.page ≡ page → IsFree sizes old trunks → IsReady sizes (suc (suc levels)) old tree trunks
        → EmptiesBelow sizes gone (suc levels) next only old mid first bytes → HasCells sizes mid TableInterior cell.view.child beside last → middle.view.child ≡ last → Releases sizes cell.view.child mid given
        → HasBecome tree trunks (beside ++ middle ∷ []) only
    right-become tree trunks is free ready empties has_beside names gives =
        let p = pair-there tree trunks is ready in
        let there = child_at (length p.before) (p.before ++ p.behind) tree.last in
        record {
          at = p;
          both = right-opened old p.left p.divider there trunks mid given first bytes middle p.within p.stands p.right_stands free is_cell (rowid ∙ sym (ap (λ (c : Spelled). c.view.rowid) p.same)) only beside last
              (subst⁻¹ (λ (n : ℕ). EmptiesBelow sizes gone (suc levels) n only old mid first bytes) p.right_named empties) (subst⁻¹ (λ (n : ℕ). HasCells sizes mid TableInterior n beside last) p.named has_beside) names
              (subst⁻¹ (λ (n : ℕ). Releases sizes n mid given) p.named gives);
        }

    -- Two interior pages are joined where the left one has no cell any more.
    left-become : (tree : TreeOf (suc (suc levels))) (trunks : List Trunk) → tree.page ≡ page → IsFree sizes old trunks → IsReady sizes (suc (suc levels)) old tree trunks
        → EmptiesBelow sizes gone (suc levels) cell.view.child only old mid first bytes → HasCells sizes mid TableInterior next beside last → middle.view.child ≡ only → Releases sizes cell.view.child mid given
        → HasBecome tree trunks (middle ∷ beside) last
    left-become tree trunks is free ready empties has_beside names gives =
        let p = pair-there tree trunks is ready in
        let there = child_at (length p.before) (p.before ++ p.behind) tree.last in
        record {
          at = p;
          both = left-opened old p.left p.divider there trunks mid given first bytes middle p.within p.stands p.right_stands free is_cell (rowid ∙ sym (ap (λ (c : Spelled). c.view.rowid) p.same)) only beside last
              (subst⁻¹ (λ (n : ℕ). EmptiesBelow sizes gone (suc levels) n only old mid first bytes) p.named empties) (subst⁻¹ (λ (n : ℕ). HasCells sizes mid TableInterior n beside last) p.right_named has_beside) names
              (subst⁻¹ (λ (n : ℕ). Releases sizes n mid given) p.named gives);
        }

    -- What the two became is settled: the parent is to have the dividers that came in place of the cell that came down.
    become-settled : (tree : TreeOf (suc (suc levels))) (trunks : List Trunk) (so : List Spelled) (its_last : ℕ) (grew : List Spelled) → IsReady sizes (suc (suc levels)) old tree trunks
        → HasBecome tree trunks so its_last → 0 < length so → IsSettled sizes (suc levels) Table next its_last so given written grew
        → OpenedDone sizes gone (suc (suc levels)) old tree trunks written (with_dividers (front ++ back) (length front) grew) right first bytes
    become-settled tree trunks so its_last grew ready b some settled =
        let p = b.at in
        let i = length p.before in
        let others = p.before ++ p.behind in
        let there = child_at i others tree.last in
        let o = b.both in
        let after : After (suc levels) = record { base = given; siblings = []; home = o.home; trunks = o.rest; first = first; bytes = bytes; chain = o.chain } in
        let s = cut-settled sizes gone levels grew (pair (suc levels) old p.left p.divider there trunks) after so its_last written o.free o.opened o.cells_are o.last_is some
        (subst⁻¹ (λ (n : ℕ). IsSettled sizes (suc levels) Table n its_last so given written grew) (o.page ∙ p.right_named) settled) in
        let home = parent_with (suc levels) tree.page i others tree.last s.siblings s.home in
        let last_page : s.home.page ≡ there.page = s.page ∙ o.page in
        let number = subst⁻¹ (IsNumber sizes written) last_page (IsInRange-wider sizes.size old.count written.count there.page s.done.opened.turns.grows p.right_stands.0) in
        let opened = group-above sizes (suc levels) gone tree.page i others tree.last (pair (suc levels) old p.left p.divider there trunks) (became (suc levels) (suc levels) after s.siblings s.home written s.trunks)
        (subst⁻¹ (λ (t : TreeOf (suc (suc levels))). Within sizes old (pages_of (suc (suc levels)) t) trunks) p.was ready.within) (subst⁻¹ (Stands sizes old Table (suc (suc levels))) p.was ready.stands)
        s.done number (inl last_page) (λ _ _. s.some) in
        let among = alone-among (suc levels) i others tree.last in
        let long : length front ≡ i = p.long in
        let cells_are : with_dividers (front ++ back) (length front) grew ≡ map spelled (cells_behind home.children) =
        ap (λ (cs : List Spelled). with_dividers cs (length front) grew) p.others ∙ ap (λ (k : ℕ). with_dividers (map spelled (cells_behind others)) k grew) long
        ∙ ap (λ (ds : List Spelled). with_dividers (map spelled (cells_behind others)) i ds) (sym s.dividers_are) ∙ dividers-in i others s.siblings s.home (omega (arith, length-append p.before p.behind)) in
        let right_is : right ≡ page_of (suc levels) home.last = p.last_is ∙ sym (last-same (suc levels) i others tree.last there s.home last_page ∙ ap (page_of (suc levels)) among.1) in
        record {
          home = home;
          rest = s.trunks;
          chain = o.chain;
          opened = subst (λ (t : TreeOf (suc (suc levels))). IsOpened sizes (suc (suc levels)) gone (alone (suc (suc levels)) old t trunks)
              (record { base = written; siblings = []; home = home; trunks = s.trunks; first = first; bytes = bytes; chain = o.chain })) p.was opened;
          page = refl;
          cells_are = cells_are;
          right_is = right_is;
        }

    -- The right one has no cell any more. The page behind the cell gets the cells of the one that the cell names, and the cell that came down.
    pub right-joins : EmptiesBelow sizes gone (suc levels) next only old mid first bytes → HasCells sizes mid TableInterior cell.view.child beside last → middle.view.child ≡ last → Releases sizes cell.view.child mid given
        → (grew : List Spelled) → IsSettled sizes (suc levels) Table next only (beside ++ middle ∷ []) given written grew
        → OpensBelow sizes gone (suc (suc levels)) page (with_dividers (front ++ back) (length front) grew) right old written first bytes
    right-joins empties has_beside names gives grew settled tree trunks is free ready =
        become-settled tree trunks (beside ++ middle ∷ []) only grew ready (right-become tree trunks is free ready empties has_beside names gives) (omega (arith, length-append beside (middle ∷ []))) settled

    -- The left one has none: the page behind the cell gets the cell that came down in front of its own.
    pub left-joins : EmptiesBelow sizes gone (suc levels) cell.view.child only old mid first bytes → HasCells sizes mid TableInterior next beside last → middle.view.child ≡ only → Releases sizes cell.view.child mid given
        → (grew : List Spelled) → IsSettled sizes (suc levels) Table next last (middle ∷ beside) given written grew
        → OpensBelow sizes gone (suc (suc levels)) page (with_dividers (front ++ back) (length front) grew) right old written first bytes
    left-joins empties has_beside names gives grew settled tree trunks is free ready =
        become-settled tree trunks (middle ∷ beside) last grew ready (left-become tree trunks is free ready empties has_beside names gives) (omega arith) settled
