-- What is done page by page makes a delete: crates above cite these facts in their proofs.
use Rattle.std.proofs.Common.{◌≡◌, ◌≢◌, ℕ, zero, suc, ◌+◌, ◌-◌, ◌<◌, ◌≤◌, List, [], ◌∷◌, ◌++◌, length, map, refl, sym, ap, ◌∙◌, subst, inl, inr, arith}
use Rattle.std.proofs.Math.Path.{subst⁻¹}
use Rattle.std.specs.List.{AllByRecursion}
use Rattle.std.proofs.lemmas.List.{append-nil, map-append, length-map, nil_from_length}
use Rattle.format_spec.specs.declared.PageKind.TheVariants.{TableInterior, TableLeaf}
use Rattle.format_spec.specs.Page.{IsPage}
use Rattle.byte_fields.specs.Bytes.{part_of}
use Rattle.page_spec.specs.Chains.{chain_bytes}
use Rattle.page_spec.specs.Counts.{times}
use Rattle.page_spec.specs.CountsLaws.{times-append, hit-itself}
use Rattle.page_spec.specs.FreePagesLaws.{due-most}
use Rattle.page_spec.specs.FreelistsLaws.{IsInRange-wider}
use Rattle.page_spec.specs.Freelists.{Trunk, free_pages}
use Rattle.tree_spec.specs.declared.TreeKind.{TreeKind}
use Rattle.tree_spec.specs.declared.TreeKind.TheVariants.{Table}
use Rattle.tree_spec.specs.Trees.{TreeCell, TreeOf, Leaf, Rooted, Member, interior_kind, kind_at, page_of, own_cells, own_right, cells_behind, pages_of, pages_beside, pages_in, member, root_of}
use Rattle.tree_spec.specs.Standing.{Sizes, Paged, Keeps, IsNumber, IsHeld, HasOwnPage, Stands, StandsBefore, StandsLast}
use Rattle.tree_spec.specs.StandingLaws.{held-kept, keeps-first, Stands-kept}
use Rattle.tree_spec.specs.Worlds.{IsFree, IsWorld, with_tree, greatest_count}
use Rattle.tree_spec.specs.WorldsLaws.{all-front, all-back, all-join, world-root, world-within}
use Rattle.tree_spec.specs.Changes.{Within, Turns, Writes}
use Rattle.tree_spec.specs.ChangesLaws.{Turns-within, Turns-write, Turns-keeps}
use Rattle.put_spec.specs.Children.{child_at}
use Rattle.put_spec.specs.ChildrenLaws.{beside-first, child-within, child-stands}
use Rattle.put_spec.specs.Puts.{After, hand_after, moved}
use Rattle.put_spec.specs.PutsLaws.{pages-parts, moved-page}
use Rattle.put_spec.specs.Steps.{Spelled, spelled, bytes_in, HasCells, child_page, GivesBack, Releases}
use Rattle.put_spec.specs.SpelledLaws.{page-tells}
use Rattle.put_spec.specs.SettledLaws.{own-written, moved-cells, moved-right}
use Rattle.delete_spec.specs.Deletes.{Before, hand_of, alone, pair, parent_with, IsOpened, IsDeleted, IsSunk, IsWorldDeleted}
use Rattle.delete_spec.specs.NeighboursLaws.{alone-among, pair-among, end-among, group-count}
use Rattle.delete_spec.specs.DeletesLaws.{cells-same, leaf-taken, left-loose, right-loose, left-leaf-gone, right-leaf-gone, group-above, parent-untouched, root-stays, sunk-child, sunk-root, root-sinks}
use Rattle.delete_spec.specs.WorldsLaws.{world-deleted}
use Rattle.delete_spec.specs.Steps.{IsReady, IsPayload, OpensBelow, EmptiesBelow, GrowsBelow, RootDone, DeleteAt, DeleteInto}

-- Lists of cells.

-- a list whose image has an item with others in front and behind
pub record HasAround {A B : Type 0} (f : A → B) (xs : List A) (front : List B) (y : B) (back : List B) : Type 0 where
  pub before : List A
  pub item : A
  pub after : List A
  pub whole : xs ≡ before ++ item ∷ after
  pub in_front : map f before ≡ front
  pub here : f item ≡ y
  pub behind : map f after ≡ back

pub around-map : {A B : Type 0} (f : A → B) (xs : List A) (front : List B) (y : B) (back : List B) → map f xs ≡ front ++ y ∷ back → HasAround f xs front y back
around-map f [] [] y back e = absurd (let h : ⊥ = cc in h)
around-map f (x ∷ xs) [] y back e = record { before = []; item = x; after = xs; whole = refl; in_front = refl; here = cc; behind = cc }
around-map f [] (z ∷ zs) y back e = absurd (let h : ⊥ = cc in h)
around-map f (x ∷ xs) (z ∷ zs) y back e =
    let first : f x ≡ z = cc in
    let later : map f xs ≡ zs ++ y ∷ back = cc in
    let rest = around-map f xs zs y back later in
    record {
      before = x ∷ rest.before;
      item = rest.item;
      after = rest.after;
      whole = ap (λ l. x ∷ l) rest.whole;
      in_front = cc (first, rest.in_front);
      here = rest.here;
      behind = rest.behind;
    }

pub bytes-spelled : (cells : List TreeCell) → bytes_in (map spelled cells) ≡ map (λ (cell : TreeCell). cell.bytes) cells
bytes-spelled [] = refl
bytes-spelled (cell ∷ cells) = ap (λ (l : List (List ℕ)). cell.bytes ∷ l) (bytes-spelled cells)

pub spelled-children : {Child : Type 0} (children : List (Child × TreeCell)) → map spelled (cells_behind children) ≡ map (λ (child : Child × TreeCell). spelled child.1) children
spelled-children [] = refl
spelled-children (child ∷ children) = ap (λ (l : List Spelled). spelled child.1 ∷ l) (spelled-children children)

-- no cell is behind a child: no child has one
pub none-spelled : {Child : Type 0} (children : List (Child × TreeCell)) → [] ≡ map spelled (cells_behind children) → children ≡ []
none-spelled [] e = refl
none-spelled (x ∷ xs) e = absurd (let h : ⊥ = cc in h)

-- the divider of a table has no payload
pub divider-payload : (sizes : Sizes) (base : Paged) (divider : TreeCell) → IsHeld sizes base (interior_kind Table) divider → divider.payload ≡ []
divider-payload sizes base divider held =
    held.whole
    ∙ ap (λ (n : ℕ). part_of divider.bytes divider.view.local_at n ++ chain_bytes base.pages sizes.usable divider.chain (divider.view.payload - divider.view.local)) held.is_cell.local
    ∙ ap (λ (n : ℕ). chain_bytes base.pages sizes.usable divider.chain n) (let none : divider.view.payload - divider.view.local ≡ 0 = omega (arith, held.is_cell.payload) in none)

-- no cell is spelled so: there is none
pub unspelled : (cells : List TreeCell) → [] ≡ map spelled cells → cells ≡ []
unspelled [] e = refl
unspelled (x ∷ xs) e = absurd (let h : ⊥ = cc in h)

module _ (sizes : Sizes) where
  -- a written interior page is that of its tree
  pub own-page : (levels : ℕ) (base : Paged) (tree : TreeOf (suc levels)) (page : ℕ) (cells : List Spelled) (right : ℕ) → tree.page ≡ page → cells ≡ map spelled (cells_behind tree.children) → right ≡ page_of levels tree.last
      → IsPage (base.pages page) page sizes.usable TableInterior (bytes_in cells) right → HasOwnPage sizes base Table (suc levels) tree
  own-page levels base tree page cells right is same right_is written = own-written sizes Table base (suc levels) tree page cells right is same right_is written

  -- A child.

  pub child-page : (base : Paged) (levels i : ℕ) (children : List (TreeOf levels × TreeCell)) (last : TreeOf levels) → AllByRecursion (StandsBefore sizes base Table levels) children
      → page_of levels (child_at i children last) ≡ child_page i (map spelled (cells_behind children)) (page_of levels last)
  child-page base levels i [] last all = refl
  child-page base levels zero (child ∷ children) last all = sym all.0.0.names
  child-page base levels (suc i) (child ∷ children) last all = child-page base levels i children last all.1

  pub child-number : (base : Paged) (levels i : ℕ) (children : List (TreeOf levels × TreeCell)) (last : TreeOf levels) → AllByRecursion (StandsBefore sizes base Table levels) children
      → StandsLast sizes base Table levels last → IsNumber sizes base (page_of levels (child_at i children last))
  child-number base levels i [] last all end = end.0
  child-number base levels zero (child ∷ children) last all end = all.0.0.in_range
  child-number base levels (suc i) (child ∷ children) last all end = child-number base levels i children last all.1 end

  -- what a delete below a child needs
  pub child-ready : (levels : ℕ) (base : Paged) (tree : TreeOf (suc levels)) (trunks : List Trunk) (i : ℕ) → IsReady sizes (suc levels) base tree trunks
      → IsReady sizes levels base (child_at i tree.children tree.last) trunks
  child-ready levels base tree trunks i ready = record {
    within = λ n. omega (arith, ready.within n, child-within n levels i tree.children tree.last);
    stands = child-stands sizes Table base levels i tree.children tree.last ready.stands.1.0 ready.stands.1.1.1;
  }

module _ (sizes : Sizes) (gone : Member) where
  same-member : (old : Paged) (cell : Spelled) (item : TreeCell) → gone.rowid ≡ cell.view.rowid → IsPayload sizes old cell gone.payload → spelled item ≡ cell → IsHeld sizes old TableLeaf item → member item ≡ gone
  same-member old cell item rowid payload here held =
      let is_rowid : item.view.rowid ≡ gone.rowid = ap (λ (c : Spelled). c.view.rowid) here ∙ sym rowid in
      let read = subst⁻¹ (λ (c : Spelled). IsPayload sizes old c gone.payload) here payload item.chain held.is_chain in
      let is_payload : item.payload ≡ gone.payload = held.whole ∙ sym read in
      λ i. record { rowid = is_rowid i; payload = is_payload i }

  leaf-opened : (old : Paged) (tree : Leaf) (trunks : List Trunk) (front : List Spelled) (cell : Spelled) (back : List Spelled) (a : HasAround spelled tree.cells front cell back) → gone.rowid ≡ cell.view.rowid
      → IsPayload sizes old cell gone.payload → IsReady sizes zero old tree trunks
      → IsOpened sizes zero gone (alone zero old tree trunks)
      (record { base = old; siblings = []; home = record { page = tree.page; cells = a.before ++ a.after }; trunks = trunks; first = cell.view.overflow; bytes = cell.view.payload - cell.view.local; chain = a.item.chain })
  leaf-opened old tree trunks front cell back a rowid payload ready =
      let held = (all-back (IsHeld sizes old TableLeaf) a.before (a.item ∷ a.after) (subst (AllByRecursion (IsHeld sizes old TableLeaf)) a.whole ready.stands.1)).0 in
      subst
      (λ (c : Spelled). IsOpened sizes zero gone (alone zero old tree trunks)
      (record { base = old; siblings = []; home = record { page = tree.page; cells = a.before ++ a.after }; trunks = trunks; first = c.view.overflow; bytes = c.view.payload - c.view.local; chain = a.item.chain }))
      a.here
      (
      subst
      (λ (m : Member). IsOpened sizes zero m (alone zero old tree trunks)
      (record { base = old; siblings = []; home = record { page = tree.page; cells = a.before ++ a.after }; trunks = trunks; first = a.item.view.overflow; bytes = a.item.view.payload - a.item.view.local; chain = a.item.chain }))
      (same-member old cell a.item rowid payload a.here held) (leaf-taken sizes old tree trunks a.before a.item a.after ready.within ready.stands a.whole)
      )

  -- A leaf is to have its cells without one.
  pub leaf-opens : (page : ℕ) (old : Paged) (cells : List Spelled) (right : ℕ) (front : List Spelled) (cell : Spelled) (back : List Spelled) → HasCells sizes old TableLeaf page cells right
      → cells ≡ front ++ cell ∷ back → gone.rowid ≡ cell.view.rowid → IsPayload sizes old cell gone.payload
      → OpensBelow sizes gone zero page (front ++ back) 0 old old cell.view.overflow (cell.view.payload - cell.view.local)
  leaf-opens page old cells right front cell back has parts rowid payload tree trunks is free ready =
      let told = page-tells sizes old Table zero page tree cells right is has ready.stands in
      let a = around-map spelled tree.cells front cell back (sym told.0 ∙ parts) in
      let joined = map-append spelled a.before a.after in
      record {
        home = record { page = tree.page; cells = a.before ++ a.after };
        rest = trunks;
        chain = a.item.chain;
        opened = leaf-opened old tree trunks front cell back a rowid payload ready;
        page = refl;
        cells_are = let rest : front ++ back ≡ map spelled (a.before ++ a.after) = cc (joined, a.in_front, a.behind) in rest;
        right_is = refl;
      }

  -- what is left of a page that is not written, since a child of it was not cut
  record HasStayed (levels : ℕ) (old : Paged) (tree : TreeOf levels) (trunks : List Trunk) (new : Paged) (left first bytes : ℕ) : Type 0 where
    home : TreeOf levels
    rest : List Trunk
    chain : List ℕ
    deleted : IsDeleted sizes levels gone (alone levels old tree trunks) (record { base = new; siblings = []; home = home; trunks = rest; first = first; bytes = bytes; chain = chain })
    page : page_of levels home ≡ page_of levels tree
    cells : length (own_cells levels home) ≡ left

  parent-stayed : (levels page : ℕ) (old : Paged) (cells : List Spelled) (right at : ℕ) (new : Paged) (first bytes : ℕ) (tree : TreeOf (suc levels)) (trunks : List Trunk) → HasCells sizes old TableInterior page cells right
      → GrowsBelow sizes gone levels (child_page at cells right) old new [] first bytes → page_of (suc levels) tree ≡ page → IsFree sizes old trunks → IsReady sizes (suc levels) old tree trunks
      → HasStayed (suc levels) old tree trunks new (length cells) first bytes
  parent-stayed levels page old cells right at new first bytes tree trunks has below is free ready =
      let told = page-tells sizes old Table (suc levels) page tree cells right is has ready.stands in
      let child = child_at at tree.children tree.last in
      let named : page_of levels child ≡ child_page at cells right =
      child-page sizes old levels at tree.children tree.last ready.stands.1.0
      ∙ sym (ap (λ (cs : List Spelled). child_page at cs right) told.0 ∙ ap (λ (r : ℕ). child_page at (map spelled (cells_behind tree.children)) r) told.1) in
      let done = below child trunks named free (child-ready sizes levels old tree trunks at ready) in
      let done_below : IsDeleted sizes levels gone (alone levels old child trunks) (record { base = new; siblings = []; home = done.home; trunks = done.rest; first = first; bytes = bytes; chain = done.chain }) =
      subst (λ (s : List (TreeOf levels × TreeCell)). IsDeleted sizes levels gone (alone levels old child trunks) (record { base = new; siblings = s; home = done.home; trunks = done.rest; first = first; bytes = bytes; chain = done.chain }))
      (none-spelled done.siblings (sym done.dividers_are)) done.deleted in
      let a = alone-among levels at tree.children tree.last in
      let same : parent_with levels tree.page at tree.children tree.last [] child ≡ tree = λ i. record { page = tree.page; children = a.0 i; last = a.1 i } in
      let home = parent_with levels tree.page at tree.children tree.last [] done.home in
      let after : After levels = record { base = new; siblings = []; home = done.home; trunks = done.rest; first = first; bytes = bytes; chain = done.chain } in
      let o = done_below.opened in
      let number = subst⁻¹ (IsNumber sizes new) done.page
      (IsInRange-wider sizes.size old.count new.count (page_of levels child) o.turns.grows (child-number sizes old levels at tree.children tree.last ready.stands.1.0 ready.stands.1.1)) in
      let opened = group-above sizes levels gone tree.page at tree.children tree.last (alone levels old child trunks) after
      (subst⁻¹ (λ (t : TreeOf (suc levels)). Within sizes old (pages_of (suc levels) t) trunks) same ready.within)
      (subst⁻¹ (Stands sizes old Table (suc levels)) same ready.stands) done_below number (inl done.page) (λ _ _. done.some) in
      let keeps : Keeps (tree.page ∷ []) old new = Turns-keeps sizes old new (pages_of levels child) (hand_after after) trunks done.rest (tree.page ∷ [])
      (λ n. omega (arith, ready.within n, child-within n levels at tree.children tree.last)) o.turns in
      let deleted = parent-untouched sizes levels gone tree.page at tree.children tree.last (alone levels old child trunks) after opened done.page
      (subst⁻¹ (HasOwnPage sizes old Table (suc levels)) same ready.stands.0) (keeps-first old new tree.page [] keeps) in
      record {
        home = home;
        rest = done.rest;
        chain = done.chain;
        deleted = subst (λ (t : TreeOf (suc levels)). IsDeleted sizes (suc levels) gone (alone (suc levels) old t trunks)
            (record { base = new; siblings = []; home = home; trunks = done.rest; first = first; bytes = bytes; chain = done.chain })) same deleted;
        page = refl;
        cells = omega (
          arith,
          ap length told.0,
          length-map (cells_behind tree.children) spelled,
          ap length (cells-same levels at tree.children child done.home),
          ap (λ (xs : List (TreeOf levels × TreeCell)). length (cells_behind xs)) a.0,
        );
      }

  -- A delete below a child that is not cut is one below its parent, which keeps its cells and is not written.
  pub parent-stays : (levels page : ℕ) (old : Paged) (cells : List Spelled) (right at : ℕ) (new : Paged) (first bytes : ℕ) → HasCells sizes old TableInterior page cells right → 0 < length cells
      → GrowsBelow sizes gone levels (child_page at cells right) old new [] first bytes → GrowsBelow sizes gone (suc levels) page old new [] first bytes
  parent-stays levels page old cells right at new first bytes has some below tree trunks is free ready =
      let done = parent-stayed levels page old cells right at new first bytes tree trunks has below is free ready in
      record { siblings = []; home = done.home; rest = done.rest; chain = done.chain; deleted = done.deleted; page = done.page; dividers_are = refl; some = omega (arith, done.cells) }

  -- The same of a root; page 1 needs no cell.
  pub root-unwritten : (levels root : ℕ) (old : Paged) (cells : List Spelled) (right at : ℕ) (new : Paged) (first bytes : ℕ) → HasCells sizes old TableInterior root cells right → (root ≢ 1 → 0 < length cells)
      → GrowsBelow sizes gone levels (child_page at cells right) old new [] first bytes → DeleteAt sizes gone (suc levels) root old new first bytes
  root-unwritten levels root old cells right at new first bytes has some below tree trunks is free ready =
      let done = parent-stayed levels root old cells right at new first bytes tree trunks has below is free ready in
      let after : After (suc levels) = record { base = new; siblings = []; home = done.home; trunks = done.rest; first = first; bytes = bytes; chain = done.chain } in
      record {
        rooted = record { kind = Table; levels = suc levels; tree = done.home };
        rest = done.rest;
        chain = done.chain;
        deleted = root-stays sizes (suc levels) gone old tree trunks after done.deleted refl done.page (λ deep other. omega (arith, done.cells, some (λ one. other (done.page ∙ is ∙ one))));
      }

  -- the delete is done but for the own page, which is as said
  pub record HasOpened (levels : ℕ) (old : Paged) (tree : TreeOf levels) (trunks : List Trunk) (home : TreeOf levels) (new : Paged) (first bytes : ℕ) : Type 0 where
    pub rest : List Trunk
    pub chain : List ℕ
    pub opened : IsOpened sizes levels gone (alone levels old tree trunks) (record { base = new; siblings = []; home = home; trunks = rest; first = first; bytes = bytes; chain = chain })

  -- A leaf that would have no cell any more goes.

  -- what is known of a child among others, whose delete left it without a cell
  child-emptied : (old : Paged) (tree : TreeOf (suc zero)) (trunks : List Trunk) (left : Leaf) (divider : TreeCell) (right : Leaf) → IsReady sizes (suc zero) old tree trunks
      → ((n : ℕ) → times n (pages_beside zero ((left, divider) ∷ []) right) ≤ times n (pages_of (suc zero) tree)) → Within sizes old (hand_of (pair zero old left divider right trunks)) trunks
  child-emptied old tree trunks left divider right ready within n = omega (arith, ready.within n, within n)

  -- a page in hand is not free
  pub not-free : (old mid : Paged) (x y : List ℕ) (p q : List Trunk) (page : ℕ) → Within sizes old x p → Turns sizes old x p mid y q → 0 < times page y → times page (free_pages q) ≡ 0
  not-free old mid x y p q page within t some = omega (arith, Turns-within sizes old mid x y p q within t page, due-most sizes.size mid.count page)

  own-some : (home : Leaf) (chain : List ℕ) → 0 < times home.page (pages_of zero home ++ chain)
  own-some home chain = omega (arith, times-append home.page (pages_of zero home) chain, hit-itself home.page)

  -- one of two leaves is gone
  record HasGone (old : Paged) (left : Leaf) (divider : TreeCell) (right : Leaf) (trunks : List Trunk) (home : Leaf) (given : Paged) (first bytes : ℕ) : Type 0 where
    rest : List Trunk
    chain : List ℕ
    done : IsDeleted sizes zero gone (pair zero old left divider right trunks) (record { base = given; siblings = []; home = home; trunks = rest; first = first; bytes = bytes; chain = chain })

  module _ (old : Paged) (left : Leaf) (divider : TreeCell) (right : Leaf) (trunks : List Trunk) (mid given : Paged) (first bytes : ℕ) (within : Within sizes old (hand_of (pair zero old left divider right trunks)) trunks)
      (before : StandsBefore sizes old Table zero (left, divider)) (behind : Stands sizes old Table zero right) (free : IsFree sizes old trunks) where
    pair-parts : (n : ℕ) → times n (pages_beside zero ((left, divider) ∷ []) right) ≡ times n (pages_of zero left) + times n divider.chain + times n (pages_of zero right)
    pair-parts n = beside-first n zero (left, divider) [] right

    left-gone : EmptiesBelow sizes gone zero left.page 0 old mid first bytes → Releases sizes left.page mid given → HasGone old left divider right trunks right given first bytes
    left-gone empties gives =
        let e = empties left trunks refl free (record { within = λ n. omega (arith, within n, pair-parts n); stands = before.1 }) in
        let after : After zero = record { base = mid; siblings = []; home = e.home; trunks = e.rest; first = first; bytes = bytes; chain = e.chain } in
        let t = e.opened.turns in
        let kept = λ (numbers : List ℕ) (fewer : (n : ℕ) → times n numbers + times n (pages_of zero left) ≤ times n (pages_beside zero ((left, divider) ∷ []) right)).
        Turns-keeps sizes old mid (pages_of zero left) (hand_after after) trunks e.rest numbers (λ n. omega (arith, within n, fewer n)) t in
        let g = gives e.rest (t.freelist free)
        (subst (λ (p : ℕ). times p (free_pages e.rest) ≡ 0) e.page (not-free old mid (pages_of zero left) (hand_after after) trunks e.rest e.home.page e.opened.within t (own-some e.home e.chain))) in
        record {
          rest = g.0;
          chain = e.chain;
          done = left-leaf-gone sizes gone (pair zero old left divider right trunks) after e.home divider right given g.0
              (left-loose sizes zero gone old left divider right trunks after within behind.1 e.opened refl) (unspelled e.home.cells e.cells_are)
              (held-kept sizes old mid TableInterior divider (kept divider.chain (λ n. omega (arith, pair-parts n))) before.0.held)
              (Stands-kept sizes old mid Table zero right (kept (pages_of zero right) (λ n. omega (arith, pair-parts n))) behind).0
              (subst⁻¹ (λ (p : ℕ). Turns sizes mid (p ∷ []) e.rest given [] g.0) e.page g.1);
        }

    right-gone : EmptiesBelow sizes gone zero right.page 0 old mid first bytes → Releases sizes right.page mid given → HasGone old left divider right trunks left given first bytes
    right-gone empties gives =
        let e = empties right trunks refl free (record { within = λ n. omega (arith, within n, pair-parts n); stands = behind }) in
        let after : After zero = record { base = mid; siblings = []; home = e.home; trunks = e.rest; first = first; bytes = bytes; chain = e.chain } in
        let t = e.opened.turns in
        let kept = λ (numbers : List ℕ) (fewer : (n : ℕ) → times n numbers + times n (pages_of zero right) ≤ times n (pages_beside zero ((left, divider) ∷ []) right)).
        Turns-keeps sizes old mid (pages_of zero right) (hand_after after) trunks e.rest numbers (λ n. omega (arith, within n, fewer n)) t in
        let g = gives e.rest (t.freelist free)
        (subst (λ (p : ℕ). times p (free_pages e.rest) ≡ 0) e.page (not-free old mid (pages_of zero right) (hand_after after) trunks e.rest e.home.page e.opened.within t (own-some e.home e.chain))) in
        record {
          rest = g.0;
          chain = e.chain;
          done = right-leaf-gone sizes gone (pair zero old left divider right trunks) after left divider e.home given g.0
              (right-loose sizes zero gone old left divider right trunks after within before.1.1 e.opened refl) (unspelled e.home.cells e.cells_are)
              (held-kept sizes old mid TableInterior divider (kept divider.chain (λ n. omega (arith, pair-parts n))) before.0.held)
              (Stands-kept sizes old mid Table zero left (kept (pages_of zero left) (λ n. omega (arith, pair-parts n))) before.1).0
              (subst⁻¹ (λ (p : ℕ). Turns sizes mid (p ∷ []) e.rest given [] g.0) e.page g.1);
        }

  -- The parent of a leaf that goes, which has a neighbour to its right: the cell that names it goes too. Its page is still to be written.
  left-leaf-opened : (old : Paged) (tree : TreeOf (suc zero)) (trunks : List Trunk) (front : List (Leaf × TreeCell)) (left : Leaf) (divider : TreeCell) (back : List (Leaf × TreeCell)) (mid given : Paged) (first bytes : ℕ)
      → tree.children ≡ front ++ (left, divider) ∷ back → IsFree sizes old trunks → IsReady sizes (suc zero) old tree trunks → EmptiesBelow sizes gone zero left.page 0 old mid first bytes → Releases sizes left.page mid given
      → HasOpened (suc zero) old tree trunks (record { page = tree.page; children = front ++ back; last = tree.last }) given first bytes
  left-leaf-opened old tree trunks front left divider back mid given first bytes whole free ready empties gives =
      let i = length front in
      let others = front ++ back in
      let right = child_at i others tree.last in
      let stands = StandsBefore sizes old Table zero in
      let all = subst (AllByRecursion stands) whole ready.stands.1.0 in
      let rest = all-back stands front ((left, divider) ∷ back) all in
      let beside = all-join stands front back (all-front stands front ((left, divider) ∷ back) all) rest.1 in
      let right_stands = child-stands sizes Table old zero i others tree.last beside ready.stands.1.1.1 in
      let among = pair-among zero front left divider back tree.last in
      let alone_there = alone-among zero i others tree.last in
      let was : parent_with zero tree.page i others tree.last ((left, divider) ∷ []) right ≡ tree = λ j. record { page = tree.page; children = (among.0 ∙ sym whole) j; last = among.1 j } in
      let is : parent_with zero tree.page i others tree.last [] right ≡ record { page = tree.page; children = others; last = tree.last } = λ j. record { page = tree.page; children = alone_there.0 j; last = alone_there.1 j } in
      let count = λ (n : ℕ). ap (λ (t : TreeOf (suc zero)). times n (pages_of (suc zero) t)) was in
      let within = child-emptied old tree trunks left divider right ready (λ n. omega (arith, count n, (group-count n zero i others tree.last ((left, divider) ∷ []) right [] right).0)) in
      let g = left-gone old left divider right trunks mid given first bytes within rest.0 right_stands free empties gives in
      let number = IsInRange-wider sizes.size old.count given.count right.page g.done.opened.turns.grows (child-number sizes old zero i others tree.last beside ready.stands.1.1) in
      let after : After zero = record { base = given; siblings = []; home = right; trunks = g.rest; first = first; bytes = bytes; chain = g.chain } in
      let opened = group-above sizes zero gone tree.page i others tree.last (pair zero old left divider right trunks) after
      (subst⁻¹ (λ (t : TreeOf (suc zero)). Within sizes old (pages_of (suc zero) t) trunks) was ready.within) (subst⁻¹ (Stands sizes old Table (suc zero)) was ready.stands) g.done number (inl refl) (λ _ full. full.0) in
      record {
        rest = g.rest;
        chain = g.chain;
        opened = subst (λ (t : TreeOf (suc zero)). IsOpened sizes (suc zero) gone (alone (suc zero) old t trunks)
            (record { base = given; siblings = []; home = record { page = tree.page; children = others; last = tree.last }; trunks = g.rest; first = first; bytes = bytes; chain = g.chain })) was
            (subst (λ (t : TreeOf (suc zero)). IsOpened sizes (suc zero) gone (alone (suc zero) old (parent_with zero tree.page i others tree.last ((left, divider) ∷ []) right) trunks)
            (record { base = given; siblings = []; home = t; trunks = g.rest; first = first; bytes = bytes; chain = g.chain })) is opened);
      }

  -- The parent of a last leaf that goes: the one before it becomes the last.
  last-leaf-opened : (old : Paged) (tree : TreeOf (suc zero)) (trunks : List Trunk) (front : List (Leaf × TreeCell)) (left : Leaf) (divider : TreeCell) (mid given : Paged) (first bytes : ℕ)
      → tree.children ≡ front ++ (left, divider) ∷ [] → IsFree sizes old trunks → IsReady sizes (suc zero) old tree trunks → EmptiesBelow sizes gone zero tree.last.page 0 old mid first bytes → Releases sizes tree.last.page mid given
      → HasOpened (suc zero) old tree trunks (record { page = tree.page; children = front; last = left }) given first bytes
  last-leaf-opened old tree trunks front left divider mid given first bytes whole free ready empties gives =
      let i = length front in
      let right = tree.last in
      let stands = StandsBefore sizes old Table zero in
      let rest = all-back stands front ((left, divider) ∷ []) (subst (AllByRecursion stands) whole ready.stands.1.0) in
      let among = end-among front ((left, divider) ∷ []) right right in
      let alone_there = end-among front [] right left in
      let was : parent_with zero tree.page i front right ((left, divider) ∷ []) right ≡ tree = λ j. record { page = tree.page; children = (among.0 ∙ sym whole) j; last = among.1 j } in
      let is : parent_with zero tree.page i front right [] left ≡ record { page = tree.page; children = front; last = left } = λ j. record { page = tree.page; children = (alone_there.0 ∙ append-nil front) j; last = alone_there.1 j } in
      let count = λ (n : ℕ). ap (λ (t : TreeOf (suc zero)). times n (pages_of (suc zero) t)) was in
      let within = child-emptied old tree trunks left divider right ready (λ n. omega (arith, count n, (group-count n zero i front right ((left, divider) ∷ []) right [] right).0)) in
      let g = right-gone old left divider right trunks mid given first bytes within rest.0 ready.stands.1.1.1 free empties gives in
      let number = IsInRange-wider sizes.size old.count given.count left.page g.done.opened.turns.grows rest.0.0.in_range in
      let after : After zero = record { base = given; siblings = []; home = left; trunks = g.rest; first = first; bytes = bytes; chain = g.chain } in
      let opened = group-above sizes zero gone tree.page i front right (pair zero old left divider right trunks) after
      (subst⁻¹ (λ (t : TreeOf (suc zero)). Within sizes old (pages_of (suc zero) t) trunks) was ready.within) (subst⁻¹ (Stands sizes old Table (suc zero)) was ready.stands) g.done number (inr (omega arith)) (λ full _. full.0.0) in
      record {
        rest = g.rest;
        chain = g.chain;
        opened = subst (λ (t : TreeOf (suc zero)). IsOpened sizes (suc zero) gone (alone (suc zero) old t trunks)
            (record { base = given; siblings = []; home = record { page = tree.page; children = front; last = left }; trunks = g.rest; first = first; bytes = bytes; chain = g.chain })) was
            (subst (λ (t : TreeOf (suc zero)). IsOpened sizes (suc zero) gone (alone (suc zero) old (parent_with zero tree.page i front right ((left, divider) ∷ []) right) trunks)
            (record { base = given; siblings = []; home = t; trunks = g.rest; first = first; bytes = bytes; chain = g.chain })) is opened);
      }

  children-spelled : (children : List (Leaf × TreeCell)) (cells : List Spelled) → map (λ (child : Leaf × TreeCell). spelled child.1) children ≡ cells → cells ≡ map spelled (cells_behind children)
  children-spelled children cells is = sym is ∙ sym (spelled-children children)

  -- The parent of a leaf that goes is to have its cells without the one that names it.
  pub leaf-goes : (page : ℕ) (old : Paged) (cells : List Spelled) (right : ℕ) (front : List Spelled) (cell : Spelled) (back : List Spelled) (mid given : Paged) (first bytes : ℕ) → HasCells sizes old TableInterior page cells right
      → cells ≡ front ++ cell ∷ back → EmptiesBelow sizes gone zero cell.view.child 0 old mid first bytes → Releases sizes cell.view.child mid given
      → OpensBelow sizes gone (suc zero) page (front ++ back) right old given first bytes
  leaf-goes page old cells right front cell back mid given first bytes has parts empties gives tree trunks is free ready =
      let told = page-tells sizes old Table (suc zero) page tree cells right is has ready.stands in
      let f : Leaf × TreeCell → Spelled = λ child. spelled child.1 in
      let a = around-map f tree.children front cell back (sym (spelled-children tree.children) ∙ sym told.0 ∙ parts) in
      let here = (all-back (StandsBefore sizes old Table zero) a.before (a.item ∷ a.after) (subst (AllByRecursion (StandsBefore sizes old Table zero)) a.whole ready.stands.1.0)).0 in
      let named : a.item.0.page ≡ cell.view.child = sym here.0.names ∙ ap (λ (c : Spelled). c.view.child) a.here in
      let o = left-leaf-opened old tree trunks a.before a.item.0 a.item.1 a.after mid given first bytes a.whole free ready
      (subst⁻¹ (λ (p : ℕ). EmptiesBelow sizes gone zero p 0 old mid first bytes) named empties) (subst⁻¹ (λ (p : ℕ). Releases sizes p mid given) named gives) in
      record {
        home = record { page = tree.page; children = a.before ++ a.after; last = tree.last };
        rest = o.rest;
        chain = o.chain;
        opened = o.opened;
        page = refl;
        cells_are = children-spelled (a.before ++ a.after) (front ++ back) (map-append f a.before a.after ∙ cc (a.in_front, a.behind));
        right_is = told.1;
      }

  -- The parent of a last leaf that goes is to have the leaf before it as its right child.
  pub last-leaf-goes : (page : ℕ) (old : Paged) (cells : List Spelled) (right : ℕ) (front : List Spelled) (cell : Spelled) (mid given : Paged) (first bytes : ℕ) → HasCells sizes old TableInterior page cells right
      → cells ≡ front ++ cell ∷ [] → EmptiesBelow sizes gone zero right 0 old mid first bytes → Releases sizes right mid given
      → OpensBelow sizes gone (suc zero) page front cell.view.child old given first bytes
  last-leaf-goes page old cells right front cell mid given first bytes has parts empties gives tree trunks is free ready =
      let told = page-tells sizes old Table (suc zero) page tree cells right is has ready.stands in
      let f : Leaf × TreeCell → Spelled = λ child. spelled child.1 in
      let a = around-map f tree.children front cell [] (sym (spelled-children tree.children) ∙ sym told.0 ∙ parts) in
      let none = nil_from_length a.after (omega (arith, ap length a.behind, length-map a.after f)) in
      let whole : tree.children ≡ a.before ++ a.item ∷ [] = a.whole ∙ ap (λ (l : List (Leaf × TreeCell)). a.before ++ a.item ∷ l) none in
      let here = (all-back (StandsBefore sizes old Table zero) a.before (a.item ∷ []) (subst (AllByRecursion (StandsBefore sizes old Table zero)) whole ready.stands.1.0)).0 in
      let named : cell.view.child ≡ a.item.0.page = sym (ap (λ (c : Spelled). c.view.child) a.here) ∙ here.0.names in
      let o = last-leaf-opened old tree trunks a.before a.item.0 a.item.1 mid given first bytes whole free ready
      (subst (λ (p : ℕ). EmptiesBelow sizes gone zero p 0 old mid first bytes) told.1 empties) (subst (λ (p : ℕ). Releases sizes p mid given) told.1 gives) in
      record {
        home = record { page = tree.page; children = a.before; last = a.item.0 };
        rest = o.rest;
        chain = o.chain;
        opened = o.opened;
        page = refl;
        cells_are = children-spelled a.before front a.in_front;
        right_is = named;
      }

  -- Roots and worlds.

  -- A root's page takes what the page of its only child is to have, and that is given back.
  sunk : (levels root : ℕ) (before : Before levels) (after : After levels) (written new : Paged) → Within sizes before.base (root ∷ hand_of before) before.trunks → IsFree sizes before.base before.trunks
      → IsSunk sizes levels gone root before after → Writes root after.base written → HasOwnPage sizes written Table levels (moved levels root after.home) → Releases sizes (page_of levels after.home) written new
      → RootDone sizes gone (suc levels) before.base (record { page = root; children = before.siblings; last = before.home }) before.trunks new after.first after.bytes
  sunk levels root before after written new within free s writes own gives =
      let later = root ∷ hand_after after in
      let within_later = Turns-within sizes before.base after.base (root ∷ hand_of before) later before.trunks after.trunks within s.turns in
      let turned = Turns-write sizes after.base written root later after.trunks within_later (omega (arith, hit-itself root)) writes in
      let home = page_of levels after.home in
      let in_hand : 0 < times home later =
      omega (
        arith,
        times-append home (pages_beside levels after.siblings after.home) after.chain,
        ap (λ (s : List (TreeOf levels × TreeCell)). times home (pages_beside levels s after.home)) s.none,
        pages-parts home levels after.home,
        hit-itself home,
      ) in
      let given = gives after.trunks (turned.freelist (s.turns.freelist free)) (not-free after.base written later later after.trunks after.trunks home within_later turned in_hand) in
      record {
        rooted = record { kind = Table; levels = levels; tree = moved levels root after.home };
        rest = given.0;
        chain = after.chain;
        deleted = root-sinks sizes levels gone root before after written new given.0 s within writes own given.1;
      }

  -- a root's page is written with what another page is to have
  moved-own : (levels : ℕ) (base : Paged) (root : ℕ) (cells : List Spelled) (right : ℕ) (home : TreeOf levels) → cells ≡ map spelled (own_cells levels home) → right ≡ own_right levels home
      → IsPage (base.pages root) root sizes.usable (kind_at Table levels) (bytes_in cells) right → HasOwnPage sizes base Table levels (moved levels root home)
  moved-own levels base root cells right home same right_is is_page =
      own-written sizes Table base levels (moved levels root home) root cells right (moved-page sizes Table levels root home)
      (same ∙ ap (map spelled) (sym (moved-cells sizes Table levels root home))) (right_is ∙ sym (moved-right sizes Table levels root home)) is_page

  -- Page 1 has no cell and one child, which has none any more either: it takes what that has, a leaf without a cell or the child's only child.
  pub root-only-child : (levels : ℕ) (old : Paged) (right only : ℕ) (mid written new : Paged) (first bytes : ℕ) → HasCells sizes old TableInterior 1 [] right → EmptiesBelow sizes gone levels right only old mid first bytes
      → Writes 1 mid written → IsPage (written.pages 1) 1 sizes.usable (kind_at Table levels) [] only → Releases sizes right written new → DeleteAt sizes gone (suc levels) 1 old new first bytes
  root-only-child levels old right only mid written new first bytes has empties writes is_page gives tree trunks is free ready =
      let told = page-tells sizes old Table (suc levels) 1 tree [] right is has ready.stands in
      let none = none-spelled tree.children told.0 in
      let was : record { page = 1; children = []; last = tree.last } ≡ tree = λ j. record { page = sym is j; children = sym none j; last = tree.last } in
      let count = λ (n : ℕ). ap (λ (t : TreeOf (suc levels)). times n (pages_of (suc levels) t)) was in
      let e = empties tree.last trunks (sym told.1) free (record { within = λ n. omega (arith, ready.within n, count n); stands = ready.stands.1.1.1 }) in
      let after : After levels = record { base = mid; siblings = []; home = e.home; trunks = e.rest; first = first; bytes = bytes; chain = e.chain } in
      subst (λ (t : TreeOf (suc levels)). RootDone sizes gone (suc levels) old t trunks new first bytes) was
      (
      sunk levels 1 (alone levels old tree.last trunks) after written new (λ n. omega (arith, ready.within n, count n)) free
      (sunk-child sizes levels gone 1 (alone levels old tree.last trunks) after e.opened refl (λ deep other. absurd (other refl))) writes
      (moved-own levels written 1 [] only e.home e.cells_are e.right_is is_page) (subst⁻¹ (λ (p : ℕ). Releases sizes p written new) (e.page ∙ sym told.1) gives)
      )

  -- A root that is to have no cell, and one child, takes what that has.
  pub root-takes : (levels root : ℕ) (old : Paged) (right : ℕ) (mid : Paged) (kept : List Spelled) (its_right : ℕ) (written new : Paged) (first bytes : ℕ) → OpensBelow sizes gone (suc levels) root [] right old mid first bytes
      → HasCells sizes mid (kind_at Table levels) right kept its_right → Writes root mid written → IsPage (written.pages root) root sizes.usable (kind_at Table levels) (bytes_in kept) its_right → Releases sizes right written new
      → DeleteAt sizes gone (suc levels) root old new first bytes
  root-takes levels root old right mid kept its_right written new first bytes opens has writes is_page gives tree trunks is free ready =
      let o = opens tree trunks is free ready in
      let last = o.home.last in
      let none = none-spelled o.home.children o.cells_are in
      let before : Before levels = record { base = old; siblings = tree.children; home = tree.last; trunks = trunks } in
      let after : After levels = record { base = mid; siblings = []; home = last; trunks = o.rest; first = first; bytes = bytes; chain = o.chain } in
      let same : o.home ≡ record { page = tree.page; children = []; last = last } = λ j. record { page = o.page j; children = none j; last = last } in
      let opened = subst (λ (t : TreeOf (suc levels)). IsOpened sizes (suc levels) gone (alone (suc levels) old tree trunks)
      (record { base = mid; siblings = []; home = t; trunks = o.rest; first = first; bytes = bytes; chain = o.chain })) same o.opened in
      let told = page-tells sizes mid Table levels right last kept its_right (sym o.right_is) has opened.below.1.1 in
      sunk levels tree.page before after written new ready.within free (sunk-root sizes levels gone old tree trunks last mid o.rest first bytes o.chain opened) (subst⁻¹ (λ (p : ℕ). Writes p mid written) is writes)
      (moved-own levels written tree.page kept its_right last told.0 told.1 (subst⁻¹ (λ (p : ℕ). IsPage (written.pages p) p sizes.usable (kind_at Table levels) (bytes_in kept) its_right) is is_page))
      (subst (λ (p : ℕ). Releases sizes p written new) o.right_is gives)

  -- In a world, where the row is out of a root's tree, and the overflow chain of the cell that was taken out is given back, it is out of the world.
  pub delete-in-world : (front : List Rooted) (old : Rooted) (back : List Rooted) (a b c : Paged) (p : List Trunk) (first bytes : ℕ) → old.kind ≡ Table → IsWorld sizes a (with_tree front old back p)
      → DeleteInto sizes gone (root_of old) a b first bytes → GivesBack sizes first bytes b c → c.count ≤ greatest_count → IsWorldDeleted sizes gone front old back a p c
  delete-in-world front old back a b c p first bytes table world at given few =
      let within = world-within sizes a front old back p world in
      let root = world-root sizes a front old back p world in
      let stands = subst (λ (k : TreeKind). Stands sizes a k old.levels old.tree) table root.stands in
      let done = at old.levels old.tree p refl world.freelist (record { within = within; stands = stands }) in
      let later = Turns-within sizes a b (pages_in old) (pages_in done.rooted ++ done.chain) p done.rest within done.deleted.turns in
      let freed = given done.chain done.rest done.deleted.freed (done.deleted.turns.freelist world.freelist)
      (λ n. omega (arith, later n, times-append n (pages_in done.rooted) done.chain)) in
      world-deleted sizes gone front old back a b c done.rooted first bytes done.chain p done.rest freed.0 table world done.deleted freed.1 few
