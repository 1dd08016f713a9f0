-- What is done page by page makes a delete from an index: crates above cite these facts in their proofs.
use Rattle.std.proofs.Common.{◌≡◌, ◌≢◌, ℕ, zero, suc, ◌<◌, ◌≤◌, Bool, true, false, List, [], ◌∷◌, ◌++◌, length, map, refl, sym, ap, ◌∙◌, subst, inl, arith}
use Rattle.std.proofs.Math.Path.{subst⁻¹}
use Rattle.std.proofs.lemmas.List.{map-append, length-map}
use Rattle.format_spec.specs.declared.PageKind.TheVariants.{IndexInterior, IndexLeaf}
use Rattle.format_spec.specs.Page.{IsPage}
use Rattle.page_spec.specs.Counts.{times}
use Rattle.page_spec.specs.CountsLaws.{times-append, hit-itself}
use Rattle.page_spec.specs.FreelistsLaws.{IsInRange-wider}
use Rattle.page_spec.specs.Freelists.{Trunk}
use Rattle.tree_spec.specs.declared.TreeKind.TheVariants.{Index}
use Rattle.tree_spec.specs.Trees.{TreeCell, TreeOf, Leaf, kind_at, page_of, own_cells, own_right, cells_behind, pages_of, pages_beside}
use Rattle.tree_spec.specs.Standing.{Sizes, Paged, Keeps, IsNumber, HasOwnPage, Stands}
use Rattle.tree_spec.specs.StandingLaws.{keeps-first}
use Rattle.tree_spec.specs.Worlds.{IsFree}
use Rattle.tree_spec.specs.Changes.{Within, Writes}
use Rattle.tree_spec.specs.ChangesLaws.{Turns-within, Turns-write, Turns-keeps}
use Rattle.put_spec.specs.Children.{child_at}
use Rattle.put_spec.specs.ChildrenLaws.{child-within, child-stands}
use Rattle.put_spec.specs.Puts.{moved}
use Rattle.put_spec.specs.PutsLaws.{pages-parts, moved-page}
use Rattle.put_spec.specs.Steps.{Spelled, spelled, bytes_in, HasCells, child_page, Releases}
use Rattle.put_spec.specs.SpelledLaws.{page-tells}
use Rattle.put_spec.specs.SettledLaws.{own-written, moved-cells, moved-right}
use Rattle.put_spec.specs.ParentsLaws.{child-page}
use Rattle.delete_spec.specs.Deletes.{Before, hand_of, alone, parent_with}
use Rattle.delete_spec.specs.NeighboursLaws.{alone-among}
use Rattle.delete_spec.specs.DeletesLaws.{cells-same}
use Rattle.delete_spec.specs.StepsLaws.{around-map, none-spelled, unspelled}
use Rattle.index_delete_spec.specs.PartsLaws.{child-number, not-free}
use Rattle.index_delete_spec.specs.Deletes.{After, hand_after, IsOpened, IsDeleted, IsSunk}
use Rattle.index_delete_spec.specs.DeletesLaws.{leaf-taken, group-above, parent-untouched, root-stays, sunk-child, sunk-root, root-sinks}
use Rattle.index_delete_spec.specs.Steps.{cell_of, IsReady, OpensBelow, EmptiesBelow, GrowsBelow, RootDone, DeleteAt}

-- as many children as cells
pub children-many : {Child : Type 0} (children : List (Child × TreeCell)) (cells : List Spelled) → cells ≡ map spelled (cells_behind children) → length cells ≡ length children
children-many children cells same = omega (arith, ap length same, length-map (cells_behind children) spelled, length-map children (λ child. child.1))

module _ (sizes : Sizes) where
  -- A child.

  pub child-there : (levels page : ℕ) (base : Paged) (cells : List Spelled) (right at : ℕ) (tree : TreeOf (suc levels)) → HasCells sizes base IndexInterior page cells right → page_of (suc levels) tree ≡ page
      → Stands sizes base Index (suc levels) tree → page_of levels (child_at at tree.children tree.last) ≡ child_page at cells right
  child-there levels page base cells right at tree has is stands =
      let told = page-tells sizes base Index (suc levels) page tree cells right is has stands in
      child-page sizes Index base levels at tree.children tree.last stands.1.0
      ∙ sym (ap (λ (cs : List Spelled). child_page at cs right) told.0 ∙ ap (λ (r : ℕ). child_page at (map spelled (cells_behind tree.children)) r) told.1)

  -- what a delete below a child needs
  pub child-ready : (levels : ℕ) (base : Paged) (tree : TreeOf (suc levels)) (trunks : List Trunk) (i : ℕ) → IsReady sizes (suc levels) base tree trunks
      → IsReady sizes levels base (child_at i tree.children tree.last) trunks
  child-ready levels base tree trunks i ready = record {
    within = λ n. omega (arith, ready.within n, child-within n levels i tree.children tree.last);
    stands = child-stands sizes Index base levels i tree.children tree.last ready.stands.1.0 ready.stands.1.1.1;
  }

  -- A leaf is to have its cells without one.
  pub leaf-opens : (ends : Bool) (page : ℕ) (old : Paged) (cells : List Spelled) (right : ℕ) (front : List Spelled) (cell : Spelled) (back : List Spelled) → HasCells sizes old IndexLeaf page cells right
      → cells ≡ front ++ cell ∷ back → (ends ≡ true → back ≡ []) → OpensBelow sizes ends cell zero page (front ++ back) 0 old old
  leaf-opens ends page old cells right front cell back has parts none tree trunks is free ready =
      let told = page-tells sizes old Index zero page tree cells right is has ready.stands in
      let a = around-map spelled tree.cells front cell back (sym told.0 ∙ parts) in
      let joined = map-append spelled a.before a.after in
      let home : Leaf = record { page = tree.page; cells = a.before ++ a.after } in
      record {
        home = home;
        rest = trunks;
        payload = a.item.payload;
        chain = a.item.chain;
        opened = subst (λ (c : Spelled). IsOpened sizes zero ends (alone zero old tree trunks) (record { base = old; siblings = []; home = home; trunks = trunks; out = cell_of c a.item.payload a.item.chain })) a.here
            (leaf-taken sizes ends old tree trunks a.before a.item a.after ready.within ready.stands a.whole (λ e. unspelled a.after (sym (a.behind ∙ none e))));
        page = refl;
        cells_are = let rest : front ++ back ≡ map spelled (a.before ++ a.after) = cc (joined, a.in_front, a.behind) in rest;
        right_is = refl;
      }

module _ (sizes : Sizes) (ends : Bool) (out : Spelled) where
  -- what is left of a page that is not written, since a child of it was not cut
  record HasStayed (levels : ℕ) (old : Paged) (tree : TreeOf levels) (trunks : List Trunk) (new : Paged) (left : ℕ) : Type 0 where
    home : TreeOf levels
    rest : List Trunk
    payload : List ℕ
    chain : List ℕ
    deleted : IsDeleted sizes levels ends (alone levels old tree trunks) (record { base = new; siblings = []; home = home; trunks = rest; out = cell_of out payload chain })
    page : page_of levels home ≡ page_of levels tree
    cells : length (own_cells levels home) ≡ left

  parent-stayed : (levels page : ℕ) (old : Paged) (cells : List Spelled) (right at : ℕ) (new : Paged) (tree : TreeOf (suc levels)) (trunks : List Trunk) → HasCells sizes old IndexInterior page cells right
      → (ends ≡ true → length cells ≤ at) → GrowsBelow sizes ends out levels (child_page at cells right) old new [] → page_of (suc levels) tree ≡ page → IsFree sizes old trunks → IsReady sizes (suc levels) old tree trunks
      → HasStayed (suc levels) old tree trunks new (length cells)
  parent-stayed levels page old cells right at new tree trunks has last_goes below is free ready =
      let told = page-tells sizes old Index (suc levels) page tree cells right is has ready.stands in
      let child = child_at at tree.children tree.last in
      let done = below child trunks (child-there sizes levels page old cells right at tree has is ready.stands) free (child-ready sizes levels old tree trunks at ready) in
      let gone = cell_of out done.payload done.chain in
      let done_below : IsDeleted sizes levels ends (alone levels old child trunks) (record { base = new; siblings = []; home = done.home; trunks = done.rest; out = gone }) =
      subst (λ (s : List (TreeOf levels × TreeCell)). IsDeleted sizes levels ends (alone levels old child trunks) (record { base = new; siblings = s; home = done.home; trunks = done.rest; out = gone }))
      (none-spelled done.siblings (sym done.dividers_are)) done.deleted in
      let a = alone-among levels at tree.children tree.last in
      let same : parent_with levels tree.page at tree.children tree.last [] child ≡ tree = λ i. record { page = tree.page; children = a.0 i; last = a.1 i } in
      let home = parent_with levels tree.page at tree.children tree.last [] done.home in
      let after : After levels = record { base = new; siblings = []; home = done.home; trunks = done.rest; out = gone } in
      let o = done_below.opened in
      let number = subst⁻¹ (IsNumber sizes new) done.page
      (IsInRange-wider sizes.size old.count new.count (page_of levels child) o.turns.grows (child-number sizes old levels at tree.children tree.last ready.stands.1.0 ready.stands.1.1)) in
      let opened = group-above sizes ends levels tree.page at tree.children tree.last (alone levels old child trunks) after
      (subst⁻¹ (λ (t : TreeOf (suc levels)). Within sizes old (pages_of (suc levels) t) trunks) same ready.within)
      (subst⁻¹ (Stands sizes old Index (suc levels)) same ready.stands) done_below number (inl done.page) (λ _ _. done.some)
      (λ e. omega (arith, last_goes e, children-many tree.children cells told.0)) in
      let keeps : Keeps (tree.page ∷ []) old new = Turns-keeps sizes old new (pages_of levels child) (hand_after after) trunks done.rest (tree.page ∷ [])
      (λ n. omega (arith, ready.within n, child-within n levels at tree.children tree.last)) o.turns in
      let deleted = parent-untouched sizes ends levels tree.page at tree.children tree.last (alone levels old child trunks) after opened done.page
      (subst⁻¹ (HasOwnPage sizes old Index (suc levels)) same ready.stands.0) (keeps-first old new tree.page [] keeps) in
      record {
        home = home;
        rest = done.rest;
        payload = done.payload;
        chain = done.chain;
        deleted = subst (λ (t : TreeOf (suc levels)). IsDeleted sizes (suc levels) ends (alone (suc levels) old t trunks) (record { base = new; siblings = []; home = home; trunks = done.rest; out = gone })) same deleted;
        page = refl;
        cells = omega (
          arith,
          ap length told.0,
          length-map (cells_behind tree.children) spelled,
          ap length (cells-same levels at tree.children child done.home),
          ap (λ (xs : List (TreeOf levels × TreeCell)). length (cells_behind xs)) a.0,
        );
      }

  -- A delete below a child that is not cut is one below its parent, which keeps its cells and is not written.
  pub parent-stays : (levels page : ℕ) (old : Paged) (cells : List Spelled) (right at : ℕ) (new : Paged) → HasCells sizes old IndexInterior page cells right → 0 < length cells
      → (ends ≡ true → length cells ≤ at) → GrowsBelow sizes ends out levels (child_page at cells right) old new [] → GrowsBelow sizes ends out (suc levels) page old new []
  parent-stays levels page old cells right at new has some last_goes below tree trunks is free ready =
      let done = parent-stayed levels page old cells right at new tree trunks has last_goes below is free ready in
      record { siblings = []; home = done.home; rest = done.rest; payload = done.payload; chain = done.chain; deleted = done.deleted; page = done.page; dividers_are = refl; some = omega (arith, done.cells) }

  -- the delete is done but for the own page, which is as said
  pub record HasOpened (levels : ℕ) (old : Paged) (tree : TreeOf levels) (trunks : List Trunk) (home : TreeOf levels) (new : Paged) : Type 0 where
    pub rest : List Trunk
    pub payload : List ℕ
    pub chain : List ℕ
    pub opened : IsOpened sizes levels ends (alone levels old tree trunks) (record { base = new; siblings = []; home = home; trunks = rest; out = cell_of out payload chain })

module _ (sizes : Sizes) (out : Spelled) where
  -- The same of a root; page 1 needs no cell.
  pub root-unwritten : (levels root : ℕ) (old : Paged) (cells : List Spelled) (right at : ℕ) (new : Paged) → HasCells sizes old IndexInterior root cells right → (root ≢ 1 → 0 < length cells)
      → GrowsBelow sizes false out levels (child_page at cells right) old new [] → DeleteAt sizes out (suc levels) root old new
  root-unwritten levels root old cells right at new has some below tree trunks is free ready =
      let done = parent-stayed sizes false out levels root old cells right at new tree trunks has (λ e. absurd (let h : ⊥ = cc in h)) below is free ready in
      let after : After (suc levels) = record { base = new; siblings = []; home = done.home; trunks = done.rest; out = cell_of out done.payload done.chain } in
      record {
        rooted = record { kind = Index; levels = suc levels; tree = done.home };
        rest = done.rest;
        payload = done.payload;
        chain = done.chain;
        deleted = root-stays sizes (suc levels) old tree trunks after done.deleted refl done.page (λ deep other. omega (arith, done.cells, some (λ one. other (done.page ∙ is ∙ one))));
      }

  -- Roots.

  -- A root's page takes what the page of its only child is to have, and that is given back.
  sunk : (levels root : ℕ) (before : Before levels) (base written new : Paged) (home : TreeOf levels) (siblings : List (TreeOf levels × TreeCell)) (rest : List Trunk) (payload chain : List ℕ)
      → Within sizes before.base (root ∷ hand_of before) before.trunks → IsFree sizes before.base before.trunks
      → IsSunk sizes levels root before (record { base = base; siblings = siblings; home = home; trunks = rest; out = cell_of out payload chain }) → Writes root base written
      → HasOwnPage sizes written Index levels (moved levels root home) → Releases sizes (page_of levels home) written new
      → RootDone sizes out (suc levels) before.base (record { page = root; children = before.siblings; last = before.home }) before.trunks new
  sunk levels root before base written new home siblings rest payload chain within free s writes own gives =
      let after : After levels = record { base = base; siblings = siblings; home = home; trunks = rest; out = cell_of out payload chain } in
      let later = root ∷ hand_after after in
      let within_later = Turns-within sizes before.base base (root ∷ hand_of before) later before.trunks rest within s.turns in
      let turned = Turns-write sizes base written root later rest within_later (omega (arith, hit-itself root)) writes in
      let page = page_of levels home in
      let in_hand : 0 < times page later =
      omega (
        arith,
        times-append page (pages_beside levels siblings home) chain,
        ap (λ (s : List (TreeOf levels × TreeCell)). times page (pages_beside levels s home)) s.none,
        pages-parts page levels home,
        hit-itself page,
      ) in
      let given = gives rest (turned.freelist (s.turns.freelist free)) (not-free sizes base written later later rest rest page within_later turned in_hand) in
      record {
        rooted = record { kind = Index; levels = levels; tree = moved levels root home };
        rest = given.0;
        payload = payload;
        chain = chain;
        deleted = root-sinks sizes levels root before after written new given.0 s within writes own given.1;
      }

  -- a root's page is written with what another page is to have
  moved-own : (levels : ℕ) (base : Paged) (root : ℕ) (cells : List Spelled) (right : ℕ) (home : TreeOf levels) → cells ≡ map spelled (own_cells levels home) → right ≡ own_right levels home
      → IsPage (base.pages root) root sizes.usable (kind_at Index levels) (bytes_in cells) right → HasOwnPage sizes base Index levels (moved levels root home)
  moved-own levels base root cells right home same right_is is_page =
      own-written sizes Index base levels (moved levels root home) root cells right (moved-page sizes Index levels root home)
      (same ∙ ap (map spelled) (sym (moved-cells sizes Index levels root home))) (right_is ∙ sym (moved-right sizes Index levels root home)) is_page

  -- Page 1 has no cell and one child, which has none any more either: it takes what that has, a leaf without a cell or the child's only child.
  pub root-only-child : (levels : ℕ) (old : Paged) (right only : ℕ) (mid written new : Paged) → HasCells sizes old IndexInterior 1 [] right → EmptiesBelow sizes false out levels right only old mid
      → Writes 1 mid written → IsPage (written.pages 1) 1 sizes.usable (kind_at Index levels) [] only → Releases sizes right written new → DeleteAt sizes out (suc levels) 1 old new
  root-only-child levels old right only mid written new has empties writes is_page gives tree trunks is free ready =
      let told = page-tells sizes old Index (suc levels) 1 tree [] right is has ready.stands in
      let none = none-spelled tree.children told.0 in
      let was : record { page = 1; children = []; last = tree.last } ≡ tree = λ j. record { page = sym is j; children = sym none j; last = tree.last } in
      let count = λ (n : ℕ). ap (λ (t : TreeOf (suc levels)). times n (pages_of (suc levels) t)) was in
      let e = empties tree.last trunks (sym told.1) free (record { within = λ n. omega (arith, ready.within n, count n); stands = ready.stands.1.1.1 }) in
      let after : After levels = record { base = mid; siblings = []; home = e.home; trunks = e.rest; out = cell_of out e.payload e.chain } in
      subst (λ (t : TreeOf (suc levels)). RootDone sizes out (suc levels) old t trunks new) was
      (
      sunk levels 1 (alone levels old tree.last trunks) mid written new e.home [] e.rest e.payload e.chain (λ n. omega (arith, ready.within n, count n)) free
      (sunk-child sizes levels 1 (alone levels old tree.last trunks) after e.opened refl (λ deep other. absurd (other refl))) writes
      (moved-own levels written 1 [] only e.home e.cells_are e.right_is is_page) (subst⁻¹ (λ (p : ℕ). Releases sizes p written new) (e.page ∙ sym told.1) gives)
      )

  -- A root that is to have no cell, and one child, takes what that has.
  pub root-takes : (levels root : ℕ) (old : Paged) (right : ℕ) (mid : Paged) (kept : List Spelled) (its_right : ℕ) (written new : Paged) → OpensBelow sizes false out (suc levels) root [] right old mid
      → HasCells sizes mid (kind_at Index levels) right kept its_right → Writes root mid written → IsPage (written.pages root) root sizes.usable (kind_at Index levels) (bytes_in kept) its_right → Releases sizes right written new
      → DeleteAt sizes out (suc levels) root old new
  root-takes levels root old right mid kept its_right written new opens has writes is_page gives tree trunks is free ready =
      let o = opens tree trunks is free ready in
      let last = o.home.last in
      let none = none-spelled o.home.children o.cells_are in
      let before : Before levels = record { base = old; siblings = tree.children; home = tree.last; trunks = trunks } in
      let gone = cell_of out o.payload o.chain in
      let same : o.home ≡ record { page = tree.page; children = []; last = last } = λ j. record { page = o.page j; children = none j; last = last } in
      let opened = subst (λ (t : TreeOf (suc levels)). IsOpened sizes (suc levels) false (alone (suc levels) old tree trunks) (record { base = mid; siblings = []; home = t; trunks = o.rest; out = gone })) same o.opened in
      let told = page-tells sizes mid Index levels right last kept its_right (sym o.right_is) has opened.below.1.1 in
      sunk levels tree.page before mid written new last [] o.rest o.payload o.chain ready.within free (sunk-root sizes levels old tree trunks last mid o.rest gone opened) (subst⁻¹ (λ (p : ℕ). Writes p mid written) is writes)
      (moved-own levels written tree.page kept its_right last told.0 told.1 (subst⁻¹ (λ (p : ℕ). IsPage (written.pages p) p sizes.usable (kind_at Index levels) (bytes_in kept) its_right) is is_page))
      (subst (λ (p : ℕ). Releases sizes p written new) o.right_is gives)
