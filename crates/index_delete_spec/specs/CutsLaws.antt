-- Pages that a delete from an index cuts, since an entry became longer or two pages do not go into one: crates above cite these facts in their proofs.
use Rattle.std.proofs.Common.{◌≡◌, ◌≢◌, ℕ, zero, suc, ◌<◌, ◌≤◌, Bool, true, false, List, [], ◌∷◌, ◌++◌, length, map, refl, sym, ap, ◌∙◌, subst, inl, inr, arith, length-append}
use Rattle.std.proofs.Math.Path.{subst⁻¹}
use Rattle.std.proofs.lemmas.List.{append-nil, length-map}
use Rattle.format_spec.specs.declared.PageKind.TheVariants.{IndexInterior}
use Rattle.format_spec.specs.Page.{IsPage}
use Rattle.page_spec.specs.Freelists.{Trunk}
use Rattle.page_spec.specs.FreelistsLaws.{IsInRange-wider}
use Rattle.page_spec.specs.Counts.{times}
use Rattle.tree_spec.specs.declared.TreeKind.TheVariants.{Index}
use Rattle.tree_spec.specs.Trees.{TreeCell, TreeOf, interior_kind, kind_at, page_of, own_cells, own_right, cells_behind, pages_of}
use Rattle.tree_spec.specs.Standing.{Sizes, Paged, IsNumber, IsBehind, Stands}
use Rattle.tree_spec.specs.StandingLaws.{held-kept}
use Rattle.tree_spec.specs.Worlds.{IsFree}
use Rattle.tree_spec.specs.Changes.{Within, Turns, Writes}
use Rattle.tree_spec.specs.ChangesLaws.{Turns-within, Turns-keeps}
use Rattle.put_spec.specs.Children.{child_at}
use Rattle.put_spec.specs.ChildrenLaws.{keeps-fewer}
use Rattle.put_spec.specs.Puts.{moved}
use Rattle.put_spec.specs.PutsLaws.{pages-parts, cut-count, moved-page}
use Rattle.put_spec.specs.Steps.{Spelled, spelled, bytes_in, HasCells, child_page, with_dividers, AreParts, IsFronted, IsSpread, IsSettled, IsMovedOut, IsRooted}
use Rattle.put_spec.specs.SpelledLaws.{page-tells}
use Rattle.put_spec.specs.SettledLaws.{own-written, moved-cells, moved-right, settled-spread, siblings-cells}
use Rattle.delete_spec.specs.Deletes.{Before, hand_of, alone, parent_with}
use Rattle.delete_spec.specs.NeighboursLaws.{alone-among}
use Rattle.delete_spec.specs.DeletesLaws.{last-same}
use Rattle.delete_spec.specs.CutsLaws.{dividers-in}
use Rattle.index_delete_spec.specs.PartsLaws.{child-number, cut-page, lifted}
use Rattle.index_delete_spec.specs.Deletes.{After, hand_after, became, IsOpened, IsDeleted}
use Rattle.index_delete_spec.specs.DeletesLaws.{hand-parts, deepened, delete-cut, delete-settled, group-above, root-stays, root-rises}
use Rattle.index_delete_spec.specs.Steps.{cell_of, OpensBelow, GrowsBelow, DeleteAt}
use Rattle.index_delete_spec.specs.StepsLaws.{children-many, child-there, child-ready}

module _ (sizes : Sizes) (ends : Bool) (levels : ℕ) where
  -- what spreading a page gives, which is still to be written
  pub record HasSpread (before : Before levels) (after : After levels) (dividers left : List Spelled) (new : Paged) : Type 0 where
    pub siblings : List (TreeOf levels × TreeCell)
    pub home : TreeOf levels
    pub trunks : List Trunk
    pub opened : IsOpened sizes levels ends before (became levels levels after siblings home new trunks)
    pub free : IsFree sizes new trunks
    pub page : page_of levels home ≡ page_of levels after.home
    pub left_cells : left ≡ map spelled (own_cells levels home)
    pub right_is : own_right levels after.home ≡ own_right levels home
    pub dividers_are : map spelled (cells_behind siblings) ≡ map spelled (cells_behind after.siblings) ++ dividers
    pub some : 0 < length left

  some-own : (tree : TreeOf levels) (cells : List Spelled) → cells ≡ map spelled (own_cells levels tree) → 0 < length cells → 0 < length (own_cells levels tree)
  some-own tree cells same some = omega (arith, some, ap length same, length-map (own_cells levels tree) spelled)

  -- the page is cut once more
  record HasCut (before : Before levels) (after : After levels) (divider : Spelled) (back : List Spelled) (between : Paged) : Type 0 where
    siblings : List (TreeOf levels × TreeCell)
    home : TreeOf levels
    trunks : List Trunk
    opened : IsOpened sizes levels ends before (became levels levels after siblings home between trunks)
    free : IsFree sizes between trunks
    page : page_of levels home ≡ page_of levels after.home
    back_cells : back ≡ map spelled (own_cells levels home)
    right_is : own_right levels after.home ≡ own_right levels home
    dividers_are : (dividers : List Spelled) → map spelled (cells_behind siblings) ++ dividers ≡ map spelled (cells_behind after.siblings) ++ divider ∷ dividers

  cut-once : (before : Before levels) (after : After levels) (cells : List Spelled) (divider : Spelled) (back : List Spelled) (between : Paged) → IsFree sizes after.base after.trunks
      → IsOpened sizes levels ends before after → cells ≡ map spelled (own_cells levels after.home) → IsFronted sizes levels Index cells divider back after.base between → HasCut before after divider back between
  cut-once before after cells divider back between free o same f =
      let l = lifted sizes after.base levels after.home divider f.front f.right back o.below (subst (λ (x : List Spelled). AreParts levels Index x divider f.front f.right back) same f.parts) f.is_cell in
      let own = own-written sizes Index between levels l.left divider.view.child f.front f.right l.page l.left_cells l.left_right f.is_page in
      let took = f.took after.trunks free in
      let taken : Turns sizes after.base [] after.trunks between (page_of levels l.left ∷ []) took.0 = subst⁻¹ (λ (p : ℕ). Turns sizes after.base [] after.trunks between (p ∷ []) took.0) l.page took.1 in
      let within = Turns-within sizes before.base after.base (hand_of before) (hand_after after) before.trunks after.trunks o.within o.turns in
      let keeps = Turns-keeps sizes after.base between [] (page_of levels l.left ∷ []) after.trunks took.0 (hand_after after) (λ n. omega (arith, within n)) taken in
      let chain = λ (n : ℕ) (some : 0 < times n l.cell.chain).
      let all : 0 < times n (hand_after after) =
      omega (arith, some, cut-count sizes Index levels Index n after.home l.left l.cell l.rest l.cut, pages-parts n levels l.left, pages-parts n levels after.home, hand-parts n levels after) in
      all in
      let behind : IsBehind sizes between (interior_kind Index) l.cell (page_of levels l.left) = record {
        held = held-kept sizes after.base between (interior_kind Index) l.cell (keeps-fewer after.base between (hand_after after) l.cell.chain chain keeps) l.held;
        names = ap (λ (c : Spelled). c.view.child) l.cell_is ∙ sym l.page;
        in_range = subst⁻¹ (IsNumber sizes between) l.page f.in_range;
      } in
      record {
        siblings = after.siblings ++ (l.left, l.cell) ∷ [];
        home = l.rest;
        trunks = took.0;
        opened = delete-cut sizes ends levels before after l.left l.cell l.rest between took.0 o l.cut taken own behind (some-own l.left f.front l.left_cells f.front_some) (some-own l.rest back l.rest_cells f.back_some);
        free = taken.freelist free;
        page = cut-page levels after.home l.left l.cell l.rest l.cut;
        back_cells = l.rest_cells;
        right_is = l.rest_right;
        dividers_are = λ dividers. siblings-cells sizes Index after.siblings l.left l.cell divider dividers l.cell_is;
      }

  -- A page that is still to be written is cut at each divider.
  pub cut-spread : (dividers : List Spelled) (before : Before levels) (after : After levels) (cells left : List Spelled) (new : Paged) → IsFree sizes after.base after.trunks
      → IsOpened sizes levels ends before after → cells ≡ map spelled (own_cells levels after.home) → 0 < length cells → IsSpread sizes levels Index cells after.base new dividers left
      → HasSpread before after dividers left new
  cut-spread [] before after cells left new free o same some spread = record {
    siblings = after.siblings;
    home = after.home;
    trunks = after.trunks;
    opened = subst⁻¹ (λ (base : Paged). IsOpened sizes levels ends before (became levels levels after after.siblings after.home base after.trunks)) spread.1 o;
    free = subst⁻¹ (λ (base : Paged). IsFree sizes base after.trunks) spread.1 free;
    page = refl;
    left_cells = spread.0 ∙ same;
    right_is = refl;
    dividers_are = sym (append-nil (map spelled (cells_behind after.siblings)));
    some = omega (arith, some, ap length spread.0);
  }
  cut-spread (divider ∷ dividers) before after cells left new free o same some spread =
      let back = spread.0 in
      let mid = spread.1 in
      let c = cut-once before after cells divider back mid free o same spread.2 in
      let later = cut-spread dividers before (became levels levels after c.siblings c.home mid c.trunks) back left new c.free c.opened c.back_cells spread.2.back_some spread.3 in
      record {
        siblings = later.siblings;
        home = later.home;
        trunks = later.trunks;
        opened = later.opened;
        free = later.free;
        page = later.page ∙ c.page;
        left_cells = later.left_cells;
        right_is = c.right_is ∙ later.right_is;
        dividers_are = later.dividers_are ∙ c.dividers_are dividers;
        some = later.some;
      }

  -- what settling a page gives
  pub record HasSettled (before : Before levels) (after : After levels) (new : Paged) (dividers : List Spelled) : Type 0 where
    pub siblings : List (TreeOf levels × TreeCell)
    pub home : TreeOf levels
    pub trunks : List Trunk
    pub done : IsDeleted sizes levels ends before (became levels levels after siblings home new trunks)
    pub page : page_of levels home ≡ page_of levels after.home
    pub right_is : own_right levels after.home ≡ own_right levels home
    pub dividers_are : map spelled (cells_behind siblings) ≡ map spelled (cells_behind after.siblings) ++ dividers
    pub some : 0 < length (own_cells levels home)

  -- Then it is written.
  pub cut-settled : (dividers : List Spelled) (before : Before levels) (after : After levels) (cells : List Spelled) (right : ℕ) (new : Paged) → IsFree sizes after.base after.trunks → IsOpened sizes levels ends before after
      → cells ≡ map spelled (own_cells levels after.home) → right ≡ own_right levels after.home → 0 < length cells → IsSettled sizes levels Index (page_of levels after.home) right cells after.base new dividers
      → HasSettled before after new dividers
  cut-settled dividers before after cells right new free o same right_is some done =
      let page = page_of levels after.home in
      let d = settled-spread sizes Index dividers levels page right cells after.base new done in
      let s = cut-spread dividers before after cells d.0 d.1 free o same some d.2 in
      record {
        siblings = s.siblings;
        home = s.home;
        trunks = s.trunks;
        done = delete-settled sizes ends levels before (became levels levels after s.siblings s.home d.1 s.trunks) new s.opened (subst⁻¹ (λ (p : ℕ). Writes p d.1 new) s.page d.3)
            (own-written sizes Index new levels s.home page d.0 right s.page s.left_cells (right_is ∙ s.right_is) d.4);
        page = s.page;
        right_is = s.right_is;
        dividers_are = s.dividers_are;
        some = some-own s.home d.0 s.left_cells s.some;
      }

module _ (sizes : Sizes) (ends : Bool) (out : Spelled) where
  -- A page that is to have cells, and is no root, is settled.
  pub page-settled : (levels page : ℕ) (cells : List Spelled) (right : ℕ) (old mid : Paged) (new : Paged) (dividers : List Spelled) → OpensBelow sizes ends out levels page cells right old mid → 0 < length cells
      → IsSettled sizes levels Index page right cells mid new dividers → GrowsBelow sizes ends out levels page old new dividers
  page-settled levels page cells right old mid new dividers opens some settled tree trunks is free ready =
      let o = opens tree trunks is free ready in
      let after : After levels = record { base = mid; siblings = []; home = o.home; trunks = o.rest; out = cell_of out o.payload o.chain } in
      let s = cut-settled sizes ends levels dividers (alone levels old tree trunks) after cells right new (o.opened.turns.freelist free) o.opened o.cells_are o.right_is some
      (subst⁻¹ (λ (p : ℕ). IsSettled sizes levels Index p right cells mid new dividers) (o.page ∙ is) settled) in
      record { siblings = s.siblings; home = s.home; rest = s.trunks; payload = o.payload; chain = o.chain; deleted = s.done; page = s.page ∙ o.page; dividers_are = s.dividers_are; some = s.some }

  -- A delete below a child that was cut: the page is to have the dividers that came.
  pub parent-grown : (levels page : ℕ) (old : Paged) (cells : List Spelled) (right at : ℕ) (between : Paged) (grew : List Spelled) → HasCells sizes old IndexInterior page cells right
      → at ≤ length cells → (ends ≡ true → length cells ≤ at) → GrowsBelow sizes ends out levels (child_page at cells right) old between grew
      → OpensBelow sizes ends out (suc levels) page (with_dividers cells at grew) right old between
  parent-grown levels page old cells right at between grew has within last_goes below tree trunks is free ready =
      let told = page-tells sizes old Index (suc levels) page tree cells right is has ready.stands in
      let child = child_at at tree.children tree.last in
      let done = below child trunks (child-there sizes levels page old cells right at tree has is ready.stands) free (child-ready sizes levels old tree trunks at ready) in
      let gone = cell_of out done.payload done.chain in
      let a = alone-among levels at tree.children tree.last in
      let same : parent_with levels tree.page at tree.children tree.last [] child ≡ tree = λ i. record { page = tree.page; children = a.0 i; last = a.1 i } in
      let home = parent_with levels tree.page at tree.children tree.last done.siblings done.home in
      let after : After levels = record { base = between; siblings = done.siblings; home = done.home; trunks = done.rest; out = gone } in
      let o = done.deleted.opened in
      let number = subst⁻¹ (IsNumber sizes between) done.page
      (IsInRange-wider sizes.size old.count between.count (page_of levels child) o.turns.grows (child-number sizes old levels at tree.children tree.last ready.stands.1.0 ready.stands.1.1)) in
      let many = children-many tree.children cells told.0 in
      let opened = group-above sizes ends levels tree.page at tree.children tree.last (alone levels old child trunks) after
      (subst⁻¹ (λ (t : TreeOf (suc levels)). Within sizes old (pages_of (suc levels) t) trunks) same ready.within)
      (subst⁻¹ (Stands sizes old Index (suc levels)) same ready.stands) done.deleted number (inl done.page) (λ _ _. done.some) (λ e. omega (arith, last_goes e, many)) in
      let cells_are : with_dividers cells at grew ≡ map spelled (cells_behind home.children) =
      ap (λ (cs : List Spelled). with_dividers cs at grew) told.0
      ∙ ap (λ (ds : List Spelled). with_dividers (map spelled (cells_behind tree.children)) at ds) (sym done.dividers_are)
      ∙ dividers-in at tree.children done.siblings done.home (omega (arith, within, many)) in
      record {
        home = home;
        rest = done.rest;
        payload = done.payload;
        chain = done.chain;
        opened = subst (λ (t : TreeOf (suc levels)). IsOpened sizes (suc levels) ends (alone (suc levels) old t trunks) (record { base = between; siblings = []; home = home; trunks = done.rest; out = gone })) same opened;
        page = refl;
        cells_are = cells_are;
        right_is = told.1 ∙ sym (last-same levels at tree.children tree.last child done.home done.page ∙ ap (page_of levels) a.1);
      }

module _ (sizes : Sizes) (out : Spelled) where
  -- A root from which its cells were moved out gets a level.
  pub root-moves-out : (levels root : ℕ) (cells : List Spelled) (right : ℕ) (old mid : Paged) (new : Paged) → OpensBelow sizes false out levels root cells right old mid → 0 < length cells
      → IsMovedOut sizes levels Index root right cells mid new → DeleteAt sizes out levels root old new
  root-moves-out levels root cells right old mid new opens some moved_out tree trunks is free ready =
      let o = opens tree trunks is free ready in
      let gone = cell_of out o.payload o.chain in
      let after : After levels = record { base = mid; siblings = []; home = o.home; trunks = o.rest; out = gone } in
      let s = cut-spread sizes false levels moved_out.dividers (alone levels old tree trunks) after cells moved_out.left moved_out.spread_out (o.opened.turns.freelist free) o.opened o.cells_are some moved_out.spread in
      let spread : After levels = became levels levels after s.siblings s.home moved_out.spread_out s.trunks in
      let fresh = moved_out.fresh in
      let page : page_of levels s.home ≡ root = s.page ∙ o.page ∙ is in
      let took = moved_out.took s.trunks s.free in
      let own = own-written sizes Index moved_out.between levels (moved levels fresh s.home) fresh moved_out.left right (moved-page sizes Index levels fresh s.home)
      (s.left_cells ∙ ap (map spelled) (sym (moved-cells sizes Index levels fresh s.home))) (o.right_is ∙ s.right_is ∙ sym (moved-right sizes Index levels fresh s.home)) moved_out.is_page in
      let top = own-written sizes Index new (suc levels) (deepened sizes levels spread fresh) root moved_out.dividers fresh page (sym s.dividers_are) (sym (moved-page sizes Index levels fresh s.home)) moved_out.root_page in
      record {
        rooted = record { kind = Index; levels = suc levels; tree = deepened sizes levels spread fresh };
        rest = took.0;
        payload = o.payload;
        chain = o.chain;
        deleted = root-rises sizes levels (alone levels old tree trunks) spread fresh moved_out.between new took.0 s.opened refl (s.page ∙ o.page) took.1 moved_out.in_range own
            (subst⁻¹ (λ (p : ℕ). Writes p moved_out.between new) page moved_out.writes) top (omega (arith, s.some, ap length s.left_cells, length-map (own_cells levels s.home) spelled))
            (λ other. omega (arith, moved_out.some (λ e. other (page ∙ e)), ap length s.dividers_are, length-map (cells_behind s.siblings) spelled));
      }

  -- A root keeps the cells that it is to have; a leaf or page 1 may have none.
  pub root-written : (levels root : ℕ) (cells : List Spelled) (right : ℕ) (old mid : Paged) (new : Paged) → OpensBelow sizes false out levels root cells right old mid → (0 < levels → root ≢ 1 → 0 < length cells)
      → Writes root mid new → IsPage (new.pages root) root sizes.usable (kind_at Index levels) (bytes_in cells) right → DeleteAt sizes out levels root old new
  root-written levels root cells right old mid new opens some writes is_page tree trunks is free ready =
      let o = opens tree trunks is free ready in
      let page = o.page ∙ is in
      let after : After levels = record { base = mid; siblings = []; home = o.home; trunks = o.rest; out = cell_of out o.payload o.chain } in
      let done = delete-settled sizes false levels (alone levels old tree trunks) after new o.opened (subst⁻¹ (λ (p : ℕ). Writes p mid new) page writes)
      (own-written sizes Index new levels o.home root cells right page o.cells_are o.right_is is_page) in
      record {
        rooted = record { kind = Index; levels = levels; tree = o.home };
        rest = o.rest;
        payload = o.payload;
        chain = o.chain;
        deleted = root-stays sizes levels old tree trunks (became levels levels after [] o.home new o.rest) done refl o.page
            (λ deep other. omega (arith, some deep (λ one. other (page ∙ one)), ap length o.cells_are, length-map (own_cells levels o.home) spelled));
      }

  -- A root keeps the cells that it is to have, or they are moved out. A leaf or page 1 may have none.
  pub root-rooted : (levels root : ℕ) (cells : List Spelled) (right : ℕ) (old mid : Paged) (new : Paged) → OpensBelow sizes false out levels root cells right old mid → (0 < levels → root ≢ 1 → 0 < length cells)
      → IsRooted sizes levels Index root right cells mid new → DeleteAt sizes out levels root old new
  root-rooted levels root cells right old mid new opens some rooted =
      elim rooted as (λ _. DeleteAt sizes out levels root old new) [
        | inl settled ↦ root-written levels root cells right old mid new opens some settled.0 settled.1
        | inr out ↦ root-moves-out levels root cells right old mid new opens (spread-some levels out.dividers cells out.left mid out.spread_out out.spread out.left_some) out
      ]
    where
      parts-some : (levels : ℕ) (cells : List Spelled) (divider : Spelled) (front : List Spelled) (right : ℕ) (back : List Spelled) → AreParts levels Index cells divider front right back → 0 < length cells
      parts-some zero cells divider front right back parts = omega (arith, ap length parts.whole, length-append front (parts.middle ∷ back))
      parts-some (suc levels) cells divider front right back parts = omega (arith, ap length parts.whole, length-append front (parts.middle ∷ back))

      spread-some : (levels : ℕ) (dividers cells left : List Spelled) (a b : Paged) → IsSpread sizes levels Index cells a b dividers left → 0 < length left → 0 < length cells
      spread-some levels [] cells left a b spread more = omega (arith, more, ap length spread.0)
      spread-some levels (divider ∷ dividers) cells left a b spread more = let f = spread.2 in parts-some levels cells divider f.front f.right spread.0 f.parts
