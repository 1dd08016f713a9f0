-- Pages that a delete cuts, since a divider became longer or two pages do not go into one: crates above cite these facts in their proofs.
use Rattle.std.proofs.Common.{◌≡◌, ◌≢◌, ℕ, zero, suc, ◌<◌, ◌≤◌, List, [], ◌∷◌, ◌++◌, length, map, refl, sym, ap, ◌∙◌, subst, inl, inr, arith, length-append}
use Rattle.std.proofs.Math.Path.{subst⁻¹}
use Rattle.std.specs.List.{AllByRecursion}
use Rattle.std.proofs.lemmas.List.{append-nil, length-map}
use Rattle.format_spec.specs.declared.PageKind.TheVariants.{TableInterior}
use Rattle.format_spec.specs.Page.{IsPage}
use Rattle.page_spec.specs.Freelists.{Trunk}
use Rattle.page_spec.specs.FreelistsLaws.{IsInRange-wider}
use Rattle.tree_spec.specs.declared.TreeKind.TheVariants.{Table}
use Rattle.tree_spec.specs.Trees.{TreeCell, TreeOf, Member, interior_kind, kind_at, page_of, own_cells, own_right, cells_behind, pages_of}
use Rattle.tree_spec.specs.Standing.{Sizes, Paged, IsNumber, IsBehind, Stands, StandsBefore}
use Rattle.tree_spec.specs.StandingLaws.{divider-held}
use Rattle.tree_spec.specs.Worlds.{IsFree}
use Rattle.tree_spec.specs.WorldsLaws.{all-back}
use Rattle.tree_spec.specs.Changes.{Within, Writes}
use Rattle.put_spec.specs.Children.{child_at, children_with}
use Rattle.put_spec.specs.Puts.{After, IsInteriorCut, cut_after, moved, deeper}
use Rattle.put_spec.specs.Steps.{Spelled, spelled, bytes_in, HasCells, child_page, with_dividers, IsSpread, IsSettled, IsMovedOut, IsRooted}
use Rattle.put_spec.specs.SpelledLaws.{page-tells}
use Rattle.put_spec.specs.SettledLaws.{own-written, settled-spread, siblings-cells}
use Rattle.delete_spec.specs.Deletes.{Before, alone, became, parent_with, IsOpened, IsDeleted}
use Rattle.delete_spec.specs.NeighboursLaws.{alone-among}
use Rattle.delete_spec.specs.DeletesLaws.{divider-chain, last-same, delete-cut, delete-settled, group-above, root-stays, root-rises}
use Rattle.delete_spec.specs.Steps.{OpensBelow, GrowsBelow, DeleteAt}
use Rattle.delete_spec.specs.StepsLaws.{divider-payload, own-page, around-map, spelled-children, child-page, child-number, child-ready}

behind-append : {Child : Type 0} (xs ys : List (Child × TreeCell)) → map spelled (cells_behind (xs ++ ys)) ≡ map spelled (cells_behind xs) ++ map spelled (cells_behind ys)
behind-append [] ys = refl
behind-append (x ∷ xs) ys = ap (λ (l : List Spelled). spelled x.1 ∷ l) (behind-append xs ys)

-- the cells of a page whose child at a place has become several
pub dividers-in : {Child : Type 0} (i : ℕ) (children siblings : List (Child × TreeCell)) (home : Child) → i ≤ length children
    → with_dividers (map spelled (cells_behind children)) i (map spelled (cells_behind siblings)) ≡ map spelled (cells_behind (children_with i children siblings home))
dividers-in zero [] siblings home within = append-nil (map spelled (cells_behind siblings))
dividers-in (suc i) [] siblings home within = absurd (omega arith)
dividers-in zero (child ∷ children) siblings home within = sym (behind-append siblings ((home, child.1) ∷ children))
dividers-in (suc i) (child ∷ children) siblings home within = ap (λ (l : List Spelled). spelled child.1 ∷ l) (dividers-in i children siblings home (omega arith))

module _ (sizes : Sizes) (gone : Member) (levels : ℕ) where
  -- what spreading a page gives, which is still to be written
  pub record HasSpread (before : Before (suc levels)) (after : After (suc levels)) (dividers left : List Spelled) (new : Paged) : Type 0 where
    pub siblings : List (TreeOf (suc levels) × TreeCell)
    pub home : TreeOf (suc levels)
    pub trunks : List Trunk
    pub opened : IsOpened sizes (suc levels) gone before (became (suc levels) (suc levels) after siblings home new trunks)
    pub free : IsFree sizes new trunks
    pub page : home.page ≡ after.home.page
    pub left_cells : left ≡ map spelled (cells_behind home.children)
    pub right_is : page_of levels home.last ≡ page_of levels after.home.last
    pub dividers_are : map spelled (cells_behind siblings) ≡ map spelled (cells_behind after.siblings) ++ dividers
    pub some : 0 < length left

  -- A page that is still to be written is cut at each divider.
  pub cut-spread : (dividers : List Spelled) (before : Before (suc levels)) (after : After (suc levels)) (cells left : List Spelled) (new : Paged) → IsFree sizes after.base after.trunks
      → IsOpened sizes (suc levels) gone before after → cells ≡ map spelled (cells_behind after.home.children) → 0 < length cells → IsSpread sizes (suc levels) Table cells after.base new dividers left
      → HasSpread before after dividers left new
  cut-spread [] before after cells left new free o same some spread = record {
    siblings = after.siblings;
    home = after.home;
    trunks = after.trunks;
    opened = subst⁻¹ (λ (base : Paged). IsOpened sizes (suc levels) gone before (became (suc levels) (suc levels) after after.siblings after.home base after.trunks)) spread.1 o;
    free = subst⁻¹ (λ (base : Paged). IsFree sizes base after.trunks) spread.1 free;
    page = refl;
    left_cells = spread.0 ∙ same;
    right_is = refl;
    dividers_are = sym (append-nil (map spelled (cells_behind after.siblings)));
    some = omega (arith, some, ap length spread.0);
  }
  cut-spread (divider ∷ dividers) before after cells left new free o same some spread =
      let back = spread.0 in
      let mid = spread.1 in
      let f = spread.2 in
      let g : TreeOf levels × TreeCell → Spelled = λ child. spelled child.1 in
      let a = around-map g after.home.children f.front f.parts.middle back (sym (spelled-children after.home.children) ∙ sym same ∙ f.parts.whole) in
      let stands = StandsBefore sizes after.base Table levels in
      let here = (all-back stands a.before (a.item ∷ a.after) (subst (AllByRecursion stands) a.whole o.below.0)).0 in
      let cell : TreeCell = record { bytes = divider.bytes; view = divider.view; payload = []; chain = [] } in
      let front : TreeOf (suc levels) = record { page = divider.view.child; children = a.before; last = a.item.0 } in
      let rest : TreeOf (suc levels) = record { page = after.home.page; children = a.after; last = after.home.last } in
      let cut : IsInteriorCut after.home front cell rest = record {
        middle = a.item.1;
        children = a.whole;
        last = refl;
        page = refl;
        rowid = f.parts.raised.rowid ∙ sym (ap (λ (c : Spelled). c.view.rowid) a.here);
        payload = sym (divider-payload sizes after.base a.item.1 here.0.held);
        chain = sym (divider-chain sizes after.base a.item.1 here.0.held);
      } in
      let took = f.took after.trunks free in
      let fronts : f.front ≡ map spelled (cells_behind a.before) = sym a.in_front ∙ sym (spelled-children a.before) in
      let backs : back ≡ map spelled (cells_behind a.after) = sym a.behind ∙ sym (spelled-children a.after) in
      let last : f.right ≡ page_of levels a.item.0 = f.parts.right_is ∙ sym (ap (λ (c : Spelled). c.view.child) a.here) ∙ here.0.names in
      let own = own-page sizes levels mid front divider.view.child f.front f.right refl fronts last f.is_page in
      let behind : IsBehind sizes mid (interior_kind Table) cell divider.view.child = record { held = divider-held sizes mid divider.bytes divider.view f.is_cell; names = refl; in_range = f.in_range } in
      let opened = delete-cut sizes levels gone before after front cell rest mid took.0 o cut took.1 own behind
      (omega (arith, f.front_some, ap length fronts, length-map (cells_behind a.before) spelled)) (omega (arith, f.back_some, ap length backs, length-map (cells_behind a.after) spelled)) in
      let next = cut_after (suc levels) after front cell rest mid took.0 in
      let later = cut-spread dividers before next back left new (took.1.freelist free) opened backs f.back_some spread.3 in
      record {
        siblings = later.siblings;
        home = later.home;
        trunks = later.trunks;
        opened = later.opened;
        free = later.free;
        page = later.page;
        left_cells = later.left_cells;
        right_is = later.right_is;
        dividers_are = later.dividers_are ∙ siblings-cells sizes Table after.siblings front cell divider dividers refl;
        some = later.some;
      }

  -- what settling a page gives
  pub record HasSettled (before : Before (suc levels)) (after : After (suc levels)) (new : Paged) (dividers : List Spelled) : Type 0 where
    pub siblings : List (TreeOf (suc levels) × TreeCell)
    pub home : TreeOf (suc levels)
    pub trunks : List Trunk
    pub done : IsDeleted sizes (suc levels) gone before (became (suc levels) (suc levels) after siblings home new trunks)
    pub page : home.page ≡ after.home.page
    pub dividers_are : map spelled (cells_behind siblings) ≡ map spelled (cells_behind after.siblings) ++ dividers
    pub some : 0 < length (cells_behind home.children)

  -- Then it is written.
  pub cut-settled : (dividers : List Spelled) (before : Before (suc levels)) (after : After (suc levels)) (cells : List Spelled) (right : ℕ) (new : Paged) → IsFree sizes after.base after.trunks → IsOpened sizes (suc levels) gone before after
      → cells ≡ map spelled (cells_behind after.home.children) → right ≡ page_of levels after.home.last → 0 < length cells → IsSettled sizes (suc levels) Table after.home.page right cells after.base new dividers
      → HasSettled before after new dividers
  cut-settled dividers before after cells right new free o same right_is some done =
      let d = settled-spread sizes Table dividers (suc levels) after.home.page right cells after.base new done in
      let s = cut-spread dividers before after cells d.0 d.1 free o same some d.2 in
      record {
        siblings = s.siblings;
        home = s.home;
        trunks = s.trunks;
        done = delete-settled sizes (suc levels) gone before (became (suc levels) (suc levels) after s.siblings s.home d.1 s.trunks) new s.opened (subst⁻¹ (λ (p : ℕ). Writes p d.1 new) s.page d.3)
            (own-page sizes levels new s.home after.home.page d.0 right s.page s.left_cells (right_is ∙ sym s.right_is) d.4);
        page = s.page;
        dividers_are = s.dividers_are;
        some = omega (arith, s.some, ap length s.left_cells, length-map (cells_behind s.home.children) spelled);
      }

  -- A page that is to have cells, and is no root, is settled.
  pub page-settled : (page : ℕ) (cells : List Spelled) (right : ℕ) (old mid : Paged) (first bytes : ℕ) (new : Paged) (dividers : List Spelled) → OpensBelow sizes gone (suc levels) page cells right old mid first bytes → 0 < length cells
      → IsSettled sizes (suc levels) Table page right cells mid new dividers → GrowsBelow sizes gone (suc levels) page old new dividers first bytes
  page-settled page cells right old mid first bytes new dividers opens some settled tree trunks is free ready =
      let o = opens tree trunks is free ready in
      let after : After (suc levels) = record { base = mid; siblings = []; home = o.home; trunks = o.rest; first = first; bytes = bytes; chain = o.chain } in
      let s = cut-settled dividers (alone (suc levels) old tree trunks) after cells right new (o.opened.turns.freelist free) o.opened o.cells_are o.right_is some
      (subst⁻¹ (λ (p : ℕ). IsSettled sizes (suc levels) Table p right cells mid new dividers) (o.page ∙ is) settled) in
      record { siblings = s.siblings; home = s.home; rest = s.trunks; chain = o.chain; deleted = s.done; page = s.page ∙ o.page; dividers_are = s.dividers_are; some = s.some }

  -- A root from which its cells were moved out gets a level.
  pub root-moves-out : (root : ℕ) (cells : List Spelled) (right : ℕ) (old mid : Paged) (first bytes : ℕ) (new : Paged) → OpensBelow sizes gone (suc levels) root cells right old mid first bytes → 0 < length cells
      → IsMovedOut sizes (suc levels) Table root right cells mid new → DeleteAt sizes gone (suc levels) root old new first bytes
  root-moves-out root cells right old mid first bytes new opens some out tree trunks is free ready =
      let o = opens tree trunks is free ready in
      let after : After (suc levels) = record { base = mid; siblings = []; home = o.home; trunks = o.rest; first = first; bytes = bytes; chain = o.chain } in
      let s = cut-spread out.dividers (alone (suc levels) old tree trunks) after cells out.left out.spread_out (o.opened.turns.freelist free) o.opened o.cells_are some out.spread in
      let spread : After (suc levels) = became (suc levels) (suc levels) after s.siblings s.home out.spread_out s.trunks in
      let page : s.home.page ≡ root = s.page ∙ o.page ∙ is in
      let took = out.took s.trunks s.free in
      let own = own-page sizes levels out.between (moved (suc levels) out.fresh s.home) out.fresh out.left right refl s.left_cells (o.right_is ∙ sym s.right_is) out.is_page in
      let top = own-page sizes (suc levels) new (deeper (suc levels) spread out.fresh) root out.dividers out.fresh page (sym s.dividers_are) refl out.root_page in
      record {
        rooted = record { kind = Table; levels = suc (suc levels); tree = deeper (suc levels) spread out.fresh };
        rest = took.0;
        chain = o.chain;
        deleted = root-rises sizes (suc levels) gone (alone (suc levels) old tree trunks) spread out.fresh out.between new took.0 s.opened refl (s.page ∙ o.page) took.1 out.in_range own
            (subst⁻¹ (λ (p : ℕ). Writes p out.between new) page out.writes) top (omega (arith, s.some, ap length s.left_cells, length-map (cells_behind s.home.children) spelled))
            (λ other. omega (arith, out.some (λ e. other (page ∙ e)), ap length s.dividers_are, length-map (cells_behind s.siblings) spelled));
      }

module _ (sizes : Sizes) (gone : Member) where
  -- the own page is written
  opened-written : (levels page : ℕ) (cells : List Spelled) (right : ℕ) (old mid new : Paged) (tree : TreeOf levels) (trunks : List Trunk) (after : After levels) → IsOpened sizes levels gone (alone levels old tree trunks) (became levels levels after [] after.home mid after.trunks)
      → page_of levels after.home ≡ page → cells ≡ map spelled (own_cells levels after.home) → right ≡ own_right levels after.home → Writes page mid new
      → IsPage (new.pages page) page sizes.usable (kind_at Table levels) (bytes_in cells) right → IsDeleted sizes levels gone (alone levels old tree trunks) (became levels levels after [] after.home new after.trunks)
  opened-written levels page cells right old mid new tree trunks after opened there same right_is writes is_page =
      delete-settled sizes levels gone (alone levels old tree trunks) (became levels levels after [] after.home mid after.trunks) new opened (subst⁻¹ (λ (p : ℕ). Writes p mid new) there writes)
      (own-written sizes Table new levels after.home page cells right there same right_is is_page)

  -- A root keeps the cells that it is to have; a leaf or page 1 may have none.
  pub root-written : (levels root : ℕ) (cells : List Spelled) (right : ℕ) (old mid : Paged) (first bytes : ℕ) (new : Paged) → OpensBelow sizes gone levels root cells right old mid first bytes → (0 < levels → root ≢ 1 → 0 < length cells)
      → Writes root mid new → IsPage (new.pages root) root sizes.usable (kind_at Table levels) (bytes_in cells) right → DeleteAt sizes gone levels root old new first bytes
  root-written levels root cells right old mid first bytes new opens some writes is_page tree trunks is free ready =
      let o = opens tree trunks is free ready in
      let page = o.page ∙ is in
      let after : After levels = record { base = mid; siblings = []; home = o.home; trunks = o.rest; first = first; bytes = bytes; chain = o.chain } in
      let done = opened-written levels root cells right old mid new tree trunks after o.opened page o.cells_are o.right_is writes is_page in
      record {
        rooted = record { kind = Table; levels = levels; tree = o.home };
        rest = o.rest;
        chain = o.chain;
        deleted = root-stays sizes levels gone old tree trunks (became levels levels after [] o.home new o.rest) done refl o.page
            (λ deep other. omega (arith, some deep (λ one. other (page ∙ one)), ap length o.cells_are, length-map (own_cells levels o.home) spelled));
      }

  -- A page that is to have cells is written, whatever levels its tree has.
  pub page-written : (levels page : ℕ) (cells : List Spelled) (right : ℕ) (old mid : Paged) (first bytes : ℕ) (new : Paged) → OpensBelow sizes gone levels page cells right old mid first bytes → 0 < length cells
      → Writes page mid new → IsPage (new.pages page) page sizes.usable (kind_at Table levels) (bytes_in cells) right → GrowsBelow sizes gone levels page old new [] first bytes
  page-written levels page cells right old mid first bytes new opens some writes is_page tree trunks is free ready =
      let o = opens tree trunks is free ready in
      let after : After levels = record { base = mid; siblings = []; home = o.home; trunks = o.rest; first = first; bytes = bytes; chain = o.chain } in
      record {
        siblings = [];
        home = o.home;
        rest = o.rest;
        chain = o.chain;
        deleted = opened-written levels page cells right old mid new tree trunks after o.opened (o.page ∙ is) o.cells_are o.right_is writes is_page;
        page = o.page;
        dividers_are = refl;
        some = omega (arith, some, ap length o.cells_are, length-map (own_cells levels o.home) spelled);
      }

  -- A root keeps the cells that it is to have, or they are moved out. Page 1 may have none.
  pub root-rooted : (levels root : ℕ) (cells : List Spelled) (right : ℕ) (old mid : Paged) (first bytes : ℕ) (new : Paged) → OpensBelow sizes gone (suc levels) root cells right old mid first bytes → (root ≢ 1 → 0 < length cells)
      → IsRooted sizes (suc levels) Table root right cells mid new → DeleteAt sizes gone (suc levels) root old new first bytes
  root-rooted levels root cells right old mid first bytes new opens some rooted =
      elim rooted as (λ _. DeleteAt sizes gone (suc levels) root old new first bytes) [
        | inl settled ↦ root-written (suc levels) root cells right old mid first bytes new opens (λ deep. some) settled.0 settled.1
        | inr out ↦ root-moves-out sizes gone levels root cells right old mid first bytes new opens (spread-some out.dividers cells out.left mid out.spread_out out.spread out.left_some) out
      ]
    where
      spread-some : (dividers cells left : List Spelled) (a b : Paged) → IsSpread sizes (suc levels) Table cells a b dividers left → 0 < length left → 0 < length cells
      spread-some [] cells left a b spread more = omega (arith, more, ap length spread.0)
      spread-some (divider ∷ dividers) cells left a b spread more = let f = spread.2 in omega (arith, ap length f.parts.whole, length-append f.front (f.parts.middle ∷ spread.0))

  -- A delete below a child that was cut: the page is to have the dividers that came.
  pub parent-grown : (levels page : ℕ) (old : Paged) (cells : List Spelled) (right at : ℕ) (between : Paged) (grew : List Spelled) (first bytes : ℕ) → HasCells sizes old TableInterior page cells right
      → at ≤ length cells → GrowsBelow sizes gone levels (child_page at cells right) old between grew first bytes → OpensBelow sizes gone (suc levels) page (with_dividers cells at grew) right old between first bytes
  parent-grown levels page old cells right at between grew first bytes has within below tree trunks is free ready =
      let told = page-tells sizes old Table (suc levels) page tree cells right is has ready.stands in
      let child = child_at at tree.children tree.last in
      let named : page_of levels child ≡ child_page at cells right =
      child-page sizes old levels at tree.children tree.last ready.stands.1.0
      ∙ sym (ap (λ (cs : List Spelled). child_page at cs right) told.0 ∙ ap (λ (r : ℕ). child_page at (map spelled (cells_behind tree.children)) r) told.1) in
      let done = below child trunks named free (child-ready sizes levels old tree trunks at ready) in
      let a = alone-among levels at tree.children tree.last in
      let same : parent_with levels tree.page at tree.children tree.last [] child ≡ tree = λ i. record { page = tree.page; children = a.0 i; last = a.1 i } in
      let home = parent_with levels tree.page at tree.children tree.last done.siblings done.home in
      let after : After levels = record { base = between; siblings = done.siblings; home = done.home; trunks = done.rest; first = first; bytes = bytes; chain = done.chain } in
      let o = done.deleted.opened in
      let number = subst⁻¹ (IsNumber sizes between) done.page
      (IsInRange-wider sizes.size old.count between.count (page_of levels child) o.turns.grows (child-number sizes old levels at tree.children tree.last ready.stands.1.0 ready.stands.1.1)) in
      let opened = group-above sizes levels gone tree.page at tree.children tree.last (alone levels old child trunks) after
      (subst⁻¹ (λ (t : TreeOf (suc levels)). Within sizes old (pages_of (suc levels) t) trunks) same ready.within)
      (subst⁻¹ (Stands sizes old Table (suc levels)) same ready.stands) done.deleted number (inl done.page) (λ _ _. done.some) in
      let fits : at ≤ length tree.children = omega (arith, within, ap length told.0, length-map (cells_behind tree.children) spelled, length-map tree.children (λ (c : TreeOf levels × TreeCell). c.1)) in
      let cells_are : with_dividers cells at grew ≡ map spelled (cells_behind home.children) =
      ap (λ (cs : List Spelled). with_dividers cs at grew) told.0
      ∙ ap (λ (ds : List Spelled). with_dividers (map spelled (cells_behind tree.children)) at ds) (sym done.dividers_are)
      ∙ dividers-in at tree.children done.siblings done.home fits in
      let right_is : right ≡ page_of levels home.last = told.1 ∙ sym (last-same levels at tree.children tree.last child done.home done.page ∙ ap (page_of levels) a.1) in
      record {
        home = home;
        rest = done.rest;
        chain = done.chain;
        opened = subst (λ (t : TreeOf (suc levels)). IsOpened sizes (suc levels) gone (alone (suc levels) old t trunks)
            (record { base = between; siblings = []; home = home; trunks = done.rest; first = first; bytes = bytes; chain = done.chain })) same opened;
        page = refl;
        cells_are = cells_are;
        right_is = right_is;
      }
