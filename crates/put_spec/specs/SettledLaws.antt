-- A page that is still to be written is cut at each divider, and then written, or its cells are moved out.
use Rattle.std.proofs.Common.{◌≡◌, ℕ, zero, suc, ◌<◌, List, [], ◌∷◌, ◌++◌, length, map, inl, inr, refl, sym, ap, ◌∙◌, subst, arith}
use Rattle.std.proofs.Math.Path.{subst⁻¹}
use Rattle.std.specs.List.{flat_map}
use Rattle.std.proofs.lemmas.List.{append-nil}
use Rattle.format_spec.specs.Page.{IsPage}
use Rattle.page_spec.specs.Freelists.{Trunk}
use Rattle.tree_spec.specs.declared.TreeKind.{TreeKind}
use Rattle.page_spec.specs.Counts.{times}
use Rattle.tree_spec.specs.Trees.{TreeCell, TreeOf, Member, between, interior_kind, kind_at, page_of, own_cells, own_right, cells_behind, list_of, list_in, list_beside}
use Rattle.tree_spec.specs.Standing.{Sizes, Paged, IsNumber, IsBehind, HasOwnPage}
use Rattle.tree_spec.specs.StandingLaws.{held-kept}
use Rattle.tree_spec.specs.Worlds.{IsFree}
use Rattle.tree_spec.specs.Changes.{Turns, Writes}
use Rattle.tree_spec.specs.ChangesLaws.{Turns-within, Turns-keeps}
use Rattle.put_spec.specs.ImagesLaws.{none-map, map-map, length-of}
use Rattle.put_spec.specs.ChildrenLaws.{keeps-fewer}
use Rattle.put_spec.specs.Puts.{Before, After, hand_before, hand_after, IsCut, cut_after, moved, deeper, IsOpened, IsPut, IsRootPut}
use Rattle.put_spec.specs.PutsLaws.{pages-parts, cut-count, put-cut, put-settled, put-stays, put-rises, hand-parts, moved-page, moved-list, siblings-list}
use Rattle.put_spec.specs.Steps.{Spelled, spelled, bytes_in, AreParts, Took, IsFronted, IsSpread, IsSettled, IsMovedOut, IsRooted, PutDone, RootDone}
use Rattle.put_spec.specs.SpelledLaws.{bytes-of, lifted}

-- A page is cut at each divider, and then written.

module _ (sizes : Sizes) (kind : TreeKind) where
  -- what settling a page gives
  pub record HasGrown (levels : ℕ) (before : Before levels) (after : After levels) (new : Paged) (dividers : List Spelled) : Type 0 where
    pub siblings : List (TreeOf levels × TreeCell)
    pub home : TreeOf levels
    pub trunks : List Trunk
    pub chain : List ℕ
    pub put : IsPut sizes kind levels before (record { base = new; siblings = siblings; home = home; trunks = trunks; first = after.first; bytes = after.bytes; chain = chain })
    pub dividers_are : map spelled (cells_behind siblings) ≡ map spelled (cells_behind after.siblings) ++ dividers
    pub list : list_beside kind levels siblings home ≡ list_beside kind levels after.siblings after.home

  -- the cells between siblings, with one more sibling
  pub siblings-cells : {Child : Type 0} (siblings : List (Child × TreeCell)) (left : Child) (cell : TreeCell) (divider : Spelled) (dividers : List Spelled) → spelled cell ≡ divider
      → map spelled (cells_behind (siblings ++ (left, cell) ∷ [])) ++ dividers ≡ map spelled (cells_behind siblings) ++ divider ∷ dividers
  siblings-cells [] left cell divider dividers is = ap (λ (c : Spelled). c ∷ dividers) is
  siblings-cells (x ∷ xs) left cell divider dividers is = ap (λ (l : List Spelled). spelled x.1 ∷ l) (siblings-cells xs left cell divider dividers is)

  pub own-written : (base : Paged) (levels : ℕ) (tree : TreeOf levels) (page : ℕ) (cells : List Spelled) (right : ℕ) → page_of levels tree ≡ page → cells ≡ map spelled (own_cells levels tree)
      → right ≡ own_right levels tree → IsPage (base.pages page) page sizes.usable (kind_at kind levels) (bytes_in cells) right → HasOwnPage sizes base kind levels tree
  own-written base levels tree page cells right is same right_is written =
      subst⁻¹ (λ (p : ℕ). IsPage (base.pages p) p sizes.usable (kind_at kind levels) (map (λ (cell : TreeCell). cell.bytes) (own_cells levels tree)) (own_right levels tree)) is
      (subst (λ (bytes : List (List ℕ)). IsPage (base.pages page) page sizes.usable (kind_at kind levels) bytes (own_right levels tree)) (ap bytes_in same ∙ bytes-of (own_cells levels tree))
      (subst (λ (r : ℕ). IsPage (base.pages page) page sizes.usable (kind_at kind levels) (bytes_in cells) r) right_is written))

  pub cells-many : {Child : Type 0} (children : List (Child × TreeCell)) → length (map spelled (cells_behind children)) ≡ length children
  cells-many [] = refl
  cells-many (child ∷ children) = omega (arith, cells-many children)

  pub moved-cells : (levels fresh : ℕ) (tree : TreeOf levels) → own_cells levels (moved levels fresh tree) ≡ own_cells levels tree
  moved-cells zero fresh tree = refl
  moved-cells (suc levels) fresh tree = refl

  pub moved-right : (levels fresh : ℕ) (tree : TreeOf levels) → own_right levels (moved levels fresh tree) ≡ own_right levels tree
  moved-right zero fresh tree = refl
  moved-right (suc levels) fresh tree = refl

  -- a page that is still to be written, cut once more
  pub record HasCut (levels : ℕ) (before : Before levels) (after : After levels) (divider : Spelled) (back : List Spelled) (between : Paged) : Type 0 where
    pub next : After levels
    pub base_is : next.base ≡ between
    pub first : next.first ≡ after.first
    pub bytes : next.bytes ≡ after.bytes
    pub opened : IsOpened sizes kind levels before next
    pub free : IsFree sizes next.base next.trunks
    pub back_cells : back ≡ map spelled (own_cells levels next.home)
    pub right_is : own_right levels after.home ≡ own_right levels next.home
    pub dividers_are : (dividers : List Spelled) → map spelled (cells_behind next.siblings) ++ dividers ≡ map spelled (cells_behind after.siblings) ++ divider ∷ dividers
    pub list : list_beside kind levels next.siblings next.home ≡ list_beside kind levels after.siblings after.home

  some-cells : (levels : ℕ) (tree : TreeOf levels) (cells : List Spelled) → cells ≡ map spelled (own_cells levels tree) → 0 < length cells → 0 < length (own_cells levels tree)
  some-cells levels tree cells same some = omega (arith, ap length same, length-of spelled (own_cells levels tree))

  cut-once : (levels : ℕ) (before : Before levels) (after : After levels) (cells : List Spelled) (divider : Spelled) (back : List Spelled) (between : Paged) → IsFree sizes after.base after.trunks
      → IsOpened sizes kind levels before after → cells ≡ map spelled (own_cells levels after.home) → IsFronted sizes levels kind cells divider back after.base between
      → HasCut levels before after divider back between
  cut-once levels before after cells divider back between free o same f =
      let l = lifted sizes after.base levels kind after.home divider f.front f.right back o.below (subst (λ (x : List Spelled). AreParts levels kind x divider f.front f.right back) same f.parts) f.is_cell in
      let own = own-written between levels l.left divider.view.child f.front f.right l.page l.left_cells l.left_right f.is_page in
      let took = f.took after.trunks free in
      let taken : Turns sizes after.base [] after.trunks between (page_of levels l.left ∷ []) took.0 = subst⁻¹ (λ (p : ℕ). Turns sizes after.base [] after.trunks between (p ∷ []) took.0) l.page took.1 in
      let within = Turns-within sizes before.base after.base (hand_before before) (hand_after after) before.trunks after.trunks o.within o.turns in
      let keeps = Turns-keeps sizes after.base between [] (page_of levels l.left ∷ []) after.trunks took.0 (hand_after after) (λ n. omega (arith, within n)) taken in
      let chain = chain-of-cut levels after l.left l.cell l.rest l.cut in
      let behind : IsBehind sizes between (interior_kind kind) l.cell (page_of levels l.left) = record {
        held = held-kept sizes after.base between (interior_kind kind) l.cell (keeps-fewer after.base between (hand_after after) l.cell.chain chain keeps) l.held;
        names = names-page l.cell divider (page_of levels l.left) l.cell_is l.page;
        in_range = subst⁻¹ (IsNumber sizes between) l.page f.in_range;
      } in
      record {
        next = cut_after levels after l.left l.cell l.rest between took.0;
        base_is = refl;
        first = refl;
        bytes = refl;
        opened = put-cut sizes kind levels before after l.left l.cell l.rest between took.0 o l.cut taken own behind
            (some-cells levels l.left f.front l.left_cells f.front_some) (some-cells levels l.rest back l.rest_cells f.back_some);
        free = taken.freelist free;
        back_cells = l.rest_cells;
        right_is = l.rest_right;
        dividers_are = λ dividers. siblings-cells after.siblings l.left l.cell divider dividers l.cell_is;
        list = sym (siblings-list sizes kind levels after.siblings after.home l.left l.cell l.rest l.cut);
      }
    where
      names-page : (cell : TreeCell) (divider : Spelled) (page : ℕ) → spelled cell ≡ divider → page ≡ divider.view.child → cell.view.child ≡ page
      names-page cell divider page is there = ap (λ (c : Spelled). c.view.child) is ∙ sym there

      -- the chain of the cell that goes up is one of those in hand
      chain-of-cut : (levels : ℕ) (after : After levels) (left : TreeOf levels) (cell : TreeCell) (rest : TreeOf levels) → IsCut levels kind after.home left cell rest
          → (n : ℕ) → 0 < times n cell.chain → 0 < times n (hand_after after)
      chain-of-cut levels after left cell rest cut n some =
          omega (arith, cut-count sizes kind levels kind n after.home left cell rest cut, pages-parts n levels left, pages-parts n levels after.home, hand-parts n levels after)

  -- what spreading a page gives, which is still to be written
  pub record HasSpread (levels : ℕ) (before : Before levels) (after : After levels) (dividers left : List Spelled) (new : Paged) : Type 0 where
    pub next : After levels
    pub base_is : next.base ≡ new
    pub first : next.first ≡ after.first
    pub bytes : next.bytes ≡ after.bytes
    pub opened : IsOpened sizes kind levels before next
    pub free : IsFree sizes next.base next.trunks
    pub left_cells : left ≡ map spelled (own_cells levels next.home)
    pub right_is : own_right levels after.home ≡ own_right levels next.home
    pub dividers_are : map spelled (cells_behind next.siblings) ≡ map spelled (cells_behind after.siblings) ++ dividers
    pub list : list_beside kind levels next.siblings next.home ≡ list_beside kind levels after.siblings after.home

  -- A page that is still to be written is cut at each divider.
  pub spread-opened : (dividers : List Spelled) (levels : ℕ) (before : Before levels) (after : After levels) (cells left : List Spelled) (new : Paged) → IsFree sizes after.base after.trunks
      → IsOpened sizes kind levels before after → cells ≡ map spelled (own_cells levels after.home) → IsSpread sizes levels kind cells after.base new dividers left
      → HasSpread levels before after dividers left new
  spread-opened [] levels before after cells left new free o same spread = record {
    next = after;
    base_is = sym spread.1;
    first = refl;
    bytes = refl;
    opened = o;
    free = free;
    left_cells = spread.0 ∙ same;
    right_is = refl;
    dividers_are = sym (append-nil (map spelled (cells_behind after.siblings)));
    list = refl;
  }
  spread-opened (divider ∷ dividers) levels before after cells left new free o same spread =
      let c = cut-once levels before after cells divider spread.0 spread.1 free o same spread.2 in
      let rest = spread-opened dividers levels before c.next spread.0 left new c.free c.opened c.back_cells
      (subst⁻¹ (λ (base : Paged). IsSpread sizes levels kind spread.0 base new dividers left) c.base_is spread.3) in
      record {
        next = rest.next;
        base_is = rest.base_is;
        first = rest.first ∙ c.first;
        bytes = rest.bytes ∙ c.bytes;
        opened = rest.opened;
        free = rest.free;
        left_cells = rest.left_cells;
        right_is = c.right_is ∙ rest.right_is;
        dividers_are = rest.dividers_are ∙ c.dividers_are dividers;
        list = rest.list ∙ c.list;
      }

  -- some cells that stand in their page were spread, and then it was written
  pub settled-spread : (dividers : List Spelled) (levels page right : ℕ) (cells : List Spelled) (old new : Paged) → IsSettled sizes levels kind page right cells old new dividers
      → (left : List Spelled) × (between : Paged) × IsSpread sizes levels kind cells old between dividers left × Writes page between new × IsPage (new.pages page) page sizes.usable (kind_at kind levels) (bytes_in left) right
  settled-spread [] levels page right cells old new done = (cells, old, (refl, refl), done.0, done.1)
  settled-spread (divider ∷ dividers) levels page right cells old new done =
      let rest = settled-spread dividers levels page right done.0 done.1 new done.3 in
      (rest.0, rest.1, (done.0, done.1, done.2, rest.2), rest.3, rest.4)

  -- A page that is still to be written is cut at each divider, and then written.
  pub settled : (dividers : List Spelled) (levels : ℕ) (before : Before levels) (after : After levels) (cells : List Spelled) (right : ℕ) (new : Paged) → IsFree sizes after.base after.trunks
      → IsOpened sizes kind levels before after → cells ≡ map spelled (own_cells levels after.home) → right ≡ own_right levels after.home
      → IsSettled sizes levels kind (page_of levels after.home) right cells after.base new dividers → HasGrown levels before after new dividers
  settled dividers levels before after cells right new free o same right_is done =
      let d = settled-spread dividers levels (page_of levels after.home) right cells after.base new done in
      let s = spread-opened dividers levels before after cells d.0 d.1 free o same d.2 in
      let n = s.next in
      let page : page_of levels n.home ≡ page_of levels after.home = s.opened.page ∙ sym o.page in
      let writes = subst⁻¹ (λ (base : Paged). Writes (page_of levels n.home) base new) s.base_is (subst⁻¹ (λ (p : ℕ). Writes p d.1 new) page d.3) in
      let own = own-written new levels n.home (page_of levels after.home) d.0 right page s.left_cells (right_is ∙ s.right_is) d.4 in
      let put = put-settled sizes kind levels before n new s.opened writes own in
      record {
        siblings = n.siblings;
        home = n.home;
        trunks = n.trunks;
        chain = n.chain;
        put = subst (λ (first : ℕ). IsPut sizes kind levels before (record { base = new; siblings = n.siblings; home = n.home; trunks = n.trunks; first = first; bytes = after.bytes; chain = n.chain })) s.first
            (subst (λ (bytes : ℕ). IsPut sizes kind levels before (record { base = new; siblings = n.siblings; home = n.home; trunks = n.trunks; first = n.first; bytes = bytes; chain = n.chain })) s.bytes put);
        dividers_are = s.dividers_are;
        list = s.list;
      }

  -- what is done to a page, or to a root, and the members that it has then
  abbrev pub ListedPut : (levels : ℕ) → Before levels → Paged → List Spelled → ℕ → ℕ → List Member → Type 0
  ListedPut levels before new dividers first bytes members = (done : PutDone sizes kind levels before new dividers first bytes) × (list_beside kind levels done.siblings done.home ≡ members)

  abbrev pub ListedRoot : (levels : ℕ) → Before levels → Paged → ℕ → ℕ → List Member → Type 0
  ListedRoot levels before new first bytes members = (done : RootDone sizes kind levels before new first bytes) × (list_in done.rooted ≡ members)

  -- What a root's page is to have is spread, and moved out.
  pub moved-out : (levels : ℕ) (before : Before levels) (after : After levels) (root right : ℕ) (cells : List Spelled) (new : Paged) → IsFree sizes after.base after.trunks
      → IsOpened sizes kind levels before after → after.siblings ≡ [] → page_of levels after.home ≡ root → cells ≡ map spelled (own_cells levels after.home) → right ≡ own_right levels after.home
      → IsMovedOut sizes levels kind root right cells after.base new → ListedRoot levels before new after.first after.bytes (list_beside kind levels after.siblings after.home)
  moved-out levels before after root right cells new free o none is same right_is out =
      let s = spread-opened out.dividers levels before after cells out.left out.spread_out free o same out.spread in
      let n = s.next in
      let home = n.home in
      let fresh = out.fresh in
      let page : page_of levels home ≡ root = s.opened.page ∙ sym o.page ∙ is in
      let dividers : map spelled (cells_behind n.siblings) ≡ out.dividers = s.dividers_are ∙ ap (λ (l : List (TreeOf levels × TreeCell)). map spelled (cells_behind l) ++ out.dividers) none in
      let took = subst⁻¹ (λ (base : Paged). Took sizes fresh base out.between) s.base_is out.took n.trunks s.free in
      let own = own-written out.between levels (moved levels fresh home) fresh out.left right (moved-page sizes kind levels fresh home) (s.left_cells ∙ ap (map spelled) (sym (moved-cells levels fresh home)))
      (right_is ∙ s.right_is ∙ sym (moved-right levels fresh home)) out.is_page in
      let top : HasOwnPage sizes new kind (suc levels) (deeper levels n fresh) =
      own-written new (suc levels) (deeper levels n fresh) root out.dividers fresh page (sym dividers) (sym (moved-page sizes kind levels fresh home)) out.root_page in
      let rises = put-rises sizes kind levels before n fresh out.between new took.0 s.opened took.1 out.in_range own
      (subst⁻¹ (λ (p : ℕ). Writes p out.between new) page out.writes) top
      (some-cells levels home out.left s.left_cells out.left_some)
      (λ other. omega (arith, out.some (λ e. other (page ∙ e)), ap length dividers, cells-many n.siblings)) in (
        record {
          rooted = record { kind = kind; levels = suc levels; tree = deeper levels n fresh };
          trunks = took.0;
          chain = n.chain;
          put = subst (λ (first : ℕ). IsRootPut sizes kind levels before new (record { kind = kind; levels = suc levels; tree = deeper levels n fresh }) first after.bytes n.chain took.0) s.first
              (subst (λ (bytes : ℕ). IsRootPut sizes kind levels before new (record { kind = kind; levels = suc levels; tree = deeper levels n fresh }) n.first bytes n.chain took.0) s.bytes rises);
        },
        ap (λ (l : List Member). flat_map (λ (child : TreeOf levels × TreeCell). list_of kind levels child.0 ++ between kind child.1) n.siblings ++ l) (moved-list sizes kind levels fresh home) ∙ s.list,
      )

  -- the same where no sibling stands beside it yet
  settled-done : (dividers : List Spelled) (levels : ℕ) (before : Before levels) (after : After levels) (cells : List Spelled) (right : ℕ) (new : Paged) → IsFree sizes after.base after.trunks
      → IsOpened sizes kind levels before after → after.siblings ≡ [] → cells ≡ map spelled (own_cells levels after.home) → right ≡ own_right levels after.home
      → IsSettled sizes levels kind (page_of levels after.home) right cells after.base new dividers
      → ListedPut levels before new dividers after.first after.bytes (list_beside kind levels after.siblings after.home)
  settled-done dividers levels before after cells right new free o none same right_is done =
      let grown = settled dividers levels before after cells right new free o same right_is done in (
        record {
          siblings = grown.siblings;
          home = grown.home;
          trunks = grown.trunks;
          chain = grown.chain;
          put = grown.put;
          dividers_are = grown.dividers_are ∙ ap (λ (s : List (TreeOf levels × TreeCell)). map spelled (cells_behind s) ++ dividers) none;
        },
        grown.list,
      )

  -- A put that is done but for a page that is to have these cells and this right child, whose tree it is in.
  pub record HasOpened (levels : ℕ) (before : Before levels) (cells : List Spelled) (right first bytes : ℕ) (base : Paged) : Type 0 where
    pub after : After levels
    pub base_is : after.base ≡ base
    pub first_is : after.first ≡ first
    pub bytes_is : after.bytes ≡ bytes
    pub free : IsFree sizes after.base after.trunks
    pub opened : IsOpened sizes kind levels before after
    pub none : after.siblings ≡ []
    pub cells_are : cells ≡ map spelled (own_cells levels after.home)
    pub right_is : right ≡ own_right levels after.home

  -- Where no sibling came, a root has what its page has.
  pub root-done : (levels : ℕ) (before : Before levels) (new : Paged) (first bytes : ℕ) (members : List Member) → ListedPut levels before new [] first bytes members → ListedRoot levels before new first bytes members
  root-done levels before new first bytes members (done, list) =
      let none : done.siblings ≡ [] =
      none-map (λ (child : TreeOf levels × TreeCell). spelled child.1) done.siblings (sym (map-map spelled (λ (child : TreeOf levels × TreeCell). child.1) done.siblings) ∙ done.dividers_are) in (
        record {
          rooted = record { kind = kind; levels = levels; tree = done.home };
          trunks = done.trunks;
          chain = done.chain;
          put = put-stays sizes kind levels before (record { base = new; siblings = done.siblings; home = done.home; trunks = done.trunks; first = first; bytes = bytes; chain = done.chain }) done.put none;
        },
        sym (ap (λ (s : List (TreeOf levels × TreeCell)). list_beside kind levels s done.home) none) ∙ list,
      )

  -- its page is settled
  pub opened-settled : (levels page : ℕ) (before : Before levels) (cells : List Spelled) (right first bytes : ℕ) (base new : Paged) (dividers : List Spelled) → page_of levels before.tree ≡ page
      → (o : HasOpened levels before cells right first bytes base) → IsSettled sizes levels kind page right cells base new dividers
      → ListedPut levels before new dividers first bytes (list_beside kind levels o.after.siblings o.after.home)
  opened-settled levels page before cells right first bytes base new dividers is o settle =
      let members = list_beside kind levels o.after.siblings o.after.home in
      subst (λ (f : ℕ). ListedPut levels before new dividers f bytes members) o.first_is
      (subst (λ (b : ℕ). ListedPut levels before new dividers o.after.first b members) o.bytes_is
      (settled-done dividers levels before o.after cells right new o.free o.opened o.none o.cells_are o.right_is
      (subst⁻¹ (λ (p : ℕ). IsSettled sizes levels kind p right cells o.after.base new dividers) (o.opened.page ∙ is)
      (subst⁻¹ (λ (b : Paged). IsSettled sizes levels kind page right cells b new dividers) o.base_is settle))))

  -- or its page is a root's, which keeps its cells, or from which they are moved out
  pub opened-rooted : (levels root : ℕ) (before : Before levels) (cells : List Spelled) (right first bytes : ℕ) (base new : Paged) → page_of levels before.tree ≡ root
      → (o : HasOpened levels before cells right first bytes base) → IsRooted sizes levels kind root right cells base new
      → ListedRoot levels before new first bytes (list_beside kind levels o.after.siblings o.after.home)
  opened-rooted levels root before cells right first bytes base new is o rooted =
      let members = list_beside kind levels o.after.siblings o.after.home in
      elim rooted as (λ _. ListedRoot levels before new first bytes members) [
        | inl settle ↦ root-done levels before new first bytes members (opened-settled levels root before cells right first bytes base new [] is o settle)
        | inr out ↦
            subst (λ (f : ℕ). ListedRoot levels before new f bytes members) o.first_is
            (subst (λ (b : ℕ). ListedRoot levels before new o.after.first b members) o.bytes_is
            (moved-out levels before o.after root right cells new o.free o.opened o.none (o.opened.page ∙ is) o.cells_are o.right_is
            (subst⁻¹ (λ (b : Paged). IsMovedOut sizes levels kind root right cells b new) o.base_is out)))
      ]
