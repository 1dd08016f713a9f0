-- What a put below a child makes of its page, and of a root.
use Rattle.std.proofs.Common.{◌≡◌, ℕ, zero, suc, ◌≤◌, List, [], ◌∷◌, ◌++◌, length, map, refl, sym, ap, ◌∙◌, subst, arith}
use Rattle.std.proofs.Math.Path.{subst⁻¹}
use Rattle.std.specs.List.{AllByRecursion}
use Rattle.std.proofs.lemmas.List.{append-nil}
use Rattle.format_spec.specs.declared.CellView.{CellView}
use Rattle.format_spec.specs.Page.{IsPage}
use Rattle.page_spec.specs.Freelists.{Trunk}
use Rattle.tree_spec.specs.declared.TreeKind.{TreeKind}
use Rattle.tree_spec.specs.declared.TreeKind.TheVariants.{Table}
use Rattle.page_spec.specs.CountsLaws.{times-append}
use Rattle.tree_spec.specs.Trees.{TreeCell, TreeOf, between, leaf_kind, interior_kind, kind_at, page_of, pages_of, cells_behind, list_beside}
use Rattle.tree_spec.specs.Standing.{Sizes, Paged, Keeps, HasOwnPage, Stands, StandsBefore}
use Rattle.tree_spec.specs.StandingLaws.{own-kept, keeps-first}
use Rattle.tree_spec.specs.OneTreeLaws.{leaf-levels, interior-levels}
use Rattle.tree_spec.specs.Worlds.{IsFree}
use Rattle.tree_spec.specs.Changes.{Writes}
use Rattle.tree_spec.specs.ChangesLaws.{Turns-keeps}
use Rattle.put_spec.specs.Children.{Belongs, child_at, children_with, last_with, interior_with}
use Rattle.put_spec.specs.ChildrenLaws.{child-stands, child-within}
use Rattle.put_spec.specs.Puts.{Before, After, hand_before, hand_after, child_before, interior_after, moved, deeper, IsReady}
use Rattle.put_spec.specs.PutsLaws.{put-above, put-deepens, moved-page}
use Rattle.put_spec.specs.Steps.{Spelled, spelled, bytes_in, views_in, HasCells, child_page, with_dividers, before_at, IsSettled, PutDone, PutBelow, PutAt, PutUnder, PutInto, IsDeepened}
use Rattle.put_spec.specs.SpelledLaws.{views-of, page-tells}
use Rattle.put_spec.specs.SettledLaws.{own-written, cells-many, moved-cells, moved-right, HasOpened, root-done, opened-settled, ListedPut}

module _ (sizes : Sizes) (kind : TreeKind) where
  -- An interior page.

  behind-append : {Child : Type 0} (xs ys : List (Child × TreeCell)) → map spelled (cells_behind (xs ++ ys)) ≡ map spelled (cells_behind xs) ++ map spelled (cells_behind ys)
  behind-append [] ys = refl
  behind-append (x ∷ xs) ys = ap (λ (l : List Spelled). spelled x.1 ∷ l) (behind-append xs ys)

  -- the cells of a page whose child at a place has become several
  dividers-put : {Child : Type 0} (i : ℕ) (children siblings : List (Child × TreeCell)) (home : Child) → i ≤ length children
      → with_dividers (map spelled (cells_behind children)) i (map spelled (cells_behind siblings)) ≡ map spelled (cells_behind (children_with i children siblings home))
  dividers-put zero [] siblings home within = append-nil (map spelled (cells_behind siblings))
  dividers-put (suc i) [] siblings home within = absurd (omega arith)
  dividers-put zero (child ∷ children) siblings home within = sym (behind-append siblings ((home, child.1) ∷ children))
  dividers-put (suc i) (child ∷ children) siblings home within = ap (λ (l : List Spelled). spelled child.1 ∷ l) (dividers-put i children siblings home (omega arith))

  right-same : (levels i : ℕ) (children : List (TreeOf levels × TreeCell)) (last home : TreeOf levels) → page_of levels home ≡ page_of levels (child_at i children last)
      → page_of levels last ≡ page_of levels (last_with i children last home)
  right-same levels i [] last home page = sym page
  right-same levels zero (child ∷ children) last home page = refl
  right-same levels (suc i) (child ∷ children) last home page = right-same levels i children last home page

  pub child-page : (base : Paged) (levels i : ℕ) (children : List (TreeOf levels × TreeCell)) (last : TreeOf levels) → AllByRecursion (StandsBefore sizes base kind levels) children
      → page_of levels (child_at i children last) ≡ child_page i (map spelled (cells_behind children)) (page_of levels last)
  child-page base levels i [] last all = refl
  child-page base levels zero (child ∷ children) last all = sym all.0.0.names
  child-page base levels (suc i) (child ∷ children) last all = child-page base levels i children last all.1

  -- what a put below a child needs
  child-ready : (levels : ℕ) (before : Before (suc levels)) (i : ℕ) → IsReady sizes kind (suc levels) before → IsReady sizes kind levels (child_before levels before i)
  child-ready levels before i ready =
      let tree = before.tree in
      record {
        within = λ n.
            omega (
              arith,
              ready.within n,
              child-within n levels i tree.children tree.last,
              times-append n (pages_of (suc levels) tree) before.cell.chain,
              times-append n (pages_of levels (child_at i tree.children tree.last)) before.cell.chain,
            );
        stands = child-stands sizes kind before.base levels i tree.children tree.last ready.stands.1.0 ready.stands.1.1.1;
        held = ready.held;
      }

  -- the tree at an interior page, by the cells that were read of it: its children, and the child at a place
  pub record HasChildAt (levels : ℕ) (tree : TreeOf (suc levels)) (base : Paged) (cells : List Spelled) (right at : ℕ) : Type 0 where
    pub cells_are : cells ≡ map spelled (cells_behind tree.children)
    pub right_is : right ≡ page_of levels tree.last
    pub child_is : page_of levels (child_at at tree.children tree.last) ≡ child_page at cells right

  pub child-told : (levels page : ℕ) (tree : TreeOf (suc levels)) (base : Paged) (cells : List Spelled) (right at : ℕ) → page_of (suc levels) tree ≡ page → HasCells sizes base (interior_kind kind) page cells right
      → Stands sizes base kind (suc levels) tree → HasChildAt levels tree base cells right at
  child-told levels page tree base cells right at is has stands =
      let told = page-tells sizes base kind (suc levels) page tree cells right is has stands in
      record {
        cells_are = told.0;
        right_is = told.1;
        child_is = child-page base levels at tree.children tree.last stands.1.0
            ∙ sym (ap (λ (cs : List Spelled). child_page at cs right) told.0 ∙ ap (λ (r : ℕ). child_page at (map spelled (cells_behind tree.children)) r) told.1);
      }

  -- A put below the child at the place where the cell belongs leaves the page, which is to have the dividers that came.
  pub child-opened : (levels : ℕ) (before : Before (suc levels)) (cells : List Spelled) (right at : ℕ) (between : Paged) (grew : List Spelled) (first bytes : ℕ) → HasChildAt levels before.tree before.base cells right at
      → at ≤ length cells → (kind ≡ Table → Belongs before.cell.view.rowid at (views_in cells)) → IsFree sizes before.base before.trunks → IsReady sizes kind (suc levels) before
      → (done : PutDone sizes kind levels (child_before levels before at) between grew first bytes)
      → (o : HasOpened sizes kind (suc levels) before (with_dividers cells at grew) right first bytes between)
      × (list_beside kind (suc levels) o.after.siblings o.after.home
      ≡ list_beside kind levels (children_with at before.tree.children done.siblings done.home) (last_with at before.tree.children before.tree.last done.home))
  child-opened levels before cells right at between grew first bytes told within here free ready done =
      let tree = before.tree in
      let few : at ≤ length tree.children = omega (arith, within, ap length told.cells_are, cells-many sizes kind tree.children) in
      let after : After levels = record { base = between; siblings = done.siblings; home = done.home; trunks = done.trunks; first = first; bytes = bytes; chain = done.chain } in
      let place = λ (table : kind ≡ Table). subst (λ (views : List CellView). Belongs before.cell.view.rowid at views) (ap views_in told.cells_are ∙ views-of (cells_behind tree.children)) (here table) in (
        record {
          after = interior_after levels before at after;
          base_is = refl;
          first_is = refl;
          bytes_is = refl;
          free = done.put.opened.turns.freelist free;
          opened = put-above sizes kind levels before at after ready.within ready.stands place done.put;
          none = refl;
          cells_are = ap (λ (cs : List Spelled). with_dividers cs at grew) told.cells_are
              ∙ ap (λ (ds : List Spelled). with_dividers (map spelled (cells_behind tree.children)) at ds) (sym done.dividers_are)
              ∙ dividers-put at tree.children done.siblings done.home few;
          right_is = told.right_is ∙ right-same levels at tree.children tree.last done.home done.put.opened.page;
        },
        refl,
      )

  pub interior-opened : (levels page : ℕ) (cell : Spelled) (old : Paged) (cells : List Spelled) (right at : ℕ) (between : Paged) (grew : List Spelled) (first bytes : ℕ) (tree : TreeOf (suc levels))
      (trunks : List Trunk) (payload chain : List ℕ) → HasCells sizes old (interior_kind kind) page cells right → at ≤ length cells → (kind ≡ Table → Belongs cell.view.rowid at (views_in cells))
      → PutBelow sizes kind levels (child_page at cells right) cell old between grew first bytes → page_of (suc levels) tree ≡ page → IsFree sizes old trunks
      → IsReady sizes kind (suc levels) (before_at old tree trunks cell payload chain) → HasOpened sizes kind (suc levels) (before_at old tree trunks cell payload chain) (with_dividers cells at grew) right first bytes between
  interior-opened levels page cell old cells right at between grew first bytes tree trunks payload chain has within here put is free ready =
      let before : Before (suc levels) = before_at old tree trunks cell payload chain in
      let told = child-told levels page tree old cells right at is has ready.stands in
      let done = put (child_at at tree.children tree.last) trunks payload chain told.child_is free (child-ready levels before at ready) in
      (child-opened levels before cells right at between grew first bytes told within here free ready done).0

  -- A put below the child at the place where the cell belongs, and the page with the dividers that came, is a put below the page.
  pub interior-step : (levels page : ℕ) (cell : Spelled) (old : Paged) (cells : List Spelled) (right at : ℕ) (between : Paged) (grew : List Spelled) (first bytes : ℕ) (new : Paged) (dividers : List Spelled)
      → HasCells sizes old (interior_kind kind) page cells right → at ≤ length cells → (kind ≡ Table → Belongs cell.view.rowid at (views_in cells))
      → PutBelow sizes kind levels (child_page at cells right) cell old between grew first bytes
      → IsSettled sizes (suc levels) kind page right (with_dividers cells at grew) between new dividers → PutBelow sizes kind (suc levels) page cell old new dividers first bytes
  interior-step levels page cell old cells right at between grew first bytes new dividers has within here put settle tree trunks payload chain is free ready =
      (opened-settled sizes kind (suc levels) page (before_at old tree trunks cell payload chain) (with_dividers cells at grew) right first bytes between new dividers is
      (interior-opened levels page cell old cells right at between grew first bytes tree trunks payload chain has within here put is free ready) settle).0

  children-alone : {Child : Type 0} (i : ℕ) (children : List (Child × TreeCell)) (home : Child) → cells_behind (children_with i children [] home) ≡ cells_behind children
  children-alone i [] home = refl
  children-alone zero (child ∷ children) home = refl
  children-alone (suc i) (child ∷ children) home = ap (λ (l : List TreeCell). child.1 ∷ l) (children-alone i children home)

  -- Where no sibling came, the page stays as it is.
  pub child-untouched : (levels : ℕ) (before : Before (suc levels)) (cells : List Spelled) (right at : ℕ) (new : Paged) (first bytes : ℕ) → HasChildAt levels before.tree before.base cells right at
      → (kind ≡ Table → Belongs before.cell.view.rowid at (views_in cells)) → IsReady sizes kind (suc levels) before → (done : PutDone sizes kind levels (child_before levels before at) new [] first bytes)
      → ListedPut sizes kind (suc levels) before new [] first bytes (list_beside kind levels (children_with at before.tree.children done.siblings done.home) (last_with at before.tree.children before.tree.last done.home))
  child-untouched levels before cells right at new first bytes told here ready done =
      let tree = before.tree in
      let old = before.base in
      let child_tree = child_at at tree.children tree.last in
      let none : done.siblings ≡ [] = none-behind done.siblings done.dividers_are in
      let after : After levels = record { base = new; siblings = done.siblings; home = done.home; trunks = done.trunks; first = first; bytes = bytes; chain = done.chain } in
      let place = λ (table : kind ≡ Table). subst (λ (views : List CellView). Belongs before.cell.view.rowid at views) (ap views_in told.cells_are ∙ views-of (cells_behind tree.children)) (here table) in
      let opened = put-above sizes kind levels before at after ready.within ready.stands place done.put in
      let keeps : Keeps (tree.page ∷ []) old new = Turns-keeps sizes old new (hand_before (child_before levels before at)) (hand_after after) before.trunks done.trunks (tree.page ∷ [])
      (λ n.
      omega (
        arith,
        ready.within n,
        child-within n levels at tree.children tree.last,
        times-append n (pages_of (suc levels) tree) before.cell.chain,
        times-append n (pages_of levels child_tree) before.cell.chain,
      )) done.put.opened.turns in
      let own = own-kept sizes old new kind (suc levels) tree (keeps-first old new tree.page [] keeps) ready.stands.0 in
      let cells_same : cells_behind (children_with at tree.children done.siblings done.home) ≡ cells_behind tree.children =
      ap (λ (s : List (TreeOf levels × TreeCell)). cells_behind (children_with at tree.children s done.home)) none ∙ children-alone at tree.children done.home in (
        record {
          siblings = [];
          home = interior_with levels tree at done.siblings done.home;
          trunks = done.trunks;
          chain = done.chain;
          put = record {
            opened = opened;
            own = subst⁻¹ (λ (cs : List TreeCell). IsPage (new.pages tree.page) tree.page sizes.usable (interior_kind kind) (map (λ (c : TreeCell). c.bytes) cs) (page_of levels (last_with at tree.children tree.last done.home))) cells_same
                (subst (λ (r : ℕ). IsPage (new.pages tree.page) tree.page sizes.usable (interior_kind kind) (map (λ (c : TreeCell). c.bytes) (cells_behind tree.children)) r)
                (right-same levels at tree.children tree.last done.home done.put.opened.page) own);
          };
          dividers_are = refl;
        },
        refl,
      )
    where
      none-behind : {Child : Type 0} (children : List (Child × TreeCell)) → map spelled (cells_behind children) ≡ [] → children ≡ []
      none-behind [] e = refl
      none-behind (child ∷ children) e = absurd (let h : ⊥ = cc in h)

  pub interior-untouched : (levels page : ℕ) (cell : Spelled) (old : Paged) (cells : List Spelled) (right at : ℕ) (new : Paged) (first bytes : ℕ) → HasCells sizes old (interior_kind kind) page cells right
      → (kind ≡ Table → Belongs cell.view.rowid at (views_in cells)) → PutBelow sizes kind levels (child_page at cells right) cell old new [] first bytes
      → PutBelow sizes kind (suc levels) page cell old new [] first bytes
  interior-untouched levels page cell old cells right at new first bytes has here put tree trunks payload chain is free ready =
      let before : Before (suc levels) = before_at old tree trunks cell payload chain in
      let told = child-told levels page tree old cells right at is has ready.stands in
      let done = put (child_at at tree.children tree.last) trunks payload chain told.child_is free (child-ready levels before at ready) in
      (child-untouched levels before cells right at new first bytes told here ready done).0

  -- A root.

  -- Where no sibling came, the root has the cell too.
  pub root-step : (levels root : ℕ) (cell : Spelled) (old new : Paged) (first bytes : ℕ) → PutBelow sizes kind levels root cell old new [] first bytes → PutAt sizes kind levels root cell old new first bytes
  root-step levels root cell old new first bytes put tree trunks payload chain is free ready =
      let before : Before levels = before_at old tree trunks cell payload chain in
      let done = put tree trunks payload chain is free ready in
      (root-done sizes kind levels before new first bytes (list_beside kind levels done.siblings done.home) (done, refl)).0

  -- Where siblings came, the root gets a level more.
  pub root-deepens : (levels root : ℕ) (cell : Spelled) (old between new : Paged) (dividers : List Spelled) (first bytes : ℕ) → PutBelow sizes kind levels root cell old between dividers first bytes
      → IsDeepened sizes (kind_at kind levels) kind root dividers between new → PutAt sizes kind levels root cell old new first bytes
  root-deepens levels root cell old between new dividers first bytes put deep tree trunks payload chain is free ready =
      let before : Before levels = before_at old tree trunks cell payload chain in
      let done = put tree trunks payload chain is free ready in
      let home = done.home in
      let after : After levels = record { base = between; siblings = done.siblings; home = home; trunks = done.trunks; first = first; bytes = bytes; chain = done.chain } in
      let page : page_of levels home ≡ root = done.put.opened.page ∙ is in
      let told = page-tells sizes between kind levels root home deep.cells deep.right page deep.has (done.put.own, done.put.opened.below) in
      let took = deep.took done.trunks (done.put.opened.turns.freelist free) in
      let fresh = deep.fresh in
      let own = own-written sizes kind deep.between levels (moved levels fresh home) fresh deep.cells deep.right (moved-page sizes kind levels fresh home) (told.0 ∙ ap (map spelled) (sym (moved-cells sizes kind levels fresh home)))
      (told.1 ∙ sym (moved-right sizes kind levels fresh home)) deep.is_page in
      let top : HasOwnPage sizes new kind (suc levels) (deeper levels after fresh) =
      own-written sizes kind new (suc levels) (deeper levels after fresh) root dividers fresh page (sym done.dividers_are) (sym (moved-page sizes kind levels fresh home)) deep.root_page in
      record {
        rooted = record { kind = kind; levels = suc levels; tree = deeper levels after fresh };
        trunks = took.0;
        chain = done.chain;
        put = put-deepens sizes kind levels before after fresh deep.between new took.0 done.put took.1 deep.in_range own
            (subst⁻¹ (λ (p : ℕ). Writes p deep.between new) page deep.writes) top
            (omega (arith, deep.some, ap length done.dividers_are, cells-many sizes kind done.siblings));
      }

  -- Where the depth is not known.

  pub none-suc : (n : ℕ) → suc n ≡ 0 → ⊥
  none-suc n e = omega arith

  -- a put below a leaf is one whatever levels a tree there has: it has none
  pub leaf-under : (page : ℕ) (cell : Spelled) (old : Paged) (cells : List Spelled) (right : ℕ) (new : Paged) (dividers : List Spelled) (first bytes : ℕ) → HasCells sizes old (leaf_kind kind) page cells right
      → PutBelow sizes kind zero page cell old new dividers first bytes → PutUnder sizes kind page cell old new dividers first bytes
  leaf-under page cell old cells right new dividers first bytes has put zero tree trunks payload chain is free ready = put tree trunks payload chain is free ready
  leaf-under page cell old cells right new dividers first bytes has put (suc levels) tree trunks payload chain is free ready =
      absurd (none-suc levels (leaf-levels sizes old kind (suc levels) page tree (bytes_in cells) right is has.is_page ready.stands.0))

  -- and a put below an interior page is one where it is one for some levels
  pub interior-under : (page : ℕ) (cell : Spelled) (old : Paged) (cells : List Spelled) (right : ℕ) (new : Paged) (dividers : List Spelled) (first bytes : ℕ)
      → HasCells sizes old (interior_kind kind) page cells right → ((levels : ℕ) → PutBelow sizes kind (suc levels) page cell old new dividers first bytes)
      → PutUnder sizes kind page cell old new dividers first bytes
  interior-under page cell old cells right new dividers first bytes has put zero tree trunks payload chain is free ready =
      absurd (interior-levels sizes old kind zero page tree (bytes_in cells) right is has.is_page ready.stands.0 refl)
  interior-under page cell old cells right new dividers first bytes has put (suc levels) tree trunks payload chain is free ready = put levels tree trunks payload chain is free ready

  -- a root that was a leaf gets its first level
  pub leaf-deepens : (root : ℕ) (cell : Spelled) (old between new : Paged) (dividers : List Spelled) (first bytes : ℕ) → PutUnder sizes kind root cell old between dividers first bytes
      → IsDeepened sizes (leaf_kind kind) kind root dividers between new → PutInto sizes kind root cell old new first bytes
  leaf-deepens root cell old between new dividers first bytes put deep zero tree trunks payload chain is free ready =
      root-deepens zero root cell old between new dividers first bytes (put zero) deep tree trunks payload chain is free ready
  leaf-deepens root cell old between new dividers first bytes put deep (suc levels) tree trunks payload chain is free ready =
      let done = put (suc levels) tree trunks payload chain is free ready in
      absurd (none-suc levels (leaf-levels sizes between kind (suc levels) root done.home (bytes_in deep.cells) deep.right (done.put.opened.page ∙ is) deep.has.is_page done.put.own))

  -- and one that was interior gets one more
  pub interior-deepens : (root : ℕ) (cell : Spelled) (old between new : Paged) (dividers : List Spelled) (first bytes : ℕ) → PutUnder sizes kind root cell old between dividers first bytes
      → IsDeepened sizes (interior_kind kind) kind root dividers between new → PutInto sizes kind root cell old new first bytes
  interior-deepens root cell old between new dividers first bytes put deep zero tree trunks payload chain is free ready =
      let done = put zero tree trunks payload chain is free ready in
      absurd (interior-levels sizes between kind zero root done.home (bytes_in deep.cells) deep.right (done.put.opened.page ∙ is) deep.has.is_page done.put.own refl)
  interior-deepens root cell old between new dividers first bytes put deep (suc levels) tree trunks payload chain is free ready =
      root-deepens (suc levels) root cell old between new dividers first bytes (put (suc levels)) deep tree trunks payload chain is free ready
