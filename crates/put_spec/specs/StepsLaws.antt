-- What is done page by page makes a put: crates above cite these facts in their proofs.
use Rattle.std.proofs.Common.{◌≡◌, ℕ, zero, suc, ◌-◌, ◌≤◌, List, [], ◌∷◌, length, map, set, slice_index_or, inl, inr, refl, sym, ap, ◌∙◌, subst, arith}
use Rattle.std.proofs.Math.Path.{subst⁻¹}
use Rattle.std.specs.List.{insert}
use Rattle.page_spec.specs.Freelists.{Trunk}
use Rattle.tree_spec.specs.declared.TreeKind.{TreeKind}
use Rattle.tree_spec.specs.declared.TreeKind.TheVariants.{Table, Index}
use Rattle.tree_spec.specs.Trees.{TreeOf, member, between, leaf_kind, interior_kind, page_of, list_beside}
use Rattle.tree_spec.specs.Standing.{Sizes, Paged}
use Rattle.tree_spec.specs.OneTreeLaws.{leaf-levels, interior-levels}
use Rattle.tree_spec.specs.Worlds.{IsFree}
use Rattle.put_spec.specs.ImagesLaws.{length-of}
use Rattle.put_spec.specs.Children.{Belongs, Meets, views_of}
use Rattle.put_spec.specs.Puts.{Before, leaf_after, IsReady}
use Rattle.put_spec.specs.LeavesLaws.{belongs-within, leaf-inserted, leaf-met}
use Rattle.put_spec.specs.Steps.{Spelled, spelled, bytes_in, views_in, HasCells, child_page, with_dividers, before_at, IsSettled, IsRooted, PutBelow, PutUnder, PutInto, IsLeafEdit}
use Rattle.put_spec.specs.SpelledLaws.{views-of, page-tells}
use Rattle.put_spec.specs.SettledLaws.{HasOpened, opened-settled, opened-rooted}
use Rattle.put_spec.specs.ParentsLaws.{interior-opened, interior-untouched, root-step, none-suc}

-- A leaf.

pub insert-map : {A B : Type 0} (f : A → B) (xs : List A) (i : ℕ) (x : A) → i ≤ length xs → insert (map f xs) i (f x) ≡ map f (insert xs i x)
insert-map f xs zero x within = refl
insert-map f [] (suc i) x within = absurd (omega arith)
insert-map f (y ∷ ys) (suc i) x within = ap (λ l. f y ∷ l) (insert-map f ys i x (omega arith))

pub set-map : {A B : Type 0} (f : A → B) (xs : List A) (i : ℕ) (x : A) → set (map f xs) i (f x) ≡ map f (set xs i x)
set-map f [] i x = refl
set-map f (y ∷ ys) zero x = refl
set-map f (y ∷ ys) (suc i) x = ap (λ l. f y ∷ l) (set-map f ys i x)

pub index-map : {A B : Type 0} (f : A → B) (xs : List A) (i : ℕ) (d : A) → slice_index_or (map f xs) i (f d) ≡ f (slice_index_or xs i d)
index-map f [] i d = refl
index-map f (y ∷ ys) zero d = refl
index-map f (y ∷ ys) (suc i) d = index-map f ys i d

-- A cell put among the cells of a leaf of an index leaves the leaf, which is to have them.
pub entry-opens : (sizes : Sizes) (before : Before zero) (page : ℕ) (cells : List Spelled) (right at : ℕ) → HasCells sizes before.base (leaf_kind Index) page cells right → at ≤ length cells → page_of zero before.tree ≡ page
    → IsFree sizes before.base before.trunks → IsReady sizes Index zero before
    → (o : HasOpened sizes Index zero before (insert cells at (spelled before.cell)) 0 0 0 before.base) × (list_beside Index zero o.after.siblings o.after.home ≡ map member (insert before.tree.cells at before.cell))
entry-opens sizes before page cells right at has within is free ready =
    let tree = before.tree in
    let told = page-tells sizes before.base Index zero page tree cells right is has ready.stands in
    let few : at ≤ length tree.cells = omega (arith, within, ap length told.0, length-of spelled tree.cells) in (
      record {
        after = leaf_after before (insert tree.cells at before.cell) 0 0 [];
        base_is = refl;
        first_is = refl;
        bytes_is = refl;
        free = free;
        opened = leaf-inserted sizes Index before at ready few (λ table. absurd (let h : ⊥ = cc in h));
        none = refl;
        cells_are = ap (λ (cs : List Spelled). insert cs at (spelled before.cell)) told.0 ∙ insert-map spelled tree.cells at before.cell few;
        right_is = refl;
      },
      refl,
    )

entry-opened : (sizes : Sizes) (page : ℕ) (cell : Spelled) (old : Paged) (cells : List Spelled) (right at : ℕ) (tree : TreeOf zero) (trunks : List Trunk) (payload chain : List ℕ)
    → HasCells sizes old (leaf_kind Index) page cells right → at ≤ length cells → page_of zero tree ≡ page → IsFree sizes old trunks
    → IsReady sizes Index zero (before_at old tree trunks cell payload chain) → HasOpened sizes Index zero (before_at old tree trunks cell payload chain) (insert cells at cell) 0 0 0 old
entry-opened sizes page cell old cells right at tree trunks payload chain has within is free ready =
    (entry-opens sizes (before_at old tree trunks cell payload chain) page cells right at has within is free ready).0

-- A cell put among the cells of an index's leaf, which are then settled.
pub entry-step : (sizes : Sizes) (page : ℕ) (cell : Spelled) (old : Paged) (cells : List Spelled) (right at : ℕ) (new : Paged) (dividers : List Spelled) → HasCells sizes old (leaf_kind Index) page cells right
    → at ≤ length cells → IsSettled sizes zero Index page 0 (insert cells at cell) old new dividers → PutBelow sizes Index zero page cell old new dividers 0 0
entry-step sizes page cell old cells right at new dividers has within settle tree trunks payload chain is free ready =
    (opened-settled sizes Index zero page (before_at old tree trunks cell payload chain) (insert cells at cell) 0 0 0 old new dividers is
    (entry-opened sizes page cell old cells right at tree trunks payload chain has within is free ready) settle).0

-- A cell put among the cells of a leaf of a table, or in place of the one of its rowid, leaves the leaf, which is to have them.
leaf-opened : (sizes : Sizes) (page : ℕ) (cell : Spelled) (old : Paged) (cells : List Spelled) (right : ℕ) (edited : List Spelled) (first bytes : ℕ) (tree : TreeOf zero) (trunks : List Trunk) (payload chain : List ℕ)
    → HasCells sizes old (leaf_kind Table) page cells right → IsLeafEdit cells cell edited first bytes → page_of zero tree ≡ page → IsFree sizes old trunks
    → IsReady sizes Table zero (before_at old tree trunks cell payload chain) → HasOpened sizes Table zero (before_at old tree trunks cell payload chain) edited 0 first bytes old
leaf-opened sizes page cell old cells right edited first bytes tree trunks payload chain has edit is free ready =
    let before : Before zero = before_at old tree trunks cell payload chain in
    let at = edit.place in
    let told = page-tells sizes old Table zero page tree cells right is has ready.stands in
    let views : views_in cells ≡ views_of tree.cells = ap views_in told.0 ∙ views-of tree.cells in
    let here = subst (Belongs cell.view.rowid at) views edit.here in
    let few = belongs-within cell.view.rowid at tree.cells here in
    elim edit.is as (λ _. HasOpened sizes Table zero before edited 0 first bytes old) [
      | inl put ↦
          let apart = λ (meets : Meets cell.view.rowid at (views_of tree.cells)). put.0 (subst⁻¹ (Meets cell.view.rowid at) views meets) in
          record {
            after = leaf_after before (insert tree.cells at before.cell) 0 0 [];
            base_is = refl;
            first_is = sym put.2;
            bytes_is = sym put.3;
            free = free;
            opened = leaf-inserted sizes Table before at ready few (λ table. (here, apart));
            none = refl;
            cells_are = put.1 ∙ ap (λ (cs : List Spelled). insert cs at cell) told.0 ∙ insert-map spelled tree.cells at before.cell few;
            right_is = refl;
          }
      | inr put ↦
          let meets = subst (Meets cell.view.rowid at) views put.0 in
          let was = slice_index_or tree.cells at before.cell in
          let same : slice_index_or cells at cell ≡ spelled was = ap (λ (cs : List Spelled). slice_index_or cs at cell) told.0 ∙ index-map spelled tree.cells at before.cell in
          record {
            after = leaf_after before (set tree.cells at before.cell) was.view.overflow (was.view.payload - was.view.local) was.chain;
            base_is = refl;
            first_is = sym (put.2 ∙ ap (λ (c : Spelled). c.view.overflow) same);
            bytes_is = sym (put.3 ∙ ap (λ (c : Spelled). c.view.payload - c.view.local) same);
            free = free;
            opened = leaf-met sizes before at ready meets;
            none = refl;
            cells_are = put.1 ∙ ap (λ (cs : List Spelled). set cs at cell) told.0 ∙ set-map spelled tree.cells at before.cell;
            right_is = refl;
          }
    ]

-- The leaf is settled then.
pub leaf-step : (sizes : Sizes) (page : ℕ) (cell : Spelled) (old : Paged) (cells : List Spelled) (right : ℕ) (edited : List Spelled) (first bytes : ℕ) (new : Paged) (dividers : List Spelled)
    → HasCells sizes old (leaf_kind Table) page cells right → IsLeafEdit cells cell edited first bytes → IsSettled sizes zero Table page 0 edited old new dividers
    → PutBelow sizes Table zero page cell old new dividers first bytes
leaf-step sizes page cell old cells right edited first bytes new dividers has edit settle tree trunks payload chain is free ready =
    (opened-settled sizes Table zero page (before_at old tree trunks cell payload chain) edited 0 first bytes old new dividers is
    (leaf-opened sizes page cell old cells right edited first bytes tree trunks payload chain has edit is free ready) settle).0

-- A root, whatever levels its tree has.

-- a root that is a leaf has the cell where it keeps the cells that it is to have, or they are moved out
pub leaf-rooted : (sizes : Sizes) (root : ℕ) (cell : Spelled) (old : Paged) (cells : List Spelled) (right : ℕ) (edited : List Spelled) (first bytes : ℕ) (new : Paged)
    → HasCells sizes old (leaf_kind Table) root cells right → IsLeafEdit cells cell edited first bytes → IsRooted sizes zero Table root 0 edited old new → PutInto sizes Table root cell old new first bytes
leaf-rooted sizes root cell old cells right edited first bytes new has edit rooted zero tree trunks payload chain is free ready =
    (opened-rooted sizes Table zero root (before_at old tree trunks cell payload chain) edited 0 first bytes old new is
    (leaf-opened sizes root cell old cells right edited first bytes tree trunks payload chain has edit is free ready) rooted).0
leaf-rooted sizes root cell old cells right edited first bytes new has edit rooted (suc levels) tree trunks payload chain is free ready =
    absurd (none-suc sizes Table levels (leaf-levels sizes old Table (suc levels) root tree (bytes_in cells) right is has.is_page ready.stands.0))

-- and one that is interior, where the child at the place of the cell has it
pub interior-rooted : (sizes : Sizes) (kind : TreeKind) (root : ℕ) (cell : Spelled) (old : Paged) (cells : List Spelled) (right at : ℕ) (between : Paged) (grew : List Spelled) (first bytes : ℕ) (new : Paged)
    → HasCells sizes old (interior_kind kind) root cells right → at ≤ length cells → (kind ≡ Table → Belongs cell.view.rowid at (views_in cells))
    → PutUnder sizes kind (child_page at cells right) cell old between grew first bytes
    → ((levels : ℕ) → IsRooted sizes (suc levels) kind root right (with_dividers cells at grew) between new) → PutInto sizes kind root cell old new first bytes
interior-rooted sizes kind root cell old cells right at between grew first bytes new has within here put rooted zero tree trunks payload chain is free ready =
    absurd (interior-levels sizes old kind zero root tree (bytes_in cells) right is has.is_page ready.stands.0 refl)
interior-rooted sizes kind root cell old cells right at between grew first bytes new has within here put rooted (suc levels) tree trunks payload chain is free ready =
    (opened-rooted sizes kind (suc levels) root (before_at old tree trunks cell payload chain) (with_dividers cells at grew) right first bytes between new is
    (interior-opened sizes kind levels root cell old cells right at between grew first bytes tree trunks payload chain has within here (put levels) is free ready) (rooted levels)).0

-- or it stays as it is, where no divider came
pub interior-stays : (sizes : Sizes) (kind : TreeKind) (root : ℕ) (cell : Spelled) (old : Paged) (cells : List Spelled) (right at : ℕ) (new : Paged) (first bytes : ℕ)
    → HasCells sizes old (interior_kind kind) root cells right → (kind ≡ Table → Belongs cell.view.rowid at (views_in cells))
    → PutUnder sizes kind (child_page at cells right) cell old new [] first bytes → PutInto sizes kind root cell old new first bytes
interior-stays sizes kind root cell old cells right at new first bytes has here put zero tree trunks payload chain is free ready =
    absurd (interior-levels sizes old kind zero root tree (bytes_in cells) right is has.is_page ready.stands.0 refl)
interior-stays sizes kind root cell old cells right at new first bytes has here put (suc levels) tree trunks payload chain is free ready =
    root-step sizes kind (suc levels) root cell old new first bytes (interior-untouched sizes kind levels root cell old cells right at new first bytes has here (put levels)) tree trunks payload chain is free ready
