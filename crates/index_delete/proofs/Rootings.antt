-- What is left of a root once a child of it is left in some way, or a cell of it goes.
use Rattle.std.proofs.Common.{◌≡◌, ◌≢◌, ℕ, suc, ◌+◌, ◌<◌, ◌≤◌, true, false, List, [], length, inl, inr, refl, sym, ap, ◌∙◌, subst, arith}
use Rattle.std.proofs.Math.Path.{subst⁻¹}
use Rattle.std.specs.List.{All}
use Rattle.format_spec.specs.declared.PageKind.{PageKind}
use Rattle.format_spec.specs.declared.PageKind.TheVariants.{IndexInterior, IndexLeaf}
use Rattle.format_spec.specs.Page.{IsPage}
use Rattle.page_spec.specs.Rooms.{IsOneCell, right_kept}
use Rattle.tree_spec.specs.declared.TreeKind.TheVariants.{Index}
use Rattle.tree_spec.specs.Standing.{Sizes, Paged}
use Rattle.put_spec.specs.Steps.{Spelled, bytes_in, HasCells, IsRooted, Releases, child_page}
use Rattle.index_delete_spec.specs.Steps.{DeleteInto, EmptiesPage, GrowsUnder, IsOfIndex, OpensUnder}
use Rattle.index_delete_spec.specs.UnderLaws.{only-under, root-stays-under, rooted-under, takes-under}
use Rattle.tree_walk.specs.declared.page.TreePage.{TreePage}
use Rattle.tree_walk.specs.Pages.{IsDecoded}
use Rattle.tree_level.specs.declared.cells.Change.{Change}
use Rattle.tree_level.specs.Changes.{ChangesRoot, HasSpelled, MovesTo, WritesChange, behind}
use Rattle.tree_level.specs.ChangesLaws.{changed-map, right-kept_of, spelled-read}
use Rattle.tree_level.specs.Levels.{AreSpelled, WritesNode}
use Rattle.index_cells.specs.declared.cells.Taken.{Taken}
use Rattle.index_cells.specs.Respelling.{IsCellAt, cell_of}
use Rattle.index_delete.specs.declared.levels.Left.{Left}
use Rattle.index_delete.specs.declared.levels.Left.TheVariants.{Cells, NoCell}
use Rattle.index_delete.specs.Deletes.{IsChildAt, IsStill, Leaves, Opens}
use Rattle.index_delete.proofs.Closings.{coming, coming_are, keeps, leaf-opens, leaf_has, kept, opened, opened-many, opens-page, page_cells, page_has, page_read, cells_many, some-kept}
use Rattle.index_delete.proofs.Readings.{has-cells, none-long}

module _ (sizes : Sizes) (page : TreePage) (decoded : IsDecoded page.bytes page.number sizes.usable page) (old : Paged) (there : old.pages page.number ≡ page.bytes) where
  module _ (kind : page.kind ≡ IndexInterior) (row : Taken) where
    abbrev cells : List Spelled
    cells = page_cells sizes page decoded old there

    has : HasCells sizes old IndexInterior page.number cells page.right
    has = page_has sizes page decoded old there kind

    read : HasSpelled sizes.usable page cells
    read = page_read sizes page decoded old there

    many : length page.views ≡ length cells
    many = cells_many sizes page decoded old there

    -- no divider came from the child
    pub still-rooted : (at child : ℕ) → IsChildAt page at child → (page.number ≢ 1 → 0 < length page.views) → (mid : Paged) (below : Left) → IsStill below → Leaves sizes false row child below old mid
        → DeleteInto sizes (cell_of row) page.number old mid
    still-rooted at child named some mid (Cells dividers) still leaves =
        let none_are : AreSpelled IndexInterior sizes.usable [] dividers.items = subst⁻¹ (AreSpelled IndexInterior sizes.usable []) still (record { bytes_are = refl; are_cells = tt }) in
        let below = subst (λ (p : ℕ). GrowsUnder sizes false (cell_of row) p old mid []) (named sizes.usable cells read) (leaves [] none_are) in
        root-stays-under sizes (cell_of row) page.number old cells page.right at mid has (λ other. omega (arith, some other, many)) below
    still-rooted at child named some mid (NoCell emptied) still leaves = absurd still

    module _ (change : Change) (bytes : List (List ℕ)) (mid : Paged) (within : behind change.at change.goes ≤ length page.views) (all : All (IsOneCell IndexInterior sizes.usable) bytes)
        (opens : Opens sizes false row page change bytes old mid) where
      abbrev its_opened : List Spelled
      its_opened = opened sizes page decoded old there kind false row change bytes mid within all opens

      opens-root : OpensUnder sizes false (cell_of row) page.number its_opened change.right old mid
      opens-root = opens-page sizes page decoded old there kind false row change bytes mid within all opens

      opens-many : length its_opened + behind 0 change.goes ≡ length page.views + length bytes
      opens-many = opened-many sizes page decoded old there kind false row change bytes mid within all opens

      -- a root that would have no cell takes what its only child has
      pub takes-child : bytes ≡ [] → length page.views ≡ behind 0 change.goes → (child : TreePage) → child.number ≡ change.right → IsDecoded child.bytes child.number sizes.usable child → mid.pages child.number ≡ child.bytes
          → IsOfIndex child.kind → (written new : Paged) → MovesTo sizes child page.number true mid written → Releases sizes change.right written new → DeleteInto sizes (cell_of row) page.number old new
      takes-child none few child number_is child_read child_there of written new moves gives =
          let its = spelled-read sizes.usable child child_read in
          let its_has : HasCells sizes mid child.kind change.right its.0 child.right =
          subst (λ (p : ℕ). HasCells sizes mid child.kind p its.0 child.right) number_is (has-cells sizes child mid child_there child.kind refl its.0 its.1) in
          let w : WritesNode sizes (record { number = page.number; kind = child.kind; right = child.right }) (bytes_in its.0) mid written = moves its.0 its.1 in
          let same = right-kept_of child.bytes child.number sizes.usable child.kind (bytes_in its.0) child.right its.1.is_page in
          let its_page = subst (λ (r : ℕ). IsPage (written.pages page.number) page.number sizes.usable child.kind (bytes_in its.0) r) same w.is_page in
          let empty = subst (λ (l : List Spelled). OpensUnder sizes false (cell_of row) page.number l change.right old mid) (none-long its_opened (omega (arith, opens-many, few, ap length none))) opens-root in
          takes-under sizes (cell_of row) child.kind page.number old cells page.right change.right mid its.0 child.right written new of has empty its_has w.writes its_page gives

      -- the page of a root is settled, or its cells are moved out; page 1 may have none
      rooted-as : (page.number ≢ 1 → 0 < length its_opened) → (new : Paged) → ChangesRoot sizes page change bytes mid new → DeleteInto sizes (cell_of row) page.number old new
      rooted-as some new changes =
          rooted-under sizes (cell_of row) IndexInterior page.number old cells page.right its_opened change.right mid new (inr refl) has opens-root (λ inner. some)
          (λ levels level_kind.
          subst (λ (r : ℕ). IsRooted sizes levels Index page.number r its_opened mid new) (keeps sizes page decoded old there kind change.right)
          (changes levels Index cells (coming sizes page decoded old there kind false row change bytes mid within all opens) (level_kind ∙ sym kind) read
          (coming_are sizes page decoded old there kind false row change bytes mid within all opens)))

      pub rooted-closes : ¬ ((length bytes ≡ 0) × (length page.views ≡ behind 0 change.goes)) → (new : Paged) → ChangesRoot sizes page change bytes mid new → DeleteInto sizes (cell_of row) page.number old new
      rooted-closes some new changes =
          rooted-as (λ other. some-kept change.goes change.at (length page.views) (length bytes) (length its_opened) within opens-many some) new changes

      pub first-closes : page.number ≡ 1 → (new : Paged) → ChangesRoot sizes page change bytes mid new → DeleteInto sizes (cell_of row) page.number old new
      first-closes is new changes = rooted-as (λ other. absurd (other is)) new changes

    -- page 1 has no cell, and its only child has none any more
    pub first-emptied : page.number ≡ 1 → length page.views ≡ 0 → (child : ℕ) → IsChildAt page 0 child → (mid written new : Paged) → Releases sizes child written new → (page_kind : PageKind) → IsOfIndex page_kind → (only : ℕ)
        → (page_kind ≡ IndexLeaf → only ≡ 0) → EmptiesPage sizes false (cell_of row) page_kind child only old mid → WritesNode sizes (record { number = page.number; kind = page_kind; right = only }) [] mid written
        → DeleteInto sizes (cell_of row) page.number old new
    first-emptied first alone child named mid written new gives page_kind of only no_right emptied writes =
        let no_cells = none-long cells (omega (arith, alone, many)) in
        let first_has : HasCells sizes old IndexInterior 1 [] page.right =
        subst (λ (p : ℕ). HasCells sizes old IndexInterior p [] page.right) first (subst (λ (l : List Spelled). HasCells sizes old IndexInterior page.number l page.right) no_cells has) in
        let is_right : child ≡ page.right = named sizes.usable cells read ∙ ap (λ (l : List Spelled). child_page 0 l page.right) no_cells in
        let w = subst (λ (p : ℕ). WritesNode sizes (record { number = p; kind = page_kind; right = only }) [] mid written) first writes in
        let right_is : right_kept page_kind only ≡ only = by page_kind of no_right in
        subst⁻¹ (λ (p : ℕ). DeleteInto sizes (cell_of row) p old new) first
        (only-under sizes (cell_of row) page_kind old page.right only mid written new of first_has (subst (λ (p : ℕ). EmptiesPage sizes false (cell_of row) page_kind p only old mid) is_right emptied) w.writes
        (subst (λ (r : ℕ). IsPage (written.pages 1) 1 sizes.usable page_kind [] r) right_is w.is_page) (subst (λ (p : ℕ). Releases sizes p written new) is_right gives))
      where
        by : (k : PageKind) → IsOfIndex k → (k ≡ IndexLeaf → only ≡ 0) → right_kept k only ≡ only
        by k (inl leaf) zero_is = ap (λ (q : PageKind). right_kept q only) leaf ∙ sym (zero_is leaf)
        by k (inr inner) zero_is = ap (λ (q : PageKind). right_kept q only) inner

  -- a leaf loses a cell
  pub leaf-rooted : (kind : page.kind ≡ IndexLeaf) (row : Taken) (at : ℕ) → at < length page.views → IsCellAt page at row → (right : ℕ) (new : Paged) → WritesChange sizes page (record { at = at; goes = true; right = right }) [] old new
      → DeleteInto sizes (cell_of row) page.number old new
  leaf-rooted kind row at low is_row right new writes =
      let last_goes : false ≡ true → suc at ≡ length page.views = λ e. absurd (let h : ⊥ = cc in h) in
      let its = page_cells sizes page decoded old there in
      let its_kept = kept sizes page decoded old there kind false row at low is_row last_goes in
      let w = writes its (page_read sizes page decoded old there) in
      let kept_page : IsPage (new.pages page.number) page.number sizes.usable IndexLeaf (bytes_in its_kept) 0 =
      subst (λ (r : ℕ). IsPage (new.pages page.number) page.number sizes.usable IndexLeaf (bytes_in its_kept) r) (ap (λ (k : PageKind). right_kept k right) kind)
      (subst (λ (k : PageKind). IsPage (new.pages page.number) page.number sizes.usable k (bytes_in its_kept) (right_kept page.kind right)) kind
      (subst⁻¹ (λ (l : List (List ℕ)). IsPage (new.pages page.number) page.number sizes.usable page.kind l (right_kept page.kind right)) (changed-map (λ (c : Spelled). c.bytes) its at true []) w.is_page)) in
      rooted-under sizes (cell_of row) IndexLeaf page.number old its page.right its_kept 0 old new (inl refl) (leaf_has sizes page decoded old there kind false row at low is_row last_goes)
      (leaf-opens sizes page decoded old there kind false row at low is_row last_goes) (λ inner. absurd (let h : ⊥ = cc in h))
      (λ levels level_kind. inl (w.writes, subst⁻¹ (λ (k : PageKind). IsPage (new.pages page.number) page.number sizes.usable k (bytes_in its_kept) 0) level_kind kept_page))
