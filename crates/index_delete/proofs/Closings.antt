-- What is left of a page once a child of it is left in some way, or a cell of it goes.
use Rattle.std.proofs.Common.{◌≡◌, ℕ, suc, ◌+◌, ◌<◌, ◌≤◌, Bool, true, false, List, [], length, take, drop, inl, inr, refl, sym, ap, ◌∙◌, subst, arith}
use Rattle.std.proofs.Math.Path.{subst⁻¹}
use Rattle.std.proofs.lemmas.Bool.{cases_lt}
use Rattle.std.proofs.lemmas.List.{drop_all}
use Rattle.std.specs.List.{All}
use Rattle.format_spec.specs.declared.PageKind.{PageKind}
use Rattle.format_spec.specs.declared.PageKind.TheVariants.{IndexInterior, IndexLeaf}
use Rattle.format_spec.specs.Page.{IsPage}
use Rattle.format_spec.specs.Sizes.{IsUsable}
use Rattle.page_spec.specs.Rooms.{IsOneCell, free_bytes, needs, right_kept}
use Rattle.page_spec.specs.RoomsLaws.{rooms-fit}
use Rattle.tree_spec.specs.declared.TreeKind.TheVariants.{Index}
use Rattle.tree_spec.specs.Standing.{Sizes, Paged}
use Rattle.put_spec.specs.ImagesLaws.{length-of}
use Rattle.put_spec.specs.Steps.{Spelled, bytes_in, HasCells, IsSettled}
use Rattle.index_delete_spec.specs.Steps.{EmptiesPage, GrowsUnder, OpensUnder}
use Rattle.index_delete_spec.specs.UnderLaws.{leaf-opens-under, settled-under, stays-under}
use Rattle.tree_walk.specs.declared.page.TreePage.{TreePage}
use Rattle.tree_walk.specs.Pages.{IsDecoded}
use Rattle.tree_level.specs.declared.cells.Change.{Change}
use Rattle.tree_level.specs.Changes.{Changes, HasSpelled, WritesChange, behind, bytes_changed, changed}
use Rattle.tree_level.specs.ChangesLaws.{changed-map, needs-changed_most, right-kept_of, spelled-read}
use Rattle.tree_level.specs.Levels.{AreSpelled}
use Rattle.index_cells.specs.declared.cells.Taken.{Taken}
use Rattle.index_cells.specs.Respelling.{IsCellAt, cell_of}
use Rattle.index_delete.specs.declared.levels.Left.{Left}
use Rattle.index_delete.specs.declared.levels.Left.TheVariants.{Cells, NoCell}
use Rattle.index_delete.specs.Deletes.{IsChildAt, IsStill, Leaves, Opens}
use Rattle.index_delete.proofs.Readings.{cell-middle, changed-many, has-cells, middle, none-long, none-spelled, same-spelled, spelled-all, views-many}

-- some cell is left where not all go
pub some-kept : (goes : Bool) (at views comes kept : ℕ) → behind at goes ≤ views → kept + behind 0 goes ≡ views + comes → ¬ ((comes ≡ 0) × (views ≡ behind 0 goes)) → 0 < kept
some-kept true at views comes kept within many some = elim (cases_lt 0 kept) [
  | inl more ↦ more
  | inr none ↦ absurd (some (omega (arith, within, many, none), omega (arith, within, many, none)))
]
some-kept false at views comes kept within many some = elim (cases_lt 0 kept) [
  | inl more ↦ more
  | inr none ↦ absurd (some (omega (arith, within, many, none), omega (arith, within, many, none)))
]

-- a page of a leaf has no right child
pub leaf-right : (usable : ℕ) (page : TreePage) → IsDecoded page.bytes page.number usable page → page.kind ≡ IndexLeaf → page.right ≡ 0
leaf-right usable page decoded leaf =
    let read = spelled-read usable page decoded in
    sym (right-kept_of page.bytes page.number usable page.kind (bytes_in read.0) page.right read.1.is_page) ∙ ap (λ (k : PageKind). right_kept k page.right) leaf

-- a page has room for its cells without one
room-without : (usable : ℕ) (page : TreePage) (change : Change) → IsUsable usable → (cells : List Spelled) → HasSpelled usable page cells
    → needs (bytes_changed cells change []) ≤ free_bytes page.number usable page.kind []
room-without usable page change fits cells has =
    omega (arith, needs-changed_most (bytes_in cells) change.at change.goes [], rooms-fit page.bytes page.number usable page.kind (bytes_in cells) page.right fits has.is_page)

pub room-of : (usable : ℕ) (page : TreePage) (change : Change) (comes : List (List ℕ)) → comes ≡ [] → IsUsable usable → (cells : List Spelled) → HasSpelled usable page cells
    → needs (bytes_changed cells change comes) ≤ free_bytes page.number usable page.kind []
room-of usable page change comes none fits cells has =
    subst⁻¹ (λ (l : List (List ℕ)). needs (bytes_changed cells change l) ≤ free_bytes page.number usable page.kind []) none (room-without usable page change fits cells has)

module _ (sizes : Sizes) (page : TreePage) (decoded : IsDecoded page.bytes page.number sizes.usable page) (old : Paged) (there : old.pages page.number ≡ page.bytes) where
  abbrev pub page_cells : List Spelled
  page_cells = (spelled-read sizes.usable page decoded).0

  pub page_read : HasSpelled sizes.usable page page_cells
  page_read = (spelled-read sizes.usable page decoded).1

  pub cells_many : length page.views ≡ length page_cells
  cells_many = views-many sizes.usable page page_cells page_read

  -- Interior pages.
  module _ (kind : page.kind ≡ IndexInterior) where
    pub page_has : HasCells sizes old IndexInterior page.number page_cells page.right
    page_has = has-cells sizes page old there IndexInterior kind page_cells page_read

    pub keeps : (right : ℕ) → right_kept page.kind right ≡ right
    keeps right = ap (λ (k : PageKind). right_kept k right) kind

    module _ (ends : Bool) (row : Taken) where
      -- no divider came from the child
      pub still-left : (at child : ℕ) → IsChildAt page at child → 0 < length page.views → (ends ≡ true → at ≡ length page.views) → (mid : Paged) (below : Left) → IsStill below → Leaves sizes ends row child below old mid
          → Leaves sizes ends row page.number below old mid
      still-left at child named some last_goes mid (Cells dividers) still leaves = λ up are.
          let none_are : AreSpelled IndexInterior sizes.usable [] dividers.items = subst⁻¹ (AreSpelled IndexInterior sizes.usable []) still (record { bytes_are = refl; are_cells = tt }) in
          let below = subst (λ (p : ℕ). GrowsUnder sizes ends (cell_of row) p old mid []) (named sizes.usable page_cells page_read) (leaves [] none_are) in
          let none = none-spelled IndexInterior sizes.usable up (subst (λ (l : List (List ℕ)). AreSpelled IndexInterior sizes.usable up l) still are) in
          subst⁻¹ (λ (l : List Spelled). GrowsUnder sizes ends (cell_of row) page.number old mid l) none
          (stays-under sizes ends (cell_of row) page.number old page_cells page.right at mid page_has (omega (arith, some, cells_many)) (λ e. omega (arith, last_goes e, cells_many)) below)
      still-left at child named some last_goes mid (NoCell emptied) still leaves = absurd still

      module _ (change : Change) (bytes : List (List ℕ)) (mid : Paged) (within : behind change.at change.goes ≤ length page.views) (all : All (IsOneCell IndexInterior sizes.usable) bytes)
          (opens : Opens sizes ends row page change bytes old mid) where
        abbrev pub coming : List Spelled
        coming = (spelled-all IndexInterior sizes.usable bytes all).0

        pub coming_are : AreSpelled page.kind sizes.usable coming bytes
        coming_are = subst⁻¹ (λ (k : PageKind). AreSpelled k sizes.usable coming bytes) kind (spelled-all IndexInterior sizes.usable bytes all).1

        abbrev pub opened : List Spelled
        opened = changed page_cells change.at change.goes coming

        pub opens-page : OpensUnder sizes ends (cell_of row) page.number opened change.right old mid
        opens-page = subst (λ (r : ℕ). OpensUnder sizes ends (cell_of row) page.number opened r old mid) (keeps change.right) (opens page_cells coming page_read coming_are)

        pub opened-many : length opened + behind 0 change.goes ≡ length page.views + length bytes
        opened-many =
            omega (
              arith,
              changed-many page_cells change.at change.goes coming (omega (arith, within, cells_many)),
              cells_many,
              length-of (λ (c : Spelled). c.bytes) coming,
              ap length coming_are.bytes_are,
            )

        -- the page would have no cell
        pub emptied-closes : bytes ≡ [] → length page.views ≡ behind 0 change.goes → EmptiesPage sizes ends (cell_of row) IndexInterior page.number change.right old mid
        emptied-closes none few = record {
          cells = page_cells;
          right = page.right;
          has = page_has;
          empties = subst (λ (l : List Spelled). OpensUnder sizes ends (cell_of row) page.number l change.right old mid) (none-long opened (omega (arith, opened-many, few, ap length none))) opens-page;
        }

        -- the page is settled
        pub settled-closes : ¬ ((length bytes ≡ 0) × (length page.views ≡ behind 0 change.goes)) → (dividers : List (List ℕ)) (new : Paged) → Changes sizes page change bytes dividers mid new
            → (up : List Spelled) → AreSpelled IndexInterior sizes.usable up dividers → GrowsUnder sizes ends (cell_of row) page.number old new up
        settled-closes some dividers new changes up are =
            settled-under sizes ends (cell_of row) IndexInterior page.number old page_cells page.right opened change.right mid new up (inr refl) page_has opens-page
            (some-kept change.goes change.at (length page.views) (length bytes) (length opened) within opened-many some)
            (λ levels level_kind.
            let s = changes levels Index page_cells coming (level_kind ∙ sym kind) page_read coming_are in
            subst (λ (l : List Spelled). IsSettled sizes levels Index page.number change.right opened mid new l) (same-spelled IndexInterior sizes.usable s.up up dividers s.up_are are)
            (subst (λ (r : ℕ). IsSettled sizes levels Index page.number r opened mid new s.up) (keeps change.right) s.settled))

  -- Leaves.
  module _ (kind : page.kind ≡ IndexLeaf) (ends : Bool) (row : Taken) (at : ℕ) (low : at < length page.views) (is_row : IsCellAt page at row) (last_goes : ends ≡ true → suc at ≡ length page.views) where
    pub leaf_has : HasCells sizes old IndexLeaf page.number page_cells page.right
    leaf_has = has-cells sizes page old there IndexLeaf kind page_cells page_read

    abbrev pub kept : List Spelled
    kept = changed page_cells at true []

    pub leaf-opens : OpensUnder sizes ends (cell_of row) page.number kept 0 old old
    leaf-opens =
        let m = middle page_cells at (omega (arith, low, cells_many)) in
        let opens = leaf-opens-under sizes ends page.number old page_cells page.right (take at page_cells) m.cell (drop (suc at) page_cells) leaf_has m.whole (λ e. drop_all (suc at) page_cells (omega (arith, last_goes e, cells_many))) in
        subst (λ (c : Spelled). OpensUnder sizes ends c page.number kept 0 old old) (cell-middle sizes.usable page page_cells page_read at row m is_row) opens

    kept-many : length kept + 1 ≡ length page.views
    kept-many =
        omega (arith, changed-many page_cells at true [] (omega (arith, low, cells_many)), cells_many)

    -- it has no other cell
    pub leaf-emptied : length page.views ≡ 1 → EmptiesPage sizes ends (cell_of row) IndexLeaf page.number 0 old old
    leaf-emptied one = record {
      cells = page_cells;
      right = page.right;
      has = leaf_has;
      empties = subst (λ (l : List Spelled). OpensUnder sizes ends (cell_of row) page.number l 0 old old) (none-long kept (omega (arith, kept-many, one))) leaf-opens;
    }

    -- it is written without the cell
    pub leaf-written : ¬ (length page.views ≡ 1) → (right : ℕ) (new : Paged) → WritesChange sizes page (record { at = at; goes = true; right = right }) [] old new
        → (up : List Spelled) → AreSpelled IndexInterior sizes.usable up [] → GrowsUnder sizes ends (cell_of row) page.number old new up
    leaf-written more right new writes up are =
        let w = writes page_cells page_read in
        let none = none-spelled IndexInterior sizes.usable up are in
        let kept_page : IsPage (new.pages page.number) page.number sizes.usable IndexLeaf (bytes_in kept) 0 =
        subst (λ (r : ℕ). IsPage (new.pages page.number) page.number sizes.usable IndexLeaf (bytes_in kept) r) (ap (λ (k : PageKind). right_kept k right) kind)
        (subst (λ (k : PageKind). IsPage (new.pages page.number) page.number sizes.usable k (bytes_in kept) (right_kept page.kind right)) kind
        (subst⁻¹ (λ (l : List (List ℕ)). IsPage (new.pages page.number) page.number sizes.usable page.kind l (right_kept page.kind right)) (changed-map (λ (c : Spelled). c.bytes) page_cells at true []) w.is_page)) in
        let filled : 0 < length kept = elim (cases_lt 0 (length kept)) [
          | inl some ↦ some
          | inr few ↦ absurd (more (omega (arith, kept-many, few, low)))
        ] in
        subst⁻¹ (λ (l : List Spelled). GrowsUnder sizes ends (cell_of row) page.number old new l) none
        (settled-under sizes ends (cell_of row) IndexLeaf page.number old page_cells page.right kept 0 old new [] (inl refl) leaf_has leaf-opens filled
        (λ levels level_kind. (w.writes, subst⁻¹ (λ (k : PageKind). IsPage (new.pages page.number) page.number sizes.usable k (bytes_in kept) 0) level_kind kept_page)))
