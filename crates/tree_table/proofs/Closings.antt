-- What is left of a page once a child of it is left in some way.
use Rattle.std.proofs.Common.{◌≡◌, ◌≢◌, ℕ, ℤ, suc, ◌+◌, ◌<◌, ◌≤◌, Bool, true, false, List, [], length, inl, inr, refl, sym, ap, ◌∙◌, subst, arith}
use Rattle.std.proofs.Math.Path.{subst⁻¹}
use Rattle.std.proofs.lemmas.Bool.{cases_lt}
use Rattle.std.specs.List.{All}
use Rattle.format_spec.specs.declared.PageKind.{PageKind}
use Rattle.format_spec.specs.declared.PageKind.TheVariants.{TableInterior, TableLeaf}
use Rattle.format_spec.specs.Page.{IsPage}
use Rattle.page_spec.specs.Rooms.{IsOneCell, right_kept}
use Rattle.tree_spec.specs.declared.TreeKind.TheVariants.{Table}
use Rattle.tree_spec.specs.Standing.{Sizes, Paged}
use Rattle.put_spec.specs.Children.{Belongs}
use Rattle.put_spec.specs.ImagesLaws.{length-of}
use Rattle.put_spec.specs.Steps.{Spelled, bytes_in, HasCells, IsRooted, IsSettled, Releases, child_page}
use Rattle.delete_spec.specs.Steps.{DeleteInto, EmptiesPage, GrowsUnder, MissingUnder, OpensUnder}
use Rattle.delete_spec.specs.UnderLaws.{interior-missing-under, only-interior-under, only-leaf-under, root-stays-under, rooted-under, settled-under, stays-under, takes-interior-under, takes-leaf-under}
use Rattle.tree_walk.specs.declared.page.TreePage.{TreePage}
use Rattle.tree_walk.specs.Pages.{IsDecoded}
use Rattle.tree_walk.specs.Places.{rowids}
use Rattle.tree_walk.specs.Seeks.{IsIndexOf}
use Rattle.tree_level.specs.declared.cells.Change.{Change}
use Rattle.tree_level.specs.Changes.{Changes, ChangesRoot, HasSpelled, MovesTo, behind, changed}
use Rattle.tree_level.specs.ChangesLaws.{right-kept_of, spelled-read}
use Rattle.tree_level.specs.Levels.{AreSpelled, WritesNode}
use Rattle.tree_table.specs.declared.taking.Taken.{Taken}
use Rattle.tree_table.specs.declared.taking.Left.{Left}
use Rattle.tree_table.specs.declared.taking.Left.TheVariants.{Cells, NoCell, OnlyChild}
use Rattle.tree_table.specs.Deletes.{IsChildAt, IsOfTable, IsStill, Leaves, LeavesRoot, Opens, gone_of}
use Rattle.tree_table.proofs.Edits.{index-belongs}
use Rattle.tree_table.proofs.Takings.{changed-many, none-long, none-spelled, views-many}
use Rattle.tree_table.proofs.Unders.{has-cells, same-spelled, spelled-all}

-- some cell is left where not all go
some-kept : (goes : Bool) (at views comes kept : ℕ) → behind at goes ≤ views → kept + behind 0 goes ≡ views + comes → ¬ ((comes ≡ 0) × (views ≡ behind 0 goes)) → 0 < kept
some-kept true at views comes kept within many some = elim (cases_lt 0 kept) [
  | inl more ↦ more
  | inr none ↦ absurd (some (omega (arith, within, many, none), omega (arith, within, many, none)))
]
some-kept false at views comes kept within many some = elim (cases_lt 0 kept) [
  | inl more ↦ more
  | inr none ↦ absurd (some (omega (arith, within, many, none), omega (arith, within, many, none)))
]

module _ (sizes : Sizes) (page : TreePage) (decoded : IsDecoded page.bytes page.number sizes.usable page) (kind : page.kind ≡ TableInterior) (old : Paged) (there : old.pages page.number ≡ page.bytes) where
  abbrev page_cells : List Spelled
  page_cells = (spelled-read sizes.usable page decoded).0

  page_read : HasSpelled sizes.usable page page_cells
  page_read = (spelled-read sizes.usable page decoded).1

  page_has : HasCells sizes old TableInterior page.number page_cells page.right
  page_has = has-cells sizes page old there decoded TableInterior kind page_cells page_read

  cells_many : length page.views ≡ length page_cells
  cells_many = views-many sizes.usable page page_cells page_read

  keeps : (right : ℕ) → right_kept page.kind right ≡ right
  keeps right = ap (λ (k : PageKind). right_kept k right) kind

  -- the child below which a rowid belongs has no row of it
  pub inner-missing : (rowid : ℤ) (at child : ℕ) → IsIndexOf rowid (rowids page.views) at → IsChildAt page at child → MissingUnder sizes child rowid old → MissingUnder sizes page.number rowid old
  inner-missing rowid at child index named missing =
      interior-missing-under sizes rowid page.number old page_cells page.right at page_has (subst⁻¹ (Belongs rowid at) page_read.views_are (index-belongs rowid page.views at index))
      (subst (λ (p : ℕ). MissingUnder sizes p rowid old) (named sizes.usable page_cells page_read) missing)

  module _ (rowid : ℤ) (row : Taken) where
    -- no divider came from the child
    module _ (at child : ℕ) (named : IsChildAt page at child) (mid : Paged)
        (grows : (up : List Spelled) → AreSpelled TableInterior sizes.usable up [] → GrowsUnder sizes (gone_of rowid row) child old mid up row.old.first row.old.bytes) where
      grows-there : GrowsUnder sizes (gone_of rowid row) (child_page at page_cells page.right) old mid [] row.old.first row.old.bytes
      grows-there =
          subst (λ (p : ℕ). GrowsUnder sizes (gone_of rowid row) p old mid [] row.old.first row.old.bytes) (named sizes.usable page_cells page_read) (grows [] (record { bytes_are = refl; are_cells = tt }))

      still-passes : 0 < length page.views → (up : List Spelled) → AreSpelled TableInterior sizes.usable up [] → GrowsUnder sizes (gone_of rowid row) page.number old mid up row.old.first row.old.bytes
      still-passes some up are =
          subst⁻¹ (λ (l : List Spelled). GrowsUnder sizes (gone_of rowid row) page.number old mid l row.old.first row.old.bytes) (none-spelled TableInterior sizes.usable up are)
          (stays-under sizes (gone_of rowid row) row.old.first row.old.bytes page.number old page_cells page.right at mid page_has (omega (arith, some, cells_many)) grows-there)

      still-root : (page.number ≢ 1 → 0 < length page.views) → DeleteInto sizes (gone_of rowid row) page.number old mid row.old.first row.old.bytes
      still-root some =
          root-stays-under sizes (gone_of rowid row) row.old.first row.old.bytes page.number old page_cells page.right at mid page_has
          (λ other. omega (arith, some other, cells_many)) grows-there

    pub still-left : (at child : ℕ) → IsChildAt page at child → 0 < length page.views → (mid : Paged) (below : Left) → IsStill below → Leaves sizes rowid row child below old mid → Leaves sizes rowid row page.number below old mid
    still-left at child named some mid (Cells dividers) still leaves = λ up are.
        still-passes at child named mid (λ none empty. leaves none (subst⁻¹ (λ (l : List (List ℕ)). AreSpelled TableInterior sizes.usable none l) still empty)) some up
        (subst (λ (l : List (List ℕ)). AreSpelled TableInterior sizes.usable up l) still are)
    still-left at child named some mid NoCell still leaves = absurd still
    still-left at child named some mid (OnlyChild only) still leaves = absurd still

    pub still-rooted : (at child : ℕ) → IsChildAt page at child → (page.number ≢ 1 → 0 < length page.views) → (mid : Paged) (below : Left) → IsStill below → Leaves sizes rowid row child below old mid
        → LeavesRoot sizes rowid row page.number old mid
    still-rooted at child named some mid (Cells dividers) still leaves =
        still-root at child named mid (λ none empty. leaves none (subst⁻¹ (λ (l : List (List ℕ)). AreSpelled TableInterior sizes.usable none l) still empty)) some
    still-rooted at child named some mid NoCell still leaves = absurd still
    still-rooted at child named some mid (OnlyChild only) still leaves = absurd still

    module _ (change : Change) (bytes : List (List ℕ)) (mid : Paged) (within : behind change.at change.goes ≤ length page.views) (all : All (IsOneCell TableInterior sizes.usable) bytes)
        (opens : Opens sizes rowid row page change bytes old mid) where
      abbrev coming : List Spelled
      coming = (spelled-all TableInterior sizes.usable bytes all).0

      coming_are : AreSpelled page.kind sizes.usable coming bytes
      coming_are = subst⁻¹ (λ (k : PageKind). AreSpelled k sizes.usable coming bytes) kind (spelled-all TableInterior sizes.usable bytes all).1

      abbrev opened : List Spelled
      opened = changed page_cells change.at change.goes coming

      opens-page : OpensUnder sizes (gone_of rowid row) page.number opened change.right old mid row.old.first row.old.bytes
      opens-page = subst (λ (r : ℕ). OpensUnder sizes (gone_of rowid row) page.number opened r old mid row.old.first row.old.bytes) (keeps change.right) (opens page_cells coming page_read coming_are)

      opened-many : length opened + behind 0 change.goes ≡ length page.views + length bytes
      opened-many =
          omega (
            arith,
            changed-many page_cells change.at change.goes coming (omega (arith, within, cells_many)),
            cells_many,
            length-of (λ (c : Spelled). c.bytes) coming,
            ap length coming_are.bytes_are,
          )

      -- the page would have no cell
      module _ (none : bytes ≡ []) (few : length page.views ≡ behind 0 change.goes) where
        opens-empty : OpensUnder sizes (gone_of rowid row) page.number [] change.right old mid row.old.first row.old.bytes
        opens-empty =
            subst (λ (l : List Spelled). OpensUnder sizes (gone_of rowid row) page.number l change.right old mid row.old.first row.old.bytes) (none-long opened (omega (arith, opened-many, few, ap length none))) opens-page

        pub emptied-closes : EmptiesPage sizes (gone_of rowid row) TableInterior page.number change.right old mid row.old.first row.old.bytes
        emptied-closes = record { cells = page_cells; right = page.right; has = page_has; empties = opens-empty }

        -- a root takes what its only child has
        module _ (child : TreePage) (number_is : child.number ≡ change.right) (child_read : IsDecoded child.bytes child.number sizes.usable child) (child_there : mid.pages child.number ≡ child.bytes) (written new : Paged)
            (moves : MovesTo sizes child page.number true mid written) (gives : Releases sizes change.right written new) where
          abbrev its_cells : List Spelled
          its_cells = (spelled-read sizes.usable child child_read).0

          its_read : HasSpelled sizes.usable child its_cells
          its_read = (spelled-read sizes.usable child child_read).1

          its_has : (k : PageKind) → child.kind ≡ k → HasCells sizes mid k change.right its_cells child.right
          its_has k is = subst (λ (p : ℕ). HasCells sizes mid k p its_cells child.right) number_is (has-cells sizes child mid child_there child_read k is its_cells its_read)

          w : WritesNode sizes (record { number = page.number; kind = child.kind; right = child.right }) (bytes_in its_cells) mid written
          w = moves its_cells its_read

          its_page : (k : PageKind) → child.kind ≡ k → IsPage (written.pages page.number) page.number sizes.usable k (bytes_in its_cells) child.right
          its_page k is =
              let same = right-kept_of child.bytes child.number sizes.usable child.kind (bytes_in its_cells) child.right its_read.is_page in
              subst (λ (p : PageKind). IsPage (written.pages page.number) page.number sizes.usable p (bytes_in its_cells) child.right) is
              (subst (λ (r : ℕ). IsPage (written.pages page.number) page.number sizes.usable child.kind (bytes_in its_cells) r) same w.is_page)

          pub takes-child : IsOfTable child.kind → DeleteInto sizes (gone_of rowid row) page.number old new row.old.first row.old.bytes
          takes-child (inl leaf) =
              takes-leaf-under sizes (gone_of rowid row) row.old.first row.old.bytes page.number old page_cells page.right change.right mid its_cells child.right written new page_has opens-empty (its_has TableLeaf leaf) w.writes
              (its_page TableLeaf leaf) gives
          takes-child (inr interior) =
              takes-interior-under sizes (gone_of rowid row) row.old.first row.old.bytes page.number old page_cells page.right change.right mid its_cells child.right written new page_has opens-empty
              (its_has TableInterior interior) w.writes (its_page TableInterior interior) gives

      -- the page is settled
      pub settled-closes : ¬ ((length bytes ≡ 0) × (length page.views ≡ behind 0 change.goes)) → (dividers : List (List ℕ)) (new : Paged) → Changes sizes page change bytes dividers mid new
          → (up : List Spelled) → AreSpelled TableInterior sizes.usable up dividers → GrowsUnder sizes (gone_of rowid row) page.number old new up row.old.first row.old.bytes
      settled-closes some dividers new changes up are =
          settled-under sizes (gone_of rowid row) row.old.first row.old.bytes page.number old page_cells page.right opened change.right mid new up page_has opens-page
          (some-kept change.goes change.at (length page.views) (length bytes) (length opened) within opened-many some)
          (λ levels.
          let s = changes (suc levels) Table page_cells coming (sym kind) page_read coming_are in
          subst (λ (l : List Spelled). IsSettled sizes (suc levels) Table page.number change.right opened mid new l) (same-spelled TableInterior sizes.usable s.up up dividers s.up_are are)
          (subst (λ (r : ℕ). IsSettled sizes (suc levels) Table page.number r opened mid new s.up) (keeps change.right) s.settled))

      -- the page of a root is, or its cells are moved out; page 1 may have none
      rooted-as : (page.number ≢ 1 → 0 < length opened) → (new : Paged) → ChangesRoot sizes page change bytes mid new → DeleteInto sizes (gone_of rowid row) page.number old new row.old.first row.old.bytes
      rooted-as some new changes =
          rooted-under sizes (gone_of rowid row) row.old.first row.old.bytes page.number old page_cells page.right opened change.right mid new page_has opens-page some
          (λ levels.
          subst (λ (r : ℕ). IsRooted sizes (suc levels) Table page.number r opened mid new) (keeps change.right) (changes (suc levels) Table page_cells coming (sym kind) page_read coming_are))

      pub rooted-closes : ¬ ((length bytes ≡ 0) × (length page.views ≡ behind 0 change.goes)) → (new : Paged) → ChangesRoot sizes page change bytes mid new
          → DeleteInto sizes (gone_of rowid row) page.number old new row.old.first row.old.bytes
      rooted-closes some new changes =
          rooted-as (λ other. some-kept change.goes change.at (length page.views) (length bytes) (length opened) within opened-many some) new changes

      pub first-closes : page.number ≡ 1 → (new : Paged) → ChangesRoot sizes page change bytes mid new → DeleteInto sizes (gone_of rowid row) page.number old new row.old.first row.old.bytes
      first-closes is new changes = rooted-as (λ other. absurd (other is)) new changes

    -- page 1 has no cell, and its only child has none any more
    module _ (first : page.number ≡ 1) (alone : length page.views ≡ 0) (child : ℕ) (named : IsChildAt page 0 child) (mid written new : Paged) (gives : Releases sizes child written new) where
      no_cells : page_cells ≡ []
      no_cells = none-long page_cells (omega (arith, alone, cells_many))

      first_has : HasCells sizes old TableInterior 1 [] page.right
      first_has = subst (λ (p : ℕ). HasCells sizes old TableInterior p [] page.right) first (subst (λ (l : List Spelled). HasCells sizes old TableInterior page.number l page.right) no_cells page_has)

      is_right : child ≡ page.right
      is_right = named sizes.usable page_cells page_read ∙ ap (λ (l : List Spelled). child_page 0 l page.right) no_cells

      gives-right : Releases sizes page.right written new
      gives-right = subst (λ (p : ℕ). Releases sizes p written new) is_right gives

      pub first-leaf : EmptiesPage sizes (gone_of rowid row) TableLeaf child 0 old mid row.old.first row.old.bytes → WritesNode sizes (record { number = page.number; kind = TableLeaf; right = 0 }) [] mid written
          → DeleteInto sizes (gone_of rowid row) page.number old new row.old.first row.old.bytes
      first-leaf emptied writes =
          let w = subst (λ (p : ℕ). WritesNode sizes (record { number = p; kind = TableLeaf; right = 0 }) [] mid written) first writes in
          subst⁻¹ (λ (p : ℕ). DeleteInto sizes (gone_of rowid row) p old new row.old.first row.old.bytes) first
          (only-leaf-under sizes (gone_of rowid row) row.old.first row.old.bytes old page.right mid written new first_has
          (subst (λ (p : ℕ). EmptiesPage sizes (gone_of rowid row) TableLeaf p 0 old mid row.old.first row.old.bytes) is_right emptied) w.writes w.is_page gives-right)

      pub first-interior : (only : ℕ) → EmptiesPage sizes (gone_of rowid row) TableInterior child only old mid row.old.first row.old.bytes
          → WritesNode sizes (record { number = page.number; kind = TableInterior; right = only }) [] mid written → DeleteInto sizes (gone_of rowid row) page.number old new row.old.first row.old.bytes
      first-interior only emptied writes =
          let w = subst (λ (p : ℕ). WritesNode sizes (record { number = p; kind = TableInterior; right = only }) [] mid written) first writes in
          subst⁻¹ (λ (p : ℕ). DeleteInto sizes (gone_of rowid row) p old new row.old.first row.old.bytes) first
          (only-interior-under sizes (gone_of rowid row) row.old.first row.old.bytes old page.right only mid written new first_has
          (subst (λ (p : ℕ). EmptiesPage sizes (gone_of rowid row) TableInterior p only old mid row.old.first row.old.bytes) is_right emptied) w.writes w.is_page gives-right)
