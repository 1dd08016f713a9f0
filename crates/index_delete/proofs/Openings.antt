-- What an interior page is to have once a child of it is left in some way.
use Rattle.std.proofs.Common.{◌≡◌, ℕ, suc, ◌^◌, ◌<◌, ◌≤◌, Bool, true, false, List, [], ◌∷◌, ◌++◌, length, take, drop, inl, inr, refl, sym, ap, ◌∙◌, subst, arith}
use Rattle.std.proofs.Math.Path.{subst⁻¹}
use Rattle.std.proofs.lemmas.List.{drop_all}
use Rattle.format_spec.specs.declared.PageKind.{PageKind}
use Rattle.format_spec.specs.declared.PageKind.TheVariants.{IndexInterior, IndexLeaf}
use Rattle.format_spec.specs.Cell.{IsCell}
use Rattle.page_spec.specs.Rooms.{right_kept}
use Rattle.tree_spec.specs.declared.TreeKind.TheVariants.{Index}
use Rattle.tree_spec.specs.Trees.{kind_at}
use Rattle.tree_spec.specs.Standing.{Sizes, Paged}
use Rattle.put_spec.specs.Steps.{Spelled, HasCells, IsRaised, IsSettled, Releases, child_page, with_dividers}
use Rattle.index_delete_spec.specs.Steps.{EmptiesPage, GrowsUnder, IsOfIndex, OpensUnder}
use Rattle.index_delete_spec.specs.UnderLaws.{grown-under, left-joins-under, replaced-joins-under, replaced-under, right-joins-under}
use Rattle.tree_walk.specs.declared.page.TreePage.{TreePage}
use Rattle.tree_walk.specs.Pages.{IsDecoded}
use Rattle.tree_level.specs.declared.cells.Change.{Change}
use Rattle.tree_level.specs.Changes.{Changes, ChangesAt, HasSpelled, changed}
use Rattle.tree_level.specs.ChangesLaws.{spelled-read}
use Rattle.tree_level.specs.Levels.{AreSpelled}
use Rattle.index_cells.specs.declared.cells.Taken.{Taken}
use Rattle.index_cells.specs.Respelling.{IsCellAt, IsWhole, cell_of, respelled, respelled_view}
use Rattle.index_cells.specs.RespellingLaws.{cell-respelled, respelled-child}
use Rattle.index_delete.specs.Deletes.{IsChildAt, Opens}
use Rattle.index_delete.proofs.Readings.{IsMiddle, cell-middle, changed-end, has-cells, middle, same-spelled, spelled-behind, views-many, with-seam}

-- a cell that was taken out, in a page of another kind
abbrev pub there_cell : Taken → PageKind → ℕ → Spelled
there_cell taken other child = record { bytes = respelled taken.kind other child taken.bytes; view = respelled_view taken.kind other child taken.view }

module _ (sizes : Sizes) (page : TreePage) (kind : page.kind ≡ IndexInterior) (at child : ℕ) (named : IsChildAt page at child) (old : Paged) (there : old.pages page.number ≡ page.bytes) where
  inner-has : (cells : List Spelled) → HasSpelled sizes.usable page cells → HasCells sizes old IndexInterior page.number cells page.right
  inner-has cells has = has-cells sizes page old there IndexInterior kind cells has

  -- an interior page keeps its right child
  opens-right : (ends : Bool) (row : Taken) (cells : List Spelled) (right : ℕ) (new : Paged) → OpensUnder sizes ends (cell_of row) page.number cells right old new
      → OpensUnder sizes ends (cell_of row) page.number cells (right_kept page.kind right) old new
  opens-right ends row cells right new opens =
      let keeps : right_kept page.kind right ≡ right = ap (λ (k : PageKind). right_kept k right) kind in
      subst⁻¹ (λ (r : ℕ). OpensUnder sizes ends (cell_of row) page.number cells r old new) keeps opens

  -- the cells that come are cells of an interior page
  inner-spelled : (comes : List Spelled) (bytes : List (List ℕ)) → AreSpelled page.kind sizes.usable comes bytes → AreSpelled IndexInterior sizes.usable comes bytes
  inner-spelled comes bytes are = subst (λ (k : PageKind). AreSpelled k sizes.usable comes bytes) kind are

  -- dividers came from the child
  pub grown-opens : (ends : Bool) (row : Taken) → at ≤ length page.views → (ends ≡ true → at ≡ length page.views) → (came : List (List ℕ)) (mid : Paged)
      → ((up : List Spelled) → AreSpelled IndexInterior sizes.usable up came → GrowsUnder sizes ends (cell_of row) child old mid up)
      → Opens sizes ends row page (record { at = at; goes = false; right = page.right }) came old mid
  grown-opens ends row within last_goes came mid grows cells comes has are =
      let many = views-many sizes.usable page cells has in
      let below = subst (λ (p : ℕ). GrowsUnder sizes ends (cell_of row) p old mid comes) (named sizes.usable cells has) (grows comes (inner-spelled comes came are)) in
      opens-right ends row (with_dividers cells at comes) page.right mid
      (grown-under sizes ends (cell_of row) page.number old cells page.right at mid comes (inner-has cells has) (omega (arith, within, many)) (λ e. omega (arith, last_goes e, many)) below)

  -- dividers came from the child, and the last cell below it takes the place of the cell that names it
  pub replaced-opens : (gone up : Taken) → at < length page.views → IsCellAt page at gone → IsOfIndex up.kind → IsWhole sizes.usable up → child < 2 ^ 32 → (came : List (List ℕ)) (mid : Paged)
      → ((cells : List Spelled) → AreSpelled IndexInterior sizes.usable cells came → GrowsUnder sizes true (cell_of up) child old mid cells)
      → Opens sizes false gone page (record { at = at; goes = true; right = page.right }) (came ++ respelled up.kind IndexInterior child up.bytes ∷ []) old mid
  replaced-opens gone up low is_gone of whole small came mid grows cells comes has are =
      let m = middle cells at (omega (arith, low, views-many sizes.usable page cells has)) in
      let front = take at cells in
      let back = drop (suc at) cells in
      let cell = there_cell up IndexInterior child in
      let r = cell-respelled sizes.usable up.kind IndexInterior child up.bytes up.view of (inr refl) whole in
      let b = spelled-behind IndexInterior sizes.usable comes came cell (inner-spelled comes (came ++ cell.bytes ∷ []) are) r.is_cell in
      let is : child ≡ m.cell.view.child = named sizes.usable cells has ∙ m.child page.right in
      let below = subst (λ (p : ℕ). GrowsUnder sizes true (cell_of up) p old mid b.front) is (grows b.front b.front_are) in
      let opens = replaced-under sizes page.number old cells page.right front m.cell back (inner-has cells has) m.whole (cell_of up) cell mid b.front r.raised r.is_cell (respelled-child up.kind child up.view small ∙ is) below in
      opens-right false gone (changed cells at true comes) page.right mid
      (subst⁻¹ (λ (l : List Spelled). OpensUnder sizes false (cell_of gone) page.number (changed cells at true l) page.right old mid) b.whole
      (subst (λ (c : Spelled). OpensUnder sizes false c page.number (changed cells at true (b.front ++ cell ∷ [])) page.right old mid) (cell-middle sizes.usable page cells has at gone m is_gone)
      (subst (λ (l : List Spelled). OpensUnder sizes false m.cell page.number l page.right old mid) (with-seam front back (b.front ++ cell ∷ [])) opens)))

  -- the child has no cell any more, and is joined with a neighbour
  module _ (page_kind : PageKind) (of : IsOfIndex page_kind) (only : ℕ) (mid given written : Paged) (beside : TreePage)
      (beside_read : IsDecoded beside.bytes beside.number sizes.usable beside) (beside_kind : beside.kind ≡ page_kind) (beside_there : mid.pages beside.number ≡ beside.bytes) (bytes grew : List (List ℕ)) where
    abbrev its_cells : List Spelled
    its_cells = (spelled-read sizes.usable beside beside_read).0

    its_has : HasCells sizes mid page_kind beside.number its_cells beside.right
    its_has = has-cells sizes beside mid beside_there page_kind beside_kind its_cells (spelled-read sizes.usable beside beside_read).1

    -- the right child that a page of an index is to have, which a leaf has not
    kept-right : (right : ℕ) → (page_kind ≡ IndexLeaf → right ≡ 0) → right_kept beside.kind right ≡ right
    kept-right right none = ap (λ (k : PageKind). right_kept k right) beside_kind ∙ by page_kind of none
      where
        by : (k : PageKind) → IsOfIndex k → (k ≡ IndexLeaf → right ≡ 0) → right_kept k right ≡ right
        by k (inl leaf) zero_is = ap (λ (q : PageKind). right_kept q right) leaf ∙ sym (zero_is leaf)
        by k (inr inner) zero_is = ap (λ (q : PageKind). right_kept q right) inner

    -- the cells of the neighbour and the one that comes down are settled
    joined : (key : Spelled) → bytes ≡ key.bytes ∷ [] → IsCell page_kind sizes.usable key.bytes key.view → (coming : List Spelled) → AreSpelled IndexInterior sizes.usable coming grew
        → (number : ℕ) (change : Change) → (page_kind ≡ IndexLeaf → change.right ≡ 0) → ChangesAt sizes number beside change bytes grew given written
        → (levels : ℕ) → kind_at Index levels ≡ page_kind → IsSettled sizes levels Index number change.right (changed its_cells change.at change.goes (key ∷ [])) given written coming
    joined key is is_cell coming are number change none changes levels level_kind =
        let one : AreSpelled page_kind sizes.usable (key ∷ []) (key.bytes ∷ []) = record { bytes_are = refl; are_cells = (is_cell, tt) } in
        let comes = subst⁻¹ (λ (k : PageKind). AreSpelled k sizes.usable (key ∷ []) bytes) beside_kind (subst⁻¹ (λ (l : List (List ℕ)). AreSpelled page_kind sizes.usable (key ∷ []) l) is one) in
        let s = changes levels Index its_cells (key ∷ []) (level_kind ∙ sym beside_kind) (spelled-read sizes.usable beside beside_read).1 comes in
        let cells = changed its_cells change.at change.goes (key ∷ []) in
        subst (λ (l : List Spelled). IsSettled sizes levels Index number change.right cells given written l) (same-spelled IndexInterior sizes.usable s.up coming grew s.up_are are)
        (subst (λ (r : ℕ). IsSettled sizes levels Index number r cells given written s.up) (kept-right change.right none) s.settled)

    module _ (between : Taken) (between_of : IsOfIndex between.kind) (whole : IsWhole sizes.usable between) where
      -- with the next one
      module _ (low : at < length page.views) (next : ℕ) (is_next : next ≡ suc at) (named_next : IsChildAt page next beside.number) (small : only < 2 ^ 32) (is_key : bytes ≡ respelled between.kind page_kind only between.bytes ∷ [])
          (beside_right : page_kind ≡ IndexLeaf → beside.right ≡ 0) (gives : Releases sizes child mid given) (changes : Changes sizes beside (record { at = 0; goes = false; right = beside.right }) bytes grew given written) where
        abbrev key : Spelled
        key = there_cell between page_kind only

        key-child : page_kind ≡ IndexInterior → key.view.child ≡ only
        key-child inner = subst⁻¹ (λ (k : PageKind). (respelled_view between.kind k only between.view).child ≡ only) inner (respelled-child between.kind only between.view small)

        module _ (cells coming : List Spelled) (has : HasSpelled sizes.usable page cells) (coming_are : AreSpelled IndexInterior sizes.usable coming grew) (m : IsMiddle cells at) where
          child-is : child ≡ m.cell.view.child
          child-is = named sizes.usable cells has ∙ m.child page.right

          beside-is : beside.number ≡ child_page (length (take at cells)) (take at cells ++ drop (suc at) cells) page.right
          beside-is = named_next sizes.usable cells has ∙ ap (λ (n : ℕ). child_page n cells page.right) is_next ∙ m.next page.right

          next-settled : (levels : ℕ) → kind_at Index levels ≡ page_kind
              → IsSettled sizes levels Index (child_page (length (take at cells)) (take at cells ++ drop (suc at) cells) page.right) beside.right (key ∷ its_cells) given written coming
          next-settled levels level_kind =
              let r = cell-respelled sizes.usable between.kind page_kind only between.bytes between.view between_of of whole in
              subst (λ (p : ℕ). IsSettled sizes levels Index p beside.right (key ∷ its_cells) given written coming) beside-is
              (joined key is_key r.is_cell coming coming_are beside.number (record { at = 0; goes = false; right = beside.right }) beside_right changes levels level_kind)

        -- over the cell of their parent
        pub next-joins : (row : Taken) → IsCellAt page at between → EmptiesPage sizes false (cell_of row) page_kind child only old mid → Opens sizes false row page (record { at = at; goes = true; right = page.right }) grew old written
        next-joins row is_between emptied cells coming has are =
            let coming_are = inner-spelled coming grew are in
            let m = middle cells at (omega (arith, low, views-many sizes.usable page cells has)) in
            let front = take at cells in
            let back = drop (suc at) cells in
            let is = child-is cells coming has coming_are m in
            let r = cell-respelled sizes.usable between.kind page_kind only between.bytes between.view between_of of whole in
            let raised : IsRaised key m.cell = subst⁻¹ (IsRaised key) (cell-middle sizes.usable page cells has at between m is_between) r.raised in
            let opens = left-joins-under sizes page.number old cells page.right front m.cell back (inner-has cells has) m.whole page_kind of mid given written key r.is_cell only its_cells beside.right coming (cell_of row) raised
            (subst (λ (p : ℕ). EmptiesPage sizes false (cell_of row) page_kind p only old mid) is emptied)
            (subst (λ (p : ℕ). HasCells sizes mid page_kind p its_cells beside.right) (beside-is cells coming has coming_are m) its_has) key-child (subst (λ (p : ℕ). Releases sizes p mid given) is gives)
            (next-settled cells coming has coming_are m) in
            opens-right false row (changed cells at true coming) page.right written
            (subst (λ (l : List Spelled). OpensUnder sizes false (cell_of row) page.number l page.right old written) (with-seam front back coming) opens)

        -- over the last cell that stood below the child, in the place of their parent's
        pub next-replaced : (gone : Taken) → IsCellAt page at gone → EmptiesPage sizes true (cell_of between) page_kind child only old mid → Opens sizes false gone page (record { at = at; goes = true; right = page.right }) grew old written
        next-replaced gone is_gone emptied cells coming has are =
            let coming_are = inner-spelled coming grew are in
            let m = middle cells at (omega (arith, low, views-many sizes.usable page cells has)) in
            let front = take at cells in
            let back = drop (suc at) cells in
            let is = child-is cells coming has coming_are m in
            let r = cell-respelled sizes.usable between.kind page_kind only between.bytes between.view between_of of whole in
            let opens = replaced-joins-under sizes page.number old cells page.right front m.cell back (inner-has cells has) m.whole page_kind of mid given written key r.is_cell only its_cells beside.right coming (cell_of between) r.raised
            (subst (λ (p : ℕ). EmptiesPage sizes true (cell_of between) page_kind p only old mid) is emptied)
            (subst (λ (p : ℕ). HasCells sizes mid page_kind p its_cells beside.right) (beside-is cells coming has coming_are m) its_has) key-child (subst (λ (p : ℕ). Releases sizes p mid given) is gives)
            (next-settled cells coming has coming_are m) in
            opens-right false gone (changed cells at true coming) page.right written
            (subst (λ (c : Spelled). OpensUnder sizes false c page.number (changed cells at true coming) page.right old written) (cell-middle sizes.usable page cells has at gone m is_gone)
            (subst (λ (l : List Spelled). OpensUnder sizes false m.cell page.number l page.right old written) (with-seam front back coming) opens))

        -- so, whichever cells may go
        pub next-joins-any : (ends : Bool) (row : Taken) → (ends ≡ true → at ≡ length page.views) → IsCellAt page at between → EmptiesPage sizes ends (cell_of row) page_kind child only old mid
            → Opens sizes ends row page (record { at = at; goes = true; right = page.right }) grew old written
        next-joins-any true row last_goes is_between emptied = absurd (let e = last_goes refl in let h : ⊥ = omega (arith, e, low) in h)
        next-joins-any false row last_goes is_between emptied = next-joins row is_between emptied

      -- with the one before, where it is the last child
      pub last-joins : (ends : Bool) (row : Taken) (end place : ℕ) → at ≡ length page.views → suc end ≡ at → place ≡ length beside.views → IsChildAt page end beside.number → beside.right < 2 ^ 32 → IsCellAt page end between
          → bytes ≡ respelled between.kind page_kind beside.right between.bytes ∷ [] → (page_kind ≡ IndexLeaf → only ≡ 0) → Releases sizes beside.number mid given
          → ChangesAt sizes child beside (record { at = place; goes = false; right = only }) bytes grew given written → EmptiesPage sizes ends (cell_of row) page_kind child only old mid
          → Opens sizes ends row page (record { at = end; goes = true; right = page.right }) grew old written
      last-joins ends row end place is_end before is_place named_before small is_between is_key no_right gives changes emptied cells coming has are =
          let coming_are = inner-spelled coming grew are in
          let many = views-many sizes.usable page cells has in
          let m = middle cells end (omega (arith, is_end, before, many)) in
          let front = take end cells in
          let back = drop (suc end) cells in
          let none : back ≡ [] = drop_all (suc end) cells (omega (arith, before, is_end, many)) in
          let is : child ≡ child_page (length front) (front ++ back) page.right =
          named sizes.usable cells has ∙ ap (λ (n : ℕ). child_page n cells page.right) (sym before) ∙ m.next page.right in
          let its : beside.number ≡ m.cell.view.child = named_before sizes.usable cells has ∙ m.child page.right in
          let key_there = there_cell between page_kind beside.right in
          let r = cell-respelled sizes.usable between.kind page_kind beside.right between.bytes between.view between_of of whole in
          let raised : IsRaised key_there m.cell = subst⁻¹ (IsRaised key_there) (cell-middle sizes.usable page cells has end between m is_between) r.raised in
          let names = λ (inner : page_kind ≡ IndexInterior).
          subst⁻¹ (λ (k : PageKind). (respelled_view between.kind k beside.right between.view).child ≡ beside.right) inner (respelled-child between.kind beside.right between.view small) in
          let all : changed its_cells place false (key_there ∷ []) ≡ its_cells ++ key_there ∷ [] =
          changed-end its_cells place (key_there ∷ []) (is_place ∙ views-many sizes.usable beside its_cells (spelled-read sizes.usable beside beside_read).1) in
          let settled = joined key_there is_key r.is_cell coming coming_are child (record { at = place; goes = false; right = only }) no_right changes in
          let opens = right-joins-under sizes page.number old cells page.right front m.cell back (inner-has cells has) m.whole page_kind of mid given written key_there r.is_cell only its_cells beside.right coming ends (cell_of row)
          (λ e. none) raised (subst (λ (p : ℕ). EmptiesPage sizes ends (cell_of row) page_kind p only old mid) is emptied)
          (subst (λ (p : ℕ). HasCells sizes mid page_kind p its_cells beside.right) its its_has) names (subst (λ (p : ℕ). Releases sizes p mid given) its gives)
          (λ levels level_kind.
          subst (λ (p : ℕ). IsSettled sizes levels Index p only (its_cells ++ key_there ∷ []) given written coming) is
          (subst (λ (l : List Spelled). IsSettled sizes levels Index child only l given written coming) all (settled levels level_kind))) in
          opens-right ends row (changed cells end true coming) page.right written
          (subst (λ (l : List Spelled). OpensUnder sizes ends (cell_of row) page.number l page.right old written) (with-seam front back coming) opens)
