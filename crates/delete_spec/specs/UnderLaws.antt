-- A writer need not know how many levels a tree has: the kind of a page tells whether it has some. Crates above cite these facts in their proofs.
use Rattle.std.proofs.Common.{◌≡◌, ◌≢◌, ℕ, ℤ, zero, suc, ◌-◌, ◌<◌, ◌≤◌, List, [], ◌∷◌, ◌++◌, length, map, refl, sym, ap, ◌∙◌, arith}
use Rattle.std.proofs.Math.Path.{subst⁻¹}
use Rattle.format_spec.specs.declared.PageKind.TheVariants.{TableInterior, TableLeaf}
use Rattle.format_spec.specs.Cell.{IsCell}
use Rattle.format_spec.specs.Page.{IsPage}
use Rattle.tree_spec.specs.declared.TreeKind.TheVariants.{Table}
use Rattle.tree_spec.specs.Trees.{TreeOf, Member, page_of, cells_behind}
use Rattle.tree_spec.specs.Standing.{Sizes, Paged, Stands}
use Rattle.tree_spec.specs.OneTreeLaws.{leaf-levels, interior-levels}
use Rattle.tree_spec.specs.Changes.{Writes}
use Rattle.put_spec.specs.Children.{Belongs, Meets, child_at}
use Rattle.put_spec.specs.ChildrenLaws.{child-stands}
use Rattle.put_spec.specs.Steps.{Spelled, spelled, bytes_in, views_in, HasCells, child_page, with_dividers, IsSettled, IsRooted, Releases}
use Rattle.put_spec.specs.SpelledLaws.{page-tells}
use Rattle.delete_spec.specs.Steps.{IsPayload, MissingUnder, OpensBelow, OpensUnder, GrowsUnder, DeleteInto, EmptiesPage}
use Rattle.delete_spec.specs.StepsLaws.{child-page, leaf-opens, parent-stays, root-unwritten, leaf-goes, last-leaf-goes, root-only-child, root-takes}
use Rattle.delete_spec.specs.CutsLaws.{page-settled, page-written, root-written, root-rooted, parent-grown}
use Rattle.delete_spec.specs.JoinsLaws.{right-joins, left-joins}
use Rattle.delete_spec.specs.MissingLaws.{leaf-missing, interior-missing}

none-suc : (n : ℕ) → suc n ≡ 0 → ⊥
none-suc n e = omega arith

-- the page that a cell names
pub child-named : (front : List Spelled) (cell : Spelled) (back : List Spelled) (right : ℕ) → child_page (length front) (front ++ cell ∷ back) right ≡ cell.view.child
child-named [] cell back right = refl
child-named (x ∷ xs) cell back right = child-named xs cell back right

-- the page behind it
pub child-next : (front : List Spelled) (cell : Spelled) (back : List Spelled) (right : ℕ) → child_page (suc (length front)) (front ++ cell ∷ back) right ≡ child_page (length front) (front ++ back) right
child-next [] cell back right = refl
child-next (x ∷ xs) cell back right = child-next xs cell back right

-- the page behind all cells
pub child-last : (cells : List Spelled) (right : ℕ) → child_page (length cells) cells right ≡ right
child-last [] right = refl
child-last (x ∷ xs) right = child-last xs right

module _ (sizes : Sizes) where
  -- The kind of a child tells whether it has levels.

  child-there : (levels page : ℕ) (base : Paged) (cells : List Spelled) (right at : ℕ) (tree : TreeOf (suc levels)) → HasCells sizes base TableInterior page cells right → page_of (suc levels) tree ≡ page
      → Stands sizes base Table (suc levels) tree → page_of levels (child_at at tree.children tree.last) ≡ child_page at cells right
  child-there levels page base cells right at tree has is stands =
      let told = page-tells sizes base Table (suc levels) page tree cells right is has stands in
      child-page sizes base levels at tree.children tree.last stands.1.0
      ∙ sym (ap (λ (cs : List Spelled). child_page at cs right) told.0 ∙ ap (λ (r : ℕ). child_page at (map spelled (cells_behind tree.children)) r) told.1)

  child-leaf : (levels page : ℕ) (base : Paged) (cells : List Spelled) (right at : ℕ) (tree : TreeOf (suc levels)) (own : List Spelled) (its_right : ℕ) → HasCells sizes base TableInterior page cells right → page_of (suc levels) tree ≡ page
      → Stands sizes base Table (suc levels) tree → HasCells sizes base TableLeaf (child_page at cells right) own its_right → levels ≡ 0
  child-leaf levels page base cells right at tree own its_right has is stands child =
      let there = child-stands sizes Table base levels at tree.children tree.last stands.1.0 stands.1.1.1 in
      leaf-levels sizes base Table levels (child_page at cells right) (child_at at tree.children tree.last) (bytes_in own) its_right (child-there levels page base cells right at tree has is stands) child.is_page there.0

  child-interior : (levels page : ℕ) (base : Paged) (cells : List Spelled) (right at : ℕ) (tree : TreeOf (suc levels)) (own : List Spelled) (its_right : ℕ) → HasCells sizes base TableInterior page cells right → page_of (suc levels) tree ≡ page
      → Stands sizes base Table (suc levels) tree → HasCells sizes base TableInterior (child_page at cells right) own its_right → levels ≢ 0
  child-interior levels page base cells right at tree own its_right has is stands child =
      let there = child-stands sizes Table base levels at tree.children tree.last stands.1.0 stands.1.1.1 in
      interior-levels sizes base Table levels (child_page at cells right) (child_at at tree.children tree.last) (bytes_in own) its_right (child-there levels page base cells right at tree has is stands) child.is_page there.0

  -- A row that is not there.

  pub leaf-missing-under : (rowid : ℤ) (page : ℕ) (base : Paged) (cells : List Spelled) (right i : ℕ) → HasCells sizes base TableLeaf page cells right → Belongs rowid i (views_in cells) → ¬ Meets rowid i (views_in cells)
      → MissingUnder sizes page rowid base
  leaf-missing-under rowid page base cells right i has here new zero = leaf-missing sizes rowid page base cells right i has here new
  leaf-missing-under rowid page base cells right i has here new (suc levels) =
      λ tree low high is stands order. absurd (none-suc levels (leaf-levels sizes base Table (suc levels) page tree (bytes_in cells) right is has.is_page stands.0))

  pub interior-missing-under : (rowid : ℤ) (page : ℕ) (base : Paged) (cells : List Spelled) (right i : ℕ) → HasCells sizes base TableInterior page cells right → Belongs rowid i (views_in cells)
      → MissingUnder sizes (child_page i cells right) rowid base → MissingUnder sizes page rowid base
  interior-missing-under rowid page base cells right i has here below zero =
      λ tree low high is stands order. absurd (interior-levels sizes base Table zero page tree (bytes_in cells) right is has.is_page stands.0 refl)
  interior-missing-under rowid page base cells right i has here below (suc levels) = interior-missing sizes rowid levels page base cells right i has here (below levels)

  module _ (gone : Member) (first bytes : ℕ) where
    -- An interior page has levels below it.
    above-zero : {A : Type 0} (page : ℕ) (old : Paged) (cells : List Spelled) (right : ℕ) (tree : TreeOf zero) → HasCells sizes old TableInterior page cells right → page_of zero tree ≡ page → Stands sizes old Table zero tree → A
    above-zero page old cells right tree has is stands = absurd (interior-levels sizes old Table zero page tree (bytes_in cells) right is has.is_page stands.0 refl)

    -- A leaf loses a cell.

    pub leaf-opens-under : (page : ℕ) (old : Paged) (cells : List Spelled) (right : ℕ) (front : List Spelled) (cell : Spelled) (back : List Spelled) → HasCells sizes old TableLeaf page cells right → cells ≡ front ++ cell ∷ back
        → gone.rowid ≡ cell.view.rowid → IsPayload sizes old cell gone.payload → first ≡ cell.view.overflow → bytes ≡ cell.view.payload - cell.view.local → OpensUnder sizes gone page (front ++ back) 0 old old first bytes
    leaf-opens-under page old cells right front cell back has parts rowid payload is_first are_bytes zero =
        subst⁻¹ (λ (f : ℕ). OpensBelow sizes gone zero page (front ++ back) 0 old old f bytes) is_first
        (subst⁻¹ (λ (b : ℕ). OpensBelow sizes gone zero page (front ++ back) 0 old old cell.view.overflow b) are_bytes (leaf-opens sizes gone page old cells right front cell back has parts rowid payload))
    leaf-opens-under page old cells right front cell back has parts rowid payload is_first are_bytes (suc levels) =
        λ tree trunks is free ready. absurd (none-suc levels (leaf-levels sizes old Table (suc levels) page tree (bytes_in cells) right is has.is_page ready.stands.0))

    -- A child that was cut, or not.

    pub grown-under : (page : ℕ) (old : Paged) (cells : List Spelled) (right at : ℕ) (between : Paged) (grew : List Spelled) → HasCells sizes old TableInterior page cells right → at ≤ length cells
        → GrowsUnder sizes gone (child_page at cells right) old between grew first bytes → OpensUnder sizes gone page (with_dividers cells at grew) right old between first bytes
    grown-under page old cells right at between grew has within below zero = λ tree trunks is free ready. above-zero page old cells right tree has is ready.stands
    grown-under page old cells right at between grew has within below (suc levels) = parent-grown sizes gone levels page old cells right at between grew first bytes has within (below levels)

    pub stays-under : (page : ℕ) (old : Paged) (cells : List Spelled) (right at : ℕ) (new : Paged) → HasCells sizes old TableInterior page cells right → 0 < length cells
        → GrowsUnder sizes gone (child_page at cells right) old new [] first bytes → GrowsUnder sizes gone page old new [] first bytes
    stays-under page old cells right at new has some below zero = λ tree trunks is free ready. above-zero page old cells right tree has is ready.stands
    stays-under page old cells right at new has some below (suc levels) = parent-stays sizes gone levels page old cells right at new first bytes has some (below levels)

    pub root-stays-under : (root : ℕ) (old : Paged) (cells : List Spelled) (right at : ℕ) (new : Paged) → HasCells sizes old TableInterior root cells right → (root ≢ 1 → 0 < length cells)
        → GrowsUnder sizes gone (child_page at cells right) old new [] first bytes → DeleteInto sizes gone root old new first bytes
    root-stays-under root old cells right at new has some below zero = λ tree trunks is free ready. above-zero root old cells right tree has is ready.stands
    root-stays-under root old cells right at new has some below (suc levels) = root-unwritten sizes gone levels root old cells right at new first bytes has some (below levels)

    -- A leaf that would have no cell any more goes.

    pub leaf-goes-under : (page : ℕ) (old : Paged) (cells : List Spelled) (right : ℕ) (front : List Spelled) (cell : Spelled) (back : List Spelled) (mid given : Paged) → HasCells sizes old TableInterior page cells right
        → cells ≡ front ++ cell ∷ back → EmptiesPage sizes gone TableLeaf cell.view.child 0 old mid first bytes → Releases sizes cell.view.child mid given → OpensUnder sizes gone page (front ++ back) right old given first bytes
    leaf-goes-under page old cells right front cell back mid given has parts e gives zero = λ tree trunks is free ready. above-zero page old cells right tree has is ready.stands
    leaf-goes-under page old cells right front cell back mid given has parts e gives (suc zero) = leaf-goes sizes gone page old cells right front cell back mid given first bytes has parts (e.empties zero) gives
    leaf-goes-under page old cells right front cell back mid given has parts e gives (suc (suc levels)) =
        λ tree trunks is free ready.
        let named : child_page (length front) cells right ≡ cell.view.child = ap (λ (cs : List Spelled). child_page (length front) cs right) parts ∙ child-named front cell back right in
        absurd (none-suc levels (child-leaf (suc levels) page old cells right (length front) tree e.cells e.right has is ready.stands (subst⁻¹ (λ (p : ℕ). HasCells sizes old TableLeaf p e.cells e.right) named e.has)))

    pub last-leaf-goes-under : (page : ℕ) (old : Paged) (cells : List Spelled) (right : ℕ) (front : List Spelled) (cell : Spelled) (mid given : Paged) → HasCells sizes old TableInterior page cells right
        → cells ≡ front ++ cell ∷ [] → EmptiesPage sizes gone TableLeaf right 0 old mid first bytes → Releases sizes right mid given → OpensUnder sizes gone page front cell.view.child old given first bytes
    last-leaf-goes-under page old cells right front cell mid given has parts e gives zero = λ tree trunks is free ready. above-zero page old cells right tree has is ready.stands
    last-leaf-goes-under page old cells right front cell mid given has parts e gives (suc zero) = last-leaf-goes sizes gone page old cells right front cell mid given first bytes has parts (e.empties zero) gives
    last-leaf-goes-under page old cells right front cell mid given has parts e gives (suc (suc levels)) =
        λ tree trunks is free ready.
        absurd (none-suc levels (child-leaf (suc levels) page old cells right (length cells) tree e.cells e.right has is ready.stands (subst⁻¹ (λ (p : ℕ). HasCells sizes old TableLeaf p e.cells e.right) (child-last cells right) e.has)))

    -- An interior page that would have none is joined with a neighbour.

    module _ (page : ℕ) (old : Paged) (cells : List Spelled) (right : ℕ) (front : List Spelled) (cell : Spelled) (back : List Spelled) (only : ℕ) (mid given written : Paged) (middle : Spelled) (beside : List Spelled) (last : ℕ)
        (has : HasCells sizes old TableInterior page cells right) (parts : cells ≡ front ++ cell ∷ back) (is_cell : IsCell TableInterior sizes.usable middle.bytes middle.view) (rowid : middle.view.rowid ≡ cell.view.rowid) (grew : List Spelled) where
      -- the page behind the one that the cell names
      abbrev next : ℕ
      next = child_page (length front) (front ++ back) right

      pub right-joins-under : EmptiesPage sizes gone TableInterior next only old mid first bytes → HasCells sizes mid TableInterior cell.view.child beside last → middle.view.child ≡ last → Releases sizes cell.view.child mid given
          → ((levels : ℕ) → IsSettled sizes (suc levels) Table next only (beside ++ middle ∷ []) given written grew)
          → OpensUnder sizes gone page (with_dividers (front ++ back) (length front) grew) right old written first bytes
      right-joins-under e has_beside names gives settled zero = λ tree trunks is free ready. above-zero page old cells right tree has is ready.stands
      right-joins-under e has_beside names gives settled (suc zero) =
          λ tree trunks is free ready.
          let named : child_page (suc (length front)) cells right ≡ next = ap (λ (cs : List Spelled). child_page (suc (length front)) cs right) parts ∙ child-next front cell back right in
          absurd (child-interior zero page old cells right (suc (length front)) tree e.cells e.right has is ready.stands (subst⁻¹ (λ (p : ℕ). HasCells sizes old TableInterior p e.cells e.right) named e.has) refl)
      right-joins-under e has_beside names gives settled (suc (suc levels)) =
          right-joins sizes gone levels page old cells right front cell back only mid given written first bytes middle beside last has parts is_cell rowid (e.empties (suc levels)) has_beside names gives grew (settled levels)

      pub left-joins-under : EmptiesPage sizes gone TableInterior cell.view.child only old mid first bytes → HasCells sizes mid TableInterior next beside last → middle.view.child ≡ only → Releases sizes cell.view.child mid given
          → ((levels : ℕ) → IsSettled sizes (suc levels) Table next last (middle ∷ beside) given written grew)
          → OpensUnder sizes gone page (with_dividers (front ++ back) (length front) grew) right old written first bytes
      left-joins-under e has_beside names gives settled zero = λ tree trunks is free ready. above-zero page old cells right tree has is ready.stands
      left-joins-under e has_beside names gives settled (suc zero) =
          λ tree trunks is free ready.
          let named : child_page (length front) cells right ≡ cell.view.child = ap (λ (cs : List Spelled). child_page (length front) cs right) parts ∙ child-named front cell back right in
          absurd (child-interior zero page old cells right (length front) tree e.cells e.right has is ready.stands (subst⁻¹ (λ (p : ℕ). HasCells sizes old TableInterior p e.cells e.right) named e.has) refl)
      left-joins-under e has_beside names gives settled (suc (suc levels)) =
          left-joins sizes gone levels page old cells right front cell back only mid given written first bytes middle beside last has parts is_cell rowid (e.empties (suc levels)) has_beside names gives grew (settled levels)

    -- A page that is to have some cells is settled, or is a root's.

    pub leaf-under : (page : ℕ) (old : Paged) (cells : List Spelled) (right : ℕ) (opened : List Spelled) (new : Paged) → HasCells sizes old TableLeaf page cells right → OpensUnder sizes gone page opened 0 old old first bytes → 0 < length opened
        → Writes page old new → IsPage (new.pages page) page sizes.usable TableLeaf (bytes_in opened) 0 → GrowsUnder sizes gone page old new [] first bytes
    leaf-under page old cells right opened new has opens some writes is_page zero = page-written sizes gone zero page opened 0 old old first bytes new (opens zero) some writes is_page
    leaf-under page old cells right opened new has opens some writes is_page (suc levels) =
        λ tree trunks is free ready. absurd (none-suc levels (leaf-levels sizes old Table (suc levels) page tree (bytes_in cells) right is has.is_page ready.stands.0))

    pub settled-under : (page : ℕ) (old : Paged) (cells : List Spelled) (right : ℕ) (opened : List Spelled) (its_right : ℕ) (mid new : Paged) (dividers : List Spelled) → HasCells sizes old TableInterior page cells right
        → OpensUnder sizes gone page opened its_right old mid first bytes → 0 < length opened → ((levels : ℕ) → IsSettled sizes (suc levels) Table page its_right opened mid new dividers) → GrowsUnder sizes gone page old new dividers first bytes
    settled-under page old cells right opened its_right mid new dividers has opens some settled zero = λ tree trunks is free ready. above-zero page old cells right tree has is ready.stands
    settled-under page old cells right opened its_right mid new dividers has opens some settled (suc levels) =
        page-settled sizes gone levels page opened its_right old mid first bytes new dividers (opens (suc levels)) some (settled levels)

    pub root-leaf-under : (root : ℕ) (old : Paged) (cells : List Spelled) (right : ℕ) (opened : List Spelled) (new : Paged) → HasCells sizes old TableLeaf root cells right → OpensUnder sizes gone root opened 0 old old first bytes
        → Writes root old new → IsPage (new.pages root) root sizes.usable TableLeaf (bytes_in opened) 0 → DeleteInto sizes gone root old new first bytes
    root-leaf-under root old cells right opened new has opens writes is_page zero = root-written sizes gone zero root opened 0 old old first bytes new (opens zero) (λ none. absurd (let h : ⊥ = omega arith in h)) writes is_page
    root-leaf-under root old cells right opened new has opens writes is_page (suc levels) =
        λ tree trunks is free ready. absurd (none-suc levels (leaf-levels sizes old Table (suc levels) root tree (bytes_in cells) right is has.is_page ready.stands.0))

    pub rooted-under : (root : ℕ) (old : Paged) (cells : List Spelled) (right : ℕ) (opened : List Spelled) (its_right : ℕ) (mid new : Paged) → HasCells sizes old TableInterior root cells right
        → OpensUnder sizes gone root opened its_right old mid first bytes → (root ≢ 1 → 0 < length opened) → ((levels : ℕ) → IsRooted sizes (suc levels) Table root its_right opened mid new) → DeleteInto sizes gone root old new first bytes
    rooted-under root old cells right opened its_right mid new has opens some rooted zero = λ tree trunks is free ready. above-zero root old cells right tree has is ready.stands
    rooted-under root old cells right opened its_right mid new has opens some rooted (suc levels) =
        root-rooted sizes gone levels root opened its_right old mid first bytes new (opens (suc levels)) some (rooted levels)

    -- A root that is to have no cell, and one child, takes what that has.

    pub takes-leaf-under : (root : ℕ) (old : Paged) (cells : List Spelled) (right its_right : ℕ) (mid : Paged) (kept : List Spelled) (none : ℕ) (written new : Paged) → HasCells sizes old TableInterior root cells right
        → OpensUnder sizes gone root [] its_right old mid first bytes → HasCells sizes mid TableLeaf its_right kept none → Writes root mid written → IsPage (written.pages root) root sizes.usable TableLeaf (bytes_in kept) none
        → Releases sizes its_right written new → DeleteInto sizes gone root old new first bytes
    takes-leaf-under root old cells right its_right mid kept none written new has opens below writes is_page gives zero = λ tree trunks is free ready. above-zero root old cells right tree has is ready.stands
    takes-leaf-under root old cells right its_right mid kept none written new has opens below writes is_page gives (suc zero) =
        root-takes sizes gone zero root old its_right mid kept none written new first bytes (opens (suc zero)) below writes is_page gives
    takes-leaf-under root old cells right its_right mid kept none written new has opens below writes is_page gives (suc (suc levels)) =
        λ tree trunks is free ready.
        let o = opens (suc (suc levels)) tree trunks is free ready in
        absurd (none-suc levels (leaf-levels sizes mid Table (suc levels) its_right o.home.last (bytes_in kept) none (sym o.right_is) below.is_page o.opened.below.1.1.0))

    pub takes-interior-under : (root : ℕ) (old : Paged) (cells : List Spelled) (right its_right : ℕ) (mid : Paged) (kept : List Spelled) (last : ℕ) (written new : Paged) → HasCells sizes old TableInterior root cells right
        → OpensUnder sizes gone root [] its_right old mid first bytes → HasCells sizes mid TableInterior its_right kept last → Writes root mid written → IsPage (written.pages root) root sizes.usable TableInterior (bytes_in kept) last
        → Releases sizes its_right written new → DeleteInto sizes gone root old new first bytes
    takes-interior-under root old cells right its_right mid kept last written new has opens below writes is_page gives zero = λ tree trunks is free ready. above-zero root old cells right tree has is ready.stands
    takes-interior-under root old cells right its_right mid kept last written new has opens below writes is_page gives (suc zero) =
        λ tree trunks is free ready.
        let o = opens (suc zero) tree trunks is free ready in
        absurd (interior-levels sizes mid Table zero its_right o.home.last (bytes_in kept) last (sym o.right_is) below.is_page o.opened.below.1.1.0 refl)
    takes-interior-under root old cells right its_right mid kept last written new has opens below writes is_page gives (suc (suc levels)) =
        root-takes sizes gone (suc levels) root old its_right mid kept last written new first bytes (opens (suc (suc levels))) below writes is_page gives

    -- Page 1 without a cell, whose only child has none any more.

    pub only-leaf-under : (old : Paged) (right : ℕ) (mid written new : Paged) → HasCells sizes old TableInterior 1 [] right → EmptiesPage sizes gone TableLeaf right 0 old mid first bytes
        → Writes 1 mid written → IsPage (written.pages 1) 1 sizes.usable TableLeaf [] 0 → Releases sizes right written new → DeleteInto sizes gone 1 old new first bytes
    only-leaf-under old right mid written new has e writes is_page gives zero = λ tree trunks is free ready. above-zero 1 old [] right tree has is ready.stands
    only-leaf-under old right mid written new has e writes is_page gives (suc zero) = root-only-child sizes gone zero old right 0 mid written new first bytes has (e.empties zero) writes is_page gives
    only-leaf-under old right mid written new has e writes is_page gives (suc (suc levels)) =
        λ tree trunks is free ready. absurd (none-suc levels (child-leaf (suc levels) 1 old [] right 0 tree e.cells e.right has is ready.stands e.has))

    pub only-interior-under : (old : Paged) (right only : ℕ) (mid written new : Paged) → HasCells sizes old TableInterior 1 [] right → EmptiesPage sizes gone TableInterior right only old mid first bytes
        → Writes 1 mid written → IsPage (written.pages 1) 1 sizes.usable TableInterior [] only → Releases sizes right written new → DeleteInto sizes gone 1 old new first bytes
    only-interior-under old right only mid written new has e writes is_page gives zero = λ tree trunks is free ready. above-zero 1 old [] right tree has is ready.stands
    only-interior-under old right only mid written new has e writes is_page gives (suc zero) =
        λ tree trunks is free ready. absurd (child-interior zero 1 old [] right 0 tree e.cells e.right has is ready.stands e.has refl)
    only-interior-under old right only mid written new has e writes is_page gives (suc (suc levels)) = root-only-child sizes gone (suc levels) old right only mid written new first bytes has (e.empties (suc levels)) writes is_page gives
