-- A writer need not know how many levels an index's tree has: the kind of a page tells whether it has some. Crates above cite these facts in their proofs.
use Rattle.std.proofs.Common.{◌≡◌, ◌≢◌, ℕ, zero, suc, ◌<◌, ◌≤◌, Bool, true, false, List, [], ◌∷◌, ◌++◌, length, refl, sym, ap, ◌∙◌, subst, inl, inr, arith}
use Rattle.std.proofs.Math.Path.{subst⁻¹}
use Rattle.format_spec.specs.declared.PageKind.{PageKind}
use Rattle.format_spec.specs.declared.PageKind.TheVariants.{IndexInterior, IndexLeaf}
use Rattle.format_spec.specs.Cell.{IsCell}
use Rattle.format_spec.specs.Page.{IsPage}
use Rattle.tree_spec.specs.declared.TreeKind.TheVariants.{Index}
use Rattle.tree_spec.specs.Trees.{TreeOf, kind_at, page_of}
use Rattle.tree_spec.specs.Standing.{Sizes, Paged, HasOwnPage, Stands}
use Rattle.tree_spec.specs.OneTreeLaws.{leaf-levels, interior-levels}
use Rattle.tree_spec.specs.Changes.{Writes}
use Rattle.put_spec.specs.Children.{child_at}
use Rattle.put_spec.specs.ChildrenLaws.{child-stands}
use Rattle.put_spec.specs.Steps.{Spelled, bytes_in, HasCells, child_page, with_dividers, IsRaised, IsSettled, IsRooted, Releases}
use Rattle.delete_spec.specs.UnderLaws.{child-named, child-next}
use Rattle.index_delete_spec.specs.Steps.{IsOfIndex, OpensUnder, GrowsUnder, DeleteInto, EmptiesPage}
use Rattle.index_delete_spec.specs.StepsLaws.{child-there, leaf-opens, parent-stays, root-unwritten, root-only-child, root-takes}
use Rattle.index_delete_spec.specs.CutsLaws.{page-settled, parent-grown, root-rooted}
use Rattle.index_delete_spec.specs.JoinsLaws.{parent-replaced, right-joins, left-joins, replaced-joins}

none-suc : (n : ℕ) → suc n ≡ 0 → ⊥
none-suc n e = omega arith

-- a tree with levels has an interior page on top
deep-kind : (levels : ℕ) → 0 < levels → kind_at Index levels ≡ IndexInterior
deep-kind zero deep = absurd (omega arith)
deep-kind (suc levels) deep = refl

module _ (sizes : Sizes) where
  -- The kind of a page tells that of the tree's own page.

  kind-there : (levels page : ℕ) (base : Paged) (tree : TreeOf levels) (cells : List (List ℕ)) (right : ℕ) (page_kind : PageKind) → IsOfIndex page_kind → page_of levels tree ≡ page
      → IsPage (base.pages page) page sizes.usable page_kind cells right → HasOwnPage sizes base Index levels tree → kind_at Index levels ≡ page_kind
  kind-there zero page base tree cells right page_kind (inl leaf) is told own = sym leaf
  kind-there zero page base tree cells right page_kind (inr inner) is told own =
      absurd (interior-levels sizes base Index zero page tree cells right is (subst (λ (k : PageKind). IsPage (base.pages page) page sizes.usable k cells right) inner told) own refl)
  kind-there (suc levels) page base tree cells right page_kind (inl leaf) is told own =
      absurd (none-suc levels (leaf-levels sizes base Index (suc levels) page tree cells right is (subst (λ (k : PageKind). IsPage (base.pages page) page sizes.usable k cells right) leaf told) own))
  kind-there (suc levels) page base tree cells right page_kind (inr inner) is told own = sym inner

  child-kind : (levels page : ℕ) (base : Paged) (cells : List Spelled) (right at : ℕ) (tree : TreeOf (suc levels)) (page_kind : PageKind) (own : List Spelled) (its_right : ℕ) → IsOfIndex page_kind
      → HasCells sizes base IndexInterior page cells right → page_of (suc levels) tree ≡ page → Stands sizes base Index (suc levels) tree → HasCells sizes base page_kind (child_page at cells right) own its_right
      → kind_at Index levels ≡ page_kind
  child-kind levels page base cells right at tree page_kind own its_right of has is stands child =
      let there = child-stands sizes Index base levels at tree.children tree.last stands.1.0 stands.1.1.1 in
      kind-there levels (child_page at cells right) base (child_at at tree.children tree.last) (bytes_in own) its_right page_kind of (child-there sizes levels page base cells right at tree has is stands) child.is_page there.0

  -- An interior page has levels below it.
  above-zero : {A : Type 0} (page : ℕ) (old : Paged) (cells : List Spelled) (right : ℕ) (tree : TreeOf zero) → HasCells sizes old IndexInterior page cells right → page_of zero tree ≡ page → Stands sizes old Index zero tree → A
  above-zero page old cells right tree has is stands = absurd (interior-levels sizes old Index zero page tree (bytes_in cells) right is has.is_page stands.0 refl)

  -- A leaf loses a cell.
  pub leaf-opens-under : (ends : Bool) (page : ℕ) (old : Paged) (cells : List Spelled) (right : ℕ) (front : List Spelled) (cell : Spelled) (back : List Spelled) → HasCells sizes old IndexLeaf page cells right
      → cells ≡ front ++ cell ∷ back → (ends ≡ true → back ≡ []) → OpensUnder sizes ends cell page (front ++ back) 0 old old
  leaf-opens-under ends page old cells right front cell back has parts none zero = leaf-opens sizes ends page old cells right front cell back has parts none
  leaf-opens-under ends page old cells right front cell back has parts none (suc levels) =
      λ tree trunks is free ready. absurd (none-suc levels (leaf-levels sizes old Index (suc levels) page tree (bytes_in cells) right is has.is_page ready.stands.0))

  module _ (ends : Bool) (out : Spelled) where
    -- A child that was cut, or not.

    pub grown-under : (page : ℕ) (old : Paged) (cells : List Spelled) (right at : ℕ) (between : Paged) (grew : List Spelled) → HasCells sizes old IndexInterior page cells right → at ≤ length cells
        → (ends ≡ true → length cells ≤ at) → GrowsUnder sizes ends out (child_page at cells right) old between grew → OpensUnder sizes ends out page (with_dividers cells at grew) right old between
    grown-under page old cells right at between grew has within last_goes below zero = λ tree trunks is free ready. above-zero page old cells right tree has is ready.stands
    grown-under page old cells right at between grew has within last_goes below (suc levels) = parent-grown sizes ends out levels page old cells right at between grew has within last_goes (below levels)

    pub stays-under : (page : ℕ) (old : Paged) (cells : List Spelled) (right at : ℕ) (new : Paged) → HasCells sizes old IndexInterior page cells right → 0 < length cells
        → (ends ≡ true → length cells ≤ at) → GrowsUnder sizes ends out (child_page at cells right) old new [] → GrowsUnder sizes ends out page old new []
    stays-under page old cells right at new has some last_goes below zero = λ tree trunks is free ready. above-zero page old cells right tree has is ready.stands
    stays-under page old cells right at new has some last_goes below (suc levels) = parent-stays sizes ends out levels page old cells right at new has some last_goes (below levels)

    -- A page that is to have some cells is settled.
    pub settled-under : (page_kind : PageKind) (page : ℕ) (old : Paged) (cells : List Spelled) (right : ℕ) (opened : List Spelled) (its_right : ℕ) (mid new : Paged) (dividers : List Spelled) → IsOfIndex page_kind
        → HasCells sizes old page_kind page cells right → OpensUnder sizes ends out page opened its_right old mid → 0 < length opened
        → ((levels : ℕ) → kind_at Index levels ≡ page_kind → IsSettled sizes levels Index page its_right opened mid new dividers) → GrowsUnder sizes ends out page old new dividers
    settled-under page_kind page old cells right opened its_right mid new dividers of has opens some settled levels tree trunks is free ready =
        page-settled sizes ends out levels page opened its_right old mid new dividers (opens levels) some
        (settled levels (kind-there levels page old tree (bytes_in cells) right page_kind of is has.is_page ready.stands.0)) tree trunks is free ready

  -- One cell of an interior page, and the children beside it.
  module _ (page : ℕ) (old : Paged) (cells : List Spelled) (right : ℕ) (front : List Spelled) (cell : Spelled) (back : List Spelled) (has : HasCells sizes old IndexInterior page cells right) (parts : cells ≡ front ++ cell ∷ back) where
    -- the page behind the one that the cell names
    abbrev next : ℕ
    next = child_page (length front) (front ++ back) right

    kind-named : (levels : ℕ) (tree : TreeOf (suc levels)) (page_kind : PageKind) (own : List Spelled) (its_right : ℕ) → IsOfIndex page_kind → page_of (suc levels) tree ≡ page → Stands sizes old Index (suc levels) tree
        → HasCells sizes old page_kind cell.view.child own its_right → kind_at Index levels ≡ page_kind
    kind-named levels tree page_kind own its_right of is stands child =
        let named : child_page (length front) cells right ≡ cell.view.child = ap (λ (cs : List Spelled). child_page (length front) cs right) parts ∙ child-named front cell back right in
        child-kind levels page old cells right (length front) tree page_kind own its_right of has is stands (subst⁻¹ (λ (p : ℕ). HasCells sizes old page_kind p own its_right) named child)

    kind-next : (levels : ℕ) (tree : TreeOf (suc levels)) (page_kind : PageKind) (own : List Spelled) (its_right : ℕ) → IsOfIndex page_kind → page_of (suc levels) tree ≡ page → Stands sizes old Index (suc levels) tree
        → HasCells sizes old page_kind next own its_right → kind_at Index levels ≡ page_kind
    kind-next levels tree page_kind own its_right of is stands child =
        let named : child_page (suc (length front)) cells right ≡ next = ap (λ (cs : List Spelled). child_page (suc (length front)) cs right) parts ∙ child-next front cell back right in
        child-kind levels page old cells right (suc (length front)) tree page_kind own its_right of has is stands (subst⁻¹ (λ (p : ℕ). HasCells sizes old page_kind p own its_right) named child)

    -- The last entry below the child that the cell names takes its place.
    pub replaced-under : (taken middle : Spelled) (between : Paged) (grew : List Spelled) → IsRaised middle taken → IsCell IndexInterior sizes.usable middle.bytes middle.view → middle.view.child ≡ cell.view.child
        → GrowsUnder sizes true taken cell.view.child old between grew → OpensUnder sizes false cell page (with_dividers (front ++ back) (length front) (grew ++ middle ∷ [])) right old between
    replaced-under taken middle between grew raised is_cell names below zero = λ tree trunks is free ready. above-zero page old cells right tree has is ready.stands
    replaced-under taken middle between grew raised is_cell names below (suc levels) =
        parent-replaced sizes levels page old cells right front cell back has parts taken middle between grew raised is_cell names (below levels)

    -- A page that would have no cell any more is joined with a neighbour.
    module _ (page_kind : PageKind) (of : IsOfIndex page_kind) (mid given written : Paged) (middle : Spelled) (is_cell : IsCell page_kind sizes.usable middle.bytes middle.view) (only : ℕ) (beside : List Spelled) (last : ℕ) (grew : List Spelled) where
      pub right-joins-under : (ends : Bool) (out : Spelled) → (ends ≡ true → back ≡ []) → IsRaised middle cell → EmptiesPage sizes ends out page_kind next only old mid → HasCells sizes mid page_kind cell.view.child beside last
          → (page_kind ≡ IndexInterior → middle.view.child ≡ last) → Releases sizes cell.view.child mid given
          → ((levels : ℕ) → kind_at Index levels ≡ page_kind → IsSettled sizes levels Index next only (beside ++ middle ∷ []) given written grew)
          → OpensUnder sizes ends out page (with_dividers (front ++ back) (length front) grew) right old written
      right-joins-under ends out none raised e has_beside names gives settled zero = λ tree trunks is free ready. above-zero page old cells right tree has is ready.stands
      right-joins-under ends out none raised e has_beside names gives settled (suc levels) =
          λ tree trunks is free ready.
          let kind = kind-next levels tree page_kind e.cells e.right of is ready.stands e.has in
          right-joins sizes levels page old cells right front cell back has parts mid given written middle (subst⁻¹ (λ (k : PageKind). IsCell k sizes.usable middle.bytes middle.view) kind is_cell) only beside last grew ends out none raised
          (e.empties levels) (subst⁻¹ (λ (k : PageKind). HasCells sizes mid k cell.view.child beside last) kind has_beside) (λ deep. names (sym kind ∙ deep-kind levels deep)) gives (settled levels kind) tree trunks is free ready

      pub left-joins-under : (out : Spelled) → IsRaised middle cell → EmptiesPage sizes false out page_kind cell.view.child only old mid → HasCells sizes mid page_kind next beside last → (page_kind ≡ IndexInterior → middle.view.child ≡ only)
          → Releases sizes cell.view.child mid given → ((levels : ℕ) → kind_at Index levels ≡ page_kind → IsSettled sizes levels Index next last (middle ∷ beside) given written grew)
          → OpensUnder sizes false out page (with_dividers (front ++ back) (length front) grew) right old written
      left-joins-under out raised e has_beside names gives settled zero = λ tree trunks is free ready. above-zero page old cells right tree has is ready.stands
      left-joins-under out raised e has_beside names gives settled (suc levels) =
          λ tree trunks is free ready.
          let kind = kind-named levels tree page_kind e.cells e.right of is ready.stands e.has in
          left-joins sizes levels page old cells right front cell back has parts mid given written middle (subst⁻¹ (λ (k : PageKind). IsCell k sizes.usable middle.bytes middle.view) kind is_cell) only beside last grew out raised
          (e.empties levels) (subst⁻¹ (λ (k : PageKind). HasCells sizes mid k next beside last) kind has_beside) (λ deep. names (sym kind ∙ deep-kind levels deep)) gives (settled levels kind) tree trunks is free ready

      -- Its last entry takes the place of the cell, which goes.
      pub replaced-joins-under : (taken : Spelled) → IsRaised middle taken → EmptiesPage sizes true taken page_kind cell.view.child only old mid → HasCells sizes mid page_kind next beside last → (page_kind ≡ IndexInterior → middle.view.child ≡ only)
          → Releases sizes cell.view.child mid given → ((levels : ℕ) → kind_at Index levels ≡ page_kind → IsSettled sizes levels Index next last (middle ∷ beside) given written grew)
          → OpensUnder sizes false cell page (with_dividers (front ++ back) (length front) grew) right old written
      replaced-joins-under taken raised e has_beside names gives settled zero = λ tree trunks is free ready. above-zero page old cells right tree has is ready.stands
      replaced-joins-under taken raised e has_beside names gives settled (suc levels) =
          λ tree trunks is free ready.
          let kind = kind-named levels tree page_kind e.cells e.right of is ready.stands e.has in
          replaced-joins sizes levels page old cells right front cell back has parts mid given written middle (subst⁻¹ (λ (k : PageKind). IsCell k sizes.usable middle.bytes middle.view) kind is_cell) only beside last grew taken raised
          (e.empties levels) (subst⁻¹ (λ (k : PageKind). HasCells sizes mid k next beside last) kind has_beside) (λ deep. names (sym kind ∙ deep-kind levels deep)) gives (settled levels kind) tree trunks is free ready

  -- Roots.
  module _ (out : Spelled) where
    pub root-stays-under : (root : ℕ) (old : Paged) (cells : List Spelled) (right at : ℕ) (new : Paged) → HasCells sizes old IndexInterior root cells right → (root ≢ 1 → 0 < length cells)
        → GrowsUnder sizes false out (child_page at cells right) old new [] → DeleteInto sizes out root old new
    root-stays-under root old cells right at new has some below zero = λ tree trunks is free ready. above-zero root old cells right tree has is ready.stands
    root-stays-under root old cells right at new has some below (suc levels) = root-unwritten sizes out levels root old cells right at new has some (below levels)

    pub rooted-under : (page_kind : PageKind) (root : ℕ) (old : Paged) (cells : List Spelled) (right : ℕ) (opened : List Spelled) (its_right : ℕ) (mid new : Paged) → IsOfIndex page_kind → HasCells sizes old page_kind root cells right
        → OpensUnder sizes false out root opened its_right old mid → (page_kind ≡ IndexInterior → root ≢ 1 → 0 < length opened)
        → ((levels : ℕ) → kind_at Index levels ≡ page_kind → IsRooted sizes levels Index root its_right opened mid new) → DeleteInto sizes out root old new
    rooted-under page_kind root old cells right opened its_right mid new of has opens some rooted levels tree trunks is free ready =
        let kind = kind-there levels root old tree (bytes_in cells) right page_kind of is has.is_page ready.stands.0 in
        root-rooted sizes out levels root opened its_right old mid new (opens levels) (λ deep. some (sym kind ∙ deep-kind levels deep)) (rooted levels kind) tree trunks is free ready

    -- A root that is to have no cell, and one child, takes what that has.
    pub takes-under : (page_kind : PageKind) (root : ℕ) (old : Paged) (cells : List Spelled) (right its_right : ℕ) (mid : Paged) (kept : List Spelled) (last : ℕ) (written new : Paged) → IsOfIndex page_kind
        → HasCells sizes old IndexInterior root cells right → OpensUnder sizes false out root [] its_right old mid → HasCells sizes mid page_kind its_right kept last → Writes root mid written
        → IsPage (written.pages root) root sizes.usable page_kind (bytes_in kept) last → Releases sizes its_right written new → DeleteInto sizes out root old new
    takes-under page_kind root old cells right its_right mid kept last written new of has opens below writes is_page gives zero = λ tree trunks is free ready. above-zero root old cells right tree has is ready.stands
    takes-under page_kind root old cells right its_right mid kept last written new of has opens below writes is_page gives (suc levels) =
        λ tree trunks is free ready.
        let o = opens (suc levels) tree trunks is free ready in
        let kind = kind-there levels its_right mid o.home.last (bytes_in kept) last page_kind of (sym o.right_is) below.is_page o.opened.below.1.1.0 in
        root-takes sizes out levels root old its_right mid kept last written new (opens (suc levels)) (subst⁻¹ (λ (k : PageKind). HasCells sizes mid k its_right kept last) kind below) writes
        (subst⁻¹ (λ (k : PageKind). IsPage (written.pages root) root sizes.usable k (bytes_in kept) last) kind is_page) gives tree trunks is free ready

    -- Page 1 without a cell, whose only child has none any more.
    pub only-under : (page_kind : PageKind) (old : Paged) (right only : ℕ) (mid written new : Paged) → IsOfIndex page_kind → HasCells sizes old IndexInterior 1 [] right → EmptiesPage sizes false out page_kind right only old mid
        → Writes 1 mid written → IsPage (written.pages 1) 1 sizes.usable page_kind [] only → Releases sizes right written new → DeleteInto sizes out 1 old new
    only-under page_kind old right only mid written new of has e writes is_page gives zero = λ tree trunks is free ready. above-zero 1 old [] right tree has is ready.stands
    only-under page_kind old right only mid written new of has e writes is_page gives (suc levels) =
        λ tree trunks is free ready.
        let kind = child-kind levels 1 old [] right 0 tree page_kind e.cells e.right of has is ready.stands e.has in
        root-only-child sizes out levels old right only mid written new has (e.empties levels) writes (subst⁻¹ (λ (k : PageKind). IsPage (written.pages 1) 1 sizes.usable k [] only) kind is_page) gives tree trunks is free ready
