-- A walk that finds nothing wrong is one over a standing tree: crates above cite these facts in their proofs.
use Rattle.std.proofs.Common.{◌≡◌, ◌≢◌, ℕ, ℤ, zero, suc, ◌+◌, ◌-◌, ◌<◌, ◌≤◌, ◌==◌, ◌⊎◌, Bool, true, false, IsFalse, List, [], ◌∷◌, ◌++◌, length, map, if◌then◌else◌, refl, sym, ap, ◌∙◌, subst, inl, inr, arith}
use Rattle.std.proofs.Math.Path.{subst⁻¹}
use Rattle.std.proofs.lemmas.Bool.{ne_eqb}
use Rattle.std.specs.List.{flat_map, AllByRecursion}
use Rattle.format_spec.specs.declared.PageKind.{PageKind}
use Rattle.format_spec.specs.declared.CellView.{CellView}
use Rattle.format_spec.specs.Cell.{IsCell}
use Rattle.format_spec.specs.Page.{IsPage, RightChild, header_place}
use Rattle.page_spec.specs.Chains.{last_linked}
use Rattle.cell_codec.specs.CellLaws.{cell-same}
use Rattle.refusal.specs.declared.Rule.TheVariants as broken
use Rattle.tree_spec.specs.declared.TreeKind.{TreeKind}
use Rattle.tree_spec.specs.declared.TreeKind.TheVariants.{Table, Index}
use Rattle.tree_spec.specs.Trees.{TreeCell, TreeOf, Rooted, Member, member, between, leaf_kind, interior_kind, page_of, own_cells, cells_behind, chain_pages, pages_of, pages_beside, list_of, list_beside, IsFull, IsFullBelow, IsFullRoot, root_of, pages_in, list_in, greatest_depth}
use Rattle.tree_spec.specs.Bounds.{RisesIn, BesideIn, InOrder, IsOrdered, below_rowids, greatest_rowid}
use Rattle.tree_spec.specs.WorldsLaws.{all-front, all-back}
use Rattle.tree_spec.specs.Standing.{Sizes, Paged, IsNumber, IsHeld, Stands, StandsBefore, StandsLast, IsRoot}
use Rattle.database_spec.specs.Walks.{Finding, Finds, Ends, Breaks, Bares, Seen, bytes_seen, is_empty, bare, IsRising, IsAccepted, IsCellVisit, AreCellVisits, IsChildVisit, AreChildVisits, GoesOn, IsInside, IsRead, IsVisit, IsWalk, members_found, pages_found, IsFlawless}
use Rattle.database_spec.specs.TreeWalksLaws.{members-join, numbers-join, chain-members, chain-numbers, regroup, seen, seen-bytes, IsBounded, AreBounded, HasRootCell}

leaf-right : (kind : TreeKind) (page : List ℕ) (place right : ℕ) → RightChild (leaf_kind kind) page place right → right ≡ 0
leaf-right Table page place right is = is
leaf-right Index page place right is = is

bounded-first : (kind : TreeKind) (levels : ℕ) (low high : ℤ) (last : TreeOf levels) → IsBounded kind levels low high last → AreBounded kind levels low high [] last
bounded-first Table levels low high last within = within
bounded-first Index levels low high last within = tt

bounded-more : (kind : TreeKind) (levels : ℕ) (low high rowid : ℤ) (child : TreeOf levels × TreeCell) (children : List (TreeOf levels × TreeCell)) (last : TreeOf levels) → child.1.view.rowid ≡ rowid
    → IsBounded kind levels low rowid child.0 → AreBounded kind levels rowid high children last → AreBounded kind levels low high (child ∷ children) last
bounded-more Table levels low high rowid child children last is within beside =
    (subst⁻¹ (λ (r : ℤ). InOrder levels low r child.0) is within, subst⁻¹ (λ (r : ℤ). BesideIn (InOrder levels) r high children last) is beside)
bounded-more Index levels low high rowid child children last is within beside = tt

bounded-inner : (kind : TreeKind) (levels : ℕ) (low high : ℤ) (tree : TreeOf (suc levels)) → AreBounded kind levels low high tree.children tree.last → IsBounded kind (suc levels) low high tree
bounded-inner Table levels low high tree within = within
bounded-inner Index levels low high tree within = tt

bounded-ordered : (kind : TreeKind) (levels : ℕ) (tree : TreeOf levels) → IsBounded kind levels below_rowids greatest_rowid tree → IsOrdered kind levels tree
bounded-ordered Table levels tree within = within
bounded-ordered Index levels tree within = tt

leaf-bounded : (kind : TreeKind) (low high : ℤ) (number : ℕ) (cells : List TreeCell) → IsRising kind low high (seen cells) → IsBounded kind zero low high (record { page = number; cells = cells })
leaf-bounded Table low high number cells rises = cells-rise low high cells rises
  where
    cells-rise : (low high : ℤ) (cells : List TreeCell) → RisesIn low high (map (λ (c : Seen). c.1.rowid) (seen cells)) → RisesIn low high (map (λ (c : TreeCell). c.view.rowid) cells)
    cells-rise low high [] rises = rises
    cells-rise low high (c ∷ cells) rises = (rises.0, cells-rise c.view.rowid high cells rises.1)
leaf-bounded Index low high number cells rises = tt

-- a page that is not empty has a cell
some-cell : (cells : List TreeCell) → IsFalse (is_empty false (seen cells)) → 0 < length cells
some-cell [] some = absurd (let h : ◌≡◌ {A = Bool} true false = some in let no : ⊥ = cc in no)
some-cell (c ∷ cells) some = omega arith

-- an interior root that is not page 1 has a cell
root-cell : (number : ℕ) (cells : List TreeCell) → bare true number (seen cells) ≡ [] → number ≢ 1 → 0 < length cells
root-cell number [] none apart =
    let barred : ◌≡◌ {A = List Finding} (Bares number ∷ []) [] = sym (ap (λ (b : Bool). if b then [] else (Bares number ∷ [])) (ne_eqb number 1 apart)) ∙ none in
    absurd (let no : ⊥ = cc in no)
root-cell number (c ∷ cells) none apart = omega arith

-- without a flaw the root is not bare
module _ (deepest : ℕ) where
  abbrev pub AreFlawless : List Finding → Type 0
  AreFlawless findings = AllByRecursion (IsFlawless deepest) findings

  flawless-if : (b : Bool) (number : ℕ) → AreFlawless (if b then [] else (Bares number ∷ [])) → (if b then [] else (Bares number ∷ [])) ≡ []
  flawless-if true number flawless = refl
  flawless-if false number flawless = absurd flawless.0

  flawless-bare : (root : Bool) (number : ℕ) (cells : List Seen) → AreFlawless (bare root number cells) → bare root number cells ≡ []
  flawless-bare true number [] flawless = flawless-if (number == 1) number flawless
  flawless-bare true number (cell ∷ cells) flawless = refl
  flawless-bare false number cells flawless = refl

module _ (sizes : Sizes) (base : Paged) (deepest : ℕ) where
  -- a cell that was found
  record FoundCell (page_kind : PageKind) (holds : TreeCell → List Member) (cell : Seen) (findings : List Finding) : Type 0 where
    own : TreeCell
    seen_is : (own.bytes, own.view) ≡ cell
    held : IsHeld sizes base page_kind own
    members_are : members_found findings ≡ holds own
    numbers_are : pages_found findings ≡ own.chain

  cell-of : (page_kind : PageKind) (holds : TreeCell → List Member) (page : ℕ) (cell : Seen) (findings : List Finding) → IsCell page_kind sizes.usable cell.0 cell.1
      → IsCellVisit sizes base page_kind holds page cell.0 findings → AreFlawless deepest findings → FoundCell page_kind holds cell findings
  cell-of page_kind holds page cell findings is (inl whole) flawless =
      let own = whole.cell in
      let view : own.view ≡ cell.1 = (cell-same page_kind sizes.usable own.bytes cell.0 [] [] own.view cell.1 whole.held.is_cell is (ap (λ (s : List ℕ). s ++ []) whole.bytes_are)).1 in
      record {
        own = own;
        seen_is = λ i. (whole.bytes_are i, view i);
        held = whole.held;
        members_are = ap members_found whole.findings_are ∙ chain-members page own.chain (holds own);
        numbers_are = ap pages_found whole.findings_are ∙ chain-numbers page own.chain (holds own);
      }
  cell-of page_kind holds page cell findings is (inr torn) flawless =
      let numbers = torn.is_broken.numbers in
      absurd (all-back (IsFlawless deepest) (map Finds numbers) (Breaks (last_linked page numbers) broken.Chain ∷ []) (subst (AreFlawless deepest) torn.findings_are flawless)).0

  module _ (kind : TreeKind) where
    -- the cells of a leaf
    record FoundCells (cells : List Seen) (findings : List Finding) : Type 0 where
      own : List TreeCell
      seen_are : seen own ≡ cells
      held : AllByRecursion (IsHeld sizes base (leaf_kind kind)) own
      members_are : members_found findings ≡ map member own
      numbers_are : pages_found findings ≡ chain_pages own

    cells-of : (page : ℕ) (cells : List Seen) (findings : List Finding) → AllByRecursion (λ (c : Seen). IsCell (leaf_kind kind) sizes.usable c.0 c.1) cells
        → AreCellVisits sizes base kind page cells findings → AreFlawless deepest findings → FoundCells cells findings
    cells-of page [] findings views none flawless = record { own = []; seen_are = refl; held = tt; members_are = ap members_found none; numbers_are = ap pages_found none }
    cells-of page (cell ∷ cells) findings views (here, later, is, are, e) flawless =
        let all = subst (AreFlawless deepest) e flawless in
        let one = cell-of (leaf_kind kind) (λ c. member c ∷ []) page cell here views.0 is (all-front (IsFlawless deepest) here later all) in
        let rest = cells-of page cells later views.1 are (all-back (IsFlawless deepest) here later all) in
        record {
          own = one.own ∷ rest.own;
          seen_are = λ i. one.seen_is i ∷ rest.seen_are i;
          held = (one.held, rest.held);
          members_are = ap members_found e ∙ members-join here later (member one.own ∷ []) (map member rest.own) one.members_are rest.members_are;
          numbers_are = ap pages_found e ∙ numbers-join here later one.own.chain (chain_pages rest.own) one.numbers_are rest.numbers_are;
        }

    -- a tree that was found below a page
    record FoundTree (levels : ℕ) (root : Bool) (low high : ℤ) (number : ℕ) (findings : List Finding) : Type 0 where
      tree : TreeOf levels
      page_is : page_of levels tree ≡ number
      stands : Stands sizes base kind levels tree
      bounded : IsBounded kind levels low high tree
      full : IsFullBelow levels tree
      some : IsFalse (is_empty root (seen (own_cells levels tree)))
      root_cell : HasRootCell root levels tree
      members_are : members_found findings ≡ list_of kind levels tree
      numbers_are : pages_found findings ≡ pages_of levels tree

    module _ (visit : ℤ → ℤ → ℕ → List Finding → Type 0) where
      -- an accepted leaf, and an accepted interior page, with what was found in it
      record OpenedLeaf (root : Bool) (depth : ℕ) (low high : ℤ) (number : ℕ) (findings : List Finding) : Type 0 where
        cells : List Seen
        right : ℕ
        accepted : IsAccepted sizes base number (leaf_kind kind) cells right
        ends : depth ≡ deepest
        some : IsFalse (is_empty root cells)
        rising : IsRising kind low high cells
        rest : List Finding
        findings_are : findings ≡ Finds number ∷ (Ends number depth ∷ rest)
        flawless : AreFlawless deepest rest
        visits : AreCellVisits sizes base kind number cells rest

      record OpenedInterior (root : Bool) (low high : ℤ) (number : ℕ) (findings : List Finding) : Type 0 where
        cells : List Seen
        right : ℕ
        accepted : IsAccepted sizes base number (interior_kind kind) cells right
        none : bare root number cells ≡ []
        some : IsFalse (is_empty root cells)
        rest : List Finding
        findings_are : findings ≡ Finds number ∷ (bare root number cells ++ rest)
        flawless : AreFlawless deepest rest
        visits : AreChildVisits sizes base kind visit number low high cells right rest

      goes-of : (root : Bool) (low high : ℤ) (number : ℕ) (cells : List Seen) (Inside : List Finding → Type 0) (findings : List Finding)
          → GoesOn sizes base kind visit root low high number cells Inside findings → AreFlawless deepest findings → IsFalse (is_empty root cells) × IsRising kind low high cells × Inside findings
      goes-of root low high number cells Inside findings (inl p) flawless = absurd (subst (AreFlawless deepest) p.1 flawless).0
      goes-of root low high number cells Inside findings (inr (inl p)) flawless = absurd (subst (AreFlawless deepest) p.2 flawless).0
      goes-of root low high number cells Inside findings (inr (inr p)) flawless = p

      inside-of : (root : Bool) (depth : ℕ) (low high : ℤ) (number : ℕ) (page_kind : PageKind) (cells : List Seen) (right : ℕ) (findings rest : List Finding) → findings ≡ Finds number ∷ rest
          → IsAccepted sizes base number page_kind cells right → IsInside sizes base kind visit root depth low high number page_kind cells right rest → AreFlawless deepest rest
          → OpenedLeaf root depth low high number findings ⊎ OpenedInterior root low high number findings
      inside-of root depth low high number page_kind cells right findings rest whole is (inl p) flawless = absurd (subst (AreFlawless deepest) p.2 flawless).0
      inside-of root depth low high number page_kind cells right findings rest whole is (inr (inl (k, (later, e, on)))) flawless =
          let all = subst (AreFlawless deepest) e flawless in
          let inside = goes-of root low high number cells (AreCellVisits sizes base kind number cells) later on all.1 in
          inl (record {
            cells = cells;
            right = right;
            accepted = subst (λ (p : PageKind). IsAccepted sizes base number p cells right) k is;
            ends = all.0;
            some = inside.0;
            rising = inside.1;
            rest = later;
            findings_are = whole ∙ ap (λ (r : List Finding). Finds number ∷ r) e;
            flawless = all.1;
            visits = inside.2;
          })
      inside-of root depth low high number page_kind cells right findings rest whole is (inr (inr (k, (later, e, on)))) flawless =
          let all = subst (AreFlawless deepest) e flawless in
          let behind = all-back (IsFlawless deepest) (bare root number cells) later all in
          let inside = goes-of root low high number cells (AreChildVisits sizes base kind visit number low high cells right) later on behind in
          inr (record {
            cells = cells;
            right = right;
            accepted = subst (λ (p : PageKind). IsAccepted sizes base number p cells right) k is;
            none = flawless-bare deepest root number cells (all-front (IsFlawless deepest) (bare root number cells) later all);
            some = inside.0;
            rest = later;
            findings_are = whole ∙ ap (λ (r : List Finding). Finds number ∷ r) e;
            flawless = behind;
            visits = inside.2;
          })

      read-of : (root : Bool) (depth : ℕ) (low high : ℤ) (number : ℕ) (findings rest : List Finding) → findings ≡ Finds number ∷ rest
          → IsRead sizes base kind visit root depth low high number rest → AreFlawless deepest findings
          → OpenedLeaf root depth low high number findings ⊎ OpenedInterior root low high number findings
      read-of root depth low high number findings rest whole (inl (rule, refused, e)) flawless = absurd (subst (AreFlawless deepest) e (subst (AreFlawless deepest) whole flawless).1).0
      read-of root depth low high number findings rest whole (inr (page_kind, cells, right, is, inside)) flawless =
          inside-of root depth low high number page_kind cells right findings rest whole is inside (subst (AreFlawless deepest) whole flawless).1

      child-in : (parent : ℕ) (low high : ℤ) (number : ℕ) (findings : List Finding) → IsChildVisit sizes base kind visit parent low high number findings → AreFlawless deepest findings
          → IsNumber sizes base number × visit low high number findings
      child-in parent low high number findings (inl out) flawless = absurd (subst (AreFlawless deepest) out.1 flawless).0
      child-in parent low high number findings (inr in_range) flawless = in_range

      -- the right child is visited
      last-visit : (page : ℕ) (low high : ℤ) (cells : List Seen) (right : ℕ) (findings : List Finding) → AreChildVisits sizes base kind visit page low high cells right findings → AreFlawless deepest findings
          → (bound : ℤ) × (later : List Finding) × visit bound high right later × AreFlawless deepest later
      last-visit page low high [] right findings visits flawless = (low, findings, (child-in page low high right findings visits flawless).1, flawless)
      last-visit page low high (cell ∷ cells) right findings (child, own, later, c, is, are, e) flawless =
          let all = all-back (IsFlawless deepest) child (own ++ later) (subst (AreFlawless deepest) e flawless) in
          last-visit page cell.1.rowid high cells right later are (all-back (IsFlawless deepest) own later all)

      module _ (levels : ℕ) (below : (low high : ℤ) (number : ℕ) (findings : List Finding) → visit low high number findings → AreFlawless deepest findings → FoundTree levels false low high number findings) where
        -- the children of an interior page
        record FoundChildren (low high : ℤ) (cells : List Seen) (right : ℕ) (findings : List Finding) : Type 0 where
          children : List (TreeOf levels × TreeCell)
          last : TreeOf levels
          seen_are : seen (cells_behind children) ≡ cells
          last_is : page_of levels last ≡ right
          stand : AllByRecursion (StandsBefore sizes base kind levels) children
          stands : StandsLast sizes base kind levels last
          bounded : AreBounded kind levels low high children last
          full : AllByRecursion (λ (child : TreeOf levels × TreeCell). IsFull levels child.0) children
          full_last : IsFull levels last
          members_are : members_found findings ≡ list_beside kind levels children last
          numbers_are : pages_found findings ≡ pages_beside levels children last

        children-of : (page : ℕ) (low high : ℤ) (cells : List Seen) (right : ℕ) (findings : List Finding) → AllByRecursion (λ (c : Seen). IsCell (interior_kind kind) sizes.usable c.0 c.1) cells
            → AreChildVisits sizes base kind visit page low high cells right findings → AreFlawless deepest findings → FoundChildren low high cells right findings
        children-of page low high [] right findings views visits flawless =
            let child = child-in page low high right findings visits flawless in
            let one = below low high right findings child.1 flawless in
            record {
              children = [];
              last = one.tree;
              seen_are = refl;
              last_is = one.page_is;
              stand = tt;
              stands = (subst⁻¹ (IsNumber sizes base) one.page_is child.0, one.stands);
              bounded = bounded-first kind levels low high one.tree one.bounded;
              full = tt;
              full_last = (some-cell (own_cells levels one.tree) one.some, one.full);
              members_are = one.members_are;
              numbers_are = one.numbers_are;
            }
        children-of page low high (cell ∷ cells) right findings views (first, own, later, c, is, are, e) flawless =
            let all = subst (AreFlawless deepest) e flawless in
            let behind = all-back (IsFlawless deepest) first (own ++ later) all in
            let here = all-front (IsFlawless deepest) first (own ++ later) all in
            let child = child-in page low cell.1.rowid cell.1.child first c here in
            let one = below low cell.1.rowid cell.1.child first child.1 here in
            let two = cell-of (interior_kind kind) (between kind) page cell own views.0 is (all-front (IsFlawless deepest) own later behind) in
            let rest = children-of page cell.1.rowid high cells right later views.1 are (all-back (IsFlawless deepest) own later behind) in
            let view : two.own.view ≡ cell.1 = ap (λ (s : Seen). s.1) two.seen_is in
            let list = list_of kind levels one.tree in
            let pages = pages_of levels one.tree in
            record {
              children = (one.tree, two.own) ∷ rest.children;
              last = rest.last;
              seen_are = λ i. two.seen_is i ∷ rest.seen_are i;
              last_is = rest.last_is;
              stand = (
                (
                  record {
                    held = two.held;
                    names = ap (λ (v : CellView). v.child) view ∙ sym one.page_is;
                    in_range = subst⁻¹ (IsNumber sizes base) one.page_is child.0;
                  },
                  one.stands,
                ),
                rest.stand,
              );
              stands = rest.stands;
              bounded =
                  bounded-more kind levels low high cell.1.rowid (one.tree, two.own) rest.children rest.last (ap (λ (v : CellView). v.rowid) view) one.bounded rest.bounded;
              full = ((some-cell (own_cells levels one.tree) one.some, one.full), rest.full);
              full_last = rest.full_last;
              members_are =
                  ap members_found e
                  ∙ members-join first (own ++ later) list (between kind two.own ++ list_beside kind levels rest.children rest.last) one.members_are
                  (members-join own later (between kind two.own) (list_beside kind levels rest.children rest.last) two.members_are rest.members_are)
                  ∙ regroup list (between kind two.own) (flat_map (λ (c : TreeOf levels × TreeCell). list_of kind levels c.0 ++ between kind c.1) rest.children) (list_of kind levels rest.last);
              numbers_are =
                  ap pages_found e
                  ∙ numbers-join first (own ++ later) pages (two.own.chain ++ pages_beside levels rest.children rest.last) one.numbers_are
                  (numbers-join own later two.own.chain (pages_beside levels rest.children rest.last) two.numbers_are rest.numbers_are)
                  ∙ regroup pages two.own.chain (flat_map (λ (c : TreeOf levels × TreeCell). pages_of levels c.0 ++ c.1.chain) rest.children) (pages_of levels rest.last);
            }

        interior-of : (root : Bool) (low high : ℤ) (number : ℕ) (findings : List Finding) → OpenedInterior root low high number findings → FoundTree (suc levels) root low high number findings
        interior-of root low high number findings opened =
            let found = children-of number low high opened.cells opened.right opened.rest opened.accepted.views opened.visits opened.flawless in
            let own = cells_behind found.children in
            let bytes : bytes_seen opened.cells ≡ map (λ (c : TreeCell). c.bytes) own = sym (ap bytes_seen found.seen_are) ∙ seen-bytes own in
            let page = λ (b : List (List ℕ)) (r : ℕ). IsPage (base.pages number) number sizes.usable (interior_kind kind) b r in
            let is_page = subst (λ (b : List (List ℕ)). page b opened.right) bytes opened.accepted.is_page in
            let whole = opened.findings_are ∙ ap (λ (b : List Finding). Finds number ∷ (b ++ opened.rest)) opened.none in
            record {
              tree = record { page = number; children = found.children; last = found.last };
              page_is = refl;
              stands = (subst⁻¹ (page (map (λ (c : TreeCell). c.bytes) own)) found.last_is is_page, (found.stand, found.stands));
              bounded = bounded-inner kind levels low high (record { page = number; children = found.children; last = found.last }) found.bounded;
              full = (found.full, found.full_last);
              some = subst⁻¹ (λ (s : List Seen). IsFalse (is_empty root s)) found.seen_are opened.some;
              root_cell = ap (bare root number) found.seen_are ∙ opened.none;
              members_are = ap members_found whole ∙ found.members_are;
              numbers_are = ap pages_found whole ∙ ap (λ (ns : List ℕ). number ∷ ns) found.numbers_are;
            }

      leaf-of : (root : Bool) (depth : ℕ) (low high : ℤ) (number : ℕ) (findings : List Finding) → OpenedLeaf root depth low high number findings → FoundTree zero root low high number findings
      leaf-of root depth low high number findings opened =
          let found = cells-of number opened.cells opened.rest opened.accepted.views opened.visits opened.flawless in
          let bytes : bytes_seen opened.cells ≡ map (λ (c : TreeCell). c.bytes) found.own = sym (ap bytes_seen found.seen_are) ∙ seen-bytes found.own in
          let page = λ (b : List (List ℕ)) (r : ℕ). IsPage (base.pages number) number sizes.usable (leaf_kind kind) b r in
          let is_page = subst (λ (b : List (List ℕ)). page b opened.right) bytes opened.accepted.is_page in
          let none = leaf-right kind (base.pages number) (header_place number) opened.right opened.accepted.is_page.right_child in
          record {
            tree = record { page = number; cells = found.own };
            page_is = refl;
            stands = (subst (page (map (λ (c : TreeCell). c.bytes) found.own)) none is_page, found.held);
            bounded = leaf-bounded kind low high number found.own (subst⁻¹ (IsRising kind low high) found.seen_are opened.rising);
            full = tt;
            some = subst⁻¹ (λ (s : List Seen). IsFalse (is_empty root s)) found.seen_are opened.some;
            root_cell = tt;
            members_are = ap members_found opened.findings_are ∙ found.members_are;
            numbers_are = ap pages_found opened.findings_are ∙ ap (λ (ns : List ℕ). number ∷ ns) found.numbers_are;
          }

      -- a tree with so many levels, by what is known of the pages below
      opened-tree : (depth levels : ℕ) → depth + levels ≡ deepest → ((low high : ℤ) (number : ℕ) (findings : List Finding) → visit low high number findings → AreFlawless deepest findings → suc depth ≤ deepest)
          → ((levels : ℕ) → suc depth + levels ≡ deepest → (low high : ℤ) (number : ℕ) (findings : List Finding) → visit low high number findings → AreFlawless deepest findings → FoundTree levels false low high number findings)
          → (root : Bool) (low high : ℤ) (number : ℕ) (findings : List Finding) → OpenedLeaf root depth low high number findings ⊎ OpenedInterior root low high number findings → FoundTree levels root low high number findings
      opened-tree depth zero far deep below root low high number findings (inl leaf) = leaf-of root depth low high number findings leaf
      opened-tree depth (suc levels) far deep below root low high number findings (inl leaf) = absurd (omega (arith, far, leaf.ends))
      opened-tree depth zero far deep below root low high number findings (inr inner) =
          let last = last-visit number low high inner.cells inner.right inner.rest inner.visits inner.flawless in
          absurd (omega (arith, far, deep last.0 high inner.right last.1 last.2 last.3))
      opened-tree depth (suc levels) far deep below root low high number findings (inr inner) = interior-of levels (below levels (omega (arith, far))) root low high number findings inner

    -- no page stands deeper than the leaves
    visit-deep : (left : ℕ) (root : Bool) (depth : ℕ) (low high : ℤ) (number : ℕ) (findings : List Finding) → IsVisit sizes base kind left root depth low high number findings → AreFlawless deepest findings → depth ≤ deepest
    visit-deep zero root depth low high number findings visit flawless = absurd (subst (AreFlawless deepest) visit flawless).1.0
    visit-deep (suc left) root depth low high number findings (rest, e, read) flawless =
        elim (read-of (IsVisit sizes base kind left false (suc depth)) root depth low high number findings rest e read flawless) [
          | inl leaf ↦ omega (arith, leaf.ends)
          | inr inner ↦
              let last = last-visit (IsVisit sizes base kind left false (suc depth)) number low high inner.cells inner.right inner.rest inner.visits inner.flawless in
              omega (arith, visit-deep left false (suc depth) last.0 high inner.right last.1 last.2 last.3)
        ]

    visit-tree : (left : ℕ) (root : Bool) (depth levels : ℕ) → depth + levels ≡ deepest → (low high : ℤ) (number : ℕ) (findings : List Finding)
        → IsVisit sizes base kind left root depth low high number findings → AreFlawless deepest findings → FoundTree levels root low high number findings
    visit-tree zero root depth levels far low high number findings visit flawless = absurd (subst (AreFlawless deepest) visit flawless).1.0
    visit-tree (suc left) root depth levels far low high number findings (rest, e, read) flawless =
        let visit = IsVisit sizes base kind left false (suc depth) in
        opened-tree visit depth levels far (visit-deep left false (suc depth)) (visit-tree left false (suc depth)) root low high number findings (read-of visit root depth low high number findings rest e read flawless)

-- the tree of a root, as a walk found it
pub record FoundRoot (sizes : Sizes) (base : Paged) (kind : TreeKind) (root : ℕ) (findings : List Finding) : Type 0 where
  pub rooted : Rooted
  pub is_root : IsRoot sizes base rooted
  pub root_is : root_of rooted ≡ root
  pub kind_is : rooted.kind ≡ kind
  pub members_are : members_found findings ≡ list_in rooted
  pub numbers_are : pages_found findings ≡ pages_in rooted

full-root : (levels : ℕ) (tree : TreeOf levels) → IsFullBelow levels tree → HasRootCell true levels tree → IsFullRoot levels tree
full-root zero tree full some = record { below = full; root = λ above apart. absurd (omega (arith, above)) }
full-root (suc levels) tree full some = record { below = full; root = λ above. root-cell tree.page (cells_behind tree.children) some }

-- what a walk found without a flaw is a tree with these members and pages
pub walk-tree : (sizes : Sizes) (base : Paged) (kind : TreeKind) (root deepest : ℕ) (findings : List Finding) → IsWalk sizes base kind root findings → AreFlawless deepest findings → FoundRoot sizes base kind root findings
walk-tree sizes base kind root deepest findings walk flawless =
    let some = visit-deep sizes base deepest kind greatest_depth true 1 below_rowids greatest_rowid root findings walk flawless in
    let levels = deepest - 1 in
    let found = visit-tree sizes base deepest kind greatest_depth true 1 levels (omega (arith, some)) below_rowids greatest_rowid root findings walk flawless in
    record {
      rooted = record { kind = kind; levels = levels; tree = found.tree };
      is_root = record { stands = found.stands; ordered = bounded-ordered kind levels found.tree found.bounded; full = full-root levels found.tree found.full found.root_cell };
      root_is = found.page_is;
      kind_is = refl;
      members_are = found.members_are;
      numbers_are = found.numbers_are;
    }
