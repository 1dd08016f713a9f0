-- A walk over a standing tree finds its members and its pages, and nothing that is wrong: crates above cite these facts in their proofs.
use Rattle.std.proofs.Common.{◌≡◌, ◌≢◌, ℕ, ℤ, zero, suc, ◌+◌, ◌<◌, ◌==◌, Bool, true, false, List, [], ◌∷◌, ◌++◌, length, map, if◌then◌else◌, refl, sym, ap, ap₂, ◌∙◌, subst, inl, inr, arith, append_assoc}
use Rattle.std.proofs.Math.Path.{subst⁻¹}
use Rattle.std.specs.List.{flat_map, AllByRecursion}
use Rattle.std.proofs.lemmas.Bool.{cases_eq, eq-eqb}
use Rattle.std.proofs.lemmas.List.Elements.{filter_map-append}
use Rattle.format_spec.specs.declared.PageKind.{PageKind}
use Rattle.format_spec.specs.Cell.{IsCell}
use Rattle.format_spec.specs.Page.{IsPage}
use Rattle.tree_spec.specs.declared.TreeKind.{TreeKind}
use Rattle.tree_spec.specs.declared.TreeKind.TheVariants.{Table, Index}
use Rattle.tree_spec.specs.Trees.{TreeCell, TreeOf, Rooted, Member, member, between, leaf_kind, interior_kind, page_of, own_cells, cells_behind, chain_pages, pages_of, pages_beside, list_of, list_beside, IsFull, IsFullBelow, IsFullRoot, root_of, pages_in, list_in, depth_of, greatest_depth}
use Rattle.tree_spec.specs.Bounds.{RisesIn, BesideIn, InOrder, IsOrdered, below_rowids, greatest_rowid}
use Rattle.tree_spec.specs.BoundsLaws.{own_cells-rise}
use Rattle.tree_spec.specs.WorldsLaws.{all-join}
use Rattle.tree_spec.specs.Standing.{Sizes, Paged, IsHeld, Stands, StandsBefore, StandsLast, IsRoot, IsTree}
use Rattle.database_spec.specs.Walks.{Finding, Finds, Ends, Holds, Breaks, Disorders, Bares, Seen, bytes_seen, is_empty, bare, IsRising, IsAccepted, IsCellVisit, AreCellVisits, IsChildVisit, AreChildVisits, IsVisit, IsWalk, stops, member_of, members_found, page_in, pages_found, IsFlawless, IsList}

-- something finds these members and pages, nothing that is wrong, and leaves so many pages from the root
pub record FindsAll (deepest : ℕ) (Visit : List Finding → Type 0) (members : List Member) (numbers : List ℕ) : Type 0 where
  pub findings : List Finding
  pub is_visit : Visit findings
  pub flawless : AllByRecursion (IsFlawless deepest) findings
  pub members_are : members_found findings ≡ members
  pub numbers_are : pages_found findings ≡ numbers

-- a cursor comes to the end of what is without a flaw
pub flawless-goes_on : (deepest : ℕ) (findings : List Finding) → AllByRecursion (IsFlawless deepest) findings → stops findings ≡ []
flawless-goes_on deepest [] flawless = refl
flawless-goes_on deepest (Finds page ∷ findings) flawless = flawless-goes_on deepest findings flawless.1
flawless-goes_on deepest (Ends page depth ∷ findings) flawless = flawless-goes_on deepest findings flawless.1
flawless-goes_on deepest (Holds page member ∷ findings) flawless = flawless-goes_on deepest findings flawless.1
flawless-goes_on deepest (Breaks page rule ∷ findings) flawless = absurd flawless.0
flawless-goes_on deepest (Disorders page ∷ findings) flawless = absurd flawless.0
flawless-goes_on deepest (Bares page ∷ findings) flawless = absurd flawless.0

pub members-join : (a b : List Finding) (xs ys : List Member) → members_found a ≡ xs → members_found b ≡ ys → members_found (a ++ b) ≡ xs ++ ys
members-join a b xs ys p q = filter_map-append member_of a b ∙ ap₂ (λ x y. x ++ y) p q

pub numbers-join : (a b : List Finding) (xs ys : List ℕ) → pages_found a ≡ xs → pages_found b ≡ ys → pages_found (a ++ b) ≡ xs ++ ys
numbers-join a b xs ys p q = filter_map-append page_in a b ∙ ap₂ (λ x y. x ++ y) p q

-- a cell without a flaw: the pages of its chain, and then what it holds
pub chain-flawless : (deepest page : ℕ) (numbers : List ℕ) (members : List Member) → AllByRecursion (IsFlawless deepest) (map Finds numbers ++ map (Holds page) members)
chain-flawless deepest page [] [] = tt
chain-flawless deepest page [] (m ∷ members) = (tt, chain-flawless deepest page [] members)
chain-flawless deepest page (n ∷ numbers) members = (tt, chain-flawless deepest page numbers members)

pub chain-members : (page : ℕ) (numbers : List ℕ) (members : List Member) → members_found (map Finds numbers ++ map (Holds page) members) ≡ members
chain-members page [] [] = refl
chain-members page [] (m ∷ members) = ap (λ ms. m ∷ ms) (chain-members page [] members)
chain-members page (n ∷ numbers) members = chain-members page numbers members

pub chain-numbers : (page : ℕ) (numbers : List ℕ) (members : List Member) → pages_found (map Finds numbers ++ map (Holds page) members) ≡ numbers
chain-numbers page [] [] = refl
chain-numbers page [] (m ∷ members) = chain-numbers page [] members
chain-numbers page (n ∷ numbers) members = ap (λ ns. n ∷ ns) (chain-numbers page numbers members)

-- four lists one behind the other, as a tree groups them
pub regroup : {A : Type 0} (a b c d : List A) → a ++ (b ++ (c ++ d)) ≡ ((a ++ b) ++ c) ++ d
regroup a b c d = sym (append_assoc (a ++ b) c d ∙ append_assoc a b (c ++ d))

abbrev pub seen : List TreeCell → List Seen
seen cells = map (λ cell. (cell.bytes, cell.view)) cells

pub seen-bytes : (cells : List TreeCell) → bytes_seen (seen cells) ≡ map (λ (c : TreeCell). c.bytes) cells
seen-bytes [] = refl
seen-bytes (c ∷ cells) = ap (λ (bs : List (List ℕ)). c.bytes ∷ bs) (seen-bytes cells)

-- a table's tree is in order within bounds; those of an index do not count
abbrev pub IsBounded : TreeKind → (levels : ℕ) → ℤ → ℤ → TreeOf levels → Type 0
IsBounded Table levels low high tree = InOrder levels low high tree
IsBounded Index levels low high tree = Unit {0}

abbrev pub AreBounded : TreeKind → (levels : ℕ) → ℤ → ℤ → List (TreeOf levels × TreeCell) → TreeOf levels → Type 0
AreBounded Table levels low high children last = BesideIn (InOrder levels) low high children last
AreBounded Index levels low high children last = Unit {0}

bounded-children : (kind : TreeKind) (levels : ℕ) (low high : ℤ) (tree : TreeOf (suc levels)) → IsBounded kind (suc levels) low high tree → AreBounded kind levels low high tree.children tree.last
bounded-children Table levels low high tree h = h
bounded-children Index levels low high tree h = tt

bounded-first : (kind : TreeKind) (levels : ℕ) (low high : ℤ) (child : TreeOf levels × TreeCell) (children : List (TreeOf levels × TreeCell)) (last : TreeOf levels)
    → AreBounded kind levels low high (child ∷ children) last → IsBounded kind levels low child.1.view.rowid child.0
bounded-first Table levels low high child children last h = h.0
bounded-first Index levels low high child children last h = tt

bounded-rest : (kind : TreeKind) (levels : ℕ) (low high : ℤ) (child : TreeOf levels × TreeCell) (children : List (TreeOf levels × TreeCell)) (last : TreeOf levels)
    → AreBounded kind levels low high (child ∷ children) last → AreBounded kind levels child.1.view.rowid high children last
bounded-rest Table levels low high child children last h = h.1
bounded-rest Index levels low high child children last h = tt

bounded-last : (kind : TreeKind) (levels : ℕ) (low high : ℤ) (last : TreeOf levels) → AreBounded kind levels low high [] last → IsBounded kind levels low high last
bounded-last Table levels low high last h = h
bounded-last Index levels low high last h = tt

seen-rise : (low high : ℤ) (cells : List TreeCell) → RisesIn low high (map (λ (c : TreeCell). c.view.rowid) cells) → RisesIn low high (map (λ (c : Seen). c.1.rowid) (seen cells))
seen-rise low high [] rises = rises
seen-rise low high (c ∷ cells) rises = (rises.0, seen-rise c.view.rowid high cells rises.1)

own-rises : (kind : TreeKind) (levels : ℕ) (low high : ℤ) (tree : TreeOf levels) → IsFullBelow levels tree → IsBounded kind levels low high tree → IsRising kind low high (seen (own_cells levels tree))
own-rises Table levels low high tree full within = seen-rise low high (own_cells levels tree) (own_cells-rise levels low high tree full within)
own-rises Index levels low high tree full within = tt

full-not_empty : (cells : List TreeCell) → 0 < length cells → is_empty false (seen cells) ≡ false
full-not_empty [] some = absurd (omega arith)
full-not_empty (c ∷ cells) some = refl

-- an interior root has a cell, or is page 1
abbrev pub HasRootCell : Bool → (levels : ℕ) → TreeOf levels → Type 0
HasRootCell root zero tree = Unit {0}
HasRootCell root (suc levels) tree = bare root tree.page (seen (cells_behind tree.children)) ≡ []

below-root : (levels : ℕ) (tree : TreeOf levels) → HasRootCell false levels tree
below-root zero tree = tt
below-root (suc levels) tree = refl

bare-none : (number : ℕ) (cells : List TreeCell) → (number ≢ 1 → 0 < length cells) → bare true number (seen cells) ≡ []
bare-none number [] some =
    elim (cases_eq number 1) [
      | inl same ↦ ap (λ (b : Bool). if b then [] else (Bares number ∷ [])) (eq-eqb number 1 same)
      | inr apart ↦ absurd (omega (arith, some apart))
    ]
bare-none number (c ∷ cells) some = refl

full-root : (levels : ℕ) (tree : TreeOf levels) → IsFullRoot levels tree → HasRootCell true levels tree
full-root zero tree full = tt
full-root (suc levels) tree full = bare-none tree.page (cells_behind tree.children) (full.root (omega arith))

module _ (sizes : Sizes) (base : Paged) where
  seen-views : (page_kind : PageKind) (cells : List TreeCell) → AllByRecursion (IsHeld sizes base page_kind) cells → AllByRecursion (λ (c : Seen). IsCell page_kind sizes.usable c.0 c.1) (seen cells)
  seen-views page_kind [] held = tt
  seen-views page_kind (c ∷ cells) held = (held.0.is_cell, seen-views page_kind cells held.1)

  accepted-own : (page_kind : PageKind) (number right : ℕ) (cells : List TreeCell) → IsPage (base.pages number) number sizes.usable page_kind (map (λ (c : TreeCell). c.bytes) cells) right
      → AllByRecursion (IsHeld sizes base page_kind) cells → IsAccepted sizes base number page_kind (seen cells) right
  accepted-own page_kind number right cells is held = record {
    is_page = subst⁻¹ (λ (bs : List (List ℕ)). IsPage (base.pages number) number sizes.usable page_kind bs right) (seen-bytes cells) is;
    views = seen-views page_kind cells held;
  }

  module _ (deepest : ℕ) where
    -- a held cell
    cell-found : (page_kind : PageKind) (holds : TreeCell → List Member) (page : ℕ) (cell : TreeCell) → IsHeld sizes base page_kind cell
        → FindsAll deepest (IsCellVisit sizes base page_kind holds page cell.bytes) (holds cell) cell.chain
    cell-found page_kind holds page cell held = record {
      findings = map Finds cell.chain ++ map (Holds page) (holds cell);
      is_visit = inl (record { cell = cell; bytes_are = refl; held = held; findings_are = refl });
      flawless = chain-flawless deepest page cell.chain (holds cell);
      members_are = chain-members page cell.chain (holds cell);
      numbers_are = chain-numbers page cell.chain (holds cell);
    }

    module _ (kind : TreeKind) where
      cells-found : (page : ℕ) (cells : List TreeCell) → AllByRecursion (IsHeld sizes base (leaf_kind kind)) cells
          → FindsAll deepest (AreCellVisits sizes base kind page (seen cells)) (map member cells) (chain_pages cells)
      cells-found page [] held = record { findings = []; is_visit = refl; flawless = tt; members_are = refl; numbers_are = refl }
      cells-found page (cell ∷ cells) held =
          let one = cell-found (leaf_kind kind) (λ c. member c ∷ []) page cell held.0 in
          let rest = cells-found page cells held.1 in
          record {
            findings = one.findings ++ rest.findings;
            is_visit = (one.findings, rest.findings, one.is_visit, rest.is_visit, refl);
            flawless = all-join (IsFlawless deepest) one.findings rest.findings one.flawless rest.flawless;
            members_are = members-join one.findings rest.findings (member cell ∷ []) (map member cells) one.members_are rest.members_are;
            numbers_are = numbers-join one.findings rest.findings cell.chain (chain_pages cells) one.numbers_are rest.numbers_are;
          }

      module _ (levels : ℕ) (visit : ℤ → ℤ → ℕ → List Finding → Type 0)
          (below : (low high : ℤ) (tree : TreeOf levels) → Stands sizes base kind levels tree → IsBounded kind levels low high tree → IsFull levels tree
          → FindsAll deepest (visit low high (page_of levels tree)) (list_of kind levels tree) (pages_of levels tree)) where
        last-found : (parent : ℕ) (low high : ℤ) (last : TreeOf levels) → StandsLast sizes base kind levels last → IsBounded kind levels low high last → IsFull levels last
            → FindsAll deepest (IsChildVisit sizes base kind visit parent low high (page_of levels last)) (list_of kind levels last) (pages_of levels last)
        last-found parent low high last stands bounded full =
            let found = below low high last stands.1 bounded full in
            record { findings = found.findings; is_visit = inr (stands.0, found.is_visit); flawless = found.flawless; members_are = found.members_are; numbers_are = found.numbers_are }

        children-found : (page : ℕ) (low high : ℤ) (children : List (TreeOf levels × TreeCell)) (last : TreeOf levels)
            → AllByRecursion (StandsBefore sizes base kind levels) children → StandsLast sizes base kind levels last → AreBounded kind levels low high children last
            → AllByRecursion (λ child. IsFull levels child.0) children → IsFull levels last
            → FindsAll deepest (AreChildVisits sizes base kind visit page low high (seen (cells_behind children)) (page_of levels last)) (list_beside kind levels children last)
            (pages_beside levels children last)
        children-found page low high [] last stand stands bounded full full_last = last-found page low high last stands (bounded-last kind levels low high last bounded) full_last
        children-found page low high (child ∷ children) last stand stands bounded full full_last =
            let rowid = child.1.view.rowid in
            let first = last-found page low rowid child.0 (stand.0.0.in_range, stand.0.1) (bounded-first kind levels low high child children last bounded) full.0 in
            let named : page_of levels child.0 ≡ child.1.view.child = sym stand.0.0.names in
            let own = cell-found (interior_kind kind) (between kind) page child.1 stand.0.0.held in
            let rest = children-found page rowid high children last stand.1 stands (bounded-rest kind levels low high child children last bounded) full.1 full_last in
            record {
              findings = first.findings ++ (own.findings ++ rest.findings);
              is_visit = (
                first.findings,
                own.findings,
                rest.findings,
                subst (λ (n : ℕ). IsChildVisit sizes base kind visit page low rowid n first.findings) named first.is_visit,
                own.is_visit,
                rest.is_visit,
                refl,
              );
              flawless =
                  all-join (IsFlawless deepest) first.findings (own.findings ++ rest.findings) first.flawless
                  (all-join (IsFlawless deepest) own.findings rest.findings own.flawless rest.flawless);
              members_are =
                  members-join first.findings (own.findings ++ rest.findings) (list_of kind levels child.0) (between kind child.1 ++ list_beside kind levels children last) first.members_are
                  (members-join own.findings rest.findings (between kind child.1) (list_beside kind levels children last) own.members_are rest.members_are)
                  ∙ regroup (list_of kind levels child.0) (between kind child.1) (flat_map (λ (c : TreeOf levels × TreeCell). list_of kind levels c.0 ++ between kind c.1) children)
                  (list_of kind levels last);
              numbers_are =
                  numbers-join first.findings (own.findings ++ rest.findings) (pages_of levels child.0) (child.1.chain ++ pages_beside levels children last) first.numbers_are
                  (numbers-join own.findings rest.findings child.1.chain (pages_beside levels children last) own.numbers_are rest.numbers_are)
                  ∙ regroup (pages_of levels child.0) child.1.chain (flat_map (λ (c : TreeOf levels × TreeCell). pages_of levels c.0 ++ c.1.chain) children) (pages_of levels last);
            }

      held_behind : (levels : ℕ) (children : List (TreeOf levels × TreeCell)) → AllByRecursion (StandsBefore sizes base kind levels) children → AllByRecursion (IsHeld sizes base (interior_kind kind)) (cells_behind children)
      held_behind levels [] all = tt
      held_behind levels (child ∷ children) all = (all.0.0.held, held_behind levels children all.1)

      tree-found : (left levels : ℕ) → levels < left → (root : Bool) (depth : ℕ) → depth + levels ≡ deepest → (low high : ℤ) (tree : TreeOf levels) → Stands sizes base kind levels tree
          → IsBounded kind levels low high tree → IsFullBelow levels tree → is_empty root (seen (own_cells levels tree)) ≡ false → HasRootCell root levels tree
          → FindsAll deepest (IsVisit sizes base kind left root depth low high (page_of levels tree)) (list_of kind levels tree) (pages_of levels tree)
      tree-found zero levels deep root depth far low high tree stands bounded full some own_root = absurd (omega (arith, deep))
      tree-found (suc left) zero deep root depth far low high tree stands bounded full some own_root =
          let found = cells-found tree.page tree.cells stands.1 in
          let ends : depth ≡ deepest = omega (arith, far) in
          record {
            findings = Finds tree.page ∷ (Ends tree.page depth ∷ found.findings);
            is_visit = (
              Ends tree.page depth ∷ found.findings,
              refl,
              inr (
                leaf_kind kind,
                seen tree.cells,
                0,
                accepted-own (leaf_kind kind) tree.page 0 tree.cells stands.0 stands.1,
                inr (inl (refl, (found.findings, refl, inr (inr (some, own-rises kind zero low high tree full bounded, found.is_visit))))),
              ),
            );
            flawless = (tt, (ends, found.flawless));
            members_are = found.members_are;
            numbers_are = ap (λ (ns : List ℕ). tree.page ∷ ns) found.numbers_are;
          }
      tree-found (suc left) (suc levels) deep root depth far low high tree stands bounded full some own_root =
          let inner = λ (low high : ℤ) (child : TreeOf levels) (s : Stands sizes base kind levels child) (b : IsBounded kind levels low high child) (f : IsFull levels child).
          tree-found left levels (omega (arith, deep)) false (suc depth) (omega (arith, far)) low high child s b f.1 (full-not_empty (own_cells levels child) f.0) (below-root levels child) in
          let found = children-found levels (IsVisit sizes base kind left false (suc depth)) inner tree.page low high tree.children tree.last stands.1.0 stands.1.1
          (bounded-children kind levels low high tree bounded) full.0 full.1 in
          let cells = seen (cells_behind tree.children) in
          let none = bare root tree.page cells in
          record {
            findings = Finds tree.page ∷ (none ++ found.findings);
            is_visit = (
              none ++ found.findings,
              refl,
              inr (
                interior_kind kind,
                cells,
                page_of levels tree.last,
                accepted-own (interior_kind kind) tree.page (page_of levels tree.last) (cells_behind tree.children) stands.0 (held_behind levels tree.children stands.1.0),
                inr (inr (refl, (found.findings, refl, inr (inr (some, own-rises kind (suc levels) low high tree full bounded, found.is_visit))))),
              ),
            );
            flawless = (tt, all-join (IsFlawless deepest) none found.findings (subst⁻¹ (AllByRecursion (IsFlawless deepest)) own_root tt) found.flawless);
            members_are = members-join none found.findings [] (list_beside kind levels tree.children tree.last) (ap members_found own_root) found.members_are;
            numbers_are =
                ap (λ (ns : List ℕ). tree.page ∷ ns) (numbers-join none found.findings [] (pages_beside levels tree.children tree.last) (ap pages_found own_root) found.numbers_are);
          }

root-not_empty : (cells : List Seen) → is_empty true cells ≡ false
root-not_empty [] = refl
root-not_empty (c ∷ cells) = refl

bounded-root : (kind : TreeKind) (levels : ℕ) (tree : TreeOf levels) → IsOrdered kind levels tree → IsBounded kind levels below_rowids greatest_rowid tree
bounded-root Table levels tree h = h
bounded-root Index levels tree h = tt

-- a walk over the tree of a root finds its list and its pages, and nothing that is wrong
pub root-found : (sizes : Sizes) (base : Paged) (rooted : Rooted) → rooted.levels < greatest_depth → IsRoot sizes base rooted
    → FindsAll (depth_of rooted) (IsWalk sizes base rooted.kind (root_of rooted)) (list_in rooted) (pages_in rooted)
root-found sizes base rooted deep is =
    tree-found sizes base (depth_of rooted) rooted.kind greatest_depth rooted.levels deep true 1 (omega arith) below_rowids greatest_rowid rooted.tree is.stands
    (bounded-root rooted.kind rooted.levels rooted.tree is.ordered) is.full.below (root-not_empty (seen (own_cells rooted.levels rooted.tree))) (full-root rooted.levels rooted.tree is.full)

-- a cursor gives the list of a standing tree
pub tree-list : (sizes : Sizes) (base : Paged) (root : ℕ) (kind : TreeKind) (depth : ℕ) (members : List Member) (numbers : List ℕ) → IsTree sizes base root kind depth members numbers → IsList sizes base kind root members
tree-list sizes base root kind depth members numbers is =
    let found = root-found sizes base is.rooted (omega (arith, is.deep, is.depth_is)) is.is_root in
    let walk = subst (λ (n : ℕ). IsWalk sizes base is.rooted.kind n found.findings) is.root_is found.is_visit in (
      found.findings,
      subst (λ (k : TreeKind). IsWalk sizes base k root found.findings) is.kind_is walk,
      flawless-goes_on (depth_of is.rooted) found.findings found.flawless,
      sym (found.members_are ∙ is.members_are),
    )
