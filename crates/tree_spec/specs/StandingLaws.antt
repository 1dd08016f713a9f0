-- A tree stands where its pages are as they were: crates above cite these facts in their proofs.
use Rattle.std.proofs.Common.{◌≡◌, ℕ, zero, suc, ◌-◌, ◌≤◌, ◌<ℤ◌, ◌+◌, ◌==◌, if◌then◌else◌, List, [], ◌∷◌, ◌++◌, map, take, drop, refl, sym, ap, ap₂, ◌∙◌, subst, arith}
use Rattle.std.proofs.Math.Path.{subst⁻¹}
use Rattle.std.proofs.Math.Nat.{zero-div, zero-mod}
use Rattle.std.specs.List.{flat_map, AllByRecursion, AllPairs}
use Rattle.byte_fields.specs.Bytes.{part_of}
use Rattle.format_spec.specs.declared.PageKind.{PageKind}
use Rattle.format_spec.specs.declared.PageKind.TheVariants.{TableInterior}
use Rattle.format_spec.specs.declared.CellView.{CellView}
use Rattle.format_spec.specs.Cell.{IsCell}
use Rattle.page_spec.specs.Pages.{Pages, IsInRange, next_page}
use Rattle.page_spec.specs.Chains.{IsChain, AreLinked, chain_bytes}
use Rattle.page_spec.specs.WrittenChainsLaws.{SameOn, IsChain-same, chain_bytes-same}
use Rattle.page_spec.specs.FreelistsLaws.{IsInRange-wider}
use Rattle.tree_spec.specs.declared.TreeKind.{TreeKind}
use Rattle.tree_spec.specs.declared.TreeKind.TheVariants.{Table, Index}
use Rattle.page_spec.specs.CountsLaws.{times-append, times-all, hit-itself}
use Rattle.tree_spec.specs.Trees.{TreeCell, TreeOf, Rooted, Member, leaf_kind, interior_kind, kind_at, page_of, own_cells, own_right, chain_pages, pages_of, pages_below, pages_in, list_of}
use Rattle.tree_spec.specs.Bounds.{IsOrdered, below_rowids, greatest_rowid}
use Rattle.tree_spec.specs.BoundsLaws.{InOrder-rises, rises-pairs}
use Rattle.tree_spec.specs.Standing.{Sizes, Paged, SamePage, Keeps, IsHeld, IsBehind, HasOwnPage, HasBelow, Stands, StandsBefore, StandsLast, IsRoot, IsTree}
use Rattle.tree_spec.specs.PagesLaws.{SamePage-whole, page-kept}

module _ (old new : Paged) where
  pub keeps-first : (x : ℕ) (xs : List ℕ) → Keeps (x ∷ xs) old new → SamePage x (old.pages x) (new.pages x)
  keeps-first x xs keeps = keeps.same x (omega (arith, hit-itself x))

  pub keeps-rest : (x : ℕ) (xs : List ℕ) → Keeps (x ∷ xs) old new → Keeps xs old new
  keeps-rest x xs keeps = record { same = λ n some. keeps.same n (omega arith); grows = keeps.grows }

  pub keeps-front : (xs ys : List ℕ) → Keeps (xs ++ ys) old new → Keeps xs old new
  keeps-front xs ys keeps = record { same = λ n some. keeps.same n (omega (arith, times-append n xs ys)); grows = keeps.grows }

  pub keeps-back : (xs ys : List ℕ) → Keeps (xs ++ ys) old new → Keeps ys old new
  keeps-back xs ys keeps = record { same = λ n some. keeps.same n (omega (arith, times-append n xs ys)); grows = keeps.grows }

-- no bytes have no chain
pub chain-none : (sizes : Sizes) (base : Paged) → IsChain base.pages sizes.size sizes.usable base.count 0 0 []
chain-none sizes base = record {
  linked = tt;
  ends = refl;
  many = sym (ap₂ (λ (pages more : ℕ). pages + (if more == 0 then 0 else 1)) (zero-div (sizes.usable - 4)) (zero-mod (sizes.usable - 4)));
}

take-none : (n : ℕ) → take {A = ℕ} n [] ≡ []
take-none zero = refl
take-none (suc n) = refl

-- the cell of a table's interior page has no payload
pub divider-held : (sizes : Sizes) (base : Paged) (bytes : List ℕ) (view : CellView) → IsCell TableInterior sizes.usable bytes view
    → IsHeld sizes base TableInterior (record { bytes = bytes; view = view; payload = []; chain = [] })
divider-held sizes base bytes view is = record {
  is_cell = is;
  is_chain = subst⁻¹ (λ (n : ℕ). IsChain base.pages sizes.size sizes.usable base.count n (view.payload - view.local) []) is.overflow
      (let none : view.payload - view.local ≡ 0 = omega (arith, is.payload) in subst⁻¹ (λ (n : ℕ). IsChain base.pages sizes.size sizes.usable base.count 0 n []) none (chain-none sizes base));
  whole = sym (
      ap (λ (n : ℕ). take n (drop view.local_at bytes) ++ chain_bytes base.pages sizes.usable [] (view.payload - view.local)) is.local ∙ take-none (view.payload - view.local)
      );
}

-- the pages of a chain are in range, also where there are more pages
linked-in_range : (pages : Pages) (size count first : ℕ) (numbers : List ℕ) → AreLinked pages size count first numbers → AllByRecursion (IsInRange size count) numbers
linked-in_range pages size count first [] linked = tt
linked-in_range pages size count first (number ∷ numbers) linked = (linked.1, linked-in_range pages size count (next_page (pages number)) numbers linked.2)

linked-wider : (pages : Pages) (size count other first : ℕ) (numbers : List ℕ) → count ≤ other → AreLinked pages size count first numbers → AreLinked pages size other first numbers
linked-wider pages size count other first [] more linked = tt
linked-wider pages size count other first (number ∷ numbers) more linked =
    (linked.0, IsInRange-wider size count other number more linked.1, linked-wider pages size count other (next_page (pages number)) numbers more linked.2)

-- the pages of a chain that are kept are the same in all their bytes
chain-whole : (size : ℕ) (old new : Paged) (first : ℕ) (numbers : List ℕ) → Keeps numbers old new → AreLinked old.pages size old.count first numbers → SameOn numbers old.pages new.pages
chain-whole size old new first numbers keeps linked n some =
    let in_range = times-all (IsInRange size old.count) n numbers (linked-in_range old.pages size old.count first numbers linked) some in
    SamePage-whole n (old.pages n) (new.pages n) in_range.behind_first (keeps.same n some)

module _ (sizes : Sizes) (old new : Paged) where
  -- a chain is as it was where its pages are
  pub chain-kept : (first bytes : ℕ) (numbers : List ℕ) → Keeps numbers old new
      → IsChain old.pages sizes.size sizes.usable old.count first bytes numbers → IsChain new.pages sizes.size sizes.usable new.count first bytes numbers
  chain-kept first bytes numbers keeps chain =
      let same = IsChain-same old.pages new.pages sizes.size sizes.usable old.count first bytes numbers (chain-whole sizes.size old new first numbers keeps chain.linked) chain in
      record { linked = linked-wider new.pages sizes.size old.count new.count first numbers keeps.grows same.linked; ends = same.ends; many = same.many }

  -- a cell is held where its chain is as it was
  pub held-kept : (page_kind : PageKind) (cell : TreeCell) → Keeps cell.chain old new → IsHeld sizes old page_kind cell → IsHeld sizes new page_kind cell
  held-kept page_kind cell keeps held =
      let rest = cell.view.payload - cell.view.local in
      let same = chain-whole sizes.size old new cell.view.overflow cell.chain keeps held.is_chain.linked in
      record {
        is_cell = held.is_cell;
        is_chain = chain-kept cell.view.overflow rest cell.chain keeps held.is_chain;
        whole = held.whole ∙ ap (λ (bytes : List ℕ). part_of cell.bytes cell.view.local_at cell.view.local ++ bytes) (sym (chain_bytes-same old.pages new.pages sizes.usable cell.chain rest same));
      }

  cells-kept : (page_kind : PageKind) (cells : List TreeCell) → Keeps (chain_pages cells) old new → AllByRecursion (IsHeld sizes old page_kind) cells → AllByRecursion (IsHeld sizes new page_kind) cells
  cells-kept page_kind [] keeps held = tt
  cells-kept page_kind (cell ∷ cells) keeps held = (
    held-kept page_kind cell (keeps-front old new cell.chain (chain_pages cells) keeps) held.0,
    cells-kept page_kind cells (keeps-back old new cell.chain (chain_pages cells) keeps) held.1,
  )

  -- the cell behind a child too
  pub behind-kept : (page_kind : PageKind) (cell : TreeCell) (child : ℕ) → Keeps cell.chain old new → IsBehind sizes old page_kind cell child → IsBehind sizes new page_kind cell child
  behind-kept page_kind cell child keeps behind = record {
    held = held-kept page_kind cell keeps behind.held;
    names = behind.names;
    in_range = IsInRange-wider sizes.size old.count new.count child keeps.grows behind.in_range;
  }

  module _ (kind : TreeKind) where
    -- a tree's own page
    pub own-kept : (levels : ℕ) (tree : TreeOf levels) → SamePage (page_of levels tree) (old.pages (page_of levels tree)) (new.pages (page_of levels tree))
        → HasOwnPage sizes old kind levels tree → HasOwnPage sizes new kind levels tree
    own-kept levels tree same own =
        page-kept (page_of levels tree) (old.pages (page_of levels tree)) (new.pages (page_of levels tree)) same sizes.usable (kind_at kind levels)
        (map (λ (cell : TreeCell). cell.bytes) (own_cells levels tree)) (own_right levels tree) own

    -- children and the cells behind them
    pub children-kept : (levels : ℕ) → ((tree : TreeOf levels) → Keeps (pages_of levels tree) old new → Stands sizes old kind levels tree → Stands sizes new kind levels tree)
        → (children : List (TreeOf levels × TreeCell)) → Keeps (flat_map (λ child. pages_of levels child.0 ++ child.1.chain) children) old new
        → AllByRecursion (StandsBefore sizes old kind levels) children → AllByRecursion (StandsBefore sizes new kind levels) children
    children-kept levels below [] keeps stand = tt
    children-kept levels below (child ∷ children) keeps stand =
        let part = λ (child : TreeOf levels × TreeCell). pages_of levels child.0 ++ child.1.chain in
        let here = keeps-front old new (part child) (flat_map part children) keeps in (
          (
            behind-kept (interior_kind kind) child.1 (page_of levels child.0) (keeps-back old new (pages_of levels child.0) child.1.chain here) stand.0.0,
            below child.0 (keeps-front old new (pages_of levels child.0) child.1.chain here) stand.0.1,
          ),
          children-kept levels below children (keeps-back old new (part child) (flat_map part children) keeps) stand.1,
        )

    stands-by : (levels : ℕ) → ((tree : TreeOf levels) → Keeps (pages_below levels tree) old new → HasBelow sizes old kind levels tree → HasBelow sizes new kind levels tree)
        → (tree : TreeOf levels) → Keeps (pages_of levels tree) old new → Stands sizes old kind levels tree → Stands sizes new kind levels tree
    stands-by zero inner tree keeps stands = (
      own-kept zero tree (keeps-first old new tree.page (pages_below zero tree) keeps) stands.0,
      inner tree (keeps-rest old new tree.page (pages_below zero tree) keeps) stands.1,
    )
    stands-by (suc levels) inner tree keeps stands = (
      own-kept (suc levels) tree (keeps-first old new tree.page (pages_below (suc levels) tree) keeps) stands.0,
      inner tree (keeps-rest old new tree.page (pages_below (suc levels) tree) keeps) stands.1,
    )

    pub last-kept : (levels : ℕ) → ((tree : TreeOf levels) → Keeps (pages_of levels tree) old new → Stands sizes old kind levels tree → Stands sizes new kind levels tree)
        → (last : TreeOf levels) → Keeps (pages_of levels last) old new → StandsLast sizes old kind levels last → StandsLast sizes new kind levels last
    last-kept levels below last keeps stands = (IsInRange-wider sizes.size old.count new.count (page_of levels last) keeps.grows stands.0, below last keeps stands.1)

    -- all of a tree but its own page
    pub HasBelow-kept : (levels : ℕ) (tree : TreeOf levels) → Keeps (pages_below levels tree) old new → HasBelow sizes old kind levels tree → HasBelow sizes new kind levels tree
    HasBelow-kept zero tree keeps below = cells-kept (leaf_kind kind) tree.cells keeps below
    HasBelow-kept (suc levels) tree keeps below =
        let front = flat_map (λ (child : TreeOf levels × TreeCell). pages_of levels child.0 ++ child.1.chain) tree.children in (
          children-kept levels (stands-by levels (HasBelow-kept levels)) tree.children (keeps-front old new front (pages_of levels tree.last) keeps) below.0,
          last-kept levels (stands-by levels (HasBelow-kept levels)) tree.last (keeps-back old new front (pages_of levels tree.last) keeps) below.1,
        )

    -- a tree stands where its pages are as they were
    pub Stands-kept : (levels : ℕ) (tree : TreeOf levels) → Keeps (pages_of levels tree) old new → Stands sizes old kind levels tree → Stands sizes new kind levels tree
    Stands-kept levels = stands-by levels (HasBelow-kept levels)

  pub IsRoot-kept : (rooted : Rooted) → Keeps (pages_in rooted) old new → IsRoot sizes old rooted → IsRoot sizes new rooted
  IsRoot-kept rooted keeps is = record { stands = Stands-kept rooted.kind rooted.levels rooted.tree keeps is.stands; ordered = is.ordered; full = is.full }

ordered-rises : (kind : TreeKind) (levels : ℕ) (tree : TreeOf levels) → kind ≡ Table → IsOrdered kind levels tree → AllPairs (λ (a b : Member). a.rowid <ℤ b.rowid) (list_of kind levels tree)
ordered-rises Table levels tree is ordered = rises-pairs below_rowids greatest_rowid (list_of Table levels tree) (InOrder-rises levels below_rowids greatest_rowid tree ordered)
ordered-rises Index levels tree is ordered = absurd (let h : ⊥ = cc in h)

-- the rowids of a table strictly rise
pub IsTree-rises : (sizes : Sizes) (base : Paged) (root depth : ℕ) (members : List Member) (numbers : List ℕ) → IsTree sizes base root Table depth members numbers
    → AllPairs (λ (a b : Member). a.rowid <ℤ b.rowid) members
IsTree-rises sizes base root depth members numbers is =
    subst (AllPairs (λ (a b : Member). a.rowid <ℤ b.rowid)) is.members_are (ordered-rises is.rooted.kind is.rooted.levels is.rooted.tree is.kind_is is.is_root.ordered)
