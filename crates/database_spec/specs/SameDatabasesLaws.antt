-- What is found in a file, its catalog, and whether it is whole and sound, are said by the pages that matter: crates above cite these facts in their proofs.
use Rattle.std.proofs.Common.{◌≡◌, ℕ, ℤ, zero, suc, ◌-◌, ◌<◌, Bool, List, [], ◌∷◌, ◌++◌, Option, Some, None, refl, sym, ap, ◌∙◌, subst, inl, inr, arith}
use Rattle.std.proofs.Math.Path.{subst⁻¹}
use Rattle.std.specs.Prelude.{drop, false, true}
use Rattle.std.specs.List.{AllByRecursion, flat_map}
use Rattle.byte_fields.specs.Bytes.{part_of}
use Rattle.format_spec.specs.declared.PageKind.{PageKind}
use Rattle.format_spec.specs.Page.{IsPage, header_place}
use Rattle.format_spec.specs.Header.{freelist_trunk, freelist_pages}
use Rattle.page_spec.specs.Pages.{IsInRange, next_page}
use Rattle.page_spec.specs.Chains.{AreLinked, named_behind, IsChain, IsBroken}
use Rattle.page_spec.specs.Counts.{times}
use Rattle.page_spec.specs.CountsLaws.{times-all, times-append}
use Rattle.page_spec.specs.FreePages.{due}
use Rattle.page_spec.specs.FreePagesLaws.{due-first, due-within, due-other}
use Rattle.page_spec.specs.Freelists.{free_pages}
use Rattle.page_spec.specs.FreelistsLaws.{IsFreelist-same}
use Rattle.page_spec.specs.WrittenChainsLaws.{SameOn, chain_bytes-same}
use Rattle.page_layout.specs.Views.{IsRefused}
use Rattle.tree_spec.specs.declared.TreeKind.{TreeKind}
use Rattle.tree_spec.specs.declared.TreeKind.TheVariants.{Table as TableTree}
use Rattle.tree_spec.specs.Trees.{TreeCell, Rooted, Member, member, between, leaf_kind, interior_kind, pages_in, greatest_depth}
use Rattle.tree_spec.specs.Bounds.{below_rowids, greatest_rowid}
use Rattle.tree_spec.specs.Standing.{Sizes, Paged, Keeps, IsNumber, IsHeld, IsRoot}
use Rattle.tree_spec.specs.StandingLaws.{IsRoot-kept}
use Rattle.tree_spec.specs.Worlds.{World, IsWorld}
use Rattle.database_spec.specs.declared.catalog.SchemaKind.{SchemaKind}
use Rattle.database_spec.specs.declared.catalog.SchemaKind.TheVariants as kind
use Rattle.database_spec.specs.declared.catalog.Catalog.{Catalog}
use Rattle.database_spec.specs.SameDatabases.{SameDatabase}
use Rattle.database_spec.specs.Walks.{Finding, Seen, bytes_seen, IsAccepted, IsCellVisit, AreCellVisits, IsChildVisit, AreChildVisits, IsInside, IsVisit, IsWalk, IsList}
use Rattle.database_spec.specs.declared.catalog.SchemaRow.{SchemaRow}
use Rattle.database_spec.specs.Catalogs.{IsCatalog, IsIndexMeaning, format_of}
use Rattle.database_spec.specs.RightRows.{IsOwnRoot, IsRightTable, IsRightIndex, IsRight, AreFaultless, rows_of, HasCatalog}
use Rattle.database_spec.specs.Databases.{Database, header_of, IsWhole, IsSound}

module _ (sizes : Sizes) (old new : Paged) (same : SameDatabase sizes old new) where
  number-same : (number : ℕ) → IsNumber sizes old number → IsNumber sizes new number
  number-same number is = record { behind_first = is.behind_first; within = omega (arith, is.within, same.count); not_lock_byte = is.not_lock_byte }

  number-back : (number : ℕ) → IsNumber sizes new number → IsNumber sizes old number
  number-back number is = record { behind_first = is.behind_first; within = omega (arith, is.within, same.count); not_lock_byte = is.not_lock_byte }

  page-same : (number : ℕ) → IsNumber sizes old number → new.pages number ≡ old.pages number
  page-same number is = same.each number (omega (arith, is.behind_first)) is.within is.not_lock_byte

  -- the pages of linked pages
  linked-in_range : (first : ℕ) (numbers : List ℕ) → AreLinked old.pages sizes.size old.count first numbers → AllByRecursion (IsInRange sizes.size old.count) numbers
  linked-in_range first [] linked = tt
  linked-in_range first (number ∷ numbers) linked = (linked.1, linked-in_range (next_page (old.pages number)) numbers linked.2)

  linked-pages : (first : ℕ) (numbers : List ℕ) → AreLinked old.pages sizes.size old.count first numbers → SameOn numbers old.pages new.pages
  linked-pages first numbers linked n some = page-same n (times-all (IsInRange sizes.size old.count) n numbers (linked-in_range first numbers linked) some)

  linked-same : (first : ℕ) (numbers : List ℕ) → AreLinked old.pages sizes.size old.count first numbers → AreLinked new.pages sizes.size new.count first numbers
  linked-same first [] linked = tt
  linked-same first (number ∷ numbers) linked = (
    linked.0,
    number-same number linked.1,
    subst⁻¹ (λ (page : List ℕ). AreLinked new.pages sizes.size new.count (next_page page) numbers) (page-same number linked.1) (linked-same (next_page (old.pages number)) numbers linked.2),
  )

  behind-same : (first : ℕ) (numbers : List ℕ) → AreLinked old.pages sizes.size old.count first numbers → named_behind new.pages first numbers ≡ named_behind old.pages first numbers
  behind-same first [] linked = refl
  behind-same first (number ∷ numbers) linked =
      ap (λ (page : List ℕ). named_behind new.pages (next_page page) numbers) (page-same number linked.1) ∙ behind-same (next_page (old.pages number)) numbers linked.2

  chain-same : (first bytes : ℕ) (numbers : List ℕ) → IsChain old.pages sizes.size sizes.usable old.count first bytes numbers → IsChain new.pages sizes.size sizes.usable new.count first bytes numbers
  chain-same first bytes numbers is = record { linked = linked-same first numbers is.linked; ends = behind-same first numbers is.linked ∙ is.ends; many = is.many }

  broken-same : (first bytes page : ℕ) → IsBroken old.pages sizes.size sizes.usable old.count first bytes page → IsBroken new.pages sizes.size sizes.usable new.count first bytes page
  broken-same first bytes page is =
      let behind = behind-same first is.numbers is.linked in
      record {
        numbers = is.numbers;
        linked = linked-same first is.numbers is.linked;
        wrong = elim is.wrong [
          | inl w ↦ inl (w.0, λ range. w.1 (number-back (named_behind old.pages first is.numbers) (subst (IsInRange sizes.size new.count) behind range)))
          | inr w ↦ inr (w.0, λ none. w.1 (sym behind ∙ none))
        ];
        page_is = is.page_is;
      }

  held-same : (page_kind : PageKind) (cell : TreeCell) → IsHeld sizes old page_kind cell → IsHeld sizes new page_kind cell
  held-same page_kind cell held = record {
    is_cell = held.is_cell;
    is_chain = chain-same cell.view.overflow (cell.view.payload - cell.view.local) cell.chain held.is_chain;
    whole = held.whole
        ∙ ap (λ (rest : List ℕ). part_of cell.bytes cell.view.local_at cell.view.local ++ rest)
        (sym (chain_bytes-same old.pages new.pages sizes.usable cell.chain (cell.view.payload - cell.view.local) (linked-pages cell.view.overflow cell.chain held.is_chain.linked)));
  }

  cell_visit-same : (page_kind : PageKind) (holds : TreeCell → List Member) (page : ℕ) (bytes : List ℕ) (findings : List Finding) → IsCellVisit sizes old page_kind holds page bytes findings → IsCellVisit sizes new page_kind holds page bytes findings
  unfolding broken-same
  cell_visit-same page_kind holds page bytes findings (inl is) = inl (record { cell = is.cell; bytes_are = is.bytes_are; held = held-same page_kind is.cell is.held; findings_are = is.findings_are })
  cell_visit-same page_kind holds page bytes findings (inr is) = inr (record {
    view = is.view;
    is_cell = is.is_cell;
    at = is.at;
    is_broken = broken-same is.view.overflow (is.view.payload - is.view.local) is.at is.is_broken;
    findings_are = is.findings_are;
  })

  module _ (kind : TreeKind) where
    cell_visits-same : (page : ℕ) (cells : List Seen) (findings : List Finding) → AreCellVisits sizes old kind page cells findings → AreCellVisits sizes new kind page cells findings
    cell_visits-same page [] findings is = is
    cell_visits-same page (cell ∷ cells) findings (own, later, is, are, e) =
        (own, later, cell_visit-same (leaf_kind kind) (λ c. member c ∷ []) page cell.0 own is, cell_visits-same page cells later are, e)

    module _ (before after : ℤ → ℤ → ℕ → List Finding → Type 0)
        (below : (low high : ℤ) (number : ℕ) (findings : List Finding) → new.pages number ≡ old.pages number → before low high number findings → after low high number findings) where
      child_visit-same : (parent : ℕ) (low high : ℤ) (number : ℕ) (findings : List Finding) → IsChildVisit sizes old kind before parent low high number findings → IsChildVisit sizes new kind after parent low high number findings
      child_visit-same parent low high number findings (inl is) = inl ((λ range. is.0 (number-back number range)), is.1)
      child_visit-same parent low high number findings (inr is) = inr (number-same number is.0, below low high number findings (page-same number is.0) is.1)

      child_visits-same : (page : ℕ) (low high : ℤ) (cells : List Seen) (right : ℕ) (findings : List Finding) → AreChildVisits sizes old kind before page low high cells right findings → AreChildVisits sizes new kind after page low high cells right findings
      child_visits-same page low high [] right findings is = child_visit-same page low high right findings is
      child_visits-same page low high (cell ∷ cells) right findings (child, own, later, c, is, are, e) = (
        child,
        own,
        later,
        child_visit-same page low cell.1.rowid cell.1.child child c,
        cell_visit-same (interior_kind kind) (between kind) page cell.0 own is,
        child_visits-same page cell.1.rowid high cells right later are,
        e,
      )

      inside-same : (root : Bool) (depth : ℕ) (low high : ℤ) (number : ℕ) (page_kind : PageKind) (cells : List Seen) (right : ℕ) (findings : List Finding)
          → IsInside sizes old kind before root depth low high number page_kind cells right findings → IsInside sizes new kind after root depth low high number page_kind cells right findings
      inside-same root depth low high number page_kind cells right findings (inl is) = inl is
      inside-same root depth low high number page_kind cells right findings (inr (inl (e, (rest, f, inl on)))) = inr (inl (e, (rest, f, inl on)))
      inside-same root depth low high number page_kind cells right findings (inr (inl (e, (rest, f, inr (inl on))))) = inr (inl (e, (rest, f, inr (inl on))))
      inside-same root depth low high number page_kind cells right findings (inr (inl (e, (rest, f, inr (inr on))))) = inr (inl (e, (rest, f, inr (inr (on.0, on.1, cell_visits-same number cells rest on.2)))))
      inside-same root depth low high number page_kind cells right findings (inr (inr (e, (rest, f, inl on)))) = inr (inr (e, (rest, f, inl on)))
      inside-same root depth low high number page_kind cells right findings (inr (inr (e, (rest, f, inr (inl on))))) = inr (inr (e, (rest, f, inr (inl on))))
      inside-same root depth low high number page_kind cells right findings (inr (inr (e, (rest, f, inr (inr on))))) =
          inr (inr (e, (rest, f, inr (inr (on.0, on.1, child_visits-same number low high cells right rest on.2)))))

    accepted-same : (number : ℕ) (page_kind : PageKind) (cells : List Seen) (right : ℕ) → new.pages number ≡ old.pages number → IsAccepted sizes old number page_kind cells right → IsAccepted sizes new number page_kind cells right
    accepted-same number page_kind cells right page is = record {
      is_page = subst⁻¹ (λ (bytes : List ℕ). IsPage bytes number sizes.usable page_kind (bytes_seen cells) right) page is.is_page;
      views = is.views;
    }

    visit-same : (left : ℕ) (root : Bool) (depth : ℕ) (low high : ℤ) (number : ℕ) (findings : List Finding) → new.pages number ≡ old.pages number
        → IsVisit sizes old kind left root depth low high number findings → IsVisit sizes new kind left root depth low high number findings
    visit-same zero root depth low high number findings page is = is
    visit-same (suc left) root depth low high number findings page (rest, e, inl (rule, refused, f)) =
        (rest, e, inl (rule, subst⁻¹ (λ (bytes : List ℕ). IsRefused bytes number sizes.usable rule) page refused, f))
    visit-same (suc left) root depth low high number findings page (rest, e, inr (page_kind, cells, right, is, in_)) = (
      rest,
      e,
      inr (
        page_kind,
        cells,
        right,
        accepted-same number page_kind cells right page is,
        inside-same (IsVisit sizes old kind left false (suc depth)) (IsVisit sizes new kind left false (suc depth)) (visit-same left false (suc depth)) root depth low high number page_kind cells right rest in_,
      ),
    )

  -- a walk over the tree of a root that is a page of the database
  pub walk-same : (kind : TreeKind) (root : ℕ) (findings : List Finding) → new.pages root ≡ old.pages root → IsWalk sizes old kind root findings → IsWalk sizes new kind root findings
  walk-same kind root findings page is = visit-same kind greatest_depth true 1 below_rowids greatest_rowid root findings page is

  pub list-same : (kind : TreeKind) (root : ℕ) (members : List Member) → new.pages root ≡ old.pages root → IsList sizes old kind root members → IsList sizes new kind root members
  list-same kind root members page (findings, is, none, e) = (findings, walk-same kind root findings page is, none, e)

  format-same : format_of new ≡ format_of old
  format-same = ap (λ (page : List ℕ). format_of (record { count = 0; pages = λ n. page })) same.first

  right-same : (rows before : List SchemaRow) (row : SchemaRow) → IsRight sizes old rows before row → IsRight sizes new rows before row
  right-same rows before row = by row.kind
    where
      own_root : (root : ℕ) → IsOwnRoot sizes old rows before root → IsOwnRoot sizes new rows before root
      own_root root is = (number-same root is.0, is.1)

      table : IsRightTable sizes old rows before row → IsRightTable sizes new rows before row
      table is = record {
        meaning = is.meaning;
        means = is.means;
        own_name = is.own_name;
        named = is.named;
        virtual_root = is.virtual_root;
        root = λ e. own_root row.root (is.root e);
        automatic = is.automatic;
      }

      index : IsRightIndex sizes old rows before row → IsRightIndex sizes new rows before row
      index is = record {
        table = is.table;
        stands = is.stands;
        is_real = is.is_real;
        root = own_root row.root is.root;
        meaning = is.meaning;
        means = is.means;
        index = is.index;
        index_means = subst⁻¹ (λ (format : ℕ). IsIndexMeaning format row is.meaning is.index) format-same is.index_means;
        named = is.named;
      }

      by : (k : SchemaKind) → (elim k as (λ _. Type 0) [ kind.Table ↦ IsRightTable sizes old rows before row | kind.Index ↦ IsRightIndex sizes old rows before row | kind.View ↦ row.root ≡ 0 | kind.Trigger ↦ row.root ≡ 0 ])
          → elim k as (λ _. Type 0) [ kind.Table ↦ IsRightTable sizes new rows before row | kind.Index ↦ IsRightIndex sizes new rows before row | kind.View ↦ row.root ≡ 0 | kind.Trigger ↦ row.root ≡ 0 ]
      by kind.Table is = table is
      by kind.Index is = index is
      by kind.View is = is
      by kind.Trigger is = is

  faultless-same : (rows before : List SchemaRow) (found : List (Option SchemaRow)) → AreFaultless sizes old rows before found → AreFaultless sizes new rows before found
  faultless-same rows before [] are = tt
  faultless-same rows before (None ∷ found) are = absurd are.0.0
  faultless-same rows before (Some row ∷ found) are = ((right-same rows before row are.0.0, are.0.1), faultless-same rows (before ++ rows_of (Some row ∷ [])) found are.1)

  -- the same pages say one catalog
  pub catalog-same : (catalog : Catalog) → HasCatalog sizes old catalog → HasCatalog sizes new catalog
  catalog-same catalog is = record {
    members = is.members;
    is_list = list-same TableTree 1 is.members same.first is.is_list;
    found = is.found;
    are_rows = is.are_rows;
    faultless = faultless-same (rows_of is.found) [] is.found is.faultless;
    is_catalog = subst⁻¹ (λ (format : ℕ). IsCatalog format (rows_of is.found) catalog) format-same is.is_catalog;
  }

  -- the pages of a world stay
  world-same : (world : World) → IsWorld sizes old world → IsWorld sizes new world
  world-same world is =
      let page = λ (n : ℕ) (some : 0 < due sizes.size old.count n). same.each n (due-first sizes.size old.count n some) (due-within sizes.size old.count n some) (due-other sizes.size old.count n some) in
      let trees = flat_map pages_in world.trees in
      let in_trees = λ (n : ℕ) (some : 0 < times n trees). page n (omega (arith, some, is.once n, times-append n trees (free_pages world.trunks))) in
      let in_free = λ (n : ℕ) (some : 0 < times n (free_pages world.trunks)). page n (omega (arith, some, is.once n, times-append n trees (free_pages world.trunks))) in
      record {
        trees = roots world.trees in_trees is.trees;
        rise = is.rise;
        freelist = IsFreelist-same sizes.size sizes.usable old.pages new.pages old.count new.count world.trunks in_free (omega (arith, same.count)) (ap freelist_trunk same.first) (ap freelist_pages same.first) is.freelist;
        once = λ n. is.once n ∙ ap (λ (c : ℕ). due sizes.size c n) (sym same.count);
        few = omega (arith, same.count, is.few);
      }
    where
      roots : (trees : List Rooted) → ((n : ℕ) → 0 < times n (flat_map pages_in trees) → new.pages n ≡ old.pages n) → AllByRecursion (IsRoot sizes old) trees → AllByRecursion (IsRoot sizes new) trees
      roots [] pages are = tt
      roots (rooted ∷ trees) pages are =
          let whole = λ (n : ℕ). times-append n (pages_in rooted) (flat_map pages_in trees) in
          let keeps : Keeps (pages_in rooted) old new = record { same = λ n some. ap (drop (header_place n)) (pages n (omega (arith, some, whole n))); grows = omega (arith, same.count) } in
          (IsRoot-kept sizes old new rooted keeps are.0, roots trees (λ n some. pages n (omega (arith, some, whole n))) are.1)

  -- and are as whole and as sound
  pub whole-same : (catalog : Catalog) (db : Database) → IsWhole sizes old catalog db → IsWhole sizes new catalog db
  whole-same catalog db is = record {
    world = is.world;
    is_world = world-same is.world is.is_world;
    has_catalog = catalog-same catalog is.has_catalog;
    roots = is.roots;
    kinds = is.kinds;
    header = is.header ∙ ap header_of (sym same.first);
    lists = is.lists;
    readable = is.readable;
  }

  pub sound-same : (catalog : Catalog) (db : Database) → IsSound sizes old catalog db → IsSound sizes new catalog db
  sound-same catalog db is = record { whole = whole-same catalog db is.whole; indexes = is.indexes }
