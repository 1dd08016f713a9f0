-- A walk that has findings has a course: crates above cite these facts in their proofs.
use Rattle.std.proofs.Common.{◌≡◌, ◌≢◌, ℕ, ℤ, zero, suc, ◌+◌, ◌-◌, ◌<◌, ◌≤◌, ◌==◌, ◌⊎◌, Bool, true, false, cond, if◌then◌else◌, List, [], ◌∷◌, ◌++◌, length, map, slice_get, slice_index_or, Option, Some, None, refl, sym, ap, ap₂, ◌∙◌, subst, inl, inr, arith}
use Rattle.std.proofs.Math.Path.{subst⁻¹}
use Rattle.std.proofs.lemmas.Bool.{cases_lt, le-ltb}
use Rattle.std.proofs.lemmas.List.{length-map, nil_from_length}
use Rattle.std.proofs.lemmas.Option.{slice_get_past}
use Rattle.std.specs.List.{AllByRecursion}
use Rattle.byteorder.specs.Endian.{big_number}
use Rattle.byte_fields.specs.Bytes.{part_of}
use Rattle.byte_fields.specs.BytesLaws.{part_of-part_of}
use Rattle.format_spec.specs.declared.PageKind.{PageKind}
use Rattle.format_spec.specs.declared.PageKind.TheVariants.{IndexInterior, TableInterior, IndexLeaf, TableLeaf}
use Rattle.format_spec.specs.declared.CellView.{CellView}
use Rattle.format_spec.specs.Cell.{IsCell, overflow_size}
use Rattle.format_spec.specs.Page.{IsPage, RightChild, cell_place, header_place}
use Rattle.cell_codec.specs.CellLaws.{cell-same}
use Rattle.page_spec.specs.Pages.{IsInRange}
use Rattle.page_spec.specs.Chains.{AreLinked, IsBroken, chain_bytes, last_linked, named_behind, pages_for}
use Rattle.page_spec.specs.ChainsLaws.{chain-not_broken}
use Rattle.page_layout.specs.Views.{HasViews, IsRefused}
use Rattle.page_layout.specs.ViewsLaws.{kind_byte-same, view-size}
use Rattle.refusal.specs.declared.Rule.{Rule}
use Rattle.refusal.specs.declared.Rule.TheVariants as broken
use Rattle.tree_spec.specs.declared.TreeKind.{TreeKind}
use Rattle.tree_spec.specs.declared.TreeKind.TheVariants.{Table, Index}
use Rattle.tree_spec.specs.Trees.{TreeCell, member, between, leaf_kind, interior_kind}
use Rattle.tree_spec.specs.Bounds.{RisesIn, below_rowids, greatest_rowid}
use Rattle.tree_spec.specs.Standing.{Sizes, Paged}
use Rattle.tree_spec.specs.StandingLaws.{chain-none}
use Rattle.tree_walk.specs.declared.page.TreePage.{TreePage}
use Rattle.tree_walk.specs.declared.place.Place.{Place}
use Rattle.tree_walk.specs.Pages.{IsDecoded, PageView, view_of, has_dividers, is_leaf, tree_kind}
use Rattle.tree_walk.specs.PagesLaws.{refused-one, refused-not_read}
use Rattle.tree_walk.specs.Payloads.{IsBadChain, IsPayload, part_at}
use Rattle.tree_walk.specs.PayloadsLaws.{local_part, pages_for-none}
use Rattle.tree_walk.specs.Places.{Rises, rowids, low_bound, low_in, low_at, high_at, child_at, child_or, rowid_or, bound_or, most_above, IsBadPage, IsBadRoot, IsBadStep, IsNoRoot, IsOutOfPlace, IsRootPlace}
use Rattle.tree_walk.specs.Courses.{Spot, Course, ends, stops, spots_from, cells_left, cells_then, cell_then, next_of, Enters, Behind, Below, From, FromRoot}
use Rattle.tree_walk.specs.CoursesLaws.{to_leaf, to_inner, to_place}
use Rattle.tree_walk.specs.Walks.{IsMember}
use Rattle.database_spec.specs.Walks.{Finding, Finds, Ends, Holds, Breaks, Disorders, Bares, Seen, bytes_seen, is_empty, bare, IsRising, IsAccepted, IsCellVisit, AreCellVisits, IsChildVisit, AreChildVisits, GoesOn, IsInside, IsRead, IsVisit, IsWalk}
use Rattle.database_spec.specs.WalksLaws.{accepted-one, accepted-not_refused}
use Rattle.tree_rows.specs.Remaining.{cell_before, IsTornSpot, Follows}

-- Cells.

no_overflow : (local payload : ℕ) (bytes : List ℕ) (overflow : ℕ) → payload - local ≡ 0 → length bytes ≡ overflow_size local payload → overflow ≡ big_number (length bytes) bytes → overflow ≡ 0
no_overflow local payload bytes overflow none long is =
    let size : overflow_size local payload ≡ 0 = ap (λ (b : Bool). if b then 4 else 0) (le-ltb local payload (omega (arith, none))) in
    let empty : bytes ≡ [] = nil_from_length bytes (long ∙ size) in
    is ∙ ap (λ (b : List ℕ). big_number (length b) b) empty

-- a cell whose payload lies in it whole names no overflow page
pub overflow-none : (kind : PageKind) (usable : ℕ) (bytes : List ℕ) (view : CellView) → IsCell kind usable bytes view → view.payload - view.local ≡ 0 → view.overflow ≡ 0
overflow-none TableLeaf usable bytes view is none = no_overflow view.local view.payload is.overflow_bytes view.overflow none is.overflow_length is.overflow
overflow-none TableInterior usable bytes view is none = is.overflow
overflow-none IndexLeaf usable bytes view is none = no_overflow view.local view.payload is.overflow_bytes view.overflow none is.overflow_length is.overflow
overflow-none IndexInterior usable bytes view is none = no_overflow view.local view.payload is.overflow_bytes view.overflow none is.overflow_length is.overflow

right-one : (kind : PageKind) (page : List ℕ) (header right other : ℕ) → RightChild kind page header right → RightChild kind page header other → right ≡ other
right-one TableLeaf page header right other one two = one ∙ sym two
right-one TableInterior page header right other one two = one ∙ sym two
right-one IndexLeaf page header right other one two = one ∙ sym two
right-one IndexInterior page header right other one two = one ∙ sym two

pub tree_kind-leaf : (kind : TreeKind) → tree_kind (leaf_kind kind) ≡ kind
tree_kind-leaf Table = refl
tree_kind-leaf Index = refl

pub tree_kind-interior : (kind : TreeKind) → tree_kind (interior_kind kind) ≡ kind
tree_kind-interior Table = refl
tree_kind-interior Index = refl

pub is_leaf-leaf : (kind : TreeKind) → is_leaf (leaf_kind kind) ≡ true
is_leaf-leaf Table = refl
is_leaf-leaf Index = refl

pub is_leaf-interior : (kind : TreeKind) → is_leaf (interior_kind kind) ≡ false
is_leaf-interior Table = refl
is_leaf-interior Index = refl

-- these cells, and then what is behind them
abbrev cells_before : List Spot → Course → Course
cells_before spots later = record { spots = spots ++ later.spots; damage = later.damage }

module _ (sizes : Sizes) (base : Paged) where
  -- a chain that is broken has some bytes
  pub torn-some : (kind : PageKind) (bytes : List ℕ) (view : CellView) → IsCell kind sizes.usable bytes view → {at : ℕ}
      → IsBroken base.pages sizes.size sizes.usable base.count view.overflow (view.payload - view.local) at → 0 < view.payload - view.local
  torn-some kind bytes view is {at} is_broken =
      elim (cases_lt 0 (view.payload - view.local)) [
        | inl some ↦ some
        | inr none ↦
            let rest : view.payload - view.local ≡ 0 = omega (arith, none) in
            let first = overflow-none kind sizes.usable bytes view is rest in
            let also = subst (λ (n : ℕ). IsBroken base.pages sizes.size sizes.usable base.count n 0 at) first
            (subst (λ (n : ℕ). IsBroken base.pages sizes.size sizes.usable base.count view.overflow n at) rest is_broken) in
            absurd (chain-not_broken base.pages sizes.size base.count sizes.usable 0 0 [] at (chain-none sizes base) also)
      ]

  -- where it is broken, as a cursor tells it
  torn-chain : (number first bytes : ℕ) → 0 < bytes → {at : ℕ} (is_broken : IsBroken base.pages sizes.size sizes.usable base.count first bytes at)
      → IsBadChain base.pages sizes.size sizes.usable base.count number first bytes (last_linked number is_broken.numbers) broken.Chain
  torn-chain number first bytes some is_broken = (refl, by is_broken.numbers is_broken.linked is_broken.wrong)
    where
      by : (numbers : List ℕ) → AreLinked base.pages sizes.size base.count first numbers
          → ((length numbers < pages_for sizes.usable bytes) × ¬ IsInRange sizes.size base.count (named_behind base.pages first numbers))
          ⊎ ((length numbers ≡ pages_for sizes.usable bytes) × (named_behind base.pages first numbers ≢ 0))
          → ((last_linked number numbers ≡ number) × ¬ IsInRange sizes.size base.count first)
          ⊎ (IsInRange sizes.size base.count first × IsBroken base.pages sizes.size sizes.usable base.count first bytes (last_linked number numbers))
      by [] linked (inl wrong) = inl (refl, wrong.1)
      by [] linked (inr wrong) = absurd (omega (arith, some, pages_for-none sizes.usable bytes (sym wrong.0)))
      by (n ∷ numbers) linked wrong =
          inr (subst⁻¹ (IsInRange sizes.size base.count) linked.0 linked.1, record { numbers = n ∷ numbers; linked = linked; wrong = wrong; page_is = refl })

  module _ (kind : TreeKind) where
    -- Findings one behind the other.
    follows-join : (a b : List Finding) (later mid course : Course) → Follows sizes base kind a mid course → Follows sizes base kind b later mid → Follows sizes base kind (a ++ b) later course
    follows-join [] b later mid course is rest = subst⁻¹ (Follows sizes base kind b later) is rest
    follows-join (Finds page ∷ a) b later mid course is rest = follows-join a b later mid course is rest
    follows-join (Ends page depth ∷ a) b later mid course is rest = follows-join a b later mid course is rest
    follows-join (Bares page ∷ a) b later mid course is rest = follows-join a b later mid course is rest
    follows-join (Holds page m ∷ a) b later mid course (spot, next, held, on, same) rest = (spot, next, held, follows-join a b later mid next on rest, same)
    follows-join (Breaks page rule ∷ a) b later mid course (inl same) rest = inl same
    follows-join (Breaks page rule ∷ a) b later mid course (inr (spot, next, torn, on, same)) rest = inr (spot, next, torn, follows-join a b later mid next on rest, same)
    follows-join (Disorders page ∷ a) b later mid course is rest = is

    finds-follow : (numbers : List ℕ) (findings : List Finding) (later course : Course) → Follows sizes base kind findings later course → Follows sizes base kind (map Finds numbers ++ findings) later course
    finds-follow [] findings later course is = is
    finds-follow (n ∷ numbers) findings later course is = finds-follow numbers findings later course is

    if-follows : (b : Bool) (page : ℕ) (findings : List Finding) (later course : Course) → Follows sizes base kind findings later course
        → Follows sizes base kind ((if b then [] else (Bares page ∷ [])) ++ findings) later course
    if-follows true page findings later course is = is
    if-follows false page findings later course is = is

    bare-follows : (root : Bool) (number : ℕ) (cells : List Seen) (findings : List Finding) (later course : Course) → Follows sizes base kind findings later course
        → Follows sizes base kind (bare root number cells ++ findings) later course
    bare-follows true number [] findings later course is = if-follows (number == 1) number findings later course is
    bare-follows true number (cell ∷ cells) findings later course is = is
    bare-follows false number cells findings later course is = is

    -- The cell at an index of a page.
    pub record IsSeenAt (page : PageView) (at : ℕ) (cell : Seen) : Type 0 where
      pub is_cell : IsCell page.kind sizes.usable cell.0 cell.1
      pub get : slice_get page.views at ≡ Some cell.1
      pub view_is : (d : CellView) → slice_index_or page.views at d ≡ cell.1
      pub stands : part_of page.bytes (cell_place page.bytes page.number page.kind at) (length cell.0) ≡ cell.0

    -- the cells from an index on
    abbrev pub AreSeenFrom : PageView → ℕ → List Seen → Type 0
    AreSeenFrom page at [] = length page.views ≤ at
    AreSeenFrom page at (cell ∷ cells) = IsSeenAt page at cell × AreSeenFrom page (suc at) cells

    module _ (page : PageView) (kind_is : tree_kind page.kind ≡ kind) (at : ℕ) (cell : Seen) (seen : IsSeenAt page at cell) where
      pub same_view : (bytes : List ℕ) (view : CellView) → IsCell page.kind sizes.usable bytes view → bytes ≡ cell.0 → (d : CellView) → slice_index_or page.views at d ≡ view
      same_view bytes view is same d = seen.view_is d ∙ sym (cell-same page.kind sizes.usable bytes cell.0 [] [] view cell.1 is seen.is_cell (ap (λ (s : List ℕ). s ++ []) same)).1

      -- a cell that is whole is a member
      pub cell-member : (whole : TreeCell) → IsCell page.kind sizes.usable whole.bytes whole.view → whole.bytes ≡ cell.0 → (rest : List ℕ)
          → (inside : IsPayload base.pages sizes.size sizes.usable base.count page at whole.view (part_at page at whole.view ++ rest)) → whole.payload ≡ part_of whole.bytes whole.view.local_at whole.view.local ++ rest
          → IsMember sizes base kind (record { page = page; at = at }) (member whole)
      cell-member whole is same rest inside payload =
          let view = whole.view in
          let start = cell_place page.bytes page.number page.kind at in
          let stands : part_of page.bytes start (length whole.bytes) ≡ whole.bytes = subst⁻¹ (λ (b : List ℕ). part_of page.bytes start (length b) ≡ b) same seen.stands in
          let within : view.local_at + view.local ≤ length whole.bytes =
          omega (arith, local_part page.kind sizes.usable whole.bytes view is, view-size page.kind sizes.usable whole.bytes view is) in
          let part : part_at page at view ≡ part_of whole.bytes view.local_at view.local =
          sym (part_of-part_of page.bytes start (length whole.bytes) view.local_at view.local within) ∙ ap (λ (b : List ℕ). part_of b view.local_at view.local) stands in
          record {
            kind_is = kind_is;
            rowid_is = λ d. ap (λ (v : CellView). v.rowid) (same_view whole.bytes view is same d);
            payload_is = λ d.
                subst⁻¹ (λ (v : CellView). IsPayload base.pages sizes.size sizes.usable base.count page at v whole.payload) (same_view whole.bytes view is same d)
                (subst⁻¹ (IsPayload base.pages sizes.size sizes.usable base.count page at view) (payload ∙ ap (λ (p : List ℕ). p ++ rest) (sym part)) inside);
          }

      -- a cell of which a cursor makes a member
      cell-follows : (findings : List Finding) (later : Course) → IsCellVisit sizes base page.kind (λ c. member c ∷ []) page.number cell.0 findings
          → Follows sizes base kind findings later (cell_before (record { page = page; at = at }) later)
      cell-follows findings later (inl whole) =
          let c = whole.cell in
          let rest = chain_bytes base.pages sizes.usable c.chain (c.view.payload - c.view.local) in
          let is_member = cell-member c whole.held.is_cell whole.bytes_are rest (inr (rest, (c.chain, whole.held.is_chain, refl), refl)) whole.held.whole in
          let spot : Spot = record { page = page; at = at } in
          subst⁻¹ (λ (f : List Finding). Follows sizes base kind f later (cell_before spot later)) whole.findings_are
          (finds-follow c.chain (Holds page.number (member c) ∷ []) later (cell_before spot later) (spot, later, is_member, refl, refl))
      cell-follows findings later (inr torn) =
          let spot : Spot = record { page = page; at = at } in
          let some = torn-some page.kind cell.0 torn.view torn.is_cell torn.is_broken in
          let numbers = torn.is_broken.numbers in
          let bad : IsTornSpot sizes base kind spot (last_linked page.number numbers) broken.Chain = λ d.
          subst⁻¹ (λ (v : CellView). (0 < v.payload - v.local) × IsBadChain base.pages sizes.size sizes.usable base.count page.number v.overflow (v.payload - v.local) (last_linked page.number numbers) broken.Chain)
          (same_view cell.0 torn.view torn.is_cell refl d) (some, torn-chain page.number torn.view.overflow (torn.view.payload - torn.view.local) some torn.is_broken) in
          subst⁻¹ (λ (f : List Finding). Follows sizes base kind f later (cell_before spot later)) torn.findings_are
          (finds-follow numbers (Breaks (last_linked page.number numbers) broken.Chain ∷ []) later (cell_before spot later) (inr (spot, later, bad, refl, refl)))

    -- a divider of a table, of which a cursor makes nothing
    divider-follows : (page : ℕ) (bytes : List ℕ) (findings : List Finding) (later : Course) → IsCellVisit sizes base TableInterior (between Table) page bytes findings
        → Follows sizes base kind findings later later
    divider-follows page bytes findings later (inl whole) =
        subst⁻¹ (λ (f : List Finding). Follows sizes base kind f later later) whole.findings_are (finds-follow whole.cell.chain [] later later refl)
    divider-follows page bytes findings later (inr torn) =
        absurd (omega (arith, torn-some TableInterior bytes torn.view torn.is_cell torn.is_broken, torn.is_cell.payload))

    -- the cells of a leaf
    leaf-follows : (page : PageView) → page.kind ≡ leaf_kind kind → (cells : List Seen) (at : ℕ) → AreSeenFrom page at cells → (findings : List Finding) (later : Course)
        → AreCellVisits sizes base kind page.number cells findings → Follows sizes base kind findings later (cells_before (spots_from page at (length cells)) later)
    leaf-follows page is [] at seen findings later visits = subst⁻¹ (λ (f : List Finding). Follows sizes base kind f later later) visits refl
    leaf-follows page is (cell ∷ cells) at seen findings later (own, others, visit, visits, same) =
        let mid = cells_before (spots_from page (suc at) (length cells)) later in
        let course = cell_before (record { page = page; at = at }) mid in
        subst⁻¹ (λ (f : List Finding). Follows sizes base kind f later course) same
        (follows-join own others later mid course
        (cell-follows page (ap tree_kind is ∙ tree_kind-leaf kind) at cell seen.0 own mid
        (subst⁻¹ (λ (k : PageKind). IsCellVisit sizes base k (λ c. member c ∷ []) page.number cell.0 own) is visit))
        (leaf-follows page is cells (suc at) seen.1 others later visits))

    -- The places of a page.

    -- a place is in this page, with this right child and this upper bound
    record IsIn (page : PageView) (right : ℕ) (high : ℤ) (place : Place) : Type 0 where
      view_is : view_of place.page ≡ page
      right_is : place.page.right ≡ right
      high_is : place.high ≡ high

    -- A child, or the part of a page from a child on, has a course, which is entered from each place that has these findings.
    record ChildCourse (room parent : ℕ) (low high : ℤ) (number : ℕ) (later : Course) (findings : List Finding) : Type 0 where
      course : Course
      follows : Follows sizes base kind findings later course
      enters : (place : Place) → tree_kind place.page.kind ≡ kind → place.page.number ≡ parent → child_at place ≡ number → low_bound (low_at place) ≡ low → high_at place ≡ high
          → Enters sizes base (Below sizes base room) (most_above - room) place later course

    record RestCourse (room : ℕ) (page : PageView) (right : ℕ) (at : ℕ) (low high : ℤ) (left : ℕ) (later : Course) (findings : List Finding) : Type 0 where
      course : Course
      follows : Follows sizes base kind findings later course
      walks : (place : Place) → IsIn page right high place → place.at ≡ at → low_bound (low_at place) ≡ low
          → (behind : Course) × (Behind sizes base (Below sizes base room) (most_above - room) left place later behind × Enters sizes base (Below sizes base room) (most_above - room) place behind course)

    module _ (room : ℕ) (visit : ℤ → ℤ → ℕ → List Finding → Type 0)
        (inside : (parent : ℕ) (low high : ℤ) (number : ℕ) (findings : List Finding) (later : Course) → visit low high number findings → IsInRange sizes.size base.count number
        → ChildCourse room parent low high number later findings) where
      child-course : (parent : ℕ) (low high : ℤ) (number : ℕ) (findings : List Finding) (later : Course) → IsChildVisit sizes base kind visit parent low high number findings
          → ChildCourse room parent low high number later findings
      child-course parent low high number findings later (inr good) = inside parent low high number findings later good.1 good.0
      child-course parent low high number findings later (inl bad) = record {
        course = stops parent broken.Child;
        follows = subst⁻¹ (λ (f : List Finding). Follows sizes base kind f later (stops parent broken.Child)) bad.1 (inl refl);
        enters = λ place kind_is number_is named low_is high_is.
            let out : ¬ IsInRange sizes.size base.count (child_at place) = λ in_range. bad.0 (subst (IsInRange sizes.size base.count) named in_range) in
            record {
              refused = λ page rule step. refused place number_is out page rule step;
              entered = λ child in_range few is. absurd (out in_range);
            };
      }
        where
          refused : (place : Place) → place.page.number ≡ parent → ¬ IsInRange sizes.size base.count (child_at place) → (page : ℕ) (rule : Rule)
              → IsBadStep base.pages sizes.size sizes.usable base.count place (most_above - room) page rule → stops parent broken.Child ≡ stops page rule
          refused place number_is out page rule (inl step) = ap₂ stops (sym (step.0 ∙ number_is)) (sym step.1)
          refused place number_is out page rule (inr (inl step)) = absurd (out step.0)
          refused place number_is out page rule (inr (inr step)) = absurd (out step.0)

      module _ (page : PageView) (kind_is : page.kind ≡ interior_kind kind) (right : ℕ) (high : ℤ) where
        its_kind : (place : Place) → IsIn page right high place → tree_kind place.page.kind ≡ kind
        its_kind place is = ap (λ (p : PageView). tree_kind p.kind) is.view_is ∙ ap tree_kind kind_is ∙ tree_kind-interior kind

        its_get : (place : Place) (at : ℕ) → IsIn page right high place → place.at ≡ at → slice_get place.page.views place.at ≡ slice_get page.views at
        its_get place at is at_is = ap₂ (λ (p : PageView) (k : ℕ). slice_get p.views k) is.view_is at_is

        its_child : (place : Place) (at : ℕ) (view : Option CellView) → IsIn page right high place → place.at ≡ at → slice_get page.views at ≡ view → child_at place ≡ child_or right view
        its_child place at view is at_is get = ap₂ child_or is.right_is (its_get place at is at_is ∙ get)

        its_high : (place : Place) (at : ℕ) (view : Option CellView) → IsIn page right high place → place.at ≡ at → slice_get page.views at ≡ view → high_at place ≡ rowid_or high view
        its_high place at view is at_is get = ap₂ rowid_or is.high_is (its_get place at is at_is ∙ get)

        -- the cell of an interior page, and then what is behind it
        abbrev own_then : ℕ → Course → Course
        own_then at rest = cond (has_dividers page.kind) rest (cell_before (record { page = page; at = at }) rest)

        own-then : (place : Place) (at : ℕ) (rest : Course) → IsIn page right high place → place.at ≡ at → own_then at rest ≡ cell_then place rest
        own-then place at rest is at_is =
            ap₂ (λ (p : PageView) (k : ℕ). cond (has_dividers p.kind) rest (cell_before (record { page = p; at = k }) rest)) (sym is.view_is) (sym at_is)

        own-follows : (at : ℕ) (cell : Seen) → IsSeenAt page at cell → (findings : List Finding) (later : Course) → IsCellVisit sizes base (interior_kind kind) (between kind) page.number cell.0 findings
            → Follows sizes base kind findings later (own_then at later)
        own-follows at cell seen findings later visit_is = by kind refl kind_is visit_is
          where
            by : (k : TreeKind) → kind ≡ k → page.kind ≡ interior_kind k → IsCellVisit sizes base (interior_kind k) (between k) page.number cell.0 findings
                → Follows sizes base kind findings later (own_then at later)
            by Table same its visits =
                subst⁻¹ (λ (p : PageKind). Follows sizes base kind findings later (cond (has_dividers p) later (cell_before (record { page = page; at = at }) later))) its
                (divider-follows page.number cell.0 findings later visits)
            by Index same its visits =
                let follows = cell-follows page (ap tree_kind its ∙ sym same) at cell seen findings later
                (subst⁻¹ (λ (p : PageKind). IsCellVisit sizes base p (λ c. member c ∷ []) page.number cell.0 findings) its visits) in
                subst⁻¹ (λ (p : PageKind). Follows sizes base kind findings later (cond (has_dividers p) later (cell_before (record { page = page; at = at }) later))) its follows

        rest-course : (cells : List Seen) (at : ℕ) (low : ℤ) → AreSeenFrom page at cells → (findings : List Finding) (later : Course)
            → AreChildVisits sizes base kind visit page.number low high cells right findings → RestCourse room page right at low high (length cells) later findings
        rest-course [] at low seen findings later visits =
            let last = child-course page.number low high right findings later visits in
            let none : slice_get page.views at ≡ None = slice_get_past page.views at seen in
            record {
              course = last.course;
              follows = last.follows;
              walks = λ place is at_is low_is. (
                later,
                (
                  refl,
                  last.enters place (its_kind place is) (ap (λ (p : PageView). p.number) is.view_is) (its_child place at None is at_is none) low_is (its_high place at None is at_is none),
                ),
              );
            }
        rest-course (cell ∷ cells) at low seen findings later (child, own, others, child_is, own_is, others_are, same) =
            let rowid = cell.1.rowid in
            let next = rest-course cells (suc at) rowid seen.1 others later others_are in
            let mid = own_then at next.course in
            let first = child-course page.number low rowid cell.1.child child mid child_is in
            record {
              course = first.course;
              follows = subst⁻¹ (λ (f : List Finding). Follows sizes base kind f later first.course) same
                  (follows-join child (own ++ others) later mid first.course first.follows (follows-join own others later next.course mid (own-follows at cell seen.0 own next.course own_is) next.follows));
              walks = λ place is at_is low_is.
                  let further : IsIn page right high (next_of place) = record { view_is = is.view_is; right_is = is.right_is; high_is = is.high_is } in
                  let next_at : place.at + 1 ≡ suc at = omega (arith, at_is) in
                  let bound : low_at (next_of place) ≡ Some rowid =
                  ap₂ (λ (p : PageView) (k : ℕ). low_in place.low p.views k) is.view_is next_at ∙ ap (bound_or place.low) seen.0.get in
                  let walk = next.walks (next_of place) further next_at (ap low_bound bound) in (
                    mid,
                    (
                      (next.course, walk, own-then place at next.course is at_is),
                      first.enters place (its_kind place is) (ap (λ (p : PageView). p.number) is.view_is) (its_child place at (Some cell.1) is at_is seen.0.get) low_is
                          (its_high place at (Some cell.1) is at_is seen.0.get),
                    ),
                  );
            }

    -- Pages.

    -- the views of an accepted page are those of its cells, in order
    abbrev seen_page : ℕ → PageKind → List Seen → PageView
    seen_page number page_kind cells = record { number = number; kind = page_kind; bytes = base.pages number; views = map (λ cell. cell.1) cells }

    -- what a list of views has from an index on
    abbrev GetsFrom : List CellView → ℕ → List Seen → Type 0
    GetsFrom views at [] = length views ≤ at
    GetsFrom views at (cell ∷ cells) = ((slice_get views at ≡ Some cell.1) × ((d : CellView) → slice_index_or views at d ≡ cell.1)) × GetsFrom views (suc at) cells

    gets-behind : (view : CellView) (views : List CellView) (at : ℕ) (cells : List Seen) → GetsFrom views at cells → GetsFrom (view ∷ views) (suc at) cells
    gets-behind view views at [] gets = omega (arith, gets)
    gets-behind view views at (cell ∷ cells) gets = (gets.0, gets-behind view views (suc at) cells gets.1)

    gets-all : (cells : List Seen) → GetsFrom (map (λ (c : Seen). c.1) cells) 0 cells
    gets-all [] = omega arith
    gets-all (cell ∷ cells) = ((refl, λ d. refl), gets-behind cell.1 (map (λ (c : Seen). c.1) cells) 0 cells (gets-all cells))

    module _ (number : ℕ) (page_kind : PageKind) (all : List Seen) where
      abbrev its_page : PageView
      its_page = seen_page number page_kind all

      abbrev StandsAt : ℕ → List ℕ → Type 0
      StandsAt k bytes = part_of (base.pages number) (cell_place (base.pages number) number page_kind k) (length bytes) ≡ bytes

      seen-from : (cells : List Seen) (at : ℕ) → GetsFrom its_page.views at cells → AllByRecursion (λ (c : Seen). IsCell page_kind sizes.usable c.0 c.1) cells
          → ((k : ℕ) → k < length cells → StandsAt (at + k) (slice_index_or (bytes_seen cells) k [])) → AreSeenFrom its_page at cells
      seen-from [] at gets are stand = gets
      seen-from (cell ∷ cells) at gets are stand = (
        record {
          is_cell = are.0;
          get = gets.0.0;
          view_is = gets.0.1;
          stands = subst (λ (k : ℕ). StandsAt k cell.0) (let e : at + 0 ≡ at = omega arith in e) (stand 0 (omega arith));
        },
        seen-from cells (suc at) gets.1 are.1 (λ k low. subst (λ (n : ℕ). StandsAt n (slice_index_or (bytes_seen cells) k [])) (let e : at + suc k ≡ suc at + k = omega arith in e) (stand (suc k) (omega (arith, low)))),
      )

      pub seen-all : (right : ℕ) → IsAccepted sizes base number page_kind all right → AreSeenFrom its_page 0 all
      seen-all right is =
          seen-from all 0 (gets-all all) is.views (λ k low.
          subst⁻¹ (λ (n : ℕ). StandsAt n (slice_index_or (bytes_seen all) k [])) (let e : 0 + k ≡ k = omega arith in e)
          (is.is_page.each k (omega (arith, low, length-map all (λ (c : Seen). c.0)))).stands)

    -- cells of their bytes and their views
    abbrev paired : List (List ℕ) → List CellView → List Seen
    paired [] views = []
    paired (bytes ∷ cells) [] = []
    paired (bytes ∷ cells) (view ∷ views) = (bytes, view) ∷ paired cells views

    paired-bytes : (cells : List (List ℕ)) (views : List CellView) → length views ≡ length cells → bytes_seen (paired cells views) ≡ cells
    paired-bytes [] views long = refl
    paired-bytes (c ∷ cells) [] long = absurd (omega (arith, long))
    paired-bytes (c ∷ cells) (v ∷ views) long = ap (λ (bs : List (List ℕ)). c ∷ bs) (paired-bytes cells views (omega (arith, long)))

    paired-views : (cells : List (List ℕ)) (views : List CellView) → length views ≡ length cells → map (λ (c : Seen). c.1) (paired cells views) ≡ views
    paired-views [] [] long = refl
    paired-views [] (v ∷ views) long = absurd (omega (arith, long))
    paired-views (c ∷ cells) [] long = absurd (omega (arith, long))
    paired-views (c ∷ cells) (v ∷ views) long = ap (λ (vs : List CellView). v ∷ vs) (paired-views cells views (omega (arith, long)))

    paired-are : (page_kind : PageKind) (cells : List (List ℕ)) (views : List CellView) → length views ≡ length cells
        → ((k : ℕ) (d : CellView) → k < length cells → IsCell page_kind sizes.usable (slice_index_or cells k []) (slice_index_or views k d))
        → AllByRecursion (λ (c : Seen). IsCell page_kind sizes.usable c.0 c.1) (paired cells views)
    paired-are page_kind [] views long each = tt
    paired-are page_kind (c ∷ cells) [] long each = absurd (omega (arith, long))
    paired-are page_kind (c ∷ cells) (v ∷ views) long each =
        (each 0 v (omega arith), paired-are page_kind cells views (omega (arith, long)) (λ k d low. each (suc k) d (omega (arith, low))))

    -- a page that has views is accepted
    views-accepted : (number : ℕ) (views : List CellView) (has : HasViews (base.pages number) number sizes.usable views) → IsAccepted sizes base number has.kind (paired has.cells views) has.right
    views-accepted number views has = record {
      is_page = subst⁻¹ (λ (cells : List (List ℕ)). IsPage (base.pages number) number sizes.usable has.kind cells has.right) (paired-bytes has.cells views has.many) has.is_page;
      views = paired-are has.kind has.cells views has.many has.each;
    }

    module _ (number : ℕ) (page_kind : PageKind) (cells : List Seen) (right : ℕ) (accepted : IsAccepted sizes base number page_kind cells right) where
      -- what is read of an accepted page
      pub record IsReadOf (read : TreePage) : Type 0 where
        pub kind_is : read.kind ≡ page_kind
        pub views_are : read.views ≡ map (λ (c : Seen). c.1) cells

      pub read-of : (read : TreePage) → IsDecoded (base.pages number) number sizes.usable read → IsReadOf read
      read-of read decoded =
          let has = decoded.has_views in
          let same = accepted-one sizes base number has.kind page_kind (paired has.cells read.views) cells has.right right (views-accepted number read.views has) accepted in
          record {
            kind_is = kind_byte-same read.kind page_kind (sym decoded.kind_is ∙ accepted.is_page.kind_is);
            views_are = sym (paired-views has.cells read.views has.many) ∙ ap (map (λ (c : Seen). c.1)) same.1;
          }

      pub right-of : (read : TreePage) → IsDecoded (base.pages number) number sizes.usable read → read.right ≡ right
      right-of read decoded =
          right-one page_kind (base.pages number) (header_place number) read.right right
          (subst (λ (k : PageKind). RightChild k (base.pages number) (header_place number) read.right) (read-of read decoded).kind_is decoded.right_is) accepted.is_page.right_child

      page-in : (place : Place) (high : ℤ) → IsDecoded (base.pages number) number sizes.usable place.page → place.high ≡ high → IsIn (seen_page number page_kind cells) right high place
      page-in place high decoded high_is =
          let is = read-of place.page decoded in
          record {
            view_is = λ i. record { number = decoded.number_is i; kind = is.kind_is i; bytes = decoded.bytes_are i; views = is.views_are i };
            right_is = right-of place.page decoded;
            high_is = high_is;
          }

    -- What is wrong with a page that was read, in its place: a root's may have no cell.
    abbrev IsWrong : Bool → Option ℤ → ℤ → TreePage → Rule → Type 0
    IsWrong root low high read rule =
        ((rule ≡ broken.Kind) × (tree_kind read.kind ≢ kind))
        ⊎ (((rule ≡ broken.Empty) × (root ≡ false) × (tree_kind read.kind ≡ kind) × (read.views ≡ []))
        ⊎ ((rule ≡ broken.Cells) × (tree_kind read.kind ≡ kind) × (root ≡ false → read.views ≢ []) × ¬ Rises (tree_kind read.kind) low high read.views))

    wrong-page : (low : Option ℤ) (high : ℤ) (read : TreePage) (rule : Rule) → IsOutOfPlace kind low high read rule → IsWrong false low high read rule
    wrong-page low high read broken.Kind out = inl (refl, out)
    wrong-page low high read broken.Empty out = inr (inl (refl, refl, out.0, out.1))
    wrong-page low high read broken.Cells out = inr (inr (refl, out.0, λ _. out.1, out.2))
    wrong-page low high read broken.Child out = absurd out
    wrong-page low high read broken.Depth out = absurd out
    wrong-page low high read broken.Chain out = absurd out
    wrong-page low high read broken.Trunk out = absurd out
    wrong-page low high read broken.Count out = absurd out
    wrong-page low high read broken.Record out = absurd out

    wrong-root : (read : TreePage) (rule : Rule) → IsNoRoot kind read rule → IsWrong true None greatest_rowid read rule
    wrong-root read broken.Kind wrong = inl (refl, wrong)
    wrong-root read broken.Cells wrong = inr (inr (refl, wrong.0, λ is. absurd (let e : ◌≡◌ {A = Bool} true false = is in let none : ⊥ = cc in none), wrong.1))
    wrong-root read broken.Empty wrong = absurd wrong
    wrong-root read broken.Child wrong = absurd wrong
    wrong-root read broken.Depth wrong = absurd wrong
    wrong-root read broken.Chain wrong = absurd wrong
    wrong-root read broken.Trunk wrong = absurd wrong
    wrong-root read broken.Count wrong = absurd wrong
    wrong-root read broken.Record wrong = absurd wrong

    -- the page of a place is right
    record IsRight (root : Bool) (place : Place) : Type 0 where
      kind_is : tree_kind place.page.kind ≡ kind
      some : root ≡ false → place.page.views ≢ []
      rises : Rises (tree_kind place.page.kind) place.low place.high place.page.views

    -- A page has a course: where it is refused, the walk stops there with the same rule, and else it goes on from each place that enters it.
    record PageCourse (room : ℕ) (root : Bool) (low high : ℤ) (number : ℕ) (later : Course) (findings : List Finding) : Type 0 where
      course : Course
      follows : Follows sizes base kind findings later course
      refused : (rule : Rule) → IsRefused (base.pages number) number sizes.usable rule → course ≡ stops number rule
      wrong : (read : TreePage) (bound : Option ℤ) (rule : Rule) → IsDecoded (base.pages number) number sizes.usable read → low_bound bound ≡ low → IsWrong root bound high read rule → course ≡ stops number rule
      entered : (place : Place) → IsDecoded (base.pages number) number sizes.usable place.page → low_bound place.low ≡ low → place.high ≡ high → place.at ≡ 0 → IsRight root place
          → From sizes base room place later course

    -- rowids that rise, as a walk sees them and as a cursor does
    seen-rowids : (cells : List Seen) → rowids (map (λ (c : Seen). c.1) cells) ≡ map (λ (c : Seen). c.1.rowid) cells
    seen-rowids [] = refl
    seen-rowids (c ∷ cells) = ap (λ (zs : List ℤ). c.1.rowid ∷ zs) (seen-rowids cells)

    pub to-rising : (k : TreeKind) (bound : Option ℤ) (low high : ℤ) (cells : List Seen) → low_bound bound ≡ low → Rises k bound high (map (λ (c : Seen). c.1) cells) → IsRising k low high cells
    to-rising Table bound low high cells is rises = subst (λ (l : ℤ). RisesIn l high (map (λ (c : Seen). c.1.rowid) cells)) is (subst (RisesIn (low_bound bound) high) (seen-rowids cells) rises)
    to-rising Index bound low high cells is rises = tt

    pub of-rising : (k : TreeKind) (bound : Option ℤ) (low high : ℤ) (cells : List Seen) → low_bound bound ≡ low → IsRising k low high cells → Rises k bound high (map (λ (c : Seen). c.1) cells)
    of-rising Table bound low high cells is rises = subst⁻¹ (RisesIn (low_bound bound) high) (seen-rowids cells) (subst⁻¹ (λ (l : ℤ). RisesIn l high (map (λ (c : Seen). c.1.rowid) cells)) is rises)
    of-rising Index bound low high cells is rises = tt

    pub empty-none : (root : Bool) (cells : List Seen) → is_empty root cells ≡ true → (root ≡ false) × (map (λ (c : Seen). c.1) cells ≡ [])
    empty-none false [] is = (refl, refl)
    empty-none false (c ∷ cells) is = absurd (let e : ◌≡◌ {A = Bool} false true = is in let none : ⊥ = cc in none)
    empty-none true cells is = absurd (let e : ◌≡◌ {A = Bool} false true = is in let none : ⊥ = cc in none)

    pub empty-some : (root : Bool) (cells : List Seen) → is_empty root cells ≡ false → root ≡ false → map (λ (c : Seen). c.1) cells ≢ []
    empty-some false [] is root_is none = let e : ◌≡◌ {A = Bool} true false = is in cc
    empty-some false (c ∷ cells) is root_is none = cc
    empty-some true cells is root_is none = let e : ◌≡◌ {A = Bool} true false = root_is in cc

    -- the kinds of a walk's pages
    pub kinds-of : (page_kind : PageKind) → tree_kind page_kind ≡ kind → (page_kind ≢ leaf_kind kind) → (page_kind ≢ interior_kind kind) → ⊥
    kinds-of page_kind is leaf interior =
        by page_kind (subst⁻¹ (λ (k : TreeKind). page_kind ≢ leaf_kind k) is leaf) (subst⁻¹ (λ (k : TreeKind). page_kind ≢ interior_kind k) is interior)
      where
        by : (p : PageKind) → (p ≢ leaf_kind (tree_kind p)) → (p ≢ interior_kind (tree_kind p)) → ⊥
        by TableLeaf l i = l refl
        by TableInterior l i = i refl
        by IndexLeaf l i = l refl
        by IndexInterior l i = i refl

    module _ (room : ℕ) (root : Bool) (low high : ℤ) (number : ℕ) (later : Course) where
      -- the walk stops in the page
      stopped : (rule : Rule) (findings : List Finding) → Follows sizes base kind findings later (stops number rule) → ((other : Rule) → IsRefused (base.pages number) number sizes.usable other → rule ≡ other)
          → ((read : TreePage) (bound : Option ℤ) (other : Rule) → IsDecoded (base.pages number) number sizes.usable read → low_bound bound ≡ low → IsWrong root bound high read other → rule ≡ other)
          → ((place : Place) → IsDecoded (base.pages number) number sizes.usable place.page → low_bound place.low ≡ low → place.high ≡ high → IsRight root place → ⊥)
          → PageCourse room root low high number later findings
      stopped rule findings follows refused wrong entered = record {
        course = stops number rule;
        follows = follows;
        refused = λ other is. ap (stops number) (refused other is);
        wrong = λ read bound other decoded bound_is is. ap (stops number) (wrong read bound other decoded bound_is is);
        entered = λ place decoded low_is high_is first right. absurd (entered place decoded low_is high_is right);
      }

      refused-course : (rule : Rule) → IsRefused (base.pages number) number sizes.usable rule → PageCourse room root low high number later (Breaks number rule ∷ [])
      refused-course rule is =
          stopped rule (Breaks number rule ∷ []) (inl refl) (λ other also. refused-one (base.pages number) number sizes.usable rule other is also)
          (λ read bound other decoded bound_is wrong. absurd (refused-not_read (base.pages number) number sizes.usable rule is read decoded))
          (λ place decoded low_is high_is right. absurd (refused-not_read (base.pages number) number sizes.usable rule is place.page decoded))

      module _ (page_kind : PageKind) (cells : List Seen) (right : ℕ) (accepted : IsAccepted sizes base number page_kind cells right) where
        read_kind : (read : TreePage) → IsDecoded (base.pages number) number sizes.usable read → tree_kind read.kind ≡ tree_kind page_kind
        read_kind read decoded = ap tree_kind (read-of number page_kind cells right accepted read decoded).kind_is

        read_views : (read : TreePage) → IsDecoded (base.pages number) number sizes.usable read → read.views ≡ map (λ (c : Seen). c.1) cells
        read_views read decoded = (read-of number page_kind cells right accepted read decoded).views_are

        its-rising : (read : TreePage) (bound : Option ℤ) → IsDecoded (base.pages number) number sizes.usable read → tree_kind read.kind ≡ kind → low_bound bound ≡ low
            → Rises (tree_kind read.kind) bound high read.views → IsRising kind low high cells
        its-rising read bound decoded kind_is bound_is rises =
            to-rising kind bound low high cells bound_is (subst (λ (k : TreeKind). Rises k bound high (map (λ (c : Seen). c.1) cells)) kind_is (subst (Rises (tree_kind read.kind) bound high) (read_views read decoded) rises))

        rising-its : (read : TreePage) (bound : Option ℤ) → IsDecoded (base.pages number) number sizes.usable read → tree_kind read.kind ≡ kind → low_bound bound ≡ low
            → IsRising kind low high cells → Rises (tree_kind read.kind) bound high read.views
        rising-its read bound decoded kind_is bound_is rises =
            subst⁻¹ (Rises (tree_kind read.kind) bound high) (read_views read decoded) (subst⁻¹ (λ (k : TreeKind). Rises k bound high (map (λ (c : Seen). c.1) cells)) kind_is (of-rising kind bound low high cells bound_is rises))

        other-kind : (tree_kind page_kind ≢ kind) → PageCourse room root low high number later (Breaks number broken.Kind ∷ [])
        other-kind other =
            stopped broken.Kind (Breaks number broken.Kind ∷ []) (inl refl) (λ rule also. absurd (accepted-not_refused sizes base number page_kind cells right rule accepted also)) wrong
            (λ place decoded low_is high_is right. other (sym (read_kind place.page decoded) ∙ right.kind_is))
          where
            wrong : (read : TreePage) (bound : Option ℤ) (rule : Rule) → IsDecoded (base.pages number) number sizes.usable read → low_bound bound ≡ low → IsWrong root bound high read rule → broken.Kind ≡ rule
            wrong read bound rule decoded bound_is (inl w) = sym w.0
            wrong read bound rule decoded bound_is (inr (inl w)) = absurd (other (sym (read_kind read decoded) ∙ w.2))
            wrong read bound rule decoded bound_is (inr (inr w)) = absurd (other (sym (read_kind read decoded) ∙ w.1))

        module _ (kind_is : tree_kind page_kind ≡ kind) where
          no-cell : is_empty root cells ≡ true → PageCourse room root low high number later (Breaks number broken.Empty ∷ [])
          no-cell empty =
              stopped broken.Empty (Breaks number broken.Empty ∷ []) (inl refl) (λ rule also. absurd (accepted-not_refused sizes base number page_kind cells right rule accepted also)) wrong
              (λ place decoded low_is high_is right. right.some (empty-none root cells empty).0 (read_views place.page decoded ∙ (empty-none root cells empty).1))
            where
              wrong : (read : TreePage) (bound : Option ℤ) (rule : Rule) → IsDecoded (base.pages number) number sizes.usable read → low_bound bound ≡ low → IsWrong root bound high read rule → broken.Empty ≡ rule
              wrong read bound rule decoded bound_is (inl w) = absurd (w.1 (read_kind read decoded ∙ kind_is))
              wrong read bound rule decoded bound_is (inr (inl w)) = sym w.0
              wrong read bound rule decoded bound_is (inr (inr w)) = absurd (w.2 (empty-none root cells empty).0 (read_views read decoded ∙ (empty-none root cells empty).1))

          disorder : is_empty root cells ≡ false → (¬ IsRising kind low high cells) → PageCourse room root low high number later (Disorders number ∷ [])
          disorder some falls =
              stopped broken.Cells (Disorders number ∷ []) refl (λ rule also. absurd (accepted-not_refused sizes base number page_kind cells right rule accepted also)) wrong
              (λ place decoded low_is high_is right.
              falls (its-rising place.page place.low decoded right.kind_is low_is (subst (λ (h : ℤ). Rises (tree_kind place.page.kind) place.low h place.page.views) high_is right.rises)))
            where
              wrong : (read : TreePage) (bound : Option ℤ) (rule : Rule) → IsDecoded (base.pages number) number sizes.usable read → low_bound bound ≡ low → IsWrong root bound high read rule → broken.Cells ≡ rule
              wrong read bound rule decoded bound_is (inl w) = absurd (w.1 (read_kind read decoded ∙ kind_is))
              wrong read bound rule decoded bound_is (inr (inl w)) = absurd (empty-some root cells some w.1 (sym (read_views read decoded) ∙ w.3))
              wrong read bound rule decoded bound_is (inr (inr w)) = sym w.0

          going-on : is_empty root cells ≡ false → IsRising kind low high cells → (findings : List Finding) (course : Course) → Follows sizes base kind findings later course
              → ((place : Place) → IsIn (seen_page number page_kind cells) right high place → low_bound place.low ≡ low → place.at ≡ 0 → From sizes base room place later course) → PageCourse room root low high number later findings
          going-on some rises findings course follows walks = record {
            course = course;
            follows = follows;
            refused = λ rule also. absurd (accepted-not_refused sizes base number page_kind cells right rule accepted also);
            wrong = λ read bound rule decoded bound_is is. absurd (wrong read bound rule decoded bound_is is);
            entered = λ place decoded low_is high_is first its_right. walks place (page-in number page_kind cells right accepted place high decoded high_is) low_is first;
          }
            where
              wrong : (read : TreePage) (bound : Option ℤ) (rule : Rule) → IsDecoded (base.pages number) number sizes.usable read → low_bound bound ≡ low → IsWrong root bound high read rule → ⊥
              wrong read bound rule decoded bound_is (inl w) = w.1 (read_kind read decoded ∙ kind_is)
              wrong read bound rule decoded bound_is (inr (inl w)) = empty-some root cells some w.1 (sym (read_views read decoded) ∙ w.3)
              wrong read bound rule decoded bound_is (inr (inr w)) = w.3 (rising-its read bound decoded w.1 bound_is rises)

          -- what is behind the tests of a page that is accepted
          goes-course : (visit : ℤ → ℤ → ℕ → List Finding → Type 0) (Inside : List Finding → Type 0)
              → ((findings : List Finding) → Inside findings → (course : Course) × Follows sizes base kind findings later course
              × ((place : Place) → IsIn (seen_page number page_kind cells) right high place → low_bound place.low ≡ low → place.at ≡ 0 → From sizes base room place later course))
              → (findings : List Finding) → GoesOn sizes base kind visit root low high number cells Inside findings → PageCourse room root low high number later findings
          goes-course visit Inside inside findings (inl empty) = subst⁻¹ (PageCourse room root low high number later) empty.1 (no-cell empty.0)
          goes-course visit Inside inside findings (inr (inl falls)) = subst⁻¹ (PageCourse room root low high number later) falls.2 (disorder falls.0 falls.1)
          goes-course visit Inside inside findings (inr (inr on)) =
              let found = inside findings on.2 in going-on on.0 on.1 findings found.0 found.1 found.2

      -- what is found in front of the cells of a page changes no course
      behind-found : (front : List Finding) → ((findings : List Finding) (course : Course) → Follows sizes base kind findings later course → Follows sizes base kind (front ++ findings) later course)
          → (findings : List Finding) → PageCourse room root low high number later findings → PageCourse room root low high number later (front ++ findings)
      behind-found front also findings page = record {
        course = page.course;
        follows = also findings page.course page.follows;
        refused = page.refused;
        wrong = page.wrong;
        entered = page.entered;
      }

      module _ (visit : ℤ → ℤ → ℕ → List Finding → Type 0)
          (below : (parent : ℕ) (low high : ℤ) (number : ℕ) (findings : List Finding) (later : Course) → visit low high number findings → IsInRange sizes.size base.count number
          → ChildCourse room parent low high number later findings) where
        module _ (page_kind : PageKind) (cells : List Seen) (right : ℕ) (accepted : IsAccepted sizes base number page_kind cells right) where
          abbrev page : PageView
          page = seen_page number page_kind cells

          its_left : (place : Place) → IsIn page right high place → place.at ≡ 0 → cells_left place ≡ length cells
          its_left place is first = omega (arith, first, ap (λ (p : PageView). length p.views) is.view_is, length-map cells (λ (c : Seen). c.1))

          abbrev Walks : Course → Type 0
          Walks course = (place : Place) → IsIn page right high place → low_bound place.low ≡ low → place.at ≡ 0 → From sizes base room place later course

          abbrev Inner : Place → Course → Type 0
          Inner place course = (behind : Course)
              × (Behind sizes base (Below sizes base room) (most_above - room) (cells_left place) place later behind × Enters sizes base (Below sizes base room) (most_above - room) place behind course)

          abbrev leaf_course : Course
          leaf_course = cells_before (spots_from page 0 (length cells)) later

          leaf-walks : page_kind ≡ leaf_kind kind → Walks leaf_course
          leaf-walks is place in_page low_is first =
              let left = its_left place in_page first in
              let same : leaf_course ≡ cells_then place later =
              ap₂ (λ (at n : ℕ). cells_before (spots_from page at n) later) (sym first) (sym left)
              ∙ ap (λ (p : PageView). cells_before (spots_from p place.at (cells_left place)) later) (sym in_page.view_is) in
              to_place sizes base room place later leaf_course
              (to_leaf (is_leaf place.page.kind) (leaf_course ≡ cells_then place later) (Inner place leaf_course) (ap (λ (p : PageView). is_leaf p.kind) in_page.view_is ∙ ap is_leaf is ∙ is_leaf-leaf kind) same)

          leaf-inside : page_kind ≡ leaf_kind kind → (findings : List Finding) → AreCellVisits sizes base kind number cells findings → (course : Course) × Follows sizes base kind findings later course × Walks course
          leaf-inside is findings visits = (leaf_course, leaf-follows page is cells 0 (seen-all number page_kind cells right accepted) findings later visits, leaf-walks is)

          interior-walks : page_kind ≡ interior_kind kind → (findings : List Finding) (found : RestCourse room page right 0 low high (length cells) later findings) → Walks found.course
          interior-walks is findings found place in_page low_is first =
              let bound : low_bound (low_at place) ≡ low = ap (λ (k : ℕ). low_bound (low_in place.low place.page.views k)) first ∙ low_is in
              let walk = found.walks place in_page first bound in
              to_place sizes base room place later found.course
              (to_inner (is_leaf place.page.kind) (found.course ≡ cells_then place later) (Inner place found.course)
              (ap (λ (p : PageView). is_leaf p.kind) in_page.view_is ∙ ap is_leaf is ∙ is_leaf-interior kind) (
                walk.0,
                (
                  subst⁻¹ (λ (n : ℕ). Behind sizes base (Below sizes base room) (most_above - room) n place later walk.0) (its_left place in_page first) walk.1.0,
                  walk.1.1,
                ),
              ))

          interior-inside : page_kind ≡ interior_kind kind → (findings : List Finding) → AreChildVisits sizes base kind visit number low high cells right findings
              → (course : Course) × Follows sizes base kind findings later course × Walks course
          interior-inside is findings visits =
              let found = rest-course room visit below page is right high cells 0 low (seen-all number page_kind cells right accepted) findings later visits in
              (found.course, found.follows, interior-walks is findings found)

          inside-course : (depth : ℕ) (findings : List Finding) → IsInside sizes base kind visit root depth low high number page_kind cells right findings → PageCourse room root low high number later findings
          inside-course depth findings (inl other) =
              subst⁻¹ (PageCourse room root low high number later) other.2 (other-kind page_kind cells right accepted (λ same. kinds-of page_kind same other.0 other.1))
          inside-course depth findings (inr (inl (is, (rest, same, on)))) =
              subst⁻¹ (PageCourse room root low high number later) same
              (behind-found (Ends number depth ∷ []) (λ f course follows. follows) rest
              (goes-course page_kind cells right accepted (ap tree_kind is ∙ tree_kind-leaf kind) visit (AreCellVisits sizes base kind number cells) (leaf-inside is) rest on))
          inside-course depth findings (inr (inr (is, (rest, same, on)))) =
              subst⁻¹ (PageCourse room root low high number later) same
              (behind-found (bare root number cells) (λ f course follows. bare-follows root number cells f later course follows) rest
              (goes-course page_kind cells right accepted (ap tree_kind is ∙ tree_kind-interior kind) visit (AreChildVisits sizes base kind visit number low high cells right) (interior-inside is) rest on))

        read-course : (depth : ℕ) (findings : List Finding) → IsRead sizes base kind visit root depth low high number findings → PageCourse room root low high number later findings
        read-course depth findings (inl (rule, is, same)) = subst⁻¹ (PageCourse room root low high number later) same (refused-course rule is)
        read-course depth findings (inr (page_kind, cells, right, accepted, is)) = inside-course page_kind cells right accepted depth findings is

    -- the step to a child whose page has a course
    child-refused : (room : ℕ) (low high : ℤ) (number : ℕ) (later : Course) (findings : List Finding) (page : PageCourse room false low high number later findings) (child : ℕ) (k : TreeKind) (bound : Option ℤ) (upper : ℤ)
        → child ≡ number → k ≡ kind → low_bound bound ≡ low → upper ≡ high → (wrong : ℕ) (rule : Rule) → IsBadPage (base.pages child) child sizes.usable k bound upper wrong rule → page.course ≡ stops wrong rule
    child-refused room low high number later findings page child k bound upper named kind_is low_is high_is wrong rule bad =
        by (
        subst (λ (h : ℤ). IsBadPage (base.pages number) number sizes.usable kind bound h wrong rule) high_is
        (subst (λ (t : TreeKind). IsBadPage (base.pages number) number sizes.usable t bound upper wrong rule) kind_is
        (subst (λ (n : ℕ). IsBadPage (base.pages n) n sizes.usable k bound upper wrong rule) named bad))
        )
      where
        by : IsBadPage (base.pages number) number sizes.usable kind bound high wrong rule → page.course ≡ stops wrong rule
        by (is, inl refused) = page.refused rule refused ∙ ap (λ (n : ℕ). stops n rule) (sym is)
        by (is, inr (read, decoded, out)) = page.wrong read bound rule decoded low_is (wrong-page bound high read rule out) ∙ ap (λ (n : ℕ). stops n rule) (sym is)

    deep-child : (parent : ℕ) (low high : ℤ) (number : ℕ) (findings : List Finding) (later : Course) → findings ≡ Finds number ∷ (Breaks number broken.Depth ∷ []) → IsInRange sizes.size base.count number
        → ChildCourse zero parent low high number later findings
    deep-child parent low high number findings later same in_range = record {
      course = stops number broken.Depth;
      follows = subst⁻¹ (λ (f : List Finding). Follows sizes base kind f later (stops number broken.Depth)) same (inl refl);
      enters = λ place kind_is number_is named low_is high_is. record {
        refused = λ page rule step. refused place named page rule step;
        entered = λ child range few is. absurd (omega (arith, few));
      };
    }
      where
        refused : (place : Place) → child_at place ≡ number → (page : ℕ) (rule : Rule) → IsBadStep base.pages sizes.size sizes.usable base.count place (most_above - zero) page rule
            → stops number broken.Depth ≡ stops page rule
        refused place named page rule (inl step) = absurd (step.2 (subst⁻¹ (IsInRange sizes.size base.count) named in_range))
        refused place named page rule (inr (inl step)) = ap₂ stops (sym (step.1 ∙ named)) (sym step.2)
        refused place named page rule (inr (inr step)) = absurd (omega (arith, step.1))

    page-child : (room parent : ℕ) (low high : ℤ) (number : ℕ) (findings rest : List Finding) (later : Course) → suc room ≤ most_above → findings ≡ Finds number ∷ rest → IsInRange sizes.size base.count number
        → PageCourse room false low high number later rest → ChildCourse (suc room) parent low high number later findings
    page-child room parent low high number findings rest later deep same in_range its = record {
      course = its.course;
      follows = subst⁻¹ (λ (f : List Finding). Follows sizes base kind f later its.course) same its.follows;
      enters = λ place kind_is number_is named low_is high_is. record {
        refused = λ page rule step. refused place kind_is named low_is high_is page rule step;
        entered = λ child range few is.
            its.entered child (subst (λ (n : ℕ). IsDecoded (base.pages n) n sizes.usable child.page) named is.entered.decoded) (ap low_bound is.entered.low_is ∙ low_is) (is.entered.high_is ∙ high_is) is.entered.first
            (record {
              kind_is = is.kind_is ∙ kind_is;
              some = λ root_is. is.some;
              rises = subst⁻¹ (λ (l : Option ℤ). Rises (tree_kind child.page.kind) l child.high child.page.views) is.entered.low_is
                  (subst⁻¹ (λ (h : ℤ). Rises (tree_kind child.page.kind) (low_at place) h child.page.views) is.entered.high_is is.entered.rises);
            });
      };
    }
      where
        refused : (place : Place) → tree_kind place.page.kind ≡ kind → child_at place ≡ number → low_bound (low_at place) ≡ low → high_at place ≡ high → (page : ℕ) (rule : Rule)
            → IsBadStep base.pages sizes.size sizes.usable base.count place (most_above - suc room) page rule → its.course ≡ stops page rule
        refused place kind_is named low_is high_is page rule (inl step) = absurd (step.2 (subst⁻¹ (IsInRange sizes.size base.count) named in_range))
        refused place kind_is named low_is high_is page rule (inr (inl step)) = absurd (omega (arith, step.3, deep))
        refused place kind_is named low_is high_is page rule (inr (inr step)) =
            child-refused room low high number later rest its (child_at place) (tree_kind place.page.kind) (low_at place) (high_at place) named kind_is low_is high_is page rule step.2

    -- a visit has a course
    visit-course : (room : ℕ) → room ≤ most_above → (depth parent : ℕ) (low high : ℤ) (number : ℕ) (findings : List Finding) (later : Course) → IsVisit sizes base kind room false depth low high number findings
        → IsInRange sizes.size base.count number → ChildCourse room parent low high number later findings
    visit-course zero deep depth parent low high number findings later visit in_range = deep-child parent low high number findings later visit in_range
    visit-course (suc room) deep depth parent low high number findings later (rest, same, read) in_range =
        page-child room parent low high number findings rest later deep same in_range
        (read-course room false low high number later (IsVisit sizes base kind room false (suc depth))
        (λ p l h n f after visit range. visit-course room (omega (arith, deep)) (suc depth) p l h n f after visit range) depth rest read)

    -- the page of a root that has a course
    root-follows : (root : ℕ) (findings : List Finding) → PageCourse most_above true below_rowids greatest_rowid root ends findings
        → (course : Course) × FromRoot sizes base kind root course × Follows sizes base kind findings ends course
    root-follows root findings its = (its.course, record { refused = refused; entered = entered }, its.follows)
      where
        refused : (page : ℕ) (rule : Rule) → IsBadRoot (base.pages root) root sizes.usable kind page rule → its.course ≡ stops page rule
        refused page rule (is, inl bad) = its.refused rule bad ∙ ap (λ (n : ℕ). stops n rule) (sym is)
        refused page rule (is, inr (read, decoded, wrong)) = its.wrong read None rule decoded refl (wrong-root read rule wrong) ∙ ap (λ (n : ℕ). stops n rule) (sym is)

        entered : (place : Place) → IsRootPlace (base.pages root) root sizes.usable kind place → From sizes base most_above place ends its.course
        entered place is =
            its.entered place is.entered.decoded (ap low_bound is.entered.low_is) is.entered.high_is is.entered.first
            (record {
              kind_is = is.kind_is;
              some = λ wrong. absurd (let e : ◌≡◌ {A = Bool} true false = wrong in let none : ⊥ = cc in none);
              rises = subst⁻¹ (λ (l : Option ℤ). Rises (tree_kind place.page.kind) l place.high place.page.views) is.entered.low_is
                  (subst⁻¹ (λ (h : ℤ). Rises (tree_kind place.page.kind) None h place.page.views) is.entered.high_is is.entered.rises);
            })

    -- The walk over the tree at a root has a course, by what it finds.
    pub walk-course : (root : ℕ) (findings : List Finding) → IsWalk sizes base kind root findings → (course : Course) × FromRoot sizes base kind root course × Follows sizes base kind findings ends course
    walk-course root findings (rest, same, read) =
        let found = root-follows root rest
        (read-course most_above true below_rowids greatest_rowid root ends (IsVisit sizes base kind most_above false 2)
        (λ p l h n f after visit range. visit-course most_above (omega arith) 2 p l h n f after visit range) 1 rest read) in
        (found.0, found.1, subst⁻¹ (λ (f : List Finding). Follows sizes base kind f ends found.0) same found.2)
