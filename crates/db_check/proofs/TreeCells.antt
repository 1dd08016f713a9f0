-- The cells of a page: chains, members, and the rest of a page behind one of them.
use Rattle.std.proofs.Common.{◌≡◌, ℕ, suc, ◌+◌, ◌-◌, ◌<◌, ◌≤◌, Bool, true, false, List, [], ◌∷◌, ◌++◌, length, map, Some, None, Result, Ok, Err, slice_index_or, refl, sym, ap, ◌∙◌, subst, inl, inr, arith}
use Rattle.std.proofs.Math.Path.{subst⁻¹}
use Rattle.std.proofs.lemmas.List.{append-nil, map-append}
use Rattle.std.proofs.lemmas.Option.{slice_get_past}
use Rattle.format_spec.specs.declared.PageKind.{PageKind}
use Rattle.format_spec.specs.declared.PageKind.TheVariants.{IndexInterior, TableInterior, IndexLeaf, TableLeaf}
use Rattle.format_spec.specs.declared.CellView.{CellView}
use Rattle.format_spec.specs.Cell.{IsCell}
use Rattle.page_spec.specs.Chains.{IsChain, IsBroken, chain_bytes, last_linked}
use Rattle.page_spec.specs.ChainsLaws.{same_chain, chain-not_broken}
use Rattle.refusal.specs.declared.Rule.TheVariants as broken
use Rattle.tree_spec.specs.declared.TreeKind.{TreeKind}
use Rattle.tree_spec.specs.declared.TreeKind.TheVariants.{Table, Index}
use Rattle.tree_spec.specs.declared.fault.TreeFault.{TreeFault}
use Rattle.tree_spec.specs.declared.fault.TreeFault.TheVariants as tree
use Rattle.tree_spec.specs.Trees.{TreeCell, member, between, leaf_kind, interior_kind}
use Rattle.tree_spec.specs.Standing.{Sizes, Paged, IsHeld}
use Rattle.tree_spec.specs.StandingLaws.{chain-none}
use Rattle.tree_walk.specs.declared.page.TreePage.{TreePage}
use Rattle.tree_walk.specs.Pages.{is_leaf, tree_kind, view_of}
use Rattle.tree_walk.specs.Payloads.{IsPayload, ReadsPayload}
use Rattle.tree_walk.specs.PayloadsLaws.{payload-one, payload-not_broken, no_view}
use Rattle.tree_rows.specs.CoursesLaws.{IsSeenAt, AreSeenFrom, same_view, cell-member, torn-some}
use Rattle.database_spec.specs.Walks.{Finding, Finds, Holds, Breaks, Seen, IsCellVisit}
use Rattle.database_spec.specs.FileFindings.{Subject, Found, InTree}
use Rattle.database_spec.specs.FileFaults.{FirstWrong}
use Rattle.database_laws.specs.RightFindings.{AreRight}
use Rattle.database_laws.specs.RightFindingsLaws.{right-back, wrong-front}
use Rattle.database_laws.specs.RightFilesLaws.{in_tree}
use Rattle.db_check.specs.declared.fault.CheckFault.{CheckFault}
use Rattle.db_check.specs.declared.walk.CheckedTree.{CheckedTree}
use Rattle.db_check.specs.declared.walk.Progress.{Progress}
use Rattle.db_check.specs.Answers.{told}
use Rattle.db_check.specs.Passes.{IsMarked, Passes, PassesChain, chain_found, torn_found}
use Rattle.db_check.specs.Steps.{Leaves, Refuses}
use Rattle.db_check.specs.TreeSteps.{HoldsMember, CellAt, CellsFrom, DividerAt, MemberAt}
use Rattle.db_check.specs.PassesLaws.{refusal-then}
use Rattle.db_check.proofs.Steps.{Splits, knows-quiet, pages-quiet, pages-no_members}

-- a chain of nothing that names nothing
pub no_chain : (size usable count holder : ℕ) (m : ℕ → List ℕ) (flags : List Bool) (F : Type 0) (first bytes : ℕ) → first ≡ 0 → bytes ≡ 0 → PassesChain size usable count {F = F} holder first bytes flags flags (Ok tt) m
no_chain size usable count holder m flags F first bytes none empty subject before marked = (whole, torn)
  where
    sizes : Sizes
    sizes = record { size = size; usable = usable }

    base : Paged
    base = record { count = count; pages = m }

    whole : (numbers : List ℕ) → IsChain m size usable count first bytes numbers → Passes {F = F} before (chain_found subject numbers) flags (Ok tt)
    whole numbers is =
        let at = subst (λ (b : ℕ). IsChain m size usable count 0 b numbers) empty (subst (λ (f : ℕ). IsChain m size usable count f bytes numbers) none is) in
        let same = same_chain m size count usable 0 0 numbers [] at (chain-none sizes base) in
        subst⁻¹ (λ (ns : List ℕ). Passes {F = F} before (chain_found subject ns) flags (Ok tt)) same (tt, subst⁻¹ (IsMarked flags) (append-nil before) marked)

    torn : (page : ℕ) (t : IsBroken m size usable count first bytes page) → Passes {F = F} before (torn_found subject (last_linked holder t.numbers) t.numbers) flags (Ok tt)
    torn page t =
        let at = subst (λ (b : ℕ). IsBroken m size usable count 0 b page) empty (subst (λ (f : ℕ). IsBroken m size usable count f bytes page) none t) in
        absurd (chain-not_broken m size count usable 0 0 [] page (chain-none sizes base) at)

module _ (sizes : Sizes) (base : Paged) (kind : TreeKind) where
  abbrev chained : {F : Type 0} → ℕ → CellView → List Bool → List Bool → Result Unit (CheckFault F) → Type 0
  chained holder view old flags result = PassesChain sizes.size sizes.usable base.count holder view.overflow (view.payload - view.local) old flags result base.pages

  module _ (page : TreePage) (kind_is : tree_kind page.kind ≡ kind) (at : ℕ) where
    -- the view of a cell that was seen
    seen-view : (cell : Seen) → IsSeenAt sizes base kind (view_of page) at cell → (view : CellView) → ((d : CellView) → view ≡ slice_index_or page.views at d) → (bytes : List ℕ) (other : CellView)
        → IsCell page.kind sizes.usable bytes other → bytes ≡ cell.0 → view ≡ other
    seen-view cell seen view is bytes other is_cell same = is no_view ∙ same_view sizes base kind (view_of page) kind_is at cell seen bytes other is_cell same no_view

    broken_right : (subject : Subject) (before : List Found) (numbers : List ℕ) (last : ℕ) → AreRight before (torn_found subject last numbers) → ⊥
    broken_right subject before numbers last right =
        let end = Breaks last broken.Chain ∷ [] in
        let parts = subst (AreRight before) (map-append (InTree subject) (map Finds numbers) end) right in
        (right-back before (in_tree subject (map Finds numbers)) (in_tree subject end) parts).0

    -- a chain that was gone through leaves the member
    pub chain-left : (F : Type 0) (tree : CheckedTree) (old flags : List Bool) (walk : Progress) (view : CellView) → ((d : CellView) → view ≡ slice_index_or page.views at d) → chained {F = F} page.number view old flags (Ok tt)
        → Leaves tree (CellAt sizes base kind page at) (MemberAt sizes base kind page at) old flags walk walk
    chain-left F tree old flags walk view is passed subject before of knows findings (cell, seen, inl whole) =
        let c = whole.cell in
        let same = seen-view cell seen view is c.bytes c.view whole.held.is_cell whole.bytes_are in
        let its = subst (λ (v : CellView). chained {F = F} page.number v old flags (Ok tt)) same passed in
        let gone = (its subject before knows.marked).0 c.chain whole.held.is_chain in
        record {
          gone = map Finds c.chain;
          rest = Holds page.number (member c) ∷ [];
          whole = whole.findings_are;
          right = gone.0;
          knows = knows-quiet tree subject old flags walk before (in_tree subject (map Finds c.chain)) (λ depth. pages-quiet subject subject.root depth c.chain) (pages-no_members subject subject.root c.chain) gone.1 knows;
          is_rest = (cell, seen, (c, whole.bytes_are, whole.held, refl));
        }
    chain-left F tree old flags walk view is passed subject before of knows findings (cell, seen, inr torn) =
        let same = seen-view cell seen view is cell.0 torn.view torn.is_cell refl in
        let its = subst (λ (v : CellView). chained {F = F} page.number v old flags (Ok tt)) same passed in
        let numbers = torn.is_broken.numbers in
        absurd (broken_right subject before numbers (last_linked page.number numbers) ((its subject before knows.marked).1 torn.at torn.is_broken).0)

    -- a chain that is refused
    pub chain-refused : {F : Type 0} (tree : CheckedTree) (old flags : List Bool) (walk : Progress) (view : CellView) (fault : CheckFault F) → ((d : CellView) → view ≡ slice_index_or page.views at d)
        → chained page.number view old flags (Err fault) → Refuses tree (CellAt sizes base kind page at) old walk fault
    chain-refused tree old flags walk view fault is passed subject before of knows findings (cell, seen, inl whole) =
        let c = whole.cell in
        let same = seen-view cell seen view is c.bytes c.view whole.held.is_cell whole.bytes_are in
        let its = subst (λ (v : CellView). chained page.number v old flags (Err fault)) same passed in
        let wrong = (its subject before knows.marked).0 c.chain whole.held.is_chain in
        let later = Holds page.number (member c) ∷ [] in
        refusal-then (FirstWrong before (in_tree subject (map Finds c.chain))) (FirstWrong before (in_tree subject findings))
        (λ other w. subst⁻¹ (λ (list : List Found). FirstWrong before list other) (ap (in_tree subject) whole.findings_are ∙ map-append (InTree subject) (map Finds c.chain) later)
        (wrong-front before (in_tree subject (map Finds c.chain)) (in_tree subject later) other w)) fault wrong
    chain-refused tree old flags walk view fault is passed subject before of knows findings (cell, seen, inr torn) =
        let same = seen-view cell seen view is cell.0 torn.view torn.is_cell refl in
        let its = subst (λ (v : CellView). chained page.number v old flags (Err fault)) same passed in
        let numbers = torn.is_broken.numbers in
        refusal-then (FirstWrong before (torn_found subject (last_linked page.number numbers) numbers)) (FirstWrong before (in_tree subject findings))
        (λ other w. subst⁻¹ (λ (list : List Finding). FirstWrong before (in_tree subject list) other) torn.findings_are w) fault ((its subject before knows.marked).1 torn.at torn.is_broken)

    -- The member of a cell.

    -- the payload of a whole cell, as a cursor reads it
    member-payload : (cell : Seen) → IsSeenAt sizes base kind (view_of page) at cell → (whole : TreeCell) → whole.bytes ≡ cell.0 → IsHeld sizes base page.kind whole
        → (d : CellView) → IsPayload base.pages sizes.size sizes.usable base.count (view_of page) at (slice_index_or page.views at d) whole.payload
    member-payload cell seen whole same held d =
        let rest = chain_bytes base.pages sizes.usable whole.chain (whole.view.payload - whole.view.local) in
        (cell-member sizes base kind (view_of page) kind_is at cell seen whole held.is_cell same rest (inr (rest, (whole.chain, held.is_chain, refl), refl)) held.whole).payload_is d

    -- what was read is the member's payload
    pub member-read : (F : Type 0) (payload : List ℕ) → ReadsPayload base.pages sizes.size sizes.usable base.count {F = F} page at (Ok payload) → (findings : List Finding)
        → MemberAt sizes base kind page at findings → HoldsMember page.number payload findings
    member-read F payload reads findings (cell, seen, (whole, same, held, is)) =
        let its = member-payload cell seen whole same held no_view in
        (member whole, sym (payload-one base.pages sizes.size sizes.usable base.count (view_of page) at (slice_index_or page.views at no_view) payload whole.payload (reads no_view) its), is)

    -- it is not refused
    pub member-refused : {F : Type 0} (tree : CheckedTree) (flags : List Bool) (walk : Progress) (fault : TreeFault F) → ReadsPayload base.pages sizes.size sizes.usable base.count page at (Err fault)
        → Refuses tree (MemberAt sizes base kind page at) flags walk (told page.number fault)
    member-refused checked flags walk (tree.TreeDamaged number rule) bad subject before of knows findings (cell, seen, (whole, same, held, is)) =
        let its = member-payload cell seen whole same held no_view in
        let why = bad no_view in
        absurd (payload-not_broken base.pages sizes.size sizes.usable base.count (view_of page) at (slice_index_or page.views at no_view) whole.payload its why.0 number rule why.1)
    member-refused checked flags walk (tree.TrunkDamaged number) bad subject before of knows findings from = absurd bad
    member-refused checked flags walk (tree.TargetFull pages limit) bad subject before of knows findings from = absurd bad
    member-refused checked flags walk (tree.Store fault) bad subject before of knows findings from = tt
    member-refused checked flags walk (tree.Memory error) bad subject before of knows findings from = tt

    -- any member is one of some payload
    pub member-any : (findings : List Finding) → MemberAt sizes base kind page at findings → (payload : List ℕ) × HoldsMember page.number payload findings
    member-any findings (cell, seen, (whole, same, held, is)) = (whole.payload, (member whole, refl, is))

  module _ (page : TreePage) (kind_is : tree_kind page.kind ≡ kind) where
    -- The cells of a leaf.

    its-leaf : is_leaf page.kind ≡ true → leaf_kind kind ≡ page.kind
    its-leaf leaf = by page.kind kind kind_is leaf
      where
        by : (p : PageKind) (k : TreeKind) → tree_kind p ≡ k → is_leaf p ≡ true → leaf_kind k ≡ p
        by TableLeaf k is e = ap leaf_kind (sym is)
        by IndexLeaf k is e = ap leaf_kind (sym is)
        by TableInterior k is e = absurd (let h : ◌≡◌ {A = Bool} false true = e in let no : ⊥ = cc in no)
        by IndexInterior k is e = absurd (let h : ◌≡◌ {A = Bool} false true = e in let no : ⊥ = cc in no)

    pub its-interior : is_leaf page.kind ≡ false → interior_kind kind ≡ page.kind
    its-interior inner = by page.kind kind kind_is inner
      where
        by : (p : PageKind) (k : TreeKind) → tree_kind p ≡ k → is_leaf p ≡ false → interior_kind k ≡ p
        by TableInterior k is e = ap interior_kind (sym is)
        by IndexInterior k is e = ap interior_kind (sym is)
        by TableLeaf k is e = absurd (let h : ◌≡◌ {A = Bool} true false = e in let no : ⊥ = cc in no)
        by IndexLeaf k is e = absurd (let h : ◌≡◌ {A = Bool} true false = e in let no : ⊥ = cc in no)

    -- a cell in front of those behind it
    pub cells-split : is_leaf page.kind ≡ true → (at : ℕ) → at < length page.views → Splits (CellsFrom sizes base kind page at) (CellAt sizes base kind page at) (CellsFrom sizes base kind page (at + 1))
    cells-split leaf at low findings ([], seen, visits) = absurd (omega (arith, seen, low))
    cells-split leaf at low findings (cell ∷ cells, seen, (own, later, is, are, same)) = (
      own,
      later,
      same,
      (cell, seen.0, subst (λ (k : PageKind). IsCellVisit sizes base k (λ c. member c ∷ []) page.number cell.0 own) (its-leaf leaf) is),
      let next : suc at ≡ at + 1 = omega arith in
          (cells, subst (λ (n : ℕ). AreSeenFrom sizes base kind (view_of page) n cells) next seen.1, are),
    )

    seen-end : (at : ℕ) (cell : Seen) → IsSeenAt sizes base kind (view_of page) at cell → length page.views ≤ at → ⊥
    seen-end at cell seen past = let clash : None ≡ Some cell.1 = sym (slice_get_past page.views at past) ∙ seen.get in let no : ⊥ = cc in no

    -- no cell is left
    pub cells-end : (at : ℕ) → length page.views ≤ at → (findings : List Finding) → CellsFrom sizes base kind page at findings → findings ≡ []
    cells-end at past findings ([], seen, visits) = visits
    cells-end at past findings (cell ∷ cells, seen, visits) = absurd (seen-end at cell seen.0 past)

    -- The cell behind a child.

    -- a divider of a table has no chain and is no member
    pub divider-none : kind ≡ Table → (at : ℕ) (findings : List Finding) → DividerAt sizes base kind page at findings → findings ≡ []
    divider-none is at findings (cell, seen, visit) = by (subst (λ (k : TreeKind). IsCellVisit sizes base (interior_kind k) (between k) page.number cell.0 findings) is visit)
      where
        chain_empty : (c : TreeCell) → IsHeld sizes base TableInterior c → c.chain ≡ []
        chain_empty c held =
            let none : c.view.payload - c.view.local ≡ 0 = omega (arith, held.is_cell.payload) in
            let at_none = subst (λ (f : ℕ). IsChain base.pages sizes.size sizes.usable base.count f 0 c.chain) held.is_cell.overflow
            (subst (λ (b : ℕ). IsChain base.pages sizes.size sizes.usable base.count c.view.overflow b c.chain) none held.is_chain) in
            same_chain base.pages sizes.size base.count sizes.usable 0 0 c.chain [] at_none (chain-none sizes base)

        by : IsCellVisit sizes base TableInterior (between Table) page.number cell.0 findings → findings ≡ []
        by (inl whole) = whole.findings_are ∙ ap (λ (ns : List ℕ). map Finds ns ++ []) (chain_empty whole.cell whole.held)
        by (inr torn) = absurd (omega (arith, torn-some sizes base TableInterior cell.0 torn.view torn.is_cell torn.is_broken, torn.is_cell.payload))

    -- and that of an index is a member
    pub divider-cell : kind ≡ Index → is_leaf page.kind ≡ false → (at : ℕ) (findings : List Finding) → DividerAt sizes base kind page at findings → CellAt sizes base kind page at findings
    divider-cell is inner at findings (cell, seen, visit) = (
      cell,
      seen,
      subst (λ (p : PageKind). IsCellVisit sizes base p (λ c. member c ∷ []) page.number cell.0 findings) (its-interior inner)
          (subst⁻¹ (λ (k : TreeKind). IsCellVisit sizes base (interior_kind k) (λ c. member c ∷ []) page.number cell.0 findings) is
          (subst (λ (k : TreeKind). IsCellVisit sizes base (interior_kind k) (between k) page.number cell.0 findings) is visit)),
    )
