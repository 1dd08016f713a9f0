-- A file in which all that is found is right is sound: crates above cite these facts in their proofs.
use Rattle.std.proofs.Common.{◌≡◌, ◌≢◌, ℕ, zero, suc, ◌+◌, ◌<◌, ◌≤◌, ◌==◌, ◌&&◌, not, Bool, true, false, List, [], ◌∷◌, ◌++◌, map, filter, if◌then◌else◌, Result, Ok, Err, is_ok, refl, sym, ap, ap₂, ◌∙◌, subst, inl, inr, arith}
use Rattle.std.proofs.Math.Path.{subst⁻¹}
use Rattle.std.specs.Prelude.{AllPairs, filter_map, IfOk}
use Rattle.std.specs.List.{flat_map, list_any, AllZip, AllByRecursion, range_with_len}
use Rattle.std.proofs.lemmas.Bool.{cases_lt, cases_eq, eq-eqb, eqb-true, ne_eqb}
use Rattle.std.proofs.lemmas.Bool.Decides.{nat_tests}
use Rattle.std.proofs.lemmas.List.Elements.{filter_map-append}
use Rattle.page_spec.specs.Pages.{lock_byte_page, next_page}
use Rattle.page_spec.specs.Chains.{AreLinked}
use Rattle.page_spec.specs.Counts.{times}
use Rattle.page_spec.specs.CountsLaws.{times-append, times-cons, times-itself, times-other, times-all}
use Rattle.page_spec.specs.FreePages.{due}
use Rattle.page_spec.specs.FreePagesLaws.{due-most, due-first, due-within, due-other}
use Rattle.page_spec.specs.Freelists.{free_pages}
use Rattle.page_spec.specs.FreelistsLaws.{free-in_range}
use Rattle.format_spec.specs.Header.{freelist_trunk}
use Rattle.format_spec.specs.declared.PageKind.{PageKind}
use Rattle.schema_spec.specs.declared.schema.SqlFault.{SqlFault}
use Rattle.schema_spec.specs.declared.schema.Table.{Table}
use Rattle.schema_spec.specs.declared.schema.Index.{Index}
use Rattle.tree_spec.specs.declared.TreeKind.{TreeKind}
use Rattle.tree_spec.specs.declared.TreeKind.TheVariants as tree
use Rattle.tree_spec.specs.Trees.{TreeCell, TreeOf, Rooted, Member, leaf_kind, page_of, chain_pages, pages_of, pages_below, root_of, pages_in, list_in}
use Rattle.tree_spec.specs.Standing.{Sizes, Paged, IsNumber, IsRootNumber, IsHeld, HasBelow, StandsBefore, IsRoot}
use Rattle.tree_spec.specs.OneTreeLaws.{rooted-one}
use Rattle.tree_spec.specs.Worlds.{World, all_pages, greatest_count, IsWorld}
use Rattle.tree_spec.specs.WorldsLaws.{all-join}
use Rattle.database_spec.specs.declared.catalog.NamedEntry.{NamedEntry}
use Rattle.database_spec.specs.declared.catalog.Catalog.{Catalog}
use Rattle.database_spec.specs.RightRows.{HasCatalog}
use Rattle.database_spec.specs.Walks.{Finding, Finds, Ends, Holds, Breaks, Disorders, Bares, IsWalk, members_found, pages_found, IsList}
use Rattle.database_spec.specs.TreeWalksLaws.{flawless-goes_on}
use Rattle.database_spec.specs.ItemsLaws.{Has, has-left, has-right, map-has, has-filter, filter-has, any-has, has-any, decide, true-false}
use Rattle.database_spec.specs.Rows.{TableRow, IsRow, IsPlain}
use Rattle.database_spec.specs.RowsLaws.{plain-one}
use Rattle.database_spec.specs.Keys.{IsIndexOf}
use Rattle.database_spec.specs.Databases.{Database, header_of, list_at, table_roots, index_roots, HasItsKind, IsReadable, IsWhole, HoldsProjection, HoldsProjections, IsSound}
use Rattle.database_spec.specs.FileFindings.{Content, Rows, Entries, Anything, Subject, Walked, Found, InTree, Frees, Tears, Counts, Needs, Compares, table_kind, table_content, IsIndexContent, schema_subject, IsWalked, freelist_found, pages_needed, tree_found, content_compared, compared, AreFound}
use Rattle.database_spec.specs.FileFaults.{page_found, is_found, free_page, ends_elsewhere}
use Rattle.database_laws.specs.RightFindings.{IsRightMember, IsRight, AreRight}
use Rattle.database_laws.specs.FoundTreesLaws.{AreFlawless, walk-tree}
use Rattle.database_laws.specs.RightFindingsLaws.{numbers_in, numbers-append, found-some, found-none, right-front, right-back}
use Rattle.database_laws.specs.FoundFreelistsLaws.{FoundFreelist, freelist-of}
use Rattle.database_laws.specs.SubjectsLaws.{zip-has, has-zip, joined-has, has-joined, schema-stands, table-stands, index-stands, subject-one, own-tree, own_tree, read-number, subject-number, roots-are}

-- Lists.

pub all-of : {A : Type 0} (P : A → Type 0) (xs : List A) (x : A) → AllByRecursion P xs → Has x xs → P x
all-of P [] x all h = absurd h
all-of P (y ∷ xs) x all (inl e) = subst P e all.0
all-of P (y ∷ xs) x all (inr h) = all-of P xs x all.1 h

pub all-has : {A : Type 0} (P : A → Type 0) (xs : List A) → ((x : A) → Has x xs → P x) → AllByRecursion P xs
all-has P [] each = tt
all-has P (x ∷ xs) each = (each x (inl refl), all-has P xs (λ y h. each y (inr h)))

has-range : (a n k : ℕ) → a ≤ n → n < a + k → Has n (range_with_len a k)
has-range a n zero low high = absurd (omega (arith, low, high))
has-range a n (suc k) low high =
    elim (cases_eq a n) [
      | inl same ↦ inl same
      | inr apart ↦ inr (has-range (a + 1) n k (omega (arith, low, apart)) (omega (arith, high)))
    ]

pub if_ok-each : {T E : Type 0} (r : Result T E) (P : T → Type 0) → ((x : T) → r ≡ Ok x → P x) → IfOk r P
if_ok-each (Ok x) P each = each x refl
if_ok-each (Err e) P each = tt

pub false-any : {A : Type 0} (p : A → Bool) (xs : List A) (x : A) → list_any p xs ≡ false → Has x xs → p x ≡ false
false-any p xs x none h = elim (decide (p x)) [ inl passes ↦ absurd (true-false (list_any p xs) (has-any p xs x h passes) none) | inr fails ↦ fails ]

-- Pages.

abbrev pub in_tree : Subject → List Finding → List Found
in_tree subject findings = map (InTree subject) findings

pub tree-numbers : (subject : Subject) (findings : List Finding) → numbers_in (in_tree subject findings) ≡ pages_found findings
tree-numbers subject [] = refl
tree-numbers subject (Finds page ∷ findings) = ap (λ ns. page ∷ ns) (tree-numbers subject findings)
tree-numbers subject (Ends page depth ∷ findings) = tree-numbers subject findings
tree-numbers subject (Holds page member ∷ findings) = tree-numbers subject findings
tree-numbers subject (Breaks page rule ∷ findings) = tree-numbers subject findings
tree-numbers subject (Disorders page ∷ findings) = tree-numbers subject findings
tree-numbers subject (Bares page ∷ findings) = tree-numbers subject findings

tree-free : (subject : Subject) (findings : List Finding) → filter_map free_page (in_tree subject findings) ≡ []
tree-free subject [] = refl
tree-free subject (finding ∷ findings) = tree-free subject findings

pub trees-free : (walks : List Walked) → filter_map free_page (flat_map tree_found walks) ≡ []
trees-free [] = refl
trees-free (walked ∷ walks) =
    filter_map-append free_page (tree_found walked) (flat_map tree_found walks) ∙ ap₂ (λ (x y : List ℕ). x ++ y) (tree-free walked.subject walked.findings) (trees-free walks)

pub needs-numbers : (numbers : List ℕ) → numbers_in (map Needs numbers) ≡ []
needs-numbers [] = refl
needs-numbers (n ∷ numbers) = needs-numbers numbers

content-numbers : (content : Content) (members : List Member) → numbers_in (content_compared content members) ≡ []
content-numbers Rows members = refl
content-numbers (Entries index rows) members = refl
content-numbers Anything members = refl

pub compared-numbers : (walks : List Walked) → numbers_in (flat_map compared walks) ≡ []
compared-numbers [] = refl
compared-numbers (walked ∷ walks) =
    filter_map-append page_found (compared walked) (flat_map compared walks)
    ∙ ap₂ (λ (x y : List ℕ). x ++ y) (content-numbers walked.subject.content (members_found walked.findings)) (compared-numbers walks)

page-once : (n page : ℕ) (before : List Found) → is_found page before ≡ false → times n (numbers_in before) ≤ 1 → times n (numbers_in before) + times n (page ∷ []) ≤ 1
page-once n page before new once =
    elim (cases_eq page n) [
      | inl same ↦
          let none = found-none page (numbers_in before) new in
          let here : times n (numbers_in before) ≡ 0 = subst (λ (m : ℕ). times m (numbers_in before) ≡ 0) same none in
          let one : times n (page ∷ []) ≡ 1 = ap (λ (m : ℕ). times n (m ∷ [])) same ∙ times-itself n in
          omega (arith, here, one)
      | inr apart ↦ omega (arith, once, times-other n page apart)
    ]

one-once : (n : ℕ) (before : List Found) (one : Found) → IsRight before one → times n (numbers_in before) ≤ 1 → times n (numbers_in before) + times n (numbers_in (one ∷ [])) ≤ 1
one-once n before (InTree subject (Finds page)) right once = page-once n page before right once
one-once n before (InTree subject (Ends page depth)) right once = omega (arith, once)
one-once n before (InTree subject (Holds page member)) right once = omega (arith, once)
one-once n before (InTree subject (Breaks page rule)) right once = absurd right
one-once n before (InTree subject (Disorders page)) right once = absurd right
one-once n before (InTree subject (Bares page)) right once = absurd right
one-once n before (Frees page) right once = page-once n page before right once
one-once n before (Tears page) right once = absurd right
one-once n before (Counts pages) right once = omega (arith, once)
one-once n before (Needs page) right once = omega (arith, once)
one-once n before (Compares index rows members) right once = omega (arith, once)

-- no page is found twice
right-once : (n : ℕ) (before found : List Found) → AreRight before found → times n (numbers_in before) ≤ 1 → times n (numbers_in before) + times n (numbers_in found) ≤ 1
right-once n before [] right once = omega (arith, once)
right-once n before (one ∷ found) right once =
    let here = numbers-append n before (one ∷ []) in
    let rest = right-once n (before ++ one ∷ []) found right.1 (omega (arith, here, one-once n before one right.0 once)) in
    omega (arith, rest, here, numbers-append n (one ∷ []) found)

-- each page that is needed is found
needs-found : (before : List Found) (numbers : List ℕ) → AreRight before (map Needs numbers) → (n : ℕ) → Has n numbers → 0 < times n (numbers_in before)
needs-found before [] right n h = absurd h
needs-found before (m ∷ numbers) right n (inl e) = subst (λ (k : ℕ). 0 < times k (numbers_in before)) e (found-some m (numbers_in before) right.0)
needs-found before (m ∷ numbers) right n (inr h) = omega (arith, needs-found (before ++ Needs m ∷ []) numbers right.1 n h, numbers-append n before (Needs m ∷ []))

-- Walks.

-- behind a leaf of a tree all its leaves stand as deep
flawless-behind : (subject : Subject) (page deepest : ℕ) (before : List Found) (findings : List Finding) → Has (InTree subject (Ends page deepest)) before → AreRight before (in_tree subject findings) → AreFlawless deepest findings
flawless-behind subject page deepest before [] h right = tt
flawless-behind subject page deepest before (Finds number ∷ findings) h right =
    (tt, flawless-behind subject page deepest (before ++ InTree subject (Finds number) ∷ []) findings (has-left before (InTree subject (Finds number) ∷ []) (InTree subject (Ends page deepest)) h) right.1)
flawless-behind subject page deepest before (Ends number depth ∷ findings) h right =
    let apart = false-any (ends_elsewhere subject.root depth) before (InTree subject (Ends page deepest)) right.0 h in
    let unlike : not (deepest == depth) ≡ false = sym (ap (λ (t : Bool). t && not (deepest == depth)) (eq-eqb subject.root subject.root refl)) ∙ apart in
    let same : depth ≡ deepest = elim (cases_eq depth deepest) [
      | inl e ↦ e
      | inr other ↦ absurd (true-false (not (deepest == depth)) (ap not (ne_eqb deepest depth (λ e. other (sym e)))) unlike)
    ] in
    (same, flawless-behind subject page deepest (before ++ InTree subject (Ends number depth) ∷ []) findings (has-left before (InTree subject (Ends number depth) ∷ []) (InTree subject (Ends page deepest)) h) right.1)
flawless-behind subject page deepest before (Holds number member ∷ findings) h right =
    (tt, flawless-behind subject page deepest (before ++ InTree subject (Holds number member) ∷ []) findings (has-left before (InTree subject (Holds number member) ∷ []) (InTree subject (Ends page deepest)) h) right.1)
flawless-behind subject page deepest before (Breaks number rule ∷ findings) h right = absurd right.0
flawless-behind subject page deepest before (Disorders number ∷ findings) h right = absurd right.0
flawless-behind subject page deepest before (Bares number ∷ findings) h right = absurd right.0

pub right-flawless : (subject : Subject) (before : List Found) (findings : List Finding) → AreRight before (in_tree subject findings) → (deepest : ℕ) × AreFlawless deepest findings
right-flawless subject before [] right = (0, tt)
right-flawless subject before (Finds number ∷ findings) right = let rest = right-flawless subject (before ++ InTree subject (Finds number) ∷ []) findings right.1 in (rest.0, (tt, rest.1))
right-flawless subject before (Ends number depth ∷ findings) right =
    let here = InTree subject (Ends number depth) in
    (depth, (refl, flawless-behind subject number depth (before ++ here ∷ []) findings (has-right before (here ∷ []) here (inl refl)) right.1))
right-flawless subject before (Holds number member ∷ findings) right = let rest = right-flawless subject (before ++ InTree subject (Holds number member) ∷ []) findings right.1 in (rest.0, (tt, rest.1))
right-flawless subject before (Breaks number rule ∷ findings) right = absurd right.0
right-flawless subject before (Disorders number ∷ findings) right = absurd right.0
right-flawless subject before (Bares number ∷ findings) right = absurd right.0

-- the rows of a table can be read
right-readable : (subject : Subject) → subject.content ≡ Rows → (before : List Found) (findings : List Finding) → AreRight before (in_tree subject findings) → AllByRecursion IsReadable (members_found findings)
right-readable subject rows before [] right = tt
right-readable subject rows before (Finds number ∷ findings) right = right-readable subject rows (before ++ InTree subject (Finds number) ∷ []) findings right.1
right-readable subject rows before (Ends number depth ∷ findings) right = right-readable subject rows (before ++ InTree subject (Ends number depth) ∷ []) findings right.1
right-readable subject rows before (Holds number member ∷ findings) right =
    (subst (λ (c : Content). IsRightMember before subject c member) rows right.0, right-readable subject rows (before ++ InTree subject (Holds number member) ∷ []) findings right.1)
right-readable subject rows before (Breaks number rule ∷ findings) right = absurd right.0
right-readable subject rows before (Disorders number ∷ findings) right = absurd right.0
right-readable subject rows before (Bares number ∷ findings) right = absurd right.0

-- what is compared with a table is its projection
right-compared : (before found : List Found) (index : Index) (rows : List TableRow) (members : List Member) → AreRight before found → Has (Compares index rows members) found → IsIndexOf index rows members
right-compared before [] index rows members right h = absurd h
right-compared before (one ∷ found) index rows members right (inl e) = subst (IsRight before) e right.0
right-compared before (one ∷ found) index rows members right (inr h) = right-compared (before ++ one ∷ []) found index rows members right.1 h

pub right-walk : (before : List Found) (walks : List Walked) (walked : Walked) → AreRight before (flat_map tree_found walks) → Has walked walks → (earlier : List Found) × AreRight earlier (tree_found walked)
right-walk before [] walked right h = absurd h
right-walk before (one ∷ walks) walked right (inl e) = (before, subst (λ (w : Walked). AreRight before (tree_found w)) e (right-front before (tree_found one) (flat_map tree_found walks) right))
right-walk before (one ∷ walks) walked right (inr h) = right-walk (before ++ tree_found one) walks walked (right-back before (tree_found one) (flat_map tree_found walks) right) h

module _ (sizes : Sizes) (base : Paged) where
  -- the tree that a walk has found
  pub record StandsFor (walked : Walked) (rooted : Rooted) : Type 0 where
    pub is_root : IsRoot sizes base rooted
    pub root_is : root_of rooted ≡ walked.subject.root
    pub kind_is : rooted.kind ≡ walked.subject.kind
    pub members_are : members_found walked.findings ≡ list_in rooted
    pub numbers_are : pages_found walked.findings ≡ pages_in rooted

  tree-for : (subject : Subject) (walked : Walked) (before : List Found) → IsWalked sizes base subject walked → AreRight before (tree_found walked) → (rooted : Rooted) × StandsFor walked rooted
  tree-for subject walked before is right =
      let own = walked.subject in
      let walk = subst⁻¹ (λ (s : Subject). IsWalk sizes base s.kind s.root walked.findings) is.subject_is is.is_walk in
      let flawless = right-flawless own before walked.findings right in
      let found = walk-tree sizes base own.kind own.root flawless.0 walked.findings walk flawless.1 in
      (found.rooted, record { is_root = found.is_root; root_is = found.root_is; kind_is = found.kind_is; members_are = found.members_are; numbers_are = found.numbers_are })

  trees-for : (subjects : List Subject) (walks : List Walked) (before : List Found) → AllZip (IsWalked sizes base) subjects walks → AreRight before (flat_map tree_found walks)
      → (trees : List Rooted) × AllZip StandsFor walks trees
  trees-for [] [] before are right = ([], tt)
  trees-for [] (walked ∷ walks) before are right = absurd are
  trees-for (subject ∷ subjects) [] before are right = absurd are
  trees-for (subject ∷ subjects) (walked ∷ walks) before are right =
      let one = tree-for subject walked before are.0 (right-front before (tree_found walked) (flat_map tree_found walks) right) in
      let rest = trees-for subjects walks (before ++ tree_found walked) are.1 (right-back before (tree_found walked) (flat_map tree_found walks) right) in
      (one.0 ∷ rest.0, (one.1, rest.1))

  pub trees-numbers : (walks : List Walked) (trees : List Rooted) → AllZip StandsFor walks trees → numbers_in (flat_map tree_found walks) ≡ flat_map pages_in trees
  trees-numbers [] [] are = refl
  trees-numbers [] (rooted ∷ trees) are = absurd are
  trees-numbers (walked ∷ walks) [] are = absurd are
  trees-numbers (walked ∷ walks) (rooted ∷ trees) are =
      filter_map-append page_found (tree_found walked) (flat_map tree_found walks)
      ∙ ap₂ (λ (x y : List ℕ). x ++ y) (tree-numbers walked.subject walked.findings ∙ are.0.numbers_are) (trees-numbers walks trees are.1)

  trees-roots : (subjects : List Subject) (walks : List Walked) (trees : List Rooted) → AllZip (IsWalked sizes base) subjects walks → AllZip StandsFor walks trees
      → map root_of trees ≡ map (λ (s : Subject). s.root) subjects
  trees-roots [] [] [] walked are = refl
  trees-roots [] [] (rooted ∷ trees) walked are = absurd are
  trees-roots [] (w ∷ walks) trees walked are = absurd walked
  trees-roots (subject ∷ subjects) [] trees walked are = absurd walked
  trees-roots (subject ∷ subjects) (w ∷ walks) [] walked are = absurd are
  trees-roots (subject ∷ subjects) (w ∷ walks) (rooted ∷ trees) walked are =
      ap₂ (λ (n : ℕ) (ns : List ℕ). n ∷ ns) (are.0.root_is ∙ ap (λ (s : Subject). s.root) walked.0.subject_is) (trees-roots subjects walks trees walked.1 are.1)

  trees-root : (walks : List Walked) (trees : List Rooted) → AllZip StandsFor walks trees → AllByRecursion (IsRoot sizes base) trees
  trees-root [] [] are = tt
  trees-root [] (rooted ∷ trees) are = absurd are
  trees-root (walked ∷ walks) [] are = absurd are
  trees-root (walked ∷ walks) (rooted ∷ trees) are = (are.0.is_root, trees-root walks trees are.1)

  -- the list of a root among trees
  abbrev pub lists_of : List Rooted → List (ℕ × List Member)
  lists_of trees = map (λ rooted. (root_of rooted, list_in rooted)) trees

  pub list-known : (trees : List Rooted) (rooted : Rooted) → AllByRecursion (IsRoot sizes base) trees → Has rooted trees → list_at (lists_of trees) (root_of rooted) ≡ list_in rooted
  list-known [] rooted all h = absurd h
  list-known (one ∷ trees) rooted all h =
      let as_test = λ (t : Bool). if t then list_in one else list_at (lists_of trees) (root_of rooted) in
      elim (cases_eq (root_of one) (root_of rooted)) [
        | inl same ↦
            let other = all-of (IsRoot sizes base) (one ∷ trees) rooted all h in
            ap as_test (eq-eqb (root_of one) (root_of rooted) same) ∙ ap list_in (rooted-one sizes base one rooted same all.0.stands other.stands)
        | inr apart ↦
            let rest : list_at (lists_of trees) (root_of rooted) ≡ list_in rooted = elim h [ inl e ↦ absurd (apart (ap root_of e)) | inr later ↦ list-known trees rooted all.1 later ] in
            ap as_test (ne_eqb (root_of one) (root_of rooted) apart) ∙ rest
      ]

  -- Each page of a tree is one that a link may name, but for its root.

  chain-number : (first : ℕ) (numbers : List ℕ) → AreLinked base.pages sizes.size base.count first numbers → AllByRecursion (IsNumber sizes base) numbers
  chain-number first [] linked = tt
  chain-number first (n ∷ numbers) linked = (linked.1, chain-number (next_page (base.pages n)) numbers linked.2)

  cells-number : (page_kind : PageKind) (cells : List TreeCell) → AllByRecursion (IsHeld sizes base page_kind) cells → AllByRecursion (IsNumber sizes base) (chain_pages cells)
  cells-number page_kind [] held = tt
  cells-number page_kind (c ∷ cells) held =
      all-join (IsNumber sizes base) c.chain (chain_pages cells) (chain-number c.view.overflow c.chain held.0.is_chain.linked) (cells-number page_kind cells held.1)

  pages-number : (levels : ℕ) (tree : TreeOf levels) → IsNumber sizes base (page_of levels tree) → AllByRecursion (IsNumber sizes base) (pages_below levels tree) → AllByRecursion (IsNumber sizes base) (pages_of levels tree)
  pages-number zero tree own below = (own, below)
  pages-number (suc levels) tree own below = (own, below)

  module _ (kind : TreeKind) where
    children-number : (levels : ℕ) → ((tree : TreeOf levels) → HasBelow sizes base kind levels tree → AllByRecursion (IsNumber sizes base) (pages_below levels tree))
        → (children : List (TreeOf levels × TreeCell)) → AllByRecursion (StandsBefore sizes base kind levels) children
        → AllByRecursion (IsNumber sizes base) (flat_map (λ (child : TreeOf levels × TreeCell). pages_of levels child.0 ++ child.1.chain) children)
    children-number levels below [] all = tt
    children-number levels below (child ∷ children) all =
        let own = pages-number levels child.0 all.0.0.in_range (below child.0 all.0.1.1) in
        let cell = chain-number child.1.view.overflow child.1.chain all.0.0.held.is_chain.linked in
        all-join (IsNumber sizes base) (pages_of levels child.0 ++ child.1.chain) (flat_map (λ (c : TreeOf levels × TreeCell). pages_of levels c.0 ++ c.1.chain) children)
        (all-join (IsNumber sizes base) (pages_of levels child.0) child.1.chain own cell) (children-number levels below children all.1)

    below-number : (levels : ℕ) (tree : TreeOf levels) → HasBelow sizes base kind levels tree → AllByRecursion (IsNumber sizes base) (pages_below levels tree)
    below-number zero tree below = cells-number (leaf_kind kind) tree.cells below
    below-number (suc levels) tree below =
        all-join (IsNumber sizes base) (flat_map (λ (child : TreeOf levels × TreeCell). pages_of levels child.0 ++ child.1.chain) tree.children) (pages_of levels tree.last)
        (children-number levels (below-number levels) tree.children below.0) (pages-number levels tree.last below.1.0 (below-number levels tree.last below.1.1.1))

  as-root : (n : ℕ) → IsNumber sizes base n → IsRootNumber sizes base n
  as-root n is = record { first = omega (arith, is.behind_first); within = is.within; not_lock_byte = is.not_lock_byte }

  root-number : (rooted : Rooted) → IsRoot sizes base rooted → IsRootNumber sizes base (root_of rooted) → (n : ℕ) → 0 < times n (pages_in rooted) → IsRootNumber sizes base n
  root-number rooted is own n = at rooted.levels rooted.tree own (below-number rooted.kind rooted.levels rooted.tree is.stands.1)
    where
      either : (page : ℕ) (below : List ℕ) → IsRootNumber sizes base page → AllByRecursion (IsNumber sizes base) below → 0 < times n (page ∷ below) → IsRootNumber sizes base n
      either page below own all some =
          elim (cases_eq page n) [
            | inl same ↦ subst (IsRootNumber sizes base) same own
            | inr apart ↦ as-root n (times-all (IsNumber sizes base) n below all (omega (arith, some, times-cons n page below, times-other n page apart)))
          ]

      at : (levels : ℕ) (tree : TreeOf levels) → IsRootNumber sizes base (page_of levels tree) → AllByRecursion (IsNumber sizes base) (pages_below levels tree) → 0 < times n (pages_of levels tree) → IsRootNumber sizes base n
      at zero tree own all some = either tree.page (pages_below zero tree) own all some
      at (suc levels) tree own all some = either tree.page (pages_below (suc levels) tree) own all some

  trees-number : (n : ℕ) (trees : List Rooted) → AllByRecursion (IsRoot sizes base) trees → AllByRecursion (λ (rooted : Rooted). IsRootNumber sizes base (root_of rooted)) trees → 0 < times n (flat_map pages_in trees) → IsRootNumber sizes base n
  trees-number n [] all roots some = absurd (omega (arith, some))
  trees-number n (rooted ∷ trees) all roots some =
      elim (cases_lt 0 (times n (pages_in rooted))) [
        | inl here ↦ root-number rooted all.0 roots.0 n here
        | inr none ↦ trees-number n trees all.1 roots.1 (omega (arith, some, none, times-append n (pages_in rooted) (flat_map pages_in trees)))
      ]

  pub due-root : (n : ℕ) → IsRootNumber sizes base n → due sizes.size base.count n ≡ 1
  unfolding due
  due-root n is = grind (arith, nat_tests, is.first, is.within, is.not_lock_byte)

  needed-has : (n : ℕ) → 0 < due sizes.size base.count n → Has n (pages_needed sizes base)
  needed-has n some =
      has-filter (λ (number : ℕ). not (number == lock_byte_page sizes.size)) (range_with_len 1 base.count) n
      (has-range 1 n base.count (due-first sizes.size base.count n some) (omega (arith, due-within sizes.size base.count n some)))
      (ap not (ne_eqb n (lock_byte_page sizes.size) (due-other sizes.size base.count n some)))

-- a file with a catalog in which all that is found is right; page 1 is a page of it, and there are not too many
module _ (sizes : Sizes) (base : Paged) (catalog : Catalog) (found : List Found) (first : IsRootNumber sizes base 1) (few : base.count ≤ greatest_count)
    (has : HasCatalog sizes base catalog) (are : AreFound sizes base catalog found) (right : AreRight [] found) where
  abbrev of_trees : List Found
  of_trees = flat_map tree_found are.walks

  abbrev of_freelist : List Found
  of_freelist = freelist_found sizes base

  abbrev of_needs : List Found
  of_needs = map Needs (pages_needed sizes base)

  abbrev of_indexes : List Found
  of_indexes = flat_map compared are.walks

  all-right : AreRight [] (of_trees ++ (of_freelist ++ (of_needs ++ of_indexes)))
  all-right = subst (AreRight []) are.found_are right

  trees-right : AreRight [] of_trees
  trees-right = right-front [] of_trees (of_freelist ++ (of_needs ++ of_indexes)) all-right

  free-right : AreRight of_trees of_freelist
  free-right = right-front of_trees of_freelist (of_needs ++ of_indexes) (right-back [] of_trees (of_freelist ++ (of_needs ++ of_indexes)) all-right)

  rest-right : AreRight (of_trees ++ of_freelist) (of_needs ++ of_indexes)
  rest-right = right-back of_trees of_freelist (of_needs ++ of_indexes) (right-back [] of_trees (of_freelist ++ (of_needs ++ of_indexes)) all-right)

  needs-right : AreRight (of_trees ++ of_freelist) of_needs
  needs-right = right-front (of_trees ++ of_freelist) of_needs of_indexes rest-right

  indexes-right : AreRight ((of_trees ++ of_freelist) ++ of_needs) of_indexes
  indexes-right = right-back (of_trees ++ of_freelist) of_needs of_indexes rest-right

  made : (trees : List Rooted) × AllZip (StandsFor sizes base) are.walks trees
  made = trees-for sizes base are.subjects are.walks [] are.are_walks trees-right

  abbrev trees : List Rooted
  trees = made.0

  abbrev lists : List (ℕ × List Member)
  lists = lists_of sizes base trees

  all-roots : AllByRecursion (IsRoot sizes base) trees
  all-roots = trees-root sizes base are.walks trees made.1

  once-found : (n : ℕ) → times n (numbers_in of_trees) + times n (numbers_in of_freelist) ≤ 1
  once-found n = right-once n of_trees of_freelist free-right (omega (arith, right-once n [] of_trees trees-right (omega arith)))

  free : FoundFreelist sizes base
  free = freelist-of sizes base of_trees (trees-free are.walks) free-right (λ n. omega (arith, once-found n))

  abbrev world : World
  world = record { trees = trees; trunks = free.trunks }

  counted : (n : ℕ) → times n (all_pages world) ≡ times n (numbers_in of_trees) + times n (numbers_in of_freelist)
  counted n =
      times-append n (flat_map pages_in trees) (free_pages free.trunks)
      ∙ ap₂ (λ (a b : ℕ). a + b) (ap (times n) (sym (trees-numbers sizes base are.walks trees made.1))) (ap (times n) (sym free.numbers_are))

  -- the tree of a root is one of the catalog
  subject-of : (rooted : Rooted) → Has rooted trees → (subject : Subject) × Has subject are.subjects × (root_of rooted ≡ subject.root) × (rooted.kind ≡ subject.kind)
  subject-of rooted h =
      let walked = zip-has (StandsFor sizes base) are.walks trees rooted made.1 h in
      let subject = zip-has (IsWalked sizes base) are.subjects are.walks walked.0 are.are_walks walked.1 in
      (subject.0, subject.1, walked.2.root_is ∙ ap (λ (s : Subject). s.root) subject.2.subject_is, walked.2.kind_is ∙ ap (λ (s : Subject). s.kind) subject.2.subject_is)

  subject-root : (subject : Subject) → Has subject are.subjects → IsRootNumber sizes base subject.root
  subject-root subject h =
      elim (subject-number sizes base catalog are.subjects has are.are_subjects subject h) [
        | inl e ↦ subst⁻¹ (λ (s : Subject). IsRootNumber sizes base s.root) e first
        | inr number ↦ as-root sizes base subject.root number
      ]

  root-known : (rooted : Rooted) → Has rooted trees → IsRootNumber sizes base (root_of rooted)
  root-known rooted h = let own = subject-of rooted h in subst⁻¹ (IsRootNumber sizes base) own.2 (subject-root own.0 own.1)

  number-of : (n : ℕ) → 0 < times n (all_pages world) → IsRootNumber sizes base n
  number-of n some =
      elim (cases_lt 0 (times n (flat_map pages_in trees))) [
        | inl here ↦ trees-number sizes base n trees all-roots (all-has (λ (r : Rooted). IsRootNumber sizes base (root_of r)) trees root-known) here
        | inr none ↦
            as-root sizes base n
            (free-in_range sizes.size sizes.usable base.pages base.count (freelist_trunk (base.pages 1)) free.trunks free.is.named n
            (omega (arith, some, none, times-append n (flat_map pages_in trees) (free_pages free.trunks))))
      ]

  once-each : (n : ℕ) → times n (all_pages world) ≡ due sizes.size base.count n
  once-each n =
      elim (cases_lt 0 (due sizes.size base.count n)) [
        | inl some ↦
            let stands = needs-found (of_trees ++ of_freelist) (pages_needed sizes base) needs-right n (needed-has sizes base n some) in
            omega (arith, some, stands, due-most sizes.size base.count n, counted n, once-found n, numbers-append n of_trees of_freelist)
        | inr none ↦ elim (cases_lt 0 (times n (all_pages world))) [
          | inl stands ↦ absurd (omega (arith, none, due-root sizes base n (number-of n stands)))
          | inr lacks ↦ omega (arith, none, lacks)
        ]
      ]

  roots : map root_of trees ≡ catalog.roots
  roots = trees-roots sizes base are.subjects are.walks trees are.are_walks made.1 ∙ roots-are sizes base catalog are.subjects has are.are_subjects

  is-world : IsWorld sizes base world
  is-world = record {
    trees = all-roots;
    rise = subst⁻¹ (AllPairs (λ (x y : ℕ). x < y)) roots has.is_catalog.roots_rise;
    freelist = free.is;
    once = once-each;
    few = few;
  }

  -- Each tree is of its kind.

  one-subject : (a b : Subject) → Has a are.subjects → Has b are.subjects → a.root ≡ b.root → a ≡ b
  one-subject = subject-one sizes base catalog are.subjects has are.are_subjects

  own-stands : (named : NamedEntry) → Has named catalog.tables → named.entry.root ≢ 0 → Has (own_tree sizes base catalog are.subjects has are.are_subjects named.entry) are.subjects
  own-stands named h some =
      let own = own_tree sizes base catalog are.subjects has are.are_subjects named.entry in
      table-stands sizes base catalog are.subjects has are.are_subjects named own h
      (subst⁻¹ (λ (list : List Subject). Has own list) (own-tree sizes base catalog are.subjects has are.are_subjects named.entry some) (inl refl))

  kind-of : (rooted : Rooted) → Has rooted trees → HasItsKind catalog rooted
  kind-of rooted h =
      let own = subject-of rooted h in
      let number = root-known rooted h in
      record {
        table = λ among.
            let root = any-has (λ (other : ℕ). other == root_of rooted) (table_roots catalog) among in
            let here = eqb-true root.0 (root_of rooted) root.2 in
            let kind : own.0.kind ≡ tree.Table = elim root.1 [
              | inl one ↦ ap (λ (s : Subject). s.kind) (one-subject own.0 (schema_subject sizes base) own.1 (schema-stands sizes base catalog are.subjects has are.are_subjects) (sym own.2 ∙ sym here ∙ sym one))
              | inr later ↦
                  let named = map-has (λ (n : NamedEntry). n.entry.root) (filter (λ (n : NamedEntry). is_ok n.entry.meaning) catalog.tables) root.0 later in
                  let kept = filter-has (λ (n : NamedEntry). is_ok n.entry.meaning) catalog.tables named.0 named.1 in
                  let entry = named.0.entry in
                  let stands = own-stands named.0 kept.0 (λ none. absurd (omega (arith, none, named.2, here, number.first))) in
                  ap (λ (s : Subject). s.kind) (one-subject own.0 (own_tree sizes base catalog are.subjects has are.are_subjects entry) own.1 stands (sym own.2 ∙ sym here ∙ sym named.2))
                  ∙ ap (λ (t : Bool). table_kind t (base.pages entry.root) entry.root) kept.1
            ] in
            own.3 ∙ kind;
        index = λ among.
            let root = any-has (λ (other : ℕ). other == root_of rooted) (index_roots catalog) among in
            let here = eqb-true root.0 (root_of rooted) root.2 in
            let named = joined-has (λ (n : NamedEntry). map (λ (index : ℕ × Result Index SqlFault). index.0) n.entry.indexes) catalog.tables root.0 root.1 in
            let index = map-has (λ (i : ℕ × Result Index SqlFault). i.0) named.0.entry.indexes root.0 named.2 in
            let other = index-stands sizes base catalog are.subjects has are.are_subjects named.0 index.0 named.1 index.1 in
            own.3 ∙ ap (λ (s : Subject). s.kind) (one-subject own.0 other.0 own.1 other.1 (sym own.2 ∙ sym here ∙ sym index.2 ∙ sym other.2.root)) ∙ other.2.kind;
      }

  -- What the trees hold.

  walk-of : (subject : Subject) → Has subject are.subjects → (walked : Walked) × Has walked are.walks × IsWalked sizes base subject walked
  walk-of subject h = has-zip (IsWalked sizes base) are.subjects are.walks subject are.are_walks h

  list-of : (subject : Subject) (walked : Walked) → Has walked are.walks → IsWalked sizes base subject walked → list_at lists subject.root ≡ members_found walked.findings
  list-of subject walked h is =
      let rooted = has-zip (StandsFor sizes base) are.walks trees walked made.1 h in
      let root : subject.root ≡ root_of rooted.0 = sym (rooted.2.root_is ∙ ap (λ (s : Subject). s.root) is.subject_is) in
      ap (list_at lists) root ∙ list-known sizes base trees rooted.0 all-roots rooted.1 ∙ sym rooted.2.members_are

  is-list : (subject : Subject) → Has subject are.subjects → IsList sizes base subject.kind subject.root (list_at lists subject.root)
  is-list subject h =
      let walked = walk-of subject h in
      let own = right-walk [] are.walks walked.0 trees-right walked.1 in
      let flawless = right-flawless walked.0.subject own.0 walked.0.findings own.1 in
      (walked.0.findings, walked.2.is_walk, flawless-goes_on flawless.0 walked.0.findings flawless.1, list-of subject walked.0 walked.1 walked.2)

  read-tree : (named : NamedEntry) (table : Table) → Has named catalog.tables → named.entry.meaning ≡ Ok table
      → (subject : Subject) × Has subject are.subjects × (subject.root ≡ named.entry.root) × (subject.kind ≡ tree.Table) × (subject.content ≡ Rows)
  read-tree named table h e =
      let entry = named.entry in
      let number = read-number sizes base catalog are.subjects has are.are_subjects named table h e in
      let stands = own-stands named h (λ none. absurd (omega (arith, none, number.behind_first))) in
      let ok : is_ok entry.meaning ≡ true = ap is_ok e in
      (own_tree sizes base catalog are.subjects has are.are_subjects entry, stands, refl, ap (λ (t : Bool). table_kind t (base.pages entry.root) entry.root) ok, ap table_content ok)

  readable : (named : NamedEntry) → Has named catalog.tables → IfOk named.entry.meaning (λ table. AllByRecursion IsReadable (list_at lists named.entry.root))
  readable named h =
      if_ok-each named.entry.meaning (λ table. AllByRecursion IsReadable (list_at lists named.entry.root))
      (λ table e.
      let own = read-tree named table h e in
      let walked = walk-of own.0 own.1 in
      let earlier = right-walk [] are.walks walked.0 trees-right walked.1 in
      let content : walked.0.subject.content ≡ Rows = ap (λ (s : Subject). s.content) walked.2.subject_is ∙ own.4 in
      let all = right-readable walked.0.subject content earlier.0 walked.0.findings earlier.1 in
      subst⁻¹ (AllByRecursion IsReadable) (ap (list_at lists) (sym own.2) ∙ list-of own.0 walked.0 walked.1 walked.2) all)

  -- the rows of a table in the profile make it plain
  plain : (named : NamedEntry) (table : Table) (rows : List TableRow) → Has named catalog.tables → named.entry.meaning ≡ Ok table → AllZip (IsRow table) (list_at lists named.entry.root) rows
      → IsPlain sizes base named.entry table rows
  plain named table rows h e are_rows =
      let own = read-tree named table h e in
      let list = subst (λ (k : TreeKind). IsList sizes base k own.0.root (list_at lists own.0.root)) own.3 (is-list own.0 own.1) in
      record { meaning = e; members = list_at lists named.entry.root; is_list = subst (λ (n : ℕ). IsList sizes base tree.Table n (list_at lists n)) own.2 list; rows_are = are_rows }

  projection : (named : NamedEntry) (table : Table) (rows : List TableRow) (index : ℕ × Result Index SqlFault) (read : Index) → Has named catalog.tables → IsPlain sizes base named.entry table rows
      → Has index named.entry.indexes → index.1 ≡ Ok read → IsIndexOf read rows (list_at lists index.0)
  projection named table rows index read h is_plain among e =
      let own = index-stands sizes base catalog are.subjects has are.are_subjects named index h among in
      let walked = walk-of own.0 own.1 in
      let list : list_at lists index.0 ≡ members_found walked.0.findings = ap (list_at lists) (sym own.2.root) ∙ list-of own.0 walked.0 walked.1 walked.2 in
      subst⁻¹ (IsIndexOf read rows) list (by own.0.content own.2.content walked.0 (ap (λ (s : Subject). s.content) walked.2.subject_is) walked.1)
    where
      by : (content : Content) → IsIndexContent sizes base named.entry index.1 content → (walked : Walked) → walked.subject.content ≡ content → Has walked are.walks → IsIndexOf read rows (members_found walked.findings)
      by Rows is walked same stands = absurd is
      by (Entries other others) is walked same stands =
          let read_same : Ok read ≡ Ok other = sym e ∙ is.0 in
          let one : read ≡ other = cc in
          let also = (plain-one sizes base named.entry table is.1.0 rows others is_plain is.1.1).1 in
          let here = subst⁻¹ (λ (c : Content). Has (Compares other others (members_found walked.findings)) (content_compared c (members_found walked.findings))) same (inl refl) in
          let compared_right = right-compared ((of_trees ++ of_freelist) ++ of_needs) of_indexes other others (members_found walked.findings) indexes-right
          (has-joined compared are.walks walked (Compares other others (members_found walked.findings)) stands here) in
          subst⁻¹ (λ (i : Index). IsIndexOf i rows (members_found walked.findings)) one (subst⁻¹ (λ (r : List TableRow). IsIndexOf other r (members_found walked.findings)) also compared_right)
      by Anything is walked same stands = absurd (is read table rows e is_plain)

  abbrev database : Database
  database = record { header = header_of (base.pages 1); lists = lists }

  is-whole : IsWhole sizes base catalog database
  is-whole = record {
    world = world;
    is_world = is-world;
    has_catalog = has;
    roots = roots;
    kinds = all-has (HasItsKind catalog) trees kind-of;
    header = refl;
    lists = refl;
    readable = all-has (λ (named : NamedEntry). IfOk named.entry.meaning (λ table. AllByRecursion IsReadable (list_at lists named.entry.root))) catalog.tables readable;
  }

  -- so it is sound
  pub right-sound : (db : Database) × IsSound sizes base catalog db
  right-sound = (
    database,
    record {
      whole = is-whole;
      indexes = all-has (HoldsProjections lists) catalog.tables
          (λ named h table rows e are_rows.
          let is_plain = plain named table rows h e are_rows in
          all-has (HoldsProjection lists rows) named.entry.indexes
          (λ index among. if_ok-each index.1 (λ read. IsIndexOf read rows (list_at lists index.0)) (λ read is. projection named table rows index read h is_plain among is)));
    },
  )
