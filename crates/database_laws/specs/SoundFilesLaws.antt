-- In a sound file all that is found is right: crates above cite these facts in their proofs.
use Rattle.std.proofs.Common.{◌≡◌, ◌≢◌, ℕ, zero, suc, ◌+◌, ◌<◌, ◌≤◌, ◌==◌, ◌&&◌, ◌||◌, not, Bool, true, false, List, [], ◌∷◌, ◌++◌, length, map, filter, if◌then◌else◌, slice_index, Result, Ok, Err, is_ok, refl, sym, ap, ap₂, ◌∙◌, subst, inl, inr, arith, length-append}
use Rattle.std.proofs.Math.Path.{subst⁻¹}
use Rattle.std.specs.Prelude.{AllPairs, filter_map, IfOk, slice_index_or}
use Rattle.std.specs.List.{flat_map, list_any, AllZip, AllByRecursion, range_with_len}
use Rattle.std.proofs.lemmas.Bool.{cases_eq, eq-eqb, ne_eqb}
use Rattle.std.proofs.lemmas.List.{append-nil, length-map}
use Rattle.std.proofs.lemmas.List.Elements.{filter_map-append, recursion_from_All}
use Rattle.std.proofs.lemmas.List.Sorted.{Contains-permutation, IsPermutation-sym}
use Rattle.std.proofs.lemmas.Result.{IfOk-at_ok}
use Rattle.rbu_value.specs.declared.order.Collation.{Collation}
use Rattle.rbu_value.specs.declared.value.Value.{Value}
use Rattle.rbu_value.specs.declared.value.Value.TheVariants.{Null, Int}
use Rattle.format_spec.specs.Page.{header_place, kind_byte}
use Rattle.format_spec.specs.Record.{IsRecord}
use Rattle.page_spec.specs.Pages.{lock_byte_page}
use Rattle.page_spec.specs.Counts.{times}
use Rattle.page_spec.specs.CountsLaws.{times-append, times-cons, times-itself}
use Rattle.page_spec.specs.FreePages.{due}
use Rattle.page_spec.specs.FreePagesLaws.{due-most}
use Rattle.page_spec.specs.Freelists.{free_pages}
use Rattle.schema_spec.specs.declared.schema.SqlFault.{SqlFault}
use Rattle.schema_spec.specs.declared.schema.Table.{Table}
use Rattle.schema_spec.specs.declared.schema.Index.{Index}
use Rattle.tree_spec.specs.declared.TreeKind.{TreeKind}
use Rattle.tree_spec.specs.declared.TreeKind.TheVariants as tree
use Rattle.tree_spec.specs.Trees.{Rooted, Member, kind_at, root_of, pages_in, depth_of, greatest_depth}
use Rattle.tree_spec.specs.Standing.{Sizes, Paged, IsRootNumber, IsRoot}
use Rattle.tree_spec.specs.Worlds.{World, IsWorld}
use Rattle.tree_spec.specs.WorldsLaws.{all-join, world-deep}
use Rattle.database_spec.specs.declared.catalog.NamedEntry.{NamedEntry}
use Rattle.database_spec.specs.declared.catalog.Catalog.{Catalog}
use Rattle.database_spec.specs.declared.fault.FileFault.{FileFault}
use Rattle.database_spec.specs.RightRows.{HasCatalog}
use Rattle.database_spec.specs.CatalogsLaws.{list-one, has_catalog-one, catalog-no_fault}
use Rattle.database_spec.specs.Walks.{Finding, Finds, Ends, Holds, Breaks, Disorders, Bares, IsWalk, members_found, pages_found, IsList}
use Rattle.database_spec.specs.WalksLaws.{walk-one}
use Rattle.database_spec.specs.TreeWalksLaws.{root-found, flawless-goes_on}
use Rattle.database_spec.specs.ListsLaws.{PairsByRecursion}
use Rattle.database_spec.specs.ItemsLaws.{Has, has-from, has-to, has-map, map-has, has-filter, filter-has, has-any, decide, true-false}
use Rattle.database_spec.specs.Rows.{TableRow, IsRow, IsPlain}
use Rattle.database_spec.specs.RowsLaws.{record-one}
use Rattle.database_spec.specs.Keys.{IsBefore, entry_of, IsIndexOf}
use Rattle.database_spec.specs.Databases.{Database, list_at, table_roots, index_roots, HasItsKind, IsReadable, HoldsProjection, HoldsProjections, IsSound}
use Rattle.database_spec.specs.FileFindings.{Content, Rows, Entries, Anything, Subject, Walked, Found, InTree, Frees, Tears, Counts, Needs, Compares, own_kind, table_kind, table_content, IsIndexContent, IsWalked, freelist_found, pages_needed, tree_found, content_compared, compared, AreFound}
use Rattle.database_spec.specs.FileFaults.{page_found, free_page, ends_elsewhere, IsEntry, FileHasFault}
use Rattle.prepared_laws.specs.SortsLaws.{all-weaken}
use Rattle.prepared_laws.specs.ChangesMadeLaws.{last-is}
use Rattle.database_laws.specs.RightFindings.{IsAfter, IsRightMember, AreRight}
use Rattle.database_laws.specs.FoundTreesLaws.{AreFlawless}
use Rattle.database_laws.specs.RightFindingsLaws.{numbers_in, numbers-append, none-found, some-found, right-join, are_right-not_wrong}
use Rattle.database_laws.specs.FoundFreelistsLaws.{frees-numbers, frees-free, freelist-found}
use Rattle.database_laws.specs.SubjectsLaws.{zip-has, has-zip, has-joined, OfTable, origin-of, table-stands, own_tree, own-tree, tree-own, read-number, roots-are}
use Rattle.database_laws.specs.RightFilesLaws.{all-of, all-has, in_tree, tree-numbers, trees-free, StandsFor, trees-numbers, lists_of, list-known, due-root}

-- Lists.

none-any : {A : Type 0} (p : A → Bool) (xs : List A) → AllByRecursion (λ x. p x ≡ false) xs → list_any p xs ≡ false
none-any p [] none = refl
none-any p (x ∷ xs) none = ap (λ (t : Bool). t || list_any p xs) none.0 ∙ none-any p xs none.1

and-false : (t u : Bool) → u ≡ false → (t && u) ≡ false
and-false true u e = e
and-false false u e = refl

pub pairs-to : {A : Type 0} (R : A → A → Type 0) (xs : List A) → AllPairs R xs → PairsByRecursion R xs
pairs-to R [] all = tt
pairs-to R (x ∷ xs) all = (
  recursion_from_All (R x) xs (λ k d low. all zero (suc k) d (omega arith) (omega (arith, low))),
  pairs-to R xs (λ i j d less long. all (suc i) (suc j) d (omega (arith, less)) (omega (arith, long))),
)

range-has : (a n k : ℕ) → Has n (range_with_len a k) → (a ≤ n) × (n < a + k)
range-has a n zero h = absurd h
range-has a n (suc k) (inl e) = (omega (arith, e), omega (arith, e))
range-has a n (suc k) (inr h) = let rest = range-has (a + 1) n k h in (omega (arith, rest.0), omega (arith, rest.1))

-- a place of an item parts a list
has-split : {A : Type 0} (xs : List A) (x : A) → Has x xs → (front : List A) × (back : List A) × (xs ≡ front ++ x ∷ back)
has-split [] x h = absurd h
has-split (y ∷ xs) x (inl e) = ([], xs, ap (λ z. z ∷ xs) e)
has-split (y ∷ xs) x (inr h) = let rest = has-split xs x h in (y ∷ rest.0, rest.1, ap (λ zs. y ∷ zs) rest.2)

ok-some : {T E : Type 0} (r : Result T E) → is_ok r ≡ true → (x : T) × (r ≡ Ok x)
ok-some (Ok x) e = (x, refl)
ok-some (Err x) e = absurd (let h : ◌≡◌ {A = Bool} false true = e in let no : ⊥ = cc in no)

-- Entries.

-- the entry of a row decodes as one
row-entry : (index : Index) (member : Member) (row : TableRow) → IsRecord member.payload (entry_of index row) → IsEntry index member (entry_of index row)
row-entry index member row is =
    let values = map (λ (column : ℕ × Collation × Bool). slice_index_or row.values column.0 Null) index.columns in
    let many : length values ≡ length index.columns = length-map index.columns (λ (column : ℕ × Collation × Bool). slice_index_or row.values column.0 Null) in
    record {
      is_record = is;
      many = omega (arith, length-append values (Int row.rowid ∷ []), many);
      rowid = row.rowid;
      last = last-is index row;
    }

entries-are : (index : Index) (rows : List TableRow) (members : List Member) (entries : List (List Value)) → AllZip (λ member entry. IsRecord member.payload entry) members entries
    → ((entry : List Value) → Has entry entries → Has entry (map (entry_of index) rows)) → AllZip (IsEntry index) members entries
entries-are index rows [] [] decoded from = tt
entries-are index rows [] (e ∷ entries) decoded from = absurd decoded
entries-are index rows (m ∷ members) [] decoded from = absurd decoded
entries-are index rows (m ∷ members) (e ∷ entries) decoded from =
    let row = map-has (entry_of index) rows e (from e (inl refl)) in (
      subst (IsEntry index m) row.2 (row-entry index m row.0 (subst⁻¹ (IsRecord m.payload) row.2 decoded.0)),
      entries-are index rows members entries decoded.1 (λ other h. from other (inr h)),
    )

-- What is found in one tree.

-- a leaf of the tree that stands as deep, or what is no leaf of it
abbrev FitsEnd : ℕ → ℕ → Found → Type 0
FitsEnd root deepest (InTree subject (Ends page depth)) = subject.root ≡ root → depth ≡ deepest
FitsEnd root deepest _ = Unit {0}

end-fits : (root deepest depth : ℕ) → depth ≡ deepest → (one : Found) → FitsEnd root deepest one → ends_elsewhere root depth one ≡ false
end-fits root deepest depth here (InTree subject (Finds page)) fits = refl
end-fits root deepest depth here (InTree subject (Ends page other)) fits =
    elim (cases_eq subject.root root) [
      | inl same ↦ and-false (subject.root == root) (not (other == depth)) (ap not (eq-eqb other depth (fits same ∙ sym here)))
      | inr apart ↦ ap (λ (t : Bool). t && not (other == depth)) (ne_eqb subject.root root apart)
    ]
end-fits root deepest depth here (InTree subject (Holds page member)) fits = refl
end-fits root deepest depth here (InTree subject (Breaks page rule)) fits = refl
end-fits root deepest depth here (InTree subject (Disorders page)) fits = refl
end-fits root deepest depth here (InTree subject (Bares page)) fits = refl
end-fits root deepest depth here (Frees page) fits = refl
end-fits root deepest depth here (Tears page) fits = refl
end-fits root deepest depth here (Counts pages) fits = refl
end-fits root deepest depth here (Needs page) fits = refl
end-fits root deepest depth here (Compares index rows members) fits = refl

-- it is not found in the tree of this root
abbrev OtherTree : ℕ → Found → Type 0
OtherTree root (InTree subject finding) = subject.root ≢ root
OtherTree root (Frees page) = Unit {0}
OtherTree root (Tears page) = Unit {0}
OtherTree root (Counts pages) = Unit {0}
OtherTree root (Needs page) = Unit {0}
OtherTree root (Compares index rows members) = Unit {0}

other-fits : (root deepest : ℕ) (one : Found) → OtherTree root one → FitsEnd root deepest one
other-fits root deepest (InTree subject (Finds page)) other = tt
other-fits root deepest (InTree subject (Ends page depth)) other = λ same. absurd (other same)
other-fits root deepest (InTree subject (Holds page member)) other = tt
other-fits root deepest (InTree subject (Breaks page rule)) other = tt
other-fits root deepest (InTree subject (Disorders page)) other = tt
other-fits root deepest (InTree subject (Bares page)) other = tt
other-fits root deepest (Frees page) other = tt
other-fits root deepest (Tears page) other = tt
other-fits root deepest (Counts pages) other = tt
other-fits root deepest (Needs page) other = tt
other-fits root deepest (Compares index rows members) other = tt

other-after : (root : ℕ) (index : Index) (entry : List Value) (one : Found) → OtherTree root one → IsAfter root index entry one
other-after root index entry (InTree subject (Finds page)) other = tt
other-after root index entry (InTree subject (Ends page depth)) other = tt
other-after root index entry (InTree subject (Holds page member)) other = λ same. absurd (other same)
other-after root index entry (InTree subject (Breaks page rule)) other = tt
other-after root index entry (InTree subject (Disorders page)) other = tt
other-after root index entry (InTree subject (Bares page)) other = tt
other-after root index entry (Frees page) other = tt
other-after root index entry (Tears page) other = tt
other-after root index entry (Counts pages) other = tt
other-after root index entry (Needs page) other = tt
other-after root index entry (Compares other_index rows members) other = tt

-- the members of a tree are right: rows that can be read, or entries in order
abbrev HasRightMembers : Content → List Member → Type 0
HasRightMembers Rows members = AllByRecursion IsReadable members
HasRightMembers (Entries index rows) members = (entries : List (List Value)) × AllZip (IsEntry index) members entries × PairsByRecursion (IsBefore index) entries
HasRightMembers Anything members = Unit {0}

-- and each entry stands behind those that were found before
abbrev GoOn : ℕ → List Found → Content → List Member → Type 0
GoOn root before Rows members = AllByRecursion IsReadable members
GoOn root before (Entries index rows) members =
    (entries : List (List Value)) × AllZip (IsEntry index) members entries × PairsByRecursion (IsBefore index) entries
    × AllByRecursion (λ entry. AllByRecursion (IsAfter root index entry) before) entries
GoOn root before Anything members = Unit {0}

go-start : (root : ℕ) (before : List Found) (content : Content) (members : List Member) → AllByRecursion (OtherTree root) before → HasRightMembers content members → GoOn root before content members
go-start root before Rows members others right = right
go-start root before (Entries index rows) members others right =
    (right.0, right.1, right.2, all-has (λ entry. AllByRecursion (IsAfter root index entry) before) right.0 (λ entry h. all-weaken (OtherTree root) (IsAfter root index entry) before (other-after root index entry) others))
go-start root before Anything members others right = tt

go-past : (root : ℕ) (before : List Found) (one : Found) (content : Content) (members : List Member) → ((index : Index) (entry : List Value) → IsAfter root index entry one) → GoOn root before content members
    → GoOn root (before ++ one ∷ []) content members
go-past root before one Rows members past on = on
go-past root before one (Entries index rows) members past on = (
  on.0,
  on.1,
  on.2,
  all-weaken (λ entry. AllByRecursion (IsAfter root index entry) before) (λ entry. AllByRecursion (IsAfter root index entry) (before ++ one ∷ [])) on.0
      (λ entry all. all-join (IsAfter root index entry) before (one ∷ []) all (past index entry, tt)) on.3,
)
go-past root before one Anything members past on = tt

go-member : (subject : Subject) (before : List Found) (page : ℕ) (content : Content) (member : Member) (members : List Member) → GoOn subject.root before content (member ∷ members)
    → IsRightMember before subject content member × GoOn subject.root (before ++ InTree subject (Holds page member) ∷ []) content members
go-member subject before page Rows member members on = on
go-member subject before page (Entries index rows) member members ([], zip, pairs, after) = absurd zip
go-member subject before page (Entries index rows) member members (entry ∷ entries, zip, pairs, after) =
    let here = InTree subject (Holds page member) in
    let behind = λ (other : List Value) (less : IsBefore index entry other) (all : AllByRecursion (IsAfter subject.root index other) before).
    all-join (IsAfter subject.root index other) before (here ∷ []) all
    (λ same own is. subst⁻¹ (λ (v : List Value). IsBefore index v other) (record-one member.payload own entry is.is_record zip.0.is_record) less, tt) in
    ((entry, zip.0, after.0), (entries, zip.1, pairs.1, both entries pairs.0 after.1 behind))
  where
    both : (entries : List (List Value)) → AllByRecursion (IsBefore index entry) entries → AllByRecursion (λ other. AllByRecursion (IsAfter subject.root index other) before) entries
        → ((other : List Value) → IsBefore index entry other → AllByRecursion (IsAfter subject.root index other) before → AllByRecursion (IsAfter subject.root index other) (before ++ InTree subject (Holds page member) ∷ []))
        → AllByRecursion (λ other. AllByRecursion (IsAfter subject.root index other) (before ++ InTree subject (Holds page member) ∷ [])) entries
    both [] less all behind = tt
    both (other ∷ others) less all behind = (behind other less.0 all.0, both others less.1 all.1 behind)
go-member subject before page Anything member members on = (tt, tt)

module _ (subject : Subject) (deepest : ℕ) where
  findings-right : (before : List Found) (findings : List Finding) → ((n : ℕ) → times n (numbers_in before) + times n (pages_found findings) ≤ 1) → AllByRecursion (FitsEnd subject.root deepest) before
      → AreFlawless deepest findings → GoOn subject.root before subject.content (members_found findings) → AreRight before (in_tree subject findings)
  findings-right before [] once fits flawless on = tt
  findings-right before (Finds page ∷ findings) once fits flawless on =
      let here = InTree subject (Finds page) in
      let counts = λ (n : ℕ). times-cons n page (pages_found findings) in (
        none-found page (numbers_in before) (omega (arith, once page, counts page, times-itself page)),
        findings-right (before ++ here ∷ []) findings (λ n. omega (arith, once n, counts n, numbers-append n before (here ∷ []))) (all-join (FitsEnd subject.root deepest) before (here ∷ []) fits (tt, tt))
            flawless.1 (go-past subject.root before here subject.content (members_found findings) (λ index entry. tt) on),
      )
  findings-right before (Ends page depth ∷ findings) once fits flawless on =
      let here = InTree subject (Ends page depth) in (
        none-any (ends_elsewhere subject.root depth) before (all-weaken (FitsEnd subject.root deepest) (λ one. ends_elsewhere subject.root depth one ≡ false) before (end-fits subject.root deepest depth flawless.0) fits),
        findings-right (before ++ here ∷ []) findings (λ n. omega (arith, once n, numbers-append n before (here ∷ [])))
            (all-join (FitsEnd subject.root deepest) before (here ∷ []) fits (λ same. flawless.0, tt)) flawless.1
            (go-past subject.root before here subject.content (members_found findings) (λ index entry. tt) on),
      )
  findings-right before (Holds page member ∷ findings) once fits flawless on =
      let here = InTree subject (Holds page member) in
      let step = go-member subject before page subject.content member (members_found findings) on in (
        step.0,
        findings-right (before ++ here ∷ []) findings (λ n. omega (arith, once n, numbers-append n before (here ∷ []))) (all-join (FitsEnd subject.root deepest) before (here ∷ []) fits (tt, tt))
            flawless.1 step.1,
      )
  findings-right before (Breaks page rule ∷ findings) once fits flawless on = absurd flawless.0
  findings-right before (Disorders page ∷ findings) once fits flawless on = absurd flawless.0
  findings-right before (Bares page ∷ findings) once fits flawless on = absurd flawless.0

other-tree : (root : ℕ) (subject : Subject) (findings : List Finding) → subject.root ≢ root → AllByRecursion (OtherTree root) (in_tree subject findings)
other-tree root subject [] apart = tt
other-tree root subject (finding ∷ findings) apart = (apart, other-tree root subject findings apart)

-- a walk without a flaw over right members
abbrev IsRightWalk : Walked → Type 0
IsRightWalk walked = ((deepest : ℕ) × AreFlawless deepest walked.findings) × HasRightMembers walked.subject.content (members_found walked.findings)

abbrev ApartWalks : Walked → Walked → Type 0
ApartWalks one other = one.subject.root ≢ other.subject.root

-- walks one after the other over trees of other roots
walks-right : (before : List Found) (walks : List Walked) → AllByRecursion (λ (walked : Walked). AllByRecursion (OtherTree walked.subject.root) before) walks → PairsByRecursion ApartWalks walks
    → ((n : ℕ) → times n (numbers_in before) + times n (numbers_in (flat_map tree_found walks)) ≤ 1) → AllByRecursion IsRightWalk walks → AreRight before (flat_map tree_found walks)
walks-right before [] others apart once right = tt
walks-right before (walked ∷ walks) others apart once right =
    let subject = walked.subject in
    let own = tree_found walked in
    let rest = flat_map tree_found walks in
    let deepest = right.0.0.0 in
    let parts = λ (n : ℕ). numbers-append n own rest in
    let numbers = λ (n : ℕ). ap (times n) (tree-numbers subject walked.findings) in
    let here = findings-right subject deepest before walked.findings (λ n. omega (arith, once n, parts n, numbers n)) (all-weaken (OtherTree subject.root) (FitsEnd subject.root deepest) before (other-fits subject.root deepest) others.0)
    right.0.0.1 (go-start subject.root before subject.content (members_found walked.findings) others.0 right.0.1) in
    right-join before own rest here
    (walks-right (before ++ own) walks (later walks others.1 apart.0) apart.1 (λ n. omega (arith, once n, parts n, numbers-append n before own)) right.1)
  where
    later : (walks : List Walked) → AllByRecursion (λ (w : Walked). AllByRecursion (OtherTree w.subject.root) before) walks → AllByRecursion (ApartWalks walked) walks
        → AllByRecursion (λ (w : Walked). AllByRecursion (OtherTree w.subject.root) (before ++ tree_found walked)) walks
    later [] others apart = tt
    later (w ∷ walks) others apart =
        (all-join (OtherTree w.subject.root) before (tree_found walked) others.0 (other-tree w.subject.root walked.subject walked.findings apart.0), later walks others.1 apart.1)

-- The freelist, and the pages that are needed.

frees-right : (before : List Found) (numbers : List ℕ) → ((n : ℕ) → times n (numbers_in before) + times n numbers ≤ 1) → AreRight before (map Frees numbers)
frees-right before [] once = tt
frees-right before (page ∷ numbers) once = (
  none-found page (numbers_in before) (omega (arith, once page, times-cons page page numbers, times-itself page)),
  frees-right (before ++ Frees page ∷ []) numbers (λ n. omega (arith, once n, times-cons n page numbers, numbers-append n before (Frees page ∷ []))),
)

needs-right : (before : List Found) (numbers : List ℕ) → ((n : ℕ) → Has n numbers → 0 < times n (numbers_in before)) → AreRight before (map Needs numbers)
needs-right before [] found = tt
needs-right before (page ∷ numbers) found = (
  some-found page (numbers_in before) (found page (inl refl)),
  needs-right (before ++ Needs page ∷ []) numbers (λ n h. omega (arith, found n (inr h), numbers-append n before (Needs page ∷ []))),
)

abbrev IsRightContent : Content → List Member → Type 0
IsRightContent Rows members = Unit {0}
IsRightContent (Entries index rows) members = IsIndexOf index rows members
IsRightContent Anything members = Unit {0}

content-right : (before : List Found) (content : Content) (members : List Member) → IsRightContent content members → AreRight before (content_compared content members)
content-right before Rows members right = tt
content-right before (Entries index rows) members right = (right, tt)
content-right before Anything members right = tt

indexes-right : (before : List Found) (walks : List Walked) → AllByRecursion (λ (walked : Walked). IsRightContent walked.subject.content (members_found walked.findings)) walks → AreRight before (flat_map compared walks)
indexes-right before [] right = tt
indexes-right before (walked ∷ walks) right =
    right-join before (compared walked) (flat_map compared walks) (content-right before walked.subject.content (members_found walked.findings) right.0) (indexes-right (before ++ compared walked) walks right.1)

-- the kind of a tree by the type of its root page
kind-by_byte : (kind : TreeKind) (levels byte : ℕ) → byte ≡ kind_byte (kind_at kind levels) → ◌≡◌ {A = TreeKind} (if (byte == 2) || (byte == 10) then tree.Index else tree.Table) kind
kind-by_byte tree.Table zero byte e = ap (λ (b : ℕ). if (b == 2) || (b == 10) then tree.Index else tree.Table) e
kind-by_byte tree.Table (suc levels) byte e = ap (λ (b : ℕ). if (b == 2) || (b == 10) then tree.Index else tree.Table) e
kind-by_byte tree.Index zero byte e = ap (λ (b : ℕ). if (b == 2) || (b == 10) then tree.Index else tree.Table) e
kind-by_byte tree.Index (suc levels) byte e = ap (λ (b : ℕ). if (b == 2) || (b == 10) then tree.Index else tree.Table) e

module _ (sizes : Sizes) (base : Paged) (catalog : Catalog) (db : Database) (found : List Found) (is : IsSound sizes base catalog db) (are : AreFound sizes base catalog found) where
  abbrev has : HasCatalog sizes base catalog
  has = is.whole.has_catalog

  abbrev world : World
  world = is.whole.world

  abbrev trees : List Rooted
  trees = world.trees

  abbrev subjects : List Subject
  subjects = are.subjects

  abbrev walks : List Walked
  walks = are.walks

  -- The trees of the world are those that the check goes through.

  same-roots : map root_of trees ≡ map (λ (s : Subject). s.root) subjects
  same-roots = is.whole.roots ∙ sym (roots-are sizes base catalog subjects has are.are_subjects)

  deep : (rooted : Rooted) → Has rooted trees → rooted.levels < greatest_depth
  deep rooted h =
      let cut = has-split trees rooted h in
      let named = subst (λ (list : List Rooted). IsWorld sizes base (record { trees = list; trunks = world.trunks })) cut.2 is.whole.is_world in
      omega (arith, world-deep sizes base cut.0 rooted cut.1 world.trunks named)

  kind-is : (subject : Subject) (rooted : Rooted) → Has subject subjects → Has rooted trees → root_of rooted ≡ subject.root → rooted.kind ≡ subject.kind
  kind-is subject rooted h stands root =
      let its = all-of (HasItsKind catalog) trees rooted is.whole.kinds stands in
      let test = λ (other : ℕ). other == root_of rooted in
      elim (origin-of sizes base catalog subjects has are.are_subjects subject h) [
        | inl e ↦
            let here : 1 ≡ root_of rooted = sym (root ∙ ap (λ (s : Subject). s.root) e) in
            its.table (has-any test (table_roots catalog) 1 (inl refl) (eq-eqb 1 (root_of rooted) here)) ∙ sym (ap (λ (s : Subject). s.kind) e)
        | inr rest ↦ elim rest [
          | inl own ↦ of_table subject rooted own stands root its
          | inr index ↦
              let n = index.named in
              let here : index.index.0 ≡ root_of rooted = sym (root ∙ index.is.root) in
              let among = has-joined (λ (m : NamedEntry). map (λ (i : ℕ × Result Index SqlFault). i.0) m.entry.indexes) catalog.tables n index.index.0 index.stands
              (has-map (λ (i : ℕ × Result Index SqlFault). i.0) n.entry.indexes index.index index.among) in
              its.index (has-any test (index_roots catalog) index.index.0 among (eq-eqb index.index.0 (root_of rooted) here)) ∙ sym index.is.kind
        ]
      ]
    where
      of_table : (subject : Subject) (rooted : Rooted) → OfTable sizes base catalog subjects has are.are_subjects subject → Has rooted trees → root_of rooted ≡ subject.root → HasItsKind catalog rooted
          → rooted.kind ≡ subject.kind
      of_table subject rooted own stands root its =
          let entry = own.named.entry in
          let tree = tree-own sizes base catalog subjects has are.are_subjects entry subject own.own in
          let here : entry.root ≡ root_of rooted = sym (root ∙ ap (λ (s : Subject). s.root) tree.1) in
          let told = ap (λ (s : Subject). s.kind) tree.1 in
          let kind = λ (t : Bool). table_kind t (base.pages entry.root) entry.root in
          elim (decide (is_ok entry.meaning)) [
            | inl ok ↦
                let among = has-map (λ (n : NamedEntry). n.entry.root) (filter (λ (n : NamedEntry). is_ok n.entry.meaning) catalog.tables) own.named
                (has-filter (λ (n : NamedEntry). is_ok n.entry.meaning) catalog.tables own.named own.stands ok) in
                its.table (has-any (λ (other : ℕ). other == root_of rooted) (table_roots catalog) entry.root (inr among) (eq-eqb entry.root (root_of rooted) here)) ∙ sym (told ∙ ap kind ok)
            | inr out ↦
                let whole = all-of (IsRoot sizes base) trees rooted is.whole.is_world.trees stands in
                let byte = kind-by_byte rooted.kind rooted.levels (slice_index (base.pages (root_of rooted)) (header_place (root_of rooted))) whole.stands.0.kind_is in
                sym byte ∙ ap (λ (n : ℕ). own_kind (base.pages n) n) (sym here) ∙ sym (told ∙ ap kind out)
          ]

  -- a walk over a standing tree
  record Known (walked : Walked) (rooted : Rooted) : Type 0 where
    stands : StandsFor sizes base walked rooted
    flawless : AreFlawless (depth_of rooted) walked.findings

  known : (subject : Subject) (walked : Walked) (rooted : Rooted) → IsWalked sizes base subject walked → root_of rooted ≡ subject.root → rooted.kind ≡ subject.kind → IsRoot sizes base rooted
      → rooted.levels < greatest_depth → Known walked rooted
  known subject walked rooted is_walked root kind is_root low =
      let found = root-found sizes base rooted low is_root in
      let moved = subst (λ (k : TreeKind). IsWalk sizes base k (root_of rooted) found.findings) kind found.is_visit in
      let walk = subst (λ (n : ℕ). IsWalk sizes base subject.kind n found.findings) root moved in
      let same = walk-one sizes base subject.kind subject.root walked.findings found.findings is_walked.is_walk walk in
      record {
        stands = record {
          is_root = is_root;
          root_is = root ∙ sym (ap (λ (s : Subject). s.root) is_walked.subject_is);
          kind_is = kind ∙ sym (ap (λ (s : Subject). s.kind) is_walked.subject_is);
          members_are = ap members_found same ∙ found.members_are;
          numbers_are = ap pages_found same ∙ found.numbers_are;
        };
        flawless = subst⁻¹ (AreFlawless (depth_of rooted)) same found.flawless;
      }

  all-known : (some : List Subject) (more : List Walked) (roots : List Rooted) → map root_of roots ≡ map (λ (s : Subject). s.root) some → AllZip (IsWalked sizes base) some more
      → ((s : Subject) → Has s some → Has s subjects) → ((r : Rooted) → Has r roots → Has r trees) → AllZip Known more roots
  all-known [] [] [] e walked in_subjects in_trees = tt
  all-known [] [] (rooted ∷ roots) e walked in_subjects in_trees = absurd (let h : ⊥ = cc in h)
  all-known [] (w ∷ more) roots e walked in_subjects in_trees = absurd walked
  all-known (s ∷ some) [] roots e walked in_subjects in_trees = absurd walked
  all-known (s ∷ some) (w ∷ more) [] e walked in_subjects in_trees = absurd (let h : ⊥ = cc in h)
  all-known (s ∷ some) (w ∷ more) (rooted ∷ roots) e walked in_subjects in_trees =
      let root : root_of rooted ≡ s.root = cc in
      let rest : map root_of roots ≡ map (λ (x : Subject). x.root) some = cc in
      let stands = in_trees rooted (inl refl) in
      let is_root = all-of (IsRoot sizes base) trees rooted is.whole.is_world.trees stands in (
        known s w rooted walked.0 root (kind-is s rooted (in_subjects s (inl refl)) stands root) is_root (deep rooted stands),
        all-known some more roots rest walked.1 (λ x h. in_subjects x (inr h)) (λ x h. in_trees x (inr h)),
      )

  known-walks : AllZip Known walks trees
  known-walks = all-known subjects walks trees same-roots are.are_walks (λ s h. h) (λ r h. h)

  standing : (more : List Walked) (roots : List Rooted) → AllZip Known more roots → AllZip (StandsFor sizes base) more roots
  standing [] [] all = tt
  standing [] (rooted ∷ roots) all = absurd all
  standing (w ∷ more) [] all = absurd all
  standing (w ∷ more) (rooted ∷ roots) all = (all.0.stands, standing more roots all.1)

  -- Pages.

  abbrev of_trees : List Found
  of_trees = flat_map tree_found walks

  abbrev free : List ℕ
  free = free_pages world.trunks

  counted : (n : ℕ) → times n (numbers_in of_trees) + times n free ≡ due sizes.size base.count n
  counted n =
      let numbers = ap (times n) (trees-numbers sizes base walks trees (standing walks trees known-walks)) in
      omega (arith, numbers, is.whole.is_world.once n, times-append n (flat_map pages_in trees) free)

  few : (n : ℕ) → times n (numbers_in of_trees) + times n free ≤ 1
  few n = omega (arith, counted n, due-most sizes.size base.count n)

  -- What the trees hold.

  list-of : (walked : Walked) → Has walked walks → list_at db.lists walked.subject.root ≡ members_found walked.findings
  list-of walked h =
      let rooted = has-zip Known walks trees walked known-walks h in
      let known_tree = rooted.2.stands in
      ap (λ (lists : List (ℕ × List Member)). list_at lists walked.subject.root) is.whole.lists
      ∙ ap (list_at (lists_of sizes base trees)) (sym known_tree.root_is) ∙ list-known sizes base trees rooted.0 is.whole.is_world.trees rooted.1 ∙ sym known_tree.members_are

  walk-of : (subject : Subject) → Has subject subjects → (walked : Walked) × Has walked walks × IsWalked sizes base subject walked
  walk-of subject h = has-zip (IsWalked sizes base) subjects walks subject are.are_walks h

  is-list : (subject : Subject) → Has subject subjects → IsList sizes base subject.kind subject.root (list_at db.lists subject.root)
  is-list subject h =
      let walked = walk-of subject h in
      let rooted = has-zip Known walks trees walked.0 known-walks walked.1 in (
        walked.0.findings,
        walked.2.is_walk,
        flawless-goes_on (depth_of rooted.0) walked.0.findings rooted.2.flawless,
        ap (list_at db.lists) (sym (ap (λ (s : Subject). s.root) walked.2.subject_is)) ∙ list-of walked.0 walked.1,
      )

  -- the members of a plain table are its list
  plain-list : (named : NamedEntry) (table : Table) (rows : List TableRow) → Has named catalog.tables → (plain : IsPlain sizes base named.entry table rows) → plain.members ≡ list_at db.lists named.entry.root
  plain-list named table rows h plain =
      let entry = named.entry in
      let number = read-number sizes base catalog subjects has are.are_subjects named table h plain.meaning in
      let some : entry.root ≢ 0 = λ none. absurd (omega (arith, none, number.behind_first)) in
      let own = own_tree sizes base catalog subjects has are.are_subjects entry in
      let stands = table-stands sizes base catalog subjects has are.are_subjects named own h
      (subst⁻¹ (λ (list : List Subject). Has own list) (own-tree sizes base catalog subjects has are.are_subjects entry some) (inl refl)) in
      let kind : own.kind ≡ tree.Table = ap (λ (t : Bool). table_kind t (base.pages entry.root) entry.root) (ap is_ok plain.meaning) in
      let list = subst (λ (k : TreeKind). IsList sizes base k entry.root (list_at db.lists entry.root)) kind (is-list own stands) in
      list-one sizes base tree.Table entry.root plain.members (list_at db.lists entry.root) plain.is_list list

  -- the entries of an index whose table is plain
  plain-index : (named : NamedEntry) (index : ℕ × Result Index SqlFault) (read : Index) (table : Table) (rows : List TableRow) → Has named catalog.tables → Has index named.entry.indexes → index.1 ≡ Ok read
      → IsPlain sizes base named.entry table rows → IsIndexOf read rows (list_at db.lists index.0)
  plain-index named index read table rows h among e plain =
      let list = plain-list named table rows h plain in
      let all = all-of (HoldsProjections db.lists) catalog.tables named is.indexes h table rows plain.meaning (subst (λ (m : List Member). AllZip (IsRow table) m rows) list plain.rows_are) in
      IfOk-at_ok (λ (i : Index). IsIndexOf i rows (list_at db.lists index.0)) e (all-of (HoldsProjection db.lists rows) named.entry.indexes index all among)

  -- what is said of the members of a walk, by where its tree comes from
  abbrev RightContent : Content → List Member → Type 0
  RightContent content members = HasRightMembers content members × IsRightContent content members

  index-members : (index : Index) (rows : List TableRow) (members : List Member) → IsIndexOf index rows members → RightContent (Entries index rows) members
  index-members index rows members of = (
    (
      of.entries,
      entries-are index rows members of.entries of.decoded
          (λ entry h.
          has-from (map (entry_of index) rows) entry
          (Contains-permutation of.entries (map (entry_of index) rows) entry (IsPermutation-sym (map (entry_of index) rows) of.entries of.is_projection.all) (has-to of.entries entry h))),
      pairs-to (IsBefore index) of.entries of.is_projection.sorted,
    ),
    of,
  )

  table-content : (named : NamedEntry) (content : Content) (members : List Member) → Has named catalog.tables → (b : Bool) → is_ok named.entry.meaning ≡ b → table_content b ≡ content
      → list_at db.lists named.entry.root ≡ members → RightContent content members
  table-content named content members h true ok same list =
      let read = ok-some named.entry.meaning ok in
      let readable = IfOk-at_ok (λ (t : Table). AllByRecursion IsReadable (list_at db.lists named.entry.root)) read.1
      (all-of (λ (n : NamedEntry). IfOk n.entry.meaning (λ table. AllByRecursion IsReadable (list_at db.lists n.entry.root))) catalog.tables named is.whole.readable h) in
      subst (λ (c : Content). RightContent c members) same (subst (AllByRecursion IsReadable) list readable, tt)
  table-content named content members h false ok same list = subst (λ (c : Content). RightContent c members) same (tt, tt)

  index-content : (named : NamedEntry) (index : ℕ × Result Index SqlFault) (content : Content) (members : List Member) → Has named catalog.tables → Has index named.entry.indexes
      → IsIndexContent sizes base named.entry index.1 content → list_at db.lists index.0 ≡ members → RightContent content members
  index-content named index Rows members h among of list = absurd of
  index-content named index (Entries read rows) members h among of list =
      index-members read rows members (subst (IsIndexOf read rows) list (plain-index named index read of.1.0 rows h among of.0 of.1.1))
  index-content named index Anything members h among of list = (tt, tt)

  walk-content : (walked : Walked) → Has walked walks → RightContent walked.subject.content (members_found walked.findings)
  walk-content walked h =
      let from = zip-has (IsWalked sizes base) subjects walks walked are.are_walks h in
      let subject = from.0 in
      let members = members_found walked.findings in
      let content = ap (λ (s : Subject). s.content) from.2.subject_is in
      let list : list_at db.lists subject.root ≡ members = ap (list_at db.lists) (sym (ap (λ (s : Subject). s.root) from.2.subject_is)) ∙ list-of walked h in
      subst⁻¹ (λ (c : Content). RightContent c members) content
      (elim (origin-of sizes base catalog subjects has are.are_subjects subject from.1) [
        | inl e ↦ subst⁻¹ (λ (s : Subject). RightContent s.content members) e (tt, tt)
        | inr rest ↦ elim rest [
          | inl own ↦
              let tree = tree-own sizes base catalog subjects has are.are_subjects own.named.entry subject own.own in
              table-content own.named subject.content members own.stands (is_ok own.named.entry.meaning) refl (sym (ap (λ (s : Subject). s.content) tree.1))
              (ap (list_at db.lists) (sym (ap (λ (s : Subject). s.root) tree.1)) ∙ list)
          | inr index ↦ index-content index.named index.index subject.content members index.stands index.among index.is.content (ap (list_at db.lists) (sym index.is.root) ∙ list)
        ]
      ])

  -- All that is found is right.

  walk-right : (walked : Walked) → Has walked walks → IsRightWalk walked
  walk-right walked h =
      let rooted = has-zip Known walks trees walked known-walks h in
      ((depth_of rooted.0, rooted.2.flawless), (walk-content walked h).0)

  apart : (some : List Subject) (more : List Walked) → AllPairs (λ (a b : Subject). a.root < b.root) some → AllZip (IsWalked sizes base) some more → PairsByRecursion ApartWalks more
  apart some more rise walked = by some more (pairs-to (λ (a b : Subject). a.root < b.root) some rise) walked
    where
      behind : (s : Subject) (w : Walked) (some : List Subject) (more : List Walked) → IsWalked sizes base s w → AllByRecursion (λ (b : Subject). s.root < b.root) some → AllZip (IsWalked sizes base) some more
          → AllByRecursion (ApartWalks w) more
      behind s w [] [] one less walked = tt
      behind s w [] (x ∷ more) one less walked = absurd walked
      behind s w (y ∷ some) [] one less walked = absurd walked
      behind s w (y ∷ some) (x ∷ more) one less walked = (
        λ same. omega (arith, less.0, same, ap (λ (t : Subject). t.root) one.subject_is, ap (λ (t : Subject). t.root) walked.0.subject_is),
        behind s w some more one less.1 walked.1,
      )

      by : (some : List Subject) (more : List Walked) → PairsByRecursion (λ (a b : Subject). a.root < b.root) some → AllZip (IsWalked sizes base) some more → PairsByRecursion ApartWalks more
      by [] [] rise walked = tt
      by [] (w ∷ more) rise walked = absurd walked
      by (s ∷ some) [] rise walked = absurd walked
      by (s ∷ some) (w ∷ more) rise walked = (behind s w some more walked.0 rise.0 walked.1, by some more rise.1 walked.1)

  of-trees : AreRight [] of_trees
  of-trees =
      walks-right [] walks (all-has (λ (walked : Walked). AllByRecursion (OtherTree walked.subject.root) []) walks (λ walked h. tt)) (apart subjects walks are.are_subjects.rise are.are_walks)
      (λ n. omega (arith, few n)) (all-has IsRightWalk walks walk-right)

  of-freelist : AreRight of_trees (freelist_found sizes base)
  of-freelist =
      let numbers = map Frees free in
      let freed : length (filter_map free_page (of_trees ++ numbers)) ≡ length free =
      ap (λ (ns : List ℕ). length ns) (filter_map-append free_page of_trees numbers ∙ ap₂ (λ (x y : List ℕ). x ++ y) (trees-free walks) (frees-free free)) in
      subst⁻¹ (AreRight of_trees) (freelist-found sizes base world.trunks is.whole.is_world.freelist)
      (right-join of_trees numbers (Counts (length free) ∷ []) (frees-right of_trees free few) (freed, tt))

  free-numbers : numbers_in (freelist_found sizes base) ≡ free
  free-numbers =
      ap numbers_in (freelist-found sizes base world.trunks is.whole.is_world.freelist)
      ∙ (filter_map-append page_found (map Frees free) (Counts (length free) ∷ []) ∙ append-nil (numbers_in (map Frees free))) ∙ frees-numbers free

  needed : (n : ℕ) → Has n (pages_needed sizes base) → 0 < times n (numbers_in (of_trees ++ freelist_found sizes base))
  needed n h =
      let kept = filter-has (λ (number : ℕ). not (number == lock_byte_page sizes.size)) (range_with_len 1 base.count) n h in
      let within = range-has 1 n base.count kept.0 in
      let own : IsRootNumber sizes base n = record {
        first = within.0;
        within = omega (arith, within.1);
        not_lock_byte = λ lock. true-false (not (n == lock_byte_page sizes.size)) kept.1 (ap not (eq-eqb n (lock_byte_page sizes.size) lock));
      } in
      omega (arith, due-root sizes base n own, counted n, numbers-append n of_trees (freelist_found sizes base), ap (times n) free-numbers)

  pub sound-right : AreRight [] found
  sound-right =
      let of_freelist = freelist_found sizes base in
      let of_needs = map Needs (pages_needed sizes base) in
      let of_indexes = flat_map compared walks in
      subst⁻¹ (AreRight []) are.found_are
      (right-join [] of_trees (of_freelist ++ (of_needs ++ of_indexes)) of-trees
      (right-join of_trees of_freelist (of_needs ++ of_indexes) of-freelist
      (right-join (of_trees ++ of_freelist) of_needs of_indexes (needs-right (of_trees ++ of_freelist) (pages_needed sizes base) needed)
      (indexes-right ((of_trees ++ of_freelist) ++ of_needs) walks
      (all-has (λ (walked : Walked). IsRightContent walked.subject.content (members_found walked.findings)) walks (λ walked h. (walk-content walked h).1))))))

-- a sound file has no fault
pub sound-no_fault : (sizes : Sizes) (base : Paged) (catalog : Catalog) (db : Database) (fault : FileFault) → IsSound sizes base catalog db → ¬ FileHasFault sizes base fault
sound-no_fault sizes base catalog db fault is (inl wrong) = catalog-no_fault sizes base catalog fault is.whole.has_catalog wrong
sound-no_fault sizes base catalog db fault is (inr (other, has, (found, are, wrong))) =
    let same = has_catalog-one sizes base other catalog has is.whole.has_catalog in
    let here = subst (λ (c : Catalog). AreFound sizes base c found) same are in
    are_right-not_wrong [] found fault (sound-right sizes base catalog db found is here) wrong
