-- A file with a catalog is sound or has a fault: crates above cite these facts in their proofs.
use Rattle.std.proofs.Common.{◌≡◌, ℕ, ℤ, zero, suc, ◌≤◌, ◌⊎◌, Bool, true, false, List, [], ◌∷◌, ◌++◌, length, map, refl, sym, ap, ◌∙◌, subst, inl, inr, arith, append_assoc}
use Rattle.std.proofs.Math.Path.{subst⁻¹}
use Rattle.std.specs.Prelude.{Any, Contains, filter_map}
use Rattle.std.specs.List.{flat_map, list_any, AllByRecursion, AllZip}
use Rattle.std.specs.declared.cmp.Ordering.{Ordering}
use Rattle.std.specs.declared.cmp.Ordering.TheVariants.{Less, Equal, Greater}
use Rattle.std.proofs.lemmas.Bool.{cases_eq}
use Rattle.rbu_value.specs.declared.value.Value.{Value}
use Rattle.rbu_value.specs.declared.value.Value.TheVariants.{Null, Int, Text, Blob}
use Rattle.format_spec.specs.Record.{IsRecord}
use Rattle.refusal.specs.declared.Rule.TheVariants as broken
use Rattle.schema_spec.specs.declared.schema.Index.{Index}
use Rattle.tree_spec.specs.Trees.{Member}
use Rattle.tree_spec.specs.Standing.{Sizes, Paged, IsRootNumber}
use Rattle.tree_spec.specs.Worlds.{greatest_count}
use Rattle.tree_spec.specs.WorldsLaws.{all-join}
use Rattle.database_spec.specs.declared.catalog.Catalog.{Catalog}
use Rattle.database_spec.specs.declared.fault.FileFault.{FileFault}
use Rattle.database_spec.specs.declared.fault.FileFault.TheVariants.{PageTwice, PageLost, KeyOrder, IndexDisagrees, Damaged}
use Rattle.database_spec.specs.RightRows.{HasCatalog}
use Rattle.database_spec.specs.RowsLaws.{record-one}
use Rattle.database_spec.specs.Walks.{Finds, Ends, Holds, Breaks, Disorders, Bares, members_found}
use Rattle.database_spec.specs.ListsLaws.{PairsByRecursion}
use Rattle.database_spec.specs.ItemsLaws.{Has, has-from, has-to, decide}
use Rattle.database_spec.specs.Rows.{TableRow}
use Rattle.database_spec.specs.Keys.{order_of, last_value, columns_cmp, entry_cmp, IsBefore, entry_of, has_null, Clash, IsIndexOf}
use Rattle.database_spec.specs.KeysLaws.{before-apart}
use Rattle.database_spec.specs.Databases.{Database, IsSound}
use Rattle.database_spec.specs.FileFindings.{Content, Rows, Entries, Anything, Subject, Walked, Found, InTree, Frees, Tears, Counts, Needs, Compares, freelist_found, pages_needed, content_compared, compared, AreFound}
use Rattle.database_spec.specs.FileFaults.{is_found, free_page, ends_elsewhere, IsEntry, NotBefore, IsWrongMember, Disagrees, FirstDisagrees, IsWrong, FirstWrong, FileHasFault}
use Rattle.prepared_spec.specs.MembersLaws.{member-or}
use Rattle.prepared_laws.specs.TablesMadeLaws.{Apart}
use Rattle.walk_laws.specs.CellsDecidedLaws.{Decided, decided-by}
use Rattle.walk_laws.specs.RecordsDecidedLaws.{record-decided}
use Rattle.database_laws.specs.RightFindings.{IsAfter, IsRightMember, IsRight, AreRight}
use Rattle.database_laws.specs.FindingsMadeLaws.{found-some}
use Rattle.database_laws.specs.RightFindingsLaws.{right-not_wrong, right-front, right-join, wrong-front, wrong-back}
use Rattle.database_laws.specs.RightFilesLaws.{all-of, right-walk, right-sound}
use Rattle.database_laws.specs.FaultlessFilesLaws.{of_trees, IsNoCompare, any-more, less-or, Least, Lacks, first-least, both-least, walk-entries, HasRowid, before-then, entries-long, rows-long, entries-decode, agrees-index, disagrees-in, trees-no_compare, needs-no_compare, freelist-no_compare, entries-apart}
use Rattle.database_laws.specs.ReadableLaws.{readable-decided}

-- What is found is right or wrong.

-- the last value of an entry is an integer, or none
last-decided : (value : Value) → Decided ((rowid : ℤ) × (value ≡ Int rowid))
last-decided Null = inr (λ h. let e : Null ≡ Int h.0 = h.1 in let no : ⊥ = cc in no)
last-decided (Int z) = inl (z, refl)
last-decided (Text bytes) = inr (λ h. let e : Text bytes ≡ Int h.0 = h.1 in let no : ⊥ = cc in no)
last-decided (Blob bytes) = inr (λ h. let e : Blob bytes ≡ Int h.0 = h.1 in let no : ⊥ = cc in no)

entry-decided : (index : Index) (member : Member) → Decided ((entry : List Value) × IsEntry index member entry)
entry-decided index member = by (record-decided member.payload)
  where
    within : (found : (values : List Value) × IsRecord member.payload values) → Decided (length found.0 ≡ suc (length index.columns)) → Decided ((rowid : ℤ) × (last_value (order_of index) found.0 ≡ Int rowid))
        → Decided ((entry : List Value) × IsEntry index member entry)
    within found (inl many) (inl last) = inl (found.0, record { is_record = found.1; many = many; rowid = last.0; last = last.1 })
    within found (inr none) last =
        inr (λ entry. none (subst (λ (values : List Value). length values ≡ suc (length index.columns)) (record-one member.payload entry.0 found.0 entry.1.is_record found.1) entry.1.many))
    within found (inl many) (inr none) =
        inr (λ entry. none (entry.1.rowid, subst (λ (values : List Value). last_value (order_of index) values ≡ Int entry.1.rowid) (record-one member.payload entry.0 found.0 entry.1.is_record found.1) entry.1.last))

    by : Decided ((values : List Value) × IsRecord member.payload values) → Decided ((entry : List Value) × IsEntry index member entry)
    by (inl found) = within found (cases_eq (length found.0) (suc (length index.columns))) (last-decided (last_value (order_of index) found.0))
    by (inr none) = inr (λ entry. none (entry.0, entry.1.is_record))

module _ (root : ℕ) (index : Index) (entry : List Value) where
  member-after : (subject : Subject) (page : ℕ) (member : Member) → Decided (subject.root ≡ root) → Decided ((other : List Value) × IsEntry index member other)
      → NotBefore root index entry (InTree subject (Holds page member)) ⊎ IsAfter root index entry (InTree subject (Holds page member))
  member-after subject page member (inr apart) decided = inr (λ same other is. absurd (apart same))
  member-after subject page member (inl same) (inr none) = inr (λ h other is. absurd (none (other, is)))
  member-after subject page member (inl same) (inl found) = elim (less-or (entry_cmp (order_of index) found.0 entry)) [
    | inl before ↦ inr (λ h other is. subst (λ (e : List Value). IsBefore index e entry) (record-one member.payload found.0 other found.1.is_record is.is_record) before)
    | inr behind ↦ inl (same, (found.0, found.1, behind))
  ]

  one-after_or : (one : Found) → NotBefore root index entry one ⊎ IsAfter root index entry one
  one-after_or (InTree subject (Finds page)) = inr tt
  one-after_or (InTree subject (Ends page depth)) = inr tt
  one-after_or (InTree subject (Holds page member)) = member-after subject page member (cases_eq subject.root root) (entry-decided index member)
  one-after_or (InTree subject (Breaks page rule)) = inr tt
  one-after_or (InTree subject (Disorders page)) = inr tt
  one-after_or (InTree subject (Bares page)) = inr tt
  one-after_or (Frees page) = inr tt
  one-after_or (Tears page) = inr tt
  one-after_or (Counts pages) = inr tt
  one-after_or (Needs page) = inr tt
  one-after_or (Compares other rows members) = inr tt

  all-after_or : (before : List Found) → Any (NotBefore root index entry) before ⊎ AllByRecursion (IsAfter root index entry) before
  all-after_or [] = inr tt
  all-after_or (one ∷ before) = by (one-after_or one) (all-after_or before)
    where
      by : NotBefore root index entry one ⊎ IsAfter root index entry one → Any (NotBefore root index entry) before ⊎ AllByRecursion (IsAfter root index entry) before
          → Any (NotBefore root index entry) (one ∷ before) ⊎ AllByRecursion (IsAfter root index entry) (one ∷ before)
      by (inl wrong) rest = inl (zero, one, omega arith, refl, wrong)
      by (inr after) (inl some) = inl (any-more (NotBefore root index entry) one before some)
      by (inr after) (inr all) = inr (after, all)

-- it is wrong for some fault, or right
abbrev WrongOrRight : List Found → Found → Type 0
WrongOrRight before one = ((fault : FileFault) × IsWrong before one fault) ⊎ IsRight before one

member-wrong_or_right : (before : List Found) (subject : Subject) (content : Content) (page : ℕ) (member : Member)
    → ((fault : FileFault) × IsWrongMember before subject content page member fault) ⊎ IsRightMember before subject content member
member-wrong_or_right before subject Rows page member = elim (readable-decided member) [ inl readable ↦ inr readable | inr lacks ↦ inl (Damaged page broken.Record, (lacks, refl)) ]
member-wrong_or_right before subject (Entries index rows) page member = by (entry-decided index member)
  where
    by : Decided ((entry : List Value) × IsEntry index member entry)
        → ((fault : FileFault) × IsWrongMember before subject (Entries index rows) page member fault) ⊎ IsRightMember before subject (Entries index rows) member
    by (inr none) = inl (Damaged page broken.Record, inl (λ entry is. none (entry, is), refl))
    by (inl found) = elim (all-after_or subject.root index found.0 before) [ inl wrong ↦ inl (KeyOrder page, inr (found.0, found.1, wrong, refl)) | inr after ↦ inr (found.0, found.1, after) ]
member-wrong_or_right before subject Anything page member = inr tt

one-wrong_or_right : (before : List Found) (one : Found) → IsNoCompare one → WrongOrRight before one
one-wrong_or_right before (InTree subject (Finds page)) plain = elim (decide (is_found page before)) [ inl twice ↦ inl (PageTwice page, (twice, refl)) | inr once ↦ inr once ]
one-wrong_or_right before (InTree subject (Ends page depth)) plain =
    elim (decide (list_any (ends_elsewhere subject.root depth) before)) [ inl other ↦ inl (Damaged page broken.Depth, (other, refl)) | inr same ↦ inr same ]
one-wrong_or_right before (InTree subject (Holds page member)) plain = member-wrong_or_right before subject subject.content page member
one-wrong_or_right before (InTree subject (Breaks page rule)) plain = inl (Damaged page rule, refl)
one-wrong_or_right before (InTree subject (Disorders page)) plain = inl (KeyOrder page, refl)
one-wrong_or_right before (InTree subject (Bares page)) plain = inl (Damaged page broken.Empty, refl)
one-wrong_or_right before (Frees page) plain = elim (decide (is_found page before)) [ inl twice ↦ inl (PageTwice page, (twice, refl)) | inr once ↦ inr once ]
one-wrong_or_right before (Tears page) plain = inl (Damaged page broken.Trunk, refl)
one-wrong_or_right before (Counts pages) plain =
    elim (cases_eq (length (filter_map free_page before)) pages) [ inl same ↦ inr same | inr unlike ↦ inl (Damaged 1 broken.Count, (unlike, refl)) ]
one-wrong_or_right before (Needs page) plain = elim (decide (is_found page before)) [ inl stands ↦ inr stands | inr lost ↦ inl (PageLost page, (lost, refl)) ]
one-wrong_or_right before (Compares index rows members) plain = absurd plain

-- some are the first that is wrong, or all are right
abbrev FirstWrongOrRight : List Found → List Found → Type 0
FirstWrongOrRight before found = ((fault : FileFault) × FirstWrong before found fault) ⊎ AreRight before found

one-or : (before : List Found) (one : Found) (found : List Found) → WrongOrRight before one → (IsRight before one → FirstWrongOrRight (before ++ one ∷ []) found) → FirstWrongOrRight before (one ∷ found)
one-or before one found (inl wrong) rest = inl (wrong.0, inl wrong.1)
one-or before one found (inr right) rest = elim (rest right) [
  | inl wrong ↦ inl (wrong.0, inr (λ other now. right-not_wrong before one other right now, wrong.1))
  | inr others ↦ inr (right, others)
]

parts-or : (before found : List Found) → AllByRecursion IsNoCompare found → FirstWrongOrRight before found
parts-or before [] all = inr tt
parts-or before (one ∷ found) all = one-or before one found (one-wrong_or_right before one all.0) (λ right. parts-or (before ++ one ∷ []) found all.1)

-- one part behind another
join-or : (before front back : List Found) → FirstWrongOrRight before front → (AreRight before front → FirstWrongOrRight (before ++ front) back) → FirstWrongOrRight before (front ++ back)
join-or before front back (inl wrong) rest = inl (wrong.0, wrong-front before front back wrong.0 wrong.1)
join-or before front back (inr right) rest = elim (rest right) [
  | inl wrong ↦ inl (wrong.0, wrong-back before front back wrong.0 right wrong.1)
  | inr others ↦ inr (right-join before front back right others)
]

-- The entries of an index agree with the rows of its table, or there is a first one that disagrees.

some-of : {A : Type 0} (P : A → Type 0) → ((x : A) → Decided (P x)) → (xs : List A) → Decided ((x : A) × Has x xs × P x)
some-of P each [] = inr (λ some. some.1)
some-of {A} P each (z ∷ xs) = by (each z) (some-of P each xs)
  where
    by : Decided (P z) → Decided ((x : A) × Has x xs × P x) → Decided ((x : A) × Has x (z ∷ xs) × P x)
    by (inl p) rest = inl (z, inl refl, p)
    by (inr np) (inl some) = inl (some.0, inr some.1, some.2)
    by (inr np) (inr none) = inr (λ some. elim some.1 [ inl e ↦ np (subst⁻¹ P e some.2) | inr later ↦ none (some.0, later, some.2) ])

both-so : {P Q : Type 0} → Decided P → Decided Q → Decided (P × Q)
both-so (inl p) (inl q) = inl (p, q)
both-so (inl p) (inr nq) = inr (λ both. nq both.1)
both-so (inr np) q = inr (λ both. np both.0)

one-so : {P Q : Type 0} → Decided P → Decided Q → Decided (P ⊎ Q)
one-so (inl p) q = inl (inl p)
one-so (inr np) (inl q) = inl (inr q)
one-so (inr np) (inr nq) = inr (λ o. elim o [ inl p ↦ np p | inr q ↦ nq q ])

not-so : {P : Type 0} → Decided P → Decided (P → ⊥)
not-so (inl p) = inr (λ none. none p)
not-so (inr np) = inl np

test-so : (t s : Bool) → Decided (t ≡ s)
test-so true true = inl refl
test-so true false = inr (λ e. let no : ⊥ = cc in no)
test-so false true = inr (λ e. let no : ⊥ = cc in no)
test-so false false = inl refl

order-so : (o : Ordering) → Decided (o ≡ Equal)
order-so Less = inr (λ e. let no : ⊥ = cc in no)
order-so Equal = inl refl
order-so Greater = inr (λ e. let no : ⊥ = cc in no)

contains-so : (entries : List (List Value)) (entry : List Value) → Decided (Contains entries entry)
contains-so entries entry = elim (member-or entry entries) [ inl stands ↦ inl (has-to entries entry stands) | inr lacks ↦ inr (λ c. lacks (has-from entries entry c)) ]

-- a first of some items, by an order that is decided
module _ {A : Type 0} (Before : A → A → Type 0) (P Fits : A → Type 0) (onward : (a b c : A) → Fits a → Fits b → Fits c → Before a b → Before b c → Before a c) (apart : (a b : A) → Before a b → Before b a → ⊥)
    (each : (x : A) → Decided (P x)) (less : (a b : A) → Decided (Before a b)) where
  abbrev IsFirstOf : List A → Type 0
  IsFirstOf = Least Before P Fits onward apart

  abbrev HasNone : List A → Type 0
  HasNone = Lacks Before P Fits onward apart

  first-or : (xs : List A) → AllByRecursion Fits xs → IsFirstOf xs ⊎ HasNone xs
  first-or [] fit = inr (λ y h p. h)
  first-or (z ∷ xs) fit = by (each z) (first-or xs fit.1)
    where
      by : Decided (P z) → IsFirstOf xs ⊎ HasNone xs → IsFirstOf (z ∷ xs) ⊎ HasNone (z ∷ xs)
      by own (inr none) = first-least Before P Fits onward apart z xs own none
      by (inl p) (inl first) = inl (both-least Before P Fits onward apart z xs fit.0 fit.1 p first (less z first.0))
      by (inr np) (inl first) = inl (first.0, inr first.1, first.2, λ y h q before. elim h [ inl e ↦ np (subst⁻¹ P e q) | inr later ↦ first.3 y later q before ])

module _ (index : Index) (rows : List TableRow) (entries : List (List Value)) where
  before-so : (a b : List Value) → Decided (IsBefore index a b)
  before-so a b = less-or (entry_cmp (order_of index) a b)

  clash-so : (a b : List Value) → Decided (Clash index a b)
  clash-so a b =
      decided-by (λ h. (h.0, h.1.0, h.1.1)) (λ h. (h.0, (h.1, h.2)))
      (both-so (order-so (columns_cmp (order_of index) a b)) (both-so (test-so (has_null index a) false) (test-so (has_null index b) false)))

  disagrees-so : (entry : List Value) → Decided (Disagrees index rows entries entry)
  disagrees-so entry =
      let own = map (entry_of index) rows in
      one-so (both-so (contains-so entries entry) (not-so (contains-so own entry)))
      (one-so (both-so (not-so (contains-so entries entry)) (contains-so own entry))
      (decided-by
      (λ h. (h.0, h.1.0, (h.1.1.0, has-to entries h.1.1.0 h.1.1.1, h.1.1.2.0, h.1.1.2.1)))
      (λ h. (h.0, (h.1, (h.2.0, has-from entries h.2.0 h.2.1, (h.2.2, h.2.3)))))
      (both-so (test-so index.unique true) (both-so (contains-so entries entry)
      (some-of (λ other. IsBefore index other entry × Clash index other entry) (λ other. both-so (before-so other entry) (clash-so other entry)) entries)))))

  index-or : (members : List Member) → AllZip (IsEntry index) members entries → PairsByRecursion (IsBefore index) entries → Apart rows
      → ((rowid : ℤ) × FirstDisagrees index rows members rowid) ⊎ IsIndexOf index rows members
  index-or members zip pairs apart =
      let all = entries ++ map (entry_of index) rows in
      let long = all-join (HasRowid index) entries (map (entry_of index) rows) (entries-long index members entries zip) (rows-long index rows) in
      elim (first-or (IsBefore index) (Disagrees index rows entries) (HasRowid index) (before-then index) (before-apart index) disagrees-so before-so all long) [
        | inl first ↦
            let last = all-of (HasRowid index) all first.0 long first.1 in
            inl (
              last.1.0,
              record {
                entries = entries;
                decoded = entries-decode index members entries zip;
                entry = first.0;
                disagrees = first.2;
                rowid_is = last.1.1;
                first = λ other wrong. first.3 other (disagrees-in index rows entries other wrong) wrong;
              },
            )
        | inr agree ↦ inr (agrees-index index rows members entries zip pairs apart (λ entry wrong. agree entry (disagrees-in index rows entries entry wrong) wrong))
      ]

-- All that is found in a file.

module _ (sizes : Sizes) (base : Paged) (catalog : Catalog) (found : List Found) (has : HasCatalog sizes base catalog) (are : AreFound sizes base catalog found) where
  abbrev in_trees : List Found
  in_trees = of_trees sizes base catalog found has are

  abbrev in_freelist : List Found
  in_freelist = freelist_found sizes base

  abbrev in_needs : List Found
  in_needs = map Needs (pages_needed sizes base)

  content-or : AreRight [] in_trees → (walked : Walked) → Has walked are.walks → (content : Content) → walked.subject.content ≡ content → (before : List Found)
      → FirstWrongOrRight before (content_compared content (members_found walked.findings))
  content-or right walked h Rows e before = inr tt
  content-or right walked h (Entries index rows) e before =
      let earlier = right-walk [] are.walks walked right h in
      let walk = walk-entries walked.subject index rows e earlier.0 walked.findings earlier.1 in
      elim (index-or index rows walk.entries (members_found walked.findings) walk.zip walk.pairs (entries-apart sizes base catalog found has are right walked h index rows e)) [
        | inl wrong ↦ inl (IndexDisagrees index.name wrong.0, inl (wrong.0, wrong.1, refl))
        | inr is ↦ inr (is, tt)
      ]
  content-or right walked h Anything e before = inr tt

  indexes-or : AreRight [] in_trees → (walks : List Walked) → ((walked : Walked) → Has walked walks → Has walked are.walks) → (before : List Found) → FirstWrongOrRight before (flat_map compared walks)
  indexes-or right [] in_walks before = inr tt
  indexes-or right (walked ∷ walks) in_walks before =
      join-or before (compared walked) (flat_map compared walks) (content-or right walked (in_walks walked (inl refl)) walked.subject.content refl before)
      (λ own. indexes-or right walks (λ w h. in_walks w (inr h)) (before ++ compared walked))

  -- there is a first thing that is wrong, or all is right
  pub first_wrong-or_right : FirstWrongOrRight [] found
  first_wrong-or_right =
      let of_indexes = flat_map compared are.walks in
      let front = in_trees ++ (in_freelist ++ in_needs) in
      let parts = all-join IsNoCompare in_trees (in_freelist ++ in_needs) (trees-no_compare are.walks)
      (all-join IsNoCompare in_freelist in_needs (freelist-no_compare sizes base catalog found has are) (needs-no_compare (pages_needed sizes base))) in
      let whole : found ≡ front ++ of_indexes = are.found_are ∙ ap (λ (rest : List Found). in_trees ++ rest) (sym (append_assoc in_freelist in_needs of_indexes)) ∙ sym (append_assoc in_trees (in_freelist ++ in_needs) of_indexes) in
      subst⁻¹ (FirstWrongOrRight []) whole
      (join-or [] front of_indexes (parts-or [] front parts) (λ first. indexes-or (right-front [] in_trees (in_freelist ++ in_needs) first) are.walks (λ w h. h) front))

-- a file with a catalog is sound, or has a fault
pub sound-or_fault : (sizes : Sizes) (base : Paged) (catalog : Catalog) → IsRootNumber sizes base 1 → base.count ≤ greatest_count → HasCatalog sizes base catalog
    → ((db : Database) × IsSound sizes base catalog db) ⊎ ((fault : FileFault) × FileHasFault sizes base fault)
sound-or_fault sizes base catalog first few has =
    let found = found-some sizes base catalog has in
    elim (first_wrong-or_right sizes base catalog found.0 has found.1) [
      | inl wrong ↦ inr (wrong.0, inr (catalog, has, (found.0, found.1, wrong.1)))
      | inr right ↦ inl (right-sound sizes base catalog found.0 first few has found.1 right)
    ]
