-- What a check needs to tell right from wrong: entries of indexes in their order, what compares nothing, and rows whose rowids differ; crates above cite these facts in their proofs.
use Rattle.std.proofs.Common.{◌≡◌, ◌≢◌, ℕ, ℤ, zero, suc, ◌<◌, ◌≤◌, ◌<ℤ◌, ◌⊎◌, Bool, true, false, List, [], ◌∷◌, ◌++◌, length, map, slice_index_or, is_ok, refl, sym, ap, ◌∙◌, subst, inl, inr, arith}
use Rattle.std.proofs.Math.Path.{subst⁻¹}
use Rattle.std.specs.Prelude.{AllPairs, Any}
use Rattle.std.specs.List.{flat_map, AllZip, AllByRecursion, range_with_len}
use Rattle.std.specs.Ordering.{ordering_then}
use Rattle.std.specs.declared.cmp.Ordering.{Ordering}
use Rattle.std.specs.declared.cmp.Ordering.TheVariants.{Less, Equal, Greater}
use Rattle.std.proofs.lemmas.Int.{ints}
use Rattle.std.proofs.lemmas.List.{get_or_default, length-map}
use Rattle.std.proofs.lemmas.List.Sorted.{Contains-permutation, IsPermutation-sym}
use Rattle.rbu_value.specs.declared.order.Collation.{Collation}
use Rattle.rbu_value.specs.declared.order.Collation.TheVariants.{Binary}
use Rattle.rbu_value.specs.declared.value.Value.{Value}
use Rattle.rbu_value.specs.declared.value.Value.TheVariants.{Int}
use Rattle.rbu_value.specs.Order.{value_cmp}
use Rattle.format_spec.specs.Record.{IsRecord}
use Rattle.format_spec.specs.Header.{freelist_trunk, freelist_pages}
use Rattle.page_spec.specs.Pages.{next_page}
use Rattle.page_spec.specs.Freelists.{leaf_count, leaf_at}
use Rattle.schema_spec.specs.declared.schema.Table.{Table}
use Rattle.schema_spec.specs.declared.schema.Index.{Index}
use Rattle.tree_spec.specs.declared.TreeKind.{TreeKind}
use Rattle.tree_spec.specs.declared.TreeKind.TheVariants as tree
use Rattle.tree_spec.specs.Trees.{TreeOf, Member, list_of, list_in}
use Rattle.tree_spec.specs.Bounds.{IsOrdered, below_rowids, greatest_rowid}
use Rattle.tree_spec.specs.BoundsLaws.{InOrder-rises, rises-pairs}
use Rattle.tree_spec.specs.Standing.{Sizes, Paged}
use Rattle.tree_spec.specs.WorldsLaws.{all-front, all-back, all-join}
use Rattle.database_spec.specs.declared.catalog.NamedEntry.{NamedEntry}
use Rattle.database_spec.specs.declared.catalog.Catalog.{Catalog}
use Rattle.database_spec.specs.RightRows.{HasCatalog}
use Rattle.database_spec.specs.CatalogsLaws.{list-one}
use Rattle.database_spec.specs.Walks.{Finding, Finds, Ends, Holds, Breaks, Disorders, Bares, IsWalk, members_found, IsList}
use Rattle.database_spec.specs.TreeWalksLaws.{flawless-goes_on}
use Rattle.database_spec.specs.ListsLaws.{sorted-one, PairsByRecursion, pairs-from}
use Rattle.database_spec.specs.ItemsLaws.{Has, has-from, has-to, has-left, has-right}
use Rattle.database_spec.specs.Rows.{TableRow, IsRow, IsPlain}
use Rattle.database_spec.specs.Keys.{order_of, last_value, entry_cmp, IsBefore, entry_of, IsProjection, IsIndexOf}
use Rattle.database_spec.specs.KeysLaws.{before-apart}
use Rattle.database_spec.specs.FileFindings.{Content, Entries, Anything, Subject, Walked, Found, InTree, Frees, Tears, Counts, Needs, Compares, table_kind, table_content, IsIndexContent, IsWalked, is_number, leaf_found, leaves_found, trunks_found, freelist_found, tree_found, AreFound}
use Rattle.database_spec.specs.FileFaults.{IsEntry, Disagrees}
use Rattle.prepared_spec.specs.MembersLaws.{member-or}
use Rattle.prepared_laws.specs.PaddedKeysLaws.{padded-same}
use Rattle.prepared_laws.specs.SortsLaws.{on-if}
use Rattle.prepared_laws.specs.TablesMadeLaws.{Apart}
use Rattle.prepared_laws.specs.ChangesMadeLaws.{last-is, entry-long, by_entry, by_entry-total, projection-some}
use Rattle.database_laws.specs.RightFindings.{IsAfter, IsRightMember, AreRight}
use Rattle.database_laws.specs.FoundTreesLaws.{walk-tree}
use Rattle.database_laws.specs.FoundFreelistsLaws.{on-trunk}
use Rattle.database_laws.specs.SubjectsLaws.{zip-has, has-zip, origin-of, table-stands, own_tree, own-tree, tree-own, read-number}
use Rattle.database_laws.specs.RightFilesLaws.{all-of, in_tree, right-flawless, right-walk}
use Rattle.database_laws.specs.SoundFilesLaws.{pairs-to}

-- Of items some of which have P one is the first, before which none of these stands.
module _ {A : Type 0} (Before : A → A → Type 0) (P Fits : A → Type 0) (onward : (a b c : A) → Fits a → Fits b → Fits c → Before a b → Before b c → Before a c) (apart : (a b : A) → Before a b → Before b a → ⊥) where
  abbrev pub Least : List A → Type 0
  Least xs = (x : A) × Has x xs × P x × ((y : A) → Has y xs → P y → ¬ Before y x)

  abbrev pub Lacks : List A → Type 0
  Lacks xs = (y : A) → Has y xs → ¬ P y

  pub first-least : (z : A) (xs : List A) → P z ⊎ (P z → ⊥) → Lacks xs → Least (z ∷ xs) ⊎ Lacks (z ∷ xs)
  first-least z xs (inl p) none = inl (z, inl refl, p, λ y h q before. elim h [ inl e ↦ apart z z (subst⁻¹ (λ v. Before v z) e before) (subst⁻¹ (λ v. Before v z) e before) | inr later ↦ none y later q ])
  first-least z xs (inr np) none = inr (λ y h q. elim h [ inl e ↦ np (subst⁻¹ P e q) | inr later ↦ none y later q ])

  pub both-least : (z : A) (xs : List A) → Fits z → AllByRecursion Fits xs → P z → (least : Least xs) → Before z least.0 ⊎ (Before z least.0 → ⊥) → Least (z ∷ xs)
  both-least z xs own fit p least (inl b) = (
    z,
    inl refl,
    p,
    λ y h q before. elim h [
      | inl e ↦ apart z z (subst⁻¹ (λ v. Before v z) e before) (subst⁻¹ (λ v. Before v z) e before)
      | inr later ↦ least.3 y later q (onward y z least.0 (all-of Fits xs y fit later) own (all-of Fits xs least.0 fit least.1) before b)
    ],
  )
  both-least z xs own fit p least (inr nb) = (
    least.0,
    inr least.1,
    least.2,
    λ y h q before. elim h [ inl e ↦ nb (subst⁻¹ (λ v. Before v least.0) e before) | inr later ↦ least.3 y later q before ],
  )

-- What is found one by one, but for comparisons.

abbrev pub IsNoCompare : Found → Type 0
IsNoCompare (InTree subject finding) = Unit {0}
IsNoCompare (Frees page) = Unit {0}
IsNoCompare (Tears page) = Unit {0}
IsNoCompare (Counts pages) = Unit {0}
IsNoCompare (Needs page) = Unit {0}
IsNoCompare (Compares index rows members) = ⊥

pub less-or : (o : Ordering) → (o ≡ Less) ⊎ (o ≢ Less)
less-or Less = inl refl
less-or Equal = inr (λ e. let h : ⊥ = cc in h)
less-or Greater = inr (λ e. let h : ⊥ = cc in h)

pub any-more : {A : Type 0} (P : A → Type 0) (y : A) (xs : List A) → Any P xs → Any P (y ∷ xs)
any-more P y xs (k, x, low, e, p) = (suc k, x, omega (arith, low), e, p)

tree-no_compare : (subject : Subject) (findings : List Finding) → AllByRecursion IsNoCompare (in_tree subject findings)
tree-no_compare subject [] = tt
tree-no_compare subject (finding ∷ findings) = (tt, tree-no_compare subject findings)

pub trees-no_compare : (walks : List Walked) → AllByRecursion IsNoCompare (flat_map tree_found walks)
trees-no_compare [] = tt
trees-no_compare (walked ∷ walks) = all-join IsNoCompare (tree_found walked) (flat_map tree_found walks) (tree-no_compare walked.subject walked.findings) (trees-no_compare walks)

pub needs-no_compare : (numbers : List ℕ) → AllByRecursion IsNoCompare (map Needs numbers)
needs-no_compare [] = tt
needs-no_compare (n ∷ numbers) = (tt, needs-no_compare numbers)

-- Entries of an index.

-- the entries of a walk, each behind those before it
pub record WalkEntries (root : ℕ) (index : Index) (before : List Found) (members : List Member) : Type 0 where
  pub entries : List (List Value)
  pub zip : AllZip (IsEntry index) members entries
  pub pairs : PairsByRecursion (IsBefore index) entries
  pub after : AllByRecursion (λ entry. AllByRecursion (IsAfter root index entry) before) entries

fewer-after : (root : ℕ) (index : Index) (before : List Found) (one : Found) (entries : List (List Value)) → AllByRecursion (λ entry. AllByRecursion (IsAfter root index entry) (before ++ one ∷ [])) entries
    → AllByRecursion (λ entry. AllByRecursion (IsAfter root index entry) before) entries
fewer-after root index before one [] all = tt
fewer-after root index before one (entry ∷ entries) all = (all-front (IsAfter root index entry) before (one ∷ []) all.0, fewer-after root index before one entries all.1)

walk-past : (root : ℕ) (index : Index) (before : List Found) (one : Found) (members : List Member) → WalkEntries root index (before ++ one ∷ []) members → WalkEntries root index before members
walk-past root index before one members walk = record { entries = walk.entries; zip = walk.zip; pairs = walk.pairs; after = fewer-after root index before one walk.entries walk.after }

pub walk-entries : (subject : Subject) (index : Index) (rows : List TableRow) → subject.content ≡ Entries index rows → (before : List Found) (findings : List Finding) → AreRight before (in_tree subject findings)
    → WalkEntries subject.root index before (members_found findings)
walk-entries subject index rows e before [] right = record { entries = []; zip = tt; pairs = tt; after = tt }
walk-entries subject index rows e before (Finds page ∷ findings) right =
    walk-past subject.root index before (InTree subject (Finds page)) (members_found findings) (walk-entries subject index rows e (before ++ InTree subject (Finds page) ∷ []) findings right.1)
walk-entries subject index rows e before (Ends page depth ∷ findings) right =
    walk-past subject.root index before (InTree subject (Ends page depth)) (members_found findings) (walk-entries subject index rows e (before ++ InTree subject (Ends page depth) ∷ []) findings right.1)
walk-entries subject index rows e before (Holds page member ∷ findings) right =
    let here = InTree subject (Holds page member) in
    let own = subst (λ (c : Content). IsRightMember before subject c member) e right.0 in
    let rest = walk-entries subject index rows e (before ++ here ∷ []) findings right.1 in
    record {
      entries = own.0 ∷ rest.entries;
      zip = (own.1, rest.zip);
      pairs = (behind rest.entries own.0 own.1 rest.after, rest.pairs);
      after = (own.2, fewer-after subject.root index before here rest.entries rest.after);
    }
  where
    behind : (entries : List (List Value)) (entry : List Value) → IsEntry index member entry
        → AllByRecursion (λ other. AllByRecursion (IsAfter subject.root index other) (before ++ InTree subject (Holds page member) ∷ [])) entries → AllByRecursion (IsBefore index entry) entries
    behind [] entry is all = tt
    behind (other ∷ entries) entry is all =
        ((all-back (IsAfter subject.root index other) before (InTree subject (Holds page member) ∷ []) all.0).0 refl entry is, behind entries entry is all.1)
walk-entries subject index rows e before (Breaks page rule ∷ findings) right = absurd right.0
walk-entries subject index rows e before (Disorders page ∷ findings) right = absurd right.0
walk-entries subject index rows e before (Bares page ∷ findings) right = absurd right.0

module _ (index : Index) where
  abbrev pub order : List (Collation × Bool)
  order = order_of index

  -- an entry with a value for each column and a rowid
  abbrev pub HasRowid : List Value → Type 0
  HasRowid entry = (length order ≤ length entry) × ((rowid : ℤ) × (last_value order entry ≡ Int rowid))

  by_entry-same : (a b : List Value) → HasRowid a → HasRowid b → entry_cmp order a b ≡ by_entry index a b
  by_entry-same a b p q = ap (λ (o : Ordering). ordering_then o (value_cmp Binary (last_value order a) (last_value order b))) (padded-same order a b p.0 q.0)

  pub before-then : (a b c : List Value) → HasRowid a → HasRowid b → HasRowid c → IsBefore index a b → IsBefore index b c → IsBefore index a c
  before-then a b c p q r less more =
      by_entry-same a c p r ∙ (by_entry-total index).trans a b c (sym (by_entry-same a b p q) ∙ less) (sym (by_entry-same b c q r) ∙ more)

  columns-long : length order ≡ length index.columns
  columns-long = length-map index.columns (λ (column : ℕ × Collation × Bool). (column.1, column.2))

  pub member-long : (member : Member) (entry : List Value) → IsEntry index member entry → HasRowid entry
  member-long member entry is = (omega (arith, is.many, columns-long), (is.rowid, is.last))

  pub row-long : (row : TableRow) → HasRowid (entry_of index row)
  row-long row = (entry-long index row, (row.rowid, last-is index row))

  pub entries-long : (members : List Member) (entries : List (List Value)) → AllZip (IsEntry index) members entries → AllByRecursion HasRowid entries
  entries-long [] [] zip = tt
  entries-long [] (e ∷ entries) zip = absurd zip
  entries-long (m ∷ members) [] zip = absurd zip
  entries-long (m ∷ members) (e ∷ entries) zip = (member-long m e zip.0, entries-long members entries zip.1)

  pub entries-decode : (members : List Member) (entries : List (List Value)) → AllZip (IsEntry index) members entries → AllZip (λ member entry. IsRecord member.payload entry) members entries
  entries-decode [] [] zip = tt
  entries-decode [] (e ∷ entries) zip = absurd zip
  entries-decode (m ∷ members) [] zip = absurd zip
  entries-decode (m ∷ members) (e ∷ entries) zip = (zip.0.is_record, entries-decode members entries zip.1)

  pub rows-long : (rows : List TableRow) → AllByRecursion HasRowid (map (entry_of index) rows)
  rows-long [] = tt
  rows-long (row ∷ rows) = (row-long row, rows-long rows)

  -- entries in order, of which none disagrees with rows of rowids that differ, are the projection of these
  pub agrees-index : (rows : List TableRow) (members : List Member) (entries : List (List Value)) → AllZip (IsEntry index) members entries → PairsByRecursion (IsBefore index) entries → Apart rows
      → ((entry : List Value) → ¬ Disagrees index rows entries entry) → IsIndexOf index rows members
  agrees-index rows members entries zip pairs apart agree =
      let own = map (entry_of index) rows in
      let made = projection-some index rows apart in
      let sorted = pairs-from (IsBefore index) entries pairs in
      let same : entries ≡ made.0 =
      sorted-one (IsBefore index) (before-apart index) entries made.0 sorted made.1.sorted
      (λ x h. Contains-permutation own made.0 x made.1.all (elim (member-or x own) [ inl stands ↦ has-to own x stands | inr lacks ↦ absurd (agree x (inl (h, λ c. lacks (has-from own x c)))) ]))
      (λ x h.
      let back = Contains-permutation made.0 own x (IsPermutation-sym own made.0 made.1.all) h in
      elim (member-or x entries) [ inl stands ↦ has-to entries x stands | inr lacks ↦ absurd (agree x (inr (inl (λ c. lacks (has-from entries x c), back)))) ]) in
      record {
        entries = entries;
        decoded = entries-decode members entries zip;
        is_projection = subst⁻¹ (IsProjection index rows) same made.1;
        unique = λ unique i j d less long clash.
            let a = slice_index_or entries i d in
            let b = slice_index_or entries j d in
            let low : i < length entries = omega (arith, less, long) in
            agree b (inr (inr (unique, (j, long, get_or_default entries j b d long), (a, (i, low, get_or_default entries i a d low), sorted i j d less long, clash))));
      }

  pub disagrees-in : (rows : List TableRow) (entries : List (List Value)) (entry : List Value) → Disagrees index rows entries entry → Has entry (entries ++ map (entry_of index) rows)
  disagrees-in rows entries entry (inl wrong) = has-left entries (map (entry_of index) rows) entry (has-from entries entry wrong.0)
  disagrees-in rows entries entry (inr (inl wrong)) = has-right entries (map (entry_of index) rows) entry (has-from (map (entry_of index) rows) entry wrong.1)
  disagrees-in rows entries entry (inr (inr wrong)) = has-left entries (map (entry_of index) rows) entry (has-from entries entry wrong.1)

-- Rows of a plain table.

ordered-rises : (kind : TreeKind) (levels : ℕ) (own : TreeOf levels) → kind ≡ tree.Table → IsOrdered kind levels own → AllPairs (λ (a b : Member). a.rowid <ℤ b.rowid) (list_of kind levels own)
ordered-rises tree.Table levels t is ordered = rises-pairs below_rowids greatest_rowid (list_of tree.Table levels t) (InOrder-rises levels below_rowids greatest_rowid t ordered)
ordered-rises tree.Index levels t is ordered = absurd (let h : ⊥ = cc in h)

module _ (table : Table) where
  rows-behind : (member : Member) (row : TableRow) (members : List Member) (rows : List TableRow) → IsRow table member row → AllByRecursion (λ (other : Member). member.rowid <ℤ other.rowid) members
      → AllZip (IsRow table) members rows → AllByRecursion (λ (other : TableRow). row.rowid ≢ other.rowid) rows
  rows-behind member row [] [] is less zip = tt
  rows-behind member row [] (r ∷ rows) is less zip = absurd zip
  rows-behind member row (m ∷ members) [] is less zip = absurd zip
  rows-behind member row (m ∷ members) (r ∷ rows) is less zip =
      (λ same. omega (arith, ints, less.0, is.rowid, zip.0.rowid, same), rows-behind member row members rows is less.1 zip.1)

  rows-apart : (members : List Member) (rows : List TableRow) → PairsByRecursion (λ (a b : Member). a.rowid <ℤ b.rowid) members → AllZip (IsRow table) members rows → Apart rows
  rows-apart [] [] rise zip = tt
  rows-apart [] (r ∷ rows) rise zip = absurd zip
  rows-apart (m ∷ members) [] rise zip = absurd zip
  rows-apart (m ∷ members) (r ∷ rows) rise zip = (rows-behind m r members rows zip.0 rise.0 zip.1, rows-apart members rows rise.1 zip.1)

-- The freelist compares nothing.
module _ (sizes : Sizes) (base : Paged) where
  leaves-no_compare : (trunk : ℕ) (places : List ℕ) → AllByRecursion IsNoCompare (map (leaf_found sizes base trunk) places)
  leaves-no_compare trunk [] = tt
  leaves-no_compare trunk (at ∷ places) =
      let leaf = leaf_at (base.pages trunk) at in
      (on-if IsNoCompare (is_number sizes base leaf) (Frees leaf) (Tears trunk) (λ e. tt) (λ e. tt), leaves-no_compare trunk places)

  trunks-no_compare : (left holder number : ℕ) → AllByRecursion IsNoCompare (trunks_found sizes base left holder number)
  trunks-no_compare zero holder number = tt
  trunks-no_compare (suc left) holder number =
      on-trunk sizes base (AllByRecursion IsNoCompare) left holder number (λ e. tt) (λ out apart. (tt, tt)) (λ is many. (tt, (tt, tt)))
      (λ is few. (
        tt,
        all-join IsNoCompare (leaves_found sizes base number) (trunks_found sizes base left number (next_page (base.pages number)))
            (leaves-no_compare number (range_with_len 0 (leaf_count (base.pages number)))) (trunks-no_compare left number (next_page (base.pages number))),
      ))

module _ (sizes : Sizes) (base : Paged) (catalog : Catalog) (found : List Found) (has : HasCatalog sizes base catalog) (are : AreFound sizes base catalog found) where
  abbrev pub of_trees : List Found
  of_trees = flat_map tree_found are.walks

  abbrev of_freelist : List Found
  of_freelist = freelist_found sizes base

  -- the rows of a plain table have rowids that differ
  plain-apart : AreRight [] of_trees → (named : NamedEntry) (table : Table) (rows : List TableRow) → Has named catalog.tables → IsPlain sizes base named.entry table rows → Apart rows
  plain-apart right named table rows h plain =
      let entry = named.entry in
      let number = read-number sizes base catalog are.subjects has are.are_subjects named table h plain.meaning in
      let some : entry.root ≢ 0 = λ none. absurd (omega (arith, none, number.behind_first)) in
      let own = own_tree sizes base catalog are.subjects has are.are_subjects entry in
      let stands = table-stands sizes base catalog are.subjects has are.are_subjects named own h
      (subst⁻¹ (λ (list : List Subject). Has own list) (own-tree sizes base catalog are.subjects has are.are_subjects entry some) (inl refl)) in
      let walked = has-zip (IsWalked sizes base) are.subjects are.walks own are.are_walks stands in
      let earlier = right-walk [] are.walks walked.0 right walked.1 in
      let flawless = right-flawless walked.0.subject earlier.0 walked.0.findings earlier.1 in
      let kind : own.kind ≡ tree.Table = ap (λ (t : Bool). table_kind t (base.pages entry.root) entry.root) (ap is_ok plain.meaning) in
      let walk = subst (λ (k : TreeKind). IsWalk sizes base k entry.root walked.0.findings) kind walked.2.is_walk in
      let standing = walk-tree sizes base tree.Table entry.root flawless.0 walked.0.findings walk flawless.1 in
      let rises = ordered-rises standing.rooted.kind standing.rooted.levels standing.rooted.tree standing.kind_is standing.is_root.ordered in
      let list : IsList sizes base tree.Table entry.root (members_found walked.0.findings) = (walked.0.findings, walk, flawless-goes_on flawless.0 walked.0.findings flawless.1, refl) in
      let members = list-one sizes base tree.Table entry.root plain.members (members_found walked.0.findings) plain.is_list list ∙ standing.members_are in
      rows-apart table (list_in standing.rooted) rows (pairs-to (λ (a b : Member). a.rowid <ℤ b.rowid) (list_in standing.rooted) rises)
      (subst (λ (m : List Member). AllZip (IsRow table) m rows) members plain.rows_are)

  -- what an index's tree is compared with
  pub entries-apart : AreRight [] of_trees → (walked : Walked) → Has walked are.walks → (index : Index) (rows : List TableRow) → walked.subject.content ≡ Entries index rows → Apart rows
  entries-apart right walked h index rows e =
      let from = zip-has (IsWalked sizes base) are.subjects are.walks walked are.are_walks h in
      let content : from.0.content ≡ Entries index rows = sym (ap (λ (s : Subject). s.content) from.2.subject_is) ∙ e in
      elim (origin-of sizes base catalog are.subjects has are.are_subjects from.0 from.1) [
        | inl schema ↦ absurd (let clash : Anything ≡ Entries index rows = sym (ap (λ (s : Subject). s.content) schema) ∙ content in let no : ⊥ = cc in no)
        | inr rest ↦ elim rest [
          | inl own ↦
              let tree = tree-own sizes base catalog are.subjects has are.are_subjects own.named.entry from.0 own.own in
              absurd (no_table (is_ok own.named.entry.meaning) (sym (ap (λ (s : Subject). s.content) tree.1) ∙ content))
          | inr of ↦
              let plain = subst (IsIndexContent sizes base of.named.entry of.index.1) content of.is.content in
              plain-apart right of.named plain.1.0 rows of.stands plain.1.1
        ]
      ]
    where
      no_table : (b : Bool) → table_content b ≡ Entries index rows → ⊥
      no_table true clash = let no : ⊥ = cc in no
      no_table false clash = let no : ⊥ = cc in no

  pub freelist-no_compare : AllByRecursion IsNoCompare of_freelist
  freelist-no_compare = all-join IsNoCompare (trunks_found sizes base (suc base.count) 1 (freelist_trunk (base.pages 1))) (Counts (freelist_pages (base.pages 1)) ∷ []) (trunks-no_compare sizes base (suc base.count) 1 (freelist_trunk (base.pages 1))) (tt, tt)
