-- A file has at most one first fault: crates above cite these facts in their proofs.
use Rattle.std.proofs.Common.{◌≡◌, ℕ, ◌<◌, List, [], ◌∷◌, ◌++◌, map, Result, Ok, refl, sym, ap, ap₂, ◌∙◌, subst, inl, inr, arith}
use Rattle.std.proofs.Math.Path.{subst⁻¹}
use Rattle.std.specs.Prelude.{IsPermutation}
use Rattle.std.specs.List.{AllZip, flat_map}
use Rattle.rbu_value.specs.declared.value.Value.{Value}
use Rattle.format_spec.specs.Record.{IsRecord}
use Rattle.common_spec.specs.ReadingLaws.{IsOne}
use Rattle.schema_spec.specs.declared.schema.SqlFault.{SqlFault}
use Rattle.schema_spec.specs.declared.schema.Index.{Index}
use Rattle.tree_spec.specs.Trees.{Member}
use Rattle.tree_spec.specs.Standing.{Sizes, Paged}
use Rattle.database_spec.specs.declared.catalog.Entry.{Entry}
use Rattle.database_spec.specs.declared.catalog.NamedEntry.{NamedEntry}
use Rattle.database_spec.specs.declared.catalog.Catalog.{Catalog}
use Rattle.database_spec.specs.declared.fault.FileFault.TheVariants.{IndexDisagrees}
use Rattle.database_spec.specs.Walks.{Finding, Finds, Ends, Holds, Breaks, Disorders, Bares}
use Rattle.database_spec.specs.WalksLaws.{walk-one}
use Rattle.database_spec.specs.ListsLaws.{beside-one, order-one}
use Rattle.database_spec.specs.Rows.{TableRow}
use Rattle.database_spec.specs.RowsLaws.{record-one, plain-one}
use Rattle.database_spec.specs.KeysLaws.{tied-rowid}
use Rattle.database_spec.specs.CatalogsLaws.{has_catalog-one, catalog_fault-one, catalog-no_fault}
use Rattle.database_spec.specs.FileFindings.{Content, Rows, Entries, Anything, Subject, Walked, Found, InTree, Frees, Tears, Counts, Needs, Compares, own_subject, IsIndexContent, IsIndexSubject, AreSubjectsOf, schema_subject, AreSubjects, IsWalked, freelist_found, pages_needed, tree_found, compared, AreFound}
use Rattle.database_spec.specs.FileFaults.{IsEntry, IsWrongMember, IsWrongInTree, Disagrees, FirstDisagrees, IsWrong, FirstWrong, CheckFinds, FileHasFault}

module _ (sizes : Sizes) (base : Paged) where
  -- the entries of an index are looked at in one way
  content-one : (entry : Entry) (meaning : Result Index SqlFault) → IsOne (IsIndexContent sizes base entry meaning)
  content-one entry meaning Rows b p q = absurd p
  content-one entry meaning (Entries index rows) Rows p q = absurd q
  content-one entry meaning (Entries index rows) (Entries other others) p q =
      let read : Ok index ≡ Ok other = sym p.0 ∙ q.0 in
      let same : index ≡ other = cc in
      let also = (plain-one sizes base entry p.1.0 q.1.0 rows others p.1.1 q.1.1).1 in
      ap₂ Entries same also
  content-one entry meaning (Entries index rows) Anything p q = absurd (q index p.1.0 rows p.0 p.1.1)
  content-one entry meaning Anything Rows p q = absurd q
  content-one entry meaning Anything (Entries index rows) p q = absurd (p index q.1.0 rows q.0 q.1.1)
  content-one entry meaning Anything Anything p q = refl

  index_subject-one : (entry : Entry) (index : ℕ × Result Index SqlFault) → IsOne (IsIndexSubject sizes base entry index)
  index_subject-one entry index a b p q =
      let root : a.root ≡ b.root = p.root ∙ sym q.root in
      let kind : a.kind ≡ b.kind = p.kind ∙ sym q.kind in
      let content = content-one entry index.1 a.content b.content p.content q.content in
      λ i. record { root = root i; kind = kind i; content = content i }

  subjects_of-one : (named : NamedEntry) → IsOne (AreSubjectsOf sizes base named)
  subjects_of-one named a b (indexes, are, e) (others, also, f) =
      e ∙ ap (λ (more : List Subject). own_subject sizes base named.entry ++ more) (beside-one (IsIndexSubject sizes base named.entry) (index_subject-one named.entry) named.entry.indexes indexes others are also) ∙ sym f

  subjects-one : (catalog : Catalog) → IsOne (AreSubjects sizes base catalog)
  subjects-one catalog a b p q =
      let parts = beside-one (AreSubjectsOf sizes base) subjects_of-one catalog.tables p.parts q.parts p.are_parts q.are_parts in
      let all = λ (parts : List (List Subject)). schema_subject sizes base ∷ flat_map (λ part. part) parts in
      let same : all q.parts ≡ all p.parts = sym (ap all parts) in
      order-one (λ (x y : Subject). x.root < y.root) (λ x y less more. omega (arith, less, more)) (all p.parts) a b
      (p.all, p.rise) (subst (λ (list : List Subject). IsPermutation list b) same q.all, q.rise)

  walked-one : (subject : Subject) → IsOne (IsWalked sizes base subject)
  walked-one subject a b p q =
      let same : a.subject ≡ b.subject = p.subject_is ∙ sym q.subject_is in
      let findings = walk-one sizes base subject.kind subject.root a.findings b.findings p.is_walk q.is_walk in
      λ i. record { subject = same i; findings = findings i }

  -- one list of things is found
  pub found-one : (catalog : Catalog) → IsOne (AreFound sizes base catalog)
  found-one catalog a b p q =
      let subjects = subjects-one catalog p.subjects q.subjects p.are_subjects q.are_subjects in
      let also = subst⁻¹ (λ (s : List Subject). AllZip (IsWalked sizes base) s q.walks) subjects q.are_walks in
      let walks = beside-one (IsWalked sizes base) walked-one p.subjects p.walks q.walks p.are_walks also in
      let all = λ (walks : List Walked). flat_map tree_found walks ++ (freelist_found sizes base ++ (map Needs (pages_needed sizes base) ++ flat_map compared walks)) in
      p.found_are ∙ ap all walks ∙ sym q.found_are

entry-one : (index : Index) (member : Member) → IsOne (IsEntry index member)
entry-one index member a b p q = record-one member.payload a b p.is_record q.is_record

wrong_member-one : (before : List Found) (subject : Subject) (content : Content) (page : ℕ) (member : Member) → IsOne (IsWrongMember before subject content page member)
wrong_member-one before subject Rows page member a b p q = p.1 ∙ sym q.1
wrong_member-one before subject (Entries index rows) page member a b (inl p) (inl q) = p.1 ∙ sym q.1
wrong_member-one before subject (Entries index rows) page member a b (inl p) (inr (entry, is, some, e)) = absurd (p.0 entry is)
wrong_member-one before subject (Entries index rows) page member a b (inr (entry, is, some, e)) (inl q) = absurd (q.0 entry is)
wrong_member-one before subject (Entries index rows) page member a b (inr (entry, is, some, e)) (inr (other, also, more, f)) = e ∙ sym f
wrong_member-one before subject Anything page member a b p q = absurd p

wrong_in_tree-one : (before : List Found) (subject : Subject) (finding : Finding) → IsOne (IsWrongInTree before subject finding)
wrong_in_tree-one before subject (Finds page) a b p q = p.1 ∙ sym q.1
wrong_in_tree-one before subject (Ends page depth) a b p q = p.1 ∙ sym q.1
wrong_in_tree-one before subject (Holds page member) a b p q = wrong_member-one before subject subject.content page member a b p q
wrong_in_tree-one before subject (Breaks page rule) a b p q = p ∙ sym q
wrong_in_tree-one before subject (Disorders page) a b p q = p ∙ sym q
wrong_in_tree-one before subject (Bares page) a b p q = p ∙ sym q

first_disagrees-one : (index : Index) (rows : List TableRow) (members : List Member) → IsOne (FirstDisagrees index rows members)
first_disagrees-one index rows members a b p q =
    let decodes = λ (member : Member) (entry : List Value). IsRecord member.payload entry in
    let entries = beside-one decodes (λ member. record-one member.payload) members p.entries q.entries p.decoded q.decoded in
    let here = subst⁻¹ (λ (e : List (List Value)). Disagrees index rows e q.entry) entries q.disagrees in
    let there = subst (λ (e : List (List Value)). Disagrees index rows e p.entry) entries p.disagrees in
    tied-rowid index p.entry q.entry a b (q.first p.entry there) (p.first q.entry here) p.rowid_is q.rowid_is

-- one thing is wrong in one way
pub wrong-one : (before : List Found) (one : Found) → IsOne (IsWrong before one)
wrong-one before (InTree subject finding) a b p q = wrong_in_tree-one before subject finding a b p q
wrong-one before (Frees page) a b p q = p.1 ∙ sym q.1
wrong-one before (Tears page) a b p q = p ∙ sym q
wrong-one before (Counts pages) a b p q = p.1 ∙ sym q.1
wrong-one before (Needs page) a b p q = p.1 ∙ sym q.1
wrong-one before (Compares index rows members) a b (m, p, e) (n, q, f) = e ∙ ap (IndexDisagrees index.name) (first_disagrees-one index rows members m n p q) ∙ sym f

pub first_wrong-one : (before found : List Found) → IsOne (FirstWrong before found)
first_wrong-one before [] a b p q = absurd p
first_wrong-one before (one ∷ found) a b (inl p) (inl q) = wrong-one before one a b p q
first_wrong-one before (one ∷ found) a b (inl p) (inr q) = absurd (q.0 a p)
first_wrong-one before (one ∷ found) a b (inr p) (inl q) = absurd (p.0 b q)
first_wrong-one before (one ∷ found) a b (inr p) (inr q) = first_wrong-one (before ++ one ∷ []) found a b p.1 q.1

-- a check of a file with a catalog finds one first fault
pub check_fault-one : (sizes : Sizes) (base : Paged) (catalog : Catalog) → IsOne (CheckFinds sizes base catalog)
check_fault-one sizes base catalog a b (found, are, p) (other, also, q) =
    let same = found-one sizes base catalog found other are also in
    first_wrong-one [] found a b p (subst⁻¹ (λ (f : List Found). FirstWrong [] f b) same q)

-- a file has one first fault
pub file_fault-one : (sizes : Sizes) (base : Paged) → IsOne (FileHasFault sizes base)
file_fault-one sizes base a b (inl p) (inl q) = catalog_fault-one sizes base a b p q
file_fault-one sizes base a b (inl p) (inr (catalog, has, q)) = absurd (catalog-no_fault sizes base catalog a has p)
file_fault-one sizes base a b (inr (catalog, has, p)) (inl q) = absurd (catalog-no_fault sizes base catalog b has q)
file_fault-one sizes base a b (inr (catalog, has, p)) (inr (other, also, q)) =
    check_fault-one sizes base catalog a b p (subst⁻¹ (λ (c : Catalog). CheckFinds sizes base c b) (has_catalog-one sizes base catalog other has also) q)
