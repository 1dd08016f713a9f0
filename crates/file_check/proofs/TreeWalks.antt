-- The trees of a catalog by their roots stand beside the subjects of a check.
use Rattle.std.proofs.Common.{◌≡◌, ◌≢◌, ℕ, ◌<◌, ◌≤◌, ◌==◌, Bool, true, false, List, [], ◌∷◌, ◌++◌, length, map, if◌then◌else◌, Result, is_ok, refl, sym, ap, ap₂, ◌∙◌, subst, inl, inr, arith}
use Rattle.std.proofs.Math.Path.{subst⁻¹}
use Rattle.std.specs.Prelude.{Contains, IsPermutation}
use Rattle.std.specs.List.Sorted.{IsNonDecreasingBy}
use Rattle.std.specs.List.{flat_map, AllZip, AllByRecursion, IsDistinct}
use Rattle.std.proofs.lemmas.Bool.{eq-eqb}
use Rattle.std.proofs.lemmas.List.{map-append}
use Rattle.std.proofs.lemmas.List.Sorted.{Contains-permutation, IsPermutation-map, IsPermutation-sym}
use Rattle.std.proofs.lemmas.Map.Keys.{IsDistinct-IsPermutation}
use Rattle.schema_spec.specs.declared.schema.SqlFault.{SqlFault}
use Rattle.schema_spec.specs.declared.schema.Table.{Table}
use Rattle.schema_spec.specs.declared.schema.Index.{Index}
use Rattle.tree_spec.specs.Standing.{Sizes, Paged}
use Rattle.database_spec.specs.declared.catalog.Entry.{Entry}
use Rattle.database_spec.specs.declared.catalog.NamedEntry.{NamedEntry}
use Rattle.database_spec.specs.declared.catalog.Catalog.{Catalog}
use Rattle.database_spec.specs.RightRows.{HasCatalog}
use Rattle.database_spec.specs.Walks.{IsWalk}
use Rattle.database_spec.specs.ListsLaws.{PairsByRecursion, pairs-from, sorted-one}
use Rattle.database_spec.specs.ItemsLaws.{Has, has-either, map-has, true-false}
use Rattle.database_spec.specs.FileFindings.{Subject, Walked, Found, own_subject, table_kind, table_content, IsIndexSubject, AreSubjectsOf, schema_subject, IsWalked, AreFound}
use Rattle.database_laws.specs.RightFilesLaws.{if_ok-each}
use Rattle.database_laws.specs.SoundFilesLaws.{pairs-to}
use Rattle.database_laws.specs.SubjectsLaws.{has-permuted, joined-has, index-stands, own-tree, own_tree, read-number, schema-stands, subject-number, subject-one, table-stands}
use Rattle.file_check.specs.declared.roots.CatalogTree.{CatalogTree}
use Rattle.file_check.specs.Trees.{KnownTree, OfSchema, OfTable, OfIndex, root_of, own_trees, entry_trees, catalog_trees, HasRoot, IsSubjectOf, IsTreeWalk, AreTreeWalks, seen}
use Rattle.file_check.proofs.Rising.{same, same-flips, pairs-map, map-pairs, rising-distinct, distinct-rising, rising-many, zip-numbers}

-- a test that tells whether there is one tree
own-has : (t : Bool) (entry : Entry) (tree : KnownTree) → Has tree (if t then [] else (OfTable entry ∷ [])) → (t ≡ false) × (OfTable entry ≡ tree)
own-has true entry tree h = absurd h
own-has false entry tree (inl e) = (refl, e)
own-has false entry tree (inr h) = absurd h

module _ (sizes : Sizes) (base : Paged) where
  -- the subject of a tree has its root
  pub subject-root : (tree : KnownTree) (subject : Subject) → IsSubjectOf sizes base tree subject → root_of tree ≡ subject.root
  subject-root OfSchema subject is = sym (ap (λ (s : Subject). s.root) is)
  subject-root (OfTable entry) subject is = sym is.0
  subject-root (OfIndex entry index) subject is = sym is.0.root

  -- the roots, table by table

  own-roots : (t : Bool) (entry : Entry) (own : Subject) → entry.root ≡ own.root → map root_of (if t then [] else (OfTable entry ∷ [])) ≡ map (λ (s : Subject). s.root) (if t then [] else (own ∷ []))
  own-roots true entry own e = refl
  own-roots false entry own e = ap (λ (n : ℕ). n ∷ []) e

  index-roots : (entry : Entry) (indexes : List (ℕ × Result Index SqlFault)) (subjects : List Subject) → AllZip (IsIndexSubject sizes base entry) indexes subjects
      → map root_of (map (OfIndex entry) indexes) ≡ map (λ (s : Subject). s.root) subjects
  index-roots entry [] [] zip = refl
  index-roots entry [] (s ∷ subjects) zip = absurd zip
  index-roots entry (i ∷ indexes) [] zip = absurd zip
  index-roots entry (i ∷ indexes) (s ∷ subjects) zip = ap₂ (λ (n : ℕ) (ns : List ℕ). n ∷ ns) (sym zip.0.root) (index-roots entry indexes subjects zip.1)

  entry-roots : (named : NamedEntry) (part : List Subject) → AreSubjectsOf sizes base named part → map root_of (entry_trees named.entry) ≡ map (λ (s : Subject). s.root) part
  entry-roots named part are =
      let entry = named.entry in
      let own : Subject = record { root = entry.root; kind = table_kind (is_ok entry.meaning) (base.pages entry.root) entry.root; content = table_content (is_ok entry.meaning) } in
      map-append root_of (own_trees entry) (map (OfIndex entry) entry.indexes)
      ∙ ap₂ (λ (ns ms : List ℕ). ns ++ ms) (own-roots (entry.root == 0) entry own refl) (index-roots entry entry.indexes are.0 are.1)
      ∙ sym (ap (map (λ (s : Subject). s.root)) are.2 ∙ map-append (λ (s : Subject). s.root) (own_subject sizes base entry) are.0)

  tables-roots : (tables : List NamedEntry) (parts : List (List Subject)) → AllZip (AreSubjectsOf sizes base) tables parts
      → map root_of (flat_map (λ (n : NamedEntry). entry_trees n.entry) tables) ≡ map (λ (s : Subject). s.root) (flat_map (λ (p : List Subject). p) parts)
  tables-roots [] [] zip = refl
  tables-roots [] (p ∷ parts) zip = absurd zip
  tables-roots (n ∷ tables) [] zip = absurd zip
  tables-roots (n ∷ tables) (p ∷ parts) zip =
      map-append root_of (entry_trees n.entry) (flat_map (λ (n : NamedEntry). entry_trees n.entry) tables)
      ∙ ap₂ (λ (ns ms : List ℕ). ns ++ ms) (entry-roots n p zip.0) (tables-roots tables parts zip.1)
      ∙ sym (map-append (λ (s : Subject). s.root) p (flat_map (λ (p : List Subject). p) parts))

  module _ (catalog : Catalog) (found : List Found) (some : 1 ≤ base.count) (has : HasCatalog sizes base catalog) (are : AreFound sizes base catalog found) where
    abbrev roots : List Subject → List ℕ
    roots subjects = map (λ (s : Subject). s.root) subjects

    abbrev all : List Subject
    all = schema_subject sizes base ∷ flat_map (λ (part : List Subject). part) are.are_subjects.parts

    roots-same : map root_of (catalog_trees catalog) ≡ roots all
    roots-same = ap (λ (ns : List ℕ). 1 ∷ ns) (tables-roots catalog.tables are.are_subjects.parts are.are_subjects.are_parts)

    -- each subject's root is a page
    pub root-within : (subject : Subject) → Has subject are.subjects → (1 ≤ subject.root) × (subject.root ≤ base.count)
    root-within subject h =
        elim (subject-number sizes base catalog are.subjects has are.are_subjects subject h) [
          | inl e ↦ subst⁻¹ (λ (s : Subject). (1 ≤ s.root) × (s.root ≤ base.count)) e (omega arith, some)
          | inr number ↦ (omega (arith, number.behind_first), number.within)
        ]

    entry-root : (named : NamedEntry) → Has named catalog.tables → HasRoot base named.entry
    entry-root named h =
        if_ok-each named.entry.meaning (λ table. (1 ≤ named.entry.root) × (named.entry.root ≤ base.count))
        (λ (table : Table) e. let number = read-number sizes base catalog are.subjects has are.are_subjects named table h e in (omega (arith, number.behind_first), number.within))

    abbrev Stands : KnownTree → Type 0
    Stands tree = (subject : Subject) × Has subject are.subjects × IsSubjectOf sizes base tree subject

    -- each tree has a subject
    table-subject : (named : NamedEntry) (tree : KnownTree) → Has named catalog.tables → Has tree (entry_trees named.entry) → Stands tree
    table-subject named tree h own =
        let entry = named.entry in
        elim (has-either (own_trees entry) (map (OfIndex entry) entry.indexes) tree own) [
          | inl table ↦
              let is = own-has (entry.root == 0) entry tree table in
              let apart : entry.root ≢ 0 = λ none. true-false (entry.root == 0) (eq-eqb entry.root 0 none) is.0 in
              let subject = own_tree sizes base catalog are.subjects has are.are_subjects entry in
              let stands = table-stands sizes base catalog are.subjects has are.are_subjects named subject h
              (subst⁻¹ (λ (list : List Subject). Has subject list) (own-tree sizes base catalog are.subjects has are.are_subjects entry apart) (inl refl)) in
              subst Stands is.1 (subject, stands, (refl, refl, refl))
          | inr index ↦
              let from = map-has (OfIndex entry) entry.indexes tree index in
              let own = index-stands sizes base catalog are.subjects has are.are_subjects named from.0 h from.1 in
              subst Stands from.2 (own.0, own.1, (own.2, entry-root named h))
        ]

    pub tree-subject : (tree : KnownTree) → Has tree (catalog_trees catalog) → Stands tree
    tree-subject tree (inl e) = subst Stands e (schema_subject sizes base, schema-stands sizes base catalog are.subjects has are.are_subjects, refl)
    tree-subject tree (inr later) = let named = joined-has (λ (n : NamedEntry). entry_trees n.entry) catalog.tables tree later in table-subject named.0 tree named.1 named.2

    -- the roots of subjects rise
    subjects-rise : PairsByRecursion (λ (a b : ℕ). a < b) (roots are.subjects)
    subjects-rise =
        pairs-map (λ (a b : ℕ). a < b) (λ (s : Subject). s.root) are.subjects (pairs-to (λ (a b : Subject). a.root < b.root) are.subjects are.are_subjects.rise)

    subjects-permute : IsPermutation (roots all) (roots are.subjects)
    subjects-permute = IsPermutation-map (λ (s : Subject). s.root) all are.subjects are.are_subjects.all

    -- trees by roots that do not fall
    module _ (trees : List KnownTree) (permute : IsPermutation (catalog_trees catalog) trees) (order : PairsByRecursion (λ (a b : ℕ). a ≤ b) (map root_of trees)) where
      trees-permute : IsPermutation (map root_of (catalog_trees catalog)) (map root_of trees)
      trees-permute = IsPermutation-map root_of (catalog_trees catalog) trees permute

      trees-rise : PairsByRecursion (λ (a b : ℕ). a < b) (map root_of trees)
      trees-rise =
          let distinct = IsDistinct-IsPermutation same same-flips (roots are.subjects) (roots all) (IsPermutation-sym (roots all) (roots are.subjects) subjects-permute) (rising-distinct (roots are.subjects) subjects-rise) in
          distinct-rising (map root_of trees) order
          (IsDistinct-IsPermutation same same-flips (map root_of (catalog_trees catalog)) (map root_of trees) trees-permute (subst⁻¹ (λ (ns : List ℕ). IsDistinct same ns) roots-same distinct))

      one-order : map root_of trees ≡ roots are.subjects
      one-order =
          sorted-one (λ (x y : ℕ). x < y) (λ x y less more. omega (arith, less, more)) (map root_of trees) (roots are.subjects)
          (pairs-from (λ (a b : ℕ). a < b) (map root_of trees) trees-rise) (pairs-from (λ (a b : ℕ). a < b) (roots are.subjects) subjects-rise)
          (λ n c.
          Contains-permutation (roots all) (roots are.subjects) n subjects-permute (subst (λ (ns : List ℕ). Contains ns n) roots-same
          (Contains-permutation (map root_of trees) (map root_of (catalog_trees catalog)) n (IsPermutation-sym (map root_of (catalog_trees catalog)) (map root_of trees) trees-permute) c)))
          (λ n c.
          Contains-permutation (map root_of (catalog_trees catalog)) (map root_of trees) n trees-permute (subst⁻¹ (λ (ns : List ℕ). Contains ns n) roots-same
          (Contains-permutation (roots are.subjects) (roots all) n (IsPermutation-sym (roots all) (roots are.subjects) subjects-permute) c)))

      abbrev IsOf : KnownTree → Subject → Type 0
      IsOf tree subject = IsSubjectOf sizes base tree subject × (1 ≤ subject.root) × (subject.root ≤ base.count)

      beside : AllZip IsOf trees are.subjects
      beside =
          zip-numbers root_of (λ (s : Subject). s.root) IsOf trees are.subjects one-order
          (λ tree subject p q e.
          let own = tree-subject tree (has-permuted trees (catalog_trees catalog) tree (IsPermutation-sym (catalog_trees catalog) trees permute) p) in
          let one = subject-one sizes base catalog are.subjects has are.are_subjects own.0 subject own.1 q (sym (subject-root tree own.0 own.2) ∙ e) in
          let within = root-within subject q in
          (subst (IsSubjectOf sizes base tree) one own.2, within.0, within.1))

      walks-beside : (ts : List KnownTree) (ss : List Subject) (ws : List Walked) → AllZip IsOf ts ss → AllZip (IsWalked sizes base) ss ws → AllZip (IsTreeWalk sizes base) ts ws
      walks-beside [] [] [] one two = tt
      walks-beside [] [] (w ∷ ws) one two = absurd two
      walks-beside [] (s ∷ ss) ws one two = absurd one
      walks-beside (t ∷ ts) [] ws one two = absurd one
      walks-beside (t ∷ ts) (s ∷ ss) [] one two = absurd two
      walks-beside (t ∷ ts) (s ∷ ss) (w ∷ ws) one two =
          let is : IsOf t w.subject = subst⁻¹ (IsOf t) two.0.subject_is one.0 in
          let walk = subst⁻¹ (λ (x : Subject). IsWalk sizes base x.kind x.root w.findings) two.0.subject_is two.0.is_walk in
          (record { subject = is.0; first = is.1; within = is.2; is_walk = walk }, walks-beside ts ss ws one.1 two.1)

      walks-rise : (ss : List Subject) (ws : List Walked) → AllZip (IsWalked sizes base) ss ws → map (λ (w : Walked). w.subject.root) ws ≡ roots ss
      walks-rise [] [] zip = refl
      walks-rise [] (w ∷ ws) zip = absurd zip
      walks-rise (s ∷ ss) [] zip = absurd zip
      walks-rise (s ∷ ss) (w ∷ ws) zip = ap₂ (λ (n : ℕ) (ns : List ℕ). n ∷ ns) (ap (λ (x : Subject). x.root) zip.0.subject_is) (walks-rise ss ws zip.1)

      -- what is found in the file is what walks over these trees find
      pub tree-walks : AreTreeWalks sizes base trees are.walks
      tree-walks = record {
        walks_are = walks-beside trees are.subjects are.walks beside are.are_walks;
        rise = map-pairs (λ (a b : ℕ). a < b) (λ (w : Walked). w.subject.root) are.walks (subst⁻¹ (PairsByRecursion (λ (a b : ℕ). a < b)) (walks-rise are.subjects are.walks are.are_walks) subjects-rise);
      }

    -- how many trees there are
    pub few-roots : length (roots are.subjects) ≤ base.count
    few-roots = rising-many base.count (roots are.subjects) subjects-rise (each are.subjects root-within)
      where
        each : (ss : List Subject) → ((s : Subject) → Has s ss → (1 ≤ s.root) × (s.root ≤ base.count)) → AllByRecursion (λ n. (1 ≤ n) × (n ≤ base.count)) (roots ss)
        each [] within = tt
        each (s ∷ ss) within = (within s (inl refl), each ss (λ x h. within x (inr h)))

-- trees that are lent by roots that do not fall
pub lent-order : (trees : List CatalogTree) → IsNonDecreasingBy (λ (tree : CatalogTree). root_of (seen tree)) trees → PairsByRecursion (λ (a b : ℕ). a ≤ b) (map root_of (map seen trees))
lent-order trees sorted =
    pairs-map (λ (a b : ℕ). a ≤ b) root_of (map seen trees)
    (pairs-map (λ (a b : KnownTree). root_of a ≤ root_of b) seen trees
    (pairs-to (λ (a b : CatalogTree). root_of (seen a) ≤ root_of (seen b)) trees (λ i j d less long. sorted i j d (omega (arith, less)) long)))
