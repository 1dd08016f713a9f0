-- The trees that a check goes through are those of the catalog: crates above cite these facts in their proofs.
use Rattle.std.proofs.Common.{◌≡◌, ◌≢◌, ℕ, ◌<◌, ◌==◌, ◌&&◌, ◌⊎◌, not, Bool, true, false, List, [], ◌∷◌, ◌++◌, length, map, filter, if◌then◌else◌, Option, Some, None, Result, Ok, is_ok, refl, sym, ap, ap₂, ◌∙◌, subst, inl, inr, arith}
use Rattle.std.proofs.Math.Path.{subst⁻¹}
use Rattle.std.specs.Prelude.{AllPairs, IsPermutation}
use Rattle.std.specs.List.{flat_map, AllZip}
use Rattle.std.specs.Str.{str_to_ascii_lowercase}
use Rattle.std.proofs.lemmas.Bool.{cases_eq, eq-eqb, ne_eqb, and_parts}
use Rattle.std.proofs.lemmas.List.{length-map, get_or-map}
use Rattle.std.proofs.lemmas.List.Sorted.{Contains-permutation, IsPermutation-sym}
use Rattle.std.proofs.lemmas.Slice.Eq.{bytes_eq-Decides}
use Rattle.schema_spec.specs.declared.schema.SqlFault.{SqlFault}
use Rattle.schema_spec.specs.declared.schema.Table.{Table}
use Rattle.schema_spec.specs.declared.schema.Index.{Index}
use Rattle.schema_spec.specs.Words.{same_name}
use Rattle.tree_spec.specs.Standing.{Sizes, Paged, IsNumber}
use Rattle.database_spec.specs.declared.catalog.SchemaKind.{SchemaKind}
use Rattle.database_spec.specs.declared.catalog.SchemaKind.TheVariants as kind
use Rattle.database_spec.specs.declared.catalog.Entry.{Entry}
use Rattle.database_spec.specs.declared.catalog.NamedEntry.{NamedEntry}
use Rattle.database_spec.specs.declared.catalog.Catalog.{Catalog}
use Rattle.database_spec.specs.declared.catalog.SchemaRow.{SchemaRow}
use Rattle.database_spec.specs.Catalogs.{is_table, is_index, IsTableMeaning, index_rows, IsIndexEntry, IsEntry, roots_named, format_of}
use Rattle.database_spec.specs.CatalogsLaws.{table_meaning-one}
use Rattle.database_spec.specs.RightRows.{is_virtual, table_named, rows_of, IsRightTable, IsRightIndex, IsRight, AreFaultless, HasCatalog}
use Rattle.database_spec.specs.ListsLaws.{sorted-one}
use Rattle.database_spec.specs.ItemsLaws.{Has, has-from, has-to, has-left, has-right, has-either, has-map, map-has, has-filter, filter-has, decide, true-false}
use Rattle.database_spec.specs.FileFindings.{Subject, table_kind, table_content, own_subject, IsIndexSubject, AreSubjectsOf, schema_subject, AreSubjects}
use Rattle.database_laws.specs.RightFindingsLaws.{pairs-two}

-- Lists.

pub zip-has : {A B : Type 0} (R : A → B → Type 0) (xs : List A) (ys : List B) (y : B) → AllZip R xs ys → Has y ys → (x : A) × Has x xs × R x y
zip-has R [] [] y all h = absurd h
zip-has R [] (z ∷ ys) y all h = absurd all
zip-has R (x ∷ xs) [] y all h = absurd h
zip-has R (x ∷ xs) (z ∷ ys) y all (inl e) = (x, inl refl, subst (R x) e all.0)
zip-has R (x ∷ xs) (z ∷ ys) y all (inr h) = let rest = zip-has R xs ys y all.1 h in (rest.0, inr rest.1, rest.2)

pub has-zip : {A B : Type 0} (R : A → B → Type 0) (xs : List A) (ys : List B) (x : A) → AllZip R xs ys → Has x xs → (y : B) × Has y ys × R x y
has-zip R [] ys x all h = absurd h
has-zip R (z ∷ xs) [] x all h = absurd all
has-zip R (z ∷ xs) (y ∷ ys) x all (inl e) = (y, inl refl, subst (λ a. R a y) e all.0)
has-zip R (z ∷ xs) (y ∷ ys) x all (inr h) = let rest = has-zip R xs ys x all.1 h in (rest.0, inr rest.1, rest.2)

pub joined-has : {A B : Type 0} (f : A → List B) (xs : List A) (y : B) → Has y (flat_map f xs) → (x : A) × Has x xs × Has y (f x)
joined-has f [] y h = absurd h
joined-has f (x ∷ xs) y h =
    elim (has-either (f x) (flat_map f xs) y h) [
      | inl here ↦ (x, inl refl, here)
      | inr later ↦ let rest = joined-has f xs y later in (rest.0, inr rest.1, rest.2)
    ]

pub has-joined : {A B : Type 0} (f : A → List B) (xs : List A) (x : A) (y : B) → Has x xs → Has y (f x) → Has y (flat_map f xs)
has-joined f [] x y h own = absurd h
has-joined f (z ∷ xs) x y (inl e) own = has-left (f z) (flat_map f xs) y (subst⁻¹ (λ a. Has y (f a)) e own)
has-joined f (z ∷ xs) x y (inr h) own = has-right (f z) (flat_map f xs) y (has-joined f xs x y h own)

pub has-permuted : {A : Type 0} (xs ys : List A) (x : A) → IsPermutation xs ys → Has x xs → Has x ys
has-permuted xs ys x is h = has-from ys x (Contains-permutation xs ys x is (has-to xs x h))

-- a list in order of a number that each item has, in order of the numbers
rising-map : {A : Type 0} (f : A → ℕ) (d : A) (xs : List A) → AllPairs (λ (a b : A). f a < f b) xs → AllPairs (λ (a b : ℕ). a < b) (map f xs)
rising-map f d xs all i j e less long =
    let many : length (map f xs) ≡ length xs = length-map xs f in
    let high : j < length xs = omega (arith, long, many) in
    let one = get_or-map f xs i d e (omega (arith, less, high)) in
    let two = get_or-map f xs j d e high in
    omega (arith, one, two, all i j d less high)

lower-same : (a b : List ℕ) → same_name a b ≡ true → str_to_ascii_lowercase a ≡ str_to_ascii_lowercase b
lower-same a b e = (bytes_eq-Decides (str_to_ascii_lowercase a) (str_to_ascii_lowercase b)).0 e

same-lower : (a b : List ℕ) → str_to_ascii_lowercase a ≡ str_to_ascii_lowercase b → same_name a b ≡ true
same-lower a b e = (bytes_eq-Decides (str_to_ascii_lowercase a) (str_to_ascii_lowercase b)).1 e

-- names that are one without ASCII case
pub name-flip : (a b : List ℕ) → same_name a b ≡ true → same_name b a ≡ true
name-flip a b e = same-lower b a (sym (lower-same a b e))

pub name-join : (a b c : List ℕ) → same_name a b ≡ true → same_name c b ≡ true → same_name a c ≡ true
name-join a b c p q = same-lower a c (lower-same a b p ∙ sym (lower-same c b q))

-- the table that a name means stands among the rows
named-table : (name : List ℕ) (rows : List SchemaRow) (row : SchemaRow) → table_named name rows ≡ Some row → Has row rows × (is_table row ≡ true) × (same_name row.name name ≡ true)
named-table name [] row e = absurd (let h : ⊥ = cc in h)
named-table name (other ∷ rows) row e =
    let as_test = λ (t : Bool). if t then Some other else table_named name rows in
    elim (decide (is_table other && same_name other.name name)) [
      | inl here ↦
          let both = and_parts (is_table other) (same_name other.name name) here in
          let same : Some other ≡ Some row = sym (ap as_test here) ∙ e in
          let one : other ≡ row = cc in
          (inl one, subst (λ (r : SchemaRow). is_table r ≡ true) one both.0, subst (λ (r : SchemaRow). same_name r.name name ≡ true) one both.1)
      | inr later ↦ let rest = named-table name rows row (sym (ap as_test later) ∙ e) in (inr rest.0, rest.1, rest.2)
    ]

module _ (sizes : Sizes) (base : Paged) where
  -- Rows without a fault.

  module _ (rows : List SchemaRow) where
    pub right-row : (before : List SchemaRow) (found : List (Option SchemaRow)) (row : SchemaRow) → AreFaultless sizes base rows before found → Has row (rows_of found)
        → (earlier : List SchemaRow) × IsRight sizes base rows earlier row
    right-row before [] row all h = absurd h
    right-row before (None ∷ found) row all h = absurd all.0.0
    right-row before (Some other ∷ found) row all (inl e) = (before, subst (IsRight sizes base rows before) e all.0.0)
    right-row before (Some other ∷ found) row all (inr h) = right-row (before ++ other ∷ []) found row all.1 h

    -- the root of a right row is none, or a number that a link may name
    pub row-root : (before : List SchemaRow) (row : SchemaRow) → IsRight sizes base rows before row → (row.root ≡ 0) ⊎ IsNumber sizes base row.root
    row-root before row = by row.kind
      where
        table : IsRightTable sizes base rows before row → (row.root ≡ 0) ⊎ IsNumber sizes base row.root
        table is = elim (decide (is_virtual is.meaning)) [ inl virtual ↦ inl (is.virtual_root virtual) | inr real ↦ inr (is.root real).0 ]

        by : (k : SchemaKind) → (elim k as (λ _. Type 0) [ kind.Table ↦ IsRightTable sizes base rows before row | kind.Index ↦ IsRightIndex sizes base rows before row | kind.View ↦ row.root ≡ 0 | kind.Trigger ↦ row.root ≡ 0 ])
            → (row.root ≡ 0) ⊎ IsNumber sizes base row.root
        by kind.Table is = table is
        by kind.Index is = inr is.root.0
        by kind.View is = inl is
        by kind.Trigger is = inl is

    pub index-row : (before : List SchemaRow) (row : SchemaRow) → is_index row ≡ true → IsRight sizes base rows before row → IsRightIndex sizes base rows before row
    index-row before row = by row.kind
      where
        by : (k : SchemaKind) → (elim k as (λ _. Bool) [ kind.Index ↦ true | kind.Table ↦ false | kind.View ↦ false | kind.Trigger ↦ false ]) ≡ true
            → (elim k as (λ _. Type 0) [ kind.Table ↦ IsRightTable sizes base rows before row | kind.Index ↦ IsRightIndex sizes base rows before row | kind.View ↦ row.root ≡ 0 | kind.Trigger ↦ row.root ≡ 0 ])
            → IsRightIndex sizes base rows before row
        by kind.Table e is = absurd (let h : ◌≡◌ {A = Bool} false true = e in let no : ⊥ = cc in no)
        by kind.Index e is = is
        by kind.View e is = absurd (let h : ◌≡◌ {A = Bool} false true = e in let no : ⊥ = cc in no)
        by kind.Trigger e is = absurd (let h : ◌≡◌ {A = Bool} false true = e in let no : ⊥ = cc in no)

    -- a row with a root is that of a table or of an index
    rooted-row : (before : List SchemaRow) (row : SchemaRow) → row.root ≢ 0 → IsRight sizes base rows before row → (is_table row ≡ true) ⊎ (is_index row ≡ true)
    rooted-row before row some = by row.kind
      where
        by : (k : SchemaKind) → (elim k as (λ _. Type 0) [ kind.Table ↦ IsRightTable sizes base rows before row | kind.Index ↦ IsRightIndex sizes base rows before row | kind.View ↦ row.root ≡ 0 | kind.Trigger ↦ row.root ≡ 0 ])
            → ((elim k as (λ _. Bool) [ kind.Table ↦ true | kind.View ↦ true | kind.Index ↦ false | kind.Trigger ↦ false ]) ≡ true)
            ⊎ ((elim k as (λ _. Bool) [ kind.Index ↦ true | kind.Table ↦ false | kind.View ↦ false | kind.Trigger ↦ false ]) ≡ true)
        by kind.Table is = inl refl
        by kind.Index is = inr refl
        by kind.View is = inl refl
        by kind.Trigger is = absurd (some is)

    -- a table whose text is read has a root
    read-root : (before : List SchemaRow) (row : SchemaRow) (table : Table) → IsTableMeaning row.kind row.sql (Ok table) → IsRight sizes base rows before row → IsNumber sizes base row.root
    read-root before row table = by row.kind
      where
        by : (k : SchemaKind) → IsTableMeaning k row.sql (Ok table)
            → (elim k as (λ _. Type 0) [ kind.Table ↦ IsRightTable sizes base rows before row | kind.Index ↦ IsRightIndex sizes base rows before row | kind.View ↦ row.root ≡ 0 | kind.Trigger ↦ row.root ≡ 0 ])
            → IsNumber sizes base row.root
        by kind.Table means is =
            let same = table_meaning-one kind.Table row.sql is.meaning (Ok table) is.means means in
            (is.root (ap is_virtual same)).0
        by kind.View means is = absurd (let h : ⊥ = cc in h)
        by kind.Index means is = absurd means
        by kind.Trigger means is = absurd means

  module _ (catalog : Catalog) (subjects : List Subject) (has : HasCatalog sizes base catalog) (are : AreSubjects sizes base catalog subjects) where
    abbrev rows : List SchemaRow
    rows = rows_of has.found

    abbrev schema : Subject
    schema = schema_subject sizes base

    -- where a tree comes from: the schema's, a table's own, or an index's
    pub record OfTable (subject : Subject) : Type 0 where
      pub named : NamedEntry
      pub stands : Has named catalog.tables
      pub own : Has subject (own_subject sizes base named.entry)

    pub record OfIndex (subject : Subject) : Type 0 where
      pub named : NamedEntry
      pub stands : Has named catalog.tables
      pub index : ℕ × Result Index SqlFault
      pub among : Has index named.entry.indexes
      pub is : IsIndexSubject sizes base named.entry index subject

    pub origin-of : (subject : Subject) → Has subject subjects → (subject ≡ schema) ⊎ (OfTable subject ⊎ OfIndex subject)
    origin-of subject h =
        let all = schema ∷ flat_map (λ (part : List Subject). part) are.parts in
        elim (has-permuted subjects all subject (IsPermutation-sym all subjects are.all) h) [
          | inl e ↦ inl (sym e)
          | inr later ↦
              let part = joined-has (λ (part : List Subject). part) are.parts subject later in
              let of = zip-has (AreSubjectsOf sizes base) catalog.tables are.parts part.0 are.are_parts part.1 in
              let made = of.2 in
              elim (has-either (own_subject sizes base of.0.entry) made.0 subject (subst (λ (p : List Subject). Has subject p) made.2 part.2)) [
                | inl own ↦ inr (inl (record { named = of.0; stands = of.1; own = own }))
                | inr index ↦
                    let from = zip-has (IsIndexSubject sizes base of.0.entry) of.0.entry.indexes made.0 subject made.1 index in
                    inr (inr (record { named = of.0; stands = of.1; index = from.0; among = from.1; is = from.2 }))
              ]
        ]

    pub schema-stands : Has schema subjects
    schema-stands = has-permuted (schema ∷ flat_map (λ (part : List Subject). part) are.parts) subjects schema are.all (inl refl)

    part-stands : (part : List Subject) (subject : Subject) → Has part are.parts → Has subject part → Has subject subjects
    part-stands part subject h own =
        has-permuted (schema ∷ flat_map (λ (p : List Subject). p) are.parts) subjects subject are.all (inr (has-joined (λ (p : List Subject). p) are.parts part subject h own))

    pub table-stands : (named : NamedEntry) (subject : Subject) → Has named catalog.tables → Has subject (own_subject sizes base named.entry) → Has subject subjects
    table-stands named subject h own =
        let of = has-zip (AreSubjectsOf sizes base) catalog.tables are.parts named are.are_parts h in
        let made = of.2 in
        part-stands of.0 subject of.1 (subst⁻¹ (λ (p : List Subject). Has subject p) made.2 (has-left (own_subject sizes base named.entry) made.0 subject own))

    pub index-stands : (named : NamedEntry) (index : ℕ × Result Index SqlFault) → Has named catalog.tables → Has index named.entry.indexes
        → (subject : Subject) × Has subject subjects × IsIndexSubject sizes base named.entry index subject
    index-stands named index h among =
        let of = has-zip (AreSubjectsOf sizes base) catalog.tables are.parts named are.are_parts h in
        let made = of.2 in
        let own = has-zip (IsIndexSubject sizes base named.entry) named.entry.indexes made.0 index made.1 among in
        (own.0, part-stands of.0 own.0 of.1 (subst⁻¹ (λ (p : List Subject). Has own.0 p) made.2 (has-right (own_subject sizes base named.entry) made.0 own.0 own.1)), own.2)

    -- a tree is known by its root
    pub subject-one : (a b : Subject) → Has a subjects → Has b subjects → a.root ≡ b.root → a ≡ b
    subject-one a b p q same =
        elim (pairs-two (λ (x y : Subject). x.root < y.root) subjects a b are.rise (has-to subjects a p) (has-to subjects b q)) [
          | inl less ↦ absurd (omega (arith, less, same))
          | inr rest ↦ elim rest [ inl more ↦ absurd (omega (arith, more, same)) | inr e ↦ e ]
        ]

    -- a table that has a root has a tree
    abbrev pub own_tree : Entry → Subject
    own_tree entry = record { root = entry.root; kind = table_kind (is_ok entry.meaning) (base.pages entry.root) entry.root; content = table_content (is_ok entry.meaning) }

    pub own-tree : (entry : Entry) → entry.root ≢ 0 → own_subject sizes base entry ≡ own_tree entry ∷ []
    own-tree entry some = ap (λ (t : Bool). if t then [] else (own_tree entry ∷ [])) (ne_eqb entry.root 0 some)

    pub tree-own : (entry : Entry) (subject : Subject) → Has subject (own_subject sizes base entry) → (entry.root ≢ 0) × (subject ≡ own_tree entry)
    tree-own entry subject h =
        elim (cases_eq entry.root 0) [
          | inl none ↦ absurd (subst (λ (list : List Subject). Has subject list) (ap (λ (t : Bool). if t then [] else (own_tree entry ∷ [])) (eq-eqb entry.root 0 none)) h)
          | inr some ↦ (some, elim (subst (λ (list : List Subject). Has subject list) (own-tree entry some) h) [ inl e ↦ sym e | inr none ↦ absurd none ])
        ]

    table-row : (named : NamedEntry) → Has named catalog.tables → (row : SchemaRow) × Has row rows × IsEntry (format_of base) rows row named
    table-row named h =
        let of = zip-has (IsEntry (format_of base) rows) (filter is_table rows) catalog.tables named has.is_catalog.tables h in
        (of.0, (filter-has is_table rows of.0 of.1).0, of.2)

    -- the root of a table whose text is read
    pub read-number : (named : NamedEntry) (table : Table) → Has named catalog.tables → named.entry.meaning ≡ Ok table → IsNumber sizes base named.entry.root
    read-number named table h e =
        let of = table-row named h in
        let right = right-row rows [] has.found of.0 has.faultless of.1 in
        subst⁻¹ (IsNumber sizes base) of.2.root
        (read-root rows right.0 of.0 table (subst (λ (m : Result Table SqlFault). IsTableMeaning of.0.kind of.0.sql m) e of.2.meaning) right.1)

    index-from : (named : NamedEntry) (index : ℕ × Result Index SqlFault) → Has named catalog.tables → Has index named.entry.indexes → (row : SchemaRow) × Has row rows × (is_index row ≡ true) × (index.0 ≡ row.root)
    index-from named index h among =
        let of = table-row named h in
        let from = zip-has (IsIndexEntry (format_of base) named.entry.meaning) (index_rows of.0.name rows) named.entry.indexes index of.2.indexes among in
        let kept = filter-has (λ (r : SchemaRow). is_index r && same_name r.table of.0.name) rows from.0 from.1 in
        (from.0, kept.0, (and_parts (is_index from.0) (same_name from.0.table of.0.name) kept.1).0, from.2.0)

    -- each root is a page that a root may have, and that of the schema alone is page 1
    pub subject-number : (subject : Subject) → Has subject subjects → (subject ≡ schema) ⊎ IsNumber sizes base subject.root
    subject-number subject h =
        elim (origin-of subject h) [
          | inl e ↦ inl e
          | inr rest ↦ elim rest [
            | inl own ↦
                let tree = tree-own own.named.entry subject own.own in
                let of = table-row own.named own.stands in
                let right = right-row rows [] has.found of.0 has.faultless of.1 in
                let root : subject.root ≡ of.0.root = ap (λ (s : Subject). s.root) tree.1 ∙ of.2.root in
                elim (row-root rows right.0 of.0 right.1) [
                  | inl none ↦ absurd (tree.0 (of.2.root ∙ none))
                  | inr number ↦ inr (subst⁻¹ (IsNumber sizes base) root number)
                ]
            | inr index ↦
                let from = index-from index.named index.index index.stands index.among in
                let right = right-row rows [] has.found from.0 has.faultless from.1 in
                inr (subst⁻¹ (IsNumber sizes base) (index.is.root ∙ from.3) (index-row rows right.0 from.0 from.2 right.1).root.0)
          ]
        ]

    abbrev Root : ℕ → Type 0
    Root n = Has n (map (λ (s : Subject). s.root) subjects)

    root-stands : (subject : Subject) (n : ℕ) → Has subject subjects → subject.root ≡ n → Root n
    root-stands subject n h e = subst Root e (has-map (λ (s : Subject). s.root) subjects subject h)

    row-stands : (row : SchemaRow) → Has row rows → row.root ≢ 0 → Root row.root
    row-stands row h some =
        let right = right-row rows [] has.found row has.faultless h in
        elim (rooted-row rows right.0 row some right.1) [
          | inl table ↦
              let of = has-zip (IsEntry (format_of base) rows) (filter is_table rows) catalog.tables row has.is_catalog.tables (has-filter is_table rows row h table) in
              let entry = of.0.entry in
              let own = subst⁻¹ (λ (list : List Subject). Has (own_tree entry) list) (own-tree entry (λ none. some (sym of.2.root ∙ none))) (inl refl) in
              root-stands (own_tree entry) row.root (table-stands of.0 (own_tree entry) of.1 own) of.2.root
          | inr index ↦
              let is = index-row rows right.0 row index right.1 in
              let table = named-table row.table rows is.table is.stands in
              let of = has-zip (IsEntry (format_of base) rows) (filter is_table rows) catalog.tables is.table has.is_catalog.tables (has-filter is_table rows is.table table.0 table.1) in
              let test : (is_index row && same_name row.table is.table.name) ≡ true = ap₂ (λ (a b : Bool). a && b) index (name-flip is.table.name row.table table.2) in
              let from = has-zip (IsIndexEntry (format_of base) of.0.entry.meaning) (index_rows is.table.name rows) of.0.entry.indexes row of.2.indexes
              (has-filter (λ (r : SchemaRow). is_index r && same_name r.table is.table.name) rows row h test) in
              let own = index-stands of.0 from.0 of.1 from.1 in
              root-stands own.0 row.root own.1 (own.2.root ∙ from.2.0)
        ]

    root-named : (row : SchemaRow) → Has row rows → row.root ≢ 0 → Has row.root (roots_named (format_of base) rows)
    root-named row h some =
        has-filter (λ (root : ℕ). not (root == 0)) (map (λ (r : SchemaRow). r.root) rows) row.root (has-map (λ (r : SchemaRow). r.root) rows row h) (ap not (ne_eqb row.root 0 some))

    subject-named : (subject : Subject) → Has subject subjects → Has subject.root (1 ∷ roots_named (format_of base) rows)
    subject-named subject h =
        elim (origin-of subject h) [
          | inl e ↦ inl (sym (ap (λ (s : Subject). s.root) e))
          | inr rest ↦ elim rest [
            | inl own ↦
                let tree = tree-own own.named.entry subject own.own in
                let of = table-row own.named own.stands in
                let root : subject.root ≡ of.0.root = ap (λ (s : Subject). s.root) tree.1 ∙ of.2.root in
                inr (subst⁻¹ (λ (n : ℕ). Has n (roots_named (format_of base) rows)) root (root-named of.0 of.1 (λ none. tree.0 (of.2.root ∙ none))))
            | inr index ↦
                let from = index-from index.named index.index index.stands index.among in
                let right = right-row rows [] has.found from.0 has.faultless from.1 in
                let number = (index-row rows right.0 from.0 from.2 right.1).root.0 in
                inr (subst⁻¹ (λ (n : ℕ). Has n (roots_named (format_of base) rows)) (index.is.root ∙ from.3) (root-named from.0 from.1 (λ none. absurd (omega (arith, none, number.behind_first)))))
          ]
        ]

    named-stands : (n : ℕ) → Has n (1 ∷ roots_named (format_of base) rows) → Root n
    named-stands n (inl e) = root-stands schema n schema-stands e
    named-stands n (inr h) =
        let kept = filter-has (λ (root : ℕ). not (root == 0)) (map (λ (r : SchemaRow). r.root) rows) n h in
        let row = map-has (λ (r : SchemaRow). r.root) rows n kept.0 in
        let some : row.0.root ≢ 0 = λ none. true-false (not (n == 0)) kept.1 (ap not (eq-eqb n 0 (sym row.2 ∙ none))) in
        subst Root row.2 (row-stands row.0 row.1 some)

    -- the roots of the trees are those of the catalog
    pub roots-are : map (λ (s : Subject). s.root) subjects ≡ catalog.roots
    roots-are =
        let own = map (λ (s : Subject). s.root) subjects in
        let all = 1 ∷ roots_named (format_of base) rows in
        sorted-one (λ (x y : ℕ). x < y) (λ x y less more. omega (arith, less, more)) own catalog.roots (rising-map (λ (s : Subject). s.root) schema subjects are.rise) has.is_catalog.roots_rise
        (λ n h.
        let from = map-has (λ (s : Subject). s.root) subjects n (has-from own n h) in
        has-to catalog.roots n (has-permuted all catalog.roots n has.is_catalog.roots_are (subst (λ (m : ℕ). Has m all) from.2 (subject-named from.0 from.1))))
        (λ n h. has-to own n (named-stands n (has-permuted catalog.roots all n (IsPermutation-sym all catalog.roots has.is_catalog.roots_are) (has-from catalog.roots n h))))
