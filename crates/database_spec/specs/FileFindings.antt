-- All that a check finds in a file, in its order: the trees by rising roots, each depth first from its left; the freelist; each page that has to be found; the plain indexes by rising roots. The order is this project's rule.
use Rattle.std.specs.Prelude.{◌≡◌, ℕ, zero, suc, ◌<◌, ◌==◌, ◌&&◌, not, nat_le, nat_lt, Bool, true, false, if◌then◌else◌, List, [], ◌∷◌, ◌++◌, map, flat_map, filter, AllPairs, IsPermutation, Result, Ok, is_ok}
use Rattle.std.specs.List.{AllZip, range_with_len}
use Rattle.format_spec.specs.Header.{freelist_trunk, freelist_pages}
use Rattle.page_spec.specs.Pages.{lock_byte_page, next_page}
use Rattle.page_spec.specs.Freelists.{trunk_limit, leaf_count, leaf_at}
use Rattle.schema_spec.specs.declared.schema.SqlFault.{SqlFault}
use Rattle.schema_spec.specs.declared.schema.Table.{Table}
use Rattle.schema_spec.specs.declared.schema.Index.{Index}
use Rattle.format_spec.specs.Page.{header_place}
use Rattle.tree_spec.specs.declared.TreeKind.{TreeKind}
use Rattle.tree_spec.specs.declared.TreeKind.TheVariants as tree
use Rattle.tree_spec.specs.Trees.{Member}
use Rattle.tree_spec.specs.Standing.{Sizes, Paged}
use Rattle.database_spec.specs.declared.catalog.Entry.{Entry}
use Rattle.database_spec.specs.declared.catalog.NamedEntry.{NamedEntry}
use Rattle.database_spec.specs.declared.catalog.Catalog.{Catalog}
use Rattle.database_spec.specs.Walks.{Finding, IsWalk, members_found}
use Rattle.database_spec.specs.Rows.{TableRow, IsPlain}
use Rattle.std.specs.Prelude.{slice_index, ◌||◌}

-- what the members of a tree are: rows of a table in the profile, entries of a plain index whose table has these rows, or any
pub data Content : Type 0 where
  Rows : Content
  Entries : Index → List TableRow → Content
  Anything : Content

-- a tree of the catalog
pub record Subject : Type 0 where
  pub root : ℕ
  pub kind : TreeKind
  pub content : Content

-- a tree with all that a walk over it finds
pub record Walked : Type 0 where
  pub subject : Subject
  pub findings : List Finding

-- What is found in a file: something in a tree, a page of the freelist, a page of it in which a wrong number stands, how many pages the freelist has by the header, a page that has to stand somewhere, and the members of a plain index beside the rows of its table.
pub data Found : Type 0 where
  InTree : Subject → Finding → Found
  Frees : ℕ → Found
  Tears : ℕ → Found
  Counts : ℕ → Found
  Needs : ℕ → Found
  Compares : Index → List TableRow → List Member → Found

-- a table outside the profile has a tree of the kind of its root page
abbrev pub own_kind : List ℕ → ℕ → TreeKind
own_kind page number = if slice_index page (header_place number) == 2 || slice_index page (header_place number) == 10 then tree.Index else tree.Table

abbrev pub table_kind : Bool → List ℕ → ℕ → TreeKind
table_kind true page number = tree.Table
table_kind false page number = own_kind page number

abbrev pub table_content : Bool → Content
table_content true = Rows
table_content false = Anything

module _ (sizes : Sizes) (base : Paged) where
  -- the tree of a table, where it has one
  abbrev pub own_subject : Entry → List Subject
  own_subject entry =
      if entry.root == 0 then []
      else (record { root = entry.root; kind = table_kind (is_ok entry.meaning) (base.pages entry.root) entry.root; content = table_content (is_ok entry.meaning) } ∷ [])

  -- the entries of an index are looked at where it is plain
  abbrev pub IsIndexContent : Entry → Result Index SqlFault → Content → Type 0
  IsIndexContent entry meaning Rows = ⊥
  IsIndexContent entry meaning (Entries index rows) = (meaning ≡ Ok index) × ((table : Table) × IsPlain sizes base entry table rows)
  IsIndexContent entry meaning Anything = (index : Index) (table : Table) (rows : List TableRow) → meaning ≡ Ok index → ¬ IsPlain sizes base entry table rows

  pub record IsIndexSubject (entry : Entry) (index : ℕ × Result Index SqlFault) (subject : Subject) : Type 0 where
    pub root : subject.root ≡ index.0
    pub kind : subject.kind ≡ tree.Index
    pub content : IsIndexContent entry index.1 subject.content

  -- the trees of a table and of its indexes
  abbrev pub AreSubjectsOf : NamedEntry → List Subject → Type 0
  AreSubjectsOf named subjects =
      (indexes : List Subject) × AllZip (IsIndexSubject named.entry) named.entry.indexes indexes × (subjects ≡ own_subject named.entry ++ indexes)

  abbrev pub schema_subject : Subject
  schema_subject = record { root = 1; kind = tree.Table; content = Anything }

  -- all trees of a catalog by rising roots
  pub record AreSubjects (catalog : Catalog) (subjects : List Subject) : Type 0 where
    pub parts : List (List Subject)
    pub are_parts : AllZip AreSubjectsOf catalog.tables parts
    pub all : IsPermutation (schema_subject ∷ flat_map (λ part. part) parts) subjects
    pub rise : AllPairs (λ (a b : Subject). a.root < b.root) subjects

  pub record IsWalked (subject : Subject) (walked : Walked) : Type 0 where
    pub subject_is : walked.subject ≡ subject
    pub is_walk : IsWalk sizes base subject.kind subject.root walked.findings

  -- a number that a link may name, as a test
  abbrev pub is_number : ℕ → Bool
  is_number number = nat_le 2 number && (nat_le number base.count && not (number == lock_byte_page sizes.size))

  -- the leaf pages of a trunk
  abbrev pub leaf_found : ℕ → ℕ → Found
  leaf_found trunk at = if is_number (leaf_at (base.pages trunk) at) then Frees (leaf_at (base.pages trunk) at) else Tears trunk

  abbrev pub leaves_found : ℕ → List Found
  leaves_found trunk = map (leaf_found trunk) (range_with_len 0 (leaf_count (base.pages trunk)))

  -- The trunks from this number on, which stands in the page before them, up to so many: each with its leaf pages, where it does not count too many of them. A freelist with more trunks than pages has one of them twice.
  abbrev pub trunks_found : ℕ → ℕ → ℕ → List Found
  trunks_found zero holder number = []
  trunks_found (suc left) holder number = elim (number == 0) as (λ _. List Found) [
    | true ↦ []
    | false ↦ elim (is_number number) as (λ _. List Found) [
      | false ↦ Tears holder ∷ []
      | true ↦ Frees number ∷ (elim (nat_lt (trunk_limit sizes.usable) (leaf_count (base.pages number))) as (λ _. List Found) [
        | true ↦ Tears number ∷ []
        | false ↦ leaves_found number ++ trunks_found left number (next_page (base.pages number))
      ])
    ]
  ]

  abbrev pub freelist_found : List Found
  freelist_found = trunks_found (suc base.count) 1 (freelist_trunk (base.pages 1)) ++ Counts (freelist_pages (base.pages 1)) ∷ []

  -- the pages that have to stand somewhere
  abbrev pub pages_needed : List ℕ
  pages_needed = filter (λ number. not (number == lock_byte_page sizes.size)) (range_with_len 1 base.count)

abbrev pub tree_found : Walked → List Found
tree_found walked = map (InTree walked.subject) walked.findings

abbrev pub content_compared : Content → List Member → List Found
content_compared Rows members = []
content_compared (Entries index rows) members = Compares index rows members ∷ []
content_compared Anything members = []

abbrev pub compared : Walked → List Found
compared walked = content_compared walked.subject.content (members_found walked.findings)

-- all that is found in a file with this catalog
pub record AreFound (sizes : Sizes) (base : Paged) (catalog : Catalog) (found : List Found) : Type 0 where
  pub subjects : List Subject
  pub are_subjects : AreSubjects sizes base catalog subjects
  pub walks : List Walked
  pub are_walks : AllZip (IsWalked sizes base) subjects walks
  pub found_are : found ≡ flat_map tree_found walks ++ (freelist_found sizes base ++ (map Needs (pages_needed sizes base) ++ flat_map compared walks))
