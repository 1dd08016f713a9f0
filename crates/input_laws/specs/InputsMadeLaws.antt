-- Something is found of each RBU database, whatever its trees hold: crates above cite these facts in their proofs.
use Rattle.std.proofs.Common.{◌≡◌, ◌≢◌, ℕ, Bool, true, false, List, [], ◌∷◌, ◌++◌, map, if◌then◌else◌, Option, Some, None, Result, Ok, Err, refl, sym, ap, ◌∙◌, subst, inl, inr}
use Rattle.std.proofs.Math.Path.{subst⁻¹}
use Rattle.std.specs.Prelude.{codes, filter_map, flat_map}
use Rattle.std.specs.List.{AllZip, AllByRecursion, cons_option}
use Rattle.std.specs.Option.{option_map}
use Rattle.std.specs.Ordering.{nat_cmp}
use Rattle.std.specs.declared.cmp.Ordering.{Ordering}
use Rattle.std.specs.declared.cmp.Ordering.TheVariants.{Less, Equal}
use Rattle.std.specs.Cmp.{IsTotalOrder, on_total}
use Rattle.std.specs.Cmp.Lexicographic.{slice_cmp, nat_list_cmp_total}
use Rattle.std.specs.Str.{str_to_ascii_lowercase}
use Rattle.std.proofs.lemmas.Map.Lookups.{exact_bytes}
use Rattle.std.proofs.lemmas.Slice.Eq.{bytes_eq-Decides}
use Rattle.refusal.specs.declared.Rule.TheVariants as broken
use Rattle.schema_spec.specs.declared.schema.SqlFault.{SqlFault}
use Rattle.schema_spec.specs.declared.schema.SqlFault.TheVariants.{SqlSyntax, OutsideProfile, Memory}
use Rattle.schema_spec.specs.declared.schema.Table.{Table}
use Rattle.schema_spec.specs.Words.{same_name}
use Rattle.tree_spec.specs.declared.TreeKind.TheVariants.{Table as TableTree}
use Rattle.tree_spec.specs.Standing.{Sizes, Paged}
use Rattle.database_spec.specs.declared.catalog.NamedEntry.{NamedEntry}
use Rattle.database_spec.specs.declared.catalog.Catalog.{Catalog}
use Rattle.database_spec.specs.Walks.{Finding, Finds, Ends, Holds, Breaks, Disorders, Bares}
use Rattle.database_spec.specs.RightRows.{HasCatalog}
use Rattle.database_spec.specs.ListsLaws.{PairsByRecursion, pairs-from}
use Rattle.database_spec.specs.ItemsLaws.{true-false}
use Rattle.prepared_spec.specs.declared.input_fault.InputFault.{InputFault}
use Rattle.prepared_spec.specs.declared.input_fault.InputFault.TheVariants.{NoTarget}
use Rattle.prepared_spec.specs.Plans.{table_named}
use Rattle.prepared_spec.specs.DataTables.{DataTable, target_in, data_table, AreDataTables, begins_with, first_fault, meaning_fault, meanings_fault, table_fault}
use Rattle.prepared_spec.specs.Inputs.{Opened, Input, Opens, Reads, Damages, Closes, IsOpened, IsInputOf, prepared_in, IsTableInput, AreInputs}
use Rattle.prepared_laws.specs.SortsLaws.{in_order, in_order-permutes, in_order-all, in_order-sorted, on-if}
use Rattle.prepared_laws.specs.ChangesMadeLaws.{zip-some}
use Rattle.walk_laws.specs.WalksMadeLaws.{walk-found}
use Rattle.input_laws.specs.PreparedDecidedLaws.{prepared-some}
use Rattle.input_laws.specs.CatalogNamesLaws.{IsKnownText, IsKnown, OwnName, catalog-known, catalog-named}

-- Lists.

all-mapped : {A B : Type 0} (f : A → Option B) (P : A → Type 0) (Q : B → Type 0) → ((a : A) (b : B) → f a ≡ Some b → P a → Q b) → (xs : List A) → AllByRecursion P xs → AllByRecursion Q (filter_map f xs)
all-mapped f P Q each [] all = tt
all-mapped {A} {B} f P Q each (x ∷ xs) all = by (f x) refl (all-mapped f P Q each xs all.1)
  where
    by : (o : Option B) → f x ≡ o → AllByRecursion Q (filter_map f xs) → AllByRecursion Q (cons_option o (filter_map f xs))
    by None e rest = rest
    by (Some y) e rest = (each x y e all.0, rest)

pairs-mapped : {A B : Type 0} (f : A → Option B) (R : A → A → Type 0) (S : B → B → Type 0) → ((a b : A) (c d : B) → f a ≡ Some c → f b ≡ Some d → R a b → S c d) → (xs : List A)
    → PairsByRecursion R xs → PairsByRecursion S (filter_map f xs)
pairs-mapped f R S each [] pairs = tt
pairs-mapped {A} {B} f R S each (x ∷ xs) pairs = by (f x) refl (pairs-mapped f R S each xs pairs.1)
  where
    by : (o : Option B) → f x ≡ o → PairsByRecursion S (filter_map f xs) → PairsByRecursion S (cons_option o (filter_map f xs))
    by None e rest = rest
    by (Some y) e rest = (all-mapped f (R x) (S y) (λ b d is two. each x b y d e is two) xs pairs.0, rest)

all-some : {A B : Type 0} (P : A → Type 0) (R : A → B → Type 0) → ((x : A) → P x → (y : B) × R x y) → (xs : List A) → AllByRecursion P xs → AllByRecursion (λ x. (y : B) × R x y) xs
all-some P R each [] all = tt
all-some P R each (x ∷ xs) all = (each x all.0, all-some P R each xs all.1)

every-some : {A B : Type 0} (R : A → B → Type 0) → ((x : A) → (y : B) × R x y) → (xs : List A) → AllByRecursion (λ x. (y : B) × R x y) xs
every-some R each [] = tt
every-some R each (x ∷ xs) = (each x, every-some R each xs)

-- `data_` tables.

-- a `data_` table is a table, with its name
record IsOf (named : NamedEntry) (source : DataTable) : Type 0 where
  name : source.source ≡ named.name
  entry : source.entry ≡ named.entry

data_table-of : (named : NamedEntry) (source : DataTable) → data_table named ≡ Some source → IsOf named source
data_table-of named source = by (target_in named.name)
  where
    made : List ℕ → DataTable
    made target = record { source = named.name; target = target; entry = named.entry }

    by : (target : Option (List ℕ)) → option_map (λ target. record { source = named.name; target = target; entry = named.entry }) target ≡ Some source → IsOf named source
    by None e = absurd (let no : ⊥ = cc in no)
    by (Some target) e = let same : source ≡ made target = (let h : Some (made target) ≡ Some source = e in cc) in record { name = ap (λ (s : DataTable). s.source) same; entry = ap (λ (s : DataTable). s.entry) same }

abbrev IsKnownSource : DataTable → Type 0
IsKnownSource source = IsKnownText source.entry.meaning

abbrev by_source : DataTable → DataTable → Ordering
by_source a b = slice_cmp nat_cmp a.source b.source

by_source-total : IsTotalOrder by_source
by_source-total = on_total (λ (s : DataTable). s.source) nat_list_cmp_total

name-itself : (name : List ℕ) → same_name name name ≡ true
name-itself name = (bytes_eq-Decides (str_to_ascii_lowercase name) (str_to_ascii_lowercase name)).1 refl

own_source : (a b : NamedEntry) (c d : DataTable) → data_table a ≡ Some c → data_table b ≡ Some d → OwnName a b → by_source c d ≢ Equal
own_source a b c d p q own equal =
    let same : c.source ≡ d.source = exact_bytes c.source d.source equal in
    let names : a.name ≡ b.name = sym (data_table-of a c p).name ∙ same ∙ (data_table-of b d q).name in
    true-false (same_name a.name b.name) (subst (λ (n : List ℕ). same_name a.name n ≡ true) names (name-itself a.name)) own

module _ (rbu : Catalog) (known : AllByRecursion IsKnown rbu.tables) (named : PairsByRecursion OwnName rbu.tables) where
  abbrev sources : List DataTable
  sources = in_order by_source (filter_map data_table rbu.tables)

  sources-are : AreDataTables rbu sources
  sources-are = record {
    all = in_order-permutes by_source (filter_map data_table rbu.tables);
    sorted = pairs-from (λ (a b : DataTable). by_source a b ≡ Less) sources
        (in_order-sorted by_source by_source-total (filter_map data_table rbu.tables) (pairs-mapped data_table OwnName (λ a b. by_source a b ≢ Equal) own_source rbu.tables named));
  }

  sources-known : AllByRecursion IsKnownSource sources
  sources-known =
      in_order-all by_source IsKnownSource (filter_map data_table rbu.tables)
      (all-mapped data_table IsKnown IsKnownSource (λ a s e is. subst⁻¹ (λ entry. IsKnownText entry.meaning) (data_table-of a s e).entry is) rbu.tables known)

-- Faults.

none-first : (fault : Option InputFault) (faults : List (Option InputFault)) → first_fault (fault ∷ faults) ≡ None → (fault ≡ None) × (first_fault faults ≡ None)
none-first None faults e = (refl, e)
none-first (Some fault) faults e = absurd (let h : Some fault ≡ None = e in let no : ⊥ = cc in no)

none-behind : (before after : List (Option InputFault)) → first_fault (before ++ after) ≡ None → first_fault after ≡ None
none-behind [] after e = e
none-behind (fault ∷ before) after e = none-behind before after (none-first fault (before ++ after) e).1

meaning-read : (name : List ℕ) (meaning : Result Table SqlFault) → IsKnownText meaning → meaning_fault name meaning ≡ None → (table : Table) × (meaning ≡ Ok table)
meaning-read name (Ok table) known none = (table, refl)
meaning-read name (Err (SqlSyntax offset)) known none = absurd (let no : ⊥ = cc in no)
meaning-read name (Err (OutsideProfile clause)) known none = absurd (let no : ⊥ = cc in no)
meaning-read name (Err (Memory error)) known none = absurd (known tt)

named-known : (name : List ℕ) (tables : List NamedEntry) (named : NamedEntry) → AllByRecursion IsKnown tables → table_named name tables ≡ Some named → IsKnown named
named-known name [] named all e = absurd (let h : ◌≡◌ {A = Option NamedEntry} None (Some named) = e in let no : ⊥ = cc in no)
named-known name (table ∷ tables) named all e =
    on-if (λ (o : Option NamedEntry). o ≡ Some named → IsKnown named) (same_name table.name name) (Some table) (table_named name tables)
    (λ is one. subst IsKnown (let h : Some table ≡ Some named = one in let same : table ≡ named = cc in same) all.0) (λ other one. named-known name tables named all.1 one) e

if-else : (skips : Bool) (found : Option NamedEntry) (named : NamedEntry) → (if skips then None else found) ≡ Some named → found ≡ Some named
if-else true found named e = absurd (let h : ◌≡◌ {A = Option NamedEntry} None (Some named) = e in let no : ⊥ = cc in no)
if-else false found named e = e

module _ (catalog : Catalog) (known : AllByRecursion IsKnown catalog.tables) (source : DataTable) (is_known : IsKnownSource source) where
  abbrev faults_under : NamedEntry → List (Option InputFault)
  faults_under named =
      meaning_fault named.name named.entry.meaning
      ∷ (map (λ index. meaning_fault named.name index.1) named.entry.indexes ++ meaning_fault source.source source.entry.meaning ∷ meanings_fault source named named.entry.meaning source.entry.meaning)

  abbrev HasOpened : Type 0
  HasOpened = (opened : Opened) × IsOpened catalog source opened

  -- a `data_` table without a fault of its own is read
  opened-some : table_fault catalog source ≡ None → HasOpened
  opened-some faultless = by (if begins_with (codes "sqlite_") source.target then None else table_named source.target catalog.tables) refl faultless
    where
      under : (named : NamedEntry) → table_named source.target catalog.tables ≡ Some named → first_fault (faults_under named) ≡ None → HasOpened
      under named found none =
          let indexes = map (λ index. meaning_fault named.name index.1) named.entry.indexes in
          let later = meaning_fault source.source source.entry.meaning ∷ meanings_fault source named named.entry.meaning source.entry.meaning in
          let first = none-first (meaning_fault named.name named.entry.meaning) (indexes ++ later) none in
          let behind = none-first (meaning_fault source.source source.entry.meaning) (meanings_fault source named named.entry.meaning source.entry.meaning) (none-behind indexes later first.1) in
          let target = meaning-read named.name named.entry.meaning (named-known source.target catalog.tables named known found) first.0 in
          let own = meaning-read source.source source.entry.meaning is_known behind.0 in (
            record { source = source.source; name = named.name; target = target.0; own = own.0 },
            record { faultless = faultless; named = named; found = found; target = target.1; own = own.1; source_is = refl; name_is = refl },
          )

      by : (found : Option NamedEntry) → (if begins_with (codes "sqlite_") source.target then None else table_named source.target catalog.tables) ≡ found
          → (elim found as (λ _. Option InputFault) [ None ↦ Some (NoTarget source.target) | Some named ↦ first_fault (faults_under named) ]) ≡ None → HasOpened
      by None e none = absurd (let h : Some (NoTarget source.target) ≡ None = none in let no : ⊥ = cc in no)
      by (Some named) e none = under named (if-else (begins_with (codes "sqlite_") source.target) (table_named source.target catalog.tables) named e) none

-- Findings.

input-some : (opened : Opened) (finding : Finding) → (inputs : List Input) × IsInputOf opened finding inputs
input-some opened (Holds page member) = let prepared = prepared-some opened.target opened.own member in (Reads opened member prepared.0 ∷ [], (prepared.0, prepared.1, refl))
input-some opened (Breaks page rule) = (Damages (page, rule) ∷ [], refl)
input-some opened (Disorders page) = (Damages (page, broken.Cells) ∷ [], refl)
input-some opened (Finds page) = ([], refl)
input-some opened (Ends page depth) = ([], refl)
input-some opened (Bares page) = ([], refl)

module _ (sizes : Sizes) (base : Paged) (catalog : Catalog) (known : AllByRecursion IsKnown catalog.tables) where
  table_input-some : (source : DataTable) → IsKnownSource source → (inputs : List Input) × IsTableInput sizes base catalog source inputs
  table_input-some source is_known = by (table_fault catalog source) refl
    where
      by : (fault : Option InputFault) → table_fault catalog source ≡ fault → (inputs : List Input) × IsTableInput sizes base catalog source inputs
      by (Some fault) e = (Opens source ∷ [], inl (fault, e, refl))
      by None e =
          let opened = opened-some catalog known source is_known e in
          let walk = walk-found sizes base TableTree source.entry.root in
          let parts = zip-some (IsInputOf opened.0) walk.0 (every-some (IsInputOf opened.0) (input-some opened.0) walk.0) in (
            Opens source ∷ (flat_map (λ part. part) parts.0 ++ Closes opened.0 (filter_map prepared_in (flat_map (λ part. part) parts.0)) ∷ []),
            inr (opened.0, walk.0, parts.0, opened.1, walk.1, parts.1, refl),
          )

  -- something is found of an RBU database whose tables have texts that are known, and names that differ
  pub inputs-some : (rbu : Catalog) → AllByRecursion IsKnown rbu.tables → PairsByRecursion OwnName rbu.tables → (inputs : List Input) × AreInputs sizes base catalog rbu inputs
  inputs-some rbu texts names =
      let tables = sources rbu texts names in
      let parts = zip-some (IsTableInput sizes base catalog) tables (all-some IsKnownSource (IsTableInput sizes base catalog) table_input-some tables (sources-known rbu texts names)) in
      (flat_map (λ part. part) parts.0, record { tables = tables; are_tables = sources-are rbu texts names; parts = parts.0; are_parts = parts.1; inputs_are = refl })

-- something is found of each RBU database with a catalog, for each target with one
pub inputs-found : (sizes : Sizes) (base : Paged) (target_sizes : Sizes) (target_base : Paged) (target rbu : Catalog) → HasCatalog target_sizes target_base target → HasCatalog sizes base rbu
    → (inputs : List Input) × AreInputs sizes base target rbu inputs
inputs-found sizes base target_sizes target_base target rbu has own =
    inputs-some sizes base target (catalog-known target_sizes target_base target has) rbu (catalog-known sizes base rbu own) (catalog-named sizes base rbu own)
