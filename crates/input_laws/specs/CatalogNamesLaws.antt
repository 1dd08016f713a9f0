-- The tables of a catalog have names that differ, and texts that are read or have a fault: crates above cite these facts in their proofs.
use Rattle.std.proofs.Common.{◌≡◌, ℕ, ◌&&◌, ◌||◌, ◌⊎◌, Bool, true, false, IsFalse, List, [], ◌∷◌, ◌++◌, Option, Some, None, Result, Ok, Err, refl, sym, ap, ◌∙◌, subst, inl, inr}
use Rattle.std.proofs.Math.Path.{subst⁻¹}
use Rattle.std.specs.Prelude.{filter}
use Rattle.std.specs.List.{list_any, AllZip, AllByRecursion}
use Rattle.schema_spec.specs.declared.schema.Clause.TheVariants.{View as ViewClause}
use Rattle.schema_spec.specs.declared.schema.SqlFault.{SqlFault}
use Rattle.schema_spec.specs.declared.schema.SqlFault.TheVariants.{SqlSyntax, OutsideProfile, Memory}
use Rattle.schema_spec.specs.declared.schema.Table.{Table}
use Rattle.schema_spec.specs.Words.{same_name}
use Rattle.schema_spec.specs.Texts.{IsMemory, HasTableFault}
use Rattle.tree_spec.specs.Standing.{Sizes, Paged}
use Rattle.tree_spec.specs.WorldsLaws.{all-front, all-back}
use Rattle.database_spec.specs.declared.catalog.SchemaKind.{SchemaKind}
use Rattle.database_spec.specs.declared.catalog.SchemaKind.TheVariants as kind
use Rattle.database_spec.specs.declared.catalog.NamedEntry.{NamedEntry}
use Rattle.database_spec.specs.declared.catalog.Catalog.{Catalog}
use Rattle.database_spec.specs.declared.catalog.SchemaRow.{SchemaRow}
use Rattle.database_spec.specs.Catalogs.{is_table, is_index, IsMeaning, IsTableMeaning, IsEntry, format_of}
use Rattle.database_spec.specs.RightRows.{has_name, repeats_name, rows_of, AreFaultless, HasCatalog}
use Rattle.database_spec.specs.ListsLaws.{PairsByRecursion}
use Rattle.database_spec.specs.ItemsLaws.{Has, has-any, decide, true-false}
use Rattle.prepared_laws.specs.SortsLaws.{on-if}
use Rattle.prepared_laws.specs.TablesMadeLaws.{pairs-with}
use Rattle.prepared_laws.specs.ChangesMadeLaws.{pairs-filter}

-- Texts.

-- a text is read, or has a fault of its own: nothing is said of one for which memory was wanting
abbrev pub IsKnownText : {A : Type 0} → Result A SqlFault → Type 0
IsKnownText (Ok meaning) = Unit {0}
IsKnownText (Err fault) = ¬ IsMemory fault

abbrev pub IsKnown : NamedEntry → Type 0
IsKnown named = IsKnownText named.entry.meaning

-- no two tables have one name
abbrev pub OwnName : NamedEntry → NamedEntry → Type 0
OwnName a b = same_name a.name b.name ≡ false

fault-known : (text : List ℕ) (fault : SqlFault) → HasTableFault text fault → ¬ IsMemory fault
fault-known text (SqlSyntax offset) is memory = memory
fault-known text (OutsideProfile clause) is memory = memory
fault-known text (Memory error) (tokens, are, is) memory = is

text-known : (text : List ℕ) (meaning : Result Table SqlFault) → IsMeaning text meaning → IsKnownText meaning
text-known text (Ok table) is = tt
text-known text (Err fault) is = fault-known text fault is

meaning-known : (k : SchemaKind) (sql : Option (List ℕ)) (meaning : Result Table SqlFault) → IsTableMeaning k sql meaning → IsKnownText meaning
meaning-known kind.Table (Some text) meaning is = text-known text meaning is
meaning-known kind.Table None meaning is = absurd is
meaning-known kind.View sql meaning is = subst⁻¹ (λ (m : Result Table SqlFault). IsKnownText m) is (λ memory. memory)
meaning-known kind.Index sql meaning is = absurd is
meaning-known kind.Trigger sql meaning is = absurd is

module _ (format : ℕ) (rows : List SchemaRow) where
  entries-known : (tables : List SchemaRow) (entries : List NamedEntry) → AllZip (IsEntry format rows) tables entries → AllByRecursion IsKnown entries
  entries-known [] [] are = tt
  entries-known [] (named ∷ entries) are = absurd are
  entries-known (row ∷ tables) [] are = absurd are
  entries-known (row ∷ tables) (named ∷ entries) are = (meaning-known row.kind row.sql named.entry.meaning are.0.meaning, entries-known tables entries are.1)

-- Names.

abbrev OwnNames : SchemaRow → SchemaRow → Type 0
OwnNames a b = is_table a ≡ true → is_table b ≡ true → same_name a.name b.name ≡ false

and-rest : (t u : Bool) → t ≡ true → (t && u) ≡ false → u ≡ false
and-rest true u e none = none
and-rest false u e none = absurd (let h : ◌≡◌ {A = Bool} false true = e in let no : ⊥ = cc in no)

none-any : {A : Type 0} (p : A → Bool) (xs : List A) (x : A) → list_any p xs ≡ false → Has x xs → p x ≡ false
none-any p xs x none h = elim (decide (p x)) [ inl passes ↦ absurd (true-false (list_any p xs) (has-any p xs x h passes) none) | inr fails ↦ fails ]

all-each : {A : Type 0} (P : A → Type 0) (xs : List A) → ((x : A) → Has x xs → P x) → AllByRecursion P xs
all-each P [] each = tt
all-each P (x ∷ xs) each = (each x (inl refl), all-each P xs (λ y h. each y (inr h)))

one-named : (before : List SchemaRow) (row a : SchemaRow) → IsFalse (repeats_name before (Some row)) → Has a before → OwnNames a row
one-named before row a new h table own =
    let none = and-rest (is_table row || is_index row) (list_any (has_name row.name) before) (ap (λ (t : Bool). t || is_index row) own) new in
    and-rest (is_table a || is_index a) (same_name a.name row.name) (ap (λ (t : Bool). t || is_index a) table) (none-any (has_name row.name) before a none h)

abbrev AfterAll : List SchemaRow → List SchemaRow → Type 0
AfterAll before later = AllByRecursion (λ (b : SchemaRow). AllByRecursion (λ (a : SchemaRow). OwnNames a b) before) later

parted : (before : List SchemaRow) (row : SchemaRow) (later : List SchemaRow) → AfterAll (before ++ row ∷ []) later → AfterAll before later × AllByRecursion (OwnNames row) later
parted before row [] after = (tt, tt)
parted before row (b ∷ later) after =
    let rest = parted before row later after.1 in
    ((all-front (λ (a : SchemaRow). OwnNames a b) before (row ∷ []) after.0, rest.0), ((all-back (λ (a : SchemaRow). OwnNames a b) before (row ∷ []) after.0).0, rest.1))

module _ (sizes : Sizes) (base : Paged) (rows : List SchemaRow) where
  -- rows without a fault have names of their own
  faultless-named : (before : List SchemaRow) (found : List (Option SchemaRow)) → AreFaultless sizes base rows before found → AfterAll before (rows_of found) × PairsByRecursion OwnNames (rows_of found)
  faultless-named before [] all = (tt, tt)
  faultless-named before (None ∷ found) all = absurd all.0.0
  faultless-named before (Some row ∷ found) all =
      let rest = faultless-named (before ++ row ∷ []) found all.1 in
      let parts = parted before row (rows_of found) rest.0 in
      ((all-each (λ (a : SchemaRow). OwnNames a row) before (λ a h. one-named before row a all.0.1 h), parts.0), (parts.1, rest.1))

passes : {A : Type 0} (p : A → Bool) (xs : List A) → AllByRecursion (λ x. p x ≡ true) (filter p xs)
passes p [] = tt
passes p (x ∷ xs) = on-if (AllByRecursion (λ y. p y ≡ true)) (p x) (x ∷ filter p xs) (filter p xs) (λ e. (e, passes p xs)) (λ e. passes p xs)

abbrev ApartRows : SchemaRow → SchemaRow → Type 0
ApartRows a b = same_name a.name b.name ≡ false

module _ (format : ℕ) (rows : List SchemaRow) where
  entry-named : (row : SchemaRow) (named : NamedEntry) (tables : List SchemaRow) (entries : List NamedEntry) → IsEntry format rows row named → AllByRecursion (ApartRows row) tables
      → AllZip (IsEntry format rows) tables entries → AllByRecursion (OwnName named) entries
  entry-named row named [] [] is all are = tt
  entry-named row named [] (e ∷ entries) is all are = absurd are
  entry-named row named (r ∷ tables) [] is all are = absurd are
  entry-named row named (r ∷ tables) (e ∷ entries) is all are = (
    subst⁻¹ (λ (n : List ℕ). same_name n e.name ≡ false) is.name (subst⁻¹ (λ (n : List ℕ). same_name row.name n ≡ false) are.0.name all.0),
    entry-named row named tables entries is all.1 are.1,
  )

  entries-named : (tables : List SchemaRow) (entries : List NamedEntry) → PairsByRecursion ApartRows tables → AllZip (IsEntry format rows) tables entries → PairsByRecursion OwnName entries
  entries-named [] [] pairs are = tt
  entries-named [] (named ∷ entries) pairs are = absurd are
  entries-named (row ∷ tables) [] pairs are = absurd are
  entries-named (row ∷ tables) (named ∷ entries) pairs are = (entry-named row named tables entries are.0 pairs.0 are.1, entries-named tables entries pairs.1 are.1)

module _ (sizes : Sizes) (base : Paged) (catalog : Catalog) (has : HasCatalog sizes base catalog) where
  -- the texts of a catalog's tables are read, or have a fault
  pub catalog-known : AllByRecursion IsKnown catalog.tables
  catalog-known = entries-known (format_of base) (rows_of has.found) (filter is_table (rows_of has.found)) catalog.tables has.is_catalog.tables

  -- and no two of them have one name
  pub catalog-named : PairsByRecursion OwnName catalog.tables
  catalog-named =
      let rows = rows_of has.found in
      let tables = filter is_table rows in
      let own = pairs-filter OwnNames is_table rows (faultless-named sizes base rows [] has.found has.faultless).1 in
      let apart = pairs-with (λ (row : SchemaRow). is_table row ≡ true) OwnNames ApartRows tables (λ a b p q two. two p q) (passes is_table rows) own in
      entries-named (format_of base) rows tables catalog.tables apart has.is_catalog.tables
