-- The batches of an RBU database without a refusal can be used for their tables: crates above cite these facts in their proofs.
use Rattle.std.proofs.Common.{◌≡◌, ◌≢◌, ℕ, ℤ, ◌≤◌, ◌&&◌, not, Bool, true, false, List, [], ◌∷◌, ◌++◌, length, map, Option, Some, None, Ok, if◌then◌else◌, cond, refl, sym, ap, ap₂, ◌∙◌, subst, inl, inr, arith}
use Rattle.std.proofs.Math.Path.{subst⁻¹}
use Rattle.std.specs.Prelude.{bytes_eq, codes, filter_map, find, flat_map, slice_index_or}
use Rattle.std.specs.List.{AllByRecursion, AllZip, list_any}
use Rattle.std.specs.Option.{option_or}
use Rattle.std.specs.Ordering.{is_eq}
use Rattle.std.specs.Str.{str_to_ascii_lowercase}
use Rattle.std.specs.declared.cmp.Ordering.TheVariants.{Equal}
use Rattle.std.proofs.lemmas.List.{length-map}
use Rattle.std.proofs.lemmas.List.Folds.{find-append}
use Rattle.std.proofs.lemmas.Slice.Eq.{bytes_eq-Decides}
use Rattle.common_spec.specs.Reading.{OrNone}
use Rattle.rbu_value.specs.declared.order.Collation.{Collation}
use Rattle.rbu_value.specs.declared.order.Collation.TheVariants.{Binary}
use Rattle.rbu_value.specs.declared.value.Value.{Value}
use Rattle.rbu_value.specs.declared.value.Value.TheVariants.{Null, Int, Text, Blob}
use Rattle.rbu_rows.specs.declared.prepared.Prepared.{Prepared}
use Rattle.rbu_rows.specs.declared.prepared.Batch.{Batch}
use Rattle.schema_spec.specs.declared.schema.Column.{Column}
use Rattle.schema_spec.specs.declared.schema.Table.{Table}
use Rattle.schema_spec.specs.Words.{same_name}
use Rattle.tree_spec.specs.Trees.{Member}
use Rattle.tree_spec.specs.Standing.{Sizes, Paged}
use Rattle.tree_spec.specs.WorldsLaws.{all-front, all-back, all-join}
use Rattle.database_spec.specs.declared.catalog.NamedEntry.{NamedEntry}
use Rattle.database_spec.specs.declared.catalog.Catalog.{Catalog}
use Rattle.database_spec.specs.ItemsLaws.{true-false}
use Rattle.database_spec.specs.Keys.{is_null}
use Rattle.database_spec.specs.ListsLaws.{PairsByRecursion}
use Rattle.database_spec.specs.Walks.{Finding, Finds, Ends, Holds, Breaks, Disorders, Bares}
use Rattle.prepared_spec.specs.declared.input_fault.InputFault.{InputFault}
use Rattle.prepared_spec.specs.declared.input_fault.InputFault.TheVariants.{DuplicateKey, KeyChanged, KeyMismatch, KeyNull}
use Rattle.prepared_spec.specs.DataTables.{DataTable, column_names}
use Rattle.prepared_spec.specs.Inputs.{Opened, Input, Opens, Reads, Damages, Closes, IsOpened, IsInputOf, prepared_in, IsTableInput, AreInputs, key_twice, batches_in, IsWrongInput, AllRight}
use Rattle.prepared_spec.specs.Plans.{table_named}
use Rattle.prepared_spec.specs.PreparedRows.{IsPrepared, IsWrongRow, is_integer, key_changed, key_fault, value_named}
use Rattle.prepared_spec.specs.RowKeys.{collations_among, has_rowid_key, key_at, key_cmp, key_collations, same_key}
use Rattle.prepared_laws.specs.SortsLaws.{all-weaken, on-if}
use Rattle.prepared_laws.specs.TablesMadeLaws.{HasIntegerKey, HasRowidKey, HaveKeys, IsUsable, key_columns}

-- Names.

lower-same : (a b : List ℕ) → same_name a b ≡ true → str_to_ascii_lowercase a ≡ str_to_ascii_lowercase b
lower-same a b e = (bytes_eq-Decides (str_to_ascii_lowercase a) (str_to_ascii_lowercase b)).0 e

-- names that are one name the same table
pub table_named-same : (tables : List NamedEntry) (a b : List ℕ) → same_name a b ≡ true → table_named a tables ≡ table_named b tables
table_named-same [] a b e = refl
table_named-same (table ∷ tables) a b e =
    ap₂ (λ (t : Bool) (o : Option NamedEntry). if t then Some table else o)
    (ap (λ (lower : List ℕ). bytes_eq (str_to_ascii_lowercase table.name) lower) (lower-same a b e)) (table_named-same tables a b e)

named-has : (tables : List NamedEntry) (name : List ℕ) (named : NamedEntry) → table_named name tables ≡ Some named → same_name named.name name ≡ true
named-has [] name named e = absurd (let h : ◌≡◌ {A = Option NamedEntry} None (Some named) = e in let no : ⊥ = cc in no)
named-has (table ∷ tables) name named e =
    on-if (λ (o : Option NamedEntry). o ≡ Some named → same_name named.name name ≡ true) (same_name table.name name) (Some table) (table_named name tables)
    (λ is one. subst (λ (n : NamedEntry). same_name n.name name ≡ true) (let h : Some table ≡ Some named = one in let same : table ≡ named = cc in same) is)
    (λ other one. named-has tables name named one) e

-- a table that is named is named by its own name
named-itself : (tables : List NamedEntry) (name : List ℕ) (named : NamedEntry) → table_named name tables ≡ Some named → table_named named.name tables ≡ Some named
named-itself tables name named e = table_named-same tables named.name name (named-has tables name named e) ∙ e

-- Keys.

among-long : (indexes : List (List (ℕ × Collation))) (key : List ℕ) → length (collations_among indexes key) ≡ length key
among-long [] key = length-map key (λ (place : ℕ). Binary)
among-long (columns ∷ indexes) key = by (among-long indexes key) (bytes_eq (map (λ (column : ℕ × Collation). column.0) columns) key) refl
  where
    by : length (collations_among indexes key) ≡ length key → (b : Bool) → bytes_eq (map (λ (column : ℕ × Collation). column.0) columns) key ≡ b
        → length (if b then map (λ (column : ℕ × Collation). column.1) columns else collations_among indexes key) ≡ length key
    by rest true e =
        let same : map (λ (column : ℕ × Collation). column.0) columns ≡ key = (bytes_eq-Decides (map (λ (column : ℕ × Collation). column.0) columns) key).0 e in
        length-map columns (λ (column : ℕ × Collation). column.1) ∙ sym (length-map columns (λ (column : ℕ × Collation). column.0)) ∙ ap length same
    by rest false e = rest

key-long : (table : Table) (key : List ℕ) → table.key ≡ key → (rowid : Value) (values : List Value) → length (key_at key rowid values) ≡ length (elim key as (λ _. List Collation) [ [] ↦ Binary ∷ [] | (place ∷ places) ↦ collations_among table.unique table.key ])
key-long table [] e rowid values = refl
key-long table (place ∷ places) e rowid values = length-map (place ∷ places) (λ (at : ℕ). slice_index_or values at Null) ∙ ap length (sym e) ∙ sym (among-long table.unique table.key)

-- a prepared row has a value for each column of its key
prepared-keyed : (target own : Table) (member : Member) (prepared : Prepared) → IsPrepared target own member prepared → length (key_columns target) ≤ length prepared.key
prepared-keyed target own member prepared (row, is, prepares) =
    let long : length prepared.key ≡ length (key_collations target) = ap length prepares.key ∙ key-long target target.key refl (value_named own (codes "rbu_rowid") row) prepared.values in
    let many : length (key_columns target) ≡ length (key_collations target) = length-map (key_collations target) (λ (collation : Collation). (collation, false)) in
    omega (arith, long, many)

or-none : {A : Type 0} (a b : Option A) → option_or a b ≡ None → (a ≡ None) × (b ≡ None)
or-none None b e = (refl, e)
or-none (Some x) b e = absurd (let h : Some x ≡ None = e in let no : ⊥ = cc in no)

last-none : (t : Bool) (row : Prepared) → cond t (Some row) None ≡ None → t ≡ false
last-none true row e = absurd (let h : Some row ≡ None = e in let no : ⊥ = cc in no)
last-none false row e = refl

-- what is not found up to a row is not found before it, and is not the row
found-parts : (p : Prepared → Bool) (before : List Prepared) (row : Prepared) → find p (before ++ row ∷ []) ≡ None → (find p before ≡ None) × (p row ≡ false)
found-parts p before row e =
    let parts = or-none (find p before) (find p (row ∷ [])) (sym (find-append p before (row ∷ [])) ∙ e) in
    (parts.0, last-none (p row) row parts.1)

module _ (table : Table) where
  abbrev twice_from : Option Prepared → List Prepared → Prepared → List Prepared → Option (Prepared × Prepared)
  twice_from found before row rows =
      elim found as (λ _. Option (Prepared × Prepared)) [ Some other ↦ Some (other, row) | None ↦ key_twice table (before ++ row ∷ []) rows ]

  twice-parts : (found : Option Prepared) (before : List Prepared) (row : Prepared) (rows : List Prepared) → twice_from found before row rows ≡ None
      → (found ≡ None) × (key_twice table (before ++ row ∷ []) rows ≡ None)
  twice-parts None before row rows e = (refl, e)
  twice-parts (Some other) before row rows e = absurd (let h : ◌≡◌ {A = Option (Prepared × Prepared)} (Some (other, row)) None = e in let no : ⊥ = cc in no)

  -- a row that stands before others, none of which has its key
  twice-after : (rows before : List Prepared) → key_twice table before rows ≡ None → (row : Prepared) → ((p : Prepared → Bool) → find p before ≡ None → p row ≡ false)
      → AllByRecursion (λ (other : Prepared). same_key table row.key other.key ≡ false) rows
  twice-after [] before e row stands = tt
  twice-after (next ∷ rows) before e row stands =
      let parts = twice-parts (find (λ (other : Prepared). same_key table other.key next.key) before) before next rows e in
      (stands (λ (other : Prepared). same_key table other.key next.key) parts.0, twice-after rows (before ++ next ∷ []) parts.1 row (λ p none. stands p (found-parts p before next none).0))

  -- rows of which none has a key twice differ in their keys
  twice-pairs : (rows before : List Prepared) → key_twice table before rows ≡ None → PairsByRecursion (λ (a b : Prepared). key_cmp table a.key b.key ≢ Equal) rows
  twice-pairs [] before e = tt
  twice-pairs (row ∷ rows) before e =
      let parts = twice-parts (find (λ (other : Prepared). same_key table other.key row.key) before) before row rows e in (
        all-weaken (λ (other : Prepared). same_key table row.key other.key ≡ false) (λ (other : Prepared). key_cmp table row.key other.key ≢ Equal) rows
            (λ other unlike same. true-false (same_key table row.key other.key) (ap is_eq same) unlike)
            (twice-after rows (before ++ row ∷ []) parts.1 row (λ p none. (found-parts p before row none).1)),
        twice-pairs rows (before ++ row ∷ []) parts.1,
      )

-- Rows.

if-none : (t : Bool) (fault : InputFault) (other : Option InputFault) → (if t then Some fault else other) ≡ None → (t ≡ false) × (other ≡ None)
if-none true fault other e = absurd (let h : Some fault ≡ None = e in let no : ⊥ = cc in no)
if-none false fault other e = (refl, e)

and-not : (a b : Bool) → (a && not b) ≡ false → a ≡ true → b ≡ true
and-not true true e p = refl
and-not true false e p = absurd (let h : ◌≡◌ {A = Bool} true false = e in let no : ⊥ = cc in no)
and-not false b e p = absurd (let h : ◌≡◌ {A = Bool} false true = p in let no : ⊥ = cc in no)

integer-of : (v : Value) → is_integer v ≡ true → (z : ℤ) × (v ≡ Int z)
integer-of Null e = absurd (let h : ◌≡◌ {A = Bool} false true = e in let no : ⊥ = cc in no)
integer-of (Int z) e = (z, refl)
integer-of (Text text) e = absurd (let h : ◌≡◌ {A = Bool} false true = e in let no : ⊥ = cc in no)
integer-of (Blob blob) e = absurd (let h : ◌≡◌ {A = Bool} false true = e in let no : ⊥ = cc in no)

module _ (source : List ℕ) (target own : Table) (member : Member) (prepared : Prepared) (is : IsPrepared target own member prepared)
    (right : (fault : InputFault) → ¬ IsWrongRow source target prepared fault) where
  key-right : key_fault source target prepared ≡ None
  key-right = by (key_fault source target prepared) refl
    where
      by : (o : Option InputFault) → key_fault source target prepared ≡ o → key_fault source target prepared ≡ None
      by None e = e
      by (Some fault) e = absurd (right fault (inl e))

  key-integer : has_rowid_key target ≡ true → is_integer (slice_index_or prepared.key 0 Null) ≡ true
  key-integer keyed =
      let behind = if-none (list_any is_null prepared.key) (KeyNull source prepared.data_rowid)
      (if has_rowid_key target && not (is_integer (slice_index_or prepared.key 0 Null)) then Some (KeyMismatch source prepared.data_rowid)
      else (elim (key_changed target prepared.control) as (λ _. Option InputFault) [ Some column ↦ Some (KeyChanged source prepared.data_rowid column) | None ↦ None ])) key-right in
      let both = if-none (has_rowid_key target && not (is_integer (slice_index_or prepared.key 0 Null))) (KeyMismatch source prepared.data_rowid)
      (elim (key_changed target prepared.control) as (λ _. Option InputFault) [ Some column ↦ Some (KeyChanged source prepared.data_rowid column) | None ↦ None ]) behind.1 in
      and-not (has_rowid_key target) (is_integer (slice_index_or prepared.key 0 Null)) both.0 keyed

  -- the key of a table whose key is its rowid is one value
  one-value : HasRowidKey target → has_rowid_key target ≡ true → (v : Value) × (prepared.key ≡ v ∷ [])
  one-value shape keyed =
      let key = is.2.key in
      elim (shape keyed) as (λ _. (v : Value) × (prepared.key ≡ v ∷ [])) [
        | inl none ↦ (value_named own (codes "rbu_rowid") is.0, key ∙ ap (λ (places : List ℕ). key_at places (value_named own (codes "rbu_rowid") is.0) prepared.values) none)
        | inr one ↦ (slice_index_or prepared.values one.0 Null, key ∙ ap (λ (places : List ℕ). key_at places (value_named own (codes "rbu_rowid") is.0) prepared.values) one.2)
      ]

  key-is : HasRowidKey target → HasIntegerKey target prepared
  key-is shape keyed =
      let one = one-value shape keyed in
      let integer = integer-of one.0 (sym (ap (λ (key : List Value). is_integer (slice_index_or key 0 Null)) one.1) ∙ key-integer keyed) in
      (integer.0, one.1 ∙ ap (λ (v : Value). v ∷ []) integer.1)

  row-usable : HasRowidKey target → IsUsable target prepared
  row-usable shape = record {
    many = ap length is.2.values ∙ length-map (column_names target) (λ (name : List ℕ). value_named own name is.0) ∙ length-map target.columns (λ (column : Column). column.name);
    key = key-is shape;
  }

-- What is found.

-- it is not wrong, behind some others
abbrev NotWrong : Catalog → Input → Type 0
NotWrong catalog one = (before : List Input) × ((fault : InputFault) → ¬ IsWrongInput catalog before one fault)

each-right : (catalog : Catalog) (inputs before : List Input) → AllRight catalog before inputs → AllByRecursion (NotWrong catalog) inputs
each-right catalog [] before all = tt
each-right catalog (one ∷ inputs) before all = ((before, all.0), each-right catalog inputs (before ++ one ∷ []) all.1)

batches-append : (front back : List Input) → batches_in (front ++ back) ≡ batches_in front ++ batches_in back
batches-append [] back = refl
batches-append (Opens source ∷ front) back = batches-append front back
batches-append (Reads opened member prepared ∷ front) back = batches-append front back
batches-append (Damages stop ∷ front) back = batches-append front back
batches-append (Closes opened rows ∷ front) back = ap (λ (batches : List Batch). record { table = opened.name; source = opened.source; rows = rows } ∷ batches) (batches-append front back)

module _ (opened : Opened) where
  -- a row of this table, or damage
  abbrev FromTree : Input → Type 0
  FromTree (Opens source) = ⊥
  FromTree (Reads other member prepared) = (other ≡ opened) × OrNone (IsPrepared opened.target opened.own member) prepared
  FromTree (Damages stop) = Unit {0}
  FromTree (Closes other rows) = ⊥

  input-from : (finding : Finding) (inputs : List Input) → IsInputOf opened finding inputs → AllByRecursion FromTree inputs
  input-from (Holds page member) inputs (prepared, is, e) = subst⁻¹ (AllByRecursion FromTree) e ((refl, is), tt)
  input-from (Breaks page rule) inputs e = subst⁻¹ (AllByRecursion FromTree) e (tt, tt)
  input-from (Disorders page) inputs e = subst⁻¹ (AllByRecursion FromTree) e (tt, tt)
  input-from (Finds page) inputs e = subst⁻¹ (AllByRecursion FromTree) e tt
  input-from (Ends page depth) inputs e = subst⁻¹ (AllByRecursion FromTree) e tt
  input-from (Bares page) inputs e = subst⁻¹ (AllByRecursion FromTree) e tt

  inputs-from : (findings : List Finding) (parts : List (List Input)) → AllZip (IsInputOf opened) findings parts → AllByRecursion FromTree (flat_map (λ (part : List Input). part) parts)
  inputs-from [] [] are = tt
  inputs-from [] (part ∷ parts) are = absurd are
  inputs-from (finding ∷ findings) [] are = absurd are
  inputs-from (finding ∷ findings) (part ∷ parts) are =
      all-join FromTree part (flat_map (λ (p : List Input). p) parts) (input-from finding part are.0) (inputs-from findings parts are.1)

  no-batches : (inputs : List Input) → AllByRecursion FromTree inputs → batches_in inputs ≡ []
  no-batches [] all = refl
  no-batches (Opens source ∷ inputs) all = absurd all.0
  no-batches (Reads other member prepared ∷ inputs) all = no-batches inputs all.1
  no-batches (Damages stop ∷ inputs) all = no-batches inputs all.1
  no-batches (Closes other rows ∷ inputs) all = absurd all.0

  -- what each prepared row has that is not wrong
  rows-all : (catalog : Catalog) (P : Prepared → Type 0)
      → ((member : Member) (prepared : Prepared) → IsPrepared opened.target opened.own member prepared → ((fault : InputFault) → ¬ IsWrongRow opened.source opened.target prepared fault) → P prepared)
      → (inputs : List Input) → AllByRecursion FromTree inputs → AllByRecursion (NotWrong catalog) inputs → AllByRecursion P (filter_map prepared_in inputs)
  rows-all catalog P each [] from right = tt
  rows-all catalog P each (Opens source ∷ inputs) from right = absurd from.0
  rows-all catalog P each (Reads other member None ∷ inputs) from right = rows-all catalog P each inputs from.1 right.1
  rows-all catalog P each (Reads other member (Some prepared) ∷ inputs) from right =
      (each member prepared from.0.1 (λ fault wrong. right.0.1 fault (inl (subst⁻¹ (λ (o : Opened). IsWrongRow o.source o.target prepared fault) from.0.0 wrong))), rows-all catalog P each inputs from.1 right.1)
  rows-all catalog P each (Damages stop ∷ inputs) from right = rows-all catalog P each inputs from.1 right.1
  rows-all catalog P each (Closes other rows ∷ inputs) from right = absurd from.0

  no-twice : (catalog : Catalog) (rows : List Prepared) → NotWrong catalog (Closes opened rows) → key_twice opened.target [] rows ≡ None
  no-twice catalog rows right = by (key_twice opened.target [] rows) refl
    where
      by : (o : Option (Prepared × Prepared)) → key_twice opened.target [] rows ≡ o → key_twice opened.target [] rows ≡ None
      by None e = e
      by (Some (first, second)) e = absurd (right.1 (DuplicateKey opened.source first.data_rowid second.data_rowid) (first, second, e, refl))

-- A batch can be used: its table is named and its text is read; its rows have keys of which no two are one, and a value for each column, and an integer for a key that is the rowid.
pub record IsReadyBatch (catalog : Catalog) (batch : Batch) : Type 0 where
  pub named : NamedEntry
  pub found : table_named batch.table catalog.tables ≡ Some named
  pub table : Table
  pub meaning : named.entry.meaning ≡ Ok table
  pub keys : HaveKeys table batch.rows
  pub rows : HasRowidKey table → AllByRecursion (IsUsable table) batch.rows

module _ (sizes : Sizes) (base : Paged) (catalog : Catalog) where
  closed-ready : (source : DataTable) (opened : Opened) → IsOpened catalog source opened → (tree : List Input) → AllByRecursion (FromTree opened) tree → AllByRecursion (NotWrong catalog) tree
      → NotWrong catalog (Closes opened (filter_map prepared_in tree)) → IsReadyBatch catalog (record { table = opened.name; source = opened.source; rows = filter_map prepared_in tree })
  closed-ready source opened is tree from right closed = record {
    named = is.named;
    found = subst⁻¹ (λ (name : List ℕ). table_named name catalog.tables ≡ Some is.named) is.name_is (named-itself catalog.tables source.target is.named is.found);
    table = opened.target;
    meaning = is.target;
    keys = record {
      long = rows-all opened catalog (λ (row : Prepared). length (key_columns opened.target) ≤ length row.key) (λ member prepared prepares none. prepared-keyed opened.target opened.own member prepared prepares) tree from right;
      differ = twice-pairs opened.target (filter_map prepared_in tree) [] (no-twice opened catalog (filter_map prepared_in tree) closed);
    };
    rows = λ shape. rows-all opened catalog (IsUsable opened.target) (λ member prepared prepares none. row-usable opened.source opened.target opened.own member prepared prepares none shape) tree from right;
  }

  table-ready : (source : DataTable) (inputs : List Input) → IsTableInput sizes base catalog source inputs → AllByRecursion (NotWrong catalog) inputs → AllByRecursion (IsReadyBatch catalog) (batches_in inputs)
  table-ready source inputs (inl (fault, is, e)) right = subst⁻¹ (λ (i : List Input). AllByRecursion (IsReadyBatch catalog) (batches_in i)) e tt
  table-ready source inputs (inr (opened, findings, parts, is, walk, are, e)) right =
      let tree = flat_map (λ (part : List Input). part) parts in
      let from = inputs-from opened findings parts are in
      let closes = Closes opened (filter_map prepared_in tree) in
      let all = (subst (AllByRecursion (NotWrong catalog)) e right).1 in
      let one = closed-ready source opened is tree from (all-front (NotWrong catalog) tree (closes ∷ []) all) (all-back (NotWrong catalog) tree (closes ∷ []) all).0 in
      subst⁻¹ (λ (i : List Input). AllByRecursion (IsReadyBatch catalog) (batches_in i)) e
      (subst⁻¹ (AllByRecursion (IsReadyBatch catalog)) (batches-append tree (closes ∷ []) ∙ ap (λ (b : List Batch). b ++ batches_in (closes ∷ [])) (no-batches opened tree from)) (one, tt))

  parts-ready : (tables : List DataTable) (parts : List (List Input)) → AllZip (IsTableInput sizes base catalog) tables parts → AllByRecursion (NotWrong catalog) (flat_map (λ (part : List Input). part) parts)
      → AllByRecursion (IsReadyBatch catalog) (batches_in (flat_map (λ (part : List Input). part) parts))
  parts-ready [] [] are right = tt
  parts-ready [] (part ∷ parts) are right = absurd are
  parts-ready (source ∷ tables) [] are right = absurd are
  parts-ready (source ∷ tables) (part ∷ parts) are right =
      let rest = flat_map (λ (p : List Input). p) parts in
      subst⁻¹ (AllByRecursion (IsReadyBatch catalog)) (batches-append part rest)
      (all-join (IsReadyBatch catalog) (batches_in part) (batches_in rest) (table-ready source part are.0 (all-front (NotWrong catalog) part rest right))
      (parts-ready tables parts are.1 (all-back (NotWrong catalog) part rest right)))

  -- each batch that is read where nothing is wrong can be used
  pub batches-ready : (rbu : Catalog) (inputs : List Input) → AreInputs sizes base catalog rbu inputs → AllRight catalog [] inputs → AllByRecursion (IsReadyBatch catalog) (batches_in inputs)
  batches-ready rbu inputs are right =
      subst⁻¹ (λ (i : List Input). AllByRecursion (IsReadyBatch catalog) (batches_in i)) are.inputs_are
      (parts-ready are.tables are.parts are.are_parts (subst (AllByRecursion (NotWrong catalog)) are.inputs_are (each-right catalog inputs [] right)))
