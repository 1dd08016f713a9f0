-- A table has rows behind prepared rows whose keys differ: crates above cite these facts in their proofs.
use Rattle.std.proofs.Common.{◌≡◌, ◌≢◌, ℕ, ℤ, zero, suc, pos, ◌+◌, ◌+ℤ◌, ◌<◌, ◌≤◌, ◌<ℤ◌, ◌≤ℤ◌, ◌&&◌, ◌||◌, ◌⊎◌, not, Bool, true, false, List, [], ◌∷◌, ◌++◌, length, map, Option, Some, None, if◌then◌else◌, cond, refl, sym, ap, ap₂, ◌∙◌, subst, inl, inr, arith}
use Rattle.std.proofs.Math.Path.{subst⁻¹}
use Rattle.std.specs.Prelude.{IsPermutation, filter, filter_map, find, slice_index_or}
use Rattle.std.specs.List.{AllByRecursion, cons_option, list_any}
use Rattle.std.specs.Ordering.{int_cmp, is_eq, ordering_reverse}
use Rattle.std.specs.declared.cmp.Ordering.{Ordering}
use Rattle.std.specs.declared.cmp.Ordering.TheVariants.{Less, Equal, Greater}
use Rattle.std.specs.Cmp.{IsTotalOrder, on_total, int_cmp_total}
use Rattle.std.proofs.lemmas.Cmp.{int_ranked}
use Rattle.std.proofs.lemmas.Bool.{and_parts}
use Rattle.std.proofs.lemmas.Int.{ints}
use Rattle.std.proofs.lemmas.List.{length-set, get_or-set_same, length-map}
use Rattle.tree_spec.specs.WorldsLaws.{all-join}
use Rattle.rbu_value.specs.declared.order.Collation.{Collation}
use Rattle.rbu_value.specs.declared.value.Value.{Value}
use Rattle.rbu_value.specs.declared.value.Value.TheVariants.{Null, Int}
use Rattle.rbu_rows.specs.declared.control.Control.{Control}
use Rattle.rbu_rows.specs.declared.control.Control.TheVariants.{Insert, Replace, Delete, Update}
use Rattle.rbu_rows.specs.declared.prepared.Prepared.{Prepared}
use Rattle.schema_spec.specs.declared.schema.Table.{Table}
use Rattle.database_spec.specs.Rows.{TableRow, with_rowid}
use Rattle.database_spec.specs.Keys.{columns_cmp, is_null}
use Rattle.database_spec.specs.KeysLaws.{columns-reverse}
use Rattle.database_spec.specs.ListsLaws.{PairsByRecursion, pairs-from}
use Rattle.prepared_spec.specs.RowKeys.{key_at, key_collations, row_key, key_cmp, meets, is_met, has_rowid_key, IsInKeyOrder}
use Rattle.prepared_spec.specs.Tables.{same_values, written_row, with_values, marked, met_row, row_after, is_new, integer_in, new_rowid, new_rows, count_new, IsAfterBatch, IsAfterBatches, makes_row}
use Rattle.prepared_spec.specs.declared.violation.Violation.{Violation}
use Rattle.prepared_spec.specs.Plans.{batch_faults, AreFaults}
use Rattle.prepared_spec.specs.MembersLaws.{true-false}
use Rattle.prepared_laws.specs.SortsLaws.{in_order, in_order-permutes, in_order-all, in_order-sorted, on-if, all-weaken}
use Rattle.prepared_laws.specs.PaddedKeysLaws.{padded_cmp, padded-same, padded-total}

-- pairs of items of which each has P
pub all-with : {A : Type 0} (P Q R : A → Type 0) (xs : List A) → ((x : A) → P x → Q x → R x) → AllByRecursion P xs → AllByRecursion Q xs → AllByRecursion R xs
all-with P Q R [] both p q = tt
all-with P Q R (x ∷ xs) both p q = (both x p.0 q.0, all-with P Q R xs both p.1 q.1)

pub pairs-with : {A : Type 0} (P : A → Type 0) (S T : A → A → Type 0) (xs : List A) → ((x y : A) → P x → P y → S x y → T x y) → AllByRecursion P xs → PairsByRecursion S xs → PairsByRecursion T xs
pairs-with P S T [] change all pairs = tt
pairs-with P S T (x ∷ xs) change all pairs = (all-with P (S x) (T x) xs (λ y p s. change x y all.0 p s) all.1 pairs.0, pairs-with P S T xs change all.1 pairs.1)

pub pairs-weaken : {A : Type 0} (S T : A → A → Type 0) (xs : List A) → ((x y : A) → S x y → T x y) → PairsByRecursion S xs → PairsByRecursion T xs
pairs-weaken S T [] change pairs = tt
pairs-weaken S T (x ∷ xs) change pairs = (all-weaken (S x) (T x) xs (change x) pairs.0, pairs-weaken S T xs change pairs.1)

pub pairs-join : {A : Type 0} (S : A → A → Type 0) (xs ys : List A) → PairsByRecursion S xs → PairsByRecursion S ys → AllByRecursion (λ x. AllByRecursion (S x) ys) xs → PairsByRecursion S (xs ++ ys)
pairs-join S [] ys p q across = q
pairs-join S (x ∷ xs) ys p q across = (all-join (S x) xs ys p.0 across.0, pairs-join S xs ys p.1 q across.1)

-- Keys.

abbrev pub key_columns : Table → List (Collation × Bool)
key_columns table = map (λ (collation : Collation). (collation, false)) (key_collations table)

-- prepared rows of a batch have keys of all columns, of which no two are one
pub record HaveKeys (table : Table) (rows : List Prepared) : Type 0 where
  pub long : AllByRecursion (λ (row : Prepared). length (key_columns table) ≤ length row.key) rows
  pub differ : PairsByRecursion (λ (a b : Prepared). key_cmp table a.key b.key ≢ Equal) rows

abbrev pub by_key : Table → Prepared → Prepared → Ordering
by_key table a b = padded_cmp (key_columns table) a.key b.key

by_key-total : (table : Table) → IsTotalOrder (by_key table)
by_key-total table = on_total (λ (row : Prepared). row.key) (padded-total (key_columns table))

-- such rows in order of their keys
abbrev pub key_ordered : Table → List Prepared → List Prepared
key_ordered table rows = in_order (by_key table) rows

pub key_ordered-pairs : (table : Table) (rows : List Prepared) → HaveKeys table rows → PairsByRecursion (λ (a b : Prepared). key_cmp table a.key b.key ≡ Less) (key_ordered table rows)
key_ordered-pairs table rows have =
    let Long = λ (row : Prepared). length (key_columns table) ≤ length row.key in
    let differ =
    pairs-with Long (λ (a b : Prepared). key_cmp table a.key b.key ≢ Equal) (λ (a b : Prepared). by_key table a b ≢ Equal) rows (λ a b p q unlike same. unlike (padded-same (key_columns table) a.key b.key p q ∙ same))
    have.long have.differ in
    pairs-with Long (λ (a b : Prepared). by_key table a b ≡ Less) (λ (a b : Prepared). key_cmp table a.key b.key ≡ Less) (key_ordered table rows) (λ a b p q below. padded-same (key_columns table) a.key b.key p q ∙ below)
    (in_order-all (by_key table) Long rows have.long) (in_order-sorted (by_key table) (by_key-total table) rows differ)

pub key_ordered-is : (table : Table) (rows : List Prepared) → HaveKeys table rows → IsInKeyOrder table rows (key_ordered table rows)
key_ordered-is table rows have = record {
  all = in_order-permutes (by_key table) rows;
  sorted = pairs-from (λ (a b : Prepared). key_cmp table a.key b.key ≡ Less) (key_ordered table rows) (key_ordered-pairs table rows have);
}

-- Rows.

abbrev pub by_rowid : TableRow → TableRow → Ordering
by_rowid a b = int_cmp a.rowid b.rowid

-- no two rows have one rowid
abbrev pub Apart : List TableRow → Type 0
Apart rows = PairsByRecursion (λ (a b : TableRow). a.rowid ≢ b.rowid) rows

-- rows in order of their rowids
abbrev pub row_ordered : List TableRow → List TableRow
row_ordered rows = in_order by_rowid rows

row_ordered-pairs : (rows : List TableRow) → Apart rows → PairsByRecursion (λ (a b : TableRow). a.rowid <ℤ b.rowid) (row_ordered rows)
row_ordered-pairs rows apart =
    let differ = pairs-weaken (λ (a b : TableRow). a.rowid ≢ b.rowid) (λ (a b : TableRow). by_rowid a b ≢ Equal) rows (λ a b unlike same. unlike (int_ranked a.rowid b.rowid Equal (sym same))) apart in
    pairs-weaken (λ (a b : TableRow). by_rowid a b ≡ Less) (λ (a b : TableRow). a.rowid <ℤ b.rowid) (row_ordered rows) (λ a b less. int_ranked a.rowid b.rowid Less (sym less))
    (in_order-sorted by_rowid (on_total (λ (row : TableRow). row.rowid) int_cmp_total) rows differ)

-- a row has a value for each column, and its rowid for an INTEGER PRIMARY KEY
pub record IsFit (table : Table) (row : TableRow) : Type 0 where
  pub many : length row.values ≡ length table.columns
  pub keyed : (column : ℕ) → table.rowid_column ≡ Some column → slice_index_or row.values column Null ≡ Int row.rowid

-- the INTEGER PRIMARY KEY is one of the columns
abbrev pub HasRowidColumn : Table → Type 0
HasRowidColumn table = (column : ℕ) → table.rowid_column ≡ Some column → column < length table.columns

pub with_rowid-many : (o : Option ℕ) (rowid : ℤ) (values : List Value) → length (with_rowid o rowid values) ≡ length values
with_rowid-many None rowid values = refl
with_rowid-many (Some column) rowid values = length-set values column (Int rowid)

module _ (format : ℕ) (table : Table) (has : HasRowidColumn table) where
  written-fit : (rowid : ℤ) (values : List Value) → length values ≡ length table.columns → IsFit table (written_row format table rowid values)
  written-fit rowid values many = record {
    many = with_rowid-many table.rowid_column rowid values ∙ many;
    keyed = λ column e.
        subst⁻¹ (λ (o : Option ℕ). slice_index_or (with_rowid o rowid values) column Null ≡ Int rowid) e
        (get_or-set_same values column (Int rowid) Null (omega (arith, has column e, many)));
  }

  with_values-fit : (row : TableRow) (values : List Value) → IsFit table row → length values ≡ length table.columns → ((with_values format table row values).rowid ≡ row.rowid) × IsFit table (with_values format table row values)
  with_values-fit row values fit many =
      on-if (λ (r : TableRow). (r.rowid ≡ row.rowid) × IsFit table r) (same_values row.values (with_rowid table.rowid_column row.rowid values)) row (written_row format table row.rowid values)
      (λ e. (refl, fit)) (λ e. (refl, written-fit row.rowid values many))

  marked-many : (marks : List Bool) (values old : List Value) → length (marked marks values old) ≡ length old
  marked-many [] values old = refl
  marked-many (mark ∷ marks) [] old = refl
  marked-many (mark ∷ marks) (a ∷ values) [] = refl
  marked-many (mark ∷ marks) (a ∷ values) (b ∷ old) = ap suc (marked-many marks values old)

  abbrev Becomes : TableRow → TableRow → Type 0
  Becomes row r = (r.rowid ≡ row.rowid) × IsFit table r

  some-become : (row made r : TableRow) → Becomes row made → Some made ≡ Some r → Becomes row r
  some-become row made r b e = let same : made ≡ r = cc in subst (Becomes row) same b

  met-becomes : (row : TableRow) (control : Control) (values : List Value) (r : TableRow) → IsFit table row → length values ≡ length table.columns → met_row format table row control values ≡ Some r → Becomes row r
  met-becomes row Insert values r fit many e = some-become row row r (refl, fit) e
  met-becomes row Replace values r fit many e = some-become row (with_values format table row values) r (with_values-fit row values fit many) e
  met-becomes row Delete values r fit many e = absurd (let h : ⊥ = cc in h)
  met-becomes row (Update marks) values r fit many e =
      some-become row (with_values format table row (marked marks values row.values)) r (with_values-fit row (marked marks values row.values) fit (marked-many marks values row.values ∙ fit.many)) e

  abbrev Many : Prepared → Type 0
  Many row = length row.values ≡ length table.columns

  found-many : (test : Prepared → Bool) (rows : List Prepared) (row : Prepared) → AllByRecursion Many rows → find test rows ≡ Some row → Many row
  found-many test [] row all e = absurd (let h : ⊥ = cc in h)
  found-many test (p ∷ rows) row all e = by (test p) e (λ f. found-many test rows row all.1 f)
    where
      by : (t : Bool) → cond t (Some p) (find test rows) ≡ Some row → (find test rows ≡ Some row → Many row) → Many row
      by true f later = let same : p ≡ row = cc in subst Many same all.0
      by false f later = later f

  after-becomes : (rows : List Prepared) (row r : TableRow) → AllByRecursion Many rows → IsFit table row → row_after format table rows row ≡ Some r → Becomes row r
  after-becomes rows row r all fit e = by (find (meets table row) rows) refl e
    where
      by : (o : Option Prepared) → find (meets table row) rows ≡ o
          → (elim o as (λ _. Option TableRow) [ None ↦ Some row | Some prepared ↦ met_row format table row prepared.control prepared.values ]) ≡ Some r → Becomes row r
      by None f g = some-become row row r (refl, fit) g
      by (Some prepared) f g = met-becomes row prepared.control prepared.values r fit (found-many (meets table row) rows prepared all f) g

  -- what becomes of rows
  kept-all : (P Q : TableRow → Type 0) (h : TableRow → Option TableRow) (xs : List TableRow) → ((x r : TableRow) → P x → h x ≡ Some r → Q r) → AllByRecursion P xs → AllByRecursion Q (filter_map h xs)
  kept-all P Q h [] step all = tt
  kept-all P Q h (x ∷ xs) step all = by (h x) refl (kept-all P Q h xs step all.1)
    where
      by : (o : Option TableRow) → h x ≡ o → AllByRecursion Q (filter_map h xs) → AllByRecursion Q (cons_option o (filter_map h xs))
      by None e rest = rest
      by (Some r) e rest = (step x r all.0 e, rest)

  kept-apart : (P : TableRow → Type 0) (h : TableRow → Option TableRow) (xs : List TableRow) → ((x r : TableRow) → P x → h x ≡ Some r → r.rowid ≡ x.rowid) → AllByRecursion P xs → Apart xs → Apart (filter_map h xs)
  kept-apart P h [] step all apart = tt
  kept-apart P h (x ∷ xs) step all apart = by (h x) refl (kept-apart P h xs step all.1 apart.1)
    where
      by : (o : Option TableRow) → h x ≡ o → Apart (filter_map h xs) → Apart (cons_option o (filter_map h xs))
      by None e rest = rest
      by (Some r) e rest = (
        kept-all (λ y. P y × (x.rowid ≢ y.rowid)) (λ s. r.rowid ≢ s.rowid) h xs
            (λ y s p f same. p.1 (sym (step x r all.0 e) ∙ same ∙ step y s p.0 f))
            (all-with P (λ y. x.rowid ≢ y.rowid) (λ y. P y × (x.rowid ≢ y.rowid)) xs (λ y p q. (p, q)) all.1 apart.0),
        rest,
      )

-- New rows.

-- the key of a table is one column at most, where it is the rowid
abbrev pub HasRowidKey : Table → Type 0
HasRowidKey table = has_rowid_key table ≡ true → (table.key ≡ []) ⊎ ((column : ℕ) × (table.rowid_column ≡ Some column) × (table.key ≡ column ∷ []))

-- the key of a prepared row is an integer, where it is the rowid
abbrev pub HasIntegerKey : Table → Prepared → Type 0
HasIntegerKey table prepared = has_rowid_key table ≡ true → (z : ℤ) × (prepared.key ≡ Int z ∷ [])

itself : (o : Ordering) → o ≡ ordering_reverse o → o ≡ Equal
itself Less e = absurd (let h : ◌≡◌ {A = Ordering} Less Greater = e in let no : ⊥ = cc in no)
itself Equal e = refl
itself Greater e = absurd (let h : ◌≡◌ {A = Ordering} Greater Less = e in let no : ⊥ = cc in no)

key-itself : (table : Table) (a : List Value) → key_cmp table a a ≡ Equal
key-itself table a = itself (key_cmp table a a) (columns-reverse (key_columns table) a a)

or-none : (s t : Bool) → (s || t) ≡ false → (s ≡ false) × (t ≡ false)
or-none true t e = absurd (let h : ◌≡◌ {A = Bool} true false = e in let no : ⊥ = cc in no)
or-none false t e = (refl, e)

not-true : (t : Bool) → not t ≡ true → t ≡ false
not-true true e = absurd (let h : ◌≡◌ {A = Bool} false true = e in let no : ⊥ = cc in no)
not-true false e = refl

module _ (format : ℕ) (table : Table) (g : ℤ) (before : List TableRow) where
  abbrev Made : ℕ → Prepared → TableRow
  Made n prepared = written_row format table (new_rowid table g (suc n) prepared) prepared.values

  new-all : (P : Prepared → Type 0) (Q : TableRow → Type 0) (least : ℕ) (rows : List Prepared) (taken : ℕ) → least ≤ taken
      → ((n : ℕ) (p : Prepared) → least ≤ n → P p → is_new table before p ≡ true → Q (Made n p)) → AllByRecursion P rows → AllByRecursion Q (new_rows format table g taken before rows)
  new-all P Q least [] taken enough step all = tt
  new-all P Q least (p ∷ rows) taken enough step all =
      on-if (AllByRecursion Q) (is_new table before p) (Made taken p ∷ new_rows format table g (suc taken) before rows) (new_rows format table g taken before rows)
      (λ e. (step taken p enough all.0 e, new-all P Q least rows (suc taken) (omega (arith, enough)) step all.1)) (λ e. new-all P Q least rows taken enough step all.1)

  new-apart : (P : Prepared → Type 0) (S : Prepared → Prepared → Type 0) (rows : List Prepared) (taken : ℕ)
      → ((m n : ℕ) (a b : Prepared) → m < n → P a → P b → S a b → new_rowid table g (suc m) a ≢ new_rowid table g (suc n) b) → AllByRecursion P rows → PairsByRecursion S rows
      → Apart (new_rows format table g taken before rows)
  new-apart P S [] taken differ all pairs = tt
  new-apart P S (p ∷ rows) taken differ all pairs =
      on-if Apart (is_new table before p) (Made taken p ∷ new_rows format table g (suc taken) before rows) (new_rows format table g taken before rows)
      (λ e. (
        new-all (λ q. P q × S p q) (λ r. new_rowid table g (suc taken) p ≢ r.rowid) (suc taken) rows (suc taken) (omega arith)
            (λ n q enough both is. differ taken n p q (omega (arith, enough)) all.0 both.0 both.1) (all-with P (S p) (λ q. P q × S p q) rows (λ q a b. (a, b)) all.1 pairs.0),
        new-apart P S rows (suc taken) differ all.1 pairs.1,
      ))
      (λ e. new-apart P S rows taken differ all.1 pairs.1)

  abbrev rowid_by : Bool → ℕ → Prepared → ℤ
  rowid_by t n p = if t then integer_in (slice_index_or p.key 0 Null) else (g +ℤ pos n)

  -- two new rows have two rowids
  rowids-differ : (m n : ℕ) (a b : Prepared) → m < n → HasIntegerKey table a → HasIntegerKey table b → key_cmp table a.key b.key ≡ Less → new_rowid table g (suc m) a ≢ new_rowid table g (suc n) b
  rowids-differ m n a b less p q below = by (has_rowid_key table) refl
    where
      by : (t : Bool) → has_rowid_key table ≡ t → rowid_by t (suc m) a ≢ rowid_by t (suc n) b
      by false e same = omega (arith, ints, less, same)
      by true e same =
          let x = p e in
          let y = q e in
          let numbers : x.0 ≡ y.0 =
          sym (ap (λ (k : List Value). integer_in (slice_index_or k 0 Null)) x.1) ∙ same ∙ ap (λ (k : List Value). integer_in (slice_index_or k 0 Null)) y.1 in
          let keys : a.key ≡ b.key = x.1 ∙ ap (λ z. Int z ∷ []) numbers ∙ sym y.1 in
          let h : ◌≡◌ {A = Ordering} Less Equal = sym below ∙ ap (key_cmp table a.key) (sym keys) ∙ key-itself table a.key in
          let no : ⊥ = cc in no

  -- the row does not have the rowid of a new one
  abbrev Unmet : TableRow → Type 0
  Unmet row = (p : Prepared) → is_new table before p ≡ true → meets table row p ≡ false

  unmet : (xs : List TableRow) → ((p : Prepared) → is_new table before p ≡ true → is_met table xs p ≡ false) → AllByRecursion Unmet xs
  unmet [] none = tt
  unmet (row ∷ xs) none =
      (λ p new_. (or-none (meets table row p) (is_met table xs p) (none p new_)).0, unmet xs (λ p new_. (or-none (meets table row p) (is_met table xs p) (none p new_)).1))

  old-unmet : AllByRecursion Unmet before
  old-unmet = unmet before (λ p new_. not-true (is_met table before p) (and_parts (makes_row p.control) (not (is_met table before p)) new_).1)

  keyed-is : (row : TableRow) → HasRowidKey table → has_rowid_key table ≡ true → IsFit table row → row_key table row ≡ Int row.rowid ∷ []
  keyed-is row shape e fit =
      elim (shape e) [
        | inl none ↦ subst⁻¹ (λ (k : List ℕ). key_at k (Int row.rowid) row.values ≡ Int row.rowid ∷ []) none refl
        | inr one ↦
            subst⁻¹ (λ (k : List ℕ). key_at k (Int row.rowid) row.values ≡ Int row.rowid ∷ []) one.2 (ap (λ (v : Value). v ∷ []) (fit.keyed one.0 one.1))
      ]

  equal-is : (o : Ordering) → o ≡ Equal → is_eq o ≡ true
  equal-is o e = ap is_eq e

  rowid-other : (row : TableRow) (taken n : ℕ) (p : Prepared) → HasRowidKey table → IsFit table row → (has_rowid_key table ≡ false → row.rowid ≤ℤ (g +ℤ pos taken)) → taken ≤ n → Unmet row → HasIntegerKey table p
      → is_new table before p ≡ true → row.rowid ≢ new_rowid table g (suc n) p
  rowid-other row taken n p shape fit below enough none key new_ = by (has_rowid_key table) refl
    where
      by : (t : Bool) → has_rowid_key table ≡ t → row.rowid ≢ rowid_by t (suc n) p
      by false e same = omega (arith, ints, below e, enough, same)
      by true e same =
          let k = key e in
          let number : row.rowid ≡ k.0 = same ∙ ap (λ (v : List Value). integer_in (slice_index_or v 0 Null)) k.1 in
          let own : row_key table row ≡ Int k.0 ∷ [] = keyed-is row shape e fit ∙ ap (λ z. Int z ∷ []) number in
          let met : meets table row p ≡ true =
          subst⁻¹ (λ (v : List Value). (is_eq (key_cmp table p.key v) && not (list_any is_null v)) ≡ true) own
          (subst⁻¹ (λ (v : List Value). (is_eq (key_cmp table v (Int k.0 ∷ [])) && true) ≡ true) k.1 (ap (λ t. t && true) (equal-is (key_cmp table (Int k.0 ∷ []) (Int k.0 ∷ [])) (key-itself table (Int k.0 ∷ []))))) in
          true-false (meets table row p) met (none p new_)

-- A table midway through the batches of a group: so many of its new rows are there.
pub record IsReached (table : Table) (g : ℤ) (taken : ℕ) (rows : List TableRow) : Type 0 where
  pub fit : AllByRecursion (IsFit table) rows
  pub apart : Apart rows
  pub below : AllByRecursion (λ (row : TableRow). has_rowid_key table ≡ false → row.rowid ≤ℤ (g +ℤ pos taken)) rows

-- what prepared rows have to have for their table
pub record IsUsable (table : Table) (prepared : Prepared) : Type 0 where
  pub many : length prepared.values ≡ length table.columns
  pub key : HasIntegerKey table prepared

less-unlike : (a b : ℤ) → a <ℤ b → a ≢ b
less-unlike a b less same = omega (arith, ints, less, same)

module _ (format : ℕ) (table : Table) (has : HasRowidColumn table) (shape : HasRowidKey table) (g : ℤ) where
  abbrev Below : ℕ → TableRow → Type 0
  Below taken row = has_rowid_key table ≡ false → row.rowid ≤ℤ (g +ℤ pos taken)

  below-more : (m n : ℕ) (row : TableRow) → m ≤ n → Below m row → Below n row
  below-more m n row less below e = omega (arith, ints, below e, less)

  new-below : (before : List TableRow) (rows : List Prepared) (taken : ℕ) → AllByRecursion (Below (taken + count_new table before rows)) (new_rows format table g taken before rows)
  new-below before [] taken = tt
  new-below before (p ∷ rows) taken = by (is_new table before p) refl (new-below before rows taken) (new-below before rows (suc taken))
    where
      by : (t : Bool) → is_new table before p ≡ t → AllByRecursion (Below (taken + count_new table before rows)) (new_rows format table g taken before rows)
          → AllByRecursion (Below (suc taken + count_new table before rows)) (new_rows format table g (suc taken) before rows)
          → AllByRecursion (Below (taken + length (cond t (p ∷ filter (is_new table before) rows) (filter (is_new table before) rows))))
          (if t then Made format table g before taken p ∷ new_rows format table g (suc taken) before rows else new_rows format table g taken before rows)
      by false e same next = same
      by true e same next =
          let more = length (filter (is_new table before) rows) in (
            λ f. subst⁻¹ (λ (t : Bool). (if t then integer_in (slice_index_or p.key 0 Null) else (g +ℤ pos (suc taken))) ≤ℤ (g +ℤ pos (taken + suc more))) f (omega (arith, ints)),
            all-weaken (Below (suc taken + more)) (Below (taken + suc more)) (new_rows format table g (suc taken) before rows) (λ row below. below-more (suc taken + more) (taken + suc more) row (omega arith) below) next,
          )

  abbrev InKeyOrder : List Prepared → Type 0
  InKeyOrder rows = PairsByRecursion (λ (a b : Prepared). key_cmp table a.key b.key ≡ Less) rows

  -- a table has rows behind a batch in key order, and goes on from there
  after_batch-some : (taken : ℕ) (before : List TableRow) (rows : List Prepared) → IsReached table g taken before → AllByRecursion (IsUsable table) rows → InKeyOrder rows
      → (after : List TableRow) × IsAfterBatch format table g taken before rows after × IsReached table g (taken + count_new table before rows) after
  after_batch-some taken before rows reached usable ordered =
      let Fit = IsFit table in
      let h = row_after format table rows in
      let more = taken + count_new table before rows in
      let kept = filter_map h before in
      let made = new_rows format table g taken before rows in
      let many = all-weaken (IsUsable table) (Many format table has) rows (λ p u. u.many) usable in
      let becomes = λ (x r : TableRow) (p : Fit x) (e : h x ≡ Some r). after-becomes format table has rows x r many p e in
      let kept_fit = kept-all format table has Fit Fit h before (λ x r p e. (becomes x r p e).1) reached.fit in
      let kept_apart = kept-apart format table has Fit h before (λ x r p e. (becomes x r p e).0) reached.fit reached.apart in
      let kept_below =
      kept-all format table has (λ x. Fit x × Below taken x) (Below more) h before
      (λ x r both e f. subst⁻¹ (λ (z : ℤ). z ≤ℤ (g +ℤ pos more)) (becomes x r both.0 e).0 (below-more taken more x (omega arith) both.1 f))
      (all-with Fit (Below taken) (λ x. Fit x × Below taken x) before (λ x p q. (p, q)) reached.fit reached.below) in
      let made_fit = new-all format table g before (IsUsable table) Fit 0 rows taken (omega arith) (λ n p enough u is. written-fit format table has (new_rowid table g (suc n) p) p.values u.many) usable in
      let made_apart =
      new-apart format table g before (IsUsable table) (λ (a b : Prepared). key_cmp table a.key b.key ≡ Less) rows taken (λ m n a b less p q s. rowids-differ format table g before m n a b less p.key q.key s) usable ordered in
      let Other = λ (x : TableRow). AllByRecursion (λ (y : TableRow). x.rowid ≢ y.rowid) made in
      let others =
      all-with (λ x. Fit x × Below taken x) (Unmet format table g before) Other before
      (λ x both none. new-all format table g before (IsUsable table) (λ (y : TableRow). x.rowid ≢ y.rowid) taken rows taken (omega arith)
      (λ n p enough u is. rowid-other format table g before x taken n p shape both.0 both.1 enough none u.key is) usable)
      (all-with Fit (Below taken) (λ x. Fit x × Below taken x) before (λ x p q. (p, q)) reached.fit reached.below) (old-unmet format table g before) in
      let across =
      kept-all format table has (λ x. Fit x × Other x) Other h before
      (λ x r both e. all-weaken (λ (y : TableRow). x.rowid ≢ y.rowid) (λ (y : TableRow). r.rowid ≢ y.rowid) made (λ y unlike same. unlike (sym (becomes x r both.0 e).0 ∙ same)) both.1)
      (all-with Fit Other (λ x. Fit x × Other x) before (λ x p q. (p, q)) reached.fit others) in
      let all = kept ++ made in
      let rise = row_ordered-pairs all (pairs-join (λ (a b : TableRow). a.rowid ≢ b.rowid) kept made kept_apart made_apart across) in (
        row_ordered all,
        record { all = in_order-permutes by_rowid all; rise = pairs-from (λ (a b : TableRow). a.rowid <ℤ b.rowid) (row_ordered all) rise },
        record {
          fit = in_order-all by_rowid Fit all (all-join Fit kept made kept_fit made_fit);
          apart = pairs-weaken (λ (a b : TableRow). a.rowid <ℤ b.rowid) (λ (a b : TableRow). a.rowid ≢ b.rowid) (row_ordered all) (λ a b less. less-unlike a.rowid b.rowid less) rise;
          below = in_order-all by_rowid (Below more) all (all-join (Below more) kept made kept_below (new-below before rows taken));
        },
      )

  abbrev pub AreUsable : List (List Prepared) → Type 0
  AreUsable batches = AllByRecursion (λ rows. AllByRecursion (IsUsable table) rows × InKeyOrder rows) batches

  pub after_batches-some : (taken : ℕ) (before : List TableRow) (batches : List (List Prepared)) → IsReached table g taken before → AreUsable batches
      → (after : List TableRow) × IsAfterBatches format table g taken before batches after × ((n : ℕ) × IsReached table g n after)
  after_batches-some taken before [] reached usable = (before, refl, (taken, reached))
  after_batches-some taken before (rows ∷ batches) reached usable =
      let here = after_batch-some taken before rows reached usable.0.0 usable.0.1 in
      let later = after_batches-some (taken + count_new table before rows) here.0 batches here.2 usable.1 in
      (later.0, (here.0, here.1, later.1), later.2)

  pub faults-some : (name : List ℕ) (taken : ℕ) (before : List TableRow) (batches : List (List Prepared)) → IsReached table g taken before → AreUsable batches
      → (faults : List (List (Option Violation))) × AreFaults format name table g taken before batches faults
  faults-some name taken before [] reached usable = ([], refl)
  faults-some name taken before (rows ∷ batches) reached usable =
      let here = after_batch-some taken before rows reached usable.0.0 usable.0.1 in
      let later = faults-some name (taken + count_new table before rows) here.0 batches here.2 usable.1 in
      (batch_faults name table g taken before rows ∷ later.0, (here.0, later.0, here.1, later.1, refl))
