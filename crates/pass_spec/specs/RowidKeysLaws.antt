-- Prepared rows whose key is the rowid meet the row of that rowid, and no two of a batch the same: crates above cite these facts in their proofs.
use Rattle.std.proofs.Common.{◌≡◌, ◌≢◌, ℕ, ℤ, zero, suc, ◌+◌, ◌+ℤ◌, pos, ◌<ℤ◌, ◌&&◌, ◌⊎◌, not, Bool, true, false, List, [], ◌∷◌, ◌++◌, map, Option, Some, None, if◌then◌else◌, cond, refl, sym, ap, ◌∙◌, subst, inl, inr, arith}
use Rattle.std.proofs.Math.Path.{subst⁻¹}
use Rattle.std.specs.Prelude.{bytes_eq, is_some, slice_index_or}
use Rattle.std.specs.List.{AllByRecursion, list_any}
use Rattle.std.specs.Ordering.{int_cmp, is_eq, ordering_then}
use Rattle.std.specs.Cmp.{int_cmp_is}
use Rattle.std.specs.declared.cmp.Ordering.{Ordering}
use Rattle.std.specs.declared.cmp.Ordering.TheVariants.{Less, Equal, Greater}
use Rattle.std.proofs.lemmas.Cmp.{int_ranked}
use Rattle.std.proofs.lemmas.Int.{ints}
use Rattle.std.proofs.lemmas.Slice.Eq.{bytes_eq-Decides}
use Rattle.rbu_value.specs.declared.order.Collation.{Collation}
use Rattle.rbu_value.specs.declared.order.Collation.TheVariants.{Binary}
use Rattle.rbu_value.specs.declared.value.Value.{Value}
use Rattle.rbu_value.specs.declared.value.Value.TheVariants.{Null, Int}
use Rattle.rbu_value.specs.OrderLaws.{value_cmp-integers}
use Rattle.rbu_rows.specs.declared.control.Control.{Control}
use Rattle.rbu_rows.specs.declared.control.Control.TheVariants.{Insert, Replace, Delete, Update}
use Rattle.rbu_rows.specs.declared.prepared.Prepared.{Prepared}
use Rattle.schema_spec.specs.declared.schema.Table.{Table}
use Rattle.tree_spec.specs.WorldsLaws.{all-front, all-back}
use Rattle.database_spec.specs.Rows.{TableRow, with_rowid}
use Rattle.database_spec.specs.Keys.{columns_cmp, is_null}
use Rattle.database_spec.specs.ListsLaws.{PairsByRecursion}
use Rattle.prepared_spec.specs.ChangesLaws.{all-has}
use Rattle.prepared_spec.specs.MembersLaws.{Has, eq-equal}
use Rattle.prepared_spec.specs.PlansLaws.{after_batch-one}
use Rattle.prepared_spec.specs.RowKeys.{collations_among, has_rowid_key, key_at, key_cmp, key_collations, meets, row_key}
use Rattle.prepared_spec.specs.Tables.{same_values, written_row, with_values, marked, met_row, integer_in, is_new, new_rowid, new_rows, count_new, IsAfterBatch}
use Rattle.prepared_laws.specs.SortsLaws.{on-if}
use Rattle.prepared_laws.specs.TablesMadeLaws.{HasIntegerKey, HasRowidKey, IsFit, IsReached, IsUsable, after_batches-some}
use Rattle.touched_rows.specs.TouchedRowsLaws.{apart-one}
use Rattle.pass_spec.specs.TableSteps.{AreDue, IsInBatch, IsStepped, taken_behind}
use Rattle.pass_spec.specs.BatchStepsLaws.{MeetsAlone, met-same, stepped-behind}

-- Lists.

pairs-front : {A : Type 0} (R : A → A → Type 0) (xs ys : List A) → PairsByRecursion R (xs ++ ys) → PairsByRecursion R xs
pairs-front R [] ys pairs = tt
pairs-front R (x ∷ xs) ys pairs = (all-front (R x) xs ys pairs.0, pairs-front R xs ys pairs.1)

pairs-last : {A : Type 0} (R : A → A → Type 0) (xs : List A) (y x : A) → PairsByRecursion R (xs ++ y ∷ []) → Has x xs → R x y
pairs-last R [] y x pairs h = absurd h
pairs-last R (z ∷ xs) y x pairs (inl e) = subst (λ (v : _). R v y) e (all-back (R z) xs (y ∷ []) pairs.0).0
pairs-last R (z ∷ xs) y x pairs (inr h) = pairs-last R xs y x pairs.1 h

-- Keys that are rowids.

among-one : (indexes : List (List (ℕ × Collation))) (column : ℕ) → (c : Collation) × (collations_among indexes (column ∷ []) ≡ c ∷ [])
among-one [] column = (Binary, refl)
among-one (columns ∷ indexes) column = by (among-one indexes column) (bytes_eq (map (λ (one : ℕ × Collation). one.0) columns) (column ∷ [])) refl
  where
    one : (cs : List (ℕ × Collation)) → map (λ (one : ℕ × Collation). one.0) cs ≡ column ∷ [] → (c : Collation) × (map (λ (one : ℕ × Collation). one.1) cs ≡ c ∷ [])
    one [] e = absurd (let h : ⊥ = cc in h)
    one (x ∷ []) e = (x.1, refl)
    one (x ∷ y ∷ more) e = absurd (let h : ⊥ = cc in h)

    by : (c : Collation) × (collations_among indexes (column ∷ []) ≡ c ∷ []) → (t : Bool) → bytes_eq (map (λ (one : ℕ × Collation). one.0) columns) (column ∷ []) ≡ t
        → (c : Collation) × ((if t then map (λ (one : ℕ × Collation). one.1) columns else collations_among indexes (column ∷ [])) ≡ c ∷ [])
    by rest true e = one columns ((bytes_eq-Decides (map (λ (one : ℕ × Collation). one.0) columns) (column ∷ [])).0 e)
    by rest false e = rest

then-last : (r : Ordering) → ordering_then r Equal ≡ r
then-last Less = refl
then-last Equal = refl
then-last Greater = refl

and-true : (t : Bool) → (t && true) ≡ t
and-true true = refl
and-true false = refl

module _ (table : Table) (shape : HasRowidKey table) (rowid_key : has_rowid_key table ≡ true) where
  one-collation : (c : Collation) × (key_collations table ≡ c ∷ [])
  one-collation =
      elim (shape rowid_key) [
        | inl none ↦ (Binary, by table.key none)
        | inr one ↦ let found = among-one table.unique one.0 in (found.0, keyed table.key table.key one.0 one.2 one.2 found.0 found.1)
      ]
    where
      by : (k : List ℕ) → k ≡ [] → (elim k as (λ _. List Collation) [ [] ↦ Binary ∷ [] | (place ∷ places) ↦ collations_among table.unique table.key ]) ≡ Binary ∷ []
      by [] e = refl
      by (place ∷ places) e = absurd (let h : ⊥ = cc in h)

      keyed : (k l : List ℕ) (column : ℕ) → k ≡ column ∷ [] → l ≡ column ∷ [] → (c : Collation) → collations_among table.unique (column ∷ []) ≡ c ∷ []
          → (elim k as (λ _. List Collation) [ [] ↦ Binary ∷ [] | (place ∷ places) ↦ collations_among table.unique l ]) ≡ c ∷ []
      keyed [] l column e f c found = absurd (let h : ⊥ = cc in h)
      keyed (place ∷ places) l column e f c found = ap (collations_among table.unique) f ∙ found

  cmp-integers : (a b : ℤ) → key_cmp table (Int a ∷ []) (Int b ∷ []) ≡ int_cmp a b
  cmp-integers a b =
      subst⁻¹ (λ (cs : List Collation). columns_cmp (map (λ (c : Collation). (c, false)) cs) (Int a ∷ []) (Int b ∷ []) ≡ int_cmp a b) one-collation.1
      (then-last _ ∙ value_cmp-integers one-collation.0 a b)

  keyed-row : (row : TableRow) → IsFit table row → row_key table row ≡ Int row.rowid ∷ []
  keyed-row row fit =
      elim (shape rowid_key) [
        | inl none ↦ subst⁻¹ (λ (k : List ℕ). key_at k (Int row.rowid) row.values ≡ Int row.rowid ∷ []) none refl
        | inr one ↦
            subst⁻¹ (λ (k : List ℕ). key_at k (Int row.rowid) row.values ≡ Int row.rowid ∷ []) one.2 (ap (λ (v : Value). v ∷ []) (fit.keyed one.0 one.1))
      ]

  meets-is : (row : TableRow) (p : Prepared) (z : ℤ) → IsFit table row → p.key ≡ Int z ∷ [] → meets table row p ≡ is_eq (int_cmp z row.rowid)
  meets-is row p z fit e =
      subst⁻¹ (λ (k : List Value). (is_eq (key_cmp table p.key k) && not (list_any is_null k)) ≡ is_eq (int_cmp z row.rowid)) (keyed-row row fit)
      (and-true (is_eq (key_cmp table p.key (Int row.rowid ∷ []))) ∙ ap (λ (k : List Value). is_eq (key_cmp table k (Int row.rowid ∷ []))) e ∙ ap is_eq (cmp-integers z row.rowid))

  -- a prepared row meets the row of its rowid
  pub meets-rowid : (row : TableRow) (p : Prepared) (z : ℤ) → IsFit table row → p.key ≡ Int z ∷ [] → meets table row p ≡ true → row.rowid ≡ z
  meets-rowid row p z fit e m = sym (int_ranked z row.rowid Equal (sym (eq-equal (int_cmp z row.rowid) (sym (meets-is row p z fit e) ∙ m))))

  pub rowid-meets : (row : TableRow) (p : Prepared) (z : ℤ) → IsFit table row → p.key ≡ Int z ∷ [] → row.rowid ≡ z → meets table row p ≡ true
  rowid-meets row p z fit e same = meets-is row p z fit e ∙ ap is_eq (sym (int_cmp_is z row.rowid Equal (sym same)))

  unmeets : (row : TableRow) (p : Prepared) (z : ℤ) → IsFit table row → p.key ≡ Int z ∷ [] → row.rowid ≢ z → meets table row p ≡ false
  unmeets row p z fit e unlike = by (meets table row p) refl
    where
      by : (t : Bool) → meets table row p ≡ t → meets table row p ≡ false
      by true f = absurd (unlike (meets-rowid row p z fit e f))
      by false f = f

  -- a prepared row makes the row of its rowid
  pub new_rowid-is : (g : ℤ) (n : ℕ) (p : Prepared) (z : ℤ) → p.key ≡ Int z ∷ [] → new_rowid table g n p ≡ z
  new_rowid-is g n p z e = ap (λ (t : Bool). if t then integer_in (slice_index_or p.key 0 Null) else (g +ℤ pos n)) rowid_key ∙ ap (λ (k : List Value). integer_in (slice_index_or k 0 Null)) e

  less-unlike : (d p : Prepared) (y z : ℤ) → d.key ≡ Int y ∷ [] → p.key ≡ Int z ∷ [] → key_cmp table d.key p.key ≡ Less → y ≢ z
  less-unlike d p y z e f less same =
      let cmp : int_cmp y z ≡ Less = sym (cmp-integers y z) ∙ ap (λ (k : List Value). key_cmp table k (Int z ∷ [])) (sym e) ∙ ap (key_cmp table d.key) (sym f) ∙ less in
      let below = int_ranked y z Less (sym cmp) in
      omega (arith, ints, below, same)

-- a row keeps its rowid
with_values-rowid : (format : ℕ) (table : Table) (row : TableRow) (values : List Value) → (with_values format table row values).rowid ≡ row.rowid
with_values-rowid format table row values =
    on-if (λ (r : TableRow). r.rowid ≡ row.rowid) (same_values row.values (with_rowid table.rowid_column row.rowid values)) row (written_row format table row.rowid values) (λ e. refl) (λ e. refl)

pub met-rowid : (format : ℕ) (table : Table) (row : TableRow) (control : Control) (values : List Value) (r : TableRow) → met_row format table row control values ≡ Some r → r.rowid ≡ row.rowid
met-rowid format table row Insert values r e = let same : row ≡ r = cc in ap (λ (x : TableRow). x.rowid) (sym same)
met-rowid format table row Replace values r e = let same : with_values format table row values ≡ r = cc in ap (λ (x : TableRow). x.rowid) (sym same) ∙ with_values-rowid format table row values
met-rowid format table row Delete values r e = absurd (let h : ⊥ = cc in h)
met-rowid format table row (Update marks) values r e =
    let same : with_values format table row (marked marks values row.values) ≡ r = cc in
    ap (λ (x : TableRow). x.rowid) (sym same) ∙ with_values-rowid format table row (marked marks values row.values)

-- a new row is one that a prepared row makes
module _ (format : ℕ) (table : Table) (g : ℤ) (before : List TableRow) where
  made-from : (rows : List Prepared) (taken : ℕ) (r : TableRow) → Has r (new_rows format table g taken before rows) → (d : Prepared) × (n : ℕ) × Has d rows × (r.rowid ≡ new_rowid table g n d)
  made-from [] taken r h = absurd h
  made-from (d ∷ rows) taken r h = by (is_new table before d) h (made-from rows taken r) (made-from rows (suc taken) r)
    where
      by : (t : Bool) → Has r (if t then written_row format table (new_rowid table g (suc taken) d) d.values ∷ new_rows format table g (suc taken) before rows else new_rows format table g taken before rows)
          → (Has r (new_rows format table g taken before rows) → (e : Prepared) × (n : ℕ) × Has e rows × (r.rowid ≡ new_rowid table g n e))
          → (Has r (new_rows format table g (suc taken) before rows) → (e : Prepared) × (n : ℕ) × Has e rows × (r.rowid ≡ new_rowid table g n e))
          → (e : Prepared) × (n : ℕ) × Has e (d ∷ rows) × (r.rowid ≡ new_rowid table g n e)
      by false k same next = let found = same k in (found.0, found.1, inr found.2, found.3)
      by true (inl e) same next = (d, suc taken, inl refl, ap (λ (x : TableRow). x.rowid) (sym e))
      by true (inr k) same next = let found = next k in (found.0, found.1, inr found.2, found.3)

-- A pass over a batch whose keys are rowids.
module _ (format : ℕ) (table : Table) (g : ℤ) (start : ℕ) (before : List TableRow) (done : List Prepared) (p : Prepared) (now : List TableRow) (rowid_key : has_rowid_key table ≡ true)
    (due : AreDue table g start before (done ++ p ∷ [])) (is : IsAfterBatch format table g start before done now) where
  abbrev Fit : TableRow → Type 0
  Fit row = IsFit table row

  abbrev Below : Prepared → Prepared → Type 0
  Below a b = key_cmp table a.key b.key ≡ Less

  fits-now : AllByRecursion Fit now
  fits-now =
      let made = after_batches-some format table due.column due.shape g start before (done ∷ []) due.reached ((all-front (IsUsable table) done (p ∷ []) due.usable, pairs-front Below done (p ∷ []) due.ordered), tt) in
      subst (AllByRecursion Fit) (made.1.2 ∙ after_batch-one format table g start before done made.1.0 now made.1.1 is) made.2.1.fit

  pub key-now : (z : ℤ) × (p.key ≡ Int z ∷ [])
  key-now = (all-back (IsUsable table) done (p ∷ []) due.usable).0.key rowid_key

  key-of : (d : Prepared) → Has d done → (z : ℤ) × (d.key ≡ Int z ∷ [])
  key-of d h = (all-has (IsUsable table) done d (all-front (IsUsable table) done (p ∷ []) due.usable) h).key rowid_key

  unlike : (d : Prepared) (h : Has d done) → (key-of d h).0 ≢ key-now.0
  unlike d h =
      less-unlike table due.shape rowid_key d p (key-of d h).0 key-now.0 (key-of d h).1 key-now.1 (pairs-last Below done p d due.ordered h)

  fit-before : (x : TableRow) → Has x before → Fit x
  fit-before x h = all-has Fit before x due.reached.fit h

  pub fit-now : (r : TableRow) → Has r now → Fit r
  fit-now r h = all-has Fit now r fits-now h

  pub meets-alone : MeetsAlone format table g start before done p now
  meets-alone = record {
    changed = λ x r d h k m e stands.
        let own = meets-rowid table due.shape rowid_key x d (key-of d k).0 (fit-before x h) (key-of d k).1 m in
        unmeets table due.shape rowid_key r p key-now.0 (fit-now r stands) key-now.1 (λ same. unlike d k (sym own ∙ sym (met-rowid format table x d.control d.values r e) ∙ same));
    apart = λ x d h k m.
        let own = meets-rowid table due.shape rowid_key x d (key-of d k).0 (fit-before x h) (key-of d k).1 m in
        unmeets table due.shape rowid_key x p key-now.0 (fit-before x h) key-now.1 (λ same. unlike d k (sym own ∙ same));
    made = λ r h stands.
        let from = made-from format table g before done start r h in
        let own = new_rowid-is table due.shape rowid_key g from.1 from.0 (key-of from.0 from.2).0 (key-of from.0 from.2).1 in
        unmeets table due.shape rowid_key r p key-now.0 (fit-now r stands) key-now.1 (λ same. unlike from.0 from.2 (sym own ∙ sym from.3 ∙ same));
    one = λ x y h k m n.
        apart-one before due.reached.apart x y h k
        (meets-rowid table due.shape rowid_key x p key-now.0 (fit-before x h) key-now.1 m ∙ sym (meets-rowid table due.shape rowid_key y p key-now.0 (fit-before y k) key-now.1 n));
  }

  -- So a step brings the table behind one prepared row more.
  pub rowid_step-behind : (taken : ℕ) (new : List TableRow) → taken ≡ start + count_new table before done → IsStepped format table g taken p now new
      → IsInBatch format table g start before (done ++ p ∷ []) (taken_behind table now p taken) new
  rowid_step-behind taken new e stepped =
      let next = after_batches-some format table due.column due.shape g start before ((done ++ p ∷ []) ∷ []) due.reached ((due.usable, due.ordered), tt) in
      subst⁻¹ (λ (n : ℕ). IsInBatch format table g start before (done ++ p ∷ []) (taken_behind table now p n) new) e
      (stepped-behind format table g start before done p now is meets-alone new next.1.0 (subst (λ (n : ℕ). IsStepped format table g n p now new) e stepped) next.1.1)
