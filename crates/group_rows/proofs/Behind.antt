-- The rows behind a batch are those that its steps leave.
use Rattle.std.proofs.Common.{◌≡◌, ℕ, ℤ, ◌⊎◌, not, Bool, true, false, List, [], ◌∷◌, ◌++◌, length, map, Option, Some, None, if◌then◌else◌, refl, sym, ap, ap₂, ◌∙◌, subst, inl, inr, arith}
use Rattle.std.proofs.Math.Path.{subst⁻¹}
use Rattle.std.specs.Prelude.{filter, find, flat_map, is_some, replicate}
use Rattle.std.specs.List.{AllByRecursion, list_any}
use Rattle.std.specs.Option.{option_map}
use Rattle.std.specs.Ordering.{is_eq, ordering_reverse}
use Rattle.std.specs.declared.cmp.Ordering.{Ordering}
use Rattle.std.specs.declared.cmp.Ordering.TheVariants.{Less, Equal}
use Rattle.std.specs.Cmp.{alike_right, Equal-is}
use Rattle.rbu_value.specs.declared.value.Value.{Value}
use Rattle.rbu_rows.specs.declared.control.Control.{Control}
use Rattle.rbu_rows.specs.declared.control.Control.TheVariants.{Insert, Replace, Delete, Update}
use Rattle.rbu_rows.specs.declared.prepared.Prepared.{Prepared}
use Rattle.schema_spec.specs.declared.schema.Table.{Table}
use Rattle.database_spec.specs.Rows.{TableRow, with_rowid}
use Rattle.database_spec.specs.ListsLaws.{PairsByRecursion}
use Rattle.prepared_spec.specs.RowKeys.{key_cmp, key_collations, meets, is_met}
use Rattle.prepared_spec.specs.Tables.{same_values, written_row, with_values, marked, met_row, row_after, is_new, new_rows, IsAfterBatch}
use Rattle.prepared_spec.specs.Plans.{batch_faults}
use Rattle.prepared_spec.specs.MembersLaws.{Has, has-from, has-to, has-left, has-right, has-either, has-map, map-has, has-filter, filter-has, any-has, has-any, decide, true-false}
use Rattle.prepared_spec.specs.ChangesLaws.{all-has}
use Rattle.prepared_laws.specs.TablesMadeLaws.{pairs-with}
use Rattle.compared_keys.specs.declared.keys.ComparedKey.{ComparedKey}
use Rattle.compared_keys.specs.Keys.{compared_key, met_key, values_order, HasKey}
use Rattle.compared_keys.specs.KeysLaws.{values_order-total, keys-order, has_met_key, meets-compared}
use Rattle.row_steps.specs.RowSteps.{row_of}
use Rattle.index_changes.specs.ListsLaws.{filtered-has, has-filtered, joined-has, has-joined, option-mapped}
use Rattle.touched_rows.specs.TouchedRows.{IsMet, rows_before_fault}
use Rattle.touched_rows.specs.TouchedRowsLaws.{unmet-stays, behind-has, kept-behind, made-behind}
use Rattle.group_rows.specs.GivenRows.{given, AreGiven}
use Rattle.group_rows.specs.KeyedRows.{key_is, of_key}
use Rattle.group_rows.specs.Runs.{Run, any_row, changed, with_key, with_rows, all_stepped, dues_of, left_of, batch_run}
use Rattle.group_rows.proofs.Lists.{not-true, not-false, filter-through, all-by, pairs-front, pairs-across, none-found, found-has, found-one}
use Rattle.group_rows.proofs.Came.{IsFound, StoodFrom, Came, comes}

any-row-has : (xs : List (ℤ × List Value)) → any_row xs ≡ true → (x : ℤ × List Value) × Has x xs
any-row-has [] e = absurd (let h : ◌≡◌ {A = Bool} false true = e in let no : ⊥ = cc in no)
any-row-has (x ∷ xs) e = (x, inl refl)

has-any-row : (xs : List (ℤ × List Value)) (x : ℤ × List Value) → Has x xs → any_row xs ≡ true
has-any-row [] x h = absurd h
has-any-row (y ∷ xs) x h = refl

module _ (table : Table) where
  abbrev pub hits : Prepared → ℤ × List Value → Bool
  hits prepared row = of_key table (compared_key (key_collations table) prepared.key) row

  abbrev pub Disjoint : Prepared → Prepared → Type 0
  Disjoint a b = (row : ℤ × List Value) → hits a row ≡ true → hits b row ≡ false

  key-met : (prepared : Prepared) (o : Option ComparedKey) → key_is (compared_key (key_collations table) prepared.key) o ≡ has_met_key table o prepared
  key-met prepared None = refl
  key-met prepared (Some key) = refl

  -- what a prepared row meets has its key
  pub hits-meets : (prepared : Prepared) (row : TableRow) → HasKey table prepared → hits prepared (given row) ≡ meets table row prepared
  hits-meets prepared row has =
      key-met prepared (met_key (key_collations table) table (row.rowid, row.values)) ∙ sym (meets-compared table row prepared (omega (arith, has)))

  less-greater : (o p : Ordering) → p ≡ Less → o ≡ ordering_reverse p → is_eq o ≡ false
  less-greater o p e f = ap is_eq (f ∙ ap ordering_reverse e)

  pub apart-disjoint : (a b : Prepared) → HasKey table a → HasKey table b → key_cmp table a.key b.key ≡ Less → Disjoint a b
  apart-disjoint a b has also less row = by (met_key (key_collations table) table row)
    where
      by : (o : Option ComparedKey) → key_is (compared_key (key_collations table) a.key) o ≡ true → key_is (compared_key (key_collations table) b.key) o ≡ false
      by None e = absurd (let h : ◌≡◌ {A = Bool} false true = e in let no : ⊥ = cc in no)
      by (Some key) e =
          let x = compared_key (key_collations table) a.key in
          let y = compared_key (key_collations table) b.key in
          let equal : values_order x key.values ≡ Equal = (Equal-is (values_order x key.values)).0 e in
          let below : values_order x y ≡ Less = sym (keys-order (key_collations table) a.key b.key (omega (arith, has)) (omega (arith, also))) ∙ less in
          let same : values_order y x ≡ values_order y key.values = alike_right values_order-total x key.values y equal in
          ap is_eq (sym same) ∙ less-greater (values_order y x) (values_order x y) below (values_order-total.antisymm y x)

  pub ordered-disjoint : (rows : List Prepared) → AllByRecursion (HasKey table) rows → PairsByRecursion (λ (a b : Prepared). key_cmp table a.key b.key ≡ Less) rows → PairsByRecursion Disjoint rows
  ordered-disjoint rows all pairs = pairs-with (HasKey table) (λ (a b : Prepared). key_cmp table a.key b.key ≡ Less) Disjoint rows (λ a b p q less. apart-disjoint a b p q less) all pairs

  module _ (all : List (ℤ × List Value)) where
    abbrev pub found : Prepared → List (ℤ × List Value)
    found prepared = filter (hits prepared) all

    dues-are : (rows : List Prepared) (mid : List (ℤ × List Value)) → AllByRecursion (λ (p : Prepared). filter (hits p) mid ≡ found p) rows → PairsByRecursion Disjoint rows
        → dues_of table mid (map (with_key table) rows) ≡ map (λ (p : Prepared). (found p, p)) rows
    dues-are [] mid same pairs = refl
    dues-are (prepared ∷ rows) mid same pairs =
        ap₂ (λ (f : List (ℤ × List Value)) (rest : List (List (ℤ × List Value) × Prepared)). (f, prepared) ∷ rest) same.0
        (dues-are rows (filter (λ (r : ℤ × List Value). not (hits prepared r)) mid) (stay rows same.1 pairs.0) pairs.1)
      where
        stay : (qs : List Prepared) → AllByRecursion (λ (p : Prepared). filter (hits p) mid ≡ found p) qs → AllByRecursion (Disjoint prepared) qs
            → AllByRecursion (λ (p : Prepared). filter (hits p) (filter (λ (r : ℤ × List Value). not (hits prepared r)) mid) ≡ found p) qs
        stay [] every apart = tt
        stay (q ∷ qs) every apart = (
          filter-through (λ (r : ℤ × List Value). not (hits prepared r)) (hits q) mid
              (λ r e. elim (decide (hits prepared r)) [ inl t ↦ absurd (true-false (hits q r) e (apart.0 r t)) | inr f ↦ not-false (hits prepared r) f ]) ∙ every.0,
          stay qs every.1 apart.1,
        )

    pub all-dues : (rows : List Prepared) → PairsByRecursion Disjoint rows → dues_of table all (map (with_key table) rows) ≡ map (λ (p : Prepared). (found p, p)) rows
    all-dues rows pairs = dues-are rows all (all-by (λ (p : Prepared). filter (hits p) all ≡ found p) rows (λ p h. refl)) pairs

  pub left-from : (rows : List Prepared) (mid : List (ℤ × List Value)) (row : ℤ × List Value) → Has row (left_of table mid (map (with_key table) rows)) → Has row mid × AllByRecursion (λ (p : Prepared). hits p row ≡ false) rows
  left-from [] mid row h = (h, tt)
  left-from (prepared ∷ rows) mid row h =
      let rest = left-from rows (filter (λ (r : ℤ × List Value). not (hits prepared r)) mid) row h in
      let here = filter-has (λ (r : ℤ × List Value). not (hits prepared r)) mid row rest.0 in
      (here.0, (not-true (hits prepared row) here.1, rest.1))

  pub left-to : (rows : List Prepared) (mid : List (ℤ × List Value)) (row : ℤ × List Value) → Has row mid → AllByRecursion (λ (p : Prepared). hits p row ≡ false) rows → Has row (left_of table mid (map (with_key table) rows))
  left-to [] mid row h none = h
  left-to (prepared ∷ rows) mid row h none =
      left-to rows (filter (λ (r : ℤ × List Value). not (hits prepared r)) mid) row (has-filter (λ (r : ℤ × List Value). not (hits prepared r)) mid row h (not-false (hits prepared row) none.0)) none.1

-- What becomes of a row, by its rowid and values.
module _ (format : ℕ) (table : Table) (row : TableRow) where
  abbrev bare : TableRow
  bare = row_of (given row) []

  with-given : (values : List Value) → given (with_values format table row values) ≡ (row.rowid, (with_values 0 table bare values).values)
  with-given values = by (same_values row.values (with_rowid table.rowid_column row.rowid values))
    where
      by : (t : Bool) → given (if t then row else written_row format table row.rowid values) ≡ (row.rowid, (if t then bare else written_row 0 table row.rowid values).values)
      by true = refl
      by false = refl

  met-given : (control : Control) (values : List Value)
      → option_map given (met_row format table row control values) ≡ option_map (λ (v : List Value). (row.rowid, v)) (option_map (λ (after : TableRow). after.values) (met_row 0 table bare control values))
  met-given Insert values = refl
  met-given Replace values = ap Some (with-given values)
  met-given Delete values = refl
  met-given (Update marks) values = ap Some (with-given (marked marks values row.values))

  pub changed-given : (prepared : Prepared) → option_map given (met_row format table row prepared.control prepared.values) ≡ changed table prepared (given row)
  changed-given prepared = met-given prepared.control prepared.values

-- One batch.
module _ (format : ℕ) (name : List ℕ) (table : Table) (g : ℤ) (before : List TableRow) (run : Run) (is : AreGiven before run.rows) where
  abbrev taken : ℕ
  taken = length run.made

  given-has : (row : TableRow) → Has row before → Has (given row) run.rows
  given-has row h = has-from run.rows (given row) (is.all row (has-to before row h))

  has-given : (row : ℤ × List Value) → Has row run.rows → (other : TableRow) × Has other before × (given other ≡ row)
  has-given row h = let one = is.only row (has-to run.rows row h) in (one.0, has-from before one.0 one.1, one.2)

  found-met : (prepared : Prepared) → HasKey table prepared → IsFound format name table g before (found table run.rows) prepared
  found-met prepared has =
      let test = λ (row : TableRow). meets table row prepared in
      let some = found table run.rows prepared in
      elim (decide (any_row some)) [
        | inl e ↦
            let one = any-row-has some e in
            let there = filter-has (hits table prepared) run.rows one.0 one.1 in
            let row = has-given one.0 there.0 in
            let met : meets table row.0 prepared ≡ true = sym (hits-meets table prepared row.0 has) ∙ ap (hits table prepared) row.2 ∙ there.1 in
            e ∙ sym (has-any test before row.0 row.1 met)
        | inr e ↦ elim (decide (is_met table before prepared)) [
          | inl k ↦
              let one = any-has test before k in
              let there = has-filter (hits table prepared) run.rows (given one.0) (given-has one.0 one.1) (hits-meets table prepared one.0 has ∙ one.2) in
              absurd (true-false (any_row some) (has-any-row some (given one.0) there) e)
          | inr k ↦ e ∙ sym k
        ]
      ]

  -- which prepared row a row is met by
  after-found : (rows : List Prepared) (row : TableRow) (d : Prepared) → find (meets table row) rows ≡ Some d → row_after format table rows row ≡ met_row format table row d.control d.values
  after-found rows row d e = ap (λ (o : Option Prepared). elim o as (λ _. Option TableRow) [ None ↦ Some row | Some prepared ↦ met_row format table row prepared.control prepared.values ]) e

  after-unmet : (rows : List Prepared) (row : TableRow) → find (meets table row) rows ≡ None → row_after format table rows row ≡ Some row
  after-unmet rows row e = ap (λ (o : Option Prepared). elim o as (λ _. Option TableRow) [ None ↦ Some row | Some prepared ↦ met_row format table row prepared.control prepared.values ]) e

  module _ (front rest : List Prepared) (between : List TableRow) (keys : AllByRecursion (HasKey table) (front ++ rest)) (pairs : PairsByRecursion (Disjoint table) (front ++ rest))
      (after : IsAfterBatch format table g taken before front between) (result : Run)
      (came : Came format name table g before (found table run.rows) (with_rows (left_of table run.rows (map (with_key table) (front ++ rest))) run) taken front rest (list_any is_some (batch_faults name table g taken before (front ++ rest))) result) where
    key-of : (prepared : Prepared) → Has prepared (front ++ rest) → HasKey table prepared
    key-of prepared h = all-has (HasKey table) (front ++ rest) prepared keys h

    front-key : (prepared : Prepared) → Has prepared front → HasKey table prepared
    front-key prepared h = key-of prepared (has-left front rest prepared h)

    rest-key : (prepared : Prepared) → Has prepared rest → HasKey table prepared
    rest-key prepared h = key-of prepared (has-right front rest prepared h)

    kept-there : (old new : TableRow) → Has old before → row_after format table front old ≡ Some new → Has new between
    kept-there old new h e = kept-behind format table g taken before front between after new (has-filtered (row_after format table front) before old new h e)

    unmet-there : (row : TableRow) → Has row before → ((p : Prepared) → Has p front → meets table row p ≡ true → ⊥) → Has row between
    unmet-there row h none = kept-there row row h (unmet-stays format table front row none)

    meets-hits : (p : Prepared) (row : TableRow) → Has p front → meets table row p ≡ true → hits table p (given row) ≡ true
    meets-hits p row h m = hits-meets table p row (front-key p h) ∙ m

    -- what becomes of a row that is met
    changed-there : (p : Prepared) (old new : TableRow) → met_row format table old p.control p.values ≡ Some new → changed table p (given old) ≡ Some (given new)
    changed-there p old new e = sym (changed-given format table old p) ∙ ap (option_map given) e

    there-changed : (p : Prepared) (old : TableRow) (row : ℤ × List Value) → changed table p (given old) ≡ Some row → (new : TableRow) × (met_row format table old p.control p.values ≡ Some new) × (given new ≡ row)
    there-changed p old row e = option-mapped given (met_row format table old p.control p.values) row (changed-given format table old p ∙ e)

    to-kept : (old new : TableRow) → Has old before → row_after format table front old ≡ Some new → (o : Option Prepared) → find (meets table old) front ≡ o → Has (given new) result.rows
    to-kept old new h e None f =
        let some : Some old ≡ Some new = sym (after-unmet front old f) ∙ e in
        let same : old ≡ new = cc in
        let test = λ (p : Prepared). hits table p (given old) in
        let there : Has (given old) result.rows = elim (decide (list_any test (front ++ rest))) [
          | inl k ↦
              let one = any-has test (front ++ rest) k in
              elim (has-either front rest one.0 one.1) [
                | inl a ↦
                    absurd (true-false (meets table old one.0) (sym (hits-meets table one.0 old (front-key one.0 a)) ∙ one.2) (none-found (meets table old) front one.0 f a))
                | inr b ↦ came.all (given old) (inr (inr (inr (one.0, b, has-filter (hits table one.0) run.rows (given old) (given-has old h) one.2))))
              ]
          | inr k ↦
              came.all (given old)
              (inl (left-to table (front ++ rest) run.rows (given old) (given-has old h)
              (all-by (λ (p : Prepared). hits table p (given old) ≡ false) (front ++ rest) (λ p m. elim (decide (hits table p (given old))) [
                | inl t ↦ absurd (true-false (list_any test (front ++ rest)) (has-any test (front ++ rest) p m t) k)
                | inr t ↦ t
              ]))))
        ] in
        subst (λ (r : TableRow). Has (given r) result.rows) same there
    to-kept old new h e (Some p) f =
        let one = found-has (meets table old) front p f in
        let becomes : met_row format table old p.control p.values ≡ Some new = sym (after-found front old p f) ∙ e in
        let there = has-filter (hits table p) run.rows (given old) (given-has old h) (meets-hits p old one.0 one.1) in
        came.all (given new) (inr (inr (inl (p, one.0, has-filtered (changed table p) (found table run.rows p) (given old) (given new) there (changed-there p old new becomes)))))

    to-rows : (row : TableRow) → Has row between → Has (given row) result.rows
    to-rows row h =
        elim (behind-has format table g taken before front between after row h) [
          | inl kept ↦ let from = filtered-has (row_after format table front) before row kept in to-kept from.0 row from.1 from.2 (find (meets table from.0) front) refl
          | inr made ↦ came.all (given row) (inr (inl (has-map given (new_rows format table g taken before front) row made)))
        ]

    front-pairs : (row : TableRow) → PairsByRecursion (λ (a b : Prepared). meets table row a ≡ true → meets table row b ≡ false) front
    front-pairs row =
        pairs-with (HasKey table) (Disjoint table) (λ (a b : Prepared). meets table row a ≡ true → meets table row b ≡ false) front
        (λ a b p q apart m. sym (hits-meets table b row q) ∙ apart (given row) (hits-meets table a row p ∙ m)) (all-by (HasKey table) front front-key) (pairs-front (Disjoint table) front rest pairs)

    from-rows : (row : ℤ × List Value) → Has row result.rows → (other : TableRow) × Has other between × (given other ≡ row)
    from-rows row h = by (came.only row h)
      where
        by : StoodFrom format name table g before (found table run.rows) (left_of table run.rows (map (with_key table) (front ++ rest))) taken front rest row → (other : TableRow) × Has other between × (given other ≡ row)
        by (inl k) =
            let stood = left-from table (front ++ rest) run.rows row k in
            let old = has-given row stood.0 in (
              old.0,
              unmet-there old.0 old.1
                  (λ p m met. true-false (hits table p row) (ap (hits table p) (sym old.2) ∙ meets-hits p old.0 m met) (all-has (λ (q : Prepared). hits table q row ≡ false) (front ++ rest) p stood.1 (has-left front rest p m))),
              old.2,
            )
        by (inr (inl k)) =
            let made = map-has given (new_rows format table g taken before front) row k in
            (made.0, made-behind format table g taken before front between after made.0 made.1, made.2)
        by (inr (inr (inl (p, m, k)))) =
            let from = filtered-has (changed table p) (found table run.rows p) row k in
            let there = filter-has (hits table p) run.rows from.0 from.1 in
            let old = has-given from.0 there.0 in
            let becomes = there-changed p old.0 row (ap (changed table p) old.2 ∙ from.2) in
            let met : meets table old.0 p ≡ true = sym (hits-meets table p old.0 (front-key p m)) ∙ ap (hits table p) old.2 ∙ there.1 in
            (becomes.0, kept-there old.0 becomes.0 old.1 (after-found front old.0 p (found-one (meets table old.0) front p (front-pairs old.0) m met) ∙ becomes.1), becomes.2)
        by (inr (inr (inr (p, m, k)))) =
            let there = filter-has (hits table p) run.rows row k in
            let old = has-given row there.0 in (
              old.0,
              unmet-there old.0 old.1
                  (λ q n met. true-false (hits table p row) there.1 (pairs-across (Disjoint table) front rest q p pairs n m row (ap (hits table q) (sym old.2) ∙ meets-hits q old.0 n met))),
              old.2,
            )

    pub given-behind : AreGiven between result.rows
    given-behind = record {
      all = λ row stands. has-to result.rows (given row) (to-rows row (has-from between row stands));
      only = λ row stands. let one = from-rows row (has-from result.rows row stands) in (one.0, has-to between one.0 one.1, one.2);
    }

    abbrev ids : Prepared → List ℤ
    ids p = map (λ (r : ℤ × List Value). r.0) (found table run.rows p)

    -- whose rowids are met
    pub met-behind : (z : ℤ) → Has z (flat_map ids front) → IsMet table before front z
    met-behind z h =
        let one = joined-has ids front z h in
        let row = map-has (λ (r : ℤ × List Value). r.0) (found table run.rows one.0) z one.2 in
        let there = filter-has (hits table one.0) run.rows row.0 row.1 in
        let old = has-given row.0 there.0 in (
          old.0,
          has-to before old.0 old.1,
          ap (λ (r : ℤ × List Value). r.0) old.2 ∙ row.2,
          (one.0, has-to front one.0 one.1, sym (hits-meets table one.0 old.0 (front-key one.0 one.1)) ∙ ap (hits table one.0) old.2 ∙ there.1),
        )

    pub behind-met : (z : ℤ) → IsMet table before front z → Has z (flat_map ids front)
    behind-met z (row, stands, same, (p, among, met)) =
        let m = has-from front p among in
        let there = has-filter (hits table p) run.rows (given row) (given-has row (has-from before row stands)) (meets-hits p row m met) in
        has-joined ids front p z m (subst (λ (y : ℤ). Has y (ids p)) same (has-map (λ (r : ℤ × List Value). r.0) (found table run.rows p) (given row) there))

  -- What is left behind a batch.
  pub record BatchIs (rows front rest : List Prepared) (between : List TableRow) (result : Run) : Type 0 where
    pub whole : rows ≡ front ++ rest
    pub now : AreGiven between result.rows
    pub met_only : (z : ℤ) → Has z result.met → Has z run.met ⊎ IsMet table before front z
    pub met_all : (z : ℤ) → Has z run.met ⊎ IsMet table before front z → Has z result.met
    pub made : result.made ≡ run.made ++ map (λ (r : TableRow). r.rowid) (new_rows format table g taken before front)
    pub marks : result.marks ≡ run.marks ++ (map (is_new table before) front ++ replicate (length rest) false)
    pub stopped : result.stopped ≡ list_any is_some (batch_faults name table g taken before rows)

  abbrev pub front_of : List Prepared → List Prepared
  front_of rows = rows_before_fault rows (batch_faults name table g taken before rows)

  pub batch-is : (rows : List Prepared) (between : List TableRow) → run.stopped ≡ false → AllByRecursion (HasKey table) rows → PairsByRecursion (Disjoint table) rows
      → IsAfterBatch format table g taken before (front_of rows) between → (rest : List Prepared) × BatchIs rows (front_of rows) rest between (batch_run table g (map (with_key table) rows) run)
  batch-is rows between going keys pairs after =
      let start = with_rows (left_of table run.rows (map (with_key table) rows)) run in
      let find = found table run.rows in
      let step = comes format name table g before find rows taken start going refl (all-by (IsFound format name table g before find) rows (λ p h. found-met p (all-has (HasKey table) rows p keys h))) in
      let rest = step.0 in
      let whole = step.1 in
      let front = front_of rows in
      let result = batch_run table g (map (with_key table) rows) run in
      let dues : dues_of table run.rows (map (with_key table) rows) ≡ map (λ (p : Prepared). (find p, p)) rows = all-dues table run.rows rows pairs in
      let came = subst⁻¹ (λ ds. Came format name table g before find start taken front rest (list_any is_some (batch_faults name table g taken before rows)) (all_stepped table g ds start)) dues step.2 in
      let parted =
      subst (λ (rs : List Prepared). Came format name table g before find (with_rows (left_of table run.rows (map (with_key table) rs)) run) taken front rest (list_any is_some (batch_faults name table g taken before rs)) result) whole came in
      let keyed = subst (AllByRecursion (HasKey table)) whole keys in
      let apart = subst (PairsByRecursion (Disjoint table)) whole pairs in
      let Met = λ (z : ℤ). Has z run.met ⊎ IsMet table before front z in
      let ids = λ (p : Prepared). map (λ (r : ℤ × List Value). r.0) (find p) in (
        rest,
        record {
          whole = whole;
          now = given-behind front rest between keyed apart after result parted;
          met_only = λ z h. elim (has-either run.met (flat_map ids front) z (subst (Has z) came.met h)) [
            | inl a ↦ inl a
            | inr b ↦ inr (met-behind front rest between keyed apart after result parted z b)
          ];
          met_all = λ z h. subst⁻¹ (Has z) came.met (elim h as (λ _. Has z (run.met ++ flat_map ids front)) [
            | inl a ↦ has-left run.met (flat_map ids front) z a
            | inr b ↦ has-right run.met (flat_map ids front) z (behind-met front rest between keyed apart after result parted z b)
          ]);
          made = came.made;
          marks = came.marks;
          stopped = came.stopped;
        },
      )
