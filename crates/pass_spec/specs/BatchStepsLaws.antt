-- A step brings a table from behind some prepared rows of a batch to behind one more, where each prepared row meets its own row alone: crates above cite these facts in their proofs.
use Rattle.std.proofs.Common.{◌≡◌, ◌≢◌, ℕ, ℤ, suc, ◌+◌, ◌<ℤ◌, ◌&&◌, ◌||◌, ◌⊎◌, not, Bool, true, false, List, [], ◌∷◌, ◌++◌, length, Option, Some, None, if◌then◌else◌, cond, refl, sym, ap, ap₂, ◌∙◌, subst, inl, inr, arith}
use Rattle.std.proofs.Math.Path.{subst⁻¹}
use Rattle.std.specs.Prelude.{AllPairs, Contains, filter, filter_map, find}
use Rattle.std.specs.List.{list_any}
use Rattle.std.specs.Option.{option_or}
use Rattle.std.proofs.lemmas.Int.{ints}
use Rattle.std.proofs.lemmas.List.Folds.{find-append}
use Rattle.rbu_rows.specs.declared.prepared.Prepared.{Prepared}
use Rattle.schema_spec.specs.declared.schema.Table.{Table}
use Rattle.database_spec.specs.Rows.{TableRow}
use Rattle.database_spec.specs.ListsLaws.{sorted-one}
use Rattle.prepared_spec.specs.RowKeys.{meets, is_met}
use Rattle.prepared_spec.specs.Tables.{written_row, met_row, row_after, makes_row, is_new, new_rowid, new_rows, count_new, IsAfterBatch}
use Rattle.prepared_spec.specs.StepRecords.{put_row}
use Rattle.prepared_spec.specs.MembersLaws.{Has, has-from, has-to, has-left, has-right, has-either, any-has, has-any, decide, true-false}
use Rattle.prepared_laws.specs.SortsLaws.{on-if}
use Rattle.index_changes.specs.ListsLaws.{filtered-has, has-filtered}
use Rattle.touched_rows.specs.TouchedRowsLaws.{behind-has, kept-behind, made-behind}
use Rattle.pass_spec.specs.TableSteps.{IsStepped, IsInBatch, taken_behind}

-- Finds.

pub found-has : {A : Type 0} (test : A → Bool) (xs : List A) (x : A) → find test xs ≡ Some x → Has x xs × (test x ≡ true)
found-has test [] x e = absurd (let h : ⊥ = cc in h)
found-has test (y ∷ xs) x e = by (test y) refl e (λ f. found-has test xs x f)
  where
    by : (t : Bool) → test y ≡ t → cond t (Some y) (find test xs) ≡ Some x → (find test xs ≡ Some x → Has x xs × (test x ≡ true)) → Has x (y ∷ xs) × (test x ≡ true)
    by true p f later = let same : y ≡ x = cc in (inl same, ap test (sym same) ∙ p)
    by false p f later = let rest = later f in (inr rest.0, rest.1)

pub any-found : {A : Type 0} (test : A → Bool) (xs : List A) → list_any test xs ≡ true → (x : A) × (find test xs ≡ Some x)
any-found test [] e = absurd (let h : ◌≡◌ {A = Bool} false true = e in let no : ⊥ = cc in no)
any-found test (y ∷ xs) e = by (test y) e (any-found test xs)
  where
    by : (t : Bool) → (t || list_any test xs) ≡ true → (list_any test xs ≡ true → (x : _) × (find test xs ≡ Some x)) → (x : _) × (cond t (Some y) (find test xs) ≡ Some x)
    by true f later = (y, refl)
    by false f later = later f

-- what is found in a list with one item more
module _ {A : Type 0} (test : A → Bool) (xs : List A) (y : A) where
  found-before : (x : A) → find test xs ≡ Some x → find test (xs ++ y ∷ []) ≡ Some x
  found-before x e = find-append test xs (y ∷ []) ∙ ap (λ (o : Option A). option_or o (find test (y ∷ []))) e

  found-last : find test xs ≡ None → test y ≡ true → find test (xs ++ y ∷ []) ≡ Some y
  found-last e f = find-append test xs (y ∷ []) ∙ ap (λ (o : Option A). option_or o (find test (y ∷ []))) e ∙ ap (λ t. cond t (Some y) None) f

  found-none : find test xs ≡ None → test y ≡ false → find test (xs ++ y ∷ []) ≡ None
  found-none e f = find-append test xs (y ∷ []) ∙ ap (λ (o : Option A). option_or o (find test (y ∷ []))) e ∙ ap (λ t. cond t (Some y) None) f

-- The step that is due of a prepared row behind others of its batch meets none of their rows, and one row at most.
pub record MeetsAlone (format : ℕ) (table : Table) (g : ℤ) (start : ℕ) (before : List TableRow) (done : List Prepared) (p : Prepared) (now : List TableRow) : Type 0 where
  pub changed : (x r : TableRow) (d : Prepared) → Has x before → Has d done → meets table x d ≡ true → met_row format table x d.control d.values ≡ Some r → Has r now → meets table r p ≡ false
  pub apart : (x : TableRow) (d : Prepared) → Has x before → Has d done → meets table x d ≡ true → meets table x p ≡ false
  pub made : (r : TableRow) → Has r (new_rows format table g start before done) → Has r now → meets table r p ≡ false
  pub one : (x y : TableRow) → Has x before → Has y before → meets table x p ≡ true → meets table y p ≡ true → x ≡ y

module _ (format : ℕ) (table : Table) where
  -- what becomes of a row, by what meets it
  pub after-found : (rows : List Prepared) (row : TableRow) (d : Prepared) → find (meets table row) rows ≡ Some d → row_after format table rows row ≡ met_row format table row d.control d.values
  after-found rows row d e = ap (λ (o : Option Prepared). elim o as (λ _. Option TableRow) [ None ↦ Some row | Some prepared ↦ met_row format table row prepared.control prepared.values ]) e

  pub after-unmet : (rows : List Prepared) (row : TableRow) → find (meets table row) rows ≡ None → row_after format table rows row ≡ Some row
  after-unmet rows row e = ap (λ (o : Option Prepared). elim o as (λ _. Option TableRow) [ None ↦ Some row | Some prepared ↦ met_row format table row prepared.control prepared.values ]) e

  module _ (g : ℤ) (before : List TableRow) (p : Prepared) where
    abbrev Made : ℕ → Prepared → TableRow
    Made n d = written_row format table (new_rowid table g (suc n) d) d.values

    -- the row that a step makes behind so many new ones, if it makes one
    abbrev last_row : ℕ → List TableRow
    last_row n = if is_new table before p then Made n p ∷ [] else []

    new_rows-last : (rows : List Prepared) (taken : ℕ) → new_rows format table g taken before (rows ++ p ∷ []) ≡ new_rows format table g taken before rows ++ last_row (taken + count_new table before rows)
    new_rows-last [] taken = let e : taken ≡ taken + 0 = omega arith in ap last_row e
    new_rows-last (d ∷ rows) taken = by (is_new table before d) (new_rows-last rows taken) (new_rows-last rows (suc taken))
      where
        by : (t : Bool) → new_rows format table g taken before (rows ++ p ∷ []) ≡ new_rows format table g taken before rows ++ last_row (taken + count_new table before rows)
            → new_rows format table g (suc taken) before (rows ++ p ∷ []) ≡ new_rows format table g (suc taken) before rows ++ last_row (suc taken + count_new table before rows)
            → (if t then Made taken d ∷ new_rows format table g (suc taken) before (rows ++ p ∷ []) else new_rows format table g taken before (rows ++ p ∷ []))
            ≡ (if t then Made taken d ∷ new_rows format table g (suc taken) before rows else new_rows format table g taken before rows)
            ++ last_row (taken + length (cond t (d ∷ filter (is_new table before) rows) (filter (is_new table before) rows)))
        by false same next = same
        by true same next =
            let c = length (filter (is_new table before) rows) in
            let e : suc taken + c ≡ taken + suc c = omega arith in
            ap (λ (l : List TableRow). Made taken d ∷ l) (next ∙ ap (λ (n : ℕ). new_rows format table g (suc taken) before rows ++ last_row n) e)

    count_new-last : (rows : List Prepared) → count_new table before (rows ++ p ∷ []) ≡ count_new table before rows + (if is_new table before p then 1 else 0)
    count_new-last [] = by (is_new table before p)
      where
        by : (t : Bool) → length (cond t (p ∷ []) []) ≡ 0 + (if t then 1 else 0)
        by true = refl
        by false = refl
    count_new-last (d ∷ rows) = by (is_new table before d) (count_new-last rows)
      where
        by : (t : Bool) → count_new table before (rows ++ p ∷ []) ≡ count_new table before rows + (if is_new table before p then 1 else 0)
            → length (cond t (d ∷ filter (is_new table before) (rows ++ p ∷ [])) (filter (is_new table before) (rows ++ p ∷ [])))
            ≡ length (cond t (d ∷ filter (is_new table before) rows) (filter (is_new table before) rows)) + (if is_new table before p then 1 else 0)
        by true e = omega (arith, e)
        by false e = e

  module _ (g : ℤ) (start : ℕ) (before : List TableRow) (done : List Prepared) (p : Prepared) (now : List TableRow) (is : IsAfterBatch format table g start before done now)
      (alone : MeetsAlone format table g start before done p now) where
    abbrev whole : List Prepared
    whole = done ++ p ∷ []

    abbrev Kept : List Prepared → List TableRow
    Kept rows = filter_map (row_after format table rows) before

    -- a row that one of the rows before meets is not found by them where this one meets it
    unfound : (x : TableRow) → Has x before → meets table x p ≡ true → find (meets table x) done ≡ None
    unfound x h m = by (find (meets table x) done) refl
      where
        by : (o : Option Prepared) → find (meets table x) done ≡ o → find (meets table x) done ≡ None
        by None f = f
        by (Some d) f = let found = found-has (meets table x) done d f in absurd (true-false (meets table x p) m (alone.apart x d h found.0 found.1))

    -- a row as it stands that is met is an old one that stayed
    now-old : (r : TableRow) → Has r now → meets table r p ≡ true → Has r before
    now-old r h m =
        elim (behind-has format table g start before done now is r h) [
          | inl kept ↦ let from = filtered-has (row_after format table done) before r kept in by from.0 from.1 from.2 (find (meets table from.0) done) refl
          | inr made ↦ absurd (true-false (meets table r p) m (alone.made r made h))
        ]
      where
        by : (x : TableRow) → Has x before → row_after format table done x ≡ Some r → (o : Option Prepared) → find (meets table x) done ≡ o → Has r before
        by x k e None f = let same : Some x ≡ Some r = sym (after-unmet done x f) ∙ e in let here : x ≡ r = cc in subst (λ (y : TableRow). Has y before) here k
        by x k e (Some d) f =
            let found = found-has (meets table x) done d f in
            absurd (true-false (meets table r p) m (alone.changed x r d k found.0 found.1 (sym (after-found done x d f) ∙ e) h))

    -- and an old one that is met stands as it was
    old-now : (x : TableRow) → Has x before → meets table x p ≡ true → Has x now
    old-now x h m = kept-behind format table g start before done now is x (has-filtered (row_after format table done) before x x h (after-unmet done x (unfound x h m)))

    pub met-same : is_met table now p ≡ is_met table before p
    met-same =
        let test = λ (row : TableRow). meets table row p in
        elim (decide (is_met table now p)) [
          | inl e ↦ let found = any-has test now e in e ∙ sym (has-any test before found.0 (now-old found.0 found.1 found.2) found.2)
          | inr e ↦ elim (decide (is_met table before p)) [
            | inl k ↦ let found = any-has test before k in absurd (true-false (is_met table now p) (has-any test now found.0 (old-now found.0 found.1 found.2) found.2) e)
            | inr k ↦ e ∙ sym k
          ]
        ]

    new-same : is_new table now p ≡ is_new table before p
    new-same = ap (λ (met : Bool). makes_row p.control && not met) met-same

    abbrev taken : ℕ
    taken = start + count_new table before done

    abbrev put_of : Option TableRow → Option TableRow
    put_of o = elim o as (λ _. Option TableRow) [ None ↦ None | Some row ↦ met_row format table row p.control p.values ]

    abbrev Due : TableRow
    Due = written_row format table (new_rowid table g (suc taken) p) p.values

    abbrev All : List TableRow
    All = Kept whole ++ new_rows format table g start before whole

    -- the row that the step puts is one behind all of them
    put-behind : (r : TableRow) → put_row format table g taken now p ≡ Some r → Has r All
    put-behind r e = by (is_new table now p) refl e
      where
        by_found : (o : Option TableRow) → find (λ (row : TableRow). meets table row p) now ≡ o → put_of o ≡ Some r → Has r All
        by_found None f e = absurd (let h : ⊥ = cc in h)
        by_found (Some y) f e =
            let at = found-has (λ (row : TableRow). meets table row p) now y f in
            let old = now-old y at.0 at.1 in
            has-left (Kept whole) (new_rows format table g start before whole) r
            (has-filtered (row_after format table whole) before y r old (after-found whole y p (found-last (meets table y) done p (unfound y old at.1) at.1) ∙ e))

        by : (t : Bool) → is_new table now p ≡ t → (if t then Some Due else put_of (find (λ (row : TableRow). meets table row p) now)) ≡ Some r → Has r All
        by true f h =
            let same : Due ≡ r = cc in
            has-right (Kept whole) (new_rows format table g start before whole) r
            (subst⁻¹ (λ (l : List TableRow). Has r l) (new_rows-last g before p done start)
            (has-right (new_rows format table g start before done) (last_row g before p taken) r
            (subst⁻¹ (λ (t : Bool). Has r (if t then Due ∷ [] else [])) (sym new-same ∙ f) (inl same))))
        by false f h = by_found (find (λ (row : TableRow). meets table row p) now) refl h

    -- a row that the step does not meet stays behind all of them
    kept-on : (r : TableRow) → Has r now → meets table r p ≡ false → Has r All
    kept-on r h unmet =
        elim (behind-has format table g start before done now is r h) [
          | inl kept ↦
              let from = filtered-has (row_after format table done) before r kept in
              has-left (Kept whole) (new_rows format table g start before whole) r (has-filtered (row_after format table whole) before from.0 r from.1 (by from.0 from.2 (find (meets table from.0) done) refl))
          | inr made ↦
              has-right (Kept whole) (new_rows format table g start before whole) r
              (subst⁻¹ (λ (l : List TableRow). Has r l) (new_rows-last g before p done start) (has-left (new_rows format table g start before done) (last_row g before p taken) r made))
        ]
      where
        by : (x : TableRow) → row_after format table done x ≡ Some r → (o : Option Prepared) → find (meets table x) done ≡ o → row_after format table whole x ≡ Some r
        by x e (Some d) f = after-found whole x d (found-before (meets table x) done p d f) ∙ sym (after-found done x d f) ∙ e
        by x e None f =
            let same : Some x ≡ Some r = sym (after-unmet done x f) ∙ e in
            let here : x ≡ r = cc in
            after-unmet whole x (found-none (meets table x) done p f (subst⁻¹ (λ (y : TableRow). meets table y p ≡ false) here unmet)) ∙ same

    abbrev Comes : TableRow → Type 0
    Comes r = (put_row format table g taken now p ≡ Some r) ⊎ (Has r now × (meets table r p ≡ false))

    -- what the step puts where it meets a row
    put-met : (x r : TableRow) → Has x before → meets table x p ≡ true → met_row format table x p.control p.values ≡ Some r → put_row format table g taken now p ≡ Some r
    put-met x r h m e =
        let test = λ (row : TableRow). meets table row p in
        let met : is_met table now p ≡ true = has-any test now x (old-now x h m) m in
        let there = any-found test now met in
        let at = found-has test now there.0 there.1 in
        let same : there.0 ≡ x = alone.one there.0 x (now-old there.0 at.0 at.1) h at.1 m in
        let no : is_new table now p ≡ false = ap (λ (t : Bool). makes_row p.control && not t) met ∙ and-false (makes_row p.control) in
        ap (λ (t : Bool). if t then Some Due else put_of (find test now)) no ∙ ap put_of there.1 ∙ ap (λ (row : TableRow). met_row format table row p.control p.values) same ∙ e
      where
        and-false : (t : Bool) → (t && false) ≡ false
        and-false true = refl
        and-false false = refl

    -- a row behind all of them is the one that the step puts, or stood and is not met
    behind-comes : (r : TableRow) → Has r All → Comes r
    behind-comes r h =
        elim (has-either (Kept whole) (new_rows format table g start before whole) r h) [
          | inl kept ↦ let from = filtered-has (row_after format table whole) before r kept in by from.0 from.1 from.2 (find (meets table from.0) done) refl
          | inr made ↦
              elim (has-either (new_rows format table g start before done) (last_row g before p taken) r (subst (λ (l : List TableRow). Has r l) (new_rows-last g before p done start) made)) [
                | inl front ↦ let stands = made-behind format table g start before done now is r front in inr (stands, alone.made r front stands)
                | inr last ↦ newest (is_new table before p) refl last
              ]
        ]
      where
        newest : (t : Bool) → is_new table before p ≡ t → Has r (if t then Due ∷ [] else []) → Comes r
        newest false f k = absurd k
        newest true f (inl same) = inl (ap (λ (t : Bool). if t then Some Due else put_of (find (λ (row : TableRow). meets table row p) now)) (new-same ∙ f) ∙ ap Some same)
        newest true f (inr k) = absurd k

        by : (x : TableRow) → Has x before → row_after format table whole x ≡ Some r → (o : Option Prepared) → find (meets table x) done ≡ o → Comes r
        by x k e (Some d) f =
            let goes : met_row format table x d.control d.values ≡ Some r = sym (after-found whole x d (found-before (meets table x) done p d f)) ∙ e in
            let stands = kept-behind format table g start before done now is r (has-filtered (row_after format table done) before x r k (after-found done x d f ∙ goes)) in
            let found = found-has (meets table x) done d f in
            inr (stands, alone.changed x r d k found.0 found.1 goes stands)
        by x k e None f =
            elim (decide (meets table x p)) [
              | inl m ↦ inl (put-met x r k m (sym (after-found whole x p (found-last (meets table x) done p f m)) ∙ e))
              | inr u ↦
                  let same : Some x ≡ Some r = sym (after-unmet whole x (found-none (meets table x) done p f u)) ∙ e in
                  let here : x ≡ r = cc in
                  let stands = kept-behind format table g start before done now is x (has-filtered (row_after format table done) before x x k (after-unmet done x f)) in
                  inr (subst (λ (y : TableRow). Has y now) here stands, subst (λ (y : TableRow). meets table y p ≡ false) here u)
            ]

    -- So a step brings the table behind one prepared row more, where there is a table behind that.
    pub stepped-behind : (new next : List TableRow) → IsStepped format table g taken p now new → IsAfterBatch format table g start before whole next → IsInBatch format table g start before whole (taken_behind table now p taken) new
    stepped-behind new next stepped after =
        let same : new ≡ next = sorted-one (λ (a b : TableRow). a.rowid <ℤ b.rowid) (λ a b less more. omega (arith, ints, less, more)) new next stepped.rise after.rise to from in
        record { after = subst⁻¹ (IsAfterBatch format table g start before whole) same after; taken_is = ap (λ (t : Bool). if t then suc taken else taken) new-same ∙ sum (is_new table before p) ∙ ap (λ (n : ℕ). start + n) (sym (count_new-last g before p done)) }
      where
        to : (r : TableRow) → Contains new r → Contains next r
        to r c =
            let stands : Has r All = elim (stepped.only r c) [ inl e ↦ put-behind r e | inr both ↦ kept-on r (has-from now r both.0) both.1 ] in
            has-to next r (elim (has-either (Kept whole) (new_rows format table g start before whole) r stands) [
              | inl k ↦ kept-behind format table g start before whole next after r k
              | inr k ↦ made-behind format table g start before whole next after r k
            ])

        from : (r : TableRow) → Contains next r → Contains new r
        from r c =
            let stands : Has r All = elim (behind-has format table g start before whole next after r (has-from next r c)) [
              | inl k ↦ has-left (Kept whole) (new_rows format table g start before whole) r k
              | inr k ↦ has-right (Kept whole) (new_rows format table g start before whole) r k
            ] in
            elim (behind-comes r stands) [ inl e ↦ stepped.put r e | inr both ↦ stepped.kept r (has-to now r both.0) both.1 ]

        sum : (t : Bool) → (if t then suc taken else taken) ≡ start + (count_new table before done + (if t then 1 else 0))
        sum true = omega arith
        sum false = omega arith
