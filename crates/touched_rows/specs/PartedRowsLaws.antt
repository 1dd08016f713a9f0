-- Rows of a table that no prepared row of a group meets play no part in what it touches: crates above cite these facts in their proofs.
use Rattle.std.proofs.Common.{◌≡◌, ◌≢◌, ℕ, ℤ, suc, ◌+◌, ◌&&◌, not, Bool, true, false, List, [], ◌∷◌, ◌++◌, length, map, Option, Some, None, if◌then◌else◌, cond, refl, sym, ap, ap₂, ◌∙◌, subst, inl, inr, arith}
use Rattle.std.proofs.Math.Path.{subst⁻¹}
use Rattle.std.proofs.lemmas.Int.{ints}
use Rattle.std.proofs.lemmas.Cmp.{int_eq_equiv}
use Rattle.std.proofs.lemmas.Bool.Decides.{Decides-int_eq}
use Rattle.std.proofs.lemmas.List.Sorted.{IsPermutation-sym}
use Rattle.std.proofs.lemmas.Map.Keys.{IsDistinct-IsPermutation}
use Rattle.std.specs.Prelude.{Contains, IsTrue, ◌-◌, filter, replicate}
use Rattle.std.specs.List.{AllByRecursion, AllZip, IsDistinct, list_any}
use Rattle.std.specs.Ordering.{int_eq}
use Rattle.rbu_value.specs.declared.value.Value.{Value}
use Rattle.rbu_rows.specs.declared.prepared.Prepared.{Prepared}
use Rattle.schema_spec.specs.declared.schema.Table.{Table}
use Rattle.database_spec.specs.Rows.{TableRow}
use Rattle.prepared_spec.specs.declared.violation.Violation.{Violation}
use Rattle.prepared_spec.specs.declared.violation.Violation.TheVariants.{NotNull, KeyPresent, RowidsSpent}
use Rattle.prepared_spec.specs.RowKeys.{meets, is_met}
use Rattle.prepared_spec.specs.Tables.{written_row, row_after, is_new, makes_row, new_rowid, new_rows as made_rows, count_new, IsAfterBatch, IsAfterBatches}
use Rattle.prepared_spec.specs.StepFaults.{null_column, written_columns, is_insert, is_spent, row_fault}
use Rattle.prepared_spec.specs.Plans.{batch_faults, AreFaults}
use Rattle.prepared_spec.specs.PlansLaws.{after_batch-one}
use Rattle.prepared_spec.specs.MembersLaws.{Has, has-from, has-to, any-has, has-any, decide, true-false}
use Rattle.prepared_spec.specs.ChangesLaws.{all-has}
use Rattle.prepared_laws.specs.TablesMadeLaws.{Apart}
use Rattle.index_changes.specs.declared.pairs.OldNew.{OldNew}
use Rattle.index_changes.specs.ListsLaws.{filtered-has, has-filtered, pairs-at}
use Rattle.touched_rows.specs.TouchedRows.{AreMade, IsTouchedFrom, IsSide, AreTouchedPairsFrom, AreParted, AreUnmet}
use Rattle.touched_rows.specs.TouchedRowsLaws.{Kept, Made, behind-has, kept-behind, made-behind, unmet-stays, apart-one}

-- Lists.

filter-agree : {A : Type 0} (p q : A → Bool) (xs : List A) → ((x : A) → Has x xs → p x ≡ q x) → filter p xs ≡ filter q xs
filter-agree p q [] same = refl
filter-agree p q (x ∷ xs) same =
    ap (λ (t : Bool). cond t (x ∷ filter p xs) (filter p xs)) (same x (inl refl)) ∙ ap (λ ys. cond (q x) (x ∷ ys) ys) (filter-agree p q xs (λ y h. same y (inr h)))

map-agree : {A B : Type 0} (p q : A → B) (xs : List A) → ((x : A) → Has x xs → p x ≡ q x) → map p xs ≡ map q xs
map-agree p q [] same = refl
map-agree p q (x ∷ xs) same = ap₂ (λ y ys. y ∷ ys) (same x (inl refl)) (map-agree p q xs (λ y h. same y (inr h)))

-- a test passes in one list where it does in the other
any-same : {A : Type 0} (test : A → Bool) (xs ys : List A) → ((x : A) → Has x xs → test x ≡ true → Has x ys) → ((x : A) → Has x ys → test x ≡ true → Has x xs) → list_any test xs ≡ list_any test ys
any-same test xs ys to from =
    elim (decide (list_any test xs)) [
      | inl e ↦ let found = any-has test xs e in e ∙ sym (has-any test ys found.0 (to found.0 found.1 found.2) found.2)
      | inr e ↦ elim (decide (list_any test ys)) [
        | inl k ↦ let found = any-has test ys k in absurd (true-false (list_any test xs) (has-any test xs found.0 (from found.0 found.1 found.2) found.2) e)
        | inr k ↦ e ∙ sym k
      ]
    ]

zip-with : {A B : Type 0} (R S : A → B → Type 0) (xs : List A) (ys : List B) → ((x : A) (y : B) → Has y ys → R x y → S x y) → AllZip R xs ys → AllZip S xs ys
zip-with R S [] [] weaker zip = tt
zip-with R S [] (y ∷ ys) weaker zip = absurd zip
zip-with R S (x ∷ xs) [] weaker zip = absurd zip
zip-with R S (x ∷ xs) (y ∷ ys) weaker zip = (weaker x y (inl refl) zip.0, zip-with R S xs ys (λ a b h r. weaker a b (inr h) r) zip.1)

all-across : {A : Type 0} (e : A → A → Bool) (a : A) (xs ys : List A) (b : A) → AllByRecursion (λ x. e a x ≡ false) (xs ++ ys) → Has b ys → e a b ≡ false
all-across e a [] ys b all h = all-has (λ x. e a x ≡ false) ys b all h
all-across e a (x ∷ xs) ys b all h = all-across e a xs ys b all.1 h

distinct-across : {A : Type 0} (e : A → A → Bool) (xs ys : List A) (a b : A) → IsDistinct e (xs ++ ys) → Has a xs → Has b ys → e a b ≡ false
unfolding IsDistinct
distinct-across e [] ys a b distinct h k = absurd h
distinct-across e (x ∷ xs) ys a b distinct (inl same) k = subst (λ v. e v b ≡ false) same (all-across e x xs ys b distinct.0 k)
distinct-across e (x ∷ xs) ys a b distinct (inr h) k = distinct-across e xs ys a b distinct.1 h k

-- Rowids.

same_rowid : TableRow → TableRow → Bool
same_rowid a b = int_eq a.rowid b.rowid

same_rowid-flips : (a b : TableRow) → same_rowid a b ≡ same_rowid b a
unfolding same_rowid
same_rowid-flips a b = int_eq_equiv.symm a.rowid b.rowid

not-same : (a b : TableRow) → a.rowid ≢ b.rowid → same_rowid a b ≡ false
unfolding same_rowid
not-same a b unlike = elim (decide (int_eq a.rowid b.rowid)) [ inl e ↦ absurd (unlike ((Decides-int_eq a.rowid b.rowid).0 e)) | inr e ↦ e ]

same-not : (a b : TableRow) → same_rowid a b ≡ false → a.rowid ≢ b.rowid
unfolding same_rowid
same-not a b e same = true-false (int_eq a.rowid b.rowid) ((Decides-int_eq a.rowid b.rowid).1 same) e

all-apart : (a : TableRow) (rows : List TableRow) → AllByRecursion (λ (b : TableRow). a.rowid ≢ b.rowid) rows → AllByRecursion (λ (b : TableRow). same_rowid a b ≡ false) rows
all-apart a [] all = tt
all-apart a (b ∷ rows) all = (not-same a b all.0, all-apart a rows all.1)

apart-distinct : (rows : List TableRow) → Apart rows → IsDistinct same_rowid rows
unfolding IsDistinct
apart-distinct [] apart = tt
apart-distinct (row ∷ rows) apart = (all-apart row rows apart.0, apart-distinct rows apart.1)

-- What prepared rows do where they meet the same rows.

module _ (table : Table) (part before : List TableRow) where
  abbrev Agree : List Prepared → Type 0
  Agree rows = (prepared : Prepared) → Has prepared rows → is_met table part prepared ≡ is_met table before prepared

  new-same : (prepared : Prepared) → is_met table part prepared ≡ is_met table before prepared → is_new table part prepared ≡ is_new table before prepared
  new-same prepared e = ap (λ (met : Bool). makes_row prepared.control && not met) e

  count-same : (rows : List Prepared) → Agree rows → count_new table part rows ≡ count_new table before rows
  count-same rows all = ap (λ (ps : List Prepared). length ps) (filter-agree (is_new table part) (is_new table before) rows (λ prepared h. new-same prepared (all prepared h)))

  made-same : (format : ℕ) (g : ℤ) (taken : ℕ) (rows : List Prepared) → Agree rows → made_rows format table g taken part rows ≡ made_rows format table g taken before rows
  made-same format g taken [] all = refl
  made-same format g taken (prepared ∷ rows) all =
      let row = written_row format table (new_rowid table g (suc taken) prepared) prepared.values in
      let fewer = λ (p : Prepared) (h : Has p rows). all p (inr h) in
      ap (λ (t : Bool). if t then row ∷ made_rows format table g (suc taken) part rows else made_rows format table g taken part rows) (new-same prepared (all prepared (inl refl)))
      ∙ ap₂ (λ (one other : List TableRow). if is_new table before prepared then row ∷ one else other) (made-same format g (suc taken) rows fewer) (made-same format g taken rows fewer)

  fault-same : (name : List ℕ) (g : ℤ) (taken : ℕ) (prepared : Prepared) → is_met table part prepared ≡ is_met table before prepared → row_fault name table g taken part prepared ≡ row_fault name table g taken before prepared
  fault-same name g taken prepared e =
      ap (λ (met : Bool). elim (null_column table.rowid_column 0 table.columns (written_columns prepared.control met (length table.columns)) prepared.values) as (λ _. Option Violation) [
        | Some column ↦ Some (NotNull name prepared.data_rowid column)
        | None ↦
            if is_insert prepared.control && met then Some (KeyPresent name prepared.data_rowid)
            else (if (makes_row prepared.control && not met) && is_spent table g (suc taken) then Some (RowidsSpent name) else None)
      ]) e

  faults-same : (name : List ℕ) (g : ℤ) (taken : ℕ) (rows : List Prepared) → Agree rows → batch_faults name table g taken part rows ≡ batch_faults name table g taken before rows
  faults-same name g taken [] all = refl
  faults-same name g taken (prepared ∷ rows) all =
      let met = all prepared (inl refl) in
      let fewer = λ (p : Prepared) (h : Has p rows). all p (inr h) in
      ap₂ (λ (fault : Option Violation) (faults : List (Option Violation)). fault ∷ faults) (fault-same name g taken prepared met)
      (ap (λ (t : Bool). batch_faults name table g (if t then suc taken else taken) part rows) (new-same prepared met) ∙ faults-same name g (if is_new table before prepared then suc taken else taken) rows fewer)

-- One batch over parted rows.

abbrev Unmet : Table → List TableRow → List Prepared → Type 0
Unmet table rest rows = (row : TableRow) (prepared : Prepared) → Has row rest → Has prepared rows → meets table row prepared ≡ true → ⊥

first-unmet : (table : Table) (rest : List TableRow) (rows : List Prepared) (batches : List (List Prepared)) → AreUnmet table rest (rows ∷ batches) → Unmet table rest rows
first-unmet table rest rows batches unmet row prepared h k m = unmet row rows prepared (has-to rest row h) (has-to (rows ∷ batches) rows (inl refl)) (has-to rows prepared k) m

later-unmet : (table : Table) (rest : List TableRow) (rows : List Prepared) (batches : List (List Prepared)) → AreUnmet table rest (rows ∷ batches) → AreUnmet table rest batches
later-unmet table rest rows batches unmet row other prepared stands among in_ = unmet row other prepared stands (has-to (rows ∷ batches) other (inr (has-from batches other among))) in_

parted-agree : (table : Table) (before part rest : List TableRow) (rows : List Prepared) → AreParted before part rest → Unmet table rest rows → Agree table part before rows
parted-agree table before part rest rows parted unmet prepared k =
    any-same (λ (row : TableRow). meets table row prepared) part before (λ row h m. has-from before row (parted.part_of row (has-to part row h)))
    (λ row h m. elim (parted.each row (has-to before row h)) [ inl p ↦ has-from part row p | inr r ↦ absurd (unmet row prepared (has-from rest row r) k m) ])

module _ (format : ℕ) (table : Table) (g : ℤ) where
  parted-behind : (taken : ℕ) (before part rest : List TableRow) (rows : List Prepared) (between part_between : List TableRow) → AreParted before part rest → Unmet table rest rows
      → IsAfterBatch format table g taken before rows between → IsAfterBatch format table g taken part rows part_between → AreParted between part_between rest
  parted-behind taken before part rest rows between part_between parted unmet is part_is =
      let same = made-same table part before format g taken rows (parted-agree table before part rest rows parted unmet) in
      let becomes = row_after format table rows in
      record {
        each = λ r stands. elim (behind-has format table g taken before rows between is r (has-from between r stands)) [
          | inl kept ↦
              let from = filtered-has becomes before r kept in
              elim (parted.each from.0 (has-to before from.0 from.1)) [
                | inl p ↦ inl (has-to part_between r (kept-behind format table g taken part rows part_between part_is r (has-filtered becomes part from.0 r (has-from part from.0 p) from.2)))
                | inr q ↦
                    let stays = unmet-stays format table rows from.0 (λ prepared k m. unmet from.0 prepared (has-from rest from.0 q) k m) in
                    let both : Some from.0 ≡ Some r = sym stays ∙ from.2 in
                    let one : from.0 ≡ r = cc in inr (subst (Contains rest) one q)
              ]
          | inr made ↦ inl (has-to part_between r (made-behind format table g taken part rows part_between part_is r (subst⁻¹ (Has r) same made)))
        ];
        part_of = λ r stands. elim (behind-has format table g taken part rows part_between part_is r (has-from part_between r stands)) [
          | inl kept ↦
              let from = filtered-has becomes part r kept in
              has-to between r (kept-behind format table g taken before rows between is r (has-filtered becomes before from.0 r (has-from before from.0 (parted.part_of from.0 (has-to part from.0 from.1))) from.2))
          | inr made ↦ has-to between r (made-behind format table g taken before rows between is r (subst (Has r) same made))
        ];
        rest_of = λ r stands.
            has-to between r (kept-behind format table g taken before rows between is r (has-filtered becomes before r r (has-from before r (parted.rest_of r stands))
            (unmet-stays format table rows r (λ prepared k m. unmet r prepared (has-from rest r stands) k m))));
      }

  pub batch-apart : (taken : ℕ) (before : List TableRow) (rows : List Prepared) (after : List TableRow) → IsAfterBatch format table g taken before rows after → Apart after
  batch-apart taken before rows after is = pairs-at (λ (a b : TableRow). a.rowid ≢ b.rowid) after (λ i j d less long same. omega (arith, ints, is.rise i j d less long, same))

  -- no row that stays has the rowid of one that is made
  kept-made-apart : (taken : ℕ) (before : List TableRow) (rows : List Prepared) (between : List TableRow) → IsAfterBatch format table g taken before rows between
      → (x y : TableRow) → Has x (Kept format table g before rows) → Has y (Made format table g taken before rows) → x.rowid ≢ y.rowid
  kept-made-apart taken before rows between is x y h k =
      let all = Kept format table g before rows ++ Made format table g taken before rows in
      let distinct = IsDistinct-IsPermutation same_rowid same_rowid-flips between all (IsPermutation-sym all between is.all) (apart-distinct between (batch-apart taken before rows between is)) in
      same-not x y (distinct-across same_rowid (Kept format table g before rows) (Made format table g taken before rows) x y distinct h k)

  -- Batches over parted rows.

  abbrev Chain : ℕ → List TableRow → List (List Prepared) → List TableRow → Type 0
  Chain taken before batches after = IsAfterBatches format table g taken before batches after

  -- the part goes on as the whole does
  module _ (taken : ℕ) (before part rest : List TableRow) (rows : List Prepared) (batches : List (List Prepared)) (parted : AreParted before part rest) (unmet : AreUnmet table rest (rows ∷ batches)) where
    counts : count_new table part rows ≡ count_new table before rows
    counts = count-same table part before rows (parted-agree table before part rest rows parted (first-unmet table rest rows batches unmet))

    aligned : (part_between part_after : List TableRow) → Chain (taken + count_new table part rows) part_between batches part_after → Chain (taken + count_new table before rows) part_between batches part_after
    aligned part_between part_after = subst (λ (n : ℕ). Chain (taken + n) part_between batches part_after) counts

    same_made : made_rows format table g taken part rows ≡ made_rows format table g taken before rows
    same_made = made-same table part before format g taken rows (parted-agree table before part rest rows parted (first-unmet table rest rows batches unmet))

    later : (between part_between : List TableRow) → IsAfterBatch format table g taken before rows between → IsAfterBatch format table g taken part rows part_between → AreParted between part_between rest
    later between part_between is part_is = parted-behind taken before part rest rows between part_between parted (first-unmet table rest rows batches unmet) is part_is

  -- rows are parted behind batches as before
  pub parted-after : (taken : ℕ) (before part rest : List TableRow) (batches : List (List Prepared)) (after part_after : List TableRow) → AreParted before part rest → AreUnmet table rest batches
      → Chain taken before batches after → Chain taken part batches part_after → AreParted after part_after rest
  parted-after taken before part rest [] after part_after parted unmet is part_is =
      subst⁻¹ (λ (rows : List TableRow). AreParted rows part_after rest) is (subst⁻¹ (λ (rows : List TableRow). AreParted before rows rest) part_is parted)
  parted-after taken before part rest (rows ∷ batches) after part_after parted unmet (between, is, are) (part_between, part_is, part_are) =
      parted-after (taken + count_new table before rows) between part_between rest batches after part_after (later taken before part rest rows batches parted unmet between part_between is part_is)
      (later-unmet table rest rows batches unmet) are (aligned taken before part rest rows batches parted unmet part_between part_after part_are)

  -- what is touched of the whole is touched of the part
  pub touched-part : (taken : ℕ) (before part rest : List TableRow) (batches : List (List Prepared)) (after part_after : List TableRow) → AreParted before part rest → AreUnmet table rest batches
      → Chain taken before batches after → Chain taken part batches part_after → (z : ℤ) → IsTouchedFrom format table g taken before batches z → IsTouchedFrom format table g taken part batches z
  touched-part taken before part rest [] after part_after parted unmet is part_is z touched = absurd touched
  touched-part taken before part rest (rows ∷ batches) after part_after parted unmet chain part_chain z (inl (inl met)) =
      elim (parted.each met.0 met.1) [
        | inl p ↦ inl (inl (met.0, p, met.2, met.3))
        | inr q ↦ absurd (unmet met.0 rows met.3.0 q (has-to (rows ∷ batches) rows (inl refl)) met.3.1 met.3.2)
      ]
  touched-part taken before part rest (rows ∷ batches) after part_after parted unmet chain part_chain z (inl (inr made)) =
      inl (inr (made.0, subst⁻¹ (λ (rs : List TableRow). Contains rs made.0) (same_made taken before part rest rows batches parted unmet) made.1, made.2))
  touched-part taken before part rest (rows ∷ batches) after part_after parted unmet (between, is, are) (part_between, part_is, part_are) z (inr touched) =
      let one = after_batch-one format table g taken before rows touched.0 between touched.1 is in
      let there = subst (λ (r : List TableRow). IsTouchedFrom format table g (taken + count_new table before rows) r batches z) one touched.2 in
      let found =
      touched-part (taken + count_new table before rows) between part_between rest batches after part_after (later taken before part rest rows batches parted unmet between part_between is part_is)
      (later-unmet table rest rows batches unmet) are (aligned taken before part rest rows batches parted unmet part_between part_after part_are) z there in
      inr (part_between, part_is, subst⁻¹ (λ (n : ℕ). IsTouchedFrom format table g (taken + n) part_between batches z) (counts taken before part rest rows batches parted unmet) found)

  -- and the other way round
  pub part-touched : (taken : ℕ) (before part rest : List TableRow) (batches : List (List Prepared)) (after part_after : List TableRow) → AreParted before part rest → AreUnmet table rest batches
      → Chain taken before batches after → Chain taken part batches part_after → (z : ℤ) → IsTouchedFrom format table g taken part batches z → IsTouchedFrom format table g taken before batches z
  part-touched taken before part rest [] after part_after parted unmet is part_is z touched = absurd touched
  part-touched taken before part rest (rows ∷ batches) after part_after parted unmet chain part_chain z (inl (inl met)) = inl (inl (met.0, parted.part_of met.0 met.1, met.2, met.3))
  part-touched taken before part rest (rows ∷ batches) after part_after parted unmet chain part_chain z (inl (inr made)) =
      inl (inr (made.0, subst (λ (rs : List TableRow). Contains rs made.0) (same_made taken before part rest rows batches parted unmet) made.1, made.2))
  part-touched taken before part rest (rows ∷ batches) after part_after parted unmet (between, is, are) (part_between, part_is, part_are) z (inr touched) =
      let one = after_batch-one format table g taken part rows touched.0 part_between touched.1 part_is in
      let there = subst (λ (r : List TableRow). IsTouchedFrom format table g (taken + count_new table part rows) r batches z) one touched.2 in
      let aligned_there = subst (λ (n : ℕ). IsTouchedFrom format table g (taken + n) part_between batches z) (counts taken before part rest rows batches parted unmet) there in
      inr (
        between,
        is,
        part-touched (taken + count_new table before rows) between part_between rest batches after part_after (later taken before part rest rows batches parted unmet between part_between is part_is)
            (later-unmet table rest rows batches unmet) are (aligned taken before part rest rows batches parted unmet part_between part_after part_are) z aligned_there,
      )

  -- the rest is not touched
  pub rest-untouched : (taken : ℕ) (before part rest : List TableRow) (batches : List (List Prepared)) (after part_after : List TableRow) → AreParted before part rest → AreUnmet table rest batches → Apart before
      → Chain taken before batches after → Chain taken part batches part_after → (row : TableRow) → Contains rest row → ¬ IsTouchedFrom format table g taken part batches row.rowid
  rest-untouched taken before part rest [] after part_after parted unmet apart is part_is row stands touched = touched
  rest-untouched taken before part rest (rows ∷ batches) after part_after parted unmet apart chain part_chain row stands (inl (inl met)) =
      let same = apart-one before apart met.0 row (has-from before met.0 (parted.part_of met.0 met.1)) (has-from before row (parted.rest_of row stands)) met.2 in
      unmet row rows met.3.0 stands (has-to (rows ∷ batches) rows (inl refl)) met.3.1 (subst (λ (r : TableRow). IsTrue (meets table r met.3.0)) same met.3.2)
  rest-untouched taken before part rest (rows ∷ batches) after part_after parted unmet apart (between, is, are) part_chain row stands (inl (inr made)) =
      let there = subst (λ (rs : List TableRow). Contains rs made.0) (same_made taken before part rest rows batches parted unmet) made.1 in
      let stays =
      has-filtered (row_after format table rows) before row row (has-from before row (parted.rest_of row stands))
      (unmet-stays format table rows row (λ prepared k m. first-unmet table rest rows batches unmet row prepared (has-from rest row stands) k m)) in
      kept-made-apart taken before rows between is row made.0 stays (has-from (Made format table g taken before rows) made.0 there) (sym made.2)
  rest-untouched taken before part rest (rows ∷ batches) after part_after parted unmet apart (between, is, are) (part_between, part_is, part_are) row stands (inr touched) =
      let one = after_batch-one format table g taken part rows touched.0 part_between touched.1 part_is in
      let there = subst (λ (r : List TableRow). IsTouchedFrom format table g (taken + count_new table part rows) r batches row.rowid) one touched.2 in
      let aligned_there = subst (λ (n : ℕ). IsTouchedFrom format table g (taken + n) part_between batches row.rowid) (counts taken before part rest rows batches parted unmet) there in
      rest-untouched (taken + count_new table before rows) between part_between rest batches after part_after (later taken before part rest rows batches parted unmet between part_between is part_is)
      (later-unmet table rest rows batches unmet) (batch-apart taken before rows between is) are (aligned taken before part rest rows batches parted unmet part_between part_after part_are) row stands aligned_there

  -- the row of a rowid that the rest does not have
  side-whole : (rows part rest : List TableRow) (z : ℤ) (side : Option (ℤ × List Value)) → AreParted rows part rest → ((row : TableRow) → Contains rest row → row.rowid ≢ z) → IsSide part z side → IsSide rows z side
  side-whole rows part rest z side parted none is = record {
    only = λ row e. let found = is.only row e in (found.0, parted.part_of found.0 found.1, found.2, found.3);
    all = λ other stands same. elim (parted.each other stands) [ inl p ↦ is.all other p same | inr q ↦ absurd (none other q same) ];
  }

  -- Pairs of what a group touches of the part are those of the whole.
  pub parted-pairs : (taken : ℕ) (before part rest : List TableRow) (batches : List (List Prepared)) (after part_after : List TableRow) (pairs : List OldNew) → AreParted before part rest → AreUnmet table rest batches
      → Apart before → Chain taken before batches after → Chain taken part batches part_after → AreTouchedPairsFrom format table g taken part batches part_after pairs
      → AreTouchedPairsFrom format table g taken before batches after pairs
  parted-pairs taken before part rest batches after part_after pairs parted unmet apart chain part_chain are =
      let behind = parted-after taken before part rest batches after part_after parted unmet chain part_chain in
      let none =
      λ (z : ℤ) (touched : Contains are.rowids z) (row : TableRow) (stands : Contains rest row) (same : row.rowid ≡ z).
      rest-untouched taken before part rest batches after part_after parted unmet apart chain part_chain row stands (subst⁻¹ (IsTouchedFrom format table g taken part batches) same (are.touched z touched)) in
      record {
        rowids = are.rowids;
        rise = are.rise;
        touched = λ z stands. part-touched taken before part rest batches after part_after parted unmet chain part_chain z (are.touched z stands);
        all = λ z touched. are.all z (touched-part taken before part rest batches after part_after parted unmet chain part_chain z touched);
        sides = zip-with (λ (pair : OldNew) (z : ℤ). IsSide part z pair.old × IsSide part_after z pair.new) (λ (pair : OldNew) (z : ℤ). IsSide before z pair.old × IsSide after z pair.new) pairs are.rowids
            (λ pair z h sides. (side-whole before part rest z pair.old parted (none z (has-to are.rowids z h)) sides.0, side-whole after part_after rest z pair.new behind (none z (has-to are.rowids z h)) sides.1)) are.sides;
      }

  -- Which prepared rows make a row, and the faults of all, are those over the part.
  pub parted-made : (taken : ℕ) (before part rest : List TableRow) (batches fronts : List (List Prepared)) (after part_after : List TableRow) (made : List Bool) → AreParted before part rest → AreUnmet table rest fronts
      → Chain taken before fronts after → Chain taken part fronts part_after → AreMade format table g taken part batches fronts made → AreMade format table g taken before batches fronts made
  parted-made taken before part rest [] fronts after part_after made parted unmet chain part_chain are = are
  parted-made taken before part rest (rows ∷ batches) [] after part_after made parted unmet chain part_chain are = are
  parted-made taken before part rest (rows ∷ batches) (front ∷ fronts) after part_after made parted unmet (between, is, behind) (part_between, part_is, part_behind) are =
      let agree = parted-agree table before part rest front parted (first-unmet table rest front fronts unmet) in
      let one = after_batch-one format table g taken part front are.0 part_between are.2 part_is in
      let there = subst (λ (r : List TableRow). AreMade format table g (taken + count_new table part front) r batches fronts are.1) one are.3 in
      let aligned_there = subst (λ (n : ℕ). AreMade format table g (taken + n) part_between batches fronts are.1) (counts taken before part rest front fronts parted unmet) there in
      let found =
      parted-made (taken + count_new table before front) between part_between rest batches fronts after part_after are.1 (later taken before part rest front fronts parted unmet between part_between is part_is)
      (later-unmet table rest front fronts unmet) behind (aligned taken before part rest front fronts parted unmet part_between part_after part_behind) aligned_there in (
        between,
        are.1,
        is,
        found,
        are.4 ∙ ap (λ (bs : List Bool). bs ++ (replicate (length rows - length front) false ++ are.1))
            (map-agree (is_new table part) (is_new table before) front (λ prepared h. new-same table part before prepared (agree prepared h))),
      )

  pub parted-row_faults : (name : List ℕ) (taken : ℕ) (before part rest : List TableRow) (batches : List (List Prepared)) (after part_after : List TableRow) (faults : List (List (Option Violation))) → AreParted before part rest
      → AreUnmet table rest batches → Chain taken before batches after → Chain taken part batches part_after → AreFaults format name table g taken part batches faults → AreFaults format name table g taken before batches faults
  parted-row_faults name taken before part rest [] after part_after faults parted unmet chain part_chain are = are
  parted-row_faults name taken before part rest (rows ∷ batches) after part_after faults parted unmet (between, is, behind) (part_between, part_is, part_behind) are =
      let agree = parted-agree table before part rest rows parted (first-unmet table rest rows batches unmet) in
      let one = after_batch-one format table g taken part rows are.0 part_between are.2 part_is in
      let there = subst (λ (r : List TableRow). AreFaults format name table g (taken + count_new table part rows) r batches are.1) one are.3 in
      let aligned_there = subst (λ (n : ℕ). AreFaults format name table g (taken + n) part_between batches are.1) (counts taken before part rest rows batches parted unmet) there in
      let found =
      parted-row_faults name (taken + count_new table before rows) between part_between rest batches after part_after are.1 (later taken before part rest rows batches parted unmet between part_between is part_is)
      (later-unmet table rest rows batches unmet) behind (aligned taken before part rest rows batches parted unmet part_between part_after part_behind) aligned_there in
      (between, are.1, is, found, are.4 ∙ ap (λ (fs : List (Option Violation)). fs ∷ are.1) (faults-same table part before name g taken rows agree))
