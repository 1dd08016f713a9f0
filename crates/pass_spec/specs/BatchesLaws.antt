-- A table behind the first steps of a group stands in one of its batches, and the other way round: crates above cite these facts in their proofs.
use Rattle.std.proofs.Common.{◌≡◌, ℕ, ℤ, zero, suc, ◌+◌, ◌-◌, ◌≤◌, ◌<ℤ◌, List, [], ◌∷◌, ◌++◌, length, take, refl, sym, ap, ap₂, ◌∙◌, subst, arith, length-append}
use Rattle.std.proofs.Math.Path.{subst⁻¹}
use Rattle.std.proofs.Math.Seq.{take-append_seam}
use Rattle.std.proofs.lemmas.List.Sums.{sum_by-cons}
use Rattle.std.specs.Prelude.{AllPairs, IsPermutation, filter_map, sum_by}
use Rattle.std.proofs.lemmas.List.{append-nil}
use Rattle.std.proofs.lemmas.List.Sorted.{IsPermutation-refl}
use Rattle.rbu_rows.specs.declared.prepared.Prepared.{Prepared}
use Rattle.schema_spec.specs.declared.schema.Table.{Table}
use Rattle.database_spec.specs.Rows.{TableRow}
use Rattle.prepared_spec.specs.MidwayLaws.{after-none}
use Rattle.prepared_spec.specs.Plans.{firsts}
use Rattle.prepared_spec.specs.Tables.{row_after, count_new, IsAfterBatch, IsAfterBatches}
use Rattle.pass_spec.specs.TableSteps.{IsBeforeBatch, IsInBatch}

-- The first items of lists.

take-all : {A : Type 0} (xs : List A) (n : ℕ) → length xs ≤ n → take n xs ≡ xs
take-all [] zero less = refl
take-all [] (suc n) less = refl
take-all (x ∷ xs) zero less = absurd (omega (arith, less))
take-all (x ∷ xs) (suc n) less = ap (λ (ys : List _). x ∷ ys) (take-all xs n (omega (arith, less)))

firsts-in : {A : Type 0} (earlier : List (List A)) (rows : List A) (later : List (List A)) (k : ℕ) → k ≤ length rows
    → firsts (sum_by length earlier + k) (earlier ++ rows ∷ later) ≡ earlier ++ take k rows ∷ firsts 0 later
firsts-in [] rows later k less =
    let none : 0 + k ≡ k = omega arith in
    let rest : k - length rows ≡ 0 = omega (arith, less) in
    ap (λ (n : ℕ). firsts n (rows ∷ later)) none ∙ ap (λ (n : ℕ). take k rows ∷ firsts n later) rest
firsts-in (batch ∷ earlier) rows later k less =
    let n = sum_by length (batch ∷ earlier) + k in
    let all = sum_by-cons length batch earlier in
    let rest : n - length batch ≡ sum_by length earlier + k = omega (arith, all) in
    ap₂ (λ (one : List _) (more : List (List _)). one ∷ more) (take-all batch n (omega (arith, all))) (ap (λ (m : ℕ). firsts m (earlier ++ rows ∷ later)) rest ∙ firsts-in earlier rows later k less)

-- so behind the first items of a list among others
pub firsts-front : {A : Type 0} (earlier : List (List A)) (done rest : List A) (later : List (List A))
    → firsts (sum_by length earlier + length done) (earlier ++ (done ++ rest) ∷ later) ≡ earlier ++ done ∷ firsts 0 later
firsts-front earlier done rest later =
    firsts-in earlier (done ++ rest) later (length done) (omega (arith, length-append done rest)) ∙ ap (λ (front : List _). earlier ++ front ∷ firsts 0 later) (take-append_seam done rest)

module _ (format : ℕ) (table : Table) (g : ℤ) where
  abbrev Rises : List TableRow → Type 0
  Rises rows = AllPairs (λ (a b : TableRow). a.rowid <ℤ b.rowid) rows

  -- batches of which no row is done leave a table
  stays-same : (rows : List TableRow) → filter_map (row_after format table []) rows ≡ rows
  stays-same [] = refl
  stays-same (row ∷ rows) = ap (λ (rs : List TableRow). row ∷ rs) (stays-same rows)

  after-later : (later : List (List Prepared)) (taken : ℕ) (rows : List TableRow) → Rises rows → IsAfterBatches format table g taken rows (firsts 0 later) rows
  after-later [] taken rows rise = refl
  after-later (batch ∷ later) taken rows rise =
      let none : 0 - length batch ≡ 0 = omega arith in
      let same : filter_map (row_after format table []) rows ++ [] ≡ rows = append-nil (filter_map (row_after format table []) rows) ∙ stays-same rows in (
        rows,
        record { all = subst⁻¹ (λ (l : List TableRow). IsPermutation l rows) same (IsPermutation-refl rows); rise = rise },
        subst⁻¹ (λ (n : ℕ). IsAfterBatches format table g (taken + count_new table rows []) rows (firsts n later) rows) none (after-later later (taken + count_new table rows []) rows rise),
      )

  -- a table behind earlier batches and some rows of one
  pub batches-stand : (earlier : List (List Prepared)) (done : List Prepared) (later : List (List Prepared)) (taken : ℕ) (old now : List TableRow) → IsAfterBatches format table g taken old (earlier ++ done ∷ firsts 0 later) now
      → (start : ℕ) × (before : List TableRow) × IsBeforeBatch format table g taken old earlier start before × IsInBatch format table g start before done (start + count_new table before done) now
  batches-stand [] done later taken old now (between, is, are) =
      let same : now ≡ between = after-none format table g later (taken + count_new table old done) between now is.rise are in
      (taken, old, (refl, refl), record { after = subst⁻¹ (IsAfterBatch format table g taken old done) same is; taken_is = refl })
  batches-stand (batch ∷ earlier) done later taken old now (between, is, are) =
      let rest = batches-stand earlier done later (taken + count_new table old batch) between now are in
      (rest.0, rest.1, (between, is, rest.2), rest.3)

  pub stand-batches : (earlier : List (List Prepared)) (done : List Prepared) (later : List (List Prepared)) (taken : ℕ) (old : List TableRow) (start : ℕ) (before : List TableRow) (count : ℕ) (now : List TableRow)
      → IsBeforeBatch format table g taken old earlier start before → IsInBatch format table g start before done count now → IsAfterBatches format table g taken old (earlier ++ done ∷ firsts 0 later) now
  stand-batches [] done later taken old start before count now (same, first) is =
      let here = subst (λ (n : ℕ). IsAfterBatch format table g n before done now) first is.after in
      let there = subst (λ (rows : List TableRow). IsAfterBatch format table g taken rows done now) same here in
      (now, there, after-later later (taken + count_new table old done) now there.rise)
  stand-batches (batch ∷ earlier) done later taken old start before count now (between, first, rest) is =
      (between, first, stand-batches earlier done later (taken + count_new table old batch) between start before count now rest is)

  -- A table behind the first steps of a group stands in the batch in which the last of these is.
  pub steps-stand : (earlier : List (List Prepared)) (done rest : List Prepared) (later : List (List Prepared)) (old now : List TableRow)
      → IsAfterBatches format table g 0 old (firsts (sum_by length earlier + length done) (earlier ++ (done ++ rest) ∷ later)) now
      → (start : ℕ) × (before : List TableRow) × IsBeforeBatch format table g 0 old earlier start before × IsInBatch format table g start before done (start + count_new table before done) now
  steps-stand earlier done rest later old now is =
      batches-stand earlier done later 0 old now (subst (λ (batches : List (List Prepared)). IsAfterBatches format table g 0 old batches now) (firsts-front earlier done rest later) is)

  -- And one that stands there is behind these steps.
  pub stand-steps : (earlier : List (List Prepared)) (done rest : List Prepared) (later : List (List Prepared)) (old : List TableRow) (start : ℕ) (before : List TableRow) (taken : ℕ) (now : List TableRow)
      → IsBeforeBatch format table g 0 old earlier start before → IsInBatch format table g start before done taken now
      → IsAfterBatches format table g 0 old (firsts (sum_by length earlier + length done) (earlier ++ (done ++ rest) ∷ later)) now
  stand-steps earlier done rest later old start before taken now reached is =
      subst⁻¹ (λ (batches : List (List Prepared)). IsAfterBatches format table g 0 old batches now) (firsts-front earlier done rest later)
      (stand-batches earlier done later 0 old start before taken now reached is)
