-- What a group does not touch stays, so the changes between touched rows are all: crates above cite these facts in their proofs.
use Rattle.std.proofs.Common.{◌≡◌, ◌≢◌, ℕ, ℤ, zero, suc, ◌+◌, ◌<ℤ◌, ◌⊎◌, Bool, true, false, List, [], ◌∷◌, ◌++◌, Option, Some, None, Result, if◌then◌else◌, cond, refl, sym, ap, ap₂, ◌∙◌, subst, inl, inr, arith}
use Rattle.std.proofs.Math.Path.{subst⁻¹}
use Rattle.std.proofs.lemmas.Int.{ints}
use Rattle.std.proofs.lemmas.List.Sorted.{Contains-permutation, IsPermutation-sym}
use Rattle.std.proofs.lemmas.Bool.Decides.{Decides-int_eq}
use Rattle.std.specs.Prelude.{AllPairs, Contains, IfSome, filter_map, find, is_some, slice_set}
use Rattle.std.specs.List.{AllByRecursion, AllZip, list_any}
use Rattle.std.specs.Option.{option_map}
use Rattle.std.specs.Ordering.{int_eq}
use Rattle.rbu_value.specs.declared.value.Value.{Value}
use Rattle.rbu_value.specs.declared.value.Value.TheVariants.{Int}
use Rattle.rbu_rows.specs.declared.control.Control.{Control}
use Rattle.rbu_rows.specs.declared.control.Control.TheVariants.{Insert, Replace, Delete, Update}
use Rattle.rbu_rows.specs.declared.prepared.Prepared.{Prepared}
use Rattle.rbu_rows.specs.declared.prepared.Batch.{Batch}
use Rattle.schema_spec.specs.declared.schema.SqlFault.{SqlFault}
use Rattle.schema_spec.specs.declared.schema.Table.{Table}
use Rattle.schema_spec.specs.declared.schema.Index.{Index}
use Rattle.tree_spec.specs.Trees.{Member}
use Rattle.database_spec.specs.declared.catalog.NamedEntry.{NamedEntry}
use Rattle.database_spec.specs.Rows.{TableRow, with_rowid, IsRow}
use Rattle.database_spec.specs.Databases.{list_at}
use Rattle.prepared_spec.specs.declared.violation.Violation.{Violation}
use Rattle.prepared_spec.specs.declared.violation.Change.{Change}
use Rattle.prepared_spec.specs.RowKeys.{meets}
use Rattle.prepared_spec.specs.Tables.{same_values, written_row, with_values, marked, met_row, row_after, is_new, new_rowid, new_rows as made_rows, count_new, greatest_of, IsAfterBatch, IsAfterBatches, IsAfter}
use Rattle.prepared_spec.specs.StepFaults.{AreChanges}
use Rattle.prepared_spec.specs.Plans.{IndexPlan, TablePlan, IsIndexPlan, IsTablePlan}
use Rattle.prepared_spec.specs.PlansLaws.{changes-one, after_batches-one}
use Rattle.prepared_spec.specs.MembersLaws.{Has, has-from, has-to, has-left, has-either, any-has, has-any, decide, true-false, has-right}
use Rattle.prepared_spec.specs.ChangesLaws.{all-has}
use Rattle.prepared_laws.specs.SortsLaws.{on-if}
use Rattle.prepared_laws.specs.TablesMadeLaws.{Apart}
use Rattle.index_changes.specs.declared.pairs.OldNew.{OldNew}
use Rattle.index_changes.specs.Pairs.{row_in, old_rows, new_rows, IsOfRowid, ArePairs, StandsAmong, AreTouched}
use Rattle.index_changes.specs.ListsLaws.{filtered-has, has-filtered, zip-second, zip-first, option-mapped}
use Rattle.index_changes.specs.TouchedLaws.{touched-changes}
use Rattle.touched_rows.specs.TouchedRows.{IsPlaced, ArePlaced, IsTouchedFrom, IsSide, AreTouchedPairs, rows_before_fault, batches_before_fault, NoFaults, Touches}

-- Lists.

found-has : {A : Type 0} (test : A → Bool) (xs : List A) (x : A) → find test xs ≡ Some x → Has x xs × (test x ≡ true)
found-has test [] x e = absurd (let h : ⊥ = cc in h)
found-has test (y ∷ xs) x e = by (test y) refl e (λ f. found-has test xs x f)
  where
    by : (t : Bool) → test y ≡ t → cond t (Some y) (find test xs) ≡ Some x → (find test xs ≡ Some x → Has x xs × (test x ≡ true)) → Has x (y ∷ xs) × (test x ≡ true)
    by true p f later = let same : y ≡ x = cc in (inl same, ap test (sym same) ∙ p)
    by false p f later = let rest = later f in (inr rest.0, rest.1)

set-twice : (xs : List Value) (i : ℕ) (a : Value) → slice_set (slice_set xs i a) i a ≡ slice_set xs i a
set-twice [] i a = refl
set-twice (x ∷ xs) zero a = refl
set-twice (x ∷ xs) (suc i) a = ap (λ (r : List Value). x ∷ r) (set-twice xs i a)

placed-twice : (o : Option ℕ) (z : ℤ) (values : List Value) → with_rowid o z (with_rowid o z values) ≡ with_rowid o z values
placed-twice None z values = refl
placed-twice (Some column) z values = set-twice values column (Int z)

-- Rows behind a batch.

module _ (format : ℕ) (table : Table) where
  written-placed : (rowid : ℤ) (values : List Value) → IsPlaced table (written_row format table rowid values)
  written-placed rowid values = placed-twice table.rowid_column rowid values

  abbrev Follows : TableRow → TableRow → Type 0
  Follows row r = (r.rowid ≡ row.rowid) × IsPlaced table r

  with_values-follows : (row : TableRow) (values : List Value) → IsPlaced table row → Follows row (with_values format table row values)
  with_values-follows row values placed =
      on-if (Follows row) (same_values row.values (with_rowid table.rowid_column row.rowid values)) row (written_row format table row.rowid values)
      (λ e. (refl, placed)) (λ e. (refl, written-placed row.rowid values))

  some-follows : (row made r : TableRow) → Follows row made → Some made ≡ Some r → Follows row r
  some-follows row made r follows e = let same : made ≡ r = cc in subst (Follows row) same follows

  met-follows : (row : TableRow) (control : Control) (values : List Value) (r : TableRow) → IsPlaced table row → met_row format table row control values ≡ Some r → Follows row r
  met-follows row Insert values r placed e = some-follows row row r (refl, placed) e
  met-follows row Replace values r placed e = some-follows row (with_values format table row values) r (with_values-follows row values placed) e
  met-follows row Delete values r placed e = absurd (let h : ⊥ = cc in h)
  met-follows row (Update marks) values r placed e = some-follows row (with_values format table row (marked marks values row.values)) r (with_values-follows row (marked marks values row.values) placed) e

  -- a row that goes on has its rowid, and is met or the same
  after-follows : (rows : List Prepared) (row r : TableRow) → IsPlaced table row → row_after format table rows row ≡ Some r
      → Follows row r × (((prepared : Prepared) × Has prepared rows × (meets table row prepared ≡ true)) ⊎ (row ≡ r))
  after-follows rows row r placed e = by (find (meets table row) rows) refl e
    where
      by : (o : Option Prepared) → find (meets table row) rows ≡ o
          → (elim o as (λ _. Option TableRow) [ None ↦ Some row | Some prepared ↦ met_row format table row prepared.control prepared.values ]) ≡ Some r
          → Follows row r × (((prepared : Prepared) × Has prepared rows × (meets table row prepared ≡ true)) ⊎ (row ≡ r))
      by None f g = let same : row ≡ r = cc in (some-follows row row r (refl, placed) g, inr same)
      by (Some prepared) f g = let found = found-has (meets table row) rows prepared f in (met-follows row prepared.control prepared.values r placed g, inl (prepared, found.0, found.1))

  -- a row that none meets stays
  pub unmet-stays : (rows : List Prepared) (row : TableRow) → ((prepared : Prepared) → Has prepared rows → meets table row prepared ≡ true → ⊥) → row_after format table rows row ≡ Some row
  unmet-stays rows row none = by (find (meets table row) rows) refl
    where
      by : (o : Option Prepared) → find (meets table row) rows ≡ o
          → (elim o as (λ _. Option TableRow) [ None ↦ Some row | Some prepared ↦ met_row format table row prepared.control prepared.values ]) ≡ Some row
      by None f = refl
      by (Some prepared) f = let found = found-has (meets table row) rows prepared f in absurd (none prepared found.0 found.1)

  made-placed : (g : ℤ) (taken : ℕ) (before : List TableRow) (rows : List Prepared) (r : TableRow) → Has r (made_rows format table g taken before rows) → IsPlaced table r
  made-placed g taken before [] r h = absurd h
  made-placed g taken before (prepared ∷ rows) r h = by (is_new table before prepared) (λ k. made-placed g (suc taken) before rows r k) (λ k. made-placed g taken before rows r k) h
    where
      by : (t : Bool) → (Has r (made_rows format table g (suc taken) before rows) → IsPlaced table r) → (Has r (made_rows format table g taken before rows) → IsPlaced table r)
          → Has r (if t then written_row format table (new_rowid table g (suc taken) prepared) prepared.values ∷ made_rows format table g (suc taken) before rows else made_rows format table g taken before rows)
          → IsPlaced table r
      by true more same (inl e) = subst (IsPlaced table) e (written-placed (new_rowid table g (suc taken) prepared) prepared.values)
      by true more same (inr k) = more k
      by false more same k = same k

  module _ (g : ℤ) where
    abbrev pub Kept : List TableRow → List Prepared → List TableRow
    Kept before rows = filter_map (row_after format table rows) before

    abbrev pub Made : ℕ → List TableRow → List Prepared → List TableRow
    Made taken before rows = made_rows format table g taken before rows

    -- a row behind a batch comes of a row before it, or is made
    pub behind-has : (taken : ℕ) (before : List TableRow) (rows : List Prepared) (after : List TableRow) → IsAfterBatch format table g taken before rows after → (r : TableRow) → Has r after
        → Has r (Kept before rows) ⊎ Has r (Made taken before rows)
    behind-has taken before rows after is r h =
        let all = Kept before rows ++ Made taken before rows in
        has-either (Kept before rows) (Made taken before rows) r (has-from all r (Contains-permutation after all r (IsPermutation-sym all after is.all) (has-to after r h)))

    -- and these stand behind it
    pub kept-behind : (taken : ℕ) (before : List TableRow) (rows : List Prepared) (after : List TableRow) → IsAfterBatch format table g taken before rows after → (r : TableRow) → Has r (Kept before rows) → Has r after
    kept-behind taken before rows after is r h =
        let all = Kept before rows ++ Made taken before rows in
        has-from after r (Contains-permutation all after r is.all (has-to all r (has-left (Kept before rows) (Made taken before rows) r h)))

    pub made-behind : (taken : ℕ) (before : List TableRow) (rows : List Prepared) (after : List TableRow) → IsAfterBatch format table g taken before rows after → (r : TableRow) → Has r (Made taken before rows) → Has r after
    made-behind taken before rows after is r h =
        let all = Kept before rows ++ Made taken before rows in
        has-from after r (Contains-permutation all after r is.all (has-to all r (has-right (Kept before rows) (Made taken before rows) r h)))

    all-placed : (rows : List TableRow) → ((r : TableRow) → Has r rows → IsPlaced table r) → ArePlaced table rows
    all-placed [] each = tt
    all-placed (row ∷ rows) each = (each row (inl refl), all-placed rows (λ r h. each r (inr h)))

    batch-placed : (taken : ℕ) (before : List TableRow) (rows : List Prepared) (after : List TableRow) → ArePlaced table before → IsAfterBatch format table g taken before rows after → ArePlaced table after
    batch-placed taken before rows after placed is =
        all-placed after (λ r h. elim (behind-has taken before rows after is r h) [
          | inl kept ↦
              let from = filtered-has (row_after format table rows) before r kept in
              (after-follows rows from.0 r (all-has (IsPlaced table) before from.0 placed from.1) from.2).0.1
          | inr made ↦ made-placed g taken before rows r made
        ])

    pub batches-placed : (taken : ℕ) (before : List TableRow) (batches : List (List Prepared)) (after : List TableRow) → ArePlaced table before → IsAfterBatches format table g taken before batches after → ArePlaced table after
    batches-placed taken before [] after placed is = subst⁻¹ (ArePlaced table) is placed
    batches-placed taken before (rows ∷ batches) after placed (between, is, are) =
        batches-placed (taken + count_new table before rows) between batches after (batch-placed taken before rows between placed is) are

    -- a row before that is not touched stands behind
    pub untouched-stays : (taken : ℕ) (before : List TableRow) (batches : List (List Prepared)) (after : List TableRow) → IsAfterBatches format table g taken before batches after
        → (row : TableRow) → (¬ IsTouchedFrom format table g taken before batches row.rowid) → Has row before → Has row after
    untouched-stays taken before [] after is row none h = subst⁻¹ (Has row) is h
    untouched-stays taken before (rows ∷ batches) after (between, is, are) row none h =
        untouched-stays (taken + count_new table before rows) between batches after are row (λ later. none (inr (between, is, later)))
        (kept-behind taken before rows between is row (has-filtered (row_after format table rows) before row row h
        (unmet-stays rows row (λ prepared k met. none (inl (inl (row, has-to before row h, refl, (prepared, has-to rows prepared k, met))))))))

    -- and one behind that is not touched stood before
    pub untouched-stood : (taken : ℕ) (before : List TableRow) (batches : List (List Prepared)) (after : List TableRow) → ArePlaced table before → IsAfterBatches format table g taken before batches after
        → (row : TableRow) → (¬ IsTouchedFrom format table g taken before batches row.rowid) → Has row after → Has row before
    untouched-stood taken before [] after placed is row none h = subst (Has row) is h
    untouched-stood taken before (rows ∷ batches) after placed (between, is, are) row none h =
        let there = untouched-stood (taken + count_new table before rows) between batches after (batch-placed taken before rows between placed is) are row (λ later. none (inr (between, is, later))) h in
        elim (behind-has taken before rows between is row there) [
          | inl kept ↦
              let from = filtered-has (row_after format table rows) before row kept in
              let follows = after-follows rows from.0 row (all-has (IsPlaced table) before from.0 placed from.1) from.2 in
              elim follows.1 [
                | inl met ↦ absurd (none (inl (inl (from.0, has-to before from.0 from.1, sym follows.0.0, (met.0, has-to rows met.0 met.1, met.2)))))
                | inr same ↦ subst (λ (r : TableRow). Has r before) same from.1
              ]
          | inr made ↦ absurd (none (inl (inr (row, has-to (Made taken before rows) row made, refl))))
        ]

-- Pairs.

rises-apart : (rowids : List ℤ) → AllPairs (λ (x y : ℤ). x <ℤ y) rowids → AllPairs (λ (x y : ℤ). x ≢ y) rowids
rises-apart rowids rise = λ i j d less long same. omega (arith, ints, rise i j d less long, same)

-- rows of which no two have one rowid are known by it
pub apart-one : (rows : List TableRow) → Apart rows → (a b : TableRow) → Has a rows → Has b rows → a.rowid ≡ b.rowid → a ≡ b
apart-one [] apart a b h k e = absurd h
apart-one (r ∷ rows) apart a b (inl s) (inl t) e = sym s ∙ t
apart-one (r ∷ rows) apart a b (inl s) (inr k) e = absurd (all-has (λ (x : TableRow). r.rowid ≢ x.rowid) rows b apart.0 k (ap (λ (x : TableRow). x.rowid) s ∙ e))
apart-one (r ∷ rows) apart a b (inr h) (inl t) e = absurd (all-has (λ (x : TableRow). r.rowid ≢ x.rowid) rows a apart.0 h (ap (λ (x : TableRow). x.rowid) t ∙ sym e))
apart-one (r ∷ rows) apart a b (inr h) (inr k) e = apart-one rows apart.1 a b h k e

-- the row of a rowid, where there is one, and where there is none
pub side-row : (rows : List TableRow) → Apart rows → (row : TableRow) → Has row rows → IsSide rows row.rowid (Some (row.rowid, row.values))
side-row rows apart row h = record {
  only = λ given e. let same : ◌≡◌ {A = ℤ × List Value} (row.rowid, row.values) given = cc in (row, has-to rows row h, refl, same);
  all = λ other stands e. ap (λ (r : TableRow). Some (r.rowid, r.values)) (apart-one rows apart row other h (has-from rows other stands) (sym e));
}

pub side-none : (rows : List TableRow) (rowid : ℤ) → AllByRecursion (λ (row : TableRow). row.rowid ≢ rowid) rows → IsSide rows rowid None
side-none rows rowid none = record {
  only = λ given e. absurd (let h : ⊥ = cc in h);
  all = λ other stands e. absurd (all-has (λ (row : TableRow). row.rowid ≢ rowid) rows other none (has-from rows other stands) e);
}

side-rowid : (rows : List TableRow) (z : ℤ) (side : Option (ℤ × List Value)) → IsSide rows z side → IfSome side (λ row. row.0 ≡ z)
side-rowid rows z None is = tt
side-rowid rows z (Some row) is = let found = is.only row refl in ap (λ (r : ℤ × List Value). r.0) (sym found.3) ∙ found.2

zip-weaken : {A B : Type 0} (R S : A → B → Type 0) (xs : List A) (ys : List B) → ((x : A) (y : B) → R x y → S x y) → AllZip R xs ys → AllZip S xs ys
zip-weaken R S [] [] weaker zip = tt
zip-weaken R S [] (y ∷ ys) weaker zip = absurd zip
zip-weaken R S (x ∷ xs) [] weaker zip = absurd zip
zip-weaken R S (x ∷ xs) (y ∷ ys) weaker zip = (weaker x y zip.0, zip-weaken R S xs ys weaker zip.1)

module _ (format : ℕ) (table : Table) (old after : List TableRow) (batches : List (List Prepared)) (pairs : List OldNew) (are : AreTouchedPairs format table old batches after pairs) where
  abbrev Sides : OldNew → ℤ → Type 0
  Sides pair rowid = IsSide old rowid pair.old × IsSide after rowid pair.new

  -- such pairs are of one rowid each
  pub touched-pairs : ArePairs pairs
  touched-pairs = record {
    rowids = are.rowids;
    each = zip-weaken Sides IsOfRowid pairs are.rowids (λ pair z sides. record { old = side-rowid old z pair.old sides.0; new = side-rowid after z pair.new sides.1 }) are.sides;
    differ = rises-apart are.rowids are.rise;
  }

  -- One side of the pairs.

  abbrev on_side : (OldNew → Option (ℤ × List Value)) → List TableRow
  on_side side = filter_map (λ pair. option_map (row_in table) (side pair)) pairs

  module _ (rows : List TableRow) (side : OldNew → Option (ℤ × List Value)) (placed : ArePlaced table rows) (sides : AllZip (λ (pair : OldNew) (rowid : ℤ). IsSide rows rowid (side pair)) pairs are.rowids) where
    placed-row : (row : TableRow) → Has row rows → (row_in table (row.rowid, row.values)).values ≡ row.values
    placed-row row h = all-has (IsPlaced table) rows row placed h

    -- a row of a touched rowid stands on its side of the pairs
    pub side-has : (row : TableRow) → Contains rows row → Contains are.rowids row.rowid → StandsAmong (on_side side) row
    side-has row stands touched =
        let found = zip-first (λ (pair : OldNew) (rowid : ℤ). IsSide rows rowid (side pair)) pairs are.rowids row.rowid (has-from are.rowids row.rowid touched) sides in
        let there = has-filtered (λ (pair : OldNew). option_map (row_in table) (side pair)) pairs found.0 (row_in table (row.rowid, row.values)) found.1 (ap (option_map (row_in table)) (found.2.all row stands refl)) in
        (row_in table (row.rowid, row.values), has-to (on_side side) (row_in table (row.rowid, row.values)) there, refl, placed-row row (has-from rows row stands))

    -- what stands on a side of the pairs is a row of a touched rowid
    pub has-side : (row : TableRow) → Contains (on_side side) row → StandsAmong rows row × Contains are.rowids row.rowid
    has-side row stands =
        let found = filtered-has (λ (pair : OldNew). option_map (row_in table) (side pair)) pairs row (has-from (on_side side) row stands) in
        let given = option-mapped (row_in table) (side found.0) row found.2 in
        let rowid = zip-second (λ (pair : OldNew) (z : ℤ). IsSide rows z (side pair)) pairs are.rowids found.0 found.1 sides in
        let other = rowid.2.only given.0 given.1 in
        let same : row_in table (other.0.rowid, other.0.values) ≡ row = ap (row_in table) other.3 ∙ given.2 in
        let rowids : other.0.rowid ≡ row.rowid = ap (λ (r : TableRow). r.rowid) same in
        let values : other.0.values ≡ row.values = sym (placed-row other.0 (has-from rows other.0 other.1)) ∙ ap (λ (r : TableRow). r.values) same in
        ((other.0, other.1, rowids, values), subst (Contains are.rowids) (sym other.2 ∙ rowids) (has-to are.rowids rowid.0 rowid.1))

  touched-or : (z : ℤ) → Contains are.rowids z ⊎ (¬ Contains are.rowids z)
  touched-or z =
      elim (decide (list_any (int_eq z) are.rowids)) [
        | inl passes ↦
            let found = any-has (int_eq z) are.rowids passes in
            let same = (Decides-int_eq z found.0).0 found.2 in
            inl (subst⁻¹ (Contains are.rowids) same (has-to are.rowids found.0 found.1))
        | inr fails ↦ inr (λ stands. true-false (list_any (int_eq z) are.rowids) (has-any (int_eq z) are.rowids z (has-from are.rowids z stands) ((Decides-int_eq z z).1 refl)) fails)
      ]

  module _ (placed : ArePlaced table old) (is : IsAfter format table old batches after) where
    abbrev g : ℤ
    g = greatest_of old

    after_placed : ArePlaced table after
    after_placed = batches-placed format table g 0 old batches after placed is

    olds : AllZip (λ (pair : OldNew) (rowid : ℤ). IsSide old rowid pair.old) pairs are.rowids
    olds = zip-weaken Sides (λ (pair : OldNew) (rowid : ℤ). IsSide old rowid pair.old) pairs are.rowids (λ pair z sides. sides.0) are.sides

    news : AllZip (λ (pair : OldNew) (rowid : ℤ). IsSide after rowid pair.new) pairs are.rowids
    news = zip-weaken Sides (λ (pair : OldNew) (rowid : ℤ). IsSide after rowid pair.new) pairs are.rowids (λ pair z sides. sides.1) are.sides

    old-side : (row : TableRow) → Contains old row → Contains are.rowids row.rowid → StandsAmong (old_rows table pairs) row
    old-side = side-has old (λ (pair : OldNew). pair.old) placed olds

    new-side : (row : TableRow) → Contains after row → Contains are.rowids row.rowid → StandsAmong (new_rows table pairs) row
    new-side = side-has after (λ (pair : OldNew). pair.new) after_placed news

    side-old : (row : TableRow) → Contains (old_rows table pairs) row → StandsAmong old row × Contains are.rowids row.rowid
    side-old = has-side old (λ (pair : OldNew). pair.old) placed olds

    side-new : (row : TableRow) → Contains (new_rows table pairs) row → StandsAmong after row × Contains are.rowids row.rowid
    side-new = has-side after (λ (pair : OldNew). pair.new) after_placed news

    -- their rows are those that are touched
    pub pairs-touched : AreTouched old after (old_rows table pairs) (new_rows table pairs)
    pairs-touched = record {
      old_stand = λ row stands. (side-old row stands).0;
      new_stand = λ row stands. (side-new row stands).0;
      old_rest = λ row stands. elim (touched-or row.rowid) [
        | inl touched ↦ inl (old-side row stands touched)
        | inr none ↦ inr (row, has-to after row (untouched-stays format table g 0 old batches after is row (λ t. none (are.all row.rowid t)) (has-from old row stands)), refl, refl)
      ];
      new_rest = λ row stands. elim (touched-or row.rowid) [
        | inl touched ↦ inl (new-side row stands touched)
        | inr none ↦ inr (row, has-to old row (untouched-stood format table g 0 old batches after placed is row (λ t. none (are.all row.rowid t)) (has-from after row stands)), refl, refl)
      ];
      old_whole = λ row other stands there same. old-side other there (subst⁻¹ (Contains are.rowids) same (side-new row stands).1);
      new_whole = λ row other stands there same. new-side other there (subst⁻¹ (Contains are.rowids) same (side-old row stands).1);
    }

    pub pairs-changes : (index : Index) (changes : List Change) → AreChanges index (old_rows table pairs) (new_rows table pairs) changes → AreChanges index old after changes
    pairs-changes index changes changed = touched-changes index old after (old_rows table pairs) (new_rows table pairs) pairs-touched changes changed

-- Plans.

rows-placed : (table : Table) (members : List Member) (rows : List TableRow) → AllZip (IsRow table) members rows → ArePlaced table rows
rows-placed table [] [] zip = tt
rows-placed table [] (row ∷ rows) zip = absurd zip
rows-placed table (member ∷ members) [] zip = absurd zip
rows-placed table (member ∷ members) (row ∷ rows) zip =
    let is = zip.0 in
    (ap₂ (with_rowid table.rowid_column) is.rowid is.values ∙ placed-twice table.rowid_column member.rowid is.stored ∙ sym is.values, rows-placed table members rows zip.1)

-- the changes between the touched rows of a plan are the steps of its indexes
pub plan-changes : (format : ℕ) (lists : List (ℕ × List Member)) (named : NamedEntry) (group : List Batch) (plan : TablePlan) (pairs : List OldNew) → IsTablePlan format lists named group plan
    → AreTouchedPairs format plan.table plan.old plan.batches plan.after pairs → (indexed : ℕ × Result Index SqlFault) (indexes : IndexPlan) → IsIndexPlan plan.old plan.after indexed indexes → (changes : List Change)
    → AreChanges indexes.index (old_rows plan.table pairs) (new_rows plan.table pairs) changes → changes ≡ indexes.changes
plan-changes format lists named group plan pairs is are indexed indexes is_index changes changed =
    let placed = rows-placed plan.table (list_at lists named.entry.root) plan.old is.old_rows in
    let all = pairs-changes format plan.table plan.old plan.after plan.batches pairs are placed is.after_rows indexes.index changes changed in
    changes-one indexes.index plan.old plan.after changes indexes.changes all is_index.changes

-- Groups without a fault.

all-rows : (rows : List Prepared) (faults : List (Option Violation)) → NoFaults rows faults → (rows_before_fault rows faults ≡ rows) × (list_any is_some faults ≡ false)
all-rows [] [] none = (refl, refl)
all-rows [] (fault ∷ faults) none = absurd none
all-rows (prepared ∷ rows) [] none = absurd none
all-rows (prepared ∷ rows) (None ∷ faults) none = let rest = all-rows rows faults none.1 in (ap (λ (ps : List Prepared). prepared ∷ ps) rest.0, rest.1)
all-rows (prepared ∷ rows) (Some fault ∷ faults) none = let e = none.0 in absurd (let h : ⊥ = cc in h)

-- a group without a fault has all its batches before it
pub faultless-all : (batches : List (List Prepared)) (faults : List (List (Option Violation))) → AllZip NoFaults batches faults → batches_before_fault batches faults ≡ batches
faultless-all [] [] none = refl
faultless-all [] (fs ∷ faults) none = absurd none
faultless-all (rows ∷ batches) [] none = absurd none
faultless-all (rows ∷ batches) (fs ∷ faults) none =
    let one = all-rows rows fs none.0 in
    ap₂ (λ (r : List Prepared) (rest : List (List Prepared)). r ∷ rest) one.0
    (ap (λ (t : Bool). if t then [] else batches_before_fault batches faults) one.1 ∙ faultless-all batches faults none.1)

-- so what it touches is what its plan says
pub touches-plan : (format : ℕ) (table : Table) (old after : List TableRow) (batches : List (List Prepared)) (faults : List (List (Option Violation))) (g : ℤ) (made : List Bool) (pairs : List OldNew)
    → AllZip NoFaults batches faults → IsAfter format table old batches after → Touches format table old batches faults g made pairs → AreTouchedPairs format table old batches after pairs
touches-plan format table old after batches faults g made pairs none is touches =
    let whole = faultless-all batches faults none in
    let same = after_batches-one format table (greatest_of old) 0 old batches touches.after after
    (subst (λ (bs : List (List Prepared)). IsAfterBatches format table (greatest_of old) 0 old bs touches.after) whole touches.after_is) is in
    subst (λ (rows : List TableRow). AreTouchedPairs format table old batches rows pairs) same
    (subst (λ (bs : List (List Prepared)). AreTouchedPairs format table old bs touches.after pairs) whole touches.pairs_are)
