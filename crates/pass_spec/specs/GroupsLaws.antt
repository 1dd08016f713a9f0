-- The table of a group that can be used stands in one of its batches behind its first steps: crates above cite these facts in their proofs.
use Rattle.std.proofs.Common.{◌≡◌, ℕ, ℤ, suc, pos, ◌+◌, ◌-◌, ◌≤◌, ◌+ℤ◌, ◌≤ℤ◌, ◌<ℤ◌, Bool, true, false, List, [], ◌∷◌, ◌++◌, length, take, drop, Option, Some, None, if◌then◌else◌, cond, refl, sym, ap, ap₂, ◌∙◌, subst, inl, inr, arith}
use Rattle.std.proofs.Math.Path.{subst⁻¹}
use Rattle.std.specs.Prelude.{IsPermutation, filter, find, int_lt, slice_index_or, sum_by}
use Rattle.std.specs.List.{AllByRecursion, AllZip}
use Rattle.std.specs.declared.cmp.Ordering.TheVariants.{Less}
use Rattle.std.proofs.lemmas.Int.{ints}
use Rattle.std.proofs.lemmas.List.{get_or-set_same, length-take-le, take-append-drop}
use Rattle.std.proofs.lemmas.List.Sorted.{Contains-permutation, IsPermutation-sym, length_permutation}
use Rattle.std.proofs.lemmas.List.Sums.{sum_by-cons}
use Rattle.rbu_value.specs.declared.value.Value.{Value}
use Rattle.rbu_value.specs.declared.value.Value.TheVariants.{Null, Int}
use Rattle.rbu_rows.specs.declared.prepared.Batch.{Batch}
use Rattle.rbu_rows.specs.declared.prepared.Prepared.{Prepared}
use Rattle.schema_spec.specs.declared.schema.Table.{Table}
use Rattle.tree_spec.specs.Trees.{Member}
use Rattle.tree_spec.specs.WorldsLaws.{all-front, all-back}
use Rattle.database_spec.specs.declared.catalog.NamedEntry.{NamedEntry}
use Rattle.database_spec.specs.Databases.{list_at}
use Rattle.database_spec.specs.ListsLaws.{PairsByRecursion}
use Rattle.database_spec.specs.Rows.{TableRow, IsRow, with_rowid}
use Rattle.prepared_spec.specs.ChangesLaws.{all-has}
use Rattle.prepared_spec.specs.MembersLaws.{Has, has-from, has-to}
use Rattle.prepared_spec.specs.Plans.{firsts}
use Rattle.prepared_spec.specs.PlansLaws.{after_batch-one, key_order-one}
use Rattle.prepared_spec.specs.RowKeys.{has_rowid_key, key_cmp, meets, IsInKeyOrder}
use Rattle.prepared_spec.specs.Tables.{count_new, greatest_of, greatest_over, integer_in, is_new, new_rows, row_after, written_row, new_rowid, IsAfterBatch, IsAfterBatches}
use Rattle.prepared_laws.specs.SortsLaws.{on-if}
use Rattle.prepared_laws.specs.TablesMadeLaws.{Apart, HasRowidColumn, HasRowidKey, IsFit, IsReached, IsUsable, after_batches-some, with_rowid-many}
use Rattle.prepared_laws.specs.TransactionsLaws.{IsUsableGroup}
use Rattle.index_changes.specs.ListsLaws.{filtered-has, pairs-at}
use Rattle.touched_rows.specs.TouchedRowsLaws.{behind-has}
use Rattle.pass_spec.specs.BatchesLaws.{batches-stand, firsts-front}
use Rattle.pass_spec.specs.BatchStepsLaws.{after-found, after-unmet}
use Rattle.pass_spec.specs.RowidKeysLaws.{met-rowid}
use Rattle.pass_spec.specs.TableSteps.{AreDue, AreInKeyOrder, IsBeforeBatch, IsMidGroup, IsTaken, StandsInBatch, batch_steps}

-- Lists.

all-by : {A : Type 0} (P : A → Type 0) (xs : List A) → ((x : A) → Has x xs → P x) → AllByRecursion P xs
all-by P [] each = tt
all-by P (x ∷ xs) each = (each x (inl refl), all-by P xs (λ y h. each y (inr h)))

-- what holds of items holds of them in another order
pub all-permutes : {A : Type 0} (P : A → Type 0) (xs ys : List A) → IsPermutation xs ys → AllByRecursion P xs → AllByRecursion P ys
all-permutes P xs ys permutes all = all-by P ys (λ y h. all-has P xs y all (has-from xs y (Contains-permutation ys xs y (IsPermutation-sym xs ys permutes) (has-to ys y h))))

-- a list beside one with an item in its middle
zip-parts : {A B : Type 0} (R : A → B → Type 0) (xs : List A) (x : A) (ys : List A) (zs : List B) → AllZip R (xs ++ x ∷ ys) zs
    → (front : List B) × (z : B) × (back : List B) × (zs ≡ front ++ z ∷ back) × AllZip R xs front × R x z × AllZip R ys back
zip-parts R [] x ys [] zip = absurd zip
zip-parts R [] x ys (z ∷ zs) zip = ([], z, zs, refl, tt, zip.0, zip.1)
zip-parts R (w ∷ xs) x ys [] zip = absurd zip
zip-parts R (w ∷ xs) x ys (z ∷ zs) zip =
    let rest = zip-parts R xs x ys zs zip.1 in
    (z ∷ rest.0, rest.1, rest.2, ap (λ (l : List _). z ∷ l) rest.3, (zip.0, rest.4), rest.5, rest.6)

-- batches have as many steps in key order
steps-same : (table : Table) (batches : List Batch) (ordered : List (List Prepared)) → AreInKeyOrder table batches ordered → batch_steps batches ≡ sum_by length ordered
steps-same table [] [] are = refl
steps-same table [] (rows ∷ ordered) are = absurd are
steps-same table (batch ∷ batches) [] are = absurd are
steps-same table (batch ∷ batches) (rows ∷ ordered) are =
    sum_by-cons (λ (one : Batch). length one.rows) batch batches
    ∙ ap₂ (λ (m n : ℕ). m + n) (sym (length_permutation batch.rows rows are.0.all)) (steps-same table batches ordered are.1)
    ∙ sym (sum_by-cons length rows ordered)

-- The rows before a group.

module _ (table : Table) (has : HasRowidColumn table) where
  row-fit : (member : Member) (row : TableRow) → IsRow table member row → IsFit table row
  row-fit member row is = record {
    many = ap length is.values ∙ with_rowid-many table.rowid_column member.rowid is.stored ∙ is.many;
    keyed = λ column e.
        subst⁻¹ (λ (v : List Value). slice_index_or v column Null ≡ Int row.rowid) is.values
        (subst⁻¹ (λ (o : Option ℕ). slice_index_or (with_rowid o member.rowid is.stored) column Null ≡ Int row.rowid) e
        (get_or-set_same is.stored column (Int member.rowid) Null (omega (arith, has column e, is.many)) ∙ ap Int (sym is.rowid)));
  }

  rows-fit : (members : List Member) (rows : List TableRow) → AllZip (IsRow table) members rows → AllByRecursion (IsFit table) rows
  rows-fit [] [] are = tt
  rows-fit [] (row ∷ rows) are = absurd are
  rows-fit (m ∷ members) [] are = absurd are
  rows-fit (m ∷ members) (row ∷ rows) are = (row-fit m row are.0, rows-fit members rows are.1)

-- no rowid is over the greatest
greatest-least : (g : ℤ) (rows : List TableRow) → g ≤ℤ greatest_over g rows
greatest-least g [] = omega (arith, ints)
greatest-least g (row ∷ rows) =
    on-if (λ (m : ℤ). g ≤ℤ greatest_over m rows) (int_lt g row.rowid) row.rowid g
    (λ e. let less : g <ℤ row.rowid = grind (arith, ints, e) in let rest = greatest-least row.rowid rows in omega (arith, ints, less, rest)) (λ e. greatest-least g rows)

greatest-over : (g : ℤ) (rows : List TableRow) (row : TableRow) → Has row rows → row.rowid ≤ℤ greatest_over g rows
greatest-over g [] row h = absurd h
greatest-over g (first ∷ rows) row (inl e) =
    subst (λ (r : TableRow). r.rowid ≤ℤ greatest_over g (first ∷ rows)) e
    (on-if (λ (m : ℤ). first.rowid ≤ℤ greatest_over m rows) (int_lt g first.rowid) first.rowid g (λ f. greatest-least first.rowid rows)
    (λ f. let less : first.rowid ≤ℤ g = grind (arith, ints, f) in let rest = greatest-least g rows in omega (arith, ints, less, rest)))
greatest-over g (first ∷ rows) row (inr h) =
    on-if (λ (m : ℤ). row.rowid ≤ℤ greatest_over m rows) (int_lt g first.rowid) first.rowid g (λ f. greatest-over first.rowid rows row h) (λ f. greatest-over g rows row h)

-- A group that can be used begins with the rows of its table.
pub group-reached : (lists : List (ℕ × List Member)) (named : NamedEntry) (group : List Batch) (is : IsUsableGroup lists named group) → IsReached is.table (greatest_of is.old) 0 is.old
group-reached lists named group is = record {
  fit = rows-fit is.table is.column (list_at lists named.entry.root) is.old is.old_rows;
  apart = is.apart;
  below = all-by (λ (row : TableRow). has_rowid_key is.table ≡ false → row.rowid ≤ℤ (greatest_of is.old +ℤ pos 0)) is.old
      (λ row h e. let least = greatest-over (pos 0) is.old row h in omega (arith, ints, least));
}

-- Behind batches.

more-below : (m n : ℕ) (g z : ℤ) → m ≤ n → z ≤ℤ (g +ℤ pos m) → z ≤ℤ (g +ℤ pos n)
more-below m n g z less below = omega (arith, ints, less, below)

module _ (format : ℕ) (table : Table) (g : ℤ) where
  -- a row that becomes another keeps its rowid
  after-rowid : (rows : List Prepared) (x r : TableRow) → row_after format table rows x ≡ Some r → r.rowid ≡ x.rowid
  after-rowid rows x r e = by (find (meets table x) rows) refl
    where
      by : (o : Option Prepared) → find (meets table x) rows ≡ o → r.rowid ≡ x.rowid
      by None f = let same : Some x ≡ Some r = sym (after-unmet format table rows x f) ∙ e in let here : x ≡ r = cc in ap (λ (v : TableRow). v.rowid) (sym here)
      by (Some d) f = met-rowid format table x d.control d.values r (sym (after-found format table rows x d f) ∙ e)

  -- no new row has a rowid over that of the last
  new-below : (before : List TableRow) (rows : List Prepared) (taken : ℕ) (r : TableRow) → has_rowid_key table ≡ false → Has r (new_rows format table g taken before rows) → r.rowid ≤ℤ (g +ℤ pos (taken + count_new table before rows))
  new-below before [] taken r keyed h = absurd h
  new-below before (p ∷ rows) taken r keyed h = by (is_new table before p) h (new-below before rows taken r keyed) (new-below before rows (suc taken) r keyed)
    where
      by : (t : Bool) → Has r (if t then written_row format table (new_rowid table g (suc taken) p) p.values ∷ new_rows format table g (suc taken) before rows else new_rows format table g taken before rows)
          → (Has r (new_rows format table g taken before rows) → r.rowid ≤ℤ (g +ℤ pos (taken + count_new table before rows)))
          → (Has r (new_rows format table g (suc taken) before rows) → r.rowid ≤ℤ (g +ℤ pos (suc taken + count_new table before rows)))
          → r.rowid ≤ℤ (g +ℤ pos (taken + length (cond t (p ∷ filter (is_new table before) rows) (filter (is_new table before) rows))))
      by false k same next = same k
      by true (inl e) same next =
          let more = length (filter (is_new table before) rows) in
          subst (λ (x : TableRow). x.rowid ≤ℤ (g +ℤ pos (taken + suc more))) e
          (subst⁻¹ (λ (t : Bool). (if t then integer_in (slice_index_or p.key 0 Null) else (g +ℤ pos (suc taken))) ≤ℤ (g +ℤ pos (taken + suc more))) keyed (omega (arith, ints)))
      by true (inr k) same next =
          let more = length (filter (is_new table before) rows) in
          more-below (suc taken + more) (taken + suc more) g r.rowid (omega arith) (next k)

  module _ (column : HasRowidColumn table) (shape : HasRowidKey table) where
    abbrev Usable : List Prepared → Type 0
    Usable rows = AllByRecursion (IsUsable table) rows × PairsByRecursion (λ (a b : Prepared). key_cmp table a.key b.key ≡ Less) rows

    -- a table that is reached is so behind a batch
    after-reached : (taken : ℕ) (before : List TableRow) (rows : List Prepared) (after : List TableRow) → IsReached table g taken before → Usable rows → IsAfterBatch format table g taken before rows after
        → IsReached table g (taken + count_new table before rows) after
    after-reached taken before rows after reached usable is =
        let made = after_batches-some format table column shape g taken before (rows ∷ []) reached (usable, tt) in
        let same : made.0 ≡ after = made.1.2 ∙ after_batch-one format table g taken before rows made.1.0 after made.1.1 is in record {
          fit = subst (AllByRecursion (IsFit table)) same made.2.1.fit;
          apart = subst Apart same made.2.1.apart;
          below = all-by (λ (row : TableRow). has_rowid_key table ≡ false → row.rowid ≤ℤ (g +ℤ pos (taken + count_new table before rows))) after (λ r h keyed. below r h keyed);
        }
      where
        below : (r : TableRow) → Has r after → has_rowid_key table ≡ false → r.rowid ≤ℤ (g +ℤ pos (taken + count_new table before rows))
        below r h keyed =
            elim (behind-has format table g taken before rows after is r h) [
              | inl kept ↦
                  let from = filtered-has (row_after format table rows) before r kept in
                  let old = all-has (λ (row : TableRow). has_rowid_key table ≡ false → row.rowid ≤ℤ (g +ℤ pos taken)) before from.0 reached.below from.1 keyed in
                  subst⁻¹ (λ (z : ℤ). z ≤ℤ (g +ℤ pos (taken + count_new table before rows))) (after-rowid rows from.0 r from.2)
                  (more-below taken (taken + count_new table before rows) g from.0.rowid (omega arith) old)
              | inr made ↦ new-below before rows taken r keyed made
            ]

    -- and behind earlier ones of its group
    pub before-reached : (earlier : List (List Prepared)) (taken : ℕ) (old : List TableRow) → IsReached table g taken old → AllByRecursion Usable earlier → (start : ℕ) (before : List TableRow)
        → IsBeforeBatch format table g taken old earlier start before → IsReached table g start before
    before-reached [] taken old reached usable start before (same, first) = subst⁻¹ (λ (n : ℕ). IsReached table g n before) first (subst⁻¹ (IsReached table g taken) same reached)
    before-reached (rows ∷ earlier) taken old reached usable start before (between, is, rest) =
        before-reached earlier (taken + count_new table old rows) between (after-reached taken old rows between reached usable.0 is) usable.1 start before rest

    usable-rows : (batch : Batch) (rows : List Prepared) → IsInKeyOrder table batch.rows rows → AllByRecursion (IsUsable table) batch.rows → Usable rows
    usable-rows batch rows is all = (all-permutes (IsUsable table) batch.rows rows is.all all, pairs-at (λ (a b : Prepared). key_cmp table a.key b.key ≡ Less) rows is.sorted)

    usable-batches : (batches : List Batch) (ordered : List (List Prepared)) → AreInKeyOrder table batches ordered → AllByRecursion (λ (batch : Batch). AllByRecursion (IsUsable table) batch.rows) batches → AllByRecursion Usable ordered
    usable-batches [] [] are all = tt
    usable-batches [] (rows ∷ ordered) are all = absurd are
    usable-batches (batch ∷ batches) [] are all = absurd are
    usable-batches (batch ∷ batches) (rows ∷ ordered) are all = (usable-rows batch rows are.0 all.0, usable-batches batches ordered are.1 all.1)

  -- How many rows are new.

  taken-none : (later : List (List Prepared)) (n : ℕ) (rows : List TableRow) (count : ℕ) → IsTaken format table g n rows (firsts 0 later) count → count ≡ n
  taken-none [] n rows count e = e
  taken-none (batch ∷ later) n rows count (between, is, rest) =
      let none : 0 - length batch ≡ 0 = omega arith in
      let more : n + count_new table rows [] ≡ n = omega arith in
      taken-none later (n + count_new table rows []) between count (subst (λ (k : ℕ). IsTaken format table g (n + count_new table rows []) between (firsts k later) count) none rest) ∙ more

  taken-in : (earlier : List (List Prepared)) (done : List Prepared) (later : List (List Prepared)) (taken : ℕ) (old : List TableRow) (start : ℕ) (before : List TableRow) (count : ℕ)
      → IsBeforeBatch format table g taken old earlier start before → IsTaken format table g taken old (earlier ++ done ∷ firsts 0 later) count → count ≡ start + count_new table before done
  taken-in [] done later taken old start before count (same, first) (between, is, rest) =
      taken-none later (taken + count_new table old done) between count rest ∙ ap₂ (λ (n : ℕ) (rows : List TableRow). n + count_new table rows done) (sym first) (sym same)
  taken-in (batch ∷ earlier) done later taken old start before count (between, is, reached) (other, also, rest) =
      let one : other ≡ between = after_batch-one format table g taken old batch other between also is in
      taken-in earlier done later (taken + count_new table old batch) between start before count reached
      (subst (λ (rows : List TableRow). IsTaken format table g (taken + count_new table old batch) rows (earlier ++ done ∷ firsts 0 later) count) one rest)

module _ (format : ℕ) (lists : List (ℕ × List Member)) (named : NamedEntry) (earlier : List Batch) (batch : Batch) (later : List Batch) (from taken : ℕ) (now : List TableRow)
    (mid : IsMidGroup format lists named earlier batch later from taken now) where
  abbrev target : Table
  target = mid.group.table

  abbrev g : ℤ
  g = greatest_of mid.group.old

  abbrev Used : Batch → Type 0
  Used one = AllByRecursion (IsUsable target) one.rows

  -- So its table stands in this batch.
  pub mid-stands : (rows : List Prepared) → IsInKeyOrder target batch.rows rows → StandsInBatch format target g mid.group.old earlier rows from taken now
  mid-stands rows is =
      let parts = zip-parts (λ (one : Batch) (ordered : List Prepared). IsInKeyOrder target one.rows ordered) earlier batch later mid.ordered mid.in_order in
      let done = take from rows in
      let rest = drop from rows in
      let one : parts.1 ≡ rows = key_order-one target batch.rows parts.1 rows parts.5 is in
      let long = length_permutation batch.rows rows is.all in
      let count : length done ≡ from = length-take-le from rows (omega (arith, long, mid.few)) in
      let ordered : mid.ordered ≡ parts.0 ++ (done ++ rest) ∷ parts.2 = parts.3 ∙ ap (λ (r : List Prepared). parts.0 ++ r ∷ parts.2) (one ∙ sym (take-append-drop from rows)) in
      let number : batch_steps earlier + from ≡ sum_by length parts.0 + length done = ap₂ (λ (m n : ℕ). m + n) (steps-same target earlier parts.0 parts.4) (sym count) in
      let firsts_are : firsts (batch_steps earlier + from) mid.ordered ≡ parts.0 ++ done ∷ firsts 0 parts.2 =
      ap₂ (λ (n : ℕ) (l : List (List Prepared)). firsts n l) number ordered ∙ firsts-front parts.0 done rest parts.2 in
      let stand = batches-stand format target g parts.0 done parts.2 0 mid.group.old now (subst (λ (l : List (List Prepared)). IsAfterBatches format target g 0 mid.group.old l now) firsts_are mid.behind) in
      let before_usable = usable-batches format target g mid.group.column mid.group.key earlier parts.0 parts.4 (all-front Used earlier (batch ∷ later) mid.group.rows) in
      let own_usable = usable-rows format target g mid.group.column mid.group.key batch rows is (all-back Used earlier (batch ∷ later) mid.group.rows).0 in record {
        batches = parts.0;
        in_order = parts.4;
        start = stand.0;
        before = stand.1;
        reached = stand.2;
        due = record {
          column = mid.group.column;
          shape = mid.group.key;
          reached = before-reached format target g mid.group.column mid.group.key parts.0 0 mid.group.old (group-reached lists named (earlier ++ batch ∷ later) mid.group) before_usable stand.0 stand.1 stand.2;
          usable = own_usable.0;
          ordered = own_usable.1;
        };
        behind = record {
          after = stand.3.after;
          taken_is =
              taken-in format target g parts.0 done parts.2 0 mid.group.old stand.0 stand.1 taken stand.2
              (subst (λ (l : List (List Prepared)). IsTaken format target g 0 mid.group.old l taken) firsts_are mid.new_rows);
        };
      }
