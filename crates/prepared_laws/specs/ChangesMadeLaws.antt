-- An index has a projection of rows and changes between rows, and each change has a fault or none: crates above cite these facts in their proofs.
use Rattle.std.proofs.Common.{◌≡◌, ◌≢◌, ℕ, zero, suc, ◌≤◌, ◌+◌, ◌⊎◌, not, Bool, true, false, IsTrue, List, [], ◌∷◌, ◌++◌, length, map, Option, Some, None, refl, sym, ap, ◌∙◌, subst, inl, inr, length-append, arith}
use Rattle.std.proofs.Math.Path.{subst⁻¹}
use Rattle.std.specs.Prelude.{Contains, IsPermutation, filter, slice_index_or}
use Rattle.std.specs.List.{AllByRecursion, AllZip, list_any}
use Rattle.std.specs.Ordering.{ordering_then, nat_cmp}
use Rattle.std.specs.declared.cmp.Ordering.{Ordering}
use Rattle.std.specs.declared.cmp.Ordering.TheVariants.{Less, Equal, Greater}
use Rattle.std.specs.Cmp.{IsTotalOrder, on_total, then_total, nat_cmp_total}
use Rattle.std.proofs.lemmas.List.{length-map}
use Rattle.std.proofs.lemmas.List.Sorted.{Contains-permutation}
use Rattle.tree_spec.specs.WorldsLaws.{all-join}
use Rattle.rbu_value.specs.declared.order.Collation.{Collation}
use Rattle.rbu_value.specs.declared.order.Collation.TheVariants.{Binary}
use Rattle.rbu_value.specs.declared.value.Value.{Value}
use Rattle.rbu_value.specs.declared.value.Value.TheVariants.{Null, Int}
use Rattle.rbu_value.specs.Order.{value_cmp}
use Rattle.rbu_value.specs.OrderLaws.{value_cmp-total, value_cmp-same}
use Rattle.schema_spec.specs.declared.schema.Index.{Index}
use Rattle.database_spec.specs.Rows.{TableRow}
use Rattle.database_spec.specs.Keys.{columns_cmp, order_of, last_value, entry_cmp, IsBefore, entry_of, IsProjection, has_null, Clash}
use Rattle.database_spec.specs.ListsLaws.{PairsByRecursion, pairs-from}
use Rattle.prepared_spec.specs.declared.violation.Violation.{Violation}
use Rattle.prepared_spec.specs.declared.violation.Violation.TheVariants.{NotUnique}
use Rattle.prepared_spec.specs.declared.violation.Change.{Change}
use Rattle.prepared_spec.specs.declared.violation.Change.TheVariants.{Remove, Add}
use Rattle.prepared_spec.specs.Tables.{same_values}
use Rattle.prepared_spec.specs.StepFaults.{entries_of, IsChange, changed_entry, change_rank, change_cmp, AreChanges, IsLeastClash, IsAlike, IsAtFault, AddsClash, IsChangeFault}
use Rattle.prepared_spec.specs.MembersLaws.{Has, has-from, has-to, has-left, has-right, has-map, has-filter, values-same, values-itself, decide, true-false}
use Rattle.prepared_spec.specs.ChangesLaws.{present, absent, all-has, changes-are}
use Rattle.prepared_laws.specs.SortsLaws.{in_order, in_order-permutes, in_order-all, in_order-sorted, on-if, all-weaken}
use Rattle.prepared_laws.specs.PaddedKeysLaws.{padded_cmp, padded-same, padded-total}
use Rattle.prepared_laws.specs.TablesMadeLaws.{all-with, pairs-with, pairs-weaken, pairs-join, Apart}

-- Lists.

all-map : {A B : Type 0} (P : B → Type 0) (f : A → B) (xs : List A) → AllByRecursion (λ x. P (f x)) xs → AllByRecursion P (map f xs)
all-map P f [] all = tt
all-map P f (x ∷ xs) all = (all.0, all-map P f xs all.1)

pairs-map : {A B : Type 0} (S : B → B → Type 0) (f : A → B) (xs : List A) → PairsByRecursion (λ x y. S (f x) (f y)) xs → PairsByRecursion S (map f xs)
pairs-map S f [] pairs = tt
pairs-map S f (x ∷ xs) pairs = (all-map (S (f x)) f xs pairs.0, pairs-map S f xs pairs.1)

all-filter : {A : Type 0} (P : A → Type 0) (p : A → Bool) (xs : List A) → AllByRecursion P xs → AllByRecursion P (filter p xs)
all-filter P p [] all = tt
all-filter P p (x ∷ xs) all = on-if (AllByRecursion P) (p x) (x ∷ filter p xs) (filter p xs) (λ e. (all.0, all-filter P p xs all.1)) (λ e. all-filter P p xs all.1)

pub pairs-filter : {A : Type 0} (S : A → A → Type 0) (p : A → Bool) (xs : List A) → PairsByRecursion S xs → PairsByRecursion S (filter p xs)
pairs-filter S p [] pairs = tt
pairs-filter S p (x ∷ xs) pairs =
    on-if (PairsByRecursion S) (p x) (x ∷ filter p xs) (filter p xs) (λ e. (all-filter (S x) p xs pairs.0, pairs-filter S p xs pairs.1)) (λ e. pairs-filter S p xs pairs.1)

all-passes : {A : Type 0} (p : A → Bool) (xs : List A) → AllByRecursion (λ x. p x ≡ true) (filter p xs)
all-passes p [] = tt
all-passes p (x ∷ xs) = on-if (AllByRecursion (λ y. p y ≡ true)) (p x) (x ∷ filter p xs) (filter p xs) (λ e. (e, all-passes p xs)) (λ e. all-passes p xs)

-- each item stands in its list
all-stand : {A : Type 0} (whole xs : List A) → ((x : A) → Has x xs → Has x whole) → AllByRecursion (λ x. Has x whole) xs
all-stand whole [] in_ = tt
all-stand whole (x ∷ xs) in_ = (in_ x (inl refl), all-stand whole xs (λ y h. in_ y (inr h)))

pub zip-some : {A B : Type 0} (R : A → B → Type 0) (xs : List A) → AllByRecursion (λ x. (y : B) × R x y) xs → (ys : List B) × AllZip R xs ys
zip-some R [] all = ([], tt)
zip-some R (x ∷ xs) all = let rest = zip-some R xs all.1 in (all.0.0 ∷ rest.0, (all.0.1, rest.1))

-- Entries.

last-of : (xs : List Value) (y d : Value) (n : ℕ) → n ≡ length xs → slice_index_or (xs ++ y ∷ []) n d ≡ y
last-of [] y d zero e = refl
last-of [] y d (suc n) e = absurd (omega (arith, e))
last-of (x ∷ xs) y d zero e = absurd (omega (arith, e))
last-of (x ∷ xs) y d (suc n) e = last-of xs y d n (omega (arith, e))

then-equal : (o p : Ordering) → ordering_then o p ≡ Equal → (o ≡ Equal) × (p ≡ Equal)
then-equal Less p e = let h : ⊥ = cc in absurd h
then-equal Equal p e = (refl, e)
then-equal Greater p e = let h : ⊥ = cc in absurd h

module _ (index : Index) where
  abbrev order : List (Collation × Bool)
  order = order_of index

  pub last-is : (row : TableRow) → last_value order (entry_of index row) ≡ Int row.rowid
  last-is row =
      last-of (map (λ column. slice_index_or row.values column.0 Null) index.columns) (Int row.rowid) Null (length order)
      (length-map index.columns (λ column. (column.1, column.2)) ∙ sym (length-map index.columns (λ column. slice_index_or row.values column.0 Null)))

  abbrev Long : List Value → Type 0
  Long entry = length order ≤ length entry

  pub entry-long : (row : TableRow) → Long (entry_of index row)
  entry-long row =
      let values = map (λ column. slice_index_or row.values column.0 Null) index.columns in
      let columns : length order ≡ length index.columns = length-map index.columns (λ column. (column.1, column.2)) in
      let many : length values ≡ length index.columns = length-map index.columns (λ column. slice_index_or row.values column.0 Null) in
      let all : length (values ++ Int row.rowid ∷ []) ≡ length values + 1 = length-append values (Int row.rowid ∷ []) in
      omega (arith, columns, many, all)

  lasts-differ : (a b : TableRow) → a.rowid ≢ b.rowid → value_cmp Binary (last_value order (entry_of index a)) (last_value order (entry_of index b)) ≢ Equal
  lasts-differ a b unlike e =
      let same : Int a.rowid ≡ Int b.rowid = sym (last-is a) ∙ value_cmp-same (last_value order (entry_of index a)) (last_value order (entry_of index b)) e ∙ last-is b in
      let one : a.rowid ≡ b.rowid = cc in unlike one

  abbrev LastsDiffer : List Value → List Value → Type 0
  LastsDiffer a b = value_cmp Binary (last_value order a) (last_value order b) ≢ Equal

  entries-differ : (rows : List TableRow) → Apart rows → PairsByRecursion LastsDiffer (entries_of index rows)
  entries-differ rows apart =
      pairs-map LastsDiffer (entry_of index) rows (pairs-weaken (λ (a b : TableRow). a.rowid ≢ b.rowid) (λ (a b : TableRow). LastsDiffer (entry_of index a) (entry_of index b)) rows lasts-differ apart)

  entries-long : (rows : List TableRow) → AllByRecursion Long (entries_of index rows)
  entries-long [] = tt
  entries-long (row ∷ rows) = (entry-long row, entries-long rows)

  abbrev pub by_entry : List Value → List Value → Ordering
  by_entry a b = ordering_then (padded_cmp order a b) (value_cmp Binary (last_value order a) (last_value order b))

  pub by_entry-total : IsTotalOrder by_entry
  by_entry-total = then_total (padded-total order) (on_total (last_value order) (value_cmp-total Binary))

  -- rows have a projection
  pub projection-some : (rows : List TableRow) → Apart rows → (entries : List (List Value)) × IsProjection index rows entries
  projection-some rows apart =
      let own = entries_of index rows in
      let entries = in_order by_entry own in
      let sorted =
      in_order-sorted by_entry by_entry-total own
      (pairs-weaken LastsDiffer (λ (a b : List Value). by_entry a b ≢ Equal) own (λ a b unlike e. unlike (then-equal (padded_cmp order a b) (value_cmp Binary (last_value order a) (last_value order b)) e).1) (entries-differ rows apart)) in
      let before =
      pairs-with Long (λ (a b : List Value). by_entry a b ≡ Less) (IsBefore index) entries
      (λ a b p q less. ap (λ (o : Ordering). ordering_then o (value_cmp Binary (last_value order a) (last_value order b))) (padded-same order a b p q) ∙ less)
      (in_order-all by_entry Long own (entries-long rows)) sorted in
      (entries, record { all = in_order-permutes by_entry own; sorted = pairs-from (IsBefore index) entries before })

  -- Changes.

  abbrev by_change : Change → Change → Ordering
  by_change a b =
      ordering_then (padded_cmp order (changed_entry a) (changed_entry b))
      (ordering_then (nat_cmp (change_rank a) (change_rank b)) (value_cmp Binary (last_value order (changed_entry a)) (last_value order (changed_entry b))))

  by_change-total : IsTotalOrder by_change
  by_change-total =
      then_total (on_total changed_entry (padded-total order)) (then_total (on_total change_rank nat_cmp_total) (on_total (λ (c : Change). last_value order (changed_entry c)) (value_cmp-total Binary)))

  abbrev lacks : List (List Value) → List Value → Bool
  lacks entries entry = not (list_any (same_values entry) entries)

  not-true : (t : Bool) → not t ≡ true → t ≡ false
  not-true true e = absurd (let h : ◌≡◌ {A = Bool} false true = e in let no : ⊥ = cc in no)
  not-true false e = refl

  lacks-is : (entries : List (List Value)) (entry : List Value) → lacks entries entry ≡ true → ¬ Contains entries entry
  lacks-is entries entry e = absent entry entries (not-true (list_any (same_values entry) entries) e)

  lacks-or : (entries : List (List Value)) (entry : List Value) → Contains entries entry ⊎ (lacks entries entry ≡ true)
  lacks-or entries entry = elim (decide (list_any (same_values entry) entries)) [ inl e ↦ inl (present entry entries e) | inr e ↦ inr (ap not e) ]

  abbrev LongChange : Change → Type 0
  LongChange change = Long (changed_entry change)

  module _ (old new : List TableRow) (old_apart : Apart old) (new_apart : Apart new) where
    abbrev before : List (List Value)
    before = entries_of index old

    abbrev after : List (List Value)
    after = entries_of index new

    abbrev removed : List (List Value)
    removed = filter (lacks after) before

    abbrev added : List (List Value)
    added = filter (lacks before) after

    abbrev all_changes : List Change
    all_changes = map Remove removed ++ map Add added

    abbrev Differ : Change → Change → Type 0
    Differ a b = by_change a b ≢ Equal

    lasts-apart : (a b : Change) → LastsDiffer (changed_entry a) (changed_entry b) → Differ a b
    lasts-apart a b unlike e =
        let rest = ordering_then (nat_cmp (change_rank a) (change_rank b)) (value_cmp Binary (last_value order (changed_entry a)) (last_value order (changed_entry b))) in
        unlike (then-equal (nat_cmp (change_rank a) (change_rank b)) (value_cmp Binary (last_value order (changed_entry a)) (last_value order (changed_entry b)))
        (then-equal (padded_cmp order (changed_entry a) (changed_entry b)) rest e).1).1

    ranks-apart : (a b : List Value) → Differ (Remove a) (Add b)
    ranks-apart a b e =
        let rest = ordering_then Less (value_cmp Binary (last_value order a) (last_value order b)) in
        let h : ◌≡◌ {A = Ordering} Less Equal = (then-equal (padded_cmp order a b) rest e).1 in let no : ⊥ = cc in no

    everywhere : (x : List Value) (ys : List (List Value)) → AllByRecursion (λ y. Differ (Remove x) (Add y)) ys
    everywhere x [] = tt
    everywhere x (y ∷ ys) = (ranks-apart x y, everywhere x ys)

    across : (xs ys : List (List Value)) → AllByRecursion (λ x. AllByRecursion (Differ x) (map Add ys)) (map Remove xs)
    across [] ys = tt
    across (x ∷ xs) ys = (all-map (Differ (Remove x)) Add ys (everywhere x ys), across xs ys)

    changes-differ : PairsByRecursion Differ all_changes
    changes-differ =
        pairs-join Differ (map Remove removed) (map Add added)
        (pairs-map Differ Remove removed (pairs-weaken LastsDiffer (λ (a b : List Value). Differ (Remove a) (Remove b)) removed (λ a b unlike. lasts-apart (Remove a) (Remove b) unlike)
        (pairs-filter LastsDiffer (lacks after) before (entries-differ old old_apart))))
        (pairs-map Differ Add added (pairs-weaken LastsDiffer (λ (a b : List Value). Differ (Add a) (Add b)) added (λ a b unlike. lasts-apart (Add a) (Add b) unlike)
        (pairs-filter LastsDiffer (lacks before) after (entries-differ new new_apart))))
        (across removed added)

    abbrev changes : List Change
    changes = in_order by_change all_changes

    removed-are : AllByRecursion (λ entry. IsChange index old new (Remove entry)) removed
    removed-are =
        all-with (λ entry. Has entry before) (λ entry. lacks after entry ≡ true) (λ entry. IsChange index old new (Remove entry)) removed (λ entry has e. (has-to before entry has, lacks-is after entry e))
        (all-filter (λ entry. Has entry before) (lacks after) before (all-stand before before (λ x h. h))) (all-passes (lacks after) before)

    added-are : AllByRecursion (λ entry. IsChange index old new (Add entry)) added
    added-are =
        all-with (λ entry. Has entry after) (λ entry. lacks before entry ≡ true) (λ entry. IsChange index old new (Add entry)) added (λ entry has e. (has-to after entry has, lacks-is before entry e))
        (all-filter (λ entry. Has entry after) (lacks before) after (all-stand after after (λ x h. h))) (all-passes (lacks before) after)

    in-changes : (change : Change) → Has change all_changes → Has change changes
    in-changes change h = has-from changes change (Contains-permutation all_changes changes change (in_order-permutes by_change all_changes) (has-to all_changes change h))

    -- old and new rows have changes
    pub changes-some : (changes : List Change) × AreChanges index old new changes
    changes-some = (
      changes,
      changes-are index old new changes
          (in_order-all by_change (IsChange index old new) all_changes
          (all-join (IsChange index old new) (map Remove removed) (map Add added) (all-map (IsChange index old new) Remove removed removed-are) (all-map (IsChange index old new) Add added added-are)))
          (all-weaken (λ entry. Has entry before) (λ entry. Contains after entry ⊎ Has (Remove entry) changes) before
          (λ entry h. elim (lacks-or after entry) [
            | inl stands ↦ inl stands
            | inr e ↦ inr (in-changes (Remove entry) (has-left (map Remove removed) (map Add added) (Remove entry) (has-map Remove removed entry (has-filter (lacks after) before entry h e))))
          ]) (all-stand before before (λ x h. h)))
          (all-weaken (λ entry. Has entry after) (λ entry. Contains before entry ⊎ Has (Add entry) changes) after
          (λ entry h. elim (lacks-or before entry) [
            | inl stands ↦ inl stands
            | inr e ↦ inr (in-changes (Add entry) (has-right (map Remove removed) (map Add added) (Add entry) (has-map Add added entry (has-filter (lacks before) after entry h e))))
          ]) (all-stand after after (λ x h. h)))
          (pairs-with LongChange (λ (a b : Change). by_change a b ≡ Less) (λ (a b : Change). change_cmp index a b ≡ Less) changes
          (λ a b p q less. ap (λ (o : Ordering). ordering_then o
          (ordering_then (nat_cmp (change_rank a) (change_rank b)) (value_cmp Binary (last_value order (changed_entry a)) (last_value order (changed_entry b))))) (padded-same order (changed_entry a) (changed_entry b) p q) ∙ less)
          (in_order-all by_change LongChange all_changes
          (all-join LongChange (map Remove removed) (map Add added) (all-map LongChange Remove removed (all-filter Long (lacks after) before (entries-long old)))
          (all-map LongChange Add added (all-filter Long (lacks before) after (entries-long new)))))
          (in_order-sorted by_change by_change-total all_changes changes-differ)),
    )

-- Whether an addition has a fault.

abbrev Decided : Type 0 → Type 0
Decided P = P ⊎ ¬ P

both-decided : {P Q : Type 0} → Decided P → Decided Q → Decided (P × Q)
both-decided (inl p) (inl q) = inl (p, q)
both-decided (inl p) (inr q) = inr (λ b. q b.1)
both-decided (inr p) q = inr (λ b. p b.0)

one-decided : {P Q : Type 0} → Decided P → Decided Q → Decided (P ⊎ Q)
one-decided (inl p) q = inl (inl p)
one-decided (inr p) (inl q) = inl (inr q)
one-decided (inr p) (inr q) = inr (λ o. elim o [ inl a ↦ p a | inr b ↦ q b ])

then-decided : {P Q : Type 0} → Decided P → Decided Q → Decided (P → Q)
then-decided (inl p) (inl q) = inl (λ x. q)
then-decided (inl p) (inr q) = inr (λ f. q (f p))
then-decided (inr p) q = inl (λ x. absurd (p x))

not-decided : {P : Type 0} → Decided P → Decided (P → ⊥)
not-decided (inl p) = inr (λ f. f p)
not-decided (inr p) = inl p

as-decided : {P Q : Type 0} → (P → Q) → (Q → P) → Decided P → Decided Q
as-decided to from (inl p) = inl (to p)
as-decided to from (inr p) = inr (λ q. p (from q))

true-decided : (t s : Bool) → Decided (t ≡ s)
true-decided true true = inl refl
true-decided true false = inr (λ e. let h : ⊥ = cc in h)
true-decided false true = inr (λ e. let h : ⊥ = cc in h)
true-decided false false = inl refl

ordering-decided : (o p : Ordering) → Decided (o ≡ p)
ordering-decided Less Less = inl refl
ordering-decided Less Equal = inr (λ e. let h : ⊥ = cc in h)
ordering-decided Less Greater = inr (λ e. let h : ⊥ = cc in h)
ordering-decided Equal Less = inr (λ e. let h : ⊥ = cc in h)
ordering-decided Equal Equal = inl refl
ordering-decided Equal Greater = inr (λ e. let h : ⊥ = cc in h)
ordering-decided Greater Less = inr (λ e. let h : ⊥ = cc in h)
ordering-decided Greater Equal = inr (λ e. let h : ⊥ = cc in h)
ordering-decided Greater Greater = inl refl

values-decided : (a b : List Value) → Decided (a ≡ b)
values-decided a b =
    elim (decide (same_values a b)) [
      | inl e ↦ inl (values-same a b e)
      | inr e ↦ inr (λ same. true-false (same_values a b) (subst (λ (v : List Value). same_values a v ≡ true) same (values-itself a)) e)
    ]

contains-decided : (entries : List (List Value)) (entry : List Value) → Decided (Contains entries entry)
contains-decided entries entry = elim (decide (list_any (same_values entry) entries)) [ inl e ↦ inl (present entry entries e) | inr e ↦ inr (absent entry entries e) ]

some-has : (xs : List (List Value)) (P : List Value → Type 0) → ((x : List Value) → Decided (P x)) → Decided ((x : List Value) × Has x xs × P x)
some-has [] P each = inr (λ found. found.1)
some-has (y ∷ xs) P each =
    elim (each y) [
      | inl p ↦ inl (y, inl refl, p)
      | inr none ↦ elim (some-has xs P each) [
        | inl found ↦ inl (found.0, inr found.1, found.2)
        | inr lacking ↦ inr (λ found. elim found.1 [ inl e ↦ none (subst⁻¹ P e found.2) | inr h ↦ lacking (found.0, h, found.2) ])
      ]
    ]

some-decided : (xs : List (List Value)) (P : List Value → Type 0) → ((x : List Value) → Decided (P x)) → Decided ((x : List Value) × Contains xs x × P x)
some-decided xs P each = as-decided (λ f. (f.0, has-to xs f.0 f.1, f.2)) (λ f. (f.0, has-from xs f.0 f.1, f.2)) (some-has xs P each)

all-decided : (xs : List (List Value)) (P : List Value → Type 0) → ((x : List Value) → Decided (P x)) → Decided ((x : List Value) → Contains xs x → P x)
all-decided xs P each =
    elim (some-decided xs (λ x. P x → ⊥) (λ x. not-decided (each x))) [
      | inl found ↦ inr (λ all. found.2 (all found.0 found.1))
      | inr none ↦ inl (λ x stands. elim (each x) [ inl p ↦ p | inr lacking ↦ absurd (none (x, stands, lacking)) ])
    ]

module _ (index : Index) (old new : List TableRow) where
  abbrev mine : List (List Value)
  mine = entries_of index new

  abbrev theirs : List (List Value)
  theirs = entries_of index old

  before-decided : (a b : List Value) → Decided (IsBefore index a b)
  before-decided a b = ordering-decided (entry_cmp (order_of index) a b) Less

  clash-decided : (a b : List Value) → Decided (Clash index a b)
  clash-decided a b =
      as-decided (λ x. (x.0, x.1.0, x.1.1)) (λ x. (x.0, (x.1, x.2)))
      (both-decided (ordering-decided (columns_cmp (order_of index) a b) Equal) (both-decided (true-decided (has_null index a) false) (true-decided (has_null index b) false)))

  least-decided : (entry other : List Value) → Decided (IsLeastClash index new entry other)
  least-decided entry other =
      let Low = λ (a b : List Value). (a ≢ b) → Clash index a b → columns_cmp (order_of index) a entry ≢ Less in
      let low = λ (a b : List Value). then-decided (not-decided (values-decided a b)) (then-decided (clash-decided a b) (not-decided (ordering-decided (columns_cmp (order_of index) a entry) Less))) in
      as-decided
      (λ x. record { entry_stands = x.0; other_stands = x.1.0; differ = x.1.1.0; clash = x.1.1.1.0; least = λ a b p q differ clash. x.1.1.1.1 a p b q differ clash })
      (λ x. (x.entry_stands, (x.other_stands, (x.differ, (x.clash, λ a p b q differ clash. x.least a b p q differ clash)))))
      (both-decided (contains-decided mine entry) (both-decided (contains-decided mine other) (both-decided (not-decided (values-decided entry other)) (both-decided (clash-decided entry other)
      (all-decided mine (λ a. (b : List Value) → Contains mine b → Low a b) (λ a. all-decided mine (Low a) (low a)))))))

  alike-decided : (entry other : List Value) → Decided (columns_cmp (order_of index) entry other ≡ Equal)
  alike-decided entry other = ordering-decided (columns_cmp (order_of index) entry other) Equal

  at_fault-decided : (entry : List Value) → Decided (IsAtFault index old new entry)
  at_fault-decided entry =
      let Alike = λ (other : List Value). columns_cmp (order_of index) entry other ≡ Equal in
      one-decided
      (as-decided (λ x. ((x.0.0, (x.0.1, x.0.2.0), x.0.2.1), x.1.0, λ other alike before. x.1.1 other alike.0 alike.1 before))
      (λ x. ((x.0.0, x.0.1.0, (x.0.1.1, x.0.2)), (x.1, λ other stands alike before. x.2 other (stands, alike) before)))
      (both-decided (some-decided mine (λ kept. Alike kept × Contains theirs kept) (λ kept. both-decided (alike-decided entry kept) (contains-decided theirs kept)))
      (both-decided (not-decided (contains-decided theirs entry))
      (all-decided mine (λ other. Alike other → IsBefore index other entry → Contains theirs other) (λ other. then-decided (alike-decided entry other) (then-decided (before-decided other entry) (contains-decided theirs other)))))))
      (as-decided (λ x. (λ other alike. x.0 other alike.0 alike.1, (x.1.0, (x.1.1, x.1.2.0), x.1.2.1.0, λ other alike before. x.1.2.1.1 other alike.0 alike.1 before)))
      (λ x. (λ other stands alike. x.0 other (stands, alike), (x.1.0, x.1.1.0, (x.1.1.1, (x.1.2, λ other stands alike before. x.1.3 other (stands, alike) before)))))
      (both-decided (all-decided mine (λ other. Alike other → Contains theirs other → ⊥) (λ other. then-decided (alike-decided entry other) (not-decided (contains-decided theirs other))))
      (some-decided mine (λ first. Alike first × (IsBefore index first entry × ((other : List Value) → Contains mine other → Alike other → IsBefore index other entry → other ≡ first)))
      (λ first. both-decided (alike-decided entry first) (both-decided (before-decided first entry)
      (all-decided mine (λ other. Alike other → IsBefore index other entry → other ≡ first) (λ other. then-decided (alike-decided entry other) (then-decided (before-decided other entry) (values-decided other first)))))))))

  clash_with-decided : (entry : List Value) → Decided ((other : List Value) × IsLeastClash index new entry other)
  clash_with-decided entry =
      as-decided (λ x. (x.0, x.2)) (λ x. (x.0, x.1.other_stands, x.1)) (some-decided mine (IsLeastClash index new entry) (least-decided entry))

  adds-decided : (entry : List Value) → Decided (AddsClash index old new entry)
  adds-decided entry =
      as-decided (λ x. (x.0, x.1.0, x.1.1)) (λ x. (x.0, (x.1, x.2))) (both-decided (true-decided index.unique true) (both-decided (clash_with-decided entry) (at_fault-decided entry)))

  -- a change has a fault or none
  pub change_fault-some : (change : Change) → (fault : Option Violation) × IsChangeFault index old new change fault
  change_fault-some (Remove entry) = (None, refl)
  change_fault-some (Add entry) = elim (adds-decided entry) [ inl p ↦ (Some (NotUnique index.name entry), inl (p, refl)) | inr q ↦ (None, inr (q, refl)) ]
