-- What is due for pairs, in order, are the changes of an index.
use Rattle.std.proofs.Common.{◌≡◌, ◌≢◌, ℤ, ◌≤◌, ◌⊎◌, Bool, List, [], ◌∷◌, ◌++◌, length, map, Option, Some, None, refl, sym, ap, ◌∙◌, subst, inl, inr}
use Rattle.std.proofs.Math.Path.{subst⁻¹}
use Rattle.std.specs.Prelude.{Contains}
use Rattle.std.specs.List.{AllByRecursion, AllZip}
use Rattle.std.specs.List.Sorted.{IsPermutation, IsSortedBy}
use Rattle.std.specs.Ordering.{is_lt, nat_cmp, ordering_then}
use Rattle.std.specs.declared.cmp.Ordering.{Ordering}
use Rattle.std.specs.declared.cmp.Ordering.TheVariants.{Less, Equal, Greater}
use Rattle.std.specs.Cmp.{IsTotalOrder, IsStrictWeakOrder, on_total, then_total, nat_cmp_total}
use Rattle.std.specs.Fn.{Called, ComparesAs}
use Rattle.std.proofs.lemmas.Fn.{always_returns_same}
use Rattle.std.proofs.lemmas.List.MinMax.{ranks_by}
use Rattle.std.proofs.lemmas.List.Sorted.{Contains-permutation, IsPermutation-map, IsPermutation-sym}
use denote.Param.Members.{Mut}
use denote.Ref.{Bor}
use Rattle.rbu_value.specs.declared.order.Collation.{Collation}
use Rattle.rbu_value.specs.declared.order.Collation.TheVariants.{Binary}
use Rattle.rbu_value.specs.declared.value.Value.{Value}
use Rattle.rbu_value.specs.declared.value.Value.TheVariants.{Int}
use Rattle.rbu_value.specs.Order.{value_cmp}
use Rattle.rbu_value.specs.OrderLaws.{value_cmp-total, value_cmp-same}
use Rattle.schema_spec.specs.declared.schema.Table.{Table}
use Rattle.schema_spec.specs.declared.schema.Index.{Index}
use Rattle.database_spec.specs.Keys.{order_of, last_value}
use Rattle.database_spec.specs.ListsLaws.{PairsByRecursion}
use Rattle.prepared_spec.specs.declared.violation.Change.{Change}
use Rattle.prepared_spec.specs.declared.violation.Change.TheVariants.{Remove, Add}
use Rattle.prepared_spec.specs.StepFaults.{entries_of, IsChange, changed_entry, change_rank, change_cmp, AreChanges}
use Rattle.prepared_spec.specs.MembersLaws.{Has, has-from, has-to}
use Rattle.prepared_spec.specs.ChangesLaws.{all-has, changes-are}
use Rattle.prepared_laws.specs.SortsLaws.{on-if}
use Rattle.prepared_laws.specs.PaddedKeysLaws.{padded_cmp, padded-same, padded-total}
use Rattle.prepared_laws.specs.TablesMadeLaws.{pairs-weaken, pairs-join}
use Rattle.prepared_laws.specs.ChangesMadeLaws.{last-is, entry-long}
use Rattle.index_changes.specs.declared.due.Due.{Due}
use Rattle.index_changes.specs.declared.due.Due.TheVariants.{Goes, Comes}
use Rattle.index_changes.specs.declared.pairs.OldNew.{OldNew}
use Rattle.index_changes.specs.Pairs.{row_in, old_rows, new_rows, IsOfRowid, ArePairs}
use Rattle.index_changes.specs.Dues.{entry_in, change_of, is_kept, removed, added, pair_changes, all_changes}
use Rattle.index_changes.specs.ListsLaws.{joined-has, pairs-at, zip-second}
use Rattle.index_changes.specs.SortingLaws.{sorted-rise}
use Rattle.index_changes.proofs.Pairing.{of-rowid, pair-cases, each-is, gone-or, came-or}

all-by : {A : Type 0} (P : A → Type 0) (xs : List A) → ((x : A) → Has x xs → P x) → AllByRecursion P xs
all-by P [] each = tt
all-by P (x ∷ xs) each = (each x (inl refl), all-by P xs (λ y h. each y (inr h)))

all-map : {A B : Type 0} (P : B → Type 0) (f : A → B) (xs : List A) → AllByRecursion (λ x. P (f x)) xs → AllByRecursion P (map f xs)
all-map P f [] all = tt
all-map P f (x ∷ xs) all = (all.0, all-map P f xs all.1)

pairs-map : {A B : Type 0} (S : B → B → Type 0) (f : A → B) (xs : List A) → PairsByRecursion (λ x y. S (f x) (f y)) xs → PairsByRecursion S (map f xs)
pairs-map S f [] pairs = tt
pairs-map S f (x ∷ xs) pairs = (all-map (S (f x)) f xs pairs.0, pairs-map S f xs pairs.1)

map-all : {A B : Type 0} (P : B → Type 0) (f : A → B) (xs : List A) → AllByRecursion P (map f xs) → AllByRecursion (λ x. P (f x)) xs
map-all P f [] all = tt
map-all P f (x ∷ xs) all = (all.0, map-all P f xs all.1)

map-pairs : {A B : Type 0} (S : B → B → Type 0) (f : A → B) (xs : List A) → PairsByRecursion S (map f xs) → PairsByRecursion (λ x y. S (f x) (f y)) xs
map-pairs S f [] pairs = tt
map-pairs S f (x ∷ xs) pairs = (map-all (S (f x)) f xs pairs.0, map-pairs S f xs pairs.1)

then-equal : (o p : Ordering) → ordering_then o p ≡ Equal → (o ≡ Equal) × (p ≡ Equal)
then-equal Less p e = let h : ⊥ = cc in absurd h
then-equal Equal p e = (refl, e)
then-equal Greater p e = let h : ⊥ = cc in absurd h

module _ (table : Table) (index : Index) where
  abbrev order : List (Collation × Bool)
  order = order_of index

  abbrev by_last : Change → Change → Ordering
  by_last a b = value_cmp Binary (last_value order (changed_entry a)) (last_value order (changed_entry b))

  -- the order of changes, made total
  abbrev pub by_change : Change → Change → Ordering
  by_change a b = ordering_then (padded_cmp order (changed_entry a) (changed_entry b)) (ordering_then (nat_cmp (change_rank a) (change_rank b)) (by_last a b))

  by_change-total : IsTotalOrder by_change
  by_change-total =
      then_total (on_total changed_entry (padded-total order)) (then_total (on_total change_rank nat_cmp_total) (on_total (λ (c : Change). last_value order (changed_entry c)) (value_cmp-total Binary)))

  due-long : (due : Due) → length order ≤ length (changed_entry (change_of table index due))
  due-long (Goes row) = entry-long index (row_in table row.now)
  due-long (Comes row) = entry-long index (row_in table row.now)

  -- it is the order of what is due
  pub due-padded : (a b : Due) → change_cmp index (change_of table index a) (change_of table index b) ≡ by_change (change_of table index a) (change_of table index b)
  due-padded a b =
      let x = change_of table index a in
      let y = change_of table index b in
      ap (λ (o : Ordering). ordering_then o (ordering_then (nat_cmp (change_rank x) (change_rank y)) (by_last x y))) (padded-same order (changed_entry x) (changed_entry y) (due-long a) (due-long b))

  -- No two changes are equal in it.

  abbrev Differ : Change → Change → Type 0
  Differ a b = by_change a b ≢ Equal

  abbrev OfRowid : ℤ → Change → Type 0
  OfRowid z change = last_value order (changed_entry change) ≡ Int z

  rowids-apart : (a b : Change) (z w : ℤ) → OfRowid z a → OfRowid w b → z ≢ w → Differ a b
  rowids-apart a b z w p q unlike e =
      let ranks = nat_cmp (change_rank a) (change_rank b) in
      let rest = (then-equal (padded_cmp order (changed_entry a) (changed_entry b)) (ordering_then ranks (by_last a b)) e).1 in
      let same : last_value order (changed_entry a) ≡ last_value order (changed_entry b) =
      value_cmp-same (last_value order (changed_entry a)) (last_value order (changed_entry b)) (then-equal ranks (by_last a b) rest).1 in
      let both : Int z ≡ Int w = sym p ∙ same ∙ q in
      let one : z ≡ w = cc in unlike one

  ranks-apart : (a b : List Value) → Differ (Remove a) (Add b)
  ranks-apart a b e =
      let rest = ordering_then Less (by_last (Remove a) (Add b)) in
      let h : ◌≡◌ {A = Ordering} Less Equal = (then-equal (padded_cmp order a b) rest e).1 in let no : ⊥ = cc in no

  parts-differ : (o n : Option (ℤ × List Value)) → PairsByRecursion Differ (removed table index o ++ added table index n)
  parts-differ None None = tt
  parts-differ None (Some b) = (tt, tt)
  parts-differ (Some a) None = (tt, tt)
  parts-differ (Some a) (Some b) = ((ranks-apart (entry_in table index a) (entry_in table index b), tt), (tt, tt))

  pair-differs : (pair : OldNew) → PairsByRecursion Differ (pair_changes table index pair)
  pair-differs pair =
      on-if (PairsByRecursion Differ) (is_kept table index pair.old pair.new) [] (removed table index pair.old ++ added table index pair.new) (λ e. tt) (λ e. parts-differ pair.old pair.new)

  pair-rowid : (pair : OldNew) (z : ℤ) → IsOfRowid pair z → (change : Change) → Has change (pair_changes table index pair) → OfRowid z change
  pair-rowid pair z of change h =
      elim (pair-cases table index pair change h).1 [
        | inl x ↦ subst (OfRowid z) x.2 (last-is index (row_in table x.0) ∙ ap Int (of-rowid pair x.0 z of (inl x.1)))
        | inr y ↦ subst (OfRowid z) y.2 (last-is index (row_in table y.0) ∙ ap Int (of-rowid pair y.0 z of (inr y.1)))
      ]

  later-rowid : (pairs : List OldNew) (rowids : List ℤ) → AllZip IsOfRowid pairs rowids → (change : Change) → Has change (all_changes table index pairs) → (z : ℤ) × Has z rowids × OfRowid z change
  later-rowid pairs rowids each change h =
      let found = joined-has (pair_changes table index) pairs change h in
      let rowid = zip-second IsOfRowid pairs rowids found.0 found.1 each in
      (rowid.0, rowid.1, pair-rowid found.0 rowid.0 rowid.2 change found.2)

  all-differ : (pairs : List OldNew) (rowids : List ℤ) → AllZip IsOfRowid pairs rowids → PairsByRecursion (λ (a b : ℤ). a ≢ b) rowids → PairsByRecursion Differ (all_changes table index pairs)
  all-differ [] rowids each differ = tt
  all-differ (pair ∷ pairs) [] each differ = absurd each
  all-differ (pair ∷ pairs) (z ∷ rowids) each differ =
      pairs-join Differ (pair_changes table index pair) (all_changes table index pairs) (pair-differs pair) (all-differ pairs rowids each.1 differ.1)
      (all-by (λ (c : Change). AllByRecursion (Differ c) (all_changes table index pairs)) (pair_changes table index pair)
      (λ c h. all-by (Differ c) (all_changes table index pairs)
      (λ d k.
      let later = later-rowid pairs rowids each.1 d k in
      rowids-apart c d z later.0 (pair-rowid pair z each.0 c h) later.2 (all-has (λ (w : ℤ). z ≢ w) rowids later.0 differ.0 later.1))))

  -- What is due, sorted, are all changes.

  abbrev made : List Due → List Change
  made dues = map (change_of table index) dues

  pub dues-are : (pairs : List OldNew) (before after : List Due) → ArePairs pairs → made before ≡ all_changes table index pairs → IsPermutation before after
      → IsSortedBy (λ (a b : Due). is_lt (by_change (change_of table index a) (change_of table index b))) after
      → AreChanges index (old_rows table pairs) (new_rows table pairs) (made after)
  dues-are pairs before after are e permutes sorted =
      let all = all_changes table index pairs in
      let changes = made after in
      let R = λ (a b : Due). by_change (change_of table index a) (change_of table index b) in
      let differ = pairs-at (λ (a b : ℤ). a ≢ b) are.rowids are.differ in
      let permuted : IsPermutation all changes = subst (λ (cs : List Change). IsPermutation cs changes) e (IsPermutation-map (change_of table index) before after permutes) in
      let apart = map-pairs Differ (change_of table index) before (subst⁻¹ (PairsByRecursion Differ) e (all-differ pairs are.rowids are.each differ)) in
      let rise = sorted-rise R (on_total (change_of table index) by_change-total) before after apart permutes sorted in
      let back = λ (change : Change) (h : Has change changes). has-from all change (Contains-permutation changes all change (IsPermutation-sym all changes permuted) (has-to changes change h)) in
      let on = λ (change : Change) (h : Has change all). has-from changes change (Contains-permutation all changes change permuted (has-to all change h)) in
      changes-are index (old_rows table pairs) (new_rows table pairs) changes
      (all-by (IsChange index (old_rows table pairs) (new_rows table pairs)) changes (λ change h. each-is table index pairs are.rowids are.each differ change (back change h)))
      (all-by (λ (entry : List Value). Contains (entries_of index (new_rows table pairs)) entry ⊎ Has (Remove entry) changes) (entries_of index (old_rows table pairs))
      (λ entry h. elim (gone-or table index pairs are.rowids are.each differ entry h) [ inl stands ↦ inl stands | inr due ↦ inr (on (Remove entry) due) ]))
      (all-by (λ (entry : List Value). Contains (entries_of index (old_rows table pairs)) entry ⊎ Has (Add entry) changes) (entries_of index (new_rows table pairs))
      (λ entry h. elim (came-or table index pairs are.rowids are.each differ entry h) [ inl stands ↦ inl stands | inr due ↦ inr (on (Add entry) due) ]))
      (pairs-map (λ (a b : Change). change_cmp index a b ≡ Less) (change_of table index) after
      (pairs-weaken (λ (a b : Due). R a b ≡ Less) (λ (a b : Due). change_cmp index (change_of table index a) (change_of table index b) ≡ Less) after (λ a b less. due-padded a b ∙ less) rise))

  -- what a sort by the order of changes leaves
  pub sorted-from : {F : Type 0} {g : Mut F (Bor Due × (Bor Due × Unit {0})) Ordering} {f : F} (dues : List Due) → ((lt : Due → Due → Bool) → IsStrictWeakOrder lt → ComparesAs g lt f → IsSortedBy lt dues)
      → ((a : Bor Due × (Bor Due × Unit {0})) (r : Ordering) (f' : F) → Called g f a r f' → (r ≡ change_cmp index (change_of table index a.0.now) (change_of table index a.1.0.now)) × (f' ≡ f))
      → IsSortedBy (λ (a b : Due). is_lt (by_change (change_of table index a) (change_of table index b))) dues
  sorted-from {g = g} {f = f} dues sorted calls =
      let lt = λ (a b : Due). is_lt (by_change (change_of table index a) (change_of table index b)) in
      sorted lt (ranks_by by_change-total (change_of table index))
      (always_returns_same g (λ a r. is_lt r ≡ lt a.0.now a.1.0.now) f (λ a r f' k. (ap is_lt ((calls a r f' k).0 ∙ due-padded a.0.now a.1.0.now), (calls a r f' k).1)))
