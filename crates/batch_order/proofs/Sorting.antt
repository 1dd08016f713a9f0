-- Prepared rows that were sorted by their keys are in key order.
use Rattle.std.proofs.Common.{◌≡◌, ◌≢◌, ◌≤◌, Bool, false, List, [], ◌∷◌, length, map, refl, ap, ◌∙◌, subst, inl, inr}
use Rattle.std.proofs.lemmas.Fn.{always_returns_same}
use Rattle.std.proofs.lemmas.List.MinMax.{ranks_by}
use Rattle.std.proofs.lemmas.List.Sorted.{Contains-permutation, IsPermutation-sym}
use Rattle.std.specs.Fn.{Called, ComparesAs}
use Rattle.std.specs.List.{AllByRecursion}
use Rattle.std.specs.List.Sorted.{IsPermutation, IsSortedBy}
use Rattle.std.specs.Ordering.{is_lt}
use Rattle.std.specs.declared.cmp.Ordering.{Ordering}
use Rattle.std.specs.declared.cmp.Ordering.TheVariants.{Less, Equal}
use Rattle.std.specs.Cmp.{IsStrictWeakOrder, IsTotalOrder, on_total}
use denote.Param.Members.{Mut}
use denote.Ref.{Bor}
use Rattle.rbu_value.specs.declared.order.Collation.{Collation}
use Rattle.rbu_rows.specs.declared.prepared.Prepared.{Prepared}
use Rattle.schema_spec.specs.declared.schema.Table.{Table}
use Rattle.database_spec.specs.ListsLaws.{PairsByRecursion, pairs-from}
use Rattle.prepared_spec.specs.ChangesLaws.{all-has}
use Rattle.prepared_spec.specs.MembersLaws.{Has, has-from, has-to}
use Rattle.prepared_spec.specs.RowKeys.{IsInKeyOrder, key_cmp, key_collations}
use Rattle.prepared_laws.specs.PaddedKeysLaws.{padded_cmp, padded-same, padded-total}
use Rattle.prepared_laws.specs.TablesMadeLaws.{HaveKeys, key_columns, pairs-with}
use Rattle.index_changes.specs.SortingLaws.{sorted-rise}

-- what a sort by a total order leaves
sorted-by : {A F : Type 0} (R : A → A → Ordering) → IsTotalOrder R → {g : Mut F (Bor A × (Bor A × Unit {0})) Ordering} {f : F} (xs : List A) → ((lt : A → A → Bool) → IsStrictWeakOrder lt → ComparesAs g lt f → IsSortedBy lt xs)
    → ((a : Bor A × (Bor A × Unit {0})) (r : Ordering) (f' : F) → Called g f a r f' → (r ≡ R a.0.now a.1.0.now) × (f' ≡ f)) → IsSortedBy (λ (a b : A). is_lt (R a b)) xs
sorted-by {A} R total {g = g} {f = f} xs sorted calls =
    let lt = λ (a b : A). is_lt (R a b) in
    sorted lt (ranks_by total (λ (a : A). a)) (always_returns_same g (λ a r. is_lt r ≡ lt a.0.now a.1.0.now) f (λ a r f' k. (ap is_lt (calls a r f' k).0, (calls a r f' k).1)))

-- what holds of items holds of them in another order
all-by : {A : Type 0} (P : A → Type 0) (xs : List A) → ((x : A) → Has x xs → P x) → AllByRecursion P xs
all-by P [] each = tt
all-by P (x ∷ xs) each = (each x (inl refl), all-by P xs (λ y h. each y (inr h)))

all-permutes : {A : Type 0} (P : A → Type 0) (xs ys : List A) → IsPermutation xs ys → AllByRecursion P xs → AllByRecursion P ys
all-permutes P xs ys permutes all = all-by P ys (λ y h. all-has P xs y all (has-from xs y (Contains-permutation ys xs y (IsPermutation-sym xs ys permutes) (has-to ys y h))))

-- the order of rows by their keys, made total
abbrev pub by_keys : List Collation → Prepared → Prepared → Ordering
by_keys collations a b = padded_cmp (map (λ (collation : Collation). (collation, false)) collations) a.key b.key

by_keys-total : (collations : List Collation) → IsTotalOrder (by_keys collations)
by_keys-total collations = on_total (λ (row : Prepared). row.key) (padded-total (map (λ (collation : Collation). (collation, false)) collations))

module _ (table : Table) (rows sorted : List Prepared) (have : HaveKeys table rows) (permutes : IsPermutation rows sorted) where
  abbrev Long : Prepared → Type 0
  Long row = length (key_columns table) ≤ length row.key

  abbrev order : Prepared → Prepared → Ordering
  order = by_keys (key_collations table)

  differ : PairsByRecursion (λ (a b : Prepared). order a b ≢ Equal) rows
  differ =
      pairs-with Long (λ (a b : Prepared). key_cmp table a.key b.key ≢ Equal) (λ (a b : Prepared). order a b ≢ Equal) rows (λ a b p q unlike same. unlike (padded-same (key_columns table) a.key b.key p q ∙ same)) have.long
      have.differ

  rows-in_order : IsSortedBy (λ (a b : Prepared). is_lt (order a b)) sorted → IsInKeyOrder table rows sorted
  rows-in_order are = record {
    all = permutes;
    sorted = pairs-from (λ (a b : Prepared). key_cmp table a.key b.key ≡ Less) sorted
        (pairs-with Long (λ (a b : Prepared). order a b ≡ Less) (λ (a b : Prepared). key_cmp table a.key b.key ≡ Less) sorted (λ a b p q below. padded-same (key_columns table) a.key b.key p q ∙ below)
        (all-permutes Long rows sorted permutes have.long) (sorted-rise order (by_keys-total (key_collations table)) rows sorted differ permutes are));
  }

-- a sort by the collations of a table's key leaves rows in key order
pub sorted-are : {F : Type 0} {g : Mut F (Bor Prepared × (Bor Prepared × Unit {0})) Ordering} {f : F} (table : Table) (collations : List Collation) (rows sorted : List Prepared) → collations ≡ key_collations table → HaveKeys table rows
    → IsPermutation rows sorted → ((lt : Prepared → Prepared → Bool) → IsStrictWeakOrder lt → ComparesAs g lt f → IsSortedBy lt sorted)
    → ((a : Bor Prepared × (Bor Prepared × Unit {0})) (r : Ordering) (f' : F) → Called g f a r f' → (r ≡ by_keys collations a.0.now a.1.0.now) × (f' ≡ f)) → IsInKeyOrder table rows sorted
sorted-are table collations rows sorted same have permutes ends calls =
    rows-in_order table rows sorted have permutes
    (subst (λ (cs : List Collation). IsSortedBy (λ (a b : Prepared). is_lt (by_keys cs a b)) sorted) same (sorted-by (by_keys collations) (by_keys-total collations) sorted ends calls))
