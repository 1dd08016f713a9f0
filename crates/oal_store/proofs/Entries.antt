-- The pages that were written, after one more, or fewer.
use Rattle.std.proofs.Common.{◌≡◌, ℕ, ◌+◌, ◌<◌, ◌≤◌, ◌==◌, true, false, List, [], ◌∷◌, ◌++◌, Vec, Result, Ok, Err, IfOk, OnOk, OnErr, All, sym, ap, subst, inl, inr, arith, ne_eqb}
use Rattle.std.specs.Global.{Global}
use Rattle.std.specs.List.{AllByRecursion}
use Rattle.std.specs.Map.{keys_of, lookup}
use Rattle.std.specs.BTreeMap.{BTreeMap, insert_entry, is_at}
use Rattle.std.specs.BTreeMap.Range.{entries_below}
use Rattle.std.specs.Ordering.{nat_cmp, match_ordering, is_gt}
use Rattle.std.specs.Cmp.{nat_cmp_is}
use Rattle.std.proofs.lemmas.Bool.{cases_eq, cases_lt}
use Rattle.std.proofs.lemmas.Map.Entries.{lookup-filter-keys}
use Rattle.std.specs.declared.cmp.Ordering.{Ordering}
use Rattle.std.specs.declared.cmp.Ordering.TheVariants.{Less, Equal, Greater}
use Rattle.std.proofs.lemmas.List.Elements.{All-from_recursion, recursion_from_All}
use Rattle.oal_store.specs.Changed.{IsChanged}
use Rattle.oal_store.proofs.PageFrames.{Entry, compares}

-- one more
inserted : (size count k : ℕ) (v : Vec ℕ Global) (es : List Entry) → AllByRecursion (IsChanged size count) es → IsChanged size count (k, v) → AllByRecursion (IsChanged size count) (insert_entry nat_cmp es k v)
inserted size count k v [] all is = (is, tt)
inserted size count k v (e ∷ es) all is = at (nat_cmp k e.0) (inserted size count k v es all.1 is)
  where
    at : (o : Ordering) → AllByRecursion (IsChanged size count) (insert_entry nat_cmp es k v) → AllByRecursion (IsChanged size count) (match_ordering o ((k, v) ∷ e ∷ es) ((e.0, v) ∷ es) (e ∷ insert_entry nat_cmp es k v))
    at Less more = (is, all)
    at Equal more = (record { first = all.0.first; within = all.0.within; whole = is.whole }, all.1)
    at Greater more = (all.0, more)

pub changed-insert : {X E : Type 0} (result : Result X E) (size count k : ℕ) (v : Vec ℕ Global) (old new : List Entry) → OnOk result (new ≡ insert_entry nat_cmp old k v) → OnErr result (new ≡ old)
    → All (IsChanged size count) old → IsChanged size count (k, v) → All (IsChanged size count) new
changed-insert (Ok x) size count k v old new made same all is =
    subst (All (IsChanged size count)) (sym made)
    (All-from_recursion (IsChanged size count) (insert_entry nat_cmp old k v) (inserted size count k v old (recursion_from_All (IsChanged size count) old all) is))
changed-insert (Err e) size count k v old new made same all is = subst (All (IsChanged size count)) (sym same) all

front : (size most : ℕ) (xs ys : List Entry) → AllByRecursion (IsChanged size most) (xs ++ ys) → AllByRecursion (IsChanged size most) xs
front size most [] ys all = tt
front size most (x ∷ xs) ys all = (all.0, front size most xs ys all.1)

-- fewer
pub changed-split : {E : Type 0} (result : Result (BTreeMap ℕ (Vec ℕ Global)) E) (size most : ℕ) (old new : List Entry) → IfOk result (λ rest. old ≡ new ++ rest.entries) → OnErr result (new ≡ old)
    → All (IsChanged size most) old → All (IsChanged size most) new
changed-split (Ok rest) size most old new parts same all =
    All-from_recursion (IsChanged size most) new (front size most new rest.entries (recursion_from_All (IsChanged size most) (new ++ rest.entries) (subst (All (IsChanged size most)) parts all)))
changed-split (Err e) size most old new parts same all = subst (All (IsChanged size most)) (sym same) all

-- a number that the first one behind is greater than
gt-below : (first k : ℕ) → is_gt (nat_cmp first k) ≡ true → k < first
gt-below first k is = elim (cases_lt k first) [
  | inl low ↦ low
  | inr high ↦ elim (cases_eq first k) [
    | inl same ↦ let e : is_gt (nat_cmp first k) ≡ false = ap is_gt (sym (nat_cmp_is first k Equal same)) in absurd (cc)
    | inr apart ↦ let e : is_gt (nat_cmp first k) ≡ false = ap is_gt (sym (nat_cmp_is first k Less (omega (arith, high, apart)))) in absurd (cc)
  ]
]

below-gt : (first k : ℕ) → k < first → is_gt (nat_cmp first k) ≡ true
below-gt first k low = ap is_gt (sym (nat_cmp_is first k Greater low))

below : (size most count : ℕ) (es : List Entry) → AllByRecursion (IsChanged size most) es → AllByRecursion (λ k. is_gt (nat_cmp (count + 1) k) ≡ true) (keys_of es) → AllByRecursion (IsChanged size count) es
below size most count [] all low = tt
below size most count (e ∷ es) all low =
    (record { first = all.0.first; within = omega (arith, gt-below (count + 1) e.0 low.0); whole = all.0.whole }, below size most count es all.1 low.1)

pub changed-below : (size most count : ℕ) (es : List Entry) → All (IsChanged size most) es → All (λ k. is_gt (nat_cmp (count + 1) k) ≡ true) (keys_of es) → All (IsChanged size count) es
changed-below size most count es all low =
    All-from_recursion (IsChanged size count) es
    (below size most count es (recursion_from_All (IsChanged size most) es all) (recursion_from_All (λ k. is_gt (nat_cmp (count + 1) k) ≡ true) (keys_of es) low))

-- where there are more pages, those that were written are among them
wider : (size most count : ℕ) (es : List Entry) → most ≤ count → AllByRecursion (IsChanged size most) es → AllByRecursion (IsChanged size count) es
wider size most count [] more all = tt
wider size most count (e ∷ es) more all = (record { first = all.0.first; within = omega (arith, all.0.within, more); whole = all.0.whole }, wider size most count es more all.1)

pub changed-wider : (size most count : ℕ) (es : List Entry) → most ≤ count → All (IsChanged size most) es → All (IsChanged size count) es
changed-wider size most count es more all = All-from_recursion (IsChanged size count) es (wider size most count es more (recursion_from_All (IsChanged size most) es all))

-- a page up to the count is found among those that are left
pub found-below : (n count : ℕ) (es : List Entry) → n ≤ count → lookup (is_at (nat_cmp n)) (entries_below (nat_cmp (count + 1)) es) ≡ lookup (is_at (nat_cmp n)) es
found-below n count es within =
    lookup-filter-keys (is_at (nat_cmp n)) (λ k. is_gt (nat_cmp (count + 1) k)) true
    (λ k is. below-gt (count + 1) k (omega (arith, within, at_same n k is))) es
  where
    at_same : (n k : ℕ) → is_at (nat_cmp n) k ≡ true → n ≡ k
    at_same n k is = elim (cases_eq n k) [
      | inl same ↦ same
      | inr apart ↦ let e : (n == k) ≡ false = ne_eqb n k apart in let f = compares n k in absurd (cc)
    ]
