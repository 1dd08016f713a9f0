-- Rows whose keys are signed numbers: keys that two rows share, and rows in the order of their keys.
use Rattle.std.proofs.Common.{◌≡◌, ◌≢◌, ℕ, ◌+◌, ◌<◌, ◌≤◌, false, cond, eqb, List, [], ◌∷◌, length, get_or, map, refl, sym, ap, ◌∙◌, arith, rules, inl, inr, ◌↔◌, IsTrue, ℤ, ◌<ℤ◌, ◌≤ℤ◌, Result, Ok, Err}
use Rattle.std.proofs.lemmas.Bool.{cases_lt, cases_eq, false≢true}
use Rattle.std.proofs.lemmas.Bool.Decides.{nat_tests}
use Rattle.std.proofs.lemmas.Int.{ints, by_lt_z}
use Rattle.std.proofs.lemmas.Cmp.{int_cmp_total}
use Rattle.std.proofs.lemmas.Map.Lookups.{exact_signed}
use Rattle.std.proofs.lemmas.List.{get_or-map, length-map, get_or_default}
use Rattle.std.proofs.lemmas.List.Edits.{Swapped, swapped_from_swap}
use Rattle.std.proofs.lemmas.List.Sorted.{IsPermutation-keeps, IsPermutation-swap, IsPermutation-sym, length_permutation, ranks_by, sorted_far, searchable_from_sorted, answers_always}
use Rattle.std.specs.Fn.{Called}
use denote.Param.Members.{Mut}
use denote.Ref.{Bor}
use Rattle.std.specs.List.{swap, Contains, AllAdjacentBelow, AllPairs}
use Rattle.std.specs.List.Sorted.{IsPermutation, IsSortedByKey, IsSortedByKeyClosure, IsBinarySearchResult, IsSearchInRange}
use Rattle.std.specs.Ordering.{int_cmp, is_lt}
use Rattle.std.specs.Result.{is_ok, OnOk}
use Rattle.std.proofs.lemmas.Result.{on_ok_weaker}
use Rattle.std.specs.declared.cmp.Ordering.TheVariants.{Less, Equal, Greater}
use Rattle.small_spec.specs.SmallFile.{IsRisingBy}

-- two elements have one key
abbrev pub Shares : {X : Type 0} → (X → ℤ) → List X → Type 0
Shares {X} key xs = (j : ℕ) × (k : ℕ) × (j < k) × (k < length xs) × ((d : X) → key (get_or xs j d) ≡ key (get_or xs k d))

-- where the element at a place stands after two places are exchanged
abbrev moved : ℕ → ℕ → ℕ → ℕ
moved a b j = cond (eqb j a) b (cond (eqb j b) a j)

moved-apart : (a b j k : ℕ) → j < k → moved a b j ≢ moved a b k
moved-apart a b j k h e = grind (arith, nat_tests)

moved-below : (a b j n : ℕ) → a < n → b < n → j < n → moved a b j < n
moved-below a b j n p q h = grind (arith, nat_tests)

length-swap : {X : Type 0} (xs : List X) (a b : ℕ) → a < length xs → b < length xs → length (swap xs a b) ≡ length xs
length-swap xs a b p q = length_permutation _ _ (IsPermutation-swap xs _ a b p q refl)

get_or-moved : {X : Type 0} (xs : List X) (a b j : ℕ) (d : X) → a < length xs → b < length xs → get_or (swap xs a b) (moved a b j) d ≡ get_or xs j d
get_or-moved xs a b j d p q =
    let s : Swapped (λ i. get_or xs i d) (λ i. get_or (swap xs a b) i d) a b = swapped_from_swap xs _ a b d p q refl in
    elim (cases_eq j a) [
      | inl same ↦ let e : moved a b j ≡ b = grind (arith, nat_tests) in rw (e, same) s.1
      | inr other ↦ elim (cases_eq j b) [
        | inl same ↦ let e : moved a b j ≡ a = grind (arith, nat_tests) in rw (e, same) s.0
        | inr third ↦ let e : moved a b j ≡ j = grind (arith, nat_tests) in rw e (s.2 j other third)
      ]
    ]

Shares-swap : {X : Type 0} (key : X → ℤ) (xs : List X) (a b : ℕ) → a < length xs → b < length xs → Shares key xs → Shares key (swap xs a b)
Shares-swap {X} key xs a b p q h =
    let l = length-swap xs a b p q in
    let at = λ (j : ℕ) (d : X). get_or-moved xs a b j d p q in
    let below_j : moved a b h.0 < length xs = moved-below a b h.0 _ p q (omega arith) in
    let below_k : moved a b h.1 < length xs = moved-below a b h.1 _ p q h.3 in
    let apart : moved a b h.0 ≢ moved a b h.1 = moved-apart a b h.0 h.1 h.2 in
    elim (cases_lt (moved a b h.0) (moved a b h.1)) [
      | inl less ↦ (moved a b h.0, moved a b h.1, less, omega arith, λ d. ap key (at h.0 d) ∙ (h.4 d ∙ ap key (sym (at h.1 d))))
      | inr more ↦ (moved a b h.1, moved a b h.0, omega arith, omega arith, λ d. ap key (at h.1 d) ∙ (sym (h.4 d) ∙ ap key (sym (at h.0 d))))
    ]

pub Shares-permutation : {X : Type 0} (key : X → ℤ) (xs ys : List X) → IsPermutation xs ys → Shares key xs → Shares key ys
Shares-permutation key xs ys moves h = IsPermutation-keeps xs (Shares key) h (λ l i j p q s. Shares-swap key l i j p q s) ys moves

not_less-le : (x y : ℤ) → is_lt (int_cmp x y) ≡ false → y ≤ℤ x
not_less-le x y h = by_lt_z x y (λ less. absurd (grind (arith, ints))) (λ more. more)

pub above-not_less : (x y : ℤ) → x <ℤ y → is_lt (int_cmp y x) ≡ false
above-not_less x y h = grind (arith, ints)

equal-same : (x y : ℤ) → int_cmp x y ≡ Equal → x ≡ y
equal-same x y e = exact_signed x y e

same-not_less : (x y : ℤ) → x ≡ y → int_cmp x y ≡ Less → ⊥
same-not_less x y e h = grind (arith, ints)

same-not_more : (x y : ℤ) → x ≡ y → int_cmp x y ≡ Greater → ⊥
same-not_more x y e h = grind (arith, ints)

pub sorted-le : {X : Type 0} (key : X → ℤ) (xs : List X) → IsSortedByKey key int_cmp xs → (j k : ℕ) (d : X) → j ≤ k → k < length xs → key (get_or xs j d) ≤ℤ key (get_or xs k d)
sorted-le {X} key xs up j k d l m =
    not_less-le _ _ (sorted_far (λ (a b : X). is_lt (int_cmp (key a) (key b))) (ranks_by int_cmp_total key) xs up j k d l m)

-- in order, two rows with one key make neighbours with one key
pub sorted-not_shared : {X : Type 0} (key : X → ℤ) (xs : List X) → IsSortedByKey key int_cmp xs → AllAdjacentBelow (λ x y. key x ≢ key y) xs (length xs) → ¬ Shares key xs
sorted-not_shared key [] up apart h = absurd (omega (arith, h.3))
sorted-not_shared key (x ∷ xs) up apart h =
    let first : key (get_or (x ∷ xs) h.0 x) ≤ℤ key (get_or (x ∷ xs) (h.0 + 1) x) = sorted-le key (x ∷ xs) up h.0 (h.0 + 1) x (omega arith) (omega (arith, h.2, h.3)) in
    let second : key (get_or (x ∷ xs) (h.0 + 1) x) ≤ℤ key (get_or (x ∷ xs) h.1 x) = sorted-le key (x ∷ xs) up (h.0 + 1) h.1 x (omega (arith, h.2)) h.3 in
    let same = h.4 x in
    apart h.0 x (omega (arith, h.2, h.3)) (omega (arith, ints))

-- in order and without a shared key, each key is below those after it
pub sorted-rising : {X : Type 0} (key : X → ℤ) (xs : List X) → IsSortedByKey key int_cmp xs → ¬ Shares key xs → IsRisingBy key xs
sorted-rising key xs up apart j k d less below =
    let le = sorted-le key xs up j k d (omega arith) below in
    by_lt_z _ _ (λ l. l) (λ ge.
    let same : key (get_or xs j d) ≡ key (get_or xs k d) = omega (arith, ints) in
    absurd (apart (j, k, less, below, λ e. ap key (get_or_default xs j e d (omega arith)) ∙ (same ∙ ap key (get_or_default xs k d e below)))))

-- rising keys are in order
pub rising-sorted : {X : Type 0} (key : X → ℤ) (xs : List X) → IsRisingBy key xs → IsSortedByKey key int_cmp xs
rising-sorted key xs up k d low high = above-not_less _ _ (up k (k + 1) d (omega arith) high)

-- keys that differ are shared by none, and the other way round
pub unshared-from_distinct : {X : Type 0} (key : X → ℤ) (xs : List X) → AllPairs (λ a b. key a ≢ key b) xs → ¬ Shares key xs
unshared-from_distinct key [] differ h = absurd (omega (arith, h.3))
unshared-from_distinct key (x ∷ xs) differ h = differ h.0 h.1 x h.2 h.3 (h.4 x)

pub distinct-from_unshared : {X : Type 0} (key : X → ℤ) (xs : List X) → ¬ Shares key xs → AllPairs (λ a b. key a ≢ key b) xs
distinct-from_unshared key xs apart j k d less below same =
    apart (j, k, less, below, λ e. ap key (get_or_default xs j e d (omega arith)) ∙ (same ∙ ap key (get_or_default xs k d e below)))

-- they differ in any order
pub distinct-permutation : {X : Type 0} (key : X → ℤ) (xs ys : List X) → IsPermutation xs ys → AllPairs (λ a b. key a ≢ key b) xs → AllPairs (λ a b. key a ≢ key b) ys
distinct-permutation key xs ys moves differ =
    distinct-from_unshared key ys (λ h. unshared-from_distinct key xs differ (Shares-permutation key ys xs (IsPermutation-sym xs ys moves) h))

-- rising keys are shared by none
pub rising-not_shared : {X : Type 0} (key : X → ℤ) (xs : List X) → IsRisingBy key xs → ¬ Shares key xs
rising-not_shared key xs up = unshared-from_distinct key xs (λ j k d less below same. let rises = up j k d less below in absurd (omega (arith, ints)))

-- what a binary search says of a key
pub search-found : {X : Type 0} (key : X → ℤ) (xs : List X) (x : ℤ) (r : Result ℕ ℕ) → IsRisingBy key xs → IsSearchInRange r (length xs)
    → IsBinarySearchResult (λ y. int_cmp (key y) x) xs r → IsTrue (is_ok r) ↔ Contains (map key xs) x
search-found key [] x (Ok i) up bound at = absurd (omega arith)
search-found key (y ∷ ys) x (Ok i) up bound at =
    let same : key (get_or (y ∷ ys) i y) ≡ x = equal-same _ _ (at y) in
    let n : i < length (map key (y ∷ ys)) = omega (arith, length-map (y ∷ ys) key) in
    let found : get_or (map key (y ∷ ys)) i x ≡ x = get_or-map key (y ∷ ys) i y x bound ∙ same in
    (λ _. (i, n, found), λ _. search rules)
search-found key [] x (Err i) up bound at = (λ e. absurd (false≢true e), λ h. absurd (omega (arith, h.1)))
search-found {X} key (y ∷ ys) x (Err i) up bound at =
    let point = at (searchable_from_sorted int_cmp_total key (y ∷ ys) x (rising-sorted key (y ∷ ys) up)) in
    let absent : Contains (map key (y ∷ ys)) x → ⊥ = λ h.
    let n : h.0 < length (y ∷ ys) = omega (arith, h.1, length-map (y ∷ ys) key) in
    let same : key (get_or (y ∷ ys) h.0 y) ≡ x = sym (get_or-map key (y ∷ ys) h.0 y x n) ∙ h.2 in
    elim (cases_lt h.0 i) [
      | inl below ↦ same-not_less _ _ same (point.0 h.0 y (omega arith) below)
      | inr above ↦ same-not_more _ _ same (point.1 h.0 y above n)
    ] in
    (λ e. absurd (false≢true e), λ h. absurd (absent h))

-- what `sort_by_key` ensures, where each call gives the key of the element
pub sorted-by_calls : {F X T E : Type 0} {g : Mut F (Bor X × Unit {0}) ℤ} (f : F) (r : Result T E) (key : X → ℤ) (xs : List X) → OnOk r (IsSortedByKeyClosure g int_cmp f xs)
    → ((h : F) (a : Bor X × Unit {0}) (z : ℤ) (h' : F) → Called g h a z h' → z ≡ key a.0.now) → OnOk r (IsSortedByKey key int_cmp xs)
sorted-by_calls {g = g} f r key xs sorted calls = on_ok_weaker {P = IsSortedByKeyClosure g int_cmp f xs} r (λ by. by key (answers_always g (λ a z. z ≡ key a.0.now) f calls)) sorted
