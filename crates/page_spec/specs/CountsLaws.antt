-- What follows from counting how often a number stands in a list: crates above cite these facts in their proofs.
use Rattle.std.proofs.Common.{◌≡◌, ◌≢◌, ◌==◌, ℕ, zero, suc, ◌+◌, ◌<◌, ◌≤◌, false, true, List, [], ◌∷◌, ◌++◌, length, get_or, refl, sym, ap, ap₂, ◌∙◌, subst, inl, inr, arith}
use Rattle.std.specs.List.{AllByRecursion, IsDistinct}
use Rattle.std.proofs.lemmas.Bool.{cases_lt, cases_eq, ne_eqb, eq-eqb}
use Rattle.std.proofs.lemmas.Bool.Decides.{nat_tests}
use Rattle.page_spec.specs.Counts.{hit, times}

pub times-append : (n : ℕ) (xs ys : List ℕ) → times n (xs ++ ys) ≡ times n xs + times n ys
times-append n [] ys = omega arith
times-append n (x ∷ xs) ys = let rest = times-append n xs ys in omega arith

pub hit-itself : (x : ℕ) → hit x x ≡ 1
hit-itself x = grind (arith, nat_tests)

pub hit-same : (x n : ℕ) → 0 < hit x n → x ≡ n
hit-same x n some = grind (arith, nat_tests)

-- a sum over the numbers up to the last
abbrev pub up_to : (ℕ → ℕ) → ℕ → ℕ
up_to f zero = f 0
up_to f (suc last) = f (suc last) + up_to f last

pub up_to-sum : (f g : ℕ → ℕ) (last : ℕ) → up_to (λ n. f n + g n) last ≡ up_to f last + up_to g last
up_to-sum f g zero = refl
up_to-sum f g (suc last) = omega (arith, up_to-sum f g last)

pub up_to-same : (f g : ℕ → ℕ) (last : ℕ) → ((n : ℕ) → f n ≡ g n) → up_to f last ≡ up_to g last
up_to-same f g zero same = same 0
up_to-same f g (suc last) same = ap₂ (λ (x y : ℕ). x + y) (same (suc last)) (up_to-same f g last same)

pub up_to-le : (f g : ℕ → ℕ) (last : ℕ) → ((n : ℕ) → f n ≤ g n) → up_to f last ≤ up_to g last
up_to-le f g zero least = least 0
up_to-le f g (suc last) least = omega (arith, least (suc last), up_to-le f g last least)

up_to-none : (last : ℕ) → up_to (λ n. 0) last ≡ 0
up_to-none zero = refl
up_to-none (suc last) = omega (arith, up_to-none last)

-- a number is counted once up to a last one that is not below it
up_to-hit : (x last : ℕ) → x ≤ last → up_to (hit x) last ≡ 1
up_to-hit x zero within = let e : x ≡ 0 = omega arith in ap (λ y. hit y 0) e
up_to-hit x (suc last) within =
    elim (cases_lt last x) [
      | inl above ↦ let e : x ≡ suc last = omega arith in omega (arith, ap (λ y. hit y (suc last)) e, hit-itself (suc last), up_to-apart x last above)
      | inr below ↦ omega (arith, apart x (suc last) (omega arith), up_to-hit x last below)
    ]
  where
    apart : (x n : ℕ) → x < n → hit x n ≡ 0
    apart x n less = grind (arith, nat_tests)

    over : (x n : ℕ) → n < x → hit x n ≡ 0
    over x n less = grind (arith, nat_tests)

    up_to-apart : (x last : ℕ) → last < x → up_to (hit x) last ≡ 0
    up_to-apart x zero less = over x 0 less
    up_to-apart x (suc last) less = omega (arith, over x (suc last) less, up_to-apart x last (omega arith))

-- counted number by number, a list has its length
pub times-counted : (xs : List ℕ) (last : ℕ) → ((n : ℕ) → last < n → times n xs ≡ 0) → up_to (λ n. times n xs) last ≡ length xs
times-counted [] last none = up_to-none last
times-counted (x ∷ xs) last none =
    let within : x ≤ last = elim (cases_lt last x) [
      | inl above ↦ absurd (omega (arith, none x above, hit-itself x))
      | inr below ↦ below
    ] in
    up_to-sum (hit x) (λ n. times n xs) last
    ∙ ap₂ (λ (a b : ℕ). a + b) (up_to-hit x last within) (times-counted xs last (λ n above. omega (arith, none n above)))
    ∙ omega arith

-- a number in front is counted by itself
pub times-cons : (n x : ℕ) (xs : List ℕ) → times n (x ∷ xs) ≡ times n (x ∷ []) + times n xs
times-cons n x xs = omega arith

pub times-itself : (n : ℕ) → times n (n ∷ []) ≡ 1
times-itself n = omega (arith, hit-itself n)

pub times-other : (n x : ℕ) → x ≢ n → times n (x ∷ []) ≡ 0
times-other n x apart = grind (arith, nat_tests)

-- a number at some place is counted
pub times-at : (xs : List ℕ) (k d : ℕ) → k < length xs → 0 < times (get_or xs k d) xs
times-at [] k d low = absurd (omega arith)
times-at (x ∷ xs) zero d low = omega (arith, times-cons x x xs, times-itself x)
times-at (x ∷ xs) (suc k) d low = omega (arith, times-cons (get_or xs k d) x xs, times-at xs k d (omega arith))

-- what holds of all numbers of a list holds of one that stands in it
pub times-all : (P : ℕ → Type 0) (n : ℕ) (xs : List ℕ) → AllByRecursion P xs → 0 < times n xs → P n
times-all P n [] all some = absurd (omega arith)
times-all P n (x ∷ xs) all some =
    elim (cases_eq x n) [
      | inl same ↦ subst P same all.0
      | inr apart ↦ times-all P n xs all.1 (omega (arith, times-cons n x xs, times-other n x apart))
    ]

-- a list of which no number is another is one in which each stands once at most
apart_none : (x : ℕ) (xs : List ℕ) → AllByRecursion (λ y. (x == y) ≡ false) xs → times x xs ≡ 0
apart_none x [] apart = refl
apart_none x (y ∷ ys) apart =
    elim (cases_eq y x) [
      | inl same ↦ absurd (let one : (x == y) ≡ true = eq-eqb x y (sym same) in let other = apart.0 in cc)
      | inr other ↦ omega (arith, times-cons x y ys, times-other x y other, apart_none x ys apart.1)
    ]

none_apart : (x : ℕ) (xs : List ℕ) → times x xs ≡ 0 → AllByRecursion (λ y. (x == y) ≡ false) xs
none_apart x [] none = tt
none_apart x (y ∷ ys) none =
    elim (cases_eq x y) [
      | inl same ↦ absurd (omega (arith, times-cons x y ys, times-itself x, ap (λ (z : ℕ). times x (z ∷ [])) same))
      | inr apart ↦ (ne_eqb x y apart, none_apart x ys (omega (arith, times-cons x y ys)))
    ]

pub distinct-once : (xs : List ℕ) → IsDistinct (λ (x y : ℕ). x == y) xs → (n : ℕ) → times n xs ≤ 1
unfolding IsDistinct
distinct-once [] distinct n = omega (arith)
distinct-once (x ∷ xs) distinct n =
    elim (cases_eq x n) [
      | inl same ↦
          let none : times n xs ≡ 0 = ap (λ (z : ℕ). times z xs) (sym same) ∙ apart_none x xs distinct.0 in
          let one : times n (x ∷ []) ≡ 1 = ap (λ (z : ℕ). times n (z ∷ [])) same ∙ times-itself n in
          omega (arith, times-cons n x xs, none, one)
      | inr apart ↦ omega (arith, times-cons n x xs, times-other n x apart, distinct-once xs distinct.1 n)
    ]

pub once-distinct : (xs : List ℕ) → ((n : ℕ) → times n xs ≤ 1) → IsDistinct (λ (x y : ℕ). x == y) xs
unfolding IsDistinct
once-distinct [] once = tt
once-distinct (x ∷ xs) once =
    (none_apart x xs (omega (arith, once x, times-cons x x xs, times-itself x)), once-distinct xs (λ n. omega (arith, once n, times-cons n x xs)))

-- numbers that differ and are from 1 to a last one are no more than that
pub few-once : (xs : List ℕ) (last : ℕ) → ((n : ℕ) → times n xs ≤ 1) → ((n : ℕ) → 0 < times n xs → (0 < n) × (n ≤ last)) → length xs ≤ last
few-once xs last once within =
    omega (arith, times-counted xs last none, few last)
  where
    none : (n : ℕ) → last < n → times n xs ≡ 0
    none n past = elim (cases_lt 0 (times n xs)) [ inl some ↦ absurd (omega (arith, (within n some).1)) | inr not_some ↦ omega arith ]

    few : (m : ℕ) → up_to (λ n. times n xs) m ≤ m
    few zero = elim (cases_lt 0 (times 0 xs)) [ inl some ↦ absurd (omega (arith, (within 0 some).0)) | inr not_some ↦ omega arith ]
    few (suc m) = omega (arith, once (suc m), few m)
