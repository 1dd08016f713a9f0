-- What follows from the definition of variable-length integers alone: crates above cite these facts in their proofs.
use Rattle.std.proofs.Common.{◌≡◌, ℕ, zero, suc, ◌+◌, ◌-◌, ◌*◌, ◌/◌, ◌%◌, ◌^◌, ◌<◌, ◌≤◌, cond, ltb, List, [], ◌∷◌, ◌++◌, length, take, drop, inl, inr, lit<, refl, sym, ◌∙◌, ap, subst, append_assoc, length-append, arith}
use Rattle.std.proofs.Math.Nat.{div-add-mod', pow-suc, one-le-pow, pow-le-pow_right, mul-le-mul_right, mod-eq_of_lt}
use Rattle.std.proofs.lemmas.Nat.{mod-mul-add, div_below, mod_below, mul-add-lt}
use Rattle.std.proofs.lemmas.List.{length_push, length-take-le, take-append-drop}
use Rattle.std.proofs.lemmas.Bool.{cond_both, cases_lt, ltb-true, ltb-false}
use Rattle.std.proofs.lemmas.Bool.Decides.{nat_tests}
use Rattle.std.specs.List.{AllByRecursion}
use Rattle.format_spec.specs.Varint.{groups_value, last_weight, HasHighBit, IsVarint, groups, varint_front, varint}

-- a power of 128 is above zero
power_positive : (n : ℕ) → 0 < 128 ^ n
power_positive n = omega (arith, one-le-pow n 128 (omega arith))

-- bytes with their high bit set, after such bytes
pub high-append : (xs ys : List ℕ) → AllByRecursion HasHighBit xs → AllByRecursion HasHighBit ys → AllByRecursion HasHighBit (xs ++ ys)
high-append [] ys h k = k
high-append (x ∷ xs) ys h k = (h.0, high-append xs ys h.1 k)

-- one more group
pub groups_value-push : (xs : List ℕ) (b : ℕ) → groups_value (xs ++ b ∷ []) ≡ groups_value xs * 128 + (b - 128)
groups_value-push [] b = omega arith
groups_value-push (x ∷ xs) b =
    let e : length (xs ++ b ∷ []) ≡ suc (length xs) = omega (arith, length_push xs b) in
    let h = groups_value-push xs b in
    let p : 128 ^ length (xs ++ b ∷ []) ≡ 128 ^ length xs * 128 = ap (λ n. 128 ^ n) e ∙ pow-suc 128 (length xs) in
    rw (p, h) (omega arith)

-- so many groups of seven bits
pub groups_value-lt : (xs : List ℕ) → AllByRecursion HasHighBit xs → groups_value xs < 128 ^ length xs
groups_value-lt [] h = omega arith
groups_value-lt (x ∷ xs) h =
    let rest = groups_value-lt xs h.1 in
    let b : 128 ≤ x = h.0.0 in
    let t : x < 256 = h.0.1 in
    let m : x - 128 + 1 ≤ 128 = omega arith in
    let le : (x - 128 + 1) * 128 ^ length xs ≤ 128 * 128 ^ length xs = mul-le-mul_right (128 ^ length xs) m in
    rw (pow-suc 128 (length xs)) (omega (arith, rest, le))

-- at most k bytes in front of the last, which is below 128 unless there are k
same_split : (k : ℕ) (xs ys : List ℕ) (x y : ℕ) (rest more : List ℕ) → length xs ≤ k → length ys ≤ k
    → AllByRecursion HasHighBit xs → AllByRecursion HasHighBit ys → (length xs < k → x < 128) → (length ys < k → y < 128)
    → xs ++ x ∷ rest ≡ ys ++ y ∷ more → (xs ≡ ys) × (x ≡ y)
same_split k [] [] x y rest more l m p q f g e = (refl, cc)
same_split k [] (b ∷ ys) x y rest more l m p q f g e =
    let same : x ≡ b = cc in
    let high : 128 ≤ b = q.0.0 in
    let low : x < 128 = f (omega arith) in
    absurd (omega arith)
same_split k (a ∷ xs) [] x y rest more l m p q f g e =
    let same : a ≡ y = cc in
    let high : 128 ≤ a = p.0.0 in
    let low : y < 128 = g (omega arith) in
    absurd (omega arith)
same_split k (a ∷ xs) (b ∷ ys) x y rest more l m p q f g e =
    let tail : xs ++ x ∷ rest ≡ ys ++ y ∷ more = cc in
    let head : a ≡ b = cc in
    let r = same_split (k - 1) xs ys x y rest more (omega arith) (omega arith) p.1 q.1 (λ h. f (omega arith)) (λ h. g (omega arith)) tail in
    let r₀ : xs ≡ ys = r.0 in
    let r₁ : x ≡ y = r.1 in
    (cc, r₁)

high_inside : (xs : List ℕ) (x : ℕ) (ys : List ℕ) → AllByRecursion HasHighBit (xs ++ x ∷ ys) → 128 ≤ x
high_inside [] x ys h = h.0.0
high_inside (a ∷ xs) x ys h = high_inside xs x ys h.1

-- what the last byte of a varint is below
pub last_weight-short : (n : ℕ) → n < 8 → last_weight n ≡ 128
last_weight-short n h = grind (arith, nat_tests)

-- no spelling begins another, and what was written is read again whatever follows it
pub varint-same : {a b : List ℕ} {m n : ℕ} (x y : List ℕ) → IsVarint a m → IsVarint b n → a ++ x ≡ b ++ y → (a ≡ b) × (m ≡ n)
varint-same {a} {b} {m} {n} x y v w e =
    let left : a ++ x ≡ v.front ++ v.last ∷ x = ap (λ s. s ++ x) v.whole ∙ append_assoc v.front (v.last ∷ []) x in
    let right : b ++ y ≡ w.front ++ w.last ∷ y = ap (λ s. s ++ y) w.whole ∙ append_assoc w.front (w.last ∷ []) y in
    let same = same_split 8 v.front w.front v.last w.last x y v.at_most_nine w.at_most_nine v.high w.high
    (λ h. omega (arith, v.low, last_weight-short (length v.front) h))
    (λ h. omega (arith, w.low, last_weight-short (length w.front) h))
    (sym left ∙ e ∙ right) in
    let fronts : v.front ≡ w.front = same.0 in
    let lasts : v.last ≡ w.last = same.1 in (
      v.whole ∙ ap (λ s. s ++ v.last ∷ []) fronts ∙ ap (λ (c : ℕ). w.front ++ c ∷ []) lasts ∙ sym w.whole,
      v.sum ∙ ap (λ (s : List ℕ). groups_value s * last_weight (length s) + v.last) fronts ∙ ap (λ (c : ℕ). groups_value w.front * last_weight (length w.front) + c) lasts ∙ sym w.sum,
    )

-- a varint in front of bytes is the only one
pub varint-same_front : (bytes : List ℕ) (i j m n : ℕ) → i ≤ length bytes → j ≤ length bytes → IsVarint (take i bytes) m → IsVarint (take j bytes) n → (m ≡ n) × (i ≡ j)
varint-same_front bytes i j m n p q v w =
    let same = varint-same (drop i bytes) (drop j bytes) v w (take-append-drop i bytes ∙ sym (take-append-drop j bytes)) in
    let lengths : length (take i bytes) ≡ length (take j bytes) = ap length same.0 in
    (same.1, omega (arith, lengths, length-take-le i bytes p, length-take-le j bytes q))

-- fewer than nine bytes with their high bit set spell nothing
pub high-none : (bytes : List ℕ) (n value : ℕ) → AllByRecursion HasHighBit bytes → length bytes < 9 → IsVarint (take n bytes) value → ⊥
high-none bytes n value h l v =
    let whole : v.front ++ v.last ∷ drop n bytes ≡ bytes = sym (append_assoc v.front (v.last ∷ []) (drop n bytes)) ∙ ap (λ s. s ++ drop n bytes) (sym v.whole) ∙ take-append-drop n bytes in
    let lengths : length (v.front ++ v.last ∷ drop n bytes) ≡ length bytes = ap length whole in
    let last = high_inside v.front v.last (drop n bytes) (subst (AllByRecursion HasHighBit) (sym whole) h) in
    let short : length v.front < 8 = omega (arith, lengths, length-append v.front (v.last ∷ drop n bytes)) in
    omega (arith, last, v.low, last_weight-short (length v.front) short)

-- there are n groups
pub length-groups : (n x : ℕ) → length (groups n x) ≡ n
length-groups zero x = refl
length-groups (suc n) x = ap (λ (k : ℕ). suc k) (length-groups n x)

-- and each has its high bit set
pub high-groups : (n x : ℕ) → AllByRecursion HasHighBit (groups n x)
high-groups zero x = tt
high-groups (suc n) x =
    let low = mod_below (x / 128 ^ n) 128 (omega arith) in
    ((omega arith, omega arith), high-groups n x)

-- the groups are the digits of the number to the base 128
pub groups_value-groups : (n x : ℕ) → groups_value (groups n x) ≡ x % 128 ^ n
groups_value-groups zero x = omega arith
groups_value-groups (suc n) x =
    let c = 128 ^ n in
    let q = x / c in
    let rest = groups_value-groups n x in
    let size = length-groups n x in
    let d = mod_below q 128 (omega arith) in
    let r = mod_below x c (power_positive n) in
    let inner : q % 128 * c + x % c < c * 128 = mul-add-lt (q % 128) c (x % c) 128 d r in
    let split : x ≡ q / 128 * (c * 128) + (q % 128 * c + x % c) = omega (arith, div-add-mod' x c, ap (λ (k : ℕ). k * c) (div-add-mod' q 128)) in
    let low : x % (c * 128) ≡ q % 128 * c + x % c = ap (λ (k : ℕ). k % (c * 128)) split ∙ mod-mul-add (q / 128) (c * 128) (q % 128 * c + x % c) inner in
    let first : 128 + q % 128 - 128 ≡ q % 128 = omega arith in
    rw (size, rest, first, pow-suc 128 n) (sym low)

-- what the number of the bytes in front of the last one says of a number
record IsFrontOf (x front : ℕ) : Type 0 where
  most : front ≤ 8
  fits : x < 128 ^ front * last_weight front
  least : 0 < front → 128 ^ front ≤ x

step : (x y m n : ℕ) → (x < y → IsFrontOf x m) → (y ≤ x → IsFrontOf x n) → IsFrontOf x (cond (ltb x y) m n)
step x y m n below above = cond_both (ltb x y) m n (IsFrontOf x) (λ h. below (ltb-true x y h)) (λ h. above (ltb-false x y h))

front_fits : (x : ℕ) → x < 2 ^ 64 → IsFrontOf x (varint_front x)
unfolding varint_front
front_fits x top =
    step x (2 ^ 7) 0 _ (λ h. record { most = omega arith; fits = omega arith; least = λ z. omega arith }) (λ l.
    step x (2 ^ 14) 1 _ (λ h. record { most = omega arith; fits = omega arith; least = λ z. omega arith }) (λ l.
    step x (2 ^ 21) 2 _ (λ h. record { most = omega arith; fits = omega arith; least = λ z. omega arith }) (λ l.
    step x (2 ^ 28) 3 _ (λ h. record { most = omega arith; fits = omega arith; least = λ z. omega arith }) (λ l.
    step x (2 ^ 35) 4 _ (λ h. record { most = omega arith; fits = omega arith; least = λ z. omega arith }) (λ l.
    step x (2 ^ 42) 5 _ (λ h. record { most = omega arith; fits = omega arith; least = λ z. omega arith }) (λ l.
    step x (2 ^ 49) 6 _ (λ h. record { most = omega arith; fits = omega arith; least = λ z. omega arith }) (λ l.
    step x (2 ^ 56) 7 8 (λ h. record { most = omega arith; fits = omega arith; least = λ z. omega arith }) (λ l.
    record { most = omega arith; fits = omega arith; least = λ z. omega arith }))))))))

-- the number of bytes in front of the last one
pub varint_front-most : (x : ℕ) → x < 2 ^ 64 → varint_front x ≤ 8
varint_front-most x top = (front_fits x top).most

last_weight_positive : (n : ℕ) → 0 < last_weight n
last_weight_positive n = grind (arith, nat_tests)

-- the shortest spelling has one byte more
pub varint_size : (x : ℕ) → length (varint x) ≡ varint_front x + 1
unfolding varint
varint_size x =
    let w = last_weight (varint_front x) in
    omega (arith, length_push (groups (varint_front x) (x / w)) (x % w), length-groups (varint_front x) (x / w))

-- the shortest spelling spells the number
pub varint_spells : (x : ℕ) → x < 2 ^ 64 → IsVarint (varint x) x
unfolding varint
varint_spells x top =
    let f = varint_front x in
    let w = last_weight f in
    let fits = front_fits x top in
    let size = length-groups f (x / w) in
    let value : groups_value (groups f (x / w)) ≡ x / w =
    groups_value-groups f (x / w) ∙ mod-eq_of_lt (div_below x w (128 ^ f) (last_weight_positive f) fits.fits) in
    let same : last_weight (length (groups f (x / w))) ≡ w = ap last_weight size in
    record {
      front = groups f (x / w);
      last = x % w;
      whole = refl;
      at_most_nine = omega (arith, size, fits.most);
      high = high-groups f (x / w);
      low = rw same (mod_below x w (last_weight_positive f));
      sum = rw (same, value) (sym (div-add-mod' x w));
    }

-- no spelling of the number is shorter
pub varint_shortest : (x : ℕ) (bytes : List ℕ) → x < 2 ^ 64 → IsVarint bytes x → length (varint x) ≤ length bytes
varint_shortest x bytes top v =
    let k = length v.front in
    let size : length bytes ≡ k + 1 = ap length v.whole ∙ length_push v.front v.last in
    elim (cases_lt k (varint_front x)) [
      | inl less ↦
          let fits = front_fits x top in
          let least = fits.least (omega arith) in
          let short : k < 8 = omega (arith, fits.most) in
          let weight = last_weight-short k short in
          let low : v.last < 128 = omega (arith, v.low, weight) in
          let sum : x ≡ groups_value v.front * 128 + v.last = v.sum ∙ ap (λ (w : ℕ). groups_value v.front * w + v.last) weight in
          let below = groups_value-lt v.front v.high in
          let more : 128 ^ k * 128 ≤ 128 ^ varint_front x = subst (λ (p : ℕ). p ≤ 128 ^ varint_front x) (pow-suc 128 k) (pow-le-pow_right (lit< tt) (omega arith)) in
          absurd (omega arith)
      | inr enough ↦ omega (arith, varint_size x)
    ]

-- one to nine bytes
pub varint-one_to_nine : (x : ℕ) → x < 2 ^ 64 → (1 ≤ length (varint x)) × (length (varint x) ≤ 9)
varint-one_to_nine x top = (omega (arith, varint_size x), omega (arith, varint_size x, varint_front-most x top))

-- any spelling has one to nine bytes
pub spelling-one_to_nine : (bytes : List ℕ) (x : ℕ) → IsVarint bytes x → (1 ≤ length bytes) × (length bytes ≤ 9)
spelling-one_to_nine bytes x v =
    let size : length bytes ≡ length v.front + 1 = ap length v.whole ∙ length_push v.front v.last in
    (omega arith, omega (arith, v.at_most_nine))

-- and its number fits 64 bits
pub spelling-number_fits : (bytes : List ℕ) (x : ℕ) → IsVarint bytes x → x < 2 ^ 64
spelling-number_fits bytes x v =
    let k = length v.front in
    let below = groups_value-lt v.front v.high in
    let few : k ≤ 8 = v.at_most_nine in
    elim (cases_lt k 8) [
      | inl less ↦
          let weight = last_weight-short k less in
          let sum : x ≡ groups_value v.front * 128 + v.last = v.sum ∙ ap (λ (w : ℕ). groups_value v.front * w + v.last) weight in
          let most : 128 ^ k ≤ 128 ^ 8 = pow-le-pow_right (lit< tt) few in
          omega (arith, v.low, weight)
      | inr more ↦
          let eight : k ≡ 8 = omega arith in
          let weight : last_weight k ≡ 256 = ap last_weight eight in
          let sum : x ≡ groups_value v.front * 256 + v.last = v.sum ∙ ap (λ (w : ℕ). groups_value v.front * w + v.last) weight in
          let most : 128 ^ k ≤ 128 ^ 8 = pow-le-pow_right (lit< tt) few in
          omega (arith, v.low, weight)
    ]
