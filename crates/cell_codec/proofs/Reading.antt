-- What the loop of `read_varint` keeps, and what it says in the end.
use Rattle.std.proofs.Common.{◌≡◌, ℕ, ◌+◌, ◌-◌, ◌*◌, ◌^◌, ◌<◌, ◌≤◌, ◌↔◌, List, [], ◌∷◌, ◌++◌, Option, Some, None, IsNone, get_or, length, take, refl, sym, ◌∙◌, ap, subst, lit<, arith}
use Rattle.std.proofs.Math.Nat.{pow-le-pow_right}
use Rattle.std.proofs.lemmas.List.{length-take-le, take_all, take_more}
use Rattle.std.specs.List.{AllByRecursion}
use Rattle.format_spec.specs.Varint.{HasHighBit, IsVarint, groups_value, last_weight}
use Rattle.cell_codec.specs.VarintLaws.{groups_value-push, groups_value-lt, high-append, high-none, varint-same_front}

-- the first i bytes all have their high bit, and the number so far is theirs
pub record IsHighFront (bytes : List ℕ) (i high : ℕ) : Type 0 where
  pub within : i ≤ length bytes
  pub all : AllByRecursion HasHighBit (take i bytes)
  pub number : high ≡ groups_value (take i bytes)

pub IsHighFront-below : (bytes : List ℕ) (i high : ℕ) → IsHighFront bytes i high → i ≤ 8 → high < 2 ^ 56
IsHighFront-below bytes i high f h =
    let below = groups_value-lt (take i bytes) f.all in
    let size = length-take-le i bytes f.within in
    let few : length (take i bytes) ≤ 8 = omega (arith, size) in
    let less : 128 ^ length (take i bytes) ≤ 128 ^ 8 = pow-le-pow_right (lit< tt) few in
    omega (arith, f.number)

pub IsHighFront-one_more : (bytes : List ℕ) (i high b : ℕ) → IsHighFront bytes i high → i < length bytes → b ≡ get_or bytes i 0 → 128 ≤ b → b < 256
    → IsHighFront bytes (i + 1) (high * 128 + (b - 128))
IsHighFront-one_more bytes i high b f h e low fits =
    let next : take (i + 1) bytes ≡ take i bytes ++ b ∷ [] = take_more bytes i 0 h ∙ ap (λ (c : ℕ). take i bytes ++ c ∷ []) (sym e) in
    record {
      within = omega arith;
      all = subst (AllByRecursion HasHighBit) (sym next) (high-append (take i bytes) (b ∷ []) f.all ((low, fits), tt));
      number = ap (λ (n : ℕ). n * 128 + (b - 128)) f.number ∙ sym (ap groups_value next ∙ groups_value-push (take i bytes) b);
    }

pub varint-spelled : (bytes : List ℕ) (i high b : ℕ) → IsHighFront bytes i high → i ≤ 8 → i < length bytes → b ≡ get_or bytes i 0 → b < last_weight i
    → IsVarint (take (i + 1) bytes) (high * last_weight i + b)
varint-spelled bytes i high b f most h e low =
    let size : length (take i bytes) ≡ i = length-take-le i bytes f.within in
    let weight : last_weight (length (take i bytes)) ≡ last_weight i = ap last_weight size in
    record {
      front = take i bytes;
      last = b;
      whole = take_more bytes i 0 h ∙ ap (λ (c : ℕ). take i bytes ++ c ∷ []) (sym e);
      at_most_nine = omega (arith, size);
      high = f.all;
      low = rw weight low;
      sum = rw weight (ap (λ (n : ℕ). n * last_weight i + b) f.number);
    }

pub varint-only_found : (bytes : List ℕ) (m i : ℕ) → i ≤ length bytes → IsVarint (take i bytes) m
    → (value n : ℕ) → n ≤ length bytes → IsVarint (take n bytes) value → ◌≡◌ {A = Option (ℕ × ℕ)} (Some (m, i)) (Some (value, n))
varint-only_found bytes m i h v value n k w =
    let same = varint-same_front bytes i n m value h k v w in
    let first : m ≡ value = same.0 in
    let second : i ≡ n = same.1 in
    cc

-- a byte that ends a varint is not among fewer than nine bytes with their high bit set
pub varint-never_none : (bytes : List ℕ) (m i : ℕ) → IsVarint (take i bytes) m → IsNone {T = ℕ × ℕ} (Some (m, i)) ↔ (AllByRecursion HasHighBit bytes × (length bytes < 9))
varint-never_none bytes m i v = (λ h. absurd (cc), λ h. absurd (high-none bytes i m h.0 h.1 v))

-- the bytes end inside a varint
pub IsHighFront-all : (bytes : List ℕ) (i high : ℕ) → IsHighFront bytes i high → length bytes ≤ i → AllByRecursion HasHighBit bytes
IsHighFront-all bytes i high f h = subst (AllByRecursion HasHighBit) (take_all i bytes h) f.all

pub varint-only_none : (bytes : List ℕ) (i high : ℕ) → IsHighFront bytes i high → length bytes ≤ i → i ≤ 8
    → (r : Option (ℕ × ℕ)) (value n : ℕ) → n ≤ length bytes → IsVarint (take n bytes) value → r ≡ Some (value, n)
varint-only_none bytes i high f h most r value n k v = absurd (high-none bytes n value (IsHighFront-all bytes i high f h) (omega arith) v)

pub varint-always_none : (bytes : List ℕ) (i high : ℕ) → IsHighFront bytes i high → length bytes ≤ i → i ≤ 8
    → (r : Option (ℕ × ℕ)) → r ≡ None → IsNone r ↔ (AllByRecursion HasHighBit bytes × (length bytes < 9))
varint-always_none bytes i high f h most r e = (λ _. (IsHighFront-all bytes i high f h, omega arith), λ _. rw e refl)
