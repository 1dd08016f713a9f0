-- What the loop of `write_varint` keeps, and what it says in the end.
use Rattle.std.proofs.Common.{◌≡◌, ℕ, suc, ◌+◌, ◌-◌, ◌/◌, ◌%◌, ◌^◌, ◌<◌, ◌≤◌, List, [], ◌∷◌, ◌++◌, length, take, drop, set, get_or, refl, sym, ◌∙◌, ap, append_assoc, arith}
use Rattle.std.proofs.lemmas.Grind.{common_steps}
use Rattle.std.proofs.Math.Nat.{div-div-eq-div-mul, pow-suc}
use Rattle.std.proofs.lemmas.List.{length-take-le, take_more, set_at, drop-set}
use Rattle.format_spec.specs.Varint.{groups, last_weight, varint_front, varint}

-- the bytes from place i on are written, and the number that is left is that of the bytes in front of them
pub record IsWrittenFrom (first now : List ℕ) (front number i high : ℕ) : Type 0 where
  pub within : i ≤ front
  pub left : high ≡ number / 128 ^ (front - i)
  pub placed : now ≡ take i first ++ (groups (front - i) number ++ drop front first)

pub IsWrittenFrom-none : (first : List ℕ) (front number : ℕ) → IsWrittenFrom first first front number front number
IsWrittenFrom-none first front number = grind (arith, common_steps)

pub IsWrittenFrom-one_more : (first now : List ℕ) (front number j high : ℕ) → IsWrittenFrom first now front number (j + 1) high → front < length first
    → IsWrittenFrom first (set now j (128 + high % 128)) front number j (high / 128)
IsWrittenFrom-one_more first now front number j high w h =
    let k = front - (j + 1) in
    let here : j < length first = omega (arith, w.within) in
    let size : length (take j first) ≡ j = length-take-le j first (omega arith) in
    let rest = groups k number ++ drop front first in
    let was : now ≡ take j first ++ get_or first j 0 ∷ rest =
    w.placed ∙ ap (λ s. s ++ rest) (take_more first j 0 here) ∙ append_assoc (take j first) (get_or first j 0 ∷ []) rest in
    let next : front - j ≡ suc k = omega (arith, w.within) in
    record {
      within = omega (arith, w.within);
      left = ap (λ (x : ℕ). x / 128) w.left ∙ div-div-eq-div-mul number (128 ^ k) 128 ∙ ap (λ (x : ℕ). number / x) (sym (pow-suc 128 k) ∙ ap (λ (x : ℕ). 128 ^ x) (sym next));
      placed =
          ap (λ s. set s j (128 + high % 128)) was
          ∙ set_at (take j first) (get_or first j 0) rest (128 + high % 128) j size
          ∙ ap (λ (x : ℕ). take j first ++ (128 + x % 128) ∷ rest) w.left
          ∙ ap (λ (n : ℕ). take j first ++ (groups n number ++ drop front first)) (sym next);
    }

pub IsWrittenFrom-all : (old now : List ℕ) (value front weight high : ℕ) → front ≡ varint_front value → weight ≡ last_weight front → front < length old
    → IsWrittenFrom (set old front (value % weight)) now front (value / weight) 0 high → now ≡ varint value ++ drop (front + 1) old
unfolding varint
IsWrittenFrom-all old now value front weight high e f h w =
    let last = value % weight in
    let all : front - 0 ≡ front = omega arith in
    w.placed
    ∙ ap (λ n. groups n (value / weight) ++ drop front (set old front last)) all
    ∙ ap (λ s. groups front (value / weight) ++ s) (drop-set old front last h)
    ∙ sym (append_assoc (groups front (value / weight)) (last ∷ []) (drop (front + 1) old))
    ∙ rw (f, e) refl
