-- Both pages of the target.
use Rattle.std.proofs.Common.{◌≡◌, ℕ, ◌+◌, ◌-◌, List, [], ◌++◌, length, take, drop, replicate, ap, ◌∙◌, arith}
use Rattle.std.proofs.lemmas.List.{append-nil, length-append, length-drop, length-take-le, take_at, drop_all}
use borrow.Rule.Slice.PartMut.{put_mid}

-- a page of a file that is longer
pub page-first : (size : ℕ) (target : List ℕ) → length target ≡ size + size → take size target ++ replicate (size - length target) 0 ≡ take size target
page-first size target long =
    let none : size - length target ≡ 0 = omega arith in
    ap (λ (n : ℕ). take size target ++ replicate n 0) none ∙ append-nil (take size target)

-- the second page is written behind the first
pub page-second_written : (size k : ℕ) (target first second : List ℕ) → length target ≡ size + size → length first ≡ size → k ≡ length (first ++ drop size target) - size
    → put_mid size k (first ++ drop size target) second ≡ first ++ second
page-second_written size k target first second long at e =
    let before = take_at first (drop size target) size at in
    let none : drop k (drop size (first ++ drop size target)) ≡ [] =
    drop_all k (drop size (first ++ drop size target)) (omega (arith, length-drop size (first ++ drop size target))) in
    ap (λ (x : List ℕ). x ++ (second ++ drop k (drop size (first ++ drop size target)))) before
    ∙ ap (λ (x : List ℕ). first ++ x) (ap (λ (x : List ℕ). second ++ x) none ∙ append-nil second)

-- and it is as long
pub page-second_length : (size k : ℕ) (target first : List ℕ) → length target ≡ size + size → length first ≡ size → k ≡ length (first ++ drop size target) - size
    → length (take k (drop size (first ++ drop size target))) ≡ size
page-second_length size k target first long at e =
    omega (arith, length-append first (drop size target), length-drop size target, length-drop size (first ++ drop size target), length-take-le k (drop size (first ++ drop size target)) (omega (arith, length-drop size (first ++ drop size target))))
