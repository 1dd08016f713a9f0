-- Two pages written one behind the other.
use Rattle.std.proofs.Common.{◌≡◌, ℕ, ◌+◌, ◌-◌, List, [], ◌++◌, length, take, drop, ap, ◌∙◌, arith, length-append, length-drop}
use Rattle.std.proofs.lemmas.List.{append-nil, take_at, drop_at, drop_all, length-take-le}
use borrow.Rule.Slice.PartMut.{put_mid}

pub halves-written : (size k : ℕ) (old first second : List ℕ) → length old ≡ size + size → length first ≡ size → k ≡ length (first ++ drop size old) - size
    → put_mid size k (first ++ drop size old) second ≡ first ++ second
halves-written size k old first second long at e =
    let before = take_at first (drop size old) size at in
    let none : drop k (drop size (first ++ drop size old)) ≡ [] = drop_all k (drop size (first ++ drop size old)) (omega (arith, length-drop size (first ++ drop size old))) in
    ap (λ (x : List ℕ). x ++ (second ++ drop k (drop size (first ++ drop size old)))) before
    ∙ ap (λ (x : List ℕ). first ++ x) (ap (λ (x : List ℕ). second ++ x) none ∙ append-nil second)

pub half-length : (size k : ℕ) (old first : List ℕ) → length old ≡ size + size → length first ≡ size → k ≡ length (first ++ drop size old) - size
    → length (take k (drop size (first ++ drop size old))) ≡ size
half-length size k old first long at e =
    omega (arith, length-append first (drop size old), length-drop size old, length-drop size (first ++ drop size old), length-take-le k (drop size (first ++ drop size old)) (omega (arith, length-drop size (first ++ drop size old))))
