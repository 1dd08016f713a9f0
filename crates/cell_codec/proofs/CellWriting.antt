-- One part written after another at the front of a buffer.
use Rattle.std.proofs.Common.{◌≡◌, ℕ, ◌+◌, ◌-◌, List, [], ◌++◌, length, take, drop, sym, ◌∙◌, ap, append_assoc, arith}
use Rattle.std.proofs.lemmas.List.{append-nil, take_at, take_all, drop_at, drop_all, drop-drop, length-append, length-drop}
use borrow.Rule.Slice.PartMut.{put_mid}

-- what stands in front is written, and the rest is as it was
pub record IsWrittenTo (old now front : List ℕ) (at : ℕ) : Type 0 where
  pub size : length front ≡ at
  pub written : now ≡ front ++ drop at old

IsWrittenTo-rest : (old now front : List ℕ) (at : ℕ) → IsWrittenTo old now front at → drop at now ≡ drop at old
IsWrittenTo-rest old now front at w = ap (drop at) w.written ∙ drop_at front (drop at old) at w.size

IsWrittenTo-front : (old now front : List ℕ) (at : ℕ) → IsWrittenTo old now front at → take at now ≡ front
IsWrittenTo-front old now front at w = ap (take at) w.written ∙ take_at front (drop at old) at w.size

-- a part is written by a call that is lent all of the rest
pub IsWrittenTo-next : (old now front part given : List ℕ) (at n : ℕ) → IsWrittenTo old now front at → length part ≡ n → given ≡ part ++ drop n (take (length now - at) (drop at now))
    → IsWrittenTo old (put_mid at (length now - at) now given) (front ++ part) (at + n)
IsWrittenTo-next old now front part given at n w l e =
    let rest = IsWrittenTo-rest old now front at w in
    let all : take (length now - at) (drop at now) ≡ drop at now = take_all (length now - at) (drop at now) (omega (arith, length-drop at now)) in
    let none : drop (length now - at) (drop at now) ≡ [] = drop_all (length now - at) (drop at now) (omega (arith, length-drop at now)) in
    let lent : given ≡ part ++ drop (at + n) old = e ∙ ap (λ s. part ++ drop n s) (all ∙ rest) ∙ ap (λ s. part ++ s) (drop-drop n at old) in
    record {
      size = omega (arith, length-append front part, w.size, l);
      written =
          ap (λ s. s ++ (given ++ drop (length now - at) (drop at now))) (IsWrittenTo-front old now front at w)
          ∙ ap (λ s. front ++ (given ++ s)) none
          ∙ ap (λ s. front ++ s) (append-nil given)
          ∙ ap (λ s. front ++ s) lent
          ∙ sym (append_assoc front part (drop (at + n) old));
    }
