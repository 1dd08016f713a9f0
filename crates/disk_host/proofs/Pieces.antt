-- Bytes that are read and written piece by piece.
use Rattle.std.proofs.Common.{◌≡◌, ℕ, ◌+◌, ◌-◌, ◌≤◌, List, [], ◌++◌, length, take, drop, sym, ap, subst, ◌∙◌, arith}
use borrow.Rule.Slice.PartMut.{put_mid}
use Rattle.std.specs.Prelude.{Option}
use Rattle.std.specs.Io.KnownBytes.{Appends, Consumes}
use Rattle.std.proofs.KnownBytes.{Appends-trans, Consumes-trans}
use Rattle.std.proofs.lemmas.List.{append-nil, drop-drop, drop-take, drop_all, drop_at, length-drop, length-take-le, take-append-drop, take-take, take_at, take_rest}

-- a front is a shorter one and what follows it
front-parts : (m n : ℕ) (xs : List ℕ) → take (m + n) xs ≡ take m xs ++ take n (drop m xs)
front-parts m n xs =
    sym (take-append-drop m (take (m + n) xs))
    ∙ ap (λ (l : List ℕ). l ++ drop m (take (m + n) xs)) (take-take m (m + n) xs (omega arith))
    ∙ ap (λ (l : List ℕ). take m xs ++ l) (drop-take m n xs)

-- the front of a buffer was read, and then n bytes more behind it
read-more : (a b c : Option (List ℕ)) (start xs ys : List ℕ) (m n : ℕ) → take m ys ≡ take m xs → drop m xs ≡ drop m start → drop n (drop m ys) ≡ drop n (drop m xs)
    → Consumes a b (take m xs) → Consumes b c (take n (drop m ys)) → (drop (m + n) ys ≡ drop (m + n) start) × Consumes a c (take (m + n) ys)
read-more a b c start xs ys m n front rest behind before read = (
  sym (drop-drop n m ys) ∙ behind ∙ ap (drop n) rest ∙ drop-drop n m start,
  subst (Consumes a c) (sym (front-parts m n ys ∙ ap (λ (l : List ℕ). l ++ take n (drop m ys)) front)) (Consumes-trans a b c (take m xs) (take n (drop m ys)) before read),
)

-- the same where what follows the front was lent, and n bytes of it were read
pub read-step : (a b c : Option (List ℕ)) (start xs part : List ℕ) (m n : ℕ) → m ≤ length xs → drop m xs ≡ drop m start → drop n part ≡ drop n (take (length xs - m) (drop m xs))
    → Consumes a b (take m xs) → Consumes b c (take n part)
    → (drop (m + n) (put_mid m (length xs - m) xs part) ≡ drop (m + n) start) × Consumes a c (take (m + n) (put_mid m (length xs - m) xs part))
read-step a b c start xs part m n fits rest behind before read =
    let long : length (take m xs) ≡ m = length-take-le m xs fits in
    let none : drop (length xs - m) (drop m xs) ≡ [] = drop_all (length xs - m) (drop m xs) (omega (arith, length-drop m xs)) in
    let behind_front = part ++ drop (length xs - m) (drop m xs) in
    let front = take_at (take m xs) behind_front m long in
    let back : drop m (put_mid m (length xs - m) xs part) ≡ part =
    drop_at (take m xs) behind_front m long ∙ ap (λ (l : List ℕ). part ++ l) none ∙ append-nil part in
    read-more a b c start xs (put_mid m (length xs - m) xs part) m n front rest (ap (drop n) back ∙ behind ∙ ap (drop n) (take_rest xs m)) before
    (subst (Consumes b c) (sym (ap (take n) back)) read)

-- the front of the bytes was written, and then n bytes more of what follows it
pub write-step : (a b c : Option (List ℕ)) (xs : List ℕ) (m n : ℕ) → Appends a b (take m xs) → Appends b c (take n (take (length xs - m) (drop m xs))) → Appends a c (take (m + n) xs)
write-step a b c xs m n before wrote =
    subst (Appends a c) (sym (front-parts m n xs)) (Appends-trans a b c (take m xs) (take n (drop m xs)) before (subst (λ (l : List ℕ). Appends b c (take n l)) (take_rest xs m) wrote))
