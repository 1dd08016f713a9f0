-- What a write leaves of bytes, and what equal bytes say of their parts: crates above cite these facts in their proofs.
use Rattle.std.proofs.Common.{◌≡◌, ℕ, ◌+◌, ◌-◌, ◌≤◌, List, [], ◌++◌, length, take, drop, replicate, refl, sym, ap, ◌∙◌, arith, zero-add, append-nil}
use Rattle.std.proofs.lemmas.List.{take_all, take_at, drop_at, drop-drop, drop-take, take-take}
use Rattle.std.proofs.Math.ListN.{drop_of_length-le}
use Rattle.byte_fields.specs.Bytes.{resized, overwritten, part_of}

-- a write at the end appends
pub overwritten-end : (old : List ℕ) (at : ℕ) (bytes : List ℕ) → length old ≡ at → overwritten old at bytes ≡ old ++ bytes
overwritten-end old at bytes e =
    let kept = take_all at old (omega (arith, e)) in
    let none : at - length old ≡ 0 = omega (arith, e) in
    let past : drop (at + length bytes) old ≡ [] = drop_of_length-le old (omega (arith, e)) in
    rw (kept, none, past, append-nil, append-nil) refl

-- a write from the front over bytes that are no longer
pub overwritten-front : (old bytes : List ℕ) → overwritten old 0 bytes ≡ bytes ++ drop (length bytes) old
overwritten-front old bytes =
    let none : 0 - length old ≡ 0 = omega arith in
    rw (zero-add (length bytes), none) refl

-- bytes that are long enough are cut
pub resized-short : (bytes : List ℕ) (n : ℕ) → n ≤ length bytes → resized bytes n ≡ take n bytes
resized-short bytes n enough =
    let none : n - length bytes ≡ 0 = omega arith in
    ap (λ (k : ℕ). take n bytes ++ replicate k 0) none ∙ append-nil (take n bytes)

-- bytes of the asked length are as they are
pub resized-same : (bytes : List ℕ) (n : ℕ) → length bytes ≡ n → resized bytes n ≡ bytes
resized-same bytes n e = resized-short bytes n (omega (arith, e)) ∙ take_all n bytes (omega (arith, e))

-- a part of a part
pub part_of-part_of : (bytes : List ℕ) (place size at n : ℕ) → at + n ≤ size → part_of (part_of bytes place size) at n ≡ part_of bytes (place + at) n
part_of-part_of bytes place size at n inside =
    let m = size - at in
    let split : size ≡ at + m = omega arith in
    ap (take n) (ap (λ (k : ℕ). drop at (take k (drop place bytes))) split ∙ drop-take at m (drop place bytes)) ∙ take-take n m (drop at (drop place bytes)) (omega arith) ∙ ap (take n) (drop-drop at place bytes)

-- lists that are equal have equal fronts of one length
pub append-same : (a b x y : List ℕ) → length a ≡ length b → a ++ x ≡ b ++ y → (a ≡ b) × (x ≡ y)
append-same a b x y long e =
    (sym (take_at a x (length b) long) ∙ ap (take (length b)) e ∙ take_at b y (length b) refl, sym (drop_at a x (length b) long) ∙ ap (drop (length b)) e ∙ drop_at b y (length b) refl)
