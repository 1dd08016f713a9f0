-- Counts of open reads.
use Rattle.std.proofs.Common.{◌≡◌, ℕ, ◌+◌, ◌≤◌, ◌==◌, Bool, true, false, not, cond, List, [], ◌∷◌, count_by, filter, arith}
use Rattle.std.proofs.lemmas.List.Sums.{sum_by-cons}
use Rattle.lock_steps.specs.declared.locks.OpenRead.{OpenRead}
use Rattle.lock_steps.specs.Locks.{direct_count, is_direct, without}

-- one more in front
count_by-cons : {X : Type 0} (p : X → Bool) (x : X) (xs : List X) → count_by p (x ∷ xs) ≡ cond (p x) 1 0 + count_by p xs
count_by-cons p x xs = sum_by-cons (λ y. cond (p y) 1 0) x xs

-- fewer pass a test among those that pass another
count_by-le-filter : {X : Type 0} (p q : X → Bool) (xs : List X) → count_by p (filter q xs) ≤ count_by p xs
count_by-le-filter p q [] = omega arith
count_by-le-filter {X} p q (x ∷ xs) = one_more (q x) (count_by-le-filter p q xs)
  where
    one_more : (b : Bool) → count_by p (filter q xs) ≤ count_by p xs → count_by p (cond b (x ∷ filter q xs) (filter q xs)) ≤ count_by p (x ∷ xs)
    one_more true more = omega (arith, count_by-cons p x xs, count_by-cons p x (filter q xs))
    one_more false more = omega (arith, count_by-cons p x xs)

-- where no read holds SHARED, none does among those that are left
pub direct_count-without : (reader : ℕ) (reads : List OpenRead) → direct_count reads ≡ 0 → direct_count (without reader reads) ≡ 0
direct_count-without reader reads none = omega (arith, count_by-le-filter is_direct (λ read. not (read.reader == reader)) reads)
