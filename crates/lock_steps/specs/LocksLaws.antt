-- Which read a reader has open after reads begin and end: crates above cite these facts in their proofs.
use Rattle.std.specs.Prelude.{◌≡◌, ◌≢◌, ℕ, ◌==◌, not, Bool, true, false, Option, Some, None, List, [], ◌∷◌, ◌++◌, filter, find, refl}
use Rattle.std.proofs.Common.{cond, ap, sym, ◌∙◌}
use Rattle.std.proofs.lemmas.Bool.{eqb-true, eq-eqb}
use Rattle.lock_steps.specs.declared.locks.OpenRead.{OpenRead}
use Rattle.lock_steps.specs.Locks.{read_of, without}

-- what is found in two lists, one behind the other
find-append : {X : Type 0} (test : X → Bool) (xs ys : List X) → find test xs ≡ None → find test (xs ++ ys) ≡ find test ys
find-append test [] ys none = refl
find-append {X} test (x ∷ xs) ys none = first (test x) none (find-append test xs ys)
  where
    first : (b : Bool) → cond b (Some x) (find test xs) ≡ None → (find test xs ≡ None → find test (xs ++ ys) ≡ find test ys)
        → cond b (Some x) (find test (xs ++ ys)) ≡ find test ys
    first true none more = absurd (cc)
    first false none more = more none

-- what does not pass in the second of two lists is found in the first or not at all
find-append_none : {X : Type 0} (test : X → Bool) (xs ys : List X) → find test ys ≡ None → find test (xs ++ ys) ≡ find test xs
find-append_none test [] ys none = none
find-append_none {X} test (x ∷ xs) ys none = ap (cond (test x) (Some x)) (find-append_none test xs ys none)

-- what fails a test that all found ones pass is not looked at
find-filter : {X : Type 0} (test keeps : X → Bool) (xs : List X) → ((x : X) → test x ≡ true → keeps x ≡ true) → find test (filter keeps xs) ≡ find test xs
find-filter test keeps [] passes = refl
find-filter {X} test keeps (x ∷ xs) passes = first (keeps x) (test x) refl refl (find-filter test keeps xs passes)
  where
    first : (k b : Bool) → keeps x ≡ k → test x ≡ b → find test (filter keeps xs) ≡ find test xs
        → find test (cond k (x ∷ filter keeps xs) (filter keeps xs)) ≡ cond b (Some x) (find test xs)
    first true b kept is more = ap (λ (c : Bool). cond c (Some x) (find test (filter keeps xs))) is ∙ ap (cond b (Some x)) more
    first false true kept is more = absurd (let k : keeps x ≡ true = passes x is in cc)
    first false false kept is more = more

-- nothing is found among those that fail the test
find-filter_none : {X : Type 0} (test : X → Bool) (xs : List X) → find test (filter (λ x. not (test x)) xs) ≡ None
find-filter_none test [] = refl
find-filter_none {X} test (x ∷ xs) = first (test x) refl (find-filter_none test xs)
  where
    first : (b : Bool) → test x ≡ b → find test (filter (λ y. not (test y)) xs) ≡ None
        → find test (cond (not b) (x ∷ filter (λ y. not (test y)) xs) (filter (λ y. not (test y)) xs)) ≡ None
    first true is more = more
    first false is more = ap (λ (c : Bool). cond c (Some x) (find test (filter (λ y. not (test y)) xs))) is ∙ more

-- a reader whose reads have ended has none open
pub read_of-ended : (reads : List OpenRead) (reader : ℕ) → read_of (without reader reads) reader ≡ None
read_of-ended reads reader = find-filter_none (λ read. read.reader == reader) reads

-- another reader keeps its own
pub read_of-kept : (reads : List OpenRead) (reader other : ℕ) → other ≢ reader → read_of (without reader reads) other ≡ read_of reads other
read_of-kept reads reader other apart =
    find-filter (λ read. read.reader == other) (λ read. not (read.reader == reader)) reads (λ read is. differs (read.reader == reader)
    (λ same. apart (sym (eqb-true read.reader other is) ∙ eqb-true read.reader reader same)))
  where
    differs : (b : Bool) → (b ≡ true → ⊥) → not b ≡ true
    differs true never = absurd (never refl)
    differs false never = refl

-- a reader that had no read open has the one that it begins
pub read_of-begun : (reads : List OpenRead) (read : OpenRead) → read_of reads read.reader ≡ None → read_of (reads ++ read ∷ []) read.reader ≡ Some read
read_of-begun reads read none =
    find-append (λ other. other.reader == read.reader) reads (read ∷ []) none
    ∙ ap (λ (b : Bool). cond b (Some read) None) (eq-eqb read.reader read.reader refl)

-- and every other has its own
pub read_of-others : (reads : List OpenRead) (read : OpenRead) (other : ℕ) → other ≢ read.reader → read_of (reads ++ read ∷ []) other ≡ read_of reads other
read_of-others reads read other apart = find-append_none (λ r. r.reader == other) reads (read ∷ []) (first (read.reader == other) refl)
  where
    first : (b : Bool) → (read.reader == other) ≡ b → cond b (Some read) None ≡ None
    first true same = absurd (apart (sym (eqb-true read.reader other same)))
    first false same = refl
