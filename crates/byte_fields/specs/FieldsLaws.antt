-- What several numbers leave of the bytes that they are written over: crates above cite these facts in their proofs.
use Rattle.std.proofs.Common.{◌≡◌, ℕ, ◌+◌, ◌≤◌, ◌⊎◌, ◌==◌, ◌&&◌, ◌||◌, nat_le, if◌then◌else◌, Bool, true, false, List, [], ◌∷◌, length, take, drop, refl, sym, ap₂, ◌∙◌, inl, inr, arith}
use Rattle.std.proofs.lemmas.Bool.{cases_lt}
use Rattle.std.proofs.lemmas.Bool.Decides.{nat_tests}
use Rattle.byte_fields.specs.Numbers.{number_at}
use Rattle.byte_fields.specs.NumbersLaws.{length-with_number_at, number_at-written, number_at-apart, take-with_number_at, drop-with_number_at}
use Rattle.byte_fields.specs.Fields.{Field, with_fields, AllFit, AllFrom, AllUpTo, number_of}

-- the length stays
pub length-with_fields : (fs : List Field) (bytes : List ℕ) → AllUpTo (length bytes) fs → length (with_fields fs bytes) ≡ length bytes
length-with_fields [] bytes inside = refl
length-with_fields (f ∷ fs) bytes inside =
    let rest = length-with_fields fs bytes inside.1 in
    length-with_number_at f.at f.size f.value (with_fields fs bytes) (omega (arith, inside.0, rest)) ∙ rest

-- a value that each of two tests tells
chosen : (b c : Bool) (l x y : ℕ) → (b ≡ true → l ≡ x) → (c ≡ true → l ≡ y) → l ≡ (if b then x else if c then y else l)
chosen true c l x y one other = one refl
chosen false true l x y one other = other refl
chosen false false l x y one other = refl

both_equal : (a b c d : ℕ) → ((a == b) && (c == d)) ≡ true → (a ≡ b) × (c ≡ d)
both_equal a b c d test = (grind (arith, nat_tests), grind (arith, nat_tests))

one_below : (a b c d : ℕ) → (nat_le a b || nat_le c d) ≡ true → (a ≤ b) ⊎ (c ≤ d)
one_below a b c d test =
    elim (cases_lt b a) [
      | inl above ↦ elim (cases_lt d c) [ inl other ↦ absurd (grind (arith, nat_tests)) | inr below ↦ inr below ]
      | inr below ↦ inl below
    ]

-- the number at a place after several are written
pub number_at-with_fields : (place size : ℕ) (fs : List Field) (bytes : List ℕ) → AllUpTo (length bytes) fs → AllFit fs
    → number_at place size (with_fields fs bytes) ≡ number_of place size fs bytes
number_at-with_fields place size [] bytes inside fit = refl
number_at-with_fields place size (f ∷ fs) bytes inside fit =
    let room : f.at + f.size ≤ length (with_fields fs bytes) = omega (arith, inside.0, length-with_fields fs bytes inside.1) in
    chosen ((f.at == place) && (f.size == size)) (nat_le (place + size) f.at || nat_le (f.at + f.size) place)
    (number_at place size (with_fields (f ∷ fs) bytes)) f.value (number_of place size fs bytes)
    (λ test.
    let same = both_equal f.at place f.size size test in
    ap₂ (λ (a n : ℕ). number_at a n (with_fields (f ∷ fs) bytes)) (sym same.0) (sym same.1)
    ∙ number_at-written f.at f.size f.value (with_fields fs bytes) room fit.0)
    (λ test.
    number_at-apart f.at f.size f.value place size (with_fields fs bytes) room (one_below (place + size) f.at (f.at + f.size) place test)
    ∙ number_at-with_fields place size fs bytes inside.1 fit.1)

-- the bytes in front of several numbers, and those behind them, stay
pub take-with_fields : (m : ℕ) (fs : List Field) (bytes : List ℕ) → AllUpTo (length bytes) fs → AllFrom m fs → take m (with_fields fs bytes) ≡ take m bytes
take-with_fields m [] bytes inside from = refl
take-with_fields m (f ∷ fs) bytes inside from =
    take-with_number_at f.at f.size f.value m (with_fields fs bytes) (omega (arith, inside.0, length-with_fields fs bytes inside.1)) from.0
    ∙ take-with_fields m fs bytes inside.1 from.1

pub drop-with_fields : (m : ℕ) (fs : List Field) (bytes : List ℕ) → AllUpTo (length bytes) fs → AllUpTo m fs → drop m (with_fields fs bytes) ≡ drop m bytes
drop-with_fields m [] bytes inside up_to = refl
drop-with_fields m (f ∷ fs) bytes inside up_to =
    drop-with_number_at f.at f.size f.value m (with_fields fs bytes) (omega (arith, inside.0, length-with_fields fs bytes inside.1)) up_to.0
    ∙ drop-with_fields m fs bytes inside.1 up_to.1
