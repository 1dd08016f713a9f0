-- One answer that has what a reader promises is the only one: crates above cite these facts in their proofs.
use Rattle.std.specs.Prelude.{◌≡◌, ℕ, ◌<◌, ◌⊎◌, Option, Some, None, Result, Ok, Err, IfSome, IfOk, IfErr, refl}
use Rattle.std.proofs.Common.{ap, arith, inl, inr}
use Rattle.std.proofs.lemmas.Bool.{cases_lt}
use Rattle.common_spec.specs.Reading.{Reads, OrNone, OrFault, IsFirst, ReadsOrWants}

-- two that have P are one
abbrev pub IsOne : {A : Type 0} → (A → Type 0) → Type 0
IsOne {A} P = (a b : A) → P a → P b → a ≡ b

-- an answer that has P, of which there is one
pub Reads-one : {A : Type 0} (P : A → Type 0) (answer : A) → IsOne P → P answer → Reads P answer
Reads-one P answer one holds = record { holds = holds; only = λ other has. one answer other holds has }

-- nothing, or one thing
pub OrNone-one : {A : Type 0} (P : A → Type 0) → IsOne P → IsOne (OrNone P)
OrNone-one P one (Some a) (Some b) p q = ap Some (one a b p q)
OrNone-one P one (Some a) None p none = absurd (none a p)
OrNone-one P one None (Some b) none q = absurd (none b q)
OrNone-one P one None None none also = refl

-- one thing or one fault, and never both
pub OrFault-one : {A E : Type 0} (P : A → Type 0) (F : E → Type 0) → IsOne P → IsOne F → ((found : A) (fault : E) → P found → ¬ F fault) → IsOne (OrFault P F)
OrFault-one P F one one_fault apart (Ok a) (Ok b) p q = ap Ok (one a b p q)
OrFault-one P F one one_fault apart (Ok a) (Err f) p q = absurd (apart a f p q)
OrFault-one P F one one_fault apart (Err e) (Ok b) p q = absurd (apart b e q p)
OrFault-one P F one one_fault apart (Err e) (Err f) p q = ap Err (one_fault e f p q)

-- one fault is the first, where two faults that hold in one place of the order are one
pub IsFirst-one : {E : Type 0} (order : E → ℕ) (F : E → Type 0) → ((f g : E) → F f → F g → order f ≡ order g → f ≡ g) → IsOne (IsFirst order F)
IsFirst-one order F one f g has also =
    elim (cases_lt (order f) (order g)) [
      | inl before ↦ absurd (also.first f before has.holds)
      | inr not_before ↦ elim (cases_lt (order g) (order f)) [
        | inl before ↦ absurd (has.first g before also.holds)
        | inr not_behind ↦ one f g has.holds also.holds (omega arith)
      ]
    ]

-- what is found has P, and whatever has P is found
pub OrNone-reads : {A : Type 0} (P : A → Type 0) (answer : Option A) → IfSome answer P → ((found : A) → P found → answer ≡ Some found) → Reads (OrNone P) answer
OrNone-reads {A} P (Some a) found only = record { holds = found; only = others }
  where
    others : (other : Option A) → OrNone P other → Some a ≡ other
    others (Some b) has = only b has
    others None none = absurd (none a found)
OrNone-reads {A} P None found only = record { holds = λ b has. let e : None ≡ Some b = only b has in absurd (cc); only = others }
  where
    others : (other : Option A) → OrNone P other → None ≡ other
    others (Some b) has = only b has
    others None none = refl

-- what is found has P and a fault has F, and whatever has either is the answer
pub OrFault-reads : {A E : Type 0} (P : A → Type 0) (F : E → Type 0) (answer : Result A E) → OrFault P F answer
    → ((found : A) → P found → answer ≡ Ok found) → ((fault : E) → F fault → answer ≡ Err fault) → Reads (OrFault P F) answer
OrFault-reads {A} {E} P F answer holds only only_fault = record { holds = holds; only = others }
  where
    others : (other : Result A E) → OrFault P F other → answer ≡ other
    others (Ok b) has = only b has
    others (Err fault) has = only_fault fault has

-- what was read has P or is want of memory, and there is one answer that has P
pub ReadsOrWants-one : {A B E : Type 0} (seen : A → B) (IsMemory : E → Type 0) (P : Result B E → Type 0) (answer : Result A E) → IsOne P
    → IfOk answer (λ found. P (Ok (seen found))) → IfErr answer (λ fault. IsMemory fault ⊎ P (Err fault)) → ReadsOrWants seen IsMemory P answer
ReadsOrWants-one seen IsMemory P (Ok found) one holds fault = Reads-one P (Ok (seen found)) one holds
ReadsOrWants-one seen IsMemory P (Err e) one holds (inl memory) = inl memory
ReadsOrWants-one seen IsMemory P (Err e) one holds (inr fault) = inr (Reads-one P (Err e) one fault)
