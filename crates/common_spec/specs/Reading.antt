-- What the answer of a reader says of what it reads.
use Rattle.std.specs.Prelude.{◌≡◌, ℕ, ◌<◌, ◌⊎◌, Option, Some, None, Result, Ok, Err}

-- what is answered has P, and whatever has P is the answer
pub record Reads {A : Type 0} (P : A → Type 0) (answer : A) : Type 0 where
  pub holds : P answer
  pub only : (other : A) → P other → answer ≡ other

-- something that has P, or nothing where nothing has P
abbrev pub OrNone : {A : Type 0} → (A → Type 0) → Option A → Type 0
OrNone {A} P (Some found) = P found
OrNone {A} P None = (found : A) → ¬ P found

-- something that has P, or a fault that has F
abbrev pub OrFault : {A E : Type 0} → (A → Type 0) → (E → Type 0) → Result A E → Type 0
OrFault P F (Ok found) = P found
OrFault P F (Err fault) = F fault

-- the fault has F, and no fault before it in the order has
pub record IsFirst {E : Type 0} (order : E → ℕ) (F : E → Type 0) (fault : E) : Type 0 where
  pub holds : F fault
  pub first : (other : E) → order other < order fault → ¬ F other

-- A reader that takes memory, whose answer is seen as its model. Where memory is wanting nothing is said of what is read.
abbrev pub ReadsOrWants : {A B E : Type 0} → (A → B) → (E → Type 0) → (Result B E → Type 0) → Result A E → Type 0
ReadsOrWants seen IsMemory P (Ok found) = Reads P (Ok (seen found))
ReadsOrWants seen IsMemory P (Err fault) = IsMemory fault ⊎ Reads P (Err fault)
