-- How the parts of a number are taken off the front of a text. What a number is stands in `NumericText`.
use Rattle.std.specs.Prelude.{◌≡◌, ℕ, ◌==◌, Bool, ◌||◌, IsFalse, ⊤, if◌then◌else◌, List, [], ◌∷◌, ◌++◌}
use Rattle.std.specs.Char.{is_ascii_digit}
use Rattle.rbu_value.specs.NumericText.{is_exponent_letter}

-- a text without the bytes at its front that pass
abbrev pub skip_while : (ℕ → Bool) → List ℕ → List ℕ
skip_while p [] = []
skip_while p (b ∷ bs) = if p b then skip_while p bs else (b ∷ bs)

-- a text without its first byte, where this passes
abbrev pub skip_one : (ℕ → Bool) → List ℕ → List ℕ
skip_one p [] = []
skip_one p (b ∷ bs) = if p b then bs else (b ∷ bs)

-- a text that does not begin with a byte that passes
abbrev pub Stops : (ℕ → Bool) → List ℕ → Type 0
Stops p [] = ⊤
Stops p (b ∷ bs) = IsFalse (p b)

-- what is left of a text behind a front of this form
abbrev pub Behind : (List ℕ → Type 0) → List ℕ → List ℕ → Type 0
Behind Form text rest = (front : List ℕ) × Form front × (text ≡ front ++ rest)

-- the rest of a text behind a front of this form, and the only one that ends such a front
pub record TakesOff (Form Ends : List ℕ → Type 0) (text rest : List ℕ) : Type 0 where
  pub front : Behind Form text rest
  pub only : (other : List ℕ) → Behind Form text other → Ends other → rest ≡ other

-- a decimal ends before what is neither a digit nor a point
abbrev pub EndsDecimal : List ℕ → Type 0
EndsDecimal = Stops (λ b. is_ascii_digit b || (b == 46))

-- an exponent, or none, ends before what is neither a digit nor the letter of an exponent
abbrev pub EndsExponent : List ℕ → Type 0
EndsExponent = Stops (λ b. is_ascii_digit b || is_exponent_letter b)
