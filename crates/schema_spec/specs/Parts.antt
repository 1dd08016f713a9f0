-- What the parts of a text look like, apart from how they are found.
use Rattle.std.specs.Prelude.{◌≡◌, ℕ, ◌==◌, Bool, if◌then◌else◌, IsTrue, IsFalse, ⊤, ◌⊎◌, List, [], ◌∷◌, ◌++◌}

-- the bytes pass, each behind the one before, and the first of the rest does not
abbrev pub IsRun : (ℕ → ℕ → Bool) → ℕ → List ℕ → List ℕ → Type 0
IsRun p before [] [] = ⊤
IsRun p before [] (b ∷ rest) = IsFalse (p before b)
IsRun p before (b ∷ run) rest = IsTrue (p before b) × IsRun p b run rest

-- a text in quotes: each quote in it stands doubled
abbrev pub doubled : ℕ → List ℕ → List ℕ
doubled quote [] = []
doubled quote (b ∷ text) = if b == quote then (quote ∷ quote ∷ doubled quote text) else (b ∷ doubled quote text)

-- a text does not begin with the quote
abbrev pub NotFirst : ℕ → List ℕ → Type 0
NotFirst quote [] = ⊤
NotFirst quote (b ∷ text) = IsFalse (b == quote)

-- a text behind a quote is closed, or each quote in it stands doubled
abbrev pub IsClosedOrNot : ℕ → List ℕ → Type 0
IsClosedOrNot quote text =
    ((content : List ℕ) × (rest : List ℕ) × (text ≡ doubled quote content ++ (quote ∷ rest)) × NotFirst quote rest)
    ⊎ ((content : List ℕ) × (text ≡ doubled quote content))
