-- Lists that are compared by their length, and numbers that are counted in lists.
use Rattle.std.specs.Prelude.{ℕ, zero, suc, ◌+◌, ◌==◌, ltb, if◌then◌else◌, List, [], ◌∷◌, length}

-- how often a number stands in a list
abbrev pub times : ℕ → List ℕ → ℕ
times k [] = 0
times k (x ∷ xs) = (if x == k then 1 else 0) + times k xs

-- how often a number stands among those below n: once, or not at all
abbrev pub once_below : ℕ → ℕ → ℕ
once_below k zero = 0
once_below k (suc n) = once_below k n + (if n == k then 1 else 0)

-- f of each, added up
abbrev pub total : {A : Type 0} → (A → ℕ) → List A → ℕ
total f [] = 0
total f (x ∷ xs) = f x + total f xs

-- the longer of two lists, or the first where they are equally long
abbrev pub longer : {E : Type 0} → List E → List E → List E
longer xs ys = if ltb (length xs) (length ys) then ys else xs

-- the other one
abbrev pub shorter : {E : Type 0} → List E → List E → List E
shorter xs ys = if ltb (length xs) (length ys) then xs else ys
