-- How often a number stands in a list.
use Rattle.std.specs.Prelude.{ℕ, ◌+◌, ◌==◌, if◌then◌else◌, List, [], ◌∷◌}

-- 1 for a number that is the one that is looked for, and 0 for every other
abbrev pub hit : ℕ → ℕ → ℕ
hit x n = if x == n then 1 else 0

-- how often a number stands in a list
abbrev pub times : ℕ → List ℕ → ℕ
times n [] = 0
times n (x ∷ xs) = hit x n + times n xs
