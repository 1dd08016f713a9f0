-- Lists of the numbers of frames that are claimed.
use Rattle.std.specs.Prelude.{Bool, true, false, ◌≡◌, ◌⊎◌, zero, suc, ℕ, ◌<◌, ◌==◌, List, [], ◌∷◌, ◌++◌, if◌then◌else◌}
use Rattle.std.specs.List.{list_any}

-- the list has the number
abbrev pub Has : List ℕ → ℕ → Type 0
Has [] k = ⊥
Has (x ∷ xs) k = (x ≡ k) ⊎ Has xs k

-- the list has each number below n
abbrev pub HasAll : List ℕ → ℕ → Type 0
HasAll xs n = (k : ℕ) → k < n → Has xs k

-- the list without a number
abbrev pub without : ℕ → List ℕ → List ℕ
without k [] = []
without k (x ∷ xs) = if x == k then without k xs else (x ∷ without k xs)

-- no number stands in the list twice
abbrev pub is_once : List ℕ → Bool
is_once [] = true
is_once (x ∷ xs) = if list_any (λ y. y == x) xs then false else is_once xs

-- the numbers below n that the list lacks, in order
abbrev pub lacking : List ℕ → ℕ → List ℕ
lacking xs zero = []
lacking xs (suc n) = lacking xs n ++ (if list_any (λ x. x == n) xs then [] else (n ∷ []))
