-- What the tries of a claim found.
use Rattle.std.specs.Prelude.{◌≡◌, ℕ, ◌%◌, ◌<◌, List, [], ◌∷◌, ◌++◌, length, slice_index}
use Rattle.std.specs.Int.{bit_at}

-- the words that tries at the frames 0 to n - 1 found, where each bit stood
pub record Stood (n : ℕ) (found : List ℕ) : Type 0 where
  pub count : length found ≡ n
  pub stood : (k : ℕ) → k < n → bit_at (slice_index found k) (k % 64) ≡ 1

-- the tries go on by one at the frame k, whose bit was this
abbrev pub TriesOne : List ℕ → List ℕ → ℕ → ℕ → Type 0
TriesOne before after k bit = (r : ℕ) × (after ≡ before ++ r ∷ []) × (bit_at r (k % 64) ≡ bit)

-- the tries go on by those at the frames 0 to k, of which the last found a bit that did not stand
abbrev pub Wins : List ℕ → List ℕ → ℕ → Type 0
Wins before after k = (found : List ℕ) × (r : ℕ) × (after ≡ before ++ found ++ r ∷ []) × Stood k found × (bit_at r (k % 64) ≡ 0)

-- the tries go on by those at the frames 0 to n - 1, at each of which the bit stood
abbrev pub Loses : List ℕ → List ℕ → ℕ → Type 0
Loses before after n = (found : List ℕ) × (after ≡ before ++ found) × Stood n found
