-- Names as keys of maps.
use Rattle.std.specs.Prelude.{ℕ, List, [], ◌∷◌}
use Rattle.std.specs.Str.{str_to_ascii_lowercase}

-- bytes that a hasher is fed one by one, and an end, so that names of a pair stay apart
abbrev pub hashed_bytes : List ℕ → List (List ℕ)
hashed_bytes [] = (255 ∷ []) ∷ []
hashed_bytes (b ∷ bytes) = (b ∷ []) ∷ hashed_bytes bytes

-- what a hasher is fed of a name
abbrev pub hashed_name : List ℕ → List (List ℕ)
hashed_name name = hashed_bytes (str_to_ascii_lowercase name)
