-- Laws of names as keys of maps.
use Rattle.std.proofs.Common.{◌≡◌, ℕ, IsTrue, List, ap}
use Rattle.std.specs.Cmp.Lexicographic.{bytes_decides}
use Rattle.std.specs.Str.{str_to_ascii_lowercase}
use Rattle.schema_spec.specs.Words.{same_name}
use Rattle.schema_read.specs.Names.{hashed_bytes, hashed_name}

-- names that are one are hashed alike
pub hashed-alike : (a b : List ℕ) → IsTrue (same_name a b) → hashed_name a ≡ hashed_name b
hashed-alike a b same = ap hashed_bytes ((bytes_decides (str_to_ascii_lowercase a) (str_to_ascii_lowercase b)).0 same)
