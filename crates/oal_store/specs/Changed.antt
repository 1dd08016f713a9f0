-- A page that was written since the last commit.
use Rattle.std.specs.Prelude.{◌≡◌, ℕ, ◌<◌, ◌≤◌, length, Vec}
use Rattle.std.specs.Global.{Global}

-- its number is up to the count, and it is whole
pub record IsChanged (size count : ℕ) (page : ℕ × Vec ℕ Global) : Type 0 where
  pub first : 0 < page.0
  pub within : page.0 ≤ count
  pub whole : length page.1.items ≡ size
