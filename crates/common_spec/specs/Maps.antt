-- Maps of every key, and a change of one at one key.
use Rattle.std.specs.Prelude.{◌≡◌, Bool, true, if◌then◌else◌}

-- the test holds of two keys exactly where they are one
pub record IsEquality {K : Type 0} (is : K → K → Bool) : Type 0 where
  pub itself : (key : K) → is key key ≡ true
  pub same : (key other : K) → is key other ≡ true → key ≡ other

-- the map with this value at one key, which the test tells from the others
abbrev pub set_at : {K V : Type 0} → (K → K → Bool) → (K → V) → K → V → K → V
set_at is map key value other = if is key other then value else map other
