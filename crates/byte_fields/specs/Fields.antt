-- Several numbers written at their places.
use Rattle.std.specs.Prelude.{ℕ, ◌+◌, ◌^◌, ◌<◌, ◌≤◌, ◌==◌, ◌&&◌, ◌||◌, nat_le, if◌then◌else◌, List, [], ◌∷◌}
use Rattle.byte_fields.specs.Numbers.{number_at, with_number_at}

-- a number for the bytes at a place
pub record Field : Type 0 where
  pub at : ℕ
  pub size : ℕ
  pub value : ℕ

-- several numbers written, the last of the list first
abbrev pub with_fields : List Field → List ℕ → List ℕ
with_fields [] bytes = bytes
with_fields (f ∷ fs) bytes = with_number_at f.at f.size f.value (with_fields fs bytes)

-- each field's number fits its size
abbrev pub AllFit : List Field → Type 0
AllFit [] = Unit {0}
AllFit (f ∷ fs) = (f.value < 256 ^ f.size) × AllFit fs

-- each field begins at a place or behind it
abbrev pub AllFrom : ℕ → List Field → Type 0
AllFrom m [] = Unit {0}
AllFrom m (f ∷ fs) = (m ≤ f.at) × AllFrom m fs

-- each field ends at a place or in front of it
abbrev pub AllUpTo : ℕ → List Field → Type 0
AllUpTo m [] = Unit {0}
AllUpTo m (f ∷ fs) = (f.at + f.size ≤ m) × AllUpTo m fs

-- the number at a place after several are written, as far as no two of them overlap
abbrev pub number_of : ℕ → ℕ → List Field → List ℕ → ℕ
number_of place size [] bytes = number_at place size bytes
number_of place size (f ∷ fs) bytes =
    if (f.at == place) && (f.size == size) then f.value
    else if nat_le (place + size) f.at || nat_le (f.at + f.size) place then number_of place size fs bytes
    else number_at place size (with_fields (f ∷ fs) bytes)
