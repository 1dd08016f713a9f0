-- Variable-length integers (Database File Format, section 1.6).
use Rattle.std.specs.Prelude.{◌≡◌, ℕ, zero, suc, ◌+◌, ◌-◌, ◌*◌, ◌/◌, ◌%◌, ◌^◌, ◌<◌, ◌≤◌, ◌==◌, nat_lt, if◌then◌else◌, List, [], ◌∷◌, ◌++◌, length}
use Rattle.std.specs.List.{AllByRecursion}

-- the number in the low seven bits of each byte, the most significant byte first
abbrev pub groups_value : List ℕ → ℕ
groups_value [] = 0
groups_value (b ∷ bs) = (b - 128) * 128 ^ length bs + groups_value bs

-- how many values the last byte has, after so many bytes: seven bits, and eight in the ninth byte
abbrev pub last_weight : ℕ → ℕ
last_weight before = if before == 8 then 256 else 128

-- the byte has its high bit set
abbrev pub HasHighBit : ℕ → Type 0
HasHighBit b = (128 ≤ b) × (b < 256)

-- The bytes spell the number: one to nine bytes, of which all but the last have their high bit set, and all but a ninth give seven bits. Longer spellings than the shortest one count too.
pub record IsVarint (bytes : List ℕ) (value : ℕ) : Type 0 where
  pub front : List ℕ
  pub last : ℕ
  pub whole : bytes ≡ front ++ last ∷ []
  pub at_most_nine : length front ≤ 8
  pub high : AllByRecursion HasHighBit front
  pub low : last < last_weight (length front)
  pub sum : value ≡ groups_value front * last_weight (length front) + last

-- the lowest n groups of seven bits of a number, the most significant first, each in a byte with its high bit set
abbrev pub groups : ℕ → ℕ → List ℕ
groups zero x = []
groups (suc n) x = (128 + x / 128 ^ n % 128) ∷ groups n x

-- how many bytes the shortest spelling has before its last one
unfoldable pub varint_front : ℕ → ℕ
varint_front x =
    if nat_lt x (2 ^ 7) then 0 else if nat_lt x (2 ^ 14) then 1 else if nat_lt x (2 ^ 21) then 2
    else if nat_lt x (2 ^ 28) then 3 else if nat_lt x (2 ^ 35) then 4 else if nat_lt x (2 ^ 42) then 5
    else if nat_lt x (2 ^ 49) then 6 else if nat_lt x (2 ^ 56) then 7 else 8

-- the shortest spelling of a number below 2 ^ 64
unfoldable pub varint : ℕ → List ℕ
varint x =
    let before = varint_front x in
    let weight = last_weight before in
    groups before (x / weight) ++ x % weight ∷ []
