-- Texts that are numbers (Datatypes In SQLite, section 3; SQL Language Expressions, section 3, "Literal Values").
use Rattle.std.specs.Prelude.{◌≡◌, ℕ, ◌==◌, ◌<◌, Bool, ◌||◌, IsTrue, List, [], ◌∷◌, ◌++◌, ◌⊎◌, length}
use Rattle.std.specs.Int.{is_in_range}
use Rattle.std.specs.Char.{is_ascii_digit}
use Rattle.std.specs.List.{list_all}

-- white space: the bytes 9 to 13, and 32
abbrev pub is_space : ℕ → Bool
is_space b = is_in_range 9 13 b || (b == 32)

-- the bytes + and -
abbrev pub is_sign : ℕ → Bool
is_sign b = (b == 43) || (b == 45)

-- the bytes e and E
abbrev pub is_exponent_letter : ℕ → Bool
is_exponent_letter b = (b == 101) || (b == 69)

-- one sign or none
abbrev pub IsOptionalSign : List ℕ → Type 0
IsOptionalSign sign = (sign ≡ []) ⊎ ((byte : ℕ) × IsTrue (is_sign byte) × (sign ≡ byte ∷ []))

-- digits, at least one, with at most one point before, among or behind them
pub record IsDecimal (text : List ℕ) : Type 0 where
  pub whole : List ℕ
  pub fraction : List ℕ
  pub digits : IsTrue (list_all is_ascii_digit (whole ++ fraction))
  pub some : 0 < length (whole ++ fraction)
  pub spelled : (text ≡ whole ++ fraction) ⊎ (text ≡ whole ++ (46 ∷ fraction))

-- e or E, one sign or none, and at least one digit
pub record IsExponent (text : List ℕ) : Type 0 where
  pub letter : ℕ
  pub sign : List ℕ
  pub power : List ℕ
  pub e : IsTrue (is_exponent_letter letter)
  pub signed : IsOptionalSign sign
  pub digits : IsTrue (list_all is_ascii_digit power)
  pub some : 0 < length power
  pub spelled : text ≡ letter ∷ (sign ++ power)

-- one exponent or none
abbrev pub IsOptionalExponent : List ℕ → Type 0
IsOptionalExponent text = (text ≡ []) ⊎ IsExponent text

-- A text is a number: white space, a sign or none, a decimal, an exponent or none, and white space (Datatypes In SQLite, section 3). The documents name neither the sign nor the white space, which SQLite takes.
pub record IsNumericText (text : List ℕ) : Type 0 where
  pub before : List ℕ
  pub sign : List ℕ
  pub decimal : List ℕ
  pub exponent : List ℕ
  pub after : List ℕ
  pub whole : text ≡ before ++ (sign ++ (decimal ++ (exponent ++ after)))
  pub spaces_before : IsTrue (list_all is_space before)
  pub signed : IsOptionalSign sign
  pub number : IsDecimal decimal
  pub power : IsOptionalExponent exponent
  pub spaces_after : IsTrue (list_all is_space after)
