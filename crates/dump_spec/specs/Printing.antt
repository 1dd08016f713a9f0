-- How values and rows are printed.
use Rattle.std.specs.Prelude.{ℕ, ℤ, ◌==◌, if◌then◌else◌, List, [], ◌∷◌, ◌++◌, codes}
use Rattle.std.specs.Fmt.{signed_decimal}
use Rattle.std.specs.List.{flat_map}
use Rattle.hex.specs.Hex.{encode_lower}
use Rattle.rbu_value.specs.declared.value.Value.{Value}
use Rattle.rbu_value.specs.declared.value.Value.TheVariants.{Null, Int, Text, Blob}

-- a byte of a text between quotes: a quote is doubled
abbrev pub quoted : ℕ → List ℕ
quoted byte = if byte == 39 then 39 ∷ 39 ∷ [] else byte ∷ []

-- a value: `NULL`, a decimal integer, a text between quotes, or lower-case hexadecimal digits between quotes
abbrev pub value_text : Value → List ℕ
value_text Null = codes "NULL"
value_text (Int number) = signed_decimal number
value_text (Text bytes) = codes "'" ++ (flat_map quoted bytes ++ codes "'")
value_text (Blob bytes) = codes "x'" ++ (encode_lower bytes ++ codes "'")

-- values, with a bar before each
abbrev pub values_text : List Value → List ℕ
values_text = flat_map (λ value. codes "|" ++ value_text value)

-- the line of a row: its rowid and its values, with bars between
abbrev pub row_line : ℤ → List Value → List ℕ
row_line rowid values = signed_decimal rowid ++ (values_text values ++ codes "\n")
