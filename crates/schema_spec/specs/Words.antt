-- Words, names and numbers of an SQL text (SQLite Keywords; Literal Values).
use Rattle.std.specs.Prelude.{ℕ, ◌+◌, ◌-◌, ◌%◌, ◌==◌, ◌&&◌, ◌||◌, not, Bool, true, false, if◌then◌else◌, List, [], ◌∷◌, length, slice_index, slice_range, codes}
use Rattle.std.specs.Char.{is_ascii_digit, is_ascii_hexdigit}
use Rattle.std.specs.List.{list_any, list_all}
use Rattle.std.specs.Str.{str_eq_ignore_ascii_case}
use Rattle.schema_spec.specs.declared.token.TokenKind.TheVariants.{Word, Number, Quoted, Bracketed, Unclosed, Sign}
use Rattle.schema_spec.specs.declared.token.Token.{Token}

-- words that SQLite takes for no name unless they stand in quotes
abbrev pub reserved_words : List (List ℕ)
reserved_words =
    codes "ADD" ∷ codes "ALL" ∷ codes "ALTER" ∷ codes "AND" ∷ codes "AS" ∷ codes "AUTOINCREMENT" ∷ codes "BETWEEN" ∷ codes "CASE" ∷ codes "CHECK" ∷ codes "COLLATE"
    ∷ codes "COMMIT" ∷ codes "CONSTRAINT" ∷ codes "CREATE" ∷ codes "DEFAULT" ∷ codes "DEFERRABLE" ∷ codes "DELETE" ∷ codes "DISTINCT" ∷ codes "DROP" ∷ codes "ELSE"
    ∷ codes "ESCAPE" ∷ codes "EXCEPT" ∷ codes "EXISTS" ∷ codes "FOREIGN" ∷ codes "FROM" ∷ codes "GROUP" ∷ codes "HAVING" ∷ codes "IN" ∷ codes "INDEX" ∷ codes "INSERT"
    ∷ codes "INTERSECT" ∷ codes "INTO" ∷ codes "IS" ∷ codes "ISNULL" ∷ codes "JOIN" ∷ codes "LIMIT" ∷ codes "NOT" ∷ codes "NOTHING" ∷ codes "NOTNULL" ∷ codes "NULL"
    ∷ codes "ON" ∷ codes "OR" ∷ codes "ORDER" ∷ codes "PRIMARY" ∷ codes "REFERENCES" ∷ codes "RETURNING" ∷ codes "SELECT" ∷ codes "SET" ∷ codes "TABLE" ∷ codes "THEN"
    ∷ codes "TO" ∷ codes "TRANSACTION" ∷ codes "UNION" ∷ codes "UNIQUE" ∷ codes "UPDATE" ∷ codes "USING" ∷ codes "VALUES" ∷ codes "WHEN" ∷ codes "WHERE" ∷ []

-- words with which a constraint of a column begins, in the profile or outside of it
abbrev pub constraint_words : List (List ℕ)
constraint_words =
    codes "CONSTRAINT" ∷ codes "PRIMARY" ∷ codes "NOT" ∷ codes "NULL" ∷ codes "UNIQUE" ∷ codes "COLLATE" ∷ codes "DEFAULT" ∷ codes "CHECK" ∷ codes "REFERENCES"
    ∷ codes "GENERATED" ∷ codes "AS" ∷ []

-- words with which a constraint of a table begins
abbrev pub table_constraint_words : List (List ℕ)
table_constraint_words = codes "CONSTRAINT" ∷ codes "PRIMARY" ∷ codes "UNIQUE" ∷ codes "CHECK" ∷ codes "FOREIGN" ∷ []

-- one of the texts, where the case of ASCII letters does not count
abbrev pub is_one_of : List (List ℕ) → List ℕ → Bool
is_one_of words text = list_any (λ word. str_eq_ignore_ascii_case text word) words

-- the bytes of a token
abbrev pub spelling : List ℕ → Token → List ℕ
spelling text token = slice_range text token.start token.end

-- a token is one of the words
abbrev pub is_word_of : List (List ℕ) → List ℕ → Token → Bool
is_word_of words text token = elim token.kind as (λ _. Bool) [ Word ↦ is_one_of words (spelling text token) | _ ↦ false ]

-- a token is the word
abbrev pub is_keyword : List ℕ → List ℕ → Token → Bool
is_keyword word text token = is_word_of (word ∷ []) text token

-- a token is the sign
abbrev pub is_sign : ℕ → List ℕ → Token → Bool
is_sign sign text token = elim token.kind as (λ _. Bool) [ Sign ↦ slice_index text token.start == sign | _ ↦ false ]

-- a name: a word that is not reserved, or what stands in quotes or square brackets
abbrev pub is_name : List ℕ → Token → Bool
is_name text token =
    elim token.kind as (λ _. Bool) [ Word ↦ not (is_one_of reserved_words (spelling text token)) | Quoted ↦ true | Bracketed ↦ true | _ ↦ false ]

-- a text in which each doubled quote stands once
abbrev pub undoubled : ℕ → List ℕ → List ℕ
undoubled quote [] = []
undoubled quote (b ∷ []) = b ∷ []
undoubled quote (b ∷ c ∷ text) = if (b == quote && c == quote) then (b ∷ undoubled quote text) else (b ∷ undoubled quote (c ∷ text))

-- the bytes between the first and the last of a token
abbrev pub inner : List ℕ → Token → List ℕ
inner text token = slice_range text (token.start + 1) (token.end - 1)

-- the name that a token is, without its quotes
abbrev pub name_of : List ℕ → Token → List ℕ
name_of text token =
    elim token.kind as (λ _. List ℕ) [
      | Quoted ↦ undoubled (slice_index text token.start) (inner text token)
      | Bracketed ↦ inner text token
      | _ ↦ spelling text token
    ]

-- two names are one, where the case of ASCII letters does not count
abbrev pub same_name : List ℕ → List ℕ → Bool
same_name = str_eq_ignore_ascii_case

-- a text behind the digits at its front
abbrev pub behind_digits : List ℕ → List ℕ
behind_digits [] = []
behind_digits (b ∷ text) = if is_ascii_digit b then behind_digits text else (b ∷ text)

-- digits, at least one, and nothing else
abbrev pub are_digits : List ℕ → Bool
are_digits [] = false
are_digits (b ∷ text) = list_all is_ascii_digit (b ∷ text)

-- an exponent's digits, behind one sign or none
abbrev pub is_power : List ℕ → Bool
is_power [] = false
is_power (b ∷ text) = if (b == 43 || b == 45) then are_digits text else are_digits (b ∷ text)

-- an exponent or nothing
abbrev pub ends_number : List ℕ → Bool
ends_number [] = true
ends_number (b ∷ text) = (b == 101 || b == 69) && is_power text

-- a point with digits or without, or none, and an exponent or none
abbrev pub is_fraction : List ℕ → Bool
is_fraction [] = true
is_fraction (b ∷ text) = if b == 46 then ends_number (behind_digits text) else ends_number (b ∷ text)

-- what stands behind the first digit of 0x and hexadecimal digits
abbrev pub is_hex : List ℕ → Bool
is_hex [] = false
is_hex (b ∷ []) = false
is_hex (b ∷ c ∷ text) = (b == 120 || b == 88) && list_all is_ascii_hexdigit (c ∷ text)

-- the spelling of a number's token is a number of SQL: digits with one point or none, and an exponent or none; or 0x and hexadecimal digits
abbrev pub is_number : List ℕ → Bool
is_number [] = false
is_number (b ∷ text) = is_fraction (behind_digits (b ∷ text)) || (b == 48 && is_hex text)

-- a token is a number
abbrev pub is_number_token : List ℕ → Token → Bool
is_number_token text token = elim token.kind as (λ _. Bool) [ Number ↦ is_number (spelling text token) | _ ↦ false ]

-- a token of SQL: what is none, as a quote that nothing closes, fits nowhere
abbrev pub is_sql : List ℕ → Token → Bool
is_sql text token = elim token.kind as (λ _. Bool) [ Unclosed ↦ false | Number ↦ is_number (spelling text token) | _ ↦ true ]

-- between the quotes of a token stands an even number of hexadecimal digits
abbrev pub is_hex_content : List ℕ → Token → Bool
is_hex_content text token =
    elim token.kind as (λ _. Bool) [ Quoted ↦ list_all is_ascii_hexdigit (inner text token) && (length (inner text token) % 2 == 0) | _ ↦ false ]

-- the token is X with an even number of hexadecimal digits in single quotes directly behind it
abbrev pub is_blob : List ℕ → Token → Token → Bool
is_blob text x content =
    is_keyword (codes "X") text x && (content.start == x.end) && (slice_index text content.start == 39) && is_hex_content text content

-- a word of a type: any that begins no constraint
abbrev pub is_type_word : List ℕ → Token → Bool
is_type_word text token = elim token.kind as (λ _. Bool) [ Word ↦ not (is_one_of constraint_words (spelling text token)) | _ ↦ false ]

-- a literal or a word, as DEFAULT takes it: a number, what stands in quotes, NULL, or a word that is not reserved
abbrev pub is_literal : List ℕ → Token → Bool
is_literal text token = is_number_token text token || is_keyword (codes "NULL") text token || is_name text token
