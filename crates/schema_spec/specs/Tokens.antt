-- The tokens of an SQL text (SQL Comment Syntax; SQLite Keywords; Literal Values).
use Rattle.std.specs.Prelude.{◌≡◌, ◌≢◌, ℕ, zero, suc, ◌-◌, ◌==◌, nat_le, ◌&&◌, ◌||◌, not, Bool, true, false, if◌then◌else◌, List, [], ◌∷◌, length, filter, get_or, Option, Some, None}
use Rattle.std.specs.Char.{is_ascii_digit, is_ascii_alphanumeric}
use Rattle.schema_spec.specs.declared.token.TokenKind.{TokenKind}
use Rattle.schema_spec.specs.declared.token.TokenKind.TheVariants.{Space, LineComment, BlockComment, Word, Number, Quoted, Bracketed, Unclosed, Sign}
use Rattle.schema_spec.specs.declared.token.Token.{Token}

-- white space
unfoldable pub is_white : ℕ → Bool
is_white b = b == 32 || (nat_le 9 b && nat_le b 13)

-- a byte of a word: a letter, a digit, `_`, `$`, or one from 128 on
unfoldable pub is_word_byte : ℕ → Bool
is_word_byte b = is_ascii_alphanumeric b || b == 95 || b == 36 || nat_le 128 b

-- a quote that stands doubled for one: `"`, a back quote or `'`
unfoldable pub is_quote : ℕ → Bool
is_quote b = b == 34 || b == 96 || b == 39

-- a number begins with a digit, or a point and a digit
unfoldable pub begins_number : ℕ → ℕ → Bool
begins_number b next = is_ascii_digit b || (b == 46 && is_ascii_digit next)

-- what begins at a byte, before the next one
abbrev pub opening : ℕ → ℕ → TokenKind
opening b next =
    if is_white b then Space else (if b == 45 && next == 45 then LineComment else (if b == 47 && next == 42 then BlockComment
    else (if is_quote b then Quoted else (if b == 91 then Bracketed else (if begins_number b next then Number else (if is_word_byte b then Word else Sign))))))

-- a part of this kind goes on with a byte, behind the byte before: a line comment up to a new line, a block comment up to the `/` of `*/`, a number by a sign only behind an `e`
abbrev pub goes_on : TokenKind → ℕ → ℕ → Bool
goes_on Space before b = is_white b
goes_on LineComment before b = not (b == 10)
goes_on BlockComment before b = not (before == 42 && b == 47)
goes_on Word before b = is_word_byte b
goes_on Number before b = is_word_byte b || b == 46 || ((b == 43 || b == 45) && (before == 101 || before == 69))
goes_on Bracketed before b = not (b == 93)
goes_on _ before b = false

-- what is left of a text behind all bytes at its front by which a part goes on
abbrev pub past : (ℕ → ℕ → Bool) → ℕ → List ℕ → List ℕ
past p before [] = []
past p before (b ∷ text) = if p before b then past p b text else (b ∷ text)

-- what is left behind the quote that closes, which is the first that no second one follows; nothing closes a text without
abbrev pub past_quoted : ℕ → List ℕ → Option (List ℕ)
past_quoted quote [] = None
past_quoted quote (b ∷ []) = if b == quote then Some [] else None
past_quoted quote (b ∷ c ∷ text) = if b == quote then (if c == quote then past_quoted quote text else Some (c ∷ text)) else past_quoted quote (c ∷ text)

-- a text without its first byte, which closes it
abbrev pub behind_close : List ℕ → Option (List ℕ)
behind_close [] = None
behind_close (b ∷ text) = Some text

-- a text without its first byte, or an empty one
abbrev pub behind_first : List ℕ → List ℕ
behind_first [] = []
behind_first (b ∷ text) = text

-- what is closed has its kind, and what nothing closes takes all of the text
abbrev pub closed : TokenKind → Option (List ℕ) → TokenKind × List ℕ
closed kind None = (Unclosed, [])
closed kind (Some rest) = (kind, rest)

-- the part of a kind that begins at a byte, and what is left behind it
abbrev pub part_of : TokenKind → ℕ → List ℕ → TokenKind × List ℕ
part_of Quoted b text = closed Quoted (past_quoted b text)
part_of Bracketed b text = closed Bracketed (behind_close (past (goes_on Bracketed) b text))
part_of BlockComment b text = (BlockComment, behind_first (past (goes_on BlockComment) 0 (behind_first text)))
part_of kind b text = (kind, past (goes_on kind) b text)

-- the part at the front of a text, and what is left behind it
abbrev pub first_part : List ℕ → TokenKind × List ℕ
first_part [] = (Sign, [])
first_part (b ∷ text) = part_of (opening b (get_or text 0 0)) b text

-- the parts of what is left of a text of so many bytes, one behind the other, each with its places in the whole text
abbrev pub AreParts : ℕ → List ℕ → List Token → Type 0
AreParts size left [] = left ≡ []
AreParts size left (part ∷ parts) =
    let first = first_part left in
    (left ≢ []) × (part.kind ≡ first.0) × (part.start ≡ size - length left) × (part.end ≡ size - length first.1) × AreParts size first.1 parts

-- white space and comments separate
abbrev pub is_token : TokenKind → Bool
is_token Space = false
is_token LineComment = false
is_token BlockComment = false
is_token _ = true

-- the tokens of a text: its parts without those that separate
abbrev pub AreTokens : List ℕ → List Token → Type 0
AreTokens text tokens = (parts : List Token) × AreParts (length text) text parts × (tokens ≡ filter (λ part. is_token part.kind) parts)

-- the parts of what is left of a text of so many bytes, at most so many: no text has more parts than bytes
abbrev pub parts_of : ℕ → ℕ → List ℕ → List Token
parts_of zero size left = []
parts_of (suc n) size [] = []
parts_of (suc n) size (b ∷ text) =
    let first = first_part (b ∷ text) in
    record { kind = first.0; start = size - length (b ∷ text); end = size - length first.1 } ∷ parts_of n size first.1

-- the tokens of a text, computed
abbrev pub tokens_of : List ℕ → List Token
tokens_of text = filter (λ part. is_token part.kind) (parts_of (length text) (length text) text)
