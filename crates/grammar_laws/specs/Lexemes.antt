-- What a text may go on with behind one of its tokens.
use Rattle.std.specs.Prelude.{◌≡◌, ℕ, ◌+◌, not, Bool, true, false, IsTrue, List, [], ◌∷◌, ◌++◌, length, ⊤}
use Rattle.std.specs.List.{AllZip}
use Rattle.schema_spec.specs.declared.token.TokenKind.{TokenKind}
use Rattle.schema_spec.specs.declared.token.TokenKind.TheVariants.{Unclosed}
use Rattle.schema_spec.specs.declared.token.Token.{Token}
use Rattle.schema_spec.specs.Tokens.{first_part, is_token, is_white}
use Rattle.schema_spec.specs.Words.{spelling}
use Rattle.grammar_laws.specs.Misfits.{BeginAlike}

-- a token by its kind and bytes
pub record Lexeme : Type 0 where
  pub kind : TokenKind
  pub bytes : List ℕ

-- nothing, or a space first
abbrev pub Opens : List ℕ → Type 0
Opens [] = ⊤
Opens (b ∷ rest) = b ≡ 32

-- a first byte that is no white space
abbrev pub is_dark : List ℕ → Bool
is_dark [] = false
is_dark (b ∷ bytes) = not (is_white b)

-- before a space or an end the bytes are one token
pub record IsLexeme (lexeme : Lexeme) : Type 0 where
  pub token : IsTrue (is_token lexeme.kind)
  pub dark : IsTrue (is_dark lexeme.bytes)
  pub part : (rest : List ℕ) → Opens rest → first_part (lexeme.bytes ++ rest) ≡ (lexeme.kind, rest)

-- a token that something closes, or that needs no closing
abbrev pub is_whole : TokenKind → Bool
is_whole Unclosed = false
is_whole _ = true

abbrev pub IsClosed : Token → Type 0
IsClosed token = IsTrue (is_whole token.kind)

-- a token of a text is this one, byte for byte
abbrev pub IsSpelled : List ℕ → Lexeme → Token → Type 0
IsSpelled text lexeme token = (token.kind ≡ lexeme.kind) × (spelling text token ≡ lexeme.bytes) × (token.end ≡ token.start + length lexeme.bytes)

-- another text begins alike, and goes on with these tokens, to its end
pub record GoesOn (text : List ℕ) (front behind : List Token) (lexemes : List Lexeme) : Type 0 where
  pub other : List ℕ
  pub tokens : List Token
  pub begin : BeginAlike text other front behind tokens
  pub spelled : AllZip (IsSpelled other) lexemes tokens
