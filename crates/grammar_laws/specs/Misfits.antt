-- Texts with the same tokens at their front.
use Rattle.std.specs.Prelude.{◌≡◌, ℕ, List, [], ◌∷◌, ◌++◌, take}
use Rattle.schema_spec.specs.declared.token.Token.{Token}
use Rattle.schema_spec.specs.Tokens.{tokens_of}

-- the byte behind the last of some tokens, which is the first of all where there is none
abbrev pub end_of : List Token → ℕ
end_of [] = 0
end_of (token ∷ []) = token.end
end_of (token ∷ next ∷ tokens) = end_of (next ∷ tokens)

-- two texts begin with these tokens, and have the same bytes up to their end
pub record BeginAlike (text other : List ℕ) (front : List Token) (behind behind_other : List Token) : Type 0 where
  pub tokens : tokens_of text ≡ front ++ behind
  pub other_tokens : tokens_of other ≡ front ++ behind_other
  pub bytes : take (end_of front) text ≡ take (end_of front) other
