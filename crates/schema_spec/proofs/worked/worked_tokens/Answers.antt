use Rattle.std.proofs.Common.{◌≡◌, codes, ℕ, List, [], ◌∷◌, refl}
use Rattle.schema_spec.specs.declared.token.Token.{Token}
use Rattle.schema_spec.specs.declared.token.TokenKind.{TokenKind}
use Rattle.schema_spec.specs.declared.token.TokenKind.TheVariants.{Space, Word, Quoted}
use Rattle.schema_spec.specs.Tokens.{AreTokens, is_white, is_word_byte, is_quote, begins_number}
use Rattle.schema_spec.specs.TokensLaws.{tokens-one}
use Rattle.schema_spec.proofs.worked.worked_tokens.Goals as goal

abbrev part : TokenKind → ℕ → ℕ → Token
part kind start end = record { kind = kind; start = start; end = end }

pub returns-clause-words : goal.returns-clause-words
unfolding is_white is_word_byte is_quote begins_number
returns-clause-words c =
    (part Word 0 1 ∷ part Space 1 2 ∷ part Word 2 3 ∷ [], (λ e. absurd (cc), refl, refl, refl, (λ e. absurd (cc), refl, refl, refl, (λ e. absurd (cc), refl, refl, refl, refl))), refl)

pub returns-clause-quoted : goal.returns-clause-quoted
unfolding is_white is_word_byte is_quote begins_number
returns-clause-quoted c = (part Word 0 1 ∷ part Quoted 1 7 ∷ [], (λ e. absurd (cc), refl, refl, refl, (λ e. absurd (cc), refl, refl, refl, refl)), refl)

pub returns-clause-torn : goal.returns-clause-torn
unfolding is_white is_word_byte is_quote begins_number
returns-clause-torn c h =
    let whole : AreTokens (codes "ab") (part Word 0 2 ∷ []) = (part Word 0 2 ∷ [], (λ e. absurd (cc), refl, refl, refl, refl), refl) in
    let e : ◌≡◌ {A = List Token} (part Word 0 1 ∷ part Word 1 2 ∷ []) (part Word 0 2 ∷ []) = tokens-one (codes "ab") _ _ h whole in absurd (cc)
