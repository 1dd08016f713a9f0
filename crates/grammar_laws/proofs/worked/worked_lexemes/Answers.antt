use Rattle.std.proofs.Common.{◌≡◌, ℕ, List, [], ◌∷◌, ◌++◌, refl, sym, ap, subst, length}
use Rattle.std.specs.Prelude.{codes, IsTrue}
use Rattle.schema_spec.specs.declared.token.TokenKind.TheVariants.{Quoted, Sign, Word}
use Rattle.schema_spec.specs.Tokens.{is_white, is_word_byte, is_quote, begins_number, is_token, first_part}
use Rattle.grammar_laws.specs.Lexemes.{Lexeme, Opens, is_dark, IsLexeme}
use Rattle.grammar_laws.proofs.worked.worked_lexemes.Goals as goal

is-lexeme : (f : Lexeme) → IsTrue (is_token f.kind) → IsTrue (is_dark f.bytes) → first_part (f.bytes ++ []) ≡ (f.kind, []) → ((rest : List ℕ) → first_part (f.bytes ++ (32 ∷ rest)) ≡ (f.kind, 32 ∷ rest)) → IsLexeme f
is-lexeme f token dark last before = record { token = token; dark = dark; part = part }
  where
    part : (rest : List ℕ) → Opens rest → first_part (f.bytes ++ rest) ≡ (f.kind, rest)
    part [] opens = last
    part (b ∷ rest) opens = subst (λ x. first_part (f.bytes ++ (x ∷ rest)) ≡ (f.kind, x ∷ rest)) (sym opens) (before rest)

pub returns-clause-word : goal.returns-clause-word
unfolding is_white is_word_byte is_quote begins_number
returns-clause-word c = is-lexeme (record { kind = Word; bytes = codes "KEY" }) refl refl refl (λ rest. refl)

pub returns-clause-bracket : goal.returns-clause-bracket
unfolding is_white is_word_byte is_quote begins_number
returns-clause-bracket c = is-lexeme (record { kind = Sign; bytes = codes ")" }) refl refl refl (λ rest. refl)

pub returns-clause-quoted : goal.returns-clause-quoted
unfolding is_white is_word_byte is_quote begins_number
returns-clause-quoted c = is-lexeme (record { kind = Quoted; bytes = codes "'a b'" }) refl refl refl (λ rest. refl)

pub returns-clause-open : goal.returns-clause-open
unfolding is_white is_word_byte is_quote begins_number
returns-clause-open c is = let kind = ap (λ x. x.0) (is.part [] tt) in absurd (let wrong : ⊥ = cc in wrong)

pub returns-clause-two : goal.returns-clause-two
unfolding is_white is_word_byte is_quote begins_number
returns-clause-two c is = let left = ap (λ x. length x.1) (is.part [] tt) in absurd (let wrong : ⊥ = cc in wrong)
