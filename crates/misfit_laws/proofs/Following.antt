-- What may follow a production begins with no token of another kind.
use Rattle.std.proofs.Common.{◌≡◌, ℕ, ◌==◌, Bool, true, false, List, [], ◌∷◌, refl, ap, ◌∙◌, inl, inr}
use Rattle.std.specs.Prelude.{codes}
use Rattle.schema_spec.specs.declared.token.Token.{Token}
use Rattle.schema_spec.specs.Words.{is_one_of, is_sign, is_keyword, is_word_of, is_type_word}
use Rattle.schema_spec.specs.Fronts.{begins}
use Rattle.grammar_laws.specs.TestsLaws.{sign-not_word, sign-not_type, sign-other, keyword-words, keyword-type, keyword-not_sign}
use Rattle.misfit_laws.proofs.Continuing.{Ends, Closes, Bounded, Apart}

module _ (t : List ℕ → Token → Bool) (closing : (text : List ℕ) (c : Token) → is_sign 41 text c ≡ true → t text c ≡ false) (comma : (text : List ℕ) (c : Token) → is_sign 44 text c ≡ true → t text c ≡ false) where
  pub bounded-free : (text : List ℕ) (rest : List Token) → Bounded text rest → begins (t text) rest ≡ false
  bounded-free text [] h = refl
  bounded-free text (c ∷ rest) (inl h) = closing text c h
  bounded-free text (c ∷ rest) (inr h) = comma text c h

  apart-free : ((text : List ℕ) (c : Token) → is_keyword (codes "NOT") text c ≡ true → t text c ≡ false) → (text : List ℕ) (rest : List Token) → Apart text rest → begins (t text) rest ≡ false
  apart-free other text rest (inl h) = bounded-free text rest h
  apart-free other text [] (inr h) = absurd h
  apart-free other text (c ∷ rest) (inr h) = other text c h.0

pub bounded-words : (words : List (List ℕ)) (text : List ℕ) (rest : List Token) → Bounded text rest → begins (is_word_of words text) rest ≡ false
bounded-words words = bounded-free (is_word_of words) (sign-not_word 41 words) (sign-not_word 44 words)

-- other words than NOT
pub apart-words : (words : List (List ℕ)) → is_one_of words (codes "NOT") ≡ false → (text : List ℕ) (rest : List Token) → Apart text rest → begins (is_word_of words text) rest ≡ false
apart-words words e = apart-free (is_word_of words) (sign-not_word 41 words) (sign-not_word 44 words) (λ text c h. keyword-words (codes "NOT") words text c h ∙ e)

-- another sign
pub apart-sign : (sign : ℕ) → (41 == sign) ≡ false → (44 == sign) ≡ false → (text : List ℕ) (rest : List Token) → Apart text rest → begins (is_sign sign text) rest ≡ false
apart-sign sign e f = apart-free (is_sign sign) (sign-other 41 sign e) (sign-other 44 sign f) (keyword-not_sign (codes "NOT") sign)

pub apart-type : (text : List ℕ) (rest : List Token) → Apart text rest → begins (is_type_word text) rest ≡ false
apart-type = apart-free is_type_word (sign-not_type 41) (sign-not_type 44) (λ text c h. keyword-type (codes "NOT") text c h)

pub ends-free : (t : List ℕ → Token → Bool) (text : List ℕ) (rest : List Token) → Ends text rest → begins (t text) rest ≡ false
ends-free t text rest h = ap (begins (t text)) h

pub closes-free : (t : List ℕ → Token → Bool) → ((text : List ℕ) (c : Token) → is_sign 41 text c ≡ true → t text c ≡ false) → (text : List ℕ) (rest : List Token) → Closes text rest → begins (t text) rest ≡ false
closes-free t closing text [] h = refl
closes-free t closing text (c ∷ rest) h = closing text c h
