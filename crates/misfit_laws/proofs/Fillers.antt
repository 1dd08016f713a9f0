-- Tokens with which a text is brought into the grammar.
use Rattle.std.proofs.Common.{◌≡◌, ℕ, ◌+◌, ◌-◌, ◌<◌, ◌≤◌, ◌&&◌, Bool, true, false, List, [], ◌∷◌, ◌++◌, length, get_or, take, drop, refl, sym, ap, ◌∙◌, subst, arith}
use Rattle.std.proofs.lemmas.Bool.Decides.{nat_tests}
use Rattle.std.proofs.Math.Seq.{take-length}
use Rattle.std.proofs.lemmas.List.{drop-drop, get_or-drop, get_or-take}
use Rattle.std.specs.Prelude.{not, IsTrue, nat_le, slice_range, map}
use Rattle.std.specs.List.{list_all, AllByRecursion, AllZip}
use Rattle.schema_spec.specs.declared.token.TokenKind.TheVariants.{Word, Number, Sign}
use Rattle.schema_spec.specs.declared.token.Token.{Token}
use Rattle.schema_spec.specs.Parts.{IsRun}
use Rattle.schema_spec.specs.Tokens.{is_white, is_word_byte, is_quote, begins_number, opening, goes_on, part_of, first_part}
use Rattle.schema_spec.specs.TokensLaws.{past-run}
use Rattle.grammar_laws.specs.Lexemes.{Lexeme, Opens, IsLexeme, IsSpelled}
use Rattle.grammar_laws.specs.TestsLaws.{Alike}
use Rattle.grammar_laws.specs.AlikeLaws.{range-front}

abbrev pub is_capital : ℕ → Bool
is_capital b = nat_le 65 b && nat_le b 90

abbrev pub are_capitals : List ℕ → Bool
are_capitals [] = false
are_capitals (b ∷ bytes) = is_capital b && list_all is_capital bytes

-- a word in capital letters, a bracket, a comma, a plus, or a number of one digit
pub data Filler : Type 0 where
  Capitals : (word : List ℕ) → IsTrue (are_capitals word) → Filler
  Opening : Filler
  Closing : Filler
  Comma : Filler
  Plus : Filler
  Digit : Filler

abbrev pub lexeme : Filler → Lexeme
lexeme (Capitals word capitals) = record { kind = Word; bytes = word }
lexeme Opening = record { kind = Sign; bytes = 40 ∷ [] }
lexeme Closing = record { kind = Sign; bytes = 41 ∷ [] }
lexeme Comma = record { kind = Sign; bytes = 44 ∷ [] }
lexeme Plus = record { kind = Sign; bytes = 43 ∷ [] }
lexeme Digit = record { kind = Number; bytes = 49 ∷ [] }

-- a lexeme as the only token of its own bytes
abbrev pub token_of : Lexeme → Token
token_of f = record { kind = f.kind; start = 0; end = length f.bytes }

-- a token of a text is the filler
abbrev pub IsFiller : List ℕ → Filler → Token → Type 0
IsFiller text filler token = Alike text token (lexeme filler).bytes (token_of (lexeme filler))

abbrev pub AreFillers : List ℕ → List Filler → List Token → Type 0
AreFillers text fillers tokens = AllZip (IsFiller text) fillers tokens

pub fillers-split : (text : List ℕ) (w v : List Filler) (tokens : List Token) → AreFillers text (w ++ v) tokens
    → (first : List Token) × (second : List Token) × (tokens ≡ first ++ second) × AreFillers text w first × AreFillers text v second
fillers-split text [] v tokens h = ([], tokens, refl, tt, h)
fillers-split text (f ∷ w) v [] h = absurd h
fillers-split text (f ∷ w) v (c ∷ tokens) h =
    let (first, second, whole, one, two) = fillers-split text w v tokens h.1 in (c ∷ first, second, ap (λ x. c ∷ x) whole, (h.0, one), two)

and-both : (a b : Bool) → (a && b) ≡ true → (a ≡ true) × (b ≡ true)
and-both true b h = (refl, h)
and-both false b h = absurd (cc)

capital-range : (b : ℕ) → is_capital b ≡ true → (65 ≤ b) × (b ≤ 90)
capital-range b e = let (low, high) = and-both (nat_le 65 b) (nat_le b 90) e in (grind (arith, nat_tests), grind (arith, nat_tests))

capital-word : (b : ℕ) → 65 ≤ b → b ≤ 90 → is_word_byte b ≡ true
unfolding is_word_byte
capital-word b low high = grind (arith, nat_tests)

-- a word begins with a capital letter
capital-opens : (b n : ℕ) → 65 ≤ b → b ≤ 90 → opening b n ≡ Word
unfolding is_white is_word_byte is_quote begins_number
capital-opens b n low high = grind (arith, nat_tests)

capital-dark : (b : ℕ) → 65 ≤ b → b ≤ 90 → is_white b ≡ false
unfolding is_white
capital-dark b low high = grind (arith, nat_tests)

space-ends : (before : ℕ) (rest : List ℕ) → Opens rest → IsRun (goes_on Word) before [] rest
unfolding is_word_byte
space-ends before [] opens = tt
space-ends before (b ∷ rest) opens = ap is_word_byte opens

capitals-run : (before : ℕ) (bytes rest : List ℕ) → list_all is_capital bytes ≡ true → Opens rest → IsRun (goes_on Word) before bytes rest
capitals-run before [] rest e opens = space-ends before rest opens
capitals-run before (b ∷ bytes) rest e opens =
    let (one, others) = and-both (is_capital b) (list_all is_capital bytes) e in
    let (low, high) = capital-range b one in (capital-word b low high, capitals-run b bytes rest others opens)

word-lexeme : (word : List ℕ) (capitals : IsTrue (are_capitals word)) → IsLexeme (record { kind = Word; bytes = word })
word-lexeme [] capitals = absurd (cc)
word-lexeme (b ∷ bytes) capitals =
    let (one, others) = and-both (is_capital b) (list_all is_capital bytes) capitals in
    let (low, high) = capital-range b one in
    record {
      token = refl;
      dark = ap not (capital-dark b low high);
      part = λ rest opens.
          ap (λ k. part_of k b (bytes ++ rest)) (capital-opens b (get_or (bytes ++ rest) 0 0) low high)
          ∙ ap (λ x. (Word, x)) (past-run (goes_on Word) b bytes rest (capitals-run b bytes rest others opens));
    }

before_space : (f : Lexeme) → first_part (f.bytes ++ []) ≡ (f.kind, []) → ((rest : List ℕ) → first_part (f.bytes ++ (32 ∷ rest)) ≡ (f.kind, 32 ∷ rest)) → (rest : List ℕ) → Opens rest → first_part (f.bytes ++ rest) ≡ (f.kind, rest)
before_space f last before [] opens = last
before_space f last before (b ∷ rest) opens = subst (λ x. first_part (f.bytes ++ (x ∷ rest)) ≡ (f.kind, x ∷ rest)) (sym opens) (before rest)

pub filler-lexeme : (filler : Filler) → IsLexeme (lexeme filler)
unfolding is_white is_word_byte is_quote begins_number
filler-lexeme (Capitals word capitals) = word-lexeme word capitals
filler-lexeme Opening = record { token = refl; dark = refl; part = before_space (lexeme Opening) refl (λ rest. refl) }
filler-lexeme Closing = record { token = refl; dark = refl; part = before_space (lexeme Closing) refl (λ rest. refl) }
filler-lexeme Comma = record { token = refl; dark = refl; part = before_space (lexeme Comma) refl (λ rest. refl) }
filler-lexeme Plus = record { token = refl; dark = refl; part = before_space (lexeme Plus) refl (λ rest. refl) }
filler-lexeme Digit = record { token = refl; dark = refl; part = before_space (lexeme Digit) refl (λ rest. refl) }

pub fillers-lexemes : (fillers : List Filler) → AllByRecursion IsLexeme (map lexeme fillers)
fillers-lexemes [] = tt
fillers-lexemes (f ∷ fillers) = (filler-lexeme f, fillers-lexemes fillers)

some_bytes : (filler : Filler) → 0 < length (lexeme filler).bytes
some_bytes (Capitals [] capitals) = absurd (cc)
some_bytes (Capitals (b ∷ word) capitals) = omega arith
some_bytes Opening = omega arith
some_bytes Closing = omega arith
some_bytes Comma = omega arith
some_bytes Plus = omega arith
some_bytes Digit = omega arith

-- a token that is spelled as a lexeme is alike to it
pub spelled-alike : (text : List ℕ) (f : Lexeme) (c : Token) → 0 < length f.bytes → IsSpelled text f c → Alike text c f.bytes (token_of f)
spelled-alike text f c some h = record {
  kind = h.0;
  spelled = h.1 ∙ sym (ap (λ k. take k f.bytes) (omega arith) ∙ take-length f.bytes);
  first =
      ap (λ k. get_or text k 0) (omega arith) ∙ sym (get_or-drop c.start text 0 0) ∙ sym (get_or-take (length f.bytes) (drop c.start text) 0 0 some) ∙ ap (λ x. get_or x 0 0) front;
  within =
      ap (λ n. take n (drop (c.start + 1) text)) (omega (arith, h.2))
      ∙ sym (ap (take (length f.bytes - 1 - 1)) (drop-drop 1 c.start text))
      ∙ range-front (drop c.start text) 1 (length f.bytes - 1) (length f.bytes) (omega arith)
      ∙ ap (λ x. slice_range x 1 (length f.bytes - 1)) front;
}
  where
    front : take (length f.bytes) (drop c.start text) ≡ f.bytes
    front = ap (λ n. take n (drop c.start text)) (omega (arith, h.2)) ∙ h.1

pub spelled-fillers : (text : List ℕ) (fillers : List Filler) (tokens : List Token) → AllZip (IsSpelled text) (map lexeme fillers) tokens → AreFillers text fillers tokens
spelled-fillers text [] [] h = tt
spelled-fillers text [] (c ∷ tokens) h = absurd h
spelled-fillers text (f ∷ fillers) [] h = absurd h
spelled-fillers text (f ∷ fillers) (c ∷ tokens) h = (spelled-alike text (lexeme f) c (some_bytes f) h.0, spelled-fillers text fillers tokens h.1)
