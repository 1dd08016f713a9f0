-- A text has a list of tokens and one alone, and what their parts are.
use Rattle.std.specs.Prelude.{◌≡◌, ℕ, zero, suc, ◌≤◌, ◌==◌, Bool, true, false, if◌then◌else◌, ◌⊎◌, List, [], ◌∷◌, ◌++◌, length, filter, get_or, Option, Some, None, refl}
use Rattle.std.proofs.Common.{sym, ap, ◌∙◌, inl, inr, eqb-true, eq-eqb, arith}
use Rattle.schema_spec.specs.declared.token.TokenKind.{TokenKind}
use Rattle.schema_spec.specs.declared.token.TokenKind.TheVariants.{Space, LineComment, BlockComment, Word, Number, Quoted, Bracketed, Unclosed, Sign}
use Rattle.schema_spec.specs.declared.token.Token.{Token}
use Rattle.schema_spec.specs.Parts.{IsRun, doubled, NotFirst, IsClosedOrNot}
use Rattle.schema_spec.specs.Tokens.{first_part, part_of, opening, goes_on, closed, behind_first, behind_close, parts_of, tokens_of, AreParts, AreTokens, is_token, past, past_quoted}

-- a text has one list of parts
parts-one : (size : ℕ) (left : List ℕ) (a b : List Token) → AreParts size left a → AreParts size left b → a ≡ b
parts-one size left [] [] p q = refl
parts-one size left [] (y ∷ b) p q = absurd (q.0 p)
parts-one size left (x ∷ a) [] p q = absurd (p.0 q)
parts-one size left (x ∷ a) (y ∷ b) p q =
    let head : x ≡ y = token-same x y (p.1 ∙ sym q.1) (p.2 ∙ sym q.2) (p.3 ∙ sym q.3) in
    let tail : a ≡ b = parts-one size (first_part left).1 a b p.4 q.4 in cc
  where
    token-same : (x y : Token) → x.kind ≡ y.kind → x.start ≡ y.start → x.end ≡ y.end → x ≡ y
    token-same x y e f g =
        ap (λ k. record { kind = k; start = x.start; end = x.end }) e ∙ ap (λ n. record { kind = y.kind; start = n; end = x.end }) f ∙ ap (λ n. record { kind = y.kind; start = y.start; end = n }) g

-- a text has one list of tokens
pub tokens-one : (text : List ℕ) (a b : List Token) → AreTokens text a → AreTokens text b → a ≡ b
tokens-one text a b p q = p.2 ∙ ap (λ parts. filter (λ part. is_token part.kind) parts) (parts-one (length text) text p.0 q.0 p.1 q.1) ∙ sym q.2

-- what is left behind a run
pub past-run : (p : ℕ → ℕ → Bool) (before : ℕ) (run rest : List ℕ) → IsRun p before run rest → past p before (run ++ rest) ≡ rest
past-run p before [] [] h = refl
past-run p before [] (b ∷ rest) h = ap (λ t. if t then past p b rest else (b ∷ rest)) h
past-run p before (b ∷ run) rest h = ap (λ t. if t then past p b (run ++ rest) else (b ∷ (run ++ rest))) h.0 ∙ past-run p b run rest h.1

either_way : (test : Bool) → (test ≡ true) ⊎ (test ≡ false)
either_way true = inl refl
either_way false = inr refl

quote-itself : (quote : ℕ) → (quote == quote) ≡ true
quote-itself quote = eq-eqb quote quote refl

-- a quote and another byte
past-close : (quote c : ℕ) (text : List ℕ) → (c == quote) ≡ false → past_quoted quote (quote ∷ c ∷ text) ≡ Some (c ∷ text)
past-close quote c text e =
    ap (λ t. if t then (if c == quote then past_quoted quote text else Some (c ∷ text)) else past_quoted quote (c ∷ text)) (quote-itself quote)
    ∙ ap (λ t. if t then past_quoted quote text else Some (c ∷ text)) e

-- two quotes
past-two_quotes : (quote : ℕ) (text : List ℕ) → past_quoted quote (quote ∷ quote ∷ text) ≡ past_quoted quote text
past-two_quotes quote text =
    ap (λ t. if t then (if quote == quote then past_quoted quote text else Some (quote ∷ text)) else past_quoted quote (quote ∷ text)) (quote-itself quote)
    ∙ ap (λ t. if t then past_quoted quote text else Some (quote ∷ text)) (quote-itself quote)

-- a byte that is no quote
past-other : (quote b : ℕ) (text : List ℕ) → (b == quote) ≡ false → past_quoted quote (b ∷ text) ≡ past_quoted quote text
past-other quote b [] e = ap (λ t. if t then Some [] else None) e
past-other quote b (c ∷ text) e = ap (λ t. if t then (if c == quote then past_quoted quote text else Some (c ∷ text)) else past_quoted quote (c ∷ text)) e

doubled-quote : (quote b : ℕ) (content : List ℕ) → (b == quote) ≡ true → doubled quote (b ∷ content) ≡ quote ∷ quote ∷ doubled quote content
doubled-quote quote b content e = ap (λ t. if t then (quote ∷ quote ∷ doubled quote content) else (b ∷ doubled quote content)) e

doubled-other : (quote b : ℕ) (content : List ℕ) → (b == quote) ≡ false → doubled quote (b ∷ content) ≡ b ∷ doubled quote content
doubled-other quote b content e = ap (λ t. if t then (quote ∷ quote ∷ doubled quote content) else (b ∷ doubled quote content)) e

-- what is left behind a text in quotes
pub past-closed : (quote : ℕ) (content rest : List ℕ) → NotFirst quote rest → past_quoted quote (doubled quote content ++ (quote ∷ rest)) ≡ Some rest
past-closed quote [] [] h = ap (λ t. if t then Some [] else None) (quote-itself quote)
past-closed quote [] (c ∷ rest) h = past-close quote c rest h
past-closed quote (b ∷ content) rest h =
    elim (either_way (b == quote)) [
      | inl e ↦ ap (λ text. past_quoted quote (text ++ (quote ∷ rest))) (doubled-quote quote b content e) ∙ past-two_quotes quote (doubled quote content ++ (quote ∷ rest)) ∙ past-closed quote content rest h
      | inr e ↦ ap (λ text. past_quoted quote (text ++ (quote ∷ rest))) (doubled-other quote b content e) ∙ past-other quote b (doubled quote content ++ (quote ∷ rest)) e ∙ past-closed quote content rest h
    ]

-- a text in which each quote stands doubled is not closed
pub past-unclosed : (quote : ℕ) (content : List ℕ) → past_quoted quote (doubled quote content) ≡ None
past-unclosed quote [] = refl
past-unclosed quote (b ∷ content) =
    elim (either_way (b == quote)) [
      | inl e ↦ ap (past_quoted quote) (doubled-quote quote b content e) ∙ past-two_quotes quote (doubled quote content) ∙ past-unclosed quote content
      | inr e ↦ ap (past_quoted quote) (doubled-other quote b content e) ∙ past-other quote b (doubled quote content) e ∙ past-unclosed quote content
    ]

add_quote : (quote b c : ℕ) (text : List ℕ) → b ≡ quote → c ≡ quote → IsClosedOrNot quote text → IsClosedOrNot quote (b ∷ c ∷ text)
add_quote quote b c text e f (inl h) =
    inl (quote ∷ h.0, h.1, ap (λ x. x ∷ c ∷ text) e ∙ ap (λ x. quote ∷ x ∷ text) f ∙ ap (λ x. quote ∷ quote ∷ x) h.2 ∙ ap (λ x. x ++ (quote ∷ h.1)) (sym (doubled-quote quote quote h.0 (quote-itself quote))), h.3)
add_quote quote b c text e f (inr h) =
    inr (quote ∷ h.0, ap (λ x. x ∷ c ∷ text) e ∙ ap (λ x. quote ∷ x ∷ text) f ∙ ap (λ x. quote ∷ quote ∷ x) h.1 ∙ sym (doubled-quote quote quote h.0 (quote-itself quote)))

add_other : (quote b : ℕ) (text : List ℕ) → (b == quote) ≡ false → IsClosedOrNot quote text → IsClosedOrNot quote (b ∷ text)
add_other quote b text e (inl h) = inl (b ∷ h.0, h.1, ap (λ x. b ∷ x) h.2 ∙ ap (λ x. x ++ (quote ∷ h.1)) (sym (doubled-other quote b h.0 e)), h.3)
add_other quote b text e (inr h) = inr (b ∷ h.0, ap (λ x. b ∷ x) h.1 ∙ sym (doubled-other quote b h.0 e))

pub quoted-closed_or_not : (quote : ℕ) (text : List ℕ) → IsClosedOrNot quote text
quoted-closed_or_not quote [] = inr ([], refl)
quoted-closed_or_not quote (b ∷ []) =
    elim (either_way (b == quote)) [
      | inl e ↦ inl ([], [], ap (λ x. x ∷ []) (eqb-true b quote e), tt)
      | inr e ↦ add_other quote b [] e (inr ([], refl))
    ]
quoted-closed_or_not quote (b ∷ c ∷ text) =
    elim (either_way (b == quote)) [
      | inl e ↦ elim (either_way (c == quote)) [
        | inl f ↦ add_quote quote b c text (eqb-true b quote e) (eqb-true c quote f) (quoted-closed_or_not quote text)
        | inr f ↦ inl ([], c ∷ text, ap (λ x. x ∷ c ∷ text) (eqb-true b quote e), f)
      ]
      | inr e ↦ add_other quote b (c ∷ text) e (quoted-closed_or_not quote (c ∷ text))
    ]

-- what is left behind a part is no longer than what stands behind its first byte
past-shorter : (p : ℕ → ℕ → Bool) (before : ℕ) (text : List ℕ) → length (past p before text) ≤ length text
past-shorter p before [] = omega arith
past-shorter p before (b ∷ text) = shorter (p before b) (past-shorter p b text)
  where
    shorter : (test : Bool) → length (past p b text) ≤ length text → length (if test then past p b text else (b ∷ text)) ≤ length (b ∷ text)
    shorter true h = omega (arith, h)
    shorter false h = omega arith

-- what is left where something closes a text, and nothing otherwise
abbrev left_of : Option (List ℕ) → List ℕ
left_of None = []
left_of (Some rest) = rest

past_quoted-shorter : (quote : ℕ) (text : List ℕ) → length (left_of (past_quoted quote text)) ≤ length text
past_quoted-shorter quote [] = omega arith
past_quoted-shorter quote (b ∷ []) = last (b == quote)
  where
    last : (test : Bool) → length (left_of (if test then Some [] else None)) ≤ length (b ∷ [])
    last true = omega arith
    last false = omega arith
past_quoted-shorter quote (b ∷ c ∷ text) = both (b == quote) (c == quote) (past_quoted-shorter quote text) (past_quoted-shorter quote (c ∷ text))
  where
    both : (first second : Bool) → length (left_of (past_quoted quote text)) ≤ length text → length (left_of (past_quoted quote (c ∷ text))) ≤ length (c ∷ text)
        → length (left_of (if first then (if second then past_quoted quote text else Some (c ∷ text)) else past_quoted quote (c ∷ text))) ≤ length (b ∷ c ∷ text)
    both true true h k = omega (arith, h)
    both true false h k = omega arith
    both false second h k = omega (arith, k)

closed-left : (kind : TokenKind) (rest : Option (List ℕ)) → (closed kind rest).1 ≡ left_of rest
closed-left kind None = refl
closed-left kind (Some rest) = refl

behind_first-shorter : (text : List ℕ) → length (behind_first text) ≤ length text
behind_first-shorter [] = omega arith
behind_first-shorter (b ∷ text) = omega arith

behind_close-shorter : (text : List ℕ) → length (left_of (behind_close text)) ≤ length text
behind_close-shorter [] = omega arith
behind_close-shorter (b ∷ text) = omega arith

part_of-shorter : (kind : TokenKind) (b : ℕ) (text : List ℕ) → length (part_of kind b text).1 ≤ length text
part_of-shorter Space b text = past-shorter (goes_on Space) b text
part_of-shorter LineComment b text = past-shorter (goes_on LineComment) b text
part_of-shorter BlockComment b text =
    let inside = behind_first text in
    omega (arith, behind_first-shorter (past (goes_on BlockComment) 0 inside), past-shorter (goes_on BlockComment) 0 inside, behind_first-shorter text)
part_of-shorter Word b text = past-shorter (goes_on Word) b text
part_of-shorter Number b text = past-shorter (goes_on Number) b text
part_of-shorter Quoted b text = rw (closed-left Quoted (past_quoted b text)) (past_quoted-shorter b text)
part_of-shorter Bracketed b text =
    rw (closed-left Bracketed (behind_close (past (goes_on Bracketed) b text))) (omega (arith, behind_close-shorter (past (goes_on Bracketed) b text), past-shorter (goes_on Bracketed) b text))
part_of-shorter Unclosed b text = past-shorter (goes_on Unclosed) b text
part_of-shorter Sign b text = past-shorter (goes_on Sign) b text

parts-are : (n size : ℕ) (left : List ℕ) → length left ≤ n → AreParts size left (parts_of n size left)
parts-are zero size [] h = refl
parts-are zero size (b ∷ left) h = absurd (omega (arith, h))
parts-are (suc n) size [] h = refl
parts-are (suc n) size (b ∷ text) h =
    (λ e. absurd (cc), refl, refl, refl, parts-are n size (first_part (b ∷ text)).1 (let s = part_of-shorter (opening b (get_or text 0 0)) b text in omega (arith, h, s)))

-- a text has the tokens that are computed
pub tokens-are : (text : List ℕ) → AreTokens text (tokens_of text)
tokens-are text = (parts_of (length text) (length text) text, parts-are (length text) (length text) text (omega arith), refl)
