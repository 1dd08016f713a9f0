-- Tokens are spelled alike in texts with the same bytes up to their end.
use Rattle.std.proofs.Common.{◌≡◌, ℕ, zero, suc, ◌+◌, ◌-◌, ◌<◌, ◌≤◌, Bool, true, false, List, [], ◌∷◌, ◌++◌, length, get_or, take, drop, refl, sym, ap, ◌∙◌, subst, inl, inr, arith, length-append, ◌⊎◌}
use Rattle.std.specs.Prelude.{Option, Some, None, if◌then◌else◌, filter, slice_range}
use Rattle.std.proofs.lemmas.List.{append_assoc, drop-take, take-take, get_or-take}
use Rattle.schema_spec.specs.declared.token.TokenKind.{TokenKind}
use Rattle.schema_spec.specs.declared.token.TokenKind.TheVariants.{Space, LineComment, BlockComment, Word, Number, Quoted, Bracketed, Unclosed, Sign}
use Rattle.schema_spec.specs.declared.token.Token.{Token}
use Rattle.schema_spec.specs.Parts.{doubled, IsClosedOrNot}
use Rattle.schema_spec.specs.Tokens.{past, past_quoted, goes_on, behind_first, behind_close, closed, part_of, first_part, opening, AreParts, is_token, tokens_of}
use Rattle.schema_spec.specs.TokensLaws.{past-closed, past-unclosed, quoted-closed_or_not, tokens-are}
use Rattle.grammar_laws.specs.Misfits.{end_of, BeginAlike}
use Rattle.grammar_laws.specs.TestsLaws.{Alike}
use Rattle.grammar_laws.specs.ProductionsLaws.{Alikes}

-- a part of a text is a part of its first bytes
pub range-front : (text : List ℕ) (a b e : ℕ) → b ≤ e → slice_range text a b ≡ slice_range (take e text) a b
range-front text a b e less = by_order (order a b)
  where
    order : (a b : ℕ) → (a ≤ b) ⊎ (b ≤ a)
    order zero b = inl (omega arith)
    order (suc a) zero = inr (omega arith)
    order (suc a) (suc b) = elim (order a b) [ inl h ↦ inl (omega (arith, h)) | inr h ↦ inr (omega (arith, h)) ]

    within : (n : ℕ) → n ≡ b - a → a ≤ b → take n (drop a text) ≡ take n (drop a (take e text))
    within n is h =
        sym (drop-take a n text) ∙ ap (drop a) (sym (take-take (a + n) e text (omega (arith, is, h, less)))) ∙ drop-take a n (take e text)

    by_order : (a ≤ b) ⊎ (b ≤ a) → take (b - a) (drop a text) ≡ take (b - a) (drop a (take e text))
    by_order (inl h) = within (b - a) refl h
    by_order (inr h) = let none : b - a ≡ 0 = omega (arith, h) in ap (λ n. take n (drop a text)) none ∙ sym (ap (λ n. take n (drop a (take e text))) none)

alike-token : (text other : List ℕ) (e : ℕ) (c : Token) → take e text ≡ take e other → c.start < c.end → c.end ≤ e → Alike text c other c
alike-token text other e c same some within = record {
  kind = refl;
  spelled = range-front text c.start c.end e within ∙ ap (λ x. slice_range x c.start c.end) same ∙ sym (range-front other c.start c.end e within);
  first = sym (get_or-take e text c.start 0 (omega (arith, some, within))) ∙ ap (λ x. get_or x c.start 0) same ∙ get_or-take e other c.start 0 (omega (arith, some, within));
  within = range-front text (c.start + 1) (c.end - 1) e (omega (arith, within)) ∙ ap (λ x. slice_range x (c.start + 1) (c.end - 1)) same ∙ sym (range-front other (c.start + 1) (c.end - 1) e (omega (arith, within)));
}

-- each token has bytes, and ends before the next begins
abbrev Rise : ℕ → List Token → Type 0
Rise n [] = Unit {0}
Rise n (c ∷ tokens) = (n ≤ c.start) × (c.start < c.end) × Rise c.end tokens

rise-later : (n m : ℕ) (tokens : List Token) → n ≤ m → Rise m tokens → Rise n tokens
rise-later n m [] less h = tt
rise-later n m (c ∷ tokens) less h = (omega (arith, less, h.0), h.1, h.2)

rise-front : (n : ℕ) (front rest : List Token) → Rise n (front ++ rest) → Rise n front
rise-front n [] rest h = tt
rise-front n (c ∷ front) rest h = (h.0, h.1, rise-front c.end front rest h.2)

rise-end : (c : Token) (front : List Token) → Rise c.end front → c.end ≤ end_of (c ∷ front)
rise-end c [] h = omega arith
rise-end c (d ∷ front) h = let later = rise-end d front h.2 in omega (arith, h.0, h.1, later)

end-last : (c d : Token) (front : List Token) → end_of (c ∷ d ∷ front) ≡ end_of (d ∷ front)
end-last c d front = refl

alikes-rise : (text other : List ℕ) (e n : ℕ) (front : List Token) → take e text ≡ take e other → end_of front ≤ e → Rise n front → Alikes text other front
alikes-rise text other e n [] same within h = tt
alikes-rise text other e n (c ∷ []) same within h = (alike-token text other e c same h.1 within, tt)
alikes-rise text other e n (c ∷ d ∷ front) same within h =
    let less = rise-end c (d ∷ front) h.2 in
    (alike-token text other e c same h.1 (omega (arith, less, within)), alikes-rise text other e c.end (d ∷ front) same within h.2)

-- what is left behind a part is shorter than what begins with it
past-short : (p : ℕ → ℕ → Bool) (before : ℕ) (text : List ℕ) → length (past p before text) ≤ length text
past-short p before [] = omega arith
past-short p before (b ∷ text) = by_test (p before b) (past-short p b text)
  where
    by_test : (test : Bool) → length (past p b text) ≤ length text → length (if test then past p b text else (b ∷ text)) ≤ length (b ∷ text)
    by_test true h = omega (arith, h)
    by_test false h = omega arith

closed-short : (kind : TokenKind) (x : Option (List ℕ)) (n : ℕ) → ((rest : List ℕ) → x ≡ Some rest → length rest ≤ n) → length (closed kind x).1 ≤ n
closed-short kind None n h = omega arith
closed-short kind (Some rest) n h = h rest refl

quoted-short : (quote : ℕ) (text rest : List ℕ) → past_quoted quote text ≡ Some rest → length rest ≤ length text
quoted-short quote text rest e = by_case (quoted-closed_or_not quote text)
  where
    by_case : IsClosedOrNot quote text → length rest ≤ length text
    by_case (inl h) =
        let is : ◌≡◌ {A = Option (List ℕ)} (Some rest) (Some h.1) = sym e ∙ ap (past_quoted quote) h.2 ∙ past-closed quote h.0 h.1 h.3 in
        let one : rest ≡ h.1 = cc in
        let long : length text ≡ length (doubled quote h.0 ++ (quote ∷ h.1)) = ap length h.2 in
        let rest_long : length rest ≡ length h.1 = ap length one in
        omega (arith, long, rest_long, length-append (doubled quote h.0) (quote ∷ h.1))
    by_case (inr h) =
        let is : ◌≡◌ {A = Option (List ℕ)} (Some rest) None = sym e ∙ ap (past_quoted quote) h.1 ∙ past-unclosed quote h.0 in absurd (cc)

behind-short : (text : List ℕ) → length (behind_first text) ≤ length text
behind-short [] = omega arith
behind-short (b ∷ text) = omega arith

close-short : (text rest : List ℕ) → behind_close text ≡ Some rest → length rest ≤ length text
close-short [] rest e = absurd (cc)
close-short (b ∷ text) rest e = let one : text ≡ rest = cc in let long : length text ≡ length rest = ap length one in omega (arith, long)

part-short : (kind : TokenKind) (b : ℕ) (text : List ℕ) → length (part_of kind b text).1 ≤ length text
part-short Space b text = past-short (goes_on Space) b text
part-short LineComment b text = past-short (goes_on LineComment) b text
part-short BlockComment b text =
    omega (arith, behind-short (past (goes_on BlockComment) 0 (behind_first text)), past-short (goes_on BlockComment) 0 (behind_first text), behind-short text)
part-short Word b text = past-short (goes_on Word) b text
part-short Number b text = past-short (goes_on Number) b text
part-short Quoted b text = closed-short Quoted (past_quoted b text) (length text) (quoted-short b text)
part-short Bracketed b text =
    closed-short Bracketed (behind_close (past (goes_on Bracketed) b text)) (length text)
    (λ rest e. let short = close-short (past (goes_on Bracketed) b text) rest e in omega (arith, short, past-short (goes_on Bracketed) b text))
part-short Unclosed b text = past-short (goes_on Unclosed) b text
part-short Sign b text = past-short (goes_on Sign) b text

parts-rise : (size : ℕ) (left : List ℕ) (parts : List Token) → length left ≤ size → AreParts size left parts → Rise (size - length left) parts
parts-rise size left [] fits are = tt
parts-rise size [] (c ∷ parts) fits are = absurd (are.0 refl)
parts-rise size (b ∷ text) (c ∷ parts) fits are =
    let short = part-short (opening b (get_or text 0 0)) b text in
    let others = parts-rise size (first_part (b ∷ text)).1 parts (omega (arith, short, fits)) are.4 in
    (omega (arith, are.2), omega (arith, are.2, are.3, short, fits), subst (λ n. Rise n parts) (sym are.3) others)

filter-rise : (n : ℕ) (parts : List Token) → Rise n parts → Rise n (filter (λ part. is_token part.kind) parts)
filter-rise n [] h = tt
filter-rise n (c ∷ parts) h = by_kind (is_token c.kind) (filter-rise c.end parts h.2)
  where
    by_kind : (test : Bool) → Rise c.end (filter (λ part. is_token part.kind) parts)
        → Rise n (if test then (c ∷ filter (λ part. is_token part.kind) parts) else filter (λ part. is_token part.kind) parts)
    by_kind true others = (h.0, h.1, others)
    by_kind false others = rise-later n c.end (filter (λ part. is_token part.kind) parts) (omega (arith, h.0, h.1)) others

tokens-rise : (text : List ℕ) → Rise 0 (tokens_of text)
tokens-rise text =
    let are = tokens-are text in
    subst (Rise 0) (sym are.2) (filter-rise 0 are.0 (subst (λ n. Rise n are.0) (omega arith) (parts-rise (length text) text are.0 (omega arith) are.1)))

-- the tokens at the front of texts that begin alike
pub begun-alike : (text other : List ℕ) (front behind others : List Token) → BeginAlike text other front behind others → Alikes text other front
begun-alike text other front behind others begin =
    alikes-rise text other (end_of front) 0 front begin.bytes (omega arith) (rise-front 0 front behind (subst (Rise 0) begin.tokens (tokens-rise text)))

-- further tokens end later
rise-longer : (n : ℕ) (front more : List Token) → Rise n (front ++ more) → end_of front ≤ end_of (front ++ more)
rise-longer n [] more h = omega arith
rise-longer n (c ∷ []) more h = rise-end c more h.2
rise-longer n (c ∷ d ∷ front) more h = rise-longer c.end (d ∷ front) more h.2

-- texts that begin alike begin alike up to each earlier token
pub begun-fewer : (text other : List ℕ) (front more behind others : List Token) → BeginAlike text other (front ++ more) behind others → BeginAlike text other front (more ++ behind) (more ++ others)
begun-fewer text other front more behind others begin =
    let less = rise-longer 0 front more (rise-front 0 (front ++ more) behind (subst (Rise 0) begin.tokens (tokens-rise text))) in
    record {
      tokens = begin.tokens ∙ append_assoc front more behind;
      other_tokens = begin.other_tokens ∙ append_assoc front more others;
      bytes = sym (take-take (end_of front) (end_of (front ++ more)) text less) ∙ ap (take (end_of front)) begin.bytes ∙ take-take (end_of front) (end_of (front ++ more)) other less;
    }
