use Rattle.std.proofs.Common.{◌≡◌, ◌≢◌, ◌-◌, ◌==◌, ℕ, Bool, true, false, if◌then◌else◌, List, [], ◌∷◌, ◌++◌, length, filter, refl, sym, ap, subst, ◌∙◌, append_assoc, append-nil, arith, eqb-true, zero, suc, ◌<◌, ◌≤◌}
use Rattle.schema_spec.specs.declared.token.TokenKind.{TokenKind}
use Rattle.schema_spec.specs.declared.token.Token.{Token}
use Rattle.schema_spec.specs.Tokens.{AreTokens, AreParts, first_part, is_token}
use Rattle.schema_spec.specs.TokensLaws.{tokens-one}
use Rattle.common_spec.specs.ReadingLaws.{Reads-one}
use Rattle.schema_tokens.proofs.tokenizer.tokens.Goals as goal

-- a part with the parts of what is left behind it
parts-next : (size : ℕ) (left behind : List ℕ) (kind : TokenKind) → left ≢ [] → kind ≡ (first_part left).0 → behind ≡ (first_part left).1
    → (rest : List Token) → AreParts size behind rest → AreParts size left (record { kind = kind; start = size - length left; end = size - length behind } ∷ rest)
parts-next size left behind kind n k b rest h = (n, k, refl, ap (λ text. size - length text) b, subst (λ text. AreParts size text rest) b h)

not_empty : (left : List ℕ) → (length left == 0) ≡ false → left ≢ []
not_empty left e n = let z : (length left == 0) ≡ true = ap (λ text. length text == 0) n in let f : ◌≡◌ {A = Bool} true false = sym z ∙ e in absurd (cc)

empty : (left : List ℕ) → (length left == 0) ≡ true → left ≡ []
empty [] e = refl
empty (b ∷ left) e = absurd (let f = eqb-true (length (b ∷ left)) 0 e in omega (arith, f))

positive : (n : ℕ) → (n == 0) ≡ false → 0 < n
positive zero e = absurd (let f : ◌≡◌ {A = Bool} true false = e in cc)
positive (suc n) e = omega arith

filter-in : (part : Token) (rest : List Token) → is_token part.kind ≡ true → filter (λ part. is_token part.kind) (part ∷ rest) ≡ part ∷ filter (λ part. is_token part.kind) rest
filter-in part rest e = ap (λ t. if t then (part ∷ filter (λ part. is_token part.kind) rest) else filter (λ part. is_token part.kind) rest) e

filter-out : (part : Token) (rest : List Token) → is_token part.kind ≡ false → filter (λ part. is_token part.kind) (part ∷ rest) ≡ filter (λ part. is_token part.kind) rest
filter-out part rest e = ap (λ t. if t then (part ∷ filter (λ part. is_token part.kind) rest) else filter (λ part. is_token part.kind) rest) e

pub returns : goal.returns
returns c =
    let whole = c.loop-left.invariant.completes [] (empty c.loop-left.left.now (sym c.is_empty.ensures ∙ c.loop-left-test.false)) in
    Reads-one (AreTokens c.args.text.now) _ (λ a b p q. tokens-one c.args.text.now a b p q) (whole.0, whole.1, sym (whole.2 ∙ append-nil c.loop-left.tokens.items))

-- the part of this kind at the front of what is left of a text of so many bytes
abbrev part_at : ℕ → TokenKind → List ℕ → List ℕ → Token
part_at size kind left behind = record { kind = kind; start = size - length left; end = size - length behind }

abbrev tokens_among : List Token → List Token
tokens_among parts = filter (λ part. is_token part.kind) parts

-- the parts of what is left complete those of the text
abbrev Completes : List ℕ → List ℕ → List Token → Type 0
Completes text left items =
    (rest : List Token) → AreParts (length text) left rest → (parts : List Token) × AreParts (length text) text parts × (tokens_among parts ≡ items ++ tokens_among rest)

completes-more : (text left behind : List ℕ) (kind : TokenKind) (items more : List Token) → (length left == 0) ≡ false → kind ≡ (first_part left).0 → behind ≡ (first_part left).1
    → ((rest : List Token) → items ++ tokens_among (part_at (length text) kind left behind ∷ rest) ≡ more ++ tokens_among rest) → Completes text left items → Completes text behind more
completes-more text left behind kind items more n k b moves completes rest h =
    let whole = completes (part_at (length text) kind left behind ∷ rest) (parts-next (length text) left behind kind (not_empty left n) k b rest h) in
    (whole.0, whole.1, whole.2 ∙ moves rest)

shorter-more : (text left behind : List ℕ) → (length left == 0) ≡ false → (0 < length left → length behind < length left) → length left ≤ length text → length behind ≤ length text
shorter-more text left behind e less h = let s = less (positive (length left) e) in omega (arith, h, s)

pub loop-left-preserved : goal.loop-left-preserved
loop-left-preserved c =
    let left = sym c.is_empty.ensures ∙ c.loop-left-test.true in
    let items = c.loop-left.tokens.items in record {
      completes = completes-more c.args.text.now _ _ _ items items left c.first_part-kind.ensures.kind c.first_part-kind.ensures.behind
          (λ rest. ap (λ x. items ++ x) (filter-out _ rest (sym c.is_token.ensures ∙ c.if-is_token.false))) c.loop-left.invariant.completes;
      shorter = shorter-more _ _ _ left c.first_part-kind.ensures.shorter c.loop-left.invariant.shorter;
    }

pub loop-left-preserved-in_ok-push : goal.loop-left-preserved-in_ok-push
loop-left-preserved-in_ok-push c =
    let left = sym c.is_empty.ensures ∙ c.loop-left-test.true in
    let items = c.loop-left.tokens.items in record {
      completes = completes-more c.args.text.now _ _ _ items _ left c.first_part-kind.ensures.kind c.first_part-kind.ensures.behind
          (λ rest.
          ap (λ x. items ++ x) (filter-in _ rest (sym c.is_token.ensures ∙ c.if-is_token.true)) ∙ sym (append_assoc items _ (tokens_among rest))
          ∙ ap (λ x. x ++ tokens_among rest) (sym c.in_ok-push.ensures.items))
          c.loop-left.invariant.completes;
      shorter = shorter-more _ _ _ left c.first_part-kind.ensures.shorter c.loop-left.invariant.shorter;
    }
