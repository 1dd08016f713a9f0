-- The type of a column, and the value of DEFAULT.
use Rattle.std.proofs.Common.{◌≡◌, ℕ, Bool, true, false, ◌==◌, ◌&&◌, ◌||◌, List, [], ◌∷◌, ◌++◌, refl, sym, ap, ◌∙◌, inl, inr}
use Rattle.std.specs.Prelude.{IsTrue, Some, None, slice_index, codes}
use Rattle.std.proofs.Math.Bool.{and-false}
use Rattle.schema_spec.specs.declared.token.Token.{Token}
use Rattle.schema_spec.specs.Words.{is_keyword, is_type_word, is_sign, is_number_token, is_hex_content, is_blob, is_literal}
use Rattle.schema_spec.specs.Fronts.{Front, Behind, Stops, ◌>>=◌, begins, one, either}
use Rattle.schema_spec.specs.ColumnGrammar.{sign, at_sign, signed_number, type_numbers, column_type, at_blob, default_value}
use Rattle.grammar_laws.specs.Lexemes.{is_whole}
use Rattle.grammar_laws.specs.TestsLaws.{Respects, none, or_test, sign-respects, number-respects, type-respects, literal-respects, or-respects, blob-respects, sign-whole, number-whole, type-whole, literal-whole, x-literal, hex-whole, sign-not_hex, keyword-not_hex}
use Rattle.grammar_laws.specs.ProductionsLaws.{none-first, Alikes, Same, Part, Tests, chosen-first, chosen-second, part-same, part-one, part-then, choice-part}
use Rattle.misfit_laws.proofs.Fillers.{Capitals, Opening, Closing, Plus, Digit, lexeme, token_of, AreFillers}
use Rattle.misfit_laws.proofs.Continuing.{Anything, Apart, Passed, Continues, longer, nothing-left, behind-same, continues-fewer, one-taken, one-stopped, one-passes, continues-one, continues-then, continues-before, continues-made}
use Rattle.misfit_laws.proofs.Choosing.{continues-either, continues-maybe, continues-maybe_then}
use Rattle.misfit_laws.proofs.Following.{apart-sign, apart-type}
use Rattle.misfit_laws.proofs.Skips.{bracketed-continues, last_type_word-continues}
use Rattle.misfit_laws.proofs.Lists.{a_name, keyword-respects, opening-continues, closing-continues, comma-continues}

abbrev plus_or_minus : List ℕ → Token → Bool
plus_or_minus = or_test (is_sign 43) (is_sign 45)

plus_or_minus-respects : Respects plus_or_minus
plus_or_minus-respects = or-respects (is_sign 43) (is_sign 45) (sign-respects 43) (sign-respects 45)

plus_or_minus-whole : (text : List ℕ) (c : Token) → plus_or_minus text c ≡ true → IsTrue (is_whole c.kind)
plus_or_minus-whole text c e = by_plus (is_sign 43 text c) refl
  where
    by_plus : (b : Bool) → is_sign 43 text c ≡ b → IsTrue (is_whole c.kind)
    by_plus true f = sign-whole 43 text c f
    by_plus false f = sign-whole 45 text c (sym (ap (λ b. b || is_sign 45 text c) f) ∙ e)

signed_number-continues : Continues is_whole none plus_or_minus Anything false (Digit ∷ []) (λ text. signed_number text)
signed_number-continues =
    continues-maybe_then plus_or_minus plus_or_minus None plus_or_minus-respects (λ text c e. e) (λ text c e f. e) refl
    (continues-made Some (continues-one plus_or_minus plus_or_minus-respects plus_or_minus-whole Plus refl))
    (λ sign. continues-one is_number_token number-respects number-whole Digit refl)

second_number-continues : Continues is_whole none none Anything false (Closing ∷ [])
    (λ text. either (at_sign text 44) (λ all. sign text 44 all >>= λ comma rest. signed_number text rest >>= λ second rest. sign text 41 rest) (sign text 41))
second_number-continues =
    continues-either none (is_sign 44) (sign-respects 44) (λ text c e. e) (λ text c e f. refl) refl
    (continues-then comma-continues (λ comma. continues-then signed_number-continues (λ second. closing-continues))) closing-continues

type_numbers-continues : Continues is_whole none (is_sign 40) Anything false (Opening ∷ Digit ∷ Closing ∷ []) (λ text. type_numbers text)
type_numbers-continues = continues-then opening-continues (λ opening. continues-then signed_number-continues (λ first. second_number-continues))

pub column_type-continues : Continues is_whole none is_type_word Apart true [] (λ text. column_type text)
column_type-continues =
    continues-maybe is_type_word (0, 0) type-respects (λ text c e. e) apart-type
    (continues-then (continues-one is_type_word type-respects type-whole a_name refl) (λ first. continues-before (last_type_word-continues first) (λ last.
    continues-made (λ last. (first.start, last.end))
    (continues-maybe (is_sign 40) last (sign-respects 40) (λ text c e. e) (apart-sign 40 refl refl) (continues-fewer Apart (λ text rest h. tt) type_numbers-continues)))))

-- no blob without X
no-blob : (text : List ℕ) (x : Token) (tokens : List Token) → is_keyword (codes "X") text x ≡ false → begins (is_blob text x) tokens ≡ false
no-blob text x [] e = refl
no-blob text x (c ∷ tokens) e = ap (λ b. b && (c.start == x.end) && (slice_index text c.start == 39) && is_hex_content text c) e

blob-tests : Tests (is_keyword (codes "X")) (λ text. at_blob text)
blob-tests text other [] others next = absurd next
blob-tests text other (c ∷ tokens) [] next = absurd next
blob-tests text other (c ∷ tokens) (d ∷ others) next = elim next.2 [ inl p ↦ without p | inr q ↦ behind tokens others q ] ∙ ap (λ x. begins (is_blob other x) others) next.0
  where
    without : is_keyword (codes "X") text c ≡ false → begins (is_blob text c) tokens ≡ begins (is_blob other c) others
    without p = no-blob text c tokens p ∙ sym (no-blob other c others (sym (keyword-respects (codes "X") text other c c next.1) ∙ p))

    behind : (tokens others : List Token) → Same text other tokens others → begins (is_blob text c) tokens ≡ begins (is_blob other c) others
    behind [] others same = absurd same
    behind (x ∷ tokens) [] same = absurd same
    behind (x ∷ tokens) (y ∷ others) same = blob-respects text other c x next.1 same.1 ∙ ap (is_blob other c) same.0

and-first : (a b : Bool) → (a && b) ≡ true → a ≡ true
and-first true b h = refl
and-first false b h = absurd (cc)

and-last : (a b : Bool) → (a && b) ≡ true → b ≡ true
and-last true b h = h
and-last false b h = absurd (cc)

blob-begun : (text : List ℕ) (tokens : List Token) → at_blob text tokens ≡ true → begins (is_literal text) tokens ≡ true
blob-begun text [] e = absurd (cc)
blob-begun text (x ∷ []) e = absurd (cc)
blob-begun text (x ∷ c ∷ tokens) e =
    let three = and-first (is_keyword (codes "X") text x && (c.start == x.end) && (slice_index text c.start == 39)) (is_hex_content text c) e in
    let two = and-first (is_keyword (codes "X") text x && (c.start == x.end)) (slice_index text c.start == 39) three in
    x-literal text x (and-first (is_keyword (codes "X") text x) (c.start == x.end) two)

-- what is no literal is no X
not_literal-not_x : (text : List ℕ) (c : Token) → is_literal text c ≡ false → is_keyword (codes "X") text c ≡ false
not_literal-not_x text c e = by_word (is_keyword (codes "X") text c) refl
  where
    by_word : (b : Bool) → is_keyword (codes "X") text c ≡ b → b ≡ false
    by_word true h = let k = sym (x-literal text c h) ∙ e in absurd (cc)
    by_word false h = refl

abbrev literals : List ℕ → List Token → Front Token
literals text = either (at_blob text) (λ tokens. one (is_literal text) tokens >>= λ x rest. one (λ content. true) rest) (one (is_literal text))

-- the content of a blob is a token in quotes
abbrev hex_test : List ℕ → Token → Bool
hex_test text c = is_whole c.kind

blob-same : (text : List ℕ) (tokens : List Token)
    → literals text tokens ≡ either (at_blob text) (λ tokens. one (is_literal text) tokens >>= λ x rest. one (hex_test text) rest) (one (is_literal text)) tokens
blob-same text tokens = by_blob (at_blob text tokens) refl
  where
    behind : (tokens : List Token) → at_blob text tokens ≡ true → (one (is_literal text) tokens >>= λ x rest. one (λ content. true) rest) ≡ (one (is_literal text) tokens >>= λ x rest. one (hex_test text) rest)
    behind [] e = absurd (cc)
    behind (x ∷ []) e = absurd (cc)
    behind (x ∷ c ∷ rest) e =
        let literal : one (is_literal text) (x ∷ c ∷ rest) ≡ Behind x (c ∷ rest) = one-passes (is_literal text) x (c ∷ rest) (blob-begun text (x ∷ c ∷ rest) e) in
        ap (λ y. y >>= λ x rest. one (λ content. true) rest) literal
        ∙ sym (one-passes (hex_test text) c rest (hex-whole text c (and-last (is_keyword (codes "X") text x && (c.start == x.end) && (slice_index text c.start == 39)) (is_hex_content text c) e)))
        ∙ sym (ap (λ y. y >>= λ x rest. one (hex_test text) rest) literal)

    by_blob : (b : Bool) → at_blob text tokens ≡ b
        → (elim b as (λ _. Front Token) [ true ↦ (one (is_literal text) tokens >>= λ x rest. one (λ content. true) rest) | false ↦ one (is_literal text) tokens ])
        ≡ (elim b as (λ _. Front Token) [ true ↦ (one (is_literal text) tokens >>= λ x rest. one (hex_test text) rest) | false ↦ one (is_literal text) tokens ])
    by_blob true e = behind tokens e
    by_blob false e = refl

literals-part : Part is_whole none none literals
literals-part =
    part-same blob-same
    (choice-part is_whole none (is_keyword (codes "X")) none is_literal is_literal (λ text. at_blob text) (λ text tokens. one (is_literal text) tokens >>= λ x rest. one (hex_test text) rest) (λ text. one (is_literal text))
    blob-tests blob-begun not_literal-not_x (λ text tokens e f. none-first text tokens)
    (part-then (part-one is_literal literal-respects literal-whole) (λ x. part-one hex_test (λ text other c d alike. ap is_whole alike.kind) (λ text c e. e)))
    (part-one is_literal literal-respects literal-whole))

-- a blob takes two tokens, and another literal one
literal-alone : Continues is_whole none is_literal Anything false (Capitals (codes "NULL") refl ∷ []) (λ text. one (is_literal text))
literal-alone = continues-one is_literal literal-respects literal-whole (Capitals (codes "NULL") refl) refl

blob-free : (text : List ℕ) (x : Token) (rest : List Token) → Apart text rest → begins (is_blob text x) rest ≡ false
blob-free text x [] h = refl
blob-free text x (c ∷ rest) h = ap (λ b. is_keyword (codes "X") text x && (c.start == x.end) && (slice_index text c.start == 39) && b) (no-hex h) ∙ and-false (is_keyword (codes "X") text x && (c.start == x.end) && (slice_index text c.start == 39))
  where
    no-hex : Apart text (c ∷ rest) → is_hex_content text c ≡ false
    no-hex (inl (inl h)) = sign-not_hex 41 text c h
    no-hex (inl (inr h)) = sign-not_hex 44 text c h
    no-hex (inr h) = keyword-not_hex (codes "NOT") text c h.0

abbrev two_tokens : List ℕ → List Token → Front Token
two_tokens text tokens = one (is_literal text) tokens >>= λ x rest. one (λ content. true) rest

blob-taken : (text : List ℕ) (x c : Token) (rest : List Token) → is_blob text x c ≡ true → literals text (x ∷ c ∷ rest) ≡ Behind c rest
blob-taken text x c rest e =
    chosen-first (at_blob text) (two_tokens text) (one (is_literal text)) (x ∷ c ∷ rest) e
    ∙ ap (λ y. y >>= λ x rest. one (λ content. true) rest) (one-passes (is_literal text) x (c ∷ rest) (blob-begun text (x ∷ c ∷ rest) e))

-- a blob is taken
blob-some : (text : List ℕ) (rest : List Token) (a : Token) → at_blob text rest ≡ true → literals text rest ≡ Behind a rest → ⊥
blob-some text [] a e is = absurd (cc)
blob-some text (x ∷ []) a e is = absurd (cc)
blob-some text (x ∷ c ∷ rest) a e is = longer x (c ∷ []) rest (sym (behind-same c a rest (x ∷ c ∷ rest) (sym (blob-taken text x c rest e) ∙ is)).1)

blob-goes : (text : List ℕ) (tokens rest : List Token) → at_blob text tokens ≡ true → literals text tokens ≡ Stops rest → ⊥
blob-goes text [] rest e is = absurd (cc)
blob-goes text (x ∷ []) rest e is = absurd (cc)
blob-goes text (x ∷ c ∷ tokens) rest e is = let wrong = sym (blob-taken text x c tokens e) ∙ is in absurd (cc)

literals-one : (text : List ℕ) (tokens : List Token) → at_blob text tokens ≡ false → literals text tokens ≡ one (is_literal text) tokens
literals-one text tokens e = chosen-second (at_blob text) (two_tokens text) (one (is_literal text)) tokens e

-- one literal is no blob before what follows
alone-no_blob : (text other : List ℕ) (front rest more : List Token) (a : Token) → one (is_literal text) (front ++ rest) ≡ Behind a rest → Apart other more → at_blob other (front ++ more) ≡ false
alone-no_blob text other [] rest more a e follows = let wrong : ◌≡◌ {A = Bool} false true = literal-alone.empty text rest a e in absurd (cc)
alone-no_blob text other (x ∷ []) rest more a e follows = blob-free other x more follows
alone-no_blob text other (x ∷ d ∷ front) rest more a e follows =
    let whole : x ∷ ((d ∷ front) ++ rest) ≡ a ∷ rest = one-taken (is_literal text) ((x ∷ d ∷ front) ++ rest) a rest e in
    let tail : (d ∷ front) ++ rest ≡ rest = cc in absurd (longer d front rest tail)

literals-kept : (text other : List ℕ) (front rest more : List Token) (a : Token) (b : Bool) → at_blob text (front ++ rest) ≡ b → literals text (front ++ rest) ≡ Behind a rest → Alikes text other front → Apart other more
    → literals other (front ++ more) ≡ Behind a more
literals-kept text other front rest more a false e is alikes follows =
    let alone : one (is_literal text) (front ++ rest) ≡ Behind a rest = sym (literals-one text (front ++ rest) e) ∙ is in
    literals-one other (front ++ more) (alone-no_blob text other front rest more a alone follows) ∙ literal-alone.kept text other front rest more a alone alikes tt
literals-kept text other [] rest more a true e is alikes follows = absurd (blob-some text rest a e is)
literals-kept text other (x ∷ []) [] more a true e is alikes follows = absurd (cc)
literals-kept text other (x ∷ []) (c ∷ rest) more a true e is alikes follows =
    absurd (longer c [] rest (sym (behind-same c a rest (c ∷ rest) (sym (blob-taken text x c rest e) ∙ is)).1))
literals-kept text other (x ∷ c ∷ front) rest more a true e is alikes follows =
    let (same, left) = behind-same c a (front ++ rest) rest (sym (blob-taken text x c (front ++ rest) e) ∙ is) in
    blob-taken other x c (front ++ more) (sym (blob-respects text other x c alikes.0 alikes.1.0) ∙ e)
    ∙ ap (λ f. Behind c (f ++ more)) (nothing-left front rest left) ∙ ap (λ v. Behind v more) same

literals-continues : Continues is_whole none none Apart false (Capitals (codes "NULL") refl ∷ []) literals
literals-continues = record {
  part = literals-part;
  fresh = fresh_literal;
  kept = λ text other front rest more a e alikes follows. literals-kept text other front rest more a (at_blob text (front ++ rest)) refl e alikes follows;
  empty = λ text rest a e. empty_literal text rest a (at_blob text rest) refl e;
  mended = λ text c front rest e. absurd (stops_first text ((c ∷ front) ++ rest) c front rest refl (at_blob text ((c ∷ front) ++ rest)) refl e);
}
  where
    fresh_literal : (other : List ℕ) (others more : List Token) → AreFillers other (Capitals (codes "NULL") refl ∷ []) others → Apart other more → Passed (literals other (others ++ more)) more
    fresh_literal other [] more fillers follows = absurd fillers
    fresh_literal other (c ∷ []) more fillers follows =
        let no_x : is_keyword (codes "X") other c ≡ false = keyword-respects (codes "X") other (codes "NULL") c (token_of (lexeme (Capitals (codes "NULL") refl))) fillers.0 in
        let (a, is) = literal-alone.fresh other (c ∷ []) more fillers tt in (a, literals-one other (c ∷ more) (no-blob other c more no_x) ∙ is)
    fresh_literal other (c ∷ d ∷ others) more fillers follows = absurd fillers.1

    empty_literal : (text : List ℕ) (rest : List Token) (a : Token) (b : Bool) → at_blob text rest ≡ b → literals text rest ≡ Behind a rest → false ≡ true
    empty_literal text rest a true e is = absurd (blob-some text rest a e is)
    empty_literal text rest a false e is = literal-alone.empty text rest a (sym (literals-one text rest e) ∙ is)

    stops_first : (text : List ℕ) (tokens : List Token) (c : Token) (front rest : List Token) → tokens ≡ (c ∷ front) ++ rest → (b : Bool) → at_blob text tokens ≡ b → literals text tokens ≡ Stops rest → ⊥
    stops_first text tokens c front rest whole true e is = blob-goes text tokens rest e is
    stops_first text tokens c front rest whole false e is = longer c front rest (sym whole ∙ one-stopped (is_literal text) tokens rest (sym (literals-one text tokens e) ∙ is))

pub default_value-continues : Continues is_whole none none Apart false (Capitals (codes "NULL") refl ∷ []) (λ text. default_value text)
default_value-continues =
    continues-either none (is_sign 40) (sign-respects 40) (λ text c e. e) (λ text c e f. refl) refl (continues-fewer Apart (λ text rest h. tt) bracketed-continues)
    (continues-either none plus_or_minus plus_or_minus-respects (λ text c e. e) (λ text c e f. refl) refl (continues-fewer Apart (λ text rest h. tt) signed_number-continues) literals-continues)
