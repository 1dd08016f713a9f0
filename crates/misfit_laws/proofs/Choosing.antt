-- One of two productions, a thing or nothing, and a token or none.
use Rattle.std.proofs.Common.{◌≡◌, ℕ, Bool, true, false, ◌&&◌, ◌||◌, List, [], ◌∷◌, ◌++◌, refl, sym, ap, ◌∙◌, inl, inr}
use Rattle.std.specs.Prelude.{IsTrue, Some, None}
use Rattle.schema_spec.specs.declared.token.TokenKind.{TokenKind}
use Rattle.schema_spec.specs.declared.token.Token.{Token}
use Rattle.schema_spec.specs.Fronts.{Front, Behind, Stops, ◌>>=◌, begins, either, nothing, optional, ended}
use Rattle.grammar_laws.specs.TestsLaws.{Respects, none}
use Rattle.grammar_laws.specs.ProductionsLaws.{Alikes, Tests, tests-one, chosen-first, chosen-second, part-either, part-or_nothing, part-ended}
use Rattle.misfit_laws.proofs.Fillers.{Filler, lexeme, token_of, AreFillers}
use Rattle.misfit_laws.proofs.Continuing.{Anything, Ends, Passed, OneTaken, Mended, Continues, longer, nothing-left, first-none, behind-same, continues-same, continues-fewer, continues-one, continues-then, continues-made}

begun-one : (at t : List ℕ → Token → Bool) → ((text : List ℕ) (c : Token) → t text c ≡ true → at text c ≡ true) → (text : List ℕ) (tokens : List Token) → begins (t text) tokens ≡ true → begins (at text) tokens ≡ true
begun-one at t begun text [] e = e
begun-one at t begun text (c ∷ tokens) e = begun text c e

-- one of two, by a token
module _ {A : Type 0} (K : TokenKind → Bool) (looks at at1 at2 t : List ℕ → Token → Bool) (F : List ℕ → List Token → Type 0) (may1 may2 : Bool) (short1 short2 : List Filler)
    (P Q : List ℕ → List Token → Front A) (respects : Respects t)
    (begun : (text : List ℕ) (c : Token) → t text c ≡ true → at1 text c ≡ true) (fewer : (text : List ℕ) (c : Token) → t text c ≡ false → at2 text c ≡ false → at text c ≡ false)
    (second : (text : List ℕ) (tokens rest : List Token) → AreFillers text short2 tokens → F text rest → begins (t text) (tokens ++ rest) ≡ false)
    (without : (text : List ℕ) (rest : List Token) → may2 ≡ true → F text rest → begins (t text) rest ≡ false)
    (p : Continues K looks at1 F may1 short1 P) (q : Continues K looks at2 F may2 short2 Q) where
  abbrev choice : List ℕ → List Token → Front A
  choice text = either (begins (t text)) (P text) (Q text)

  abbrev chosen : Bool → List ℕ → List Token → Front A
  chosen b text tokens = elim b as (λ _. Front A) [ true ↦ P text tokens | false ↦ Q text tokens ]

  test-again : (text other : List ℕ) (c : Token) (front : List Token) (b : Bool) → t text c ≡ b → Alikes text other (c ∷ front) → t other c ≡ b
  test-again text other c front b e alikes = sym (respects text other c c alikes.0) ∙ e

  choice-kept : (text other : List ℕ) (front rest more : List Token) (b : Bool) → begins (t text) (front ++ rest) ≡ b → (a : A) → chosen b text (front ++ rest) ≡ Behind a rest → Alikes text other front → F other more
      → choice other (front ++ more) ≡ Behind a more
  choice-kept text other [] rest more true test a e alikes follows = let wrong = sym (begun-one at1 t begun text rest test) ∙ first-none p.part text rest a e in absurd (cc)
  choice-kept text other [] rest more false test a e alikes follows =
      chosen-second (begins (t other)) (P other) (Q other) more (without other more (q.empty text rest a e) follows) ∙ q.kept text other [] rest more a e alikes follows
  choice-kept text other (c ∷ front) rest more true test a e alikes follows =
      chosen-first (begins (t other)) (P other) (Q other) (c ∷ (front ++ more)) (test-again text other c front true test alikes) ∙ p.kept text other (c ∷ front) rest more a e alikes follows
  choice-kept text other (c ∷ front) rest more false test a e alikes follows =
      chosen-second (begins (t other)) (P other) (Q other) (c ∷ (front ++ more)) (test-again text other c front false test alikes) ∙ q.kept text other (c ∷ front) rest more a e alikes follows

  choice-empty : (text : List ℕ) (rest : List Token) (b : Bool) (a : A) → chosen b text rest ≡ Behind a rest → (may1 || may2) ≡ true
  choice-empty text rest true a e = ap (λ m. m || may2) (p.empty text rest a e)
  choice-empty text rest false a e = either_true may1 may2 (q.empty text rest a e)
    where
      either_true : (x y : Bool) → y ≡ true → (x || y) ≡ true
      either_true true y e = refl
      either_true false y e = e

  choice-mended : (text : List ℕ) (c : Token) (front rest : List Token) (b : Bool) → t text c ≡ b → chosen b text ((c ∷ front) ++ rest) ≡ Stops rest → Mended K looks at F (may1 || may2) short2 choice text (c ∷ front)
  choice-mended text c front rest true test e =
      let (w, go) = p.mended text c front rest e in (
        w,
        λ other others more alikes fillers follows.
            let (a, is) = go other others more alikes fillers follows in
            (a, chosen-first (begins (t other)) (P other) (Q other) ((c ∷ front) ++ (others ++ more)) (test-again text other c front true test alikes) ∙ is),
      )
  choice-mended text c front rest false test e =
      let (w, go) = q.mended text c front rest e in (
        w,
        λ other others more alikes fillers follows.
            let (a, is) = go other others more alikes fillers follows in
            (a, chosen-second (begins (t other)) (P other) (Q other) ((c ∷ front) ++ (others ++ more)) (test-again text other c front false test alikes) ∙ is),
      )

  pub continues-choice : Continues K looks at F (may1 || may2) short2 choice
  continues-choice = record {
    part = part-either at t respects begun fewer p.part q.part;
    fresh = λ other others more fillers follows.
        let (a, is) = q.fresh other others more fillers follows in (a, chosen-second (begins (t other)) (P other) (Q other) (others ++ more) (second other others more fillers follows) ∙ is);
    kept = λ text other front rest more a e alikes follows. choice-kept text other front rest more (begins (t text) (front ++ rest)) refl a e alikes follows;
    empty = λ text rest a e. choice-empty text rest (begins (t text) rest) a e;
    mended = λ text c front rest e. choice-mended text c front rest (t text c) refl e;
  }

-- one of two that take something, by a token, of which the second's own first token is none
pub continues-either : {A : Type 0} {K : TokenKind → Bool} {looks at1 at2 : List ℕ → Token → Bool} {F : List ℕ → List Token → Type 0} {may1 : Bool} {short1 short2 : List Filler} {f : Filler}
    {P Q : List ℕ → List Token → Front A} (at t : List ℕ → Token → Bool) → Respects t
    → ((text : List ℕ) (c : Token) → t text c ≡ true → at1 text c ≡ true) → ((text : List ℕ) (c : Token) → t text c ≡ false → at2 text c ≡ false → at text c ≡ false)
    → t (lexeme f).bytes (token_of (lexeme f)) ≡ false
    → Continues K looks at1 F may1 short1 P → Continues K looks at2 F false (f ∷ short2) Q → Continues K looks at F (may1 || false) (f ∷ short2) (λ text. either (begins (t text)) (P text) (Q text))
continues-either {A} {K} {looks} {at1} {at2} {F} {may1} {short1} {short2} {f} {P} {Q} at t respects begun fewer other p q =
    continues-choice K looks at at1 at2 t F may1 false short1 (f ∷ short2) P Q respects begun fewer second (λ text rest none follows. absurd (cc)) p q
  where
    second : (text : List ℕ) (tokens rest : List Token) → AreFillers text (f ∷ short2) tokens → F text rest → begins (t text) (tokens ++ rest) ≡ false
    second text [] rest fillers follows = absurd fillers
    second text (c ∷ tokens) rest fillers follows = respects text (lexeme f).bytes c (token_of (lexeme f)) fillers.0 ∙ other

-- a thing or nothing, by a test that may look at two tokens, of which the thing takes more than one then
module _ {A : Type 0} (K : TokenKind → Bool) (looks at at1 : List ℕ → Token → Bool) (F : List ℕ → List Token → Type 0) (may : Bool) (short : List Filler)
    (test : List ℕ → List Token → Bool) (P : List ℕ → List Token → Front A) (a : A) (tests : Tests looks test)
    (begun : (text : List ℕ) (tokens : List Token) → test text tokens ≡ true → begins (at1 text) tokens ≡ true)
    (always : (text : List ℕ) (tokens : List Token) → test text tokens ≡ false → begins (at text) tokens ≡ false)
    (free : (text : List ℕ) (rest : List Token) → F text rest → test text rest ≡ false)
    (long : (text : List ℕ) (c : Token) (rest : List Token) → test text (c ∷ rest) ≡ true → looks text c ≡ true → OneTaken (P text (c ∷ rest)) rest → ⊥)
    (p : Continues K none at1 F may short P) where
  abbrev maybe : List ℕ → List Token → Front A
  maybe text = either (test text) (P text) (nothing a)

  abbrev may_be : Bool → List ℕ → List Token → Front A
  may_be b text tokens = elim b as (λ _. Front A) [ true ↦ P text tokens | false ↦ Behind a tokens ]

  still-begun : (text other : List ℕ) (c : Token) (front rest more : List Token) → test text (c ∷ (front ++ rest)) ≡ true → OneTaken (P text (c ∷ (front ++ rest))) rest → Alikes text other (c ∷ front)
      → test other (c ∷ (front ++ more)) ≡ true
  still-begun text other c (d ∷ front) rest more e one alikes = sym (tests text other (c ∷ d ∷ (front ++ rest)) (c ∷ d ∷ (front ++ more)) (refl, alikes.0, inr (refl, alikes.1.0))) ∙ e
  still-begun text other c [] rest more e one alikes = by_look (looks text c) refl
    where
      by_look : (b : Bool) → looks text c ≡ b → test other (c ∷ more) ≡ true
      by_look true look = absurd (long text c rest e look one)
      by_look false look = sym (tests text other (c ∷ rest) (c ∷ more) (refl, alikes.0, inl look)) ∙ e

  maybe-kept : (text other : List ℕ) (front rest more : List Token) (b : Bool) → test text (front ++ rest) ≡ b → (v : A) → may_be b text (front ++ rest) ≡ Behind v rest → Alikes text other front → F other more
      → maybe other (front ++ more) ≡ Behind v more
  maybe-kept text other [] rest more true e v is alikes follows = let wrong = sym (begun text rest e) ∙ first-none p.part text rest v is in absurd (cc)
  maybe-kept text other (c ∷ front) rest more true e v is alikes follows =
      chosen-first (test other) (P other) (nothing a) (c ∷ (front ++ more)) (still-begun text other c front rest more e (inl (v, is)) alikes) ∙ p.kept text other (c ∷ front) rest more v is alikes follows
  maybe-kept text other front rest more false e v is alikes follows =
      let (same, left) = behind-same a v (front ++ rest) rest is in
      ap (λ f. maybe other (f ++ more)) (nothing-left front rest left) ∙ chosen-second (test other) (P other) (nothing a) more (free other more follows) ∙ ap (λ x. Behind x more) same

  maybe-mended : (text : List ℕ) (c : Token) (front rest : List Token) (b : Bool) → test text ((c ∷ front) ++ rest) ≡ b → may_be b text ((c ∷ front) ++ rest) ≡ Stops rest → Mended K looks at F true [] maybe text (c ∷ front)
  maybe-mended text c front rest true e is =
      let (w, go) = p.mended text c front rest is in (
        w,
        λ other others more alikes fillers follows.
            let (v, done) = go other others more alikes fillers follows in
            (v, chosen-first (test other) (P other) (nothing a) ((c ∷ front) ++ (others ++ more)) (still-begun text other c front rest (others ++ more) e (inr is) alikes) ∙ done),
      )
  maybe-mended text c front rest false e is = absurd (cc)

  maybe-fresh : (other : List ℕ) (others more : List Token) → AreFillers other [] others → F other more → Passed (maybe other (others ++ more)) more
  maybe-fresh other [] more fillers follows = (a, chosen-second (test other) (P other) (nothing a) more (free other more follows))
  maybe-fresh other (c ∷ others) more fillers follows = absurd fillers

  pub continues-or_nothing : Continues K looks at F true [] maybe
  continues-or_nothing = record {
    part = part-or_nothing looks at test a tests begun always p.part;
    fresh = maybe-fresh;
    kept = λ text other front rest more v e alikes follows. maybe-kept text other front rest more (test text (front ++ rest)) refl v e alikes follows;
    empty = λ text rest v e. refl;
    mended = λ text c front rest e. maybe-mended text c front rest (test text ((c ∷ front) ++ rest)) refl e;
  }

-- a thing that begins with a token, or nothing
pub continues-maybe : {A : Type 0} {K : TokenKind → Bool} {at1 : List ℕ → Token → Bool} {F : List ℕ → List Token → Type 0} {may : Bool} {short : List Filler} {P : List ℕ → List Token → Front A}
    (t : List ℕ → Token → Bool) (a : A) → Respects t → ((text : List ℕ) (c : Token) → t text c ≡ true → at1 text c ≡ true) → ((text : List ℕ) (rest : List Token) → F text rest → begins (t text) rest ≡ false)
    → Continues K none at1 F may short P → Continues K none t F true [] (λ text. either (begins (t text)) (P text) (nothing a))
continues-maybe {A} {K} {at1} {F} {may} {short} {P} t a respects begun free p =
    continues-or_nothing K none t at1 F may short (λ text. begins (t text)) P a (tests-one t respects) (begun-one at1 t begun) (λ text tokens e. e) free (λ text c rest e look one. absurd (cc)) p

-- a token or none
pub continues-optional : {K : TokenKind → Bool} {F : List ℕ → List Token → Type 0} (t : List ℕ → Token → Bool) → Respects t → ((text : List ℕ) (c : Token) → t text c ≡ true → IsTrue (K c.kind))
    → ((text : List ℕ) (rest : List Token) → F text rest → begins (t text) rest ≡ false) → (f : Filler) → t (lexeme f).bytes (token_of (lexeme f)) ≡ true → Continues K none t F true [] (λ text. optional (t text))
continues-optional {K} {F} t respects kind free f passes =
    continues-maybe t None respects (λ text c e. e) free (continues-made Some (continues-fewer F (λ text rest h. tt) (continues-one t respects kind f passes)))

-- a thing or nothing, and the next behind it, which takes something
pub continues-maybe_then : {A B : Type 0} {K : TokenKind → Bool} {looks at1 at2 : List ℕ → Token → Bool} {F : List ℕ → List Token → Type 0} {may : Bool} {short1 short2 : List Filler} {f : Filler}
    {P : List ℕ → List Token → Front A} {Q : A → List ℕ → List Token → Front B} (at t : List ℕ → Token → Bool) (a : A) → Respects t
    → ((text : List ℕ) (c : Token) → t text c ≡ true → at1 text c ≡ true) → ((text : List ℕ) (c : Token) → t text c ≡ false → at2 text c ≡ false → at text c ≡ false)
    → t (lexeme f).bytes (token_of (lexeme f)) ≡ false
    → Continues K none at1 Anything may short1 P → ((a : A) → Continues K looks at2 F false (f ∷ short2) (Q a))
    → Continues K looks at F ((may && false) || false) (f ∷ short2) (λ text tokens. either (begins (t text)) (P text) (nothing a) tokens >>= λ a rest. Q a text rest)
continues-maybe_then {A} {B} {K} {looks} {at1} {at2} {F} {may} {short1} {short2} {f} {P} {Q} at t a respects begun fewer other p q =
    continues-same spread (continues-either at t respects begun fewer other (continues-then p q) (q a))
  where
    spread_by : (text : List ℕ) (tokens : List Token) (b : Bool)
        → ((elim b as (λ _. Front A) [ true ↦ P text tokens | false ↦ Behind a tokens ]) >>= λ a rest. Q a text rest)
        ≡ (elim b as (λ _. Front B) [ true ↦ (P text tokens >>= λ a rest. Q a text rest) | false ↦ Q a text tokens ])
    spread_by text tokens true = refl
    spread_by text tokens false = refl

    spread : (text : List ℕ) (tokens : List Token) → (either (begins (t text)) (P text) (nothing a) tokens >>= λ a rest. Q a text rest) ≡ either (begins (t text)) (λ all. P text all >>= λ a rest. Q a text rest) (Q a text) tokens
    spread text tokens = spread_by text tokens (begins (t text) tokens)

-- the end of the text
pub continues-ended : {A : Type 0} {K : TokenKind → Bool} (a : A) → Continues K none none Ends true [] (λ text. ended a)
continues-ended {A} {K} a = record {
  part = part-ended a;
  fresh = fresh_ended;
  kept = kept_ended;
  empty = λ text rest b e. refl;
  mended = λ text c front rest e. let same : (c ∷ front) ++ rest ≡ rest = cc in absurd (longer c front rest same);
}
  where
    fresh_ended : (other : List ℕ) (others more : List Token) → AreFillers other [] others → Ends other more → Passed (ended a (others ++ more)) more
    fresh_ended other [] more fillers follows = (a, ap (ended a) follows ∙ ap (λ x. Behind a x) (sym follows))
    fresh_ended other (c ∷ others) more fillers follows = absurd fillers

    kept_ended : (text other : List ℕ) (front rest more : List Token) (b : A) → ended a (front ++ rest) ≡ Behind b rest → Alikes text other front → Ends other more → ended a (front ++ more) ≡ Behind b more
    kept_ended text other [] [] more b e alikes follows = ap (ended a) follows ∙ e ∙ ap (λ x. Behind b x) (sym follows)
    kept_ended text other [] (c ∷ rest) more b e alikes follows = absurd (cc)
    kept_ended text other (c ∷ front) rest more b e alikes follows = absurd (cc)
