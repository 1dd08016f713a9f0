-- What a production takes can go on: with tokens that complete it, and with whatever may follow it.
use Rattle.std.proofs.Common.{◌≡◌, ℕ, ◌<◌, Bool, true, false, ◌&&◌, ◌⊎◌, List, [], ◌∷◌, ◌++◌, length, refl, sym, ap, ◌∙◌, subst, inl, inr, arith, length-append}
use Rattle.std.proofs.Math.Path.{subst⁻¹}
use Rattle.std.proofs.lemmas.List.{append_assoc, append_cancel_right}
use Rattle.std.specs.Prelude.{IsTrue, IsFalse, codes, ⊤}
use Rattle.schema_spec.specs.declared.token.TokenKind.{TokenKind}
use Rattle.schema_spec.specs.declared.token.Token.{Token}
use Rattle.schema_spec.specs.Words.{is_sign, is_keyword}
use Rattle.schema_spec.specs.Fronts.{Front, Behind, Stops, ◌>>=◌, begins, one}
use Rattle.grammar_laws.specs.TestsLaws.{Respects, none, sign-respects}
use Rattle.grammar_laws.specs.ProductionsLaws.{Alikes, alikes-front, alikes-back, Same, Next, Outcome, Part, part-same, part-looks, part-one, part-nothing, part-then_taken, part-made}
use Rattle.misfit_laws.proofs.Fillers.{Filler, Closing, lexeme, token_of, AreFillers, fillers-split}

-- What may follow a production: anything, the end, a closing bracket, a comma too, or NOT too where no deferral begins.
abbrev pub Anything : List ℕ → List Token → Type 0
Anything text rest = ⊤

abbrev pub Ends : List ℕ → List Token → Type 0
Ends text rest = rest ≡ []

abbrev pub Closes : List ℕ → List Token → Type 0
Closes text rest = begins (is_sign 41 text) rest ≡ true

abbrev pub Bounded : List ℕ → List Token → Type 0
Bounded text [] = ⊤
Bounded text (c ∷ rest) = (is_sign 41 text c ≡ true) ⊎ (is_sign 44 text c ≡ true)

abbrev pub AtNot : List ℕ → List Token → Type 0
AtNot text [] = ⊥
AtNot text (c ∷ rest) = (is_keyword (codes "NOT") text c ≡ true) × (begins (is_keyword (codes "DEFERRABLE") text) rest ≡ false)

abbrev pub Apart : List ℕ → List Token → Type 0
Apart text rest = Bounded text rest ⊎ AtNot text rest

-- something is taken up to these tokens
abbrev pub Passed : {A : Type 0} → Front A → List Token → Type 0
Passed {A} x rest = (a : A) × (x ≡ Behind a rest)

-- F: what may follow. may: whether the production may take nothing. short: a text of it
module _ {A : Type 0} (K : TokenKind → Bool) (looks at : List ℕ → Token → Bool) (F : List ℕ → List Token → Type 0) (may : Bool) (short : List Filler) (P : List ℕ → List Token → Front A) where
  -- tokens that complete what was taken before a stop
  abbrev pub Mended : List ℕ → List Token → Type 0
  Mended text front = (w : List Filler) × ((other : List ℕ) (others more : List Token) → Alikes text other front → AreFillers other w others → F other more → Passed (P other (front ++ (others ++ more))) more)

  pub record Continues : Type 0 where
    pub part : Part K looks at P
    pub fresh : (other : List ℕ) (others more : List Token) → AreFillers other short others → F other more → Passed (P other (others ++ more)) more
    pub kept : (text other : List ℕ) (front rest more : List Token) (a : A) → P text (front ++ rest) ≡ Behind a rest → Alikes text other front → F other more → P other (front ++ more) ≡ Behind a more
    pub empty : (text : List ℕ) (rest : List Token) (a : A) → P text rest ≡ Behind a rest → may ≡ true
    pub mended : (text : List ℕ) (c : Token) (front rest : List Token) → P text ((c ∷ front) ++ rest) ≡ Stops rest → Mended text (c ∷ front)

pub longer : (c : Token) (front rest : List Token) → (c ∷ front) ++ rest ≡ rest → ⊥
longer c front rest e = let long : length ((c ∷ front) ++ rest) ≡ length rest = ap length e in omega (arith, long, length-append (c ∷ front) rest)

pub nothing-left : (front rest : List Token) → front ++ rest ≡ rest → front ≡ []
nothing-left [] rest e = refl
nothing-left (c ∷ front) rest e = absurd (longer c front rest e)

-- what a production takes and where it stops
pub taken : {A : Type 0} {K : TokenKind → Bool} {looks at : List ℕ → Token → Bool} {P : List ℕ → List Token → Front A} → Part K looks at P
    → (text : List ℕ) (tokens rest : List Token) (a : A) → P text tokens ≡ Behind a rest → (front : List Token) × (tokens ≡ front ++ rest)
taken {A} {K} {looks} {at} {P} part text tokens rest a e = let p = subst (λ x. Outcome K looks at P text tokens x) e (part.run text tokens) in (p.front, p.parted)

pub taken-stop : {A : Type 0} {K : TokenKind → Bool} {looks at : List ℕ → Token → Bool} {P : List ℕ → List Token → Front A} → Part K looks at P
    → (text : List ℕ) (tokens rest : List Token) → P text tokens ≡ Stops rest → (front : List Token) × (tokens ≡ front ++ rest)
taken-stop {A} {K} {looks} {at} {P} part text tokens rest e = let p = subst (λ x. Outcome K looks at P text tokens x) e (part.run text tokens) in (p.front, p.parted)

pub taken-again : {A : Type 0} {K : TokenKind → Bool} {looks at : List ℕ → Token → Bool} {P : List ℕ → List Token → Front A} → Part K looks at P
    → (text other : List ℕ) (front rest others : List Token) (a : A) → P text (front ++ rest) ≡ Behind a rest → Alikes text other front → Next looks text other rest others → P other (front ++ others) ≡ Behind a others
taken-again {A} {K} {looks} {at} {P} part text other front rest others a e alikes next =
    let p = subst (λ x. Outcome K looks at P text (front ++ rest) x) e (part.run text (front ++ rest)) in
    let same : p.front ≡ front = append_cancel_right p.front front rest (sym p.parted) in
    subst (λ f. P other (f ++ others) ≡ Behind a others) same (p.local other others (subst⁻¹ (Alikes text other) same alikes) next)

pub stops-again : {A : Type 0} {K : TokenKind → Bool} {looks at : List ℕ → Token → Bool} {P : List ℕ → List Token → Front A} → Part K looks at P
    → (text other : List ℕ) (front rest others : List Token) → P text (front ++ rest) ≡ Stops rest → Alikes text other front → Same text other rest others → P other (front ++ others) ≡ Stops others
stops-again {A} {K} {looks} {at} {P} part text other front rest others e alikes same_next =
    let p = subst (λ x. Outcome K looks at P text (front ++ rest) x) e (part.run text (front ++ rest)) in
    let same : p.front ≡ front = append_cancel_right p.front front rest (sym p.parted) in
    subst (λ f. P other (f ++ others) ≡ Stops others) same (p.local other others (subst⁻¹ (Alikes text other) same alikes) same_next)

-- what two things took, one behind the other
pub parted : {A : Type 0} {K : TokenKind → Bool} {looks at : List ℕ → Token → Bool} {P : List ℕ → List Token → Front A} → Part K looks at P
    → (text : List ℕ) (front rest middle f2 : List Token) (a : A) → P text (front ++ rest) ≡ Behind a middle → middle ≡ f2 ++ rest
    → (f1 : List Token) × (front ≡ f1 ++ f2) × (P text (f1 ++ (f2 ++ rest)) ≡ Behind a (f2 ++ rest))
parted {A} {K} {looks} {at} {P} part text front rest middle f2 a first is2 =
    let (f1, is1) = taken part text (front ++ rest) middle a first in
    let all : front ++ rest ≡ f1 ++ (f2 ++ rest) = is1 ∙ ap (λ x. f1 ++ x) is2 in
    (f1, append_cancel_right front (f1 ++ f2) rest (all ∙ sym (append_assoc f1 f2 rest)), ap (P text) (sym all) ∙ first ∙ ap (λ x. Behind a x) is2)

-- where nothing is taken, no token comes first that is always taken
pub first-none : {A : Type 0} {K : TokenKind → Bool} {looks at : List ℕ → Token → Bool} {P : List ℕ → List Token → Front A} → Part K looks at P
    → (text : List ℕ) (rest : List Token) (a : A) → P text rest ≡ Behind a rest → begins (at text) rest ≡ false
first-none {A} {K} {looks} {at} {P} part text rest a e =
    let p = subst (λ x. Outcome K looks at P text rest x) e (part.run text rest) in p.first (nothing-left p.front rest (sym p.parted))

pub first-stop : {A : Type 0} {K : TokenKind → Bool} {looks at : List ℕ → Token → Bool} {P : List ℕ → List Token → Front A} → Part K looks at P
    → (text : List ℕ) (rest : List Token) → P text rest ≡ Stops rest → begins (at text) rest ≡ false
first-stop {A} {K} {looks} {at} {P} part text rest e =
    let p = subst (λ x. Outcome K looks at P text rest x) e (part.run text rest) in p.first (nothing-left p.front rest (sym p.parted))

-- where a token comes first that is always taken, less is left
less-left : (tokens front rest : List Token) → tokens ≡ front ++ rest → (front ≡ [] → ⊥) → length rest < length tokens
less-left tokens [] rest is some = absurd (some refl)
less-left tokens (c ∷ front) rest is some = let long : length tokens ≡ length ((c ∷ front) ++ rest) = ap length is in omega (arith, long, length-append (c ∷ front) rest)

pub taken-some : {A : Type 0} {K : TokenKind → Bool} {looks at : List ℕ → Token → Bool} {P : List ℕ → List Token → Front A} → Part K looks at P
    → (text : List ℕ) (tokens rest : List Token) (a : A) → begins (at text) tokens ≡ true → P text tokens ≡ Behind a rest → length rest < length tokens
taken-some {A} {K} {looks} {at} {P} part text tokens rest a begun e =
    let p = subst (λ x. Outcome K looks at P text tokens x) e (part.run text tokens) in
    less-left tokens p.front rest p.parted (λ none. let wrong = sym begun ∙ p.first none in absurd (cc))

pub stops-some : {A : Type 0} {K : TokenKind → Bool} {looks at : List ℕ → Token → Bool} {P : List ℕ → List Token → Front A} → Part K looks at P
    → (text : List ℕ) (tokens rest : List Token) → begins (at text) tokens ≡ true → P text tokens ≡ Stops rest → length rest < length tokens
stops-some {A} {K} {looks} {at} {P} part text tokens rest begun e =
    let p = subst (λ x. Outcome K looks at P text tokens x) e (part.run text tokens) in
    less-left tokens p.front rest p.parted (λ none. let wrong = sym begun ∙ p.first none in absurd (cc))

-- the same production, one that less may follow, and one of which more tokens are looked at
pub continues-same : {A : Type 0} {K : TokenKind → Bool} {looks at : List ℕ → Token → Bool} {F : List ℕ → List Token → Type 0} {may : Bool} {short : List Filler} {P Q : List ℕ → List Token → Front A}
    → ((text : List ℕ) (tokens : List Token) → P text tokens ≡ Q text tokens) → Continues K looks at F may short Q → Continues K looks at F may short P
continues-same {A} {K} {looks} {at} {F} {may} {short} {P} {Q} same q = record {
  part = part-same same q.part;
  fresh = λ other others more fillers follows. let (a, is) = q.fresh other others more fillers follows in (a, same other (others ++ more) ∙ is);
  kept = λ text other front rest more a e alikes follows. same other (front ++ more) ∙ q.kept text other front rest more a (sym (same text (front ++ rest)) ∙ e) alikes follows;
  empty = λ text rest a e. q.empty text rest a (sym (same text rest) ∙ e);
  mended = λ text c front rest e.
      let (w, go) = q.mended text c front rest (sym (same text ((c ∷ front) ++ rest)) ∙ e) in
      (w, λ other others more alikes fillers follows. let (a, is) = go other others more alikes fillers follows in (a, same other ((c ∷ front) ++ (others ++ more)) ∙ is));
}

pub continues-fewer : {A : Type 0} {K : TokenKind → Bool} {looks at : List ℕ → Token → Bool} {F : List ℕ → List Token → Type 0} {may : Bool} {short : List Filler} {P : List ℕ → List Token → Front A}
    (G : List ℕ → List Token → Type 0) → ((text : List ℕ) (rest : List Token) → G text rest → F text rest) → Continues K looks at F may short P → Continues K looks at G may short P
continues-fewer G fewer p = record {
  part = p.part;
  fresh = λ other others more fillers follows. p.fresh other others more fillers (fewer other more follows);
  kept = λ text other front rest more a e alikes follows. p.kept text other front rest more a e alikes (fewer other more follows);
  empty = p.empty;
  mended = λ text c front rest e. let (w, go) = p.mended text c front rest e in (w, λ other others more alikes fillers follows. go other others more alikes fillers (fewer other more follows));
}

pub continues-looks : {A : Type 0} {K : TokenKind → Bool} (looks : List ℕ → Token → Bool) {at : List ℕ → Token → Bool} {F : List ℕ → List Token → Type 0} {may : Bool} {short : List Filler} {P : List ℕ → List Token → Front A}
    → Continues K none at F may short P → Continues K looks at F may short P
continues-looks looks p = record { part = part-looks looks p.part; fresh = p.fresh; kept = p.kept; empty = p.empty; mended = p.mended }

pub closes-bounded : (text : List ℕ) (rest : List Token) → Closes text rest → Bounded text rest
closes-bounded text [] h = tt
closes-bounded text (c ∷ rest) h = inl h

pub closes-apart : (text : List ℕ) (rest : List Token) → Closes text rest → Apart text rest
closes-apart text rest h = inl (closes-bounded text rest h)

pub bounded-apart : (text : List ℕ) (rest : List Token) → Bounded text rest → Apart text rest
bounded-apart text rest h = inl h

pub ends-apart : (text : List ℕ) (rest : List Token) → Ends text rest → Apart text rest
ends-apart text [] h = inl tt
ends-apart text (c ∷ rest) h = absurd (cc)

-- one token
pub one-taken : (test : Token → Bool) (tokens : List Token) (a : Token) (rest : List Token) → one test tokens ≡ Behind a rest → tokens ≡ a ∷ rest
one-taken test [] a rest e = absurd (cc)
one-taken test (c ∷ tokens) a rest e = by_test (test c) e
  where
    by_test : (b : Bool) → (elim b as (λ _. Front Token) [ true ↦ Behind c tokens | false ↦ Stops (c ∷ tokens) ]) ≡ Behind a rest → c ∷ tokens ≡ a ∷ rest
    by_test true e = cc
    by_test false e = absurd (cc)

pub one-stopped : (test : Token → Bool) (tokens rest : List Token) → one test tokens ≡ Stops rest → tokens ≡ rest
one-stopped test [] rest e = cc
one-stopped test (c ∷ tokens) rest e = by_test (test c) e
  where
    by_test : (b : Bool) → (elim b as (λ _. Front Token) [ true ↦ Behind c tokens | false ↦ Stops (c ∷ tokens) ]) ≡ Stops rest → c ∷ tokens ≡ rest
    by_test true e = absurd (cc)
    by_test false e = cc

pub one-passes : (test : Token → Bool) (c : Token) (rest : List Token) → test c ≡ true → one test (c ∷ rest) ≡ Behind c rest
one-passes test c rest e = ap (λ b. elim b as (λ _. Front Token) [ true ↦ Behind c rest | false ↦ Stops (c ∷ rest) ]) e

pub one-stops : (test : Token → Bool) (rest : List Token) → begins test rest ≡ false → one test rest ≡ Stops rest
one-stops test [] e = refl
one-stops test (c ∷ rest) e = ap (λ b. elim b as (λ _. Front Token) [ true ↦ Behind c rest | false ↦ Stops (c ∷ rest) ]) e

one-passed : (test : Token → Bool) (c : Token) (rest : List Token) (a : Token) → one test (c ∷ rest) ≡ Behind a rest → (c ≡ a) × (test c ≡ true)
one-passed test c rest a e = by_test (test c) refl e
  where
    by_test : (b : Bool) → test c ≡ b → (elim b as (λ _. Front Token) [ true ↦ Behind c rest | false ↦ Stops (c ∷ rest) ]) ≡ Behind a rest → (c ≡ a) × (test c ≡ true)
    by_test true is e = let same : c ≡ a = cc in (same, is)
    by_test false is e = absurd (cc)

pub continues-one : {K : TokenKind → Bool} (t : List ℕ → Token → Bool) → Respects t → ((text : List ℕ) (c : Token) → t text c ≡ true → IsTrue (K c.kind))
    → (filler : Filler) → t (lexeme filler).bytes (token_of (lexeme filler)) ≡ true → Continues K none t Anything false (filler ∷ []) (λ text. one (t text))
continues-one {K} t respects kind filler passes = record {
  part = part-one t respects kind;
  fresh = fresh_one;
  kept = kept_one;
  empty = λ text rest a e. absurd (longer a [] rest (sym (one-taken (t text) rest a rest e)));
  mended = λ text c front rest e. absurd (longer c front rest (one-stopped (t text) ((c ∷ front) ++ rest) rest e));
}
  where
    fresh_one : (other : List ℕ) (others more : List Token) → AreFillers other (filler ∷ []) others → ⊤ → Passed (one (t other) (others ++ more)) more
    fresh_one other [] more fillers follows = absurd fillers
    fresh_one other (c ∷ []) more fillers follows = (c, one-passes (t other) c more (respects other (lexeme filler).bytes c (token_of (lexeme filler)) fillers.0 ∙ passes))
    fresh_one other (c ∷ d ∷ others) more fillers follows = absurd fillers.1

    kept_by : (text other : List ℕ) (front rest more : List Token) (a : Token) → front ≡ a ∷ [] → one (t text) (front ++ rest) ≡ Behind a rest → Alikes text other front → one (t other) (front ++ more) ≡ Behind a more
    kept_by text other [] rest more a is e alikes = absurd (cc)
    kept_by text other (c ∷ d ∷ front) rest more a is e alikes = absurd (cc)
    kept_by text other (c ∷ []) rest more a is e alikes =
        let (same, test) = one-passed (t text) c rest a e in
        one-passes (t other) c more (sym (respects text other c c alikes.0) ∙ test) ∙ ap (λ x. Behind x more) same

    kept_one : (text other : List ℕ) (front rest more : List Token) (a : Token) → one (t text) (front ++ rest) ≡ Behind a rest → Alikes text other front → ⊤ → one (t other) (front ++ more) ≡ Behind a more
    kept_one text other front rest more a e alikes follows =
        kept_by text other front rest more a (append_cancel_right front (a ∷ []) rest (one-taken (t text) (front ++ rest) a rest e)) e alikes

-- nothing, which anything may follow
pub behind-same : {A : Type 0} (a b : A) (tokens rest : List Token) → Behind a tokens ≡ Behind b rest → (a ≡ b) × (tokens ≡ rest)
behind-same a b tokens rest e = let one : a ≡ b = cc in let two : tokens ≡ rest = cc in (one, two)

pub continues-nothing : {A : Type 0} {K : TokenKind → Bool} {F : List ℕ → List Token → Type 0} (a : A) → Continues K none none F true [] (λ text tokens. Behind a tokens)
continues-nothing {A} {K} {F} a = record {
  part = part-nothing a;
  fresh = fresh_nothing;
  kept = kept_nothing;
  empty = λ text rest b e. refl;
  mended = λ text c front rest e. absurd (cc);
}
  where
    fresh_nothing : (other : List ℕ) (others more : List Token) → AreFillers other [] others → F other more → Passed (Behind a (others ++ more)) more
    fresh_nothing other [] more fillers follows = (a, refl)
    fresh_nothing other (c ∷ others) more fillers follows = absurd fillers

    kept_nothing : (text other : List ℕ) (front rest more : List Token) (b : A) → Behind a (front ++ rest) ≡ Behind b rest → Alikes text other front → F other more → Behind a (front ++ more) ≡ Behind b more
    kept_nothing text other front rest more b e alikes follows =
        let (one, two) = behind-same a b (front ++ rest) rest e in
        ap (λ x. Behind x (front ++ more)) one ∙ ap (λ f. Behind b (f ++ more)) (nothing-left front rest two)

-- one thing behind the other
pub bind-passed : {A B : Type 0} (x : Front A) (next : A → List Token → Front B) (b : B) (rest : List Token) → (x >>= next) ≡ Behind b rest
    → (a : A) × (middle : List Token) × (x ≡ Behind a middle) × (next a middle ≡ Behind b rest)
bind-passed (Behind a middle) next b rest e = (a, middle, refl, e)
bind-passed (Stops at) next b rest e = absurd (cc)

pub bind-stopped : {A B : Type 0} (x : Front A) (next : A → List Token → Front B) (rest : List Token) → (x >>= next) ≡ Stops rest
    → (x ≡ Stops rest) ⊎ ((a : A) × (middle : List Token) × (x ≡ Behind a middle) × (next a middle ≡ Stops rest))
bind-stopped (Behind a middle) next rest e = inr (a, middle, refl, e)
bind-stopped (Stops at) next rest e = inl (let same : at ≡ rest = cc in ap (λ x. Stops x) same)

-- nothing is left of some tokens but these, or there is a stop at these
abbrev pub OneTaken : {A : Type 0} → Front A → List Token → Type 0
OneTaken x rest = Passed x rest ⊎ (x ≡ Stops rest)

-- the first may be followed by what the second begins with, and where the first looks at two tokens the second takes more than one
module _ {A B : Type 0} (K : TokenKind → Bool) (looks1 looks at1 at2 : List ℕ → Token → Bool) (F G : List ℕ → List Token → Type 0) (may1 may2 : Bool) (short1 short2 : List Filler)
    (P : List ℕ → List Token → Front A) (Q : A → List ℕ → List Token → Front B)
    (within : (text : List ℕ) (c : Token) → IsFalse (at2 text c) → IsFalse (looks1 text c))
    (before : (text : List ℕ) (tokens rest : List Token) → AreFillers text short2 tokens → F text rest → G text (tokens ++ rest))
    (without : (text : List ℕ) (rest : List Token) → may2 ≡ true → F text rest → G text rest)
    (never : (text : List ℕ) (tokens : List Token) (a : A) (c : Token) (rest : List Token) → P text tokens ≡ Behind a (c ∷ rest) → looks1 text c ≡ true → OneTaken (Q a text (c ∷ rest)) rest → ⊥)
    (p : Continues K looks1 at1 G may1 short1 P) (q : (a : A) → Continues K looks at2 F may2 short2 (Q a)) where
  abbrev both : List ℕ → List Token → Front B
  both text tokens = P text tokens >>= λ a rest. Q a text rest

  abbrev next : List ℕ → Front A → Front B
  next text x = x >>= λ a rest. Q a text rest

  again : (text other : List ℕ) (a : A) (f1 f2 rest more : List Token) → P text (f1 ++ (f2 ++ rest)) ≡ Behind a (f2 ++ rest) → OneTaken (Q a text (f2 ++ rest)) rest → Alikes text other f1 → Alikes text other f2
      → (f2 ≡ [] → G other more) → P other (f1 ++ (f2 ++ more)) ≡ Behind a (f2 ++ more)
  again text other a f1 [] rest more e one al1 al2 follows = p.kept text other f1 rest more a e al1 (follows refl)
  again text other a f1 (c ∷ []) rest more e one al1 al2 follows = by_look (looks1 text c) refl
    where
      by_look : (b : Bool) → looks1 text c ≡ b → P other (f1 ++ (c ∷ more)) ≡ Behind a (c ∷ more)
      by_look true look = absurd (never text (f1 ++ (c ∷ rest)) a c rest e look one)
      by_look false look = taken-again p.part text other f1 (c ∷ rest) (c ∷ more) a e al1 (refl, al2.0, inl look)
  again text other a f1 (c ∷ d ∷ f2) rest more e one al1 al2 follows =
      taken-again p.part text other f1 (c ∷ d ∷ (f2 ++ rest)) (c ∷ d ∷ (f2 ++ more)) a e al1 (refl, al2.0, inr (refl, al2.1.0))

  both-kept : (text other : List ℕ) (front rest more : List Token) (b : B) → both text (front ++ rest) ≡ Behind b rest → Alikes text other front → F other more → both other (front ++ more) ≡ Behind b more
  both-kept text other front rest more b e alikes follows =
      let (a, middle, first, second) = bind-passed (P text (front ++ rest)) (λ a rest. Q a text rest) b rest e in
      let (f2, is2) = taken (q a).part text middle rest b second in
      let (f1, whole, passed) = parted p.part text front rest middle f2 a first is2 in
      let last : Q a text (f2 ++ rest) ≡ Behind b rest = ap (Q a text) (sym is2) ∙ second in
      let al : Alikes text other (f1 ++ f2) = subst (Alikes text other) whole alikes in
      let al2 = alikes-back text other f1 f2 al in
      let may : f2 ≡ [] → G other more = λ none. without other more ((q a).empty text rest b (ap (λ f. Q a text (f ++ rest)) (sym none) ∙ last)) follows in
      ap (both other) (ap (λ f. f ++ more) whole ∙ append_assoc f1 f2 more)
      ∙ ap (next other) (again text other a f1 f2 rest more passed (inl (b, last)) (alikes-front text other f1 f2 al) al2 may)
      ∙ (q a).kept text other f2 rest more b last al2 follows

  both-fresh : (other : List ℕ) (others more : List Token) → AreFillers other (short1 ++ short2) others → F other more → Passed (both other (others ++ more)) more
  both-fresh other others more fillers follows =
      let (o1, o2, whole, fill1, fill2) = fillers-split other short1 short2 others fillers in
      let (a, first) = p.fresh other o1 (o2 ++ more) fill1 (before other o2 more fill2 follows) in
      let (b, second) = (q a).fresh other o2 more fill2 follows in
      (b, ap (both other) (ap (λ o. o ++ more) whole ∙ append_assoc o1 o2 more) ∙ ap (next other) first ∙ second)

  both-empty : (text : List ℕ) (rest : List Token) (b : B) → both text rest ≡ Behind b rest → (may1 && may2) ≡ true
  both-empty text rest b e =
      let (a, middle, first, second) = bind-passed (P text rest) (λ a rest. Q a text rest) b rest e in
      let (f1, is1) = taken p.part text rest middle a first in
      let (f2, is2) = taken (q a).part text middle rest b second in
      let none : f1 ++ f2 ≡ [] = nothing-left (f1 ++ f2) rest (append_assoc f1 f2 rest ∙ ap (λ x. f1 ++ x) (sym is2) ∙ sym is1) in
      let same : middle ≡ rest = sym (is1 ∙ ap (λ f. f ++ middle) (left f1 f2 none)) in
      both_true may1 may2 (p.empty text rest a (first ∙ ap (λ x. Behind a x) same)) ((q a).empty text rest b (ap (Q a text) (sym same) ∙ second))
    where
      left : (f1 f2 : List Token) → f1 ++ f2 ≡ [] → f1 ≡ []
      left [] f2 e = refl
      left (c ∷ f1) f2 e = absurd (cc)

      both_true : (x y : Bool) → x ≡ true → y ≡ true → (x && y) ≡ true
      both_true true y e f = f
      both_true false y e f = absurd (cc)

  second-mended : (text : List ℕ) (a : A) (f2 rest : List Token) → Q a text (f2 ++ rest) ≡ Stops rest
      → (w : List Filler) × ((other : List ℕ) (others more : List Token) → Alikes text other f2 → AreFillers other w others → F other more → Passed (Q a other (f2 ++ (others ++ more))) more × (f2 ≡ [] → G other (others ++ more)))
  second-mended text a [] rest e = (short2, λ other others more alikes fillers follows. ((q a).fresh other others more fillers follows, λ none. before other others more fillers follows))
  second-mended text a (c ∷ f2) rest e =
      let (w, go) = (q a).mended text c f2 rest e in (w, λ other others more alikes fillers follows. (go other others more alikes fillers follows, λ none. absurd (cc)))

  both-mended : (text : List ℕ) (c : Token) (front rest : List Token) → both text ((c ∷ front) ++ rest) ≡ Stops rest → Mended K looks at1 F (may1 && may2) (short1 ++ short2) both text (c ∷ front)
  both-mended text c front rest e = by_stop (bind-stopped (P text ((c ∷ front) ++ rest)) (λ a rest. Q a text rest) rest e)
    where
      by_stop : (P text ((c ∷ front) ++ rest) ≡ Stops rest) ⊎ ((a : A) × (middle : List Token) × (P text ((c ∷ front) ++ rest) ≡ Behind a middle) × (Q a text middle ≡ Stops rest))
          → Mended K looks at1 F (may1 && may2) (short1 ++ short2) both text (c ∷ front)
      by_stop (inl stop) =
          let (w, go) = p.mended text c front rest stop in (
            w ++ short2,
            λ other others more alikes fillers follows.
                let (o1, o2, whole, fill1, fill2) = fillers-split other w short2 others fillers in
                let (a, first) = go other o1 (o2 ++ more) alikes fill1 (before other o2 more fill2 follows) in
                let (b, second) = (q a).fresh other o2 more fill2 follows in
                (b, ap (λ o. both other ((c ∷ front) ++ o)) (ap (λ o. o ++ more) whole ∙ append_assoc o1 o2 more) ∙ ap (next other) first ∙ second),
          )
      by_stop (inr (a, middle, first, second)) =
          let (f2, is2) = taken-stop (q a).part text middle rest second in
          let (f1, whole, passed) = parted p.part text (c ∷ front) rest middle f2 a first is2 in
          let last : Q a text (f2 ++ rest) ≡ Stops rest = ap (Q a text) (sym is2) ∙ second in
          let (w, go) = second-mended text a f2 rest last in (
            w,
            λ other others more alikes fillers follows.
                let al : Alikes text other (f1 ++ f2) = subst (Alikes text other) whole alikes in
                let al2 = alikes-back text other f1 f2 al in
                let (done, may) = go other others more al2 fillers follows in (
                  done.0,
                  ap (both other) (ap (λ f. f ++ (others ++ more)) whole ∙ append_assoc f1 f2 (others ++ more))
                      ∙ ap (next other) (again text other a f1 f2 rest (others ++ more) passed (inr last) (alikes-front text other f1 f2 al) al2 may)
                      ∙ done.1,
                ),
          )

  pub continues-both : Continues K looks at1 F (may1 && may2) (short1 ++ short2) both
  continues-both = record { part = part-then_taken within p.part (λ a. (q a).part); fresh = both-fresh; kept = both-kept; empty = both-empty; mended = both-mended }

-- one that anything may follow, and the next behind it
pub continues-then : {A B : Type 0} {K : TokenKind → Bool} {looks at1 at2 : List ℕ → Token → Bool} {F : List ℕ → List Token → Type 0} {may1 may2 : Bool} {short1 short2 : List Filler}
    {P : List ℕ → List Token → Front A} {Q : A → List ℕ → List Token → Front B} → Continues K none at1 Anything may1 short1 P → ((a : A) → Continues K looks at2 F may2 short2 (Q a))
    → Continues K looks at1 F (may1 && may2) (short1 ++ short2) (λ text tokens. P text tokens >>= λ a rest. Q a text rest)
continues-then {A} {B} {K} {looks} {at1} {at2} {F} {may1} {may2} {short1} {short2} {P} {Q} p q =
    continues-both K none looks at1 at2 F Anything may1 may2 short1 short2 P Q (λ text c h. refl) (λ text tokens rest fillers follows. tt) (λ text rest may follows. tt)
    (λ text tokens a c rest e look one. absurd (cc)) p q

-- one that may be followed by what may follow the next one too, which may take nothing
pub continues-before : {A B : Type 0} {K : TokenKind → Bool} {looks at1 at2 : List ℕ → Token → Bool} {F : List ℕ → List Token → Type 0} {may1 may2 : Bool} {short : List Filler}
    {P : List ℕ → List Token → Front A} {Q : A → List ℕ → List Token → Front B} → Continues K none at1 F may1 short P → ((a : A) → Continues K looks at2 F may2 [] (Q a))
    → Continues K looks at1 F (may1 && may2) (short ++ []) (λ text tokens. P text tokens >>= λ a rest. Q a text rest)
continues-before {A} {B} {K} {looks} {at1} {at2} {F} {may1} {may2} {short} {P} {Q} p q =
    continues-both K none looks at1 at2 F F may1 may2 short [] P Q (λ text c h. refl) nothing_before (λ text rest may follows. follows)
    (λ text tokens a c rest e look one. absurd (cc)) p q
  where
    nothing_before : (text : List ℕ) (tokens rest : List Token) → AreFillers text [] tokens → F text rest → F text (tokens ++ rest)
    nothing_before text [] rest fillers follows = follows
    nothing_before text (c ∷ tokens) rest fillers follows = absurd fillers

pub closing-before : (short : List Filler) (text : List ℕ) (tokens rest : List Token) → AreFillers text (Closing ∷ short) tokens → Closes text (tokens ++ rest)
closing-before short text [] rest fillers = absurd fillers
closing-before short text (c ∷ tokens) rest fillers = sign-respects 41 text (lexeme Closing).bytes c (token_of (lexeme Closing)) fillers.0

-- one that a closing bracket may follow, and the next, which begins with one
pub continues-closed : {A B : Type 0} {K : TokenKind → Bool} {looks at1 at2 : List ℕ → Token → Bool} {F : List ℕ → List Token → Type 0} {may : Bool} {short1 short2 : List Filler}
    {P : List ℕ → List Token → Front A} {Q : A → List ℕ → List Token → Front B} → Continues K none at1 Closes may short1 P → ((a : A) → Continues K looks at2 F false (Closing ∷ short2) (Q a))
    → Continues K looks at1 F (may && false) (short1 ++ (Closing ∷ short2)) (λ text tokens. P text tokens >>= λ a rest. Q a text rest)
continues-closed {A} {B} {K} {looks} {at1} {at2} {F} {may} {short1} {short2} {P} {Q} p q =
    continues-both K none looks at1 at2 F Closes may false short1 (Closing ∷ short2) P Q (λ text c h. refl) (λ text tokens rest fillers follows. closing-before short2 text tokens rest fillers)
    (λ text rest none follows. absurd (cc)) (λ text tokens a c rest e look one. absurd (cc)) p q

-- a thing that is made into another
abbrev making : {A B : Type 0} → (A → B) → Front A → Front B
making f x = x >>= λ a rest. Behind (f a) rest

pub continues-made : {A B : Type 0} {K : TokenKind → Bool} {looks at : List ℕ → Token → Bool} {F : List ℕ → List Token → Type 0} {may : Bool} {short : List Filler} {P : List ℕ → List Token → Front A} (f : A → B)
    → Continues K looks at F may short P → Continues K looks at F may short (λ text tokens. P text tokens >>= λ a rest. Behind (f a) rest)
continues-made {A} {B} {K} {looks} {at} {F} {may} {short} {P} f p = record {
  part = part-made f p.part;
  fresh = λ other others more fillers follows. let (a, is) = p.fresh other others more fillers follows in (f a, ap (making f) is);
  kept = kept_made;
  empty = λ text rest b e. let (a, middle, first, second) = bind-passed (P text rest) (λ a rest. Behind (f a) rest) b rest e in p.empty text rest a (first ∙ ap (λ x. Behind a x) (behind-same (f a) b middle rest second).1);
  mended = mended_made;
}
  where
    kept_made : (text other : List ℕ) (front rest more : List Token) (b : B) → making f (P text (front ++ rest)) ≡ Behind b rest → Alikes text other front → F other more → making f (P other (front ++ more)) ≡ Behind b more
    kept_made text other front rest more b e alikes follows =
        let (a, middle, first, second) = bind-passed (P text (front ++ rest)) (λ a rest. Behind (f a) rest) b rest e in
        let (same, left) = behind-same (f a) b middle rest second in
        ap (making f) (p.kept text other front rest more a (first ∙ ap (λ x. Behind a x) left) alikes follows) ∙ ap (λ x. Behind x more) same

    mended_made : (text : List ℕ) (c : Token) (front rest : List Token) → making f (P text ((c ∷ front) ++ rest)) ≡ Stops rest → Mended K looks at F may short (λ text tokens. making f (P text tokens)) text (c ∷ front)
    mended_made text c front rest e = by_stop (bind-stopped (P text ((c ∷ front) ++ rest)) (λ a rest. Behind (f a) rest) rest e)
      where
        by_stop : (P text ((c ∷ front) ++ rest) ≡ Stops rest) ⊎ ((a : A) × (middle : List Token) × (P text ((c ∷ front) ++ rest) ≡ Behind a middle) × (Behind (f a) middle ≡ Stops rest))
            → Mended K looks at F may short (λ text tokens. making f (P text tokens)) text (c ∷ front)
        by_stop (inl stop) =
            let (w, go) = p.mended text c front rest stop in
            (w, λ other others more alikes fillers follows. let (a, is) = go other others more alikes fillers follows in (f a, ap (making f) is))
        by_stop (inr (a, middle, first, second)) = absurd (cc)
