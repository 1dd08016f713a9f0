-- What a production takes and where it stops depends on the tokens that it took and on the next one.
use Rattle.std.proofs.Common.{◌≡◌, ℕ, zero, suc, ◌<◌, ◌≤◌, Bool, true, false, ◌⊎◌, List, [], ◌∷◌, ◌++◌, length, refl, sym, ap, ◌∙◌, subst, inl, inr, arith, length-append}
use Rattle.std.specs.Prelude.{IsTrue, IsFalse, ⊤}
use Rattle.std.specs.List.{AllByRecursion}
use Rattle.std.proofs.lemmas.List.{append_assoc}
use Rattle.schema_spec.specs.declared.token.TokenKind.{TokenKind}
use Rattle.schema_spec.specs.declared.token.Token.{Token}
use Rattle.schema_spec.specs.Fronts.{Front, Behind, Stops, ◌>>=◌, begins, one, either, nothing, many, at_most, ended}
use Rattle.grammar_laws.specs.TestsLaws.{Alike, Respects, none}

-- these tokens are spelled alike in both texts
abbrev pub Alikes : List ℕ → List ℕ → List Token → Type 0
Alikes text other [] = ⊤
Alikes text other (c ∷ front) = Alike text c other c × Alikes text other front

-- the next token is the same
abbrev pub Same : List ℕ → List ℕ → List Token → List Token → Type 0
Same text other [] others = ⊥
Same text other (c ∷ rest) [] = ⊥
Same text other (c ∷ rest) (d ∷ others) = (c ≡ d) × Alike text c other c

-- the next token is the same, and where it is one of these, the one behind it too
abbrev pub Next : (List ℕ → Token → Bool) → List ℕ → List ℕ → List Token → List Token → Type 0
Next looks text other [] others = ⊥
Next looks text other (c ∷ rest) [] = ⊥
Next looks text other (c ∷ rest) (d ∷ others) = (c ≡ d) × Alike text c other c × (IsFalse (looks text c) ⊎ Same text other rest others)

pub next-same : (looks : List ℕ → Token → Bool) (text other : List ℕ) (rest others : List Token) → Next looks text other rest others → Same text other rest others
next-same looks text other [] others h = absurd h
next-same looks text other (c ∷ rest) [] h = absurd h
next-same looks text other (c ∷ rest) (d ∷ others) h = (h.0, h.1)

pub same-next : (text other : List ℕ) (rest others : List Token) → Same text other rest others → Next none text other rest others
same-next text other [] others h = absurd h
same-next text other (c ∷ rest) [] h = absurd h
same-next text other (c ∷ rest) (d ∷ others) h = (h.0, h.1, inl refl)

-- fewer tokens at which two are looked at
pub next-fewer : (looks fewer : List ℕ → Token → Bool) (text other : List ℕ) (rest others : List Token)
    → ((c : Token) → begins (λ x. true) rest ≡ true → IsFalse (looks text c) → IsFalse (fewer text c)) → Next looks text other rest others → Next fewer text other rest others
next-fewer looks fewer text other [] others less h = absurd h
next-fewer looks fewer text other (c ∷ rest) [] less h = absurd h
next-fewer looks fewer text other (c ∷ rest) (d ∷ others) less h = (h.0, h.1, elim h.2 [ inl p ↦ inl (less c refl p) | inr q ↦ inr q ])

-- behind tokens that are spelled alike
pub same-behind : (text other : List ℕ) (front rest others : List Token) → Alikes text other front → Same text other rest others → Same text other (front ++ rest) (front ++ others)
same-behind text other [] rest others alikes same = same
same-behind text other (c ∷ front) rest others alikes same = (refl, alikes.0)

pub next-behind : (looks : List ℕ → Token → Bool) (text other : List ℕ) (c : Token) (front rest others : List Token) → Alikes text other (c ∷ front) → Same text other rest others
    → Next looks text other (c ∷ (front ++ rest)) (c ∷ (front ++ others))
next-behind looks text other c front rest others alikes same = (refl, alikes.0, inr (same-behind text other front rest others alikes.1 same))

pub alikes-front : (text other : List ℕ) (front more : List Token) → Alikes text other (front ++ more) → Alikes text other front
alikes-front text other [] more h = tt
alikes-front text other (c ∷ front) more h = (h.0, alikes-front text other front more h.1)

pub alikes-back : (text other : List ℕ) (front more : List Token) → Alikes text other (front ++ more) → Alikes text other more
alikes-back text other [] more h = h
alikes-back text other (c ∷ front) more h = alikes-back text other front more h.1

kinds-join : (K : TokenKind → Bool) (front more : List Token) → AllByRecursion (λ c. IsTrue (K c.kind)) front → AllByRecursion (λ c. IsTrue (K c.kind)) more
    → AllByRecursion (λ c. IsTrue (K c.kind)) (front ++ more)
kinds-join K [] more p q = q
kinds-join K (c ∷ front) more p q = (p.0, kinds-join K front more p.1 q)

front-empty : (front more : List Token) → front ++ more ≡ [] → front ≡ []
front-empty [] more e = refl
front-empty (c ∷ front) more e = absurd (cc)

-- K: the kinds of tokens that are taken. looks: tokens before which the production ends by a look at the one behind too. at: tokens that are taken where one of them comes first
module _ {A : Type 0} (K : TokenKind → Bool) (looks at : List ℕ → Token → Bool) (P : List ℕ → List Token → Front A) where
  -- what is taken, and that it is taken of each text that goes on with the same token
  pub record Passes (text : List ℕ) (tokens : List Token) (a : A) (rest : List Token) : Type 0 where
    pub front : List Token
    pub parted : tokens ≡ front ++ rest
    pub kinds : AllByRecursion (λ c. IsTrue (K c.kind)) front
    pub first : front ≡ [] → begins (at text) tokens ≡ false
    pub local : (other : List ℕ) (others : List Token) → Alikes text other front → Next looks text other rest others → P other (front ++ others) ≡ Behind a others

  -- what is taken before the stop, and that each text with the same tokens up to it stops there
  pub record StopsBehind (text : List ℕ) (tokens rest : List Token) : Type 0 where
    pub front : List Token
    pub parted : tokens ≡ front ++ rest
    pub kinds : AllByRecursion (λ c. IsTrue (K c.kind)) front
    pub first : front ≡ [] → begins (at text) tokens ≡ false
    pub local : (other : List ℕ) (others : List Token) → Alikes text other front → Same text other rest others → P other (front ++ others) ≡ Stops others

  abbrev pub Outcome : List ℕ → List Token → Front A → Type 0
  Outcome text tokens (Behind a rest) = Passes text tokens a rest
  Outcome text tokens (Stops rest) = StopsBehind text tokens rest

  pub record Part : Type 0 where
    pub run : (text : List ℕ) (tokens : List Token) → Outcome text tokens (P text tokens)

-- the same production
pub part-same : {A : Type 0} {K : TokenKind → Bool} {looks at : List ℕ → Token → Bool} {P Q : List ℕ → List Token → Front A}
    → ((text : List ℕ) (tokens : List Token) → P text tokens ≡ Q text tokens) → Part K looks at Q → Part K looks at P
part-same {A} {K} {looks} {at} {P} {Q} same part =
    record { run = λ text tokens. subst (λ x. Outcome K looks at P text tokens x) (sym (same text tokens)) (as_other text tokens (Q text tokens) (part.run text tokens)) }
  where
    as_other : (text : List ℕ) (tokens : List Token) (x : Front A) → Outcome K looks at Q text tokens x → Outcome K looks at P text tokens x
    as_other text tokens (Behind a rest) p = record { front = p.front; parted = p.parted; kinds = p.kinds; first = p.first; local = λ other others alikes next. same other (p.front ++ others) ∙ p.local other others alikes next }
    as_other text tokens (Stops rest) p = record { front = p.front; parted = p.parted; kinds = p.kinds; first = p.first; local = λ other others alikes next. same other (p.front ++ others) ∙ p.local other others alikes next }

-- more tokens before which the one behind is looked at
pub part-looks : {A : Type 0} {K : TokenKind → Bool} (looks : List ℕ → Token → Bool) {at : List ℕ → Token → Bool} {P : List ℕ → List Token → Front A} → Part K none at P → Part K looks at P
part-looks {A} {K} looks {at} {P} part = record { run = λ text tokens. looked text tokens (P text tokens) (part.run text tokens) }
  where
    looked : (text : List ℕ) (tokens : List Token) (x : Front A) → Outcome K none at P text tokens x → Outcome K looks at P text tokens x
    looked text tokens (Behind a rest) p = record {
      front = p.front;
      parted = p.parted;
      kinds = p.kinds;
      first = p.first;
      local = λ other others alikes next. p.local other others alikes (next-fewer looks none text other rest others (λ c h k. refl) next);
    }
    looked text tokens (Stops rest) p = record { front = p.front; parted = p.parted; kinds = p.kinds; first = p.first; local = p.local }

-- one token
pub part-one : {K : TokenKind → Bool} (t : List ℕ → Token → Bool) → Respects t → ((text : List ℕ) (c : Token) → t text c ≡ true → IsTrue (K c.kind)) → Part K none t (λ text. one (t text))
part-one {K} t respects kind = record { run = run_one }
  where
    stops : (text other : List ℕ) (c : Token) (tokens others : List Token) → t text c ≡ false → Same text other (c ∷ tokens) others → one (t other) others ≡ Stops others
    stops text other c tokens [] e same = absurd same
    stops text other c tokens (d ∷ others) e same =
        ap (λ b. elim b as (λ _. Front Token) [ true ↦ Behind d others | false ↦ Stops (d ∷ others) ]) (sym (ap (t other) same.0) ∙ sym (respects text other c c same.1) ∙ e)

    tested : (text : List ℕ) (c : Token) (tokens : List Token) (b : Bool) → t text c ≡ b
        → Outcome K none t (λ text. one (t text)) text (c ∷ tokens) (elim b as (λ _. Front Token) [ true ↦ Behind c tokens | false ↦ Stops (c ∷ tokens) ])
    tested text c tokens true e = record {
      front = c ∷ [];
      parted = refl;
      kinds = (kind text c e, tt);
      first = λ h. absurd (cc);
      local = λ other others alikes next.
          ap (λ b. elim b as (λ _. Front Token) [ true ↦ Behind c others | false ↦ Stops (c ∷ others) ]) (sym (respects text other c c alikes.0) ∙ e);
    }
    tested text c tokens false e = record {
      front = [];
      parted = refl;
      kinds = tt;
      first = λ h. e;
      local = λ other others alikes same. stops text other c tokens others e same;
    }

    run_one : (text : List ℕ) (tokens : List Token) → Outcome K none t (λ text. one (t text)) text tokens (one (t text) tokens)
    run_one text [] = record { front = []; parted = refl; kinds = tt; first = λ e. refl; local = λ other others alikes same. absurd same }
    run_one text (c ∷ tokens) = tested text c tokens (t text c) refl

pub none-first : (text : List ℕ) (tokens : List Token) → begins (none text) tokens ≡ false
none-first text [] = refl
none-first text (c ∷ tokens) = refl

-- nothing
pub part-nothing : {A : Type 0} {K : TokenKind → Bool} (a : A) → Part K none none (λ text tokens. Behind a tokens)
part-nothing a = record { run = λ text tokens. record { front = []; parted = refl; kinds = tt; first = λ e. none-first text tokens; local = λ other others alikes next. refl } }

-- one thing, and the next behind it
module _ {A B : Type 0} (K : TokenKind → Bool) (looks1 looks2 looks at1 at2 : List ℕ → Token → Bool) (P : List ℕ → List Token → Front A) (Q : A → List ℕ → List Token → Front B)
    (within : (text : List ℕ) (c : Token) → IsFalse (at2 text c) → IsFalse (looks1 text c))
    (less : (text : List ℕ) (c : Token) → IsFalse (looks text c) → IsFalse (looks2 text c)) where
  abbrev both : List ℕ → List Token → Front B
  both text tokens = P text tokens >>= λ a rest. Q a text rest

  -- what the first looks at is taken by the second
  next-first : (text other : List ℕ) (front rest others : List Token) → Alikes text other front → Same text other rest others
      → (front ≡ [] → begins (at2 text) rest ≡ false) → Next looks1 text other (front ++ rest) (front ++ others)
  next-first text other [] [] others alikes same first = absurd same
  next-first text other [] (c ∷ rest) [] alikes same first = absurd same
  next-first text other [] (c ∷ rest) (d ∷ others) alikes same first = (same.0, same.1, inl (within text c (first refl)))
  next-first text other (c ∷ front) rest others alikes same first = next-behind looks1 text other c front rest others alikes same

  then_passes : (text : List ℕ) (tokens : List Token) (a : A) (middle : List Token) (b : B) (rest : List Token)
      → Passes K looks1 at1 P text tokens a middle → Passes K looks2 at2 (Q a) text middle b rest → Passes K looks at1 both text tokens b rest
  then_passes text tokens a middle b rest p q = record {
    front = p.front ++ q.front;
    parted = p.parted ∙ ap (λ x. p.front ++ x) q.parted ∙ sym (append_assoc p.front q.front rest);
    kinds = kinds-join K p.front q.front p.kinds q.kinds;
    first = λ e. p.first (front-empty p.front q.front e);
    local = λ other others alikes next.
        let al1 = alikes-front text other p.front q.front alikes in
        let al2 = alikes-back text other p.front q.front alikes in
        let next1 = subst (λ x. Next looks1 text other x (q.front ++ others)) (sym q.parted)
        (next-first text other q.front rest others al2 (next-same looks text other rest others next) (λ e. subst (λ x. begins (at2 text) x ≡ false) (q.parted ∙ ap (λ f. f ++ rest) e) (q.first e))) in
        let next2 = next-fewer looks looks2 text other rest others (λ c h. less text c) next in
        ap (λ x. P other x >>= λ a rest. Q a other rest) (append_assoc p.front q.front others)
        ∙ ap (λ x. x >>= λ a rest. Q a other rest) (p.local other (q.front ++ others) al1 next1)
        ∙ q.local other others al2 next2;
  }

  then_stops : (text : List ℕ) (tokens : List Token) (a : A) (middle : List Token) (rest : List Token)
      → Passes K looks1 at1 P text tokens a middle → StopsBehind K looks2 at2 (Q a) text middle rest → StopsBehind K looks at1 both text tokens rest
  then_stops text tokens a middle rest p q = record {
    front = p.front ++ q.front;
    parted = p.parted ∙ ap (λ x. p.front ++ x) q.parted ∙ sym (append_assoc p.front q.front rest);
    kinds = kinds-join K p.front q.front p.kinds q.kinds;
    first = λ e. p.first (front-empty p.front q.front e);
    local = λ other others alikes same.
        let al1 = alikes-front text other p.front q.front alikes in
        let al2 = alikes-back text other p.front q.front alikes in
        let next1 = subst (λ x. Next looks1 text other x (q.front ++ others)) (sym q.parted)
        (next-first text other q.front rest others al2 same (λ e. subst (λ x. begins (at2 text) x ≡ false) (q.parted ∙ ap (λ f. f ++ rest) e) (q.first e))) in
        ap (λ x. P other x >>= λ a rest. Q a other rest) (append_assoc p.front q.front others)
        ∙ ap (λ x. x >>= λ a rest. Q a other rest) (p.local other (q.front ++ others) al1 next1)
        ∙ q.local other others al2 same;
  }

  first_stops : (text : List ℕ) (tokens rest : List Token) → StopsBehind K looks1 at1 P text tokens rest → StopsBehind K looks at1 both text tokens rest
  first_stops text tokens rest p = record {
    front = p.front;
    parted = p.parted;
    kinds = p.kinds;
    first = p.first;
    local = λ other others alikes same. ap (λ x. x >>= λ a rest. Q a other rest) (p.local other others alikes same);
  }

  -- of one list of tokens
  pub outcome-then : (text : List ℕ) (tokens : List Token) (x : Front A) → Outcome K looks1 at1 P text tokens x
      → ((a : A) (middle : List Token) → x ≡ Behind a middle → Outcome K looks2 at2 (Q a) text middle (Q a text middle)) → Outcome K looks at1 both text tokens (x >>= λ a rest. Q a text rest)
  outcome-then text tokens (Stops rest) p then = first_stops text tokens rest p
  outcome-then text tokens (Behind a middle) p then = second (Q a text middle) (then a middle refl)
    where
      second : (y : Front B) → Outcome K looks2 at2 (Q a) text middle y → Outcome K looks at1 both text tokens y
      second (Behind b rest) q = then_passes text tokens a middle b rest p q
      second (Stops rest) q = then_stops text tokens a middle rest p q

-- a thing before which no further token is looked at, and the next behind it
pub part-then : {A B : Type 0} {K : TokenKind → Bool} {looks at1 at2 : List ℕ → Token → Bool} {P : List ℕ → List Token → Front A} {Q : A → List ℕ → List Token → Front B}
    → Part K none at1 P → ((a : A) → Part K looks at2 (Q a)) → Part K looks at1 (λ text tokens. P text tokens >>= λ a rest. Q a text rest)
part-then {A} {B} {K} {looks} {at1} {at2} {P} {Q} p q =
    record { run = λ text tokens. outcome-then K none looks looks at1 at2 P Q (λ text c h. refl) (λ text c h. h) text tokens (P text tokens) (p.run text tokens) (λ a middle e. (q a).run text middle) }

-- one that takes those tokens at which the first looks at the one behind
pub part-then_taken : {A B : Type 0} {K : TokenKind → Bool} {looks looks1 at1 at2 : List ℕ → Token → Bool} {P : List ℕ → List Token → Front A} {Q : A → List ℕ → List Token → Front B}
    → ((text : List ℕ) (c : Token) → IsFalse (at2 text c) → IsFalse (looks1 text c))
    → Part K looks1 at1 P → ((a : A) → Part K looks at2 (Q a)) → Part K looks at1 (λ text tokens. P text tokens >>= λ a rest. Q a text rest)
part-then_taken {A} {B} {K} {looks} {looks1} {at1} {at2} {P} {Q} within p q =
    record { run = λ text tokens. outcome-then K looks1 looks looks at1 at2 P Q within (λ text c h. h) text tokens (P text tokens) (p.run text tokens) (λ a middle e. (q a).run text middle) }

-- a thing that is made into another
outcome-made : {A B : Type 0} (K : TokenKind → Bool) (looks at : List ℕ → Token → Bool) (P : List ℕ → List Token → Front A) (f : A → B) (text : List ℕ) (tokens : List Token) (x : Front A)
    → Outcome K looks at P text tokens x → Outcome K looks at (λ text tokens. P text tokens >>= λ a rest. Behind (f a) rest) text tokens (x >>= λ a rest. Behind (f a) rest)
outcome-made K looks at P f text tokens (Behind a rest) p = record {
  front = p.front;
  parted = p.parted;
  kinds = p.kinds;
  first = p.first;
  local = λ other others alikes next. ap (λ x. x >>= λ a rest. Behind (f a) rest) (p.local other others alikes next);
}
outcome-made K looks at P f text tokens (Stops rest) p = record {
  front = p.front;
  parted = p.parted;
  kinds = p.kinds;
  first = p.first;
  local = λ other others alikes same. ap (λ x. x >>= λ a rest. Behind (f a) rest) (p.local other others alikes same);
}

pub part-made : {A B : Type 0} {K : TokenKind → Bool} {looks at : List ℕ → Token → Bool} {P : List ℕ → List Token → Front A} (f : A → B)
    → Part K looks at P → Part K looks at (λ text tokens. P text tokens >>= λ a rest. Behind (f a) rest)
part-made {A} {B} {K} {looks} {at} {P} f part = record { run = λ text tokens. outcome-made K looks at P f text tokens (P text tokens) (part.run text tokens) }

-- a test of the next token, or of the next two
abbrev pub Tests : (List ℕ → Token → Bool) → (List ℕ → List Token → Bool) → Type 0
Tests looks test = (text other : List ℕ) (tokens others : List Token) → Next looks text other tokens others → test text tokens ≡ test other others

pub tests-one : (t : List ℕ → Token → Bool) → Respects t → Tests none (λ text. begins (t text))
tests-one t respects text other [] others next = absurd next
tests-one t respects text other (c ∷ tokens) [] next = absurd next
tests-one t respects text other (c ∷ tokens) (d ∷ others) next = respects text other c c next.1 ∙ ap (t other) next.0

-- behind what is taken a test is the same
pub tests-behind : (looks : List ℕ → Token → Bool) (test : List ℕ → List Token → Bool) → Tests looks test → (at : Token → Bool) (text other : List ℕ) (tokens front rest others : List Token)
    → tokens ≡ front ++ rest → begins at tokens ≡ true → (front ≡ [] → begins at tokens ≡ false) → Alikes text other front → Same text other rest others → test other (front ++ others) ≡ test text tokens
tests-behind looks test tests at text other tokens [] rest others parted begun first alikes same = let h = sym begun ∙ first refl in absurd (cc)
tests-behind looks test tests at text other tokens (c ∷ front) rest others parted begun first alikes same =
    sym (tests text other (c ∷ (front ++ rest)) (c ∷ (front ++ others)) (next-behind looks text other c front rest others alikes same)) ∙ ap (test text) (sym parted)

pub chosen-first : {A : Type 0} (test : List Token → Bool) (some other : List Token → Front A) (tokens : List Token) → test tokens ≡ true → either test some other tokens ≡ some tokens
chosen-first {A} test some other tokens e = ap (λ b. elim b as (λ _. Front A) [ true ↦ some tokens | false ↦ other tokens ]) e

pub chosen-second : {A : Type 0} (test : List Token → Bool) (some other : List Token → Front A) (tokens : List Token) → test tokens ≡ false → either test some other tokens ≡ other tokens
chosen-second {A} test some other tokens e = ap (λ b. elim b as (λ _. Front A) [ true ↦ some tokens | false ↦ other tokens ]) e

-- one of two, by a test
module _ {A : Type 0} (K : TokenKind → Bool) (looks looks0 at at1 at2 : List ℕ → Token → Bool) (test : List ℕ → List Token → Bool) (P Q : List ℕ → List Token → Front A)
    (tests : Tests looks0 test) (begun : (text : List ℕ) (tokens : List Token) → test text tokens ≡ true → begins (at1 text) tokens ≡ true) where
  abbrev choice : List ℕ → List Token → Front A
  choice text = either (test text) (P text) (Q text)

  nothing-first : (text : List ℕ) (tokens front : List Token) → test text tokens ≡ true → (front ≡ [] → begins (at1 text) tokens ≡ false) → front ≡ [] → begins (at text) tokens ≡ false
  nothing-first text tokens front e first empty = let h = sym (begun text tokens e) ∙ first empty in absurd (cc)

  first_outcome : (text : List ℕ) (tokens : List Token) → test text tokens ≡ true → (x : Front A) → Outcome K looks at1 P text tokens x → Outcome K looks at choice text tokens x
  first_outcome text tokens e (Behind a rest) p = record {
    front = p.front;
    parted = p.parted;
    kinds = p.kinds;
    first = nothing-first text tokens p.front e p.first;
    local = λ other others alikes next.
        chosen-first (test other) (P other) (Q other) (p.front ++ others)
        (tests-behind looks0 test tests (at1 text) text other tokens p.front rest others p.parted (begun text tokens e) p.first alikes (next-same looks text other rest others next) ∙ e)
        ∙ p.local other others alikes next;
  }
  first_outcome text tokens e (Stops rest) p = record {
    front = p.front;
    parted = p.parted;
    kinds = p.kinds;
    first = nothing-first text tokens p.front e p.first;
    local = λ other others alikes same.
        chosen-first (test other) (P other) (Q other) (p.front ++ others)
        (tests-behind looks0 test tests (at1 text) text other tokens p.front rest others p.parted (begun text tokens e) p.first alikes same ∙ e)
        ∙ p.local other others alikes same;
  }

  -- the test of the second one
  second_test : (text other : List ℕ) (tokens front rest others : List Token) → tokens ≡ front ++ rest → test text tokens ≡ false → Next looks0 text other (front ++ rest) (front ++ others)
      → test other (front ++ others) ≡ false
  second_test text other tokens front rest others parted e next = sym (tests text other (front ++ rest) (front ++ others) next) ∙ ap (test text) (sym parted) ∙ e

  next-at : (text other : List ℕ) (front rest others : List Token) → ((c : Token) → IsFalse (at2 text c) → IsFalse (looks0 text c)) → (front ≡ [] → begins (at2 text) (front ++ rest) ≡ false)
      → Alikes text other front → Same text other rest others → Next looks0 text other (front ++ rest) (front ++ others)
  next-at text other [] [] others within first alikes same = absurd same
  next-at text other [] (c ∷ rest) [] within first alikes same = absurd same
  next-at text other [] (c ∷ rest) (d ∷ others) within first alikes same = (same.0, same.1, inl (within c (first refl)))
  next-at text other (c ∷ front) rest others within first alikes same = next-behind looks0 text other c front rest others alikes same

  second_outcome : ((text : List ℕ) (c : Token) → IsFalse (at2 text c) → IsFalse (looks0 text c))
      → ((text : List ℕ) (tokens : List Token) → test text tokens ≡ false → begins (at2 text) tokens ≡ false → begins (at text) tokens ≡ false)
      → (text : List ℕ) (tokens : List Token) → test text tokens ≡ false → (x : Front A) → Outcome K looks at2 Q text tokens x → Outcome K looks at choice text tokens x
  second_outcome within fewer text tokens e (Behind a rest) p = record {
    front = p.front;
    parted = p.parted;
    kinds = p.kinds;
    first = λ h. fewer text tokens e (p.first h);
    local = λ other others alikes next.
        chosen-second (test other) (P other) (Q other) (p.front ++ others) (second_test text other tokens p.front rest others p.parted e
        (next-at text other p.front rest others (within text) (λ h. subst (λ x. begins (at2 text) x ≡ false) p.parted (p.first h)) alikes (next-same looks text other rest others next)))
        ∙ p.local other others alikes next;
  }
  second_outcome within fewer text tokens e (Stops rest) p = record {
    front = p.front;
    parted = p.parted;
    kinds = p.kinds;
    first = λ h. fewer text tokens e (p.first h);
    local = λ other others alikes same.
        chosen-second (test other) (P other) (Q other) (p.front ++ others) (second_test text other tokens p.front rest others p.parted e
        (next-at text other p.front rest others (within text) (λ h. subst (λ x. begins (at2 text) x ≡ false) p.parted (p.first h)) alikes same))
        ∙ p.local other others alikes same;
  }

  -- the second one takes those tokens at which the test looks at the one behind
  pub choice-part : ((text : List ℕ) (c : Token) → IsFalse (at2 text c) → IsFalse (looks0 text c))
      → ((text : List ℕ) (tokens : List Token) → test text tokens ≡ false → begins (at2 text) tokens ≡ false → begins (at text) tokens ≡ false)
      → Part K looks at1 P → Part K looks at2 Q → Part K looks at choice
  choice-part within fewer p q = record { run = λ text tokens. by_test text tokens (test text tokens) refl }
    where
      by_test : (text : List ℕ) (tokens : List Token) (b : Bool) → test text tokens ≡ b → Outcome K looks at choice text tokens (elim b as (λ _. Front A) [ true ↦ P text tokens | false ↦ Q text tokens ])
      by_test text tokens true e = first_outcome text tokens e (P text tokens) (p.run text tokens)
      by_test text tokens false e = second_outcome within fewer text tokens e (Q text tokens) (q.run text tokens)

-- one of two, by a token
pub part-either : {A : Type 0} {K : TokenKind → Bool} {looks at1 at2 : List ℕ → Token → Bool} {P Q : List ℕ → List Token → Front A} (at t : List ℕ → Token → Bool) → Respects t
    → ((text : List ℕ) (c : Token) → t text c ≡ true → at1 text c ≡ true) → ((text : List ℕ) (c : Token) → t text c ≡ false → at2 text c ≡ false → at text c ≡ false)
    → Part K looks at1 P → Part K looks at2 Q → Part K looks at (λ text. either (begins (t text)) (P text) (Q text))
part-either {A} {K} {looks} {at1} {at2} {P} {Q} at t respects begun fewer p q =
    choice-part K looks none at at1 at2 (λ text. begins (t text)) P Q (tests-one t respects) begun_at (λ text c h. refl) fewer_at p q
  where
    begun_at : (text : List ℕ) (tokens : List Token) → begins (t text) tokens ≡ true → begins (at1 text) tokens ≡ true
    begun_at text [] e = e
    begun_at text (c ∷ tokens) e = begun text c e

    fewer_at : (text : List ℕ) (tokens : List Token) → begins (t text) tokens ≡ false → begins (at2 text) tokens ≡ false → begins (at text) tokens ≡ false
    fewer_at text [] e f = refl
    fewer_at text (c ∷ tokens) e f = fewer text c e f

-- a thing, or nothing
pub part-or_nothing : {A : Type 0} {K : TokenKind → Bool} {at1 : List ℕ → Token → Bool} {P : List ℕ → List Token → Front A} (looks at : List ℕ → Token → Bool) (test : List ℕ → List Token → Bool) (a : A)
    → Tests looks test → ((text : List ℕ) (tokens : List Token) → test text tokens ≡ true → begins (at1 text) tokens ≡ true)
    → ((text : List ℕ) (tokens : List Token) → test text tokens ≡ false → begins (at text) tokens ≡ false)
    → Part K none at1 P → Part K looks at (λ text. either (test text) (P text) (nothing a))
part-or_nothing {A} {K} {at1} {P} looks at test a tests begun always p = record { run = λ text tokens. by_test text tokens (test text tokens) refl }
  where
    by_test : (text : List ℕ) (tokens : List Token) (b : Bool) → test text tokens ≡ b
        → Outcome K looks at (λ text. either (test text) (P text) (nothing a)) text tokens (elim b as (λ _. Front A) [ true ↦ P text tokens | false ↦ Behind a tokens ])
    by_test text tokens true e =
        first_outcome K looks looks at at1 none test P (λ text. nothing a) tests begun text tokens e (P text tokens) ((part-looks looks p).run text tokens)
    by_test text tokens false e = record {
      front = [];
      parted = refl;
      kinds = tt;
      first = λ h. always text tokens e;
      local = λ other others alikes next. chosen-second (test other) (P other) (nothing a) others (sym (tests text other tokens others next) ∙ e);
    }

-- the end of the text
pub part-ended : {A : Type 0} {K : TokenKind → Bool} (a : A) → Part K none none (λ text. ended a)
part-ended {A} {K} a = record { run = run_ended }
  where
    stops : (text other : List ℕ) (c : Token) (tokens others : List Token) → Same text other (c ∷ tokens) others → ended a others ≡ Stops others
    stops text other c tokens [] same = absurd same
    stops text other c tokens (d ∷ others) same = refl

    run_ended : (text : List ℕ) (tokens : List Token) → Outcome K none none (λ text. ended a) text tokens (ended a tokens)
    run_ended text [] = record { front = []; parted = refl; kinds = tt; first = λ e. refl; local = λ other others alikes next. absurd next }
    run_ended text (c ∷ tokens) = record { front = []; parted = refl; kinds = tt; first = λ e. refl; local = λ other others alikes same. stops text other c tokens others same }

-- one thing behind the other
module _ {A : Type 0} (K : TokenKind → Bool) (looks looks1 at at1 : List ℕ → Token → Bool) (test : List ℕ → List Token → Bool) (item : List ℕ → List Token → Front A)
    (tests : Tests looks test) (begun : (text : List ℕ) (tokens : List Token) → test text tokens ≡ true → begins (at1 text) tokens ≡ true)
    (always : (text : List ℕ) (tokens : List Token) → begins (at text) tokens ≡ true → test text tokens ≡ true)
    (within : (text : List ℕ) (c : Token) → IsFalse (at text c) → IsFalse (looks1 text c))
    (part : Part K looks1 at1 item) where
  -- what stands behind an item
  abbrev others_behind : A → List ℕ → List Token → Front (List A)
  others_behind a text rest = many (test text) (item text) rest >>= λ others behind. Behind (a ∷ others) behind

  pub shorter : (text : List ℕ) (tokens : List Token) → test text tokens ≡ true → (a : A) (rest : List Token) → item text tokens ≡ Behind a rest → length rest < length tokens
  shorter text tokens e a rest is = taken (subst (λ x. Outcome K looks1 at1 item text tokens x) is (part.run text tokens))
    where
      longer : (front : List Token) → tokens ≡ front ++ rest → (front ≡ [] → begins (at1 text) tokens ≡ false) → length rest < length tokens
      longer [] parted first = let h = sym (begun text tokens e) ∙ first refl in absurd (cc)
      longer (c ∷ front) parted first = subst (λ x. length rest < length x) (sym parted) (omega (arith, length-append front rest))

      taken : Passes K looks1 at1 item text tokens a rest → length rest < length tokens
      taken p = longer p.front p.parted p.first

  none-test : (text : List ℕ) → test text [] ≡ false
  none-test text = by_test (test text []) refl
    where
      by_test : (b : Bool) → test text [] ≡ b → b ≡ false
      by_test true e = let h = begun text [] e in absurd (cc)
      by_test false e = refl

  -- any bound that is no less than the tokens serves
  enough : (text : List ℕ) (n m : ℕ) (tokens : List Token) → length tokens ≤ n → length tokens ≤ m → at_most n (test text) (item text) tokens ≡ at_most m (test text) (item text) tokens
  enough text zero zero [] p q = refl
  enough text zero zero (c ∷ tokens) p q = absurd (omega (arith, p))
  enough text zero (suc m) [] p q = sym (chosen-second (test text) (λ all. item text all >>= λ a rest. at_most m (test text) (item text) rest >>= λ others behind. Behind (a ∷ others) behind) (nothing []) [] (none-test text))
  enough text zero (suc m) (c ∷ tokens) p q = absurd (omega (arith, p))
  enough text (suc n) zero [] p q = chosen-second (test text) (λ all. item text all >>= λ a rest. at_most n (test text) (item text) rest >>= λ others behind. Behind (a ∷ others) behind) (nothing []) [] (none-test text)
  enough text (suc n) zero (c ∷ tokens) p q = absurd (omega (arith, q))
  enough text (suc n) (suc m) tokens p q = by_test (λ rest h k. enough text n m rest h k) (test text tokens) refl
    where
      by_item : test text tokens ≡ true → ((rest : List Token) → length rest ≤ n → length rest ≤ m → at_most n (test text) (item text) rest ≡ at_most m (test text) (item text) rest)
          → (x : Front A) → item text tokens ≡ x
          → (x >>= λ a rest. at_most n (test text) (item text) rest >>= λ others behind. Behind (a ∷ others) behind) ≡ (x >>= λ a rest. at_most m (test text) (item text) rest >>= λ others behind. Behind (a ∷ others) behind)
      by_item e same (Behind a rest) is = let less = shorter text tokens e a rest is in
          ap (λ y. y >>= λ others behind. Behind (a ∷ others) behind) (same rest (omega (arith, less, p)) (omega (arith, less, q)))
      by_item e same (Stops rest) is = refl

      by_test : ((rest : List Token) → length rest ≤ n → length rest ≤ m → at_most n (test text) (item text) rest ≡ at_most m (test text) (item text) rest) → (b : Bool) → test text tokens ≡ b
          → (elim b as (λ _. Front (List A)) [ true ↦ (item text tokens >>= λ a rest. at_most n (test text) (item text) rest >>= λ others behind. Behind (a ∷ others) behind) | false ↦ Behind [] tokens ])
          ≡ (elim b as (λ _. Front (List A)) [ true ↦ (item text tokens >>= λ a rest. at_most m (test text) (item text) rest >>= λ others behind. Behind (a ∷ others) behind) | false ↦ Behind [] tokens ])
      by_test same true e = by_item e same (item text tokens) refl
      by_test same false e = refl

  -- an item and what stands behind it, or nothing
  step : (text : List ℕ) (n : ℕ) (tokens : List Token) → length tokens ≤ n
      → at_most n (test text) (item text) tokens ≡ either (test text) (λ all. item text all >>= λ a rest. others_behind a text rest) (nothing []) tokens
  step text zero [] p = sym (chosen-second (test text) (λ all. item text all >>= λ a rest. others_behind a text rest) (nothing []) [] (none-test text))
  step text zero (c ∷ tokens) p = absurd (omega (arith, p))
  step text (suc n) tokens p = by_test (test text tokens) refl
    where
      by_item : test text tokens ≡ true → (x : Front A) → item text tokens ≡ x
          → (x >>= λ a rest. at_most n (test text) (item text) rest >>= λ others behind. Behind (a ∷ others) behind) ≡ (x >>= λ a rest. others_behind a text rest)
      by_item e (Behind a rest) is = let less = shorter text tokens e a rest is in
          ap (λ y. y >>= λ others behind. Behind (a ∷ others) behind) (enough text n (length rest) rest (omega (arith, less, p)) (omega arith))
      by_item e (Stops rest) is = refl

      by_test : (b : Bool) → test text tokens ≡ b
          → (elim b as (λ _. Front (List A)) [ true ↦ (item text tokens >>= λ a rest. at_most n (test text) (item text) rest >>= λ others behind. Behind (a ∷ others) behind) | false ↦ Behind [] tokens ])
          ≡ (elim b as (λ _. Front (List A)) [ true ↦ (item text tokens >>= λ a rest. others_behind a text rest) | false ↦ Behind [] tokens ])
      by_test true e = by_item e (item text tokens) refl
      by_test false e = refl

  abbrev all_items : List ℕ → List Token → Front (List A)
  all_items text = many (test text) (item text)

  pub many-step : (text : List ℕ) (tokens : List Token) → all_items text tokens ≡ either (test text) (λ all. item text all >>= λ a rest. others_behind a text rest) (nothing []) tokens
  many-step text tokens = step text (length tokens) tokens (omega arith)

  abbrev item_first : List ℕ → List Token → Front (List A)
  item_first text tokens = item text tokens >>= λ a rest. others_behind a text rest

  not_always : (text : List ℕ) (tokens : List Token) → test text tokens ≡ false → begins (at text) tokens ≡ false
  not_always text tokens e = by_begin (begins (at text) tokens) refl
    where
      by_begin : (b : Bool) → begins (at text) tokens ≡ b → b ≡ false
      by_begin true h = let k = sym (always text tokens h) ∙ e in absurd (cc)
      by_begin false h = refl

  from_rest : (text : List ℕ) (tokens : List Token) → ((middle : List Token) → length middle < length tokens → Outcome K looks at all_items text middle (all_items text middle))
      → Outcome K looks at all_items text tokens (all_items text tokens)
  from_rest text tokens others = subst (λ x. Outcome K looks at all_items text tokens x) (sym (many-step text tokens)) (by_test (test text tokens) refl)
    where
      from_first : test text tokens ≡ true → (x : Front (List A)) → Outcome K looks at1 item_first text tokens x → Outcome K looks at all_items text tokens x
      from_first e (Behind a rest) q = record {
        front = q.front;
        parted = q.parted;
        kinds = q.kinds;
        first = λ h. let k = sym (begun text tokens e) ∙ q.first h in absurd (cc);
        local = λ other others alikes next.
            many-step other (q.front ++ others)
            ∙ chosen-first (test other) (item_first other) (nothing []) (q.front ++ others)
            (tests-behind looks test tests (at1 text) text other tokens q.front rest others q.parted (begun text tokens e) q.first alikes (next-same looks text other rest others next) ∙ e)
            ∙ q.local other others alikes next;
      }
      from_first e (Stops rest) q = record {
        front = q.front;
        parted = q.parted;
        kinds = q.kinds;
        first = λ h. let k = sym (begun text tokens e) ∙ q.first h in absurd (cc);
        local = λ other others alikes same.
            many-step other (q.front ++ others)
            ∙ chosen-first (test other) (item_first other) (nothing []) (q.front ++ others)
            (tests-behind looks test tests (at1 text) text other tokens q.front rest others q.parted (begun text tokens e) q.first alikes same ∙ e)
            ∙ q.local other others alikes same;
      }

      by_test : (b : Bool) → test text tokens ≡ b
          → Outcome K looks at all_items text tokens (elim b as (λ _. Front (List A)) [ true ↦ item_first text tokens | false ↦ Behind [] tokens ])
      by_test true e = from_first e (item_first text tokens)
          (outcome-then K looks1 looks looks at1 at item others_behind within (λ text c h. h) text tokens (item text tokens) (part.run text tokens)
          (λ a middle is. outcome-made K looks at all_items (λ others. a ∷ others) text middle (all_items text middle) (others middle (shorter text tokens e a middle is))))
      by_test false e = record {
        front = [];
        parted = refl;
        kinds = tt;
        first = λ h. not_always text tokens e;
        local = λ other others alikes next.
            many-step other others ∙ chosen-second (test other) (item_first other) (nothing []) others (sym (tests text other tokens others next) ∙ e);
      }

  many-outcome : (n : ℕ) (text : List ℕ) (tokens : List Token) → length tokens ≤ n → Outcome K looks at all_items text tokens (all_items text tokens)
  many-outcome zero text tokens p = from_rest text tokens (λ middle h. absurd (omega (arith, h, p)))
  many-outcome (suc n) text tokens p = from_rest text tokens (λ middle h. many-outcome n text middle (omega (arith, h, p)))

  pub part-many : Part K looks at (λ text. many (test text) (item text))
  part-many = record { run = λ text tokens. many-outcome (length tokens) text tokens (omega arith) }
