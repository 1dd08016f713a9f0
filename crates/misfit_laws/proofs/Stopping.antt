-- A column of a list stops at every token that is no name, where it stopped before.
use Rattle.std.proofs.Common.{◌≡◌, ℕ, Bool, true, false, ◌⊎◌, List, [], ◌∷◌, ◌++◌, refl, sym, ap, ◌∙◌, subst, inl, inr}
use Rattle.std.proofs.lemmas.List.{append_assoc}
use Rattle.std.specs.Prelude.{Option, Some, None, codes}
use Rattle.schema_spec.specs.declared.token.TokenKind.{TokenKind}
use Rattle.schema_spec.specs.declared.token.Token.{Token}
use Rattle.schema_spec.specs.declared.syntax.ListedColumn.{ListedColumn}
use Rattle.schema_spec.specs.Words.{is_name, is_keyword, is_word_of}
use Rattle.schema_spec.specs.Fronts.{Front, Behind, Stops, ◌>>=◌, begins, nothing}
use Rattle.schema_spec.specs.ColumnGrammar.{word, name, at_word, collation, order, listed_column}
use Rattle.grammar_laws.specs.Lexemes.{is_whole}
use Rattle.grammar_laws.specs.TestsLaws.{none, wordy-whole}
use Rattle.grammar_laws.specs.ProductionsLaws.{Alikes, alikes-front, alikes-back, Part, chosen-first}
use Rattle.misfit_laws.proofs.Fillers.{Filler}
use Rattle.misfit_laws.proofs.Continuing.{Anything, Apart, Continues, nothing-left, parted, taken-stop, first-stop, bind-stopped, one-stopped, one-passes, one-stops, continues-nothing, continues-then, continues-before, continues-made}
use Rattle.misfit_laws.proofs.Lists.{word-continues, keyword-respects, name-continues, collations-continues, orders-continues, order-goes}

abbrev StopsAgain : {A : Type 0} → (List ℕ → List Token → Front A) → Type 0
StopsAgain P = (text other : List ℕ) (front rest more : List Token) → P text (front ++ rest) ≡ Stops rest → Alikes text other front → begins (is_name other) more ≡ false → P other (front ++ more) ≡ Stops more

name-stops : StopsAgain (λ text. name text)
name-stops text other front rest more e alikes no_name =
    ap (λ f. name other (f ++ more)) (nothing-left front rest (one-stopped (is_name text) (front ++ rest) rest e)) ∙ one-stops (is_name other) more no_name

-- one that anything may follow, and the next
then-stops : {A B : Type 0} {K : TokenKind → Bool} {looks at1 at2 : List ℕ → Token → Bool} {may : Bool} {short : List Filler} {P : List ℕ → List Token → Front A} {Q : A → List ℕ → List Token → Front B}
    → Continues K none at1 Anything may short P → ((a : A) → Part K looks at2 (Q a)) → StopsAgain P → ((a : A) → StopsAgain (Q a)) → StopsAgain (λ text tokens. P text tokens >>= λ a rest. Q a text rest)
then-stops {A} {B} {K} {looks} {at1} {at2} {may} {short} {P} {Q} p q ps qs text other front rest more e alikes no_name = by_stop (bind-stopped (P text (front ++ rest)) (λ a rest. Q a text rest) rest e)
  where
    by_stop : (P text (front ++ rest) ≡ Stops rest) ⊎ ((a : A) × (middle : List Token) × (P text (front ++ rest) ≡ Behind a middle) × (Q a text middle ≡ Stops rest)) → (P other (front ++ more) >>= λ a rest. Q a other rest) ≡ Stops more
    by_stop (inl stop) = ap (λ x. x >>= λ a rest. Q a other rest) (ps text other front rest more stop alikes no_name)
    by_stop (inr (a, middle, first, second)) =
        let (f2, is2) = taken-stop (q a) text middle rest second in
        let (f1, whole, passed) = parted p.part text front rest middle f2 a first is2 in
        let al : Alikes text other (f1 ++ f2) = subst (Alikes text other) whole alikes in
        ap (λ f. P other (f ++ more) >>= λ a rest. Q a other rest) whole
        ∙ ap (λ x. P other x >>= λ a rest. Q a other rest) (append_assoc f1 f2 more)
        ∙ ap (λ x. x >>= λ a rest. Q a other rest)
        (p.kept text other f1 (f2 ++ rest) (f2 ++ more) a passed (alikes-front text other f1 f2 al) tt)
        ∙ qs a text other f2 rest more (ap (Q a text) (sym is2) ∙ second) (alikes-back text other f1 f2 al) no_name

-- one behind which nothing stops
first-stops : {A B : Type 0} (P : List ℕ → List Token → Front A) (Q : A → List ℕ → List Token → Front B) → StopsAgain P
    → ((a : A) (text : List ℕ) (tokens rest : List Token) → Q a text tokens ≡ Stops rest → ⊥) → StopsAgain (λ text tokens. P text tokens >>= λ a rest. Q a text rest)
first-stops {A} {B} P Q ps goes text other front rest more e alikes no_name = by_stop (bind-stopped (P text (front ++ rest)) (λ a rest. Q a text rest) rest e)
  where
    by_stop : (P text (front ++ rest) ≡ Stops rest) ⊎ ((a : A) × (middle : List Token) × (P text (front ++ rest) ≡ Behind a middle) × (Q a text middle ≡ Stops rest)) → (P other (front ++ more) >>= λ a rest. Q a other rest) ≡ Stops more
    by_stop (inl stop) = ap (λ x. x >>= λ a rest. Q a other rest) (ps text other front rest more stop alikes no_name)
    by_stop (inr (a, middle, first, second)) = absurd (goes a text middle rest second)

abbrev a_collation : List ℕ → List Token → Front (Option Token)
a_collation text tokens = word text (codes "COLLATE") tokens >>= λ collate rest. name text rest >>= λ collation rest. Behind (Some collation) rest

no-stop : {A B : Type 0} (f : A → B) (a : A) (text : List ℕ) (tokens rest : List Token) → Behind (f a) tokens ≡ Stops rest → ⊥
no-stop f a text tokens rest e = absurd (cc)

-- behind the word itself only the name stops
collate-stops : (text other : List ℕ) (c : Token) (front rest more : List Token) → is_keyword (codes "COLLATE") text c ≡ true → a_collation text ((c ∷ front) ++ rest) ≡ Stops rest → Alikes text other (c ∷ front)
    → begins (is_name other) more ≡ false → a_collation other ((c ∷ front) ++ more) ≡ Stops more
collate-stops text other c front rest more test e alikes no_name =
    passed other (front ++ more) (sym (keyword-respects (codes "COLLATE") text other c c alikes.0) ∙ test)
    ∙ first-stops (λ text. name text) (λ collation text rest. Behind (Some collation) rest) name-stops (λ collation. no-stop Some collation) text other front rest more (sym (passed text (front ++ rest) test) ∙ e) alikes.1 no_name
  where
    passed : (text : List ℕ) (tokens : List Token) → is_keyword (codes "COLLATE") text c ≡ true → a_collation text (c ∷ tokens) ≡ (name text tokens >>= λ collation rest. Behind (Some collation) rest)
    passed text tokens test = ap (λ x. x >>= λ collate rest. name text rest >>= λ collation rest. Behind (Some collation) rest) (one-passes (is_keyword (codes "COLLATE") text) c tokens test)

collation-stops : StopsAgain (λ text. collation text)
collation-stops text other [] rest more e alikes no_name = by_word (at_word text (codes "COLLATE") rest) refl e
  where
    part : Part is_whole none (is_keyword (codes "COLLATE")) a_collation
    part = (continues-then (word-continues (codes "COLLATE") refl refl) (λ collate. continues-then name-continues (λ collation. continues-nothing {F = Anything} (Some collation)))).part

    by_word : (b : Bool) → at_word text (codes "COLLATE") rest ≡ b → (elim b as (λ _. Front (Option Token)) [ true ↦ a_collation text rest | false ↦ Behind None rest ]) ≡ Stops rest → collation other more ≡ Stops more
    by_word true test e = let wrong = sym test ∙ first-stop part text rest e in absurd (cc)
    by_word false test e = absurd (cc)
collation-stops text other (c ∷ front) rest more e alikes no_name = by_word (is_keyword (codes "COLLATE") text c) refl e
  where
    by_word : (b : Bool) → is_keyword (codes "COLLATE") text c ≡ b → (elim b as (λ _. Front (Option Token)) [ true ↦ a_collation text ((c ∷ front) ++ rest) | false ↦ Behind None ((c ∷ front) ++ rest) ]) ≡ Stops rest
        → collation other ((c ∷ front) ++ more) ≡ Stops more
    by_word true test e =
        chosen-first (at_word other (codes "COLLATE")) (a_collation other) (nothing None) ((c ∷ front) ++ more) (sym (keyword-respects (codes "COLLATE") text other c c alikes.0) ∙ test)
        ∙ collate-stops text other c front rest more test e alikes no_name
    by_word false test e = absurd (cc)

abbrev behind_collation : List (List ℕ) → Token → Option Token → List ℕ → List Token → Front ListedColumn
behind_collation ws name collation text rest = order text ws rest >>= λ descends rest. Behind (record { name = name; collation = collation; descends = descends }) rest

pub listed-stop : (ws : List (List ℕ)) → ((text : List ℕ) (rest : List Token) → Apart text rest → begins (is_word_of ws text) rest ≡ false) → StopsAgain (λ text. listed_column text ws)
listed-stop ws free = then-stops name-continues (λ name. (behind-continues name).part) name-stops (λ name. first-stops (λ text. collation text) (behind_collation ws name) collation-stops (goes name))
  where
    behind-continues : (name : Token) → Continues {A = ListedColumn} is_whole none (is_keyword (codes "COLLATE")) Apart true []
        (λ text rest. collation text rest >>= λ collation rest. behind_collation ws name collation text rest)
    behind-continues name =
        continues-before (collations-continues is_whole wordy-whole) (λ collation. continues-made (λ descends. record { name = name; collation = collation; descends = descends }) (orders-continues is_whole wordy-whole ws free))

    goes : (name : Token) (collation : Option Token) (text : List ℕ) (tokens rest : List Token)
        → behind_collation ws name collation text tokens ≡ Stops rest → ⊥
    goes name collation text tokens rest e = by_stop (bind-stopped (order text ws tokens) (λ descends rest. Behind (record { name = name; collation = collation; descends = descends }) rest) rest e)
      where
        by_stop : (order text ws tokens ≡ Stops rest)
            ⊎ ((descends : Bool) × (middle : List Token) × (order text ws tokens ≡ Behind descends middle) × (◌≡◌ {A = Front ListedColumn} (Behind (record { name = name; collation = collation; descends = descends }) middle) (Stops rest))) → ⊥
        by_stop (inl stop) = order-goes is_whole wordy-whole ws text tokens rest stop
        by_stop (inr (descends, middle, first, second)) = absurd (cc)
