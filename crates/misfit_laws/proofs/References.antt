-- REFERENCES and its clauses.
use Rattle.std.proofs.Common.{◌≡◌, ℕ, Bool, true, false, ◌&&◌, ◌||◌, List, [], ◌∷◌, refl, sym, ap, ◌∙◌, inl, inr}
use Rattle.std.specs.Prelude.{Option, Some, None, codes}
use Rattle.std.proofs.Math.Bool.{and-false}
use Rattle.schema_spec.specs.declared.token.Token.{Token}
use Rattle.schema_spec.specs.Words.{is_keyword, is_word_of, is_sign}
use Rattle.schema_spec.specs.Fronts.{Front, Behind, ◌>>=◌, begins, one, either, nothing, optional, many}
use Rattle.schema_spec.specs.ColumnGrammar.{word, at_word, at_words, foreign_action, foreign_clause, at_deferral, deferral, references}
use Rattle.grammar_laws.specs.Lexemes.{is_whole}
use Rattle.grammar_laws.specs.TestsLaws.{none, sign-respects, words-more, words-first, words-others, keyword-words}
use Rattle.grammar_laws.specs.ProductionsLaws.{none-first, Same, Next, next-same, same-next, Tests, tests-one, chosen-first}
use Rattle.misfit_laws.proofs.Fillers.{Filler, Capitals}
use Rattle.misfit_laws.proofs.Continuing.{Anything, Bounded, Apart, OneTaken, Continues, first-none, first-stop, continues-fewer, bounded-apart, one-passes, continues-nothing, continues-then, continues-before, continues-made}
use Rattle.misfit_laws.proofs.Choosing.{continues-either, continues-or_nothing, continues-maybe, continues-maybe_then}
use Rattle.misfit_laws.proofs.Repeating.{continues-many}
use Rattle.misfit_laws.proofs.Following.{bounded-words, apart-words, apart-sign}
use Rattle.misfit_laws.proofs.Lists.{never-none, a_name, word-continues, one_of-continues, keyword-respects, name-continues, not-both, list_in_brackets-continues}

foreign_action-continues : Continues is_whole none none Anything false (Capitals (codes "CASCADE") refl ∷ []) (λ text. foreign_action text)
foreign_action-continues =
    continues-either none (is_keyword (codes "SET")) (keyword-respects (codes "SET")) (λ text c e. e) (λ text c e f. refl) refl
    (continues-then (word-continues (codes "SET") refl refl) (λ set. one_of-continues (codes "NULL" ∷ codes "DEFAULT" ∷ []) (codes "NULL") refl refl))
    (continues-either none (is_keyword (codes "NO")) (keyword-respects (codes "NO")) (λ text c e. e) (λ text c e f. refl) refl
    (continues-then (word-continues (codes "NO") refl refl) (λ no. word-continues (codes "ACTION") refl refl))
    (one_of-continues (codes "CASCADE" ∷ codes "RESTRICT" ∷ []) (codes "CASCADE") refl refl))

abbrev a_clause : List Filler
a_clause = Capitals (codes "ON") refl ∷ Capitals (codes "DELETE") refl ∷ Capitals (codes "CASCADE") refl ∷ []

foreign_clause-continues : Continues is_whole none (is_word_of (codes "MATCH" ∷ codes "ON" ∷ [])) Anything false a_clause (λ text. foreign_clause text)
foreign_clause-continues =
    continues-either (is_word_of (codes "MATCH" ∷ codes "ON" ∷ [])) (is_keyword (codes "MATCH")) (keyword-respects (codes "MATCH")) (λ text c e. e) (words-more (codes "MATCH") (codes "ON" ∷ [])) refl
    (continues-then (word-continues (codes "MATCH") refl refl) (λ match. name-continues))
    (continues-then (word-continues (codes "ON") refl refl) (λ on.
    continues-then (one_of-continues (codes "DELETE" ∷ codes "UPDATE" ∷ codes "INSERT" ∷ []) (codes "DELETE") refl refl) (λ change. foreign_action-continues)))

-- where neither of two words comes first, no word of both does; so one of both comes first where a test says that one does
begun-by_two : (v w : List ℕ) (text : List ℕ) (tokens : List Token) → (begins (is_keyword w text) tokens || begins (is_keyword v text) tokens) ≡ true → begins (is_word_of (v ∷ w ∷ []) text) tokens ≡ true
begun-by_two v w text [] e = absurd (cc)
begun-by_two v w text (c ∷ tokens) e = by_words (is_word_of (v ∷ w ∷ []) text c) refl
  where
    by_words : (b : Bool) → is_word_of (v ∷ w ∷ []) text c ≡ b → b ≡ true
    by_words true h = refl
    by_words false h =
        let second = words-others v (w ∷ []) text c h in
        let first = words-first v (w ∷ []) text c h in
        let none : (is_keyword w text c || is_keyword v text c) ≡ false = ap (λ b. b || is_keyword v text c) second ∙ first in
        let k = sym e ∙ none in absurd (cc)

-- neither of two words comes first
neither : (v w : List ℕ) (text : List ℕ) (rest : List Token) → begins (is_keyword w text) rest ≡ false → begins (is_keyword v text) rest ≡ false → (begins (is_keyword w text) rest || begins (is_keyword v text) rest) ≡ false
neither v w text rest e f = ap (λ b. b || begins (is_keyword v text) rest) e ∙ f

clause-tests : Tests none (λ text all. at_word text (codes "ON") all || at_word text (codes "MATCH") all)
clause-tests text other tokens others next =
    ap (λ b. b || at_word text (codes "MATCH") tokens) (tests-one (is_keyword (codes "ON")) (keyword-respects (codes "ON")) text other tokens others next)
    ∙ ap (λ b. at_word other (codes "ON") others || b) (tests-one (is_keyword (codes "MATCH")) (keyword-respects (codes "MATCH")) text other tokens others next)

foreign_clauses-continues : Continues is_whole none none Apart true [] (λ text. many (λ all. at_word text (codes "ON") all || at_word text (codes "MATCH") all) (foreign_clause text))
foreign_clauses-continues =
    continues-many is_whole none none none (is_word_of (codes "MATCH" ∷ codes "ON" ∷ [])) Apart Anything false a_clause
    (λ text all. at_word text (codes "ON") all || at_word text (codes "MATCH") all) (λ text. foreign_clause text)
    clause-tests (begun-by_two (codes "MATCH") (codes "ON")) (λ text tokens e. never-none text tokens e) (λ text c h. refl)
    (λ text rest follows. neither (codes "MATCH") (codes "ON") text rest (apart-words (codes "ON" ∷ []) refl text rest follows) (apart-words (codes "MATCH" ∷ []) refl text rest follows))
    (λ text rest follows. tt) (λ text other c more alike two follows. not-both two) (λ text c two. not-both two) foreign_clause-continues

-- DEFERRABLE and what stands behind it, behind NOT or not
abbrev deferred : List ℕ → List Token → Front (Option Token)
deferred text rest =
    word text (codes "DEFERRABLE") rest >>= λ deferrable rest.
    either (at_word text (codes "INITIALLY"))
    (λ all. word text (codes "INITIALLY") all >>= λ initially rest. one (is_word_of (codes "DEFERRED" ∷ codes "IMMEDIATE" ∷ []) text) rest >>= λ when rest. Behind (Some when) rest)
    (nothing (Some deferrable)) rest

abbrev a_deferral : List Filler
a_deferral = Capitals (codes "DEFERRABLE") refl ∷ []

deferred-continues : Continues is_whole none (is_keyword (codes "DEFERRABLE")) Apart false a_deferral deferred
deferred-continues =
    continues-then (word-continues (codes "DEFERRABLE") refl refl) (λ deferrable.
    continues-maybe (is_keyword (codes "INITIALLY")) (Some deferrable) (keyword-respects (codes "INITIALLY")) (λ text c e. e) (apart-words (codes "INITIALLY" ∷ []) refl)
    (continues-then (word-continues (codes "INITIALLY") refl refl) (λ initially.
    continues-then (one_of-continues (codes "DEFERRED" ∷ codes "IMMEDIATE" ∷ []) (codes "DEFERRED") refl refl) (λ when. continues-nothing (Some when)))))

abbrev defers : List ℕ → List Token → Front (Option Token)
defers text tokens = optional (is_keyword (codes "NOT") text) tokens >>= λ not rest. deferred text rest

defers-continues : Continues is_whole none (is_word_of (codes "NOT" ∷ codes "DEFERRABLE" ∷ [])) Apart false a_deferral defers
defers-continues =
    continues-maybe_then (is_word_of (codes "NOT" ∷ codes "DEFERRABLE" ∷ [])) (is_keyword (codes "NOT")) None (keyword-respects (codes "NOT")) (λ text c e. e) (words-more (codes "NOT") (codes "DEFERRABLE" ∷ [])) refl
    (continues-made Some (word-continues (codes "NOT") refl refl)) (λ not. deferred-continues)

deferral_in_table-continues : Continues is_whole none none Bounded true [] (λ text. deferral text false)
deferral_in_table-continues =
    continues-or_nothing is_whole none none (is_word_of (codes "NOT" ∷ codes "DEFERRABLE" ∷ [])) Bounded false a_deferral (λ text. at_deferral text false) defers None tests (begun-by_two (codes "NOT") (codes "DEFERRABLE"))
    (λ text tokens e. none-first text tokens)
    (λ text rest follows. neither (codes "NOT") (codes "DEFERRABLE") text rest (bounded-words (codes "DEFERRABLE" ∷ []) text rest follows) (bounded-words (codes "NOT" ∷ []) text rest follows))
    (λ text c rest e look one. absurd (cc)) (continues-fewer Bounded bounded-apart defers-continues)
  where
    tests : Tests none (λ text. at_deferral text false)
    tests text other tokens others next =
        ap (λ b. b || at_word text (codes "NOT") tokens) (tests-one (is_keyword (codes "DEFERRABLE")) (keyword-respects (codes "DEFERRABLE")) text other tokens others next)
        ∙ ap (λ b. at_word other (codes "DEFERRABLE") others || b) (tests-one (is_keyword (codes "NOT")) (keyword-respects (codes "NOT")) text other tokens others next)

-- in a column NOT is looked at with the word behind it
next-words : Tests (is_keyword (codes "NOT")) (λ text. at_words text (codes "NOT") (codes "DEFERRABLE"))
next-words text other [] others next = absurd next
next-words text other (c ∷ tokens) [] next = absurd next
next-words text other (c ∷ tokens) (d ∷ others) next =
    elim next.2 [ inl p ↦ without p | inr q ↦ behind q ] ∙ ap (λ x. is_keyword (codes "NOT") other x && at_word other (codes "DEFERRABLE") others) next.0
  where
    same : is_keyword (codes "NOT") text c ≡ is_keyword (codes "NOT") other c
    same = keyword-respects (codes "NOT") text other c c next.1

    without : is_keyword (codes "NOT") text c ≡ false
        → (is_keyword (codes "NOT") text c && at_word text (codes "DEFERRABLE") tokens) ≡ (is_keyword (codes "NOT") other c && at_word other (codes "DEFERRABLE") others)
    without p = ap (λ b. b && at_word text (codes "DEFERRABLE") tokens) p ∙ sym (ap (λ b. b && at_word other (codes "DEFERRABLE") others) (sym same ∙ p))

    behind : Same text other tokens others
        → (is_keyword (codes "NOT") text c && at_word text (codes "DEFERRABLE") tokens) ≡ (is_keyword (codes "NOT") other c && at_word other (codes "DEFERRABLE") others)
    behind q =
        ap (λ b. b && at_word text (codes "DEFERRABLE") tokens) same
        ∙ ap (λ b. is_keyword (codes "NOT") other c && b)
        (tests-one (is_keyword (codes "DEFERRABLE")) (keyword-respects (codes "DEFERRABLE")) text other tokens others (same-next text other tokens others q))

next-none : (looks : List ℕ → Token → Bool) (text other : List ℕ) (tokens others : List Token) → Next looks text other tokens others → Next none text other tokens others
next-none looks text other tokens others next = same-next text other tokens others (next-same looks text other tokens others next)

pub deferral_in_column-continues : Continues is_whole (is_keyword (codes "NOT")) none Apart true [] (λ text. deferral text true)
deferral_in_column-continues =
    continues-or_nothing is_whole (is_keyword (codes "NOT")) none (is_word_of (codes "NOT" ∷ codes "DEFERRABLE" ∷ [])) Apart false a_deferral (λ text. at_deferral text true) defers None tests begun
    (λ text tokens e. none-first text tokens) free long defers-continues
  where
    tests : Tests (is_keyword (codes "NOT")) (λ text. at_deferral text true)
    tests text other tokens others next =
        ap (λ b. b || at_words text (codes "NOT") (codes "DEFERRABLE") tokens)
        (tests-one (is_keyword (codes "DEFERRABLE")) (keyword-respects (codes "DEFERRABLE")) text other tokens others (next-none (is_keyword (codes "NOT")) text other tokens others next))
        ∙ ap (λ b. at_word other (codes "DEFERRABLE") others || b) (next-words text other tokens others next)

    weaker : (a b c : Bool) → (a || (b && c)) ≡ true → (a || b) ≡ true
    weaker true b c h = refl
    weaker false true c h = refl
    weaker false false c h = absurd (cc)

    begun : (text : List ℕ) (tokens : List Token) → at_deferral text true tokens ≡ true → begins (is_word_of (codes "NOT" ∷ codes "DEFERRABLE" ∷ []) text) tokens ≡ true
    begun text [] e = absurd (cc)
    begun text (c ∷ tokens) e =
        begun-by_two (codes "NOT") (codes "DEFERRABLE") text (c ∷ tokens) (weaker (is_keyword (codes "DEFERRABLE") text c) (is_keyword (codes "NOT") text c) (at_word text (codes "DEFERRABLE") tokens) e)

    no_words : (text : List ℕ) (rest : List Token) → Apart text rest → at_words text (codes "NOT") (codes "DEFERRABLE") rest ≡ false
    no_words text [] follows = refl
    no_words text (c ∷ rest) (inl h) = ap (λ b. b && at_word text (codes "DEFERRABLE") rest) (bounded-words (codes "NOT" ∷ []) text (c ∷ rest) h)
    no_words text (c ∷ rest) (inr h) = ap (λ b. is_keyword (codes "NOT") text c && b) h.1 ∙ and-false (is_keyword (codes "NOT") text c)

    free : (text : List ℕ) (rest : List Token) → Apart text rest → at_deferral text true rest ≡ false
    free text rest follows = ap (λ b. b || at_words text (codes "NOT") (codes "DEFERRABLE") rest) (apart-words (codes "DEFERRABLE" ∷ []) refl text rest follows) ∙ no_words text rest follows

    -- behind NOT stands DEFERRABLE, which is taken too
    long : (text : List ℕ) (c : Token) (rest : List Token) → at_deferral text true (c ∷ rest) ≡ true → is_keyword (codes "NOT") text c ≡ true → OneTaken (defers text (c ∷ rest)) rest → ⊥
    long text c rest e is_not taken_one = by_one taken_one
      where
        second : at_word text (codes "DEFERRABLE") rest ≡ true
        second =
            sym (ap (λ b. b && at_word text (codes "DEFERRABLE") rest) is_not)
            ∙ sym (ap (λ b. b || (is_keyword (codes "NOT") text c && at_word text (codes "DEFERRABLE") rest)) (keyword-words (codes "NOT") (codes "DEFERRABLE" ∷ []) text c is_not)) ∙ e

        same : defers text (c ∷ rest) ≡ deferred text rest
        same =
            ap (λ x. x >>= λ not rest. deferred text rest)
            (chosen-first (begins (is_keyword (codes "NOT") text)) (λ tokens. one (is_keyword (codes "NOT") text) tokens >>= λ token rest. Behind (Some token) rest) (nothing None) (c ∷ rest) is_not
            ∙ ap (λ x. x >>= λ token rest. Behind (Some token) rest) (one-passes (is_keyword (codes "NOT") text) c rest is_not))

        by_one : OneTaken (defers text (c ∷ rest)) rest → ⊥
        by_one (inl (a, is)) = let wrong = sym second ∙ first-none deferred-continues.part text rest a (sym same ∙ is) in absurd (cc)
        by_one (inr is) = let wrong = sym second ∙ first-stop deferred-continues.part text rest (sym same ∙ is) in absurd (cc)

pub references-continues : (in_column : Bool) (looks : List ℕ → Token → Bool) (F : List ℕ → List Token → Type 0) → ((text : List ℕ) (rest : List Token) → F text rest → Apart text rest)
    → Continues is_whole looks none F true [] (λ text. deferral text in_column)
    → Continues is_whole looks (is_keyword (codes "REFERENCES")) F false (Capitals (codes "REFERENCES") refl ∷ a_name ∷ []) (λ text. references text in_column)
references-continues in_column looks F fewer deferral =
    continues-then (word-continues (codes "REFERENCES") refl refl) (λ references. continues-then name-continues (λ table.
    continues-before (continues-fewer F fewer (continues-maybe (is_sign 40) [] (sign-respects 40) (λ text c e. e) (apart-sign 40 refl refl)
    (continues-fewer Apart (λ text rest h. tt) (list_in_brackets-continues (λ text rest h. tt) name-continues)))) (λ columns.
    continues-before (continues-fewer F fewer foreign_clauses-continues) (λ clauses. continues-made (λ deferral. references) deferral))))

pub references_in_table-continues : Continues is_whole none (is_keyword (codes "REFERENCES")) Bounded false (Capitals (codes "REFERENCES") refl ∷ a_name ∷ []) (λ text. references text false)
references_in_table-continues = references-continues false none Bounded bounded-apart deferral_in_table-continues
