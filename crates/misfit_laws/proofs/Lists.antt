-- Words, names, and lists of columns and of other things.
use Rattle.std.proofs.Common.{◌≡◌, ℕ, ◌<◌, Bool, true, false, ◌&&◌, ◌||◌, List, [], ◌∷◌, ◌++◌, length, refl, sym, ap, ◌∙◌, subst}
use Rattle.std.specs.Prelude.{IsTrue, Some, None, is_some, codes}
use Rattle.std.proofs.Math.Bool.{and-true, and-false}
use Rattle.schema_spec.specs.declared.token.TokenKind.{TokenKind}
use Rattle.schema_spec.specs.declared.token.Token.{Token}
use Rattle.schema_spec.specs.Words.{is_keyword, is_word_of, is_sign, is_name}
use Rattle.schema_spec.specs.Fronts.{Front, Behind, Stops, ◌>>=◌, begins, one, nothing, many}
use Rattle.schema_spec.specs.ColumnGrammar.{word, sign, name, at_sign, listed, list_in_brackets, collation, order, listed_column, on_conflict}
use Rattle.grammar_laws.specs.Lexemes.{is_whole}
use Rattle.grammar_laws.specs.TestsLaws.{Respects, none, is_wordy, word-respects, sign-respects, name-respects, word-wordy, name-wordy, wordy-whole, sign-whole, sign-other}
use Rattle.grammar_laws.specs.ProductionsLaws.{none-first, Alikes, Next, Outcome, Part, tests-one, chosen-first, chosen-second}
use Rattle.misfit_laws.proofs.Fillers.{Filler, Capitals, Opening, Closing, Comma, are_capitals, lexeme, token_of, AreFillers}
use Rattle.misfit_laws.proofs.Continuing.{Anything, Closes, Apart, Passed, OneTaken, Continues, longer, nothing-left, taken-some, stops-some, behind-same, continues-fewer, one-passes, continues-one, continues-nothing, continues-then, continues-before, continues-closed, continues-made}
use Rattle.misfit_laws.proofs.Choosing.{continues-maybe}
use Rattle.misfit_laws.proofs.Repeating.{continues-many, items-short}
use Rattle.misfit_laws.proofs.Following.{apart-words, closes-free}

-- a name
abbrev pub a_name : Filler
a_name = Capitals (codes "A") refl

-- a word, in capital letters
module _ (K : TokenKind → Bool) (wordy : (kind : TokenKind) → IsTrue (is_wordy kind) → IsTrue (K kind)) where
  pub words-continues : (ws : List (List ℕ)) (w : List ℕ) (capitals : IsTrue (are_capitals w)) → is_word_of ws w (token_of (lexeme (Capitals w capitals))) ≡ true
      → Continues K none (is_word_of ws) Anything false (Capitals w capitals ∷ []) (λ text. one (is_word_of ws text))
  words-continues ws w capitals e = continues-one (is_word_of ws) (word-respects ws) (λ text c e. wordy c.kind (word-wordy ws text c e)) (Capitals w capitals) e

  pub names-continues : Continues K none is_name Anything false (a_name ∷ []) (λ text. name text)
  names-continues = continues-one is_name name-respects (λ text c e. wordy c.kind (name-wordy text c e)) a_name refl

  pub collations-continues : Continues K none (is_keyword (codes "COLLATE")) Apart true [] (λ text. collation text)
  collations-continues =
      continues-maybe (is_keyword (codes "COLLATE")) None (word-respects (codes "COLLATE" ∷ [])) (λ text c e. e) (apart-words (codes "COLLATE" ∷ []) refl)
      (continues-then (words-continues (codes "COLLATE" ∷ []) (codes "COLLATE") refl refl) (λ collate. continues-then names-continues (λ collation. continues-nothing (Some collation))))

  -- what an order is, by whether one of its words comes first
  abbrev ordered : List ℕ → Token → List Token → Bool → Front Bool
  ordered text c tokens test = elim test as (λ _. Front Bool) [ true ↦ Behind (is_keyword (codes "DESC") text c) tokens | false ↦ Behind false (c ∷ tokens) ]

  order-by : (ws : List (List ℕ)) (text : List ℕ) (c : Token) (tokens : List Token) (b : Bool) → is_word_of ws text c ≡ b → order text ws (c ∷ tokens) ≡ ordered text c tokens b
  order-by ws text c tokens true e =
      ap (λ x. x >>= λ order rest. Behind (is_keyword (codes "DESC") text c && is_some order) rest)
      (chosen-first (begins (is_word_of ws text)) (λ tokens. one (is_word_of ws text) tokens >>= λ token rest. Behind (Some token) rest) (nothing None) (c ∷ tokens) e
      ∙ ap (λ b. (elim b as (λ _. Front Token) [ true ↦ Behind c tokens | false ↦ Stops (c ∷ tokens) ]) >>= λ token rest. Behind (Some token) rest) e)
      ∙ ap (λ v. Behind v tokens) (and-true (is_keyword (codes "DESC") text c))
  order-by ws text c tokens false e =
      ap (λ x. x >>= λ order rest. Behind (is_keyword (codes "DESC") text c && is_some order) rest)
      (chosen-second (begins (is_word_of ws text)) (λ tokens. one (is_word_of ws text) tokens >>= λ token rest. Behind (Some token) rest) (nothing None) (c ∷ tokens) e)
      ∙ ap (λ v. Behind v (c ∷ tokens)) (and-false (is_keyword (codes "DESC") text c))

  orders-part : (ws : List (List ℕ)) → Part K none none (λ text. order text ws)
  orders-part ws = record { run = run_order }
    where
      by_test : (text : List ℕ) (c : Token) (tokens : List Token) (b : Bool) → is_word_of ws text c ≡ b → Outcome K none none (λ text. order text ws) text (c ∷ tokens) (ordered text c tokens b)
      by_test text c tokens true e = record {
        front = c ∷ [];
        parted = refl;
        kinds = (wordy c.kind (word-wordy ws text c e), tt);
        first = λ h. refl;
        local = λ other others alikes next.
            order-by ws other c others true (sym (word-respects ws text other c c alikes.0) ∙ e)
            ∙ ap (λ v. Behind v others) (sym (word-respects (codes "DESC" ∷ []) text other c c alikes.0));
      }
      by_test text c tokens false e = record { front = []; parted = refl; kinds = tt; first = λ h. refl; local = left }
        where
          left : (other : List ℕ) (others : List Token) → Alikes text other [] → Next none text other (c ∷ tokens) others → order other ws others ≡ Behind false others
          left other [] alikes next = absurd next
          left other (d ∷ others) alikes next = order-by ws other d others false (ap (is_word_of ws other) (sym next.0) ∙ sym (word-respects ws text other c c next.1) ∙ e)

      run_order : (text : List ℕ) (tokens : List Token) → Outcome K none none (λ text. order text ws) text tokens (order text ws tokens)
      run_order text [] = record { front = []; parted = refl; kinds = tt; first = λ h. refl; local = λ other others alikes next. absurd next }
      run_order text (c ∷ tokens) = subst_order text c tokens (is_word_of ws text c) refl
        where
          subst_order : (text : List ℕ) (c : Token) (tokens : List Token) (b : Bool) → is_word_of ws text c ≡ b → Outcome K none none (λ text. order text ws) text (c ∷ tokens) (order text ws (c ∷ tokens))
          subst_order text c tokens b e = subst (λ x. Outcome K none none (λ text. order text ws) text (c ∷ tokens) x) (sym (order-by ws text c tokens b e)) (by_test text c tokens b e)

  -- no word of an order
  order-none : (ws : List (List ℕ)) (text : List ℕ) (rest : List Token) → begins (is_word_of ws text) rest ≡ false → order text ws rest ≡ Behind false rest
  order-none ws text [] e = refl
  order-none ws text (c ∷ rest) e = order-by ws text c rest false e

  -- an order stops nowhere
  pub order-goes : (ws : List (List ℕ)) (text : List ℕ) (tokens rest : List Token) → order text ws tokens ≡ Stops rest → ⊥
  order-goes ws text [] rest e = absurd (cc)
  order-goes ws text (c ∷ tokens) rest e = by_word (is_word_of ws text c) refl
    where
      by_word : (b : Bool) → is_word_of ws text c ≡ b → ⊥
      by_word true f = let wrong = sym (order-by ws text c tokens true f) ∙ e in absurd (cc)
      by_word false f = let wrong = sym (order-by ws text c tokens false f) ∙ e in absurd (cc)

  pub orders-continues : (ws : List (List ℕ)) → ((text : List ℕ) (rest : List Token) → Apart text rest → begins (is_word_of ws text) rest ≡ false) → Continues K none none Apart true [] (λ text. order text ws)
  orders-continues ws free = record {
    part = orders-part ws;
    fresh = fresh_order;
    kept = kept_order;
    empty = λ text rest a e. refl;
    mended = λ text c front rest e. absurd (order-goes ws text ((c ∷ front) ++ rest) rest e);
  }
    where
      fresh_order : (other : List ℕ) (others more : List Token) → AreFillers other [] others → Apart other more → Passed (order other ws (others ++ more)) more
      fresh_order other [] more fillers follows = (false, order-none ws other more (free other more follows))
      fresh_order other (c ∷ others) more fillers follows = absurd fillers

      -- an order of nothing is none
      none_of : (text : List ℕ) (rest : List Token) (a : Bool) → order text ws rest ≡ Behind a rest → a ≡ false
      none_of text [] a e = let is : ◌≡◌ {A = Front Bool} (Behind false []) (Behind a []) = e in sym (behind-same false a [] [] is).0
      none_of text (c ∷ rest) a e = by_word (is_word_of ws text c) refl
        where
          by_word : (b : Bool) → is_word_of ws text c ≡ b → a ≡ false
          by_word true f = absurd (longer c [] rest (sym (behind-same (is_keyword (codes "DESC") text c) a rest (c ∷ rest) (sym (order-by ws text c rest true f) ∙ e)).1))
          by_word false f = sym (behind-same false a (c ∷ rest) (c ∷ rest) (sym (order-by ws text c rest false f) ∙ e)).0

      kept_order : (text other : List ℕ) (front rest more : List Token) (a : Bool) → order text ws (front ++ rest) ≡ Behind a rest → Alikes text other front → Apart other more → order other ws (front ++ more) ≡ Behind a more
      kept_order text other [] rest more a e alikes follows = order-none ws other more (free other more follows) ∙ ap (λ v. Behind v more) (sym (none_of text rest a e))
      kept_order text other (c ∷ front) rest more a e alikes follows = by_word (is_word_of ws text c) refl
        where
          by_word : (b : Bool) → is_word_of ws text c ≡ b → order other ws ((c ∷ front) ++ more) ≡ Behind a more
          by_word true f =
              let (same, left) = behind-same (is_keyword (codes "DESC") text c) a (front ++ rest) rest (sym (order-by ws text c (front ++ rest) true f) ∙ e) in
              order-by ws other c (front ++ more) true (sym (word-respects ws text other c c alikes.0) ∙ f)
              ∙ ap (λ v. Behind v (front ++ more)) (sym (word-respects (codes "DESC" ∷ []) text other c c alikes.0) ∙ same)
              ∙ ap (λ f. Behind a (f ++ more)) (nothing-left front rest left)
          by_word false f = absurd (longer c front rest (behind-same false a ((c ∷ front) ++ rest) rest (sym (order-by ws text c (front ++ rest) false f) ∙ e)).1)

  pub listed_columns-continues : (ws : List (List ℕ)) → ((text : List ℕ) (rest : List Token) → Apart text rest → begins (is_word_of ws text) rest ≡ false)
      → Continues K none is_name Apart false (a_name ∷ []) (λ text. listed_column text ws)
  listed_columns-continues ws free =
      continues-then names-continues (λ name. continues-before collations-continues (λ collation.
      continues-made (λ descends. record { name = name; collation = collation; descends = descends }) (orders-continues ws free)))

pub listed_column-continues : (ws : List (List ℕ)) → ((text : List ℕ) (rest : List Token) → Apart text rest → begins (is_word_of ws text) rest ≡ false)
    → Continues is_whole none is_name Apart false (a_name ∷ []) (λ text. listed_column text ws)
listed_column-continues = listed_columns-continues is_whole wordy-whole

pub word-continues : (w : List ℕ) (capitals : IsTrue (are_capitals w)) → is_keyword w w (token_of (lexeme (Capitals w capitals))) ≡ true
    → Continues is_whole none (is_keyword w) Anything false (Capitals w capitals ∷ []) (λ text. word text w)
word-continues w capitals e = words-continues is_whole wordy-whole (w ∷ []) w capitals e

pub one_of-continues : (ws : List (List ℕ)) (w : List ℕ) (capitals : IsTrue (are_capitals w)) → is_word_of ws w (token_of (lexeme (Capitals w capitals))) ≡ true
    → Continues is_whole none (is_word_of ws) Anything false (Capitals w capitals ∷ []) (λ text. one (is_word_of ws text))
one_of-continues ws w capitals e = words-continues is_whole wordy-whole ws w capitals e

pub keyword-respects : (w : List ℕ) → Respects (is_keyword w)
keyword-respects w = word-respects (w ∷ [])

pub words-whole : (ws : List (List ℕ)) (text : List ℕ) (c : Token) → is_word_of ws text c ≡ true → IsTrue (is_whole c.kind)
words-whole ws text c e = wordy-whole c.kind (word-wordy ws text c e)

pub opening-continues : Continues is_whole none (is_sign 40) Anything false (Opening ∷ []) (λ text. sign text 40)
opening-continues = continues-one (is_sign 40) (sign-respects 40) (sign-whole 40) Opening refl

pub closing-continues : Continues is_whole none (is_sign 41) Anything false (Closing ∷ []) (λ text. sign text 41)
closing-continues = continues-one (is_sign 41) (sign-respects 41) (sign-whole 41) Closing refl

pub comma-continues : Continues is_whole none (is_sign 44) Anything false (Comma ∷ []) (λ text. sign text 44)
comma-continues = continues-one (is_sign 44) (sign-respects 44) (sign-whole 44) Comma refl

pub name-continues : Continues is_whole none is_name Anything false (a_name ∷ []) (λ text. name text)
name-continues = names-continues is_whole wordy-whole

pub never-none : {A : Type 0} (text : List ℕ) (tokens : List Token) → begins (none text) tokens ≡ true → A
never-none text tokens e = let h = sym (none-first text tokens) ∙ e in absurd (cc)

pub not-both : {A : Type 0} → (false || false) ≡ true → A
not-both e = absurd (cc)

-- things behind commas
module _ {A : Type 0} {at : List ℕ → Token → Bool} {G : List ℕ → List Token → Type 0} {short : List Filler} {item : List ℕ → List Token → Front A} (F : List ℕ → List Token → Type 0)
    (free : (text : List ℕ) (rest : List Token) → F text rest → begins (is_sign 44 text) rest ≡ false) (wider : (text : List ℕ) (rest : List Token) → F text rest → G text rest)
    (p : Continues is_whole none at G false short item) where
  abbrev with_comma : List ℕ → List Token → Front A
  with_comma text all = sign text 44 all >>= λ comma rest. item text rest

  pub many_commas-continues : Continues is_whole none (is_sign 44) F true [] (λ text. many (at_sign text 44) (with_comma text))
  many_commas-continues =
      continues-many is_whole none none (is_sign 44) (is_sign 44) F G false (Comma ∷ short) (λ text. at_sign text 44) with_comma
      (tests-one (is_sign 44) (sign-respects 44)) (λ text tokens e. e) (λ text tokens e. e) (λ text c h. refl) free wider (λ text other c more alike two follows. not-both two) (λ text c two. not-both two)
      (continues-then comma-continues (λ comma. p))

  -- behind a thing that takes much little is left
  pub commas-short : (text : List ℕ) (c : Token) (rest left : List Token) → is_sign 44 text c ≡ true → begins (at text) rest ≡ true → OneTaken (many (at_sign text 44) (with_comma text) (c ∷ rest)) left → length left < length rest
  commas-short text c rest left comma begun one =
      items-short is_whole none none (is_sign 44) (is_sign 44) F G false (Comma ∷ short) (λ text. at_sign text 44) with_comma
      (tests-one (is_sign 44) (sign-respects 44)) (λ text tokens e. e) (λ text tokens e. e) (λ text c h. refl) free wider (λ text other c more alike two follows. not-both two) (λ text c two. not-both two)
      (continues-then comma-continues (λ comma. p)) text (c ∷ rest) left (length rest) comma
      (λ a middle is. taken-some p.part text rest middle a begun (sym behind_comma ∙ is)) (λ last is. stops-some p.part text rest last begun (sym behind_comma ∙ is)) one
    where
      behind_comma : with_comma text (c ∷ rest) ≡ item text rest
      behind_comma = ap (λ x. x >>= λ comma rest. item text rest) (one-passes (is_sign 44 text) c rest comma)

  pub listed-continues : Continues is_whole none at F false (short ++ []) (λ text. listed text (item text))
  listed-continues = continues-before (continues-fewer F wider p) (λ a. continues-made (λ others. a ∷ others) many_commas-continues)

pub closes-no_comma : (text : List ℕ) (rest : List Token) → Closes text rest → begins (is_sign 44 text) rest ≡ false
closes-no_comma = closes-free (is_sign 44) (sign-other 41 44 refl)

pub list_in_brackets-continues : {A : Type 0} {at : List ℕ → Token → Bool} {G : List ℕ → List Token → Type 0} {short : List Filler} {item : List ℕ → List Token → Front A}
    → ((text : List ℕ) (rest : List Token) → Closes text rest → G text rest) → Continues is_whole none at G false short item
    → Continues is_whole none (is_sign 40) Anything false (Opening ∷ ((short ++ []) ++ (Closing ∷ []))) (λ text. list_in_brackets text (item text))
list_in_brackets-continues wider p =
    continues-then opening-continues (λ opening. continues-closed (listed-continues Closes closes-no_comma wider p) (λ items. continues-then closing-continues (λ closing. continues-nothing items)))

pub named-continues : Continues is_whole none (is_keyword (codes "CONSTRAINT")) Anything false (Capitals (codes "CONSTRAINT") refl ∷ a_name ∷ [])
    (λ text tokens. word text (codes "CONSTRAINT") tokens >>= λ constraint rest. name text rest >>= λ name rest. Behind (Some name) rest)
named-continues = continues-then (word-continues (codes "CONSTRAINT") refl refl) (λ constraint. continues-then name-continues (λ name. continues-nothing (Some name)))

abbrev conflict_words : List (List ℕ)
conflict_words = codes "ROLLBACK" ∷ codes "ABORT" ∷ codes "FAIL" ∷ codes "IGNORE" ∷ codes "REPLACE" ∷ []

pub on_conflict-continues : Continues is_whole none (is_keyword (codes "ON")) Apart true [] (λ text. on_conflict text)
on_conflict-continues =
    continues-maybe (is_keyword (codes "ON")) false (keyword-respects (codes "ON")) (λ text c e. e) (apart-words (codes "ON" ∷ []) refl)
    (continues-then (word-continues (codes "ON") refl refl) (λ on. continues-then (word-continues (codes "CONFLICT") refl refl) (λ conflict.
    continues-then (one_of-continues conflict_words (codes "FAIL") refl refl) (λ act. continues-nothing true))))

abbrev pub both_orders : List (List ℕ)
both_orders = codes "ASC" ∷ codes "DESC" ∷ []
