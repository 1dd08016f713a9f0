-- The constraints of a column, and a column.
use Rattle.std.proofs.Common.{◌≡◌, ℕ, Bool, true, false, List, [], ◌∷◌, ◌++◌, refl, sym, ap, ◌∙◌, inl, inr}
use Rattle.std.specs.Prelude.{IsTrue, IsFalse, Some, None, codes}
use Rattle.schema_spec.specs.declared.token.Token.{Token}
use Rattle.schema_spec.specs.declared.syntax.ColumnConstraint.{ColumnConstraint}
use Rattle.schema_spec.specs.declared.syntax.ColumnRule.{ColumnRule}
use Rattle.schema_spec.specs.declared.syntax.ColumnRule.TheVariants.{PrimaryKey, Unique, NotNull, Collate, Generated, Skipped}
use Rattle.schema_spec.specs.Words.{constraint_words, is_keyword, is_word_of, is_sign, is_name}
use Rattle.schema_spec.specs.Fronts.{Front, Behind, Stops, ◌>>=◌, begins, one, either, nothing, optional, many}
use Rattle.schema_spec.specs.Brackets.{bracketed}
use Rattle.schema_spec.specs.ColumnGrammar.{word, name, at_word, on_conflict, made, primary_key, not_null, one_word, collate, default, check, refers, generated_as, generated, column_rule, column_constraint, column}
use Rattle.grammar_laws.specs.Lexemes.{is_whole}
use Rattle.grammar_laws.specs.TestsLaws.{Alike, none, word-respects, wordy-whole, words-more, words-first, words-others, keyword-words}
use Rattle.grammar_laws.specs.ProductionsLaws.{tests-one, chosen-first, chosen-second}
use Rattle.misfit_laws.proofs.Fillers.{Filler, Capitals, Opening, Closing, are_capitals, lexeme, token_of, AreFillers}
use Rattle.misfit_laws.proofs.Continuing.{Bounded, Apart, Passed, Continues, continues-same, continues-fewer, continues-looks, bounded-apart, one-passes, continues-nothing, continues-then, continues-before, continues-made}
use Rattle.misfit_laws.proofs.Choosing.{continues-either, continues-optional, continues-maybe_then}
use Rattle.misfit_laws.proofs.Repeating.{continues-many}
use Rattle.misfit_laws.proofs.Following.{bounded-words, apart-words}
use Rattle.misfit_laws.proofs.Skips.{bracketed-continues}
use Rattle.misfit_laws.proofs.Lists.{a_name, orders-continues, word-continues, keyword-respects, words-whole, name-continues, named-continues, on_conflict-continues, both_orders}
use Rattle.misfit_laws.proofs.Values.{column_type-continues, default_value-continues}
use Rattle.misfit_laws.proofs.References.{deferral_in_column-continues, references-continues}

primary_key-continues : Continues is_whole none (is_keyword (codes "PRIMARY")) Apart false (Capitals (codes "PRIMARY") refl ∷ Capitals (codes "KEY") refl ∷ []) (λ text. primary_key text)
primary_key-continues =
    continues-then (word-continues (codes "PRIMARY") refl refl) (λ primary. continues-then (word-continues (codes "KEY") refl refl) (λ key.
    continues-before (orders-continues is_whole wordy-whole both_orders (apart-words both_orders refl)) (λ descends.
    continues-before on_conflict-continues (λ on_conflict.
    continues-made (λ autoincrement. record { word = primary; rule = PrimaryKey descends; on_conflict = on_conflict })
    (continues-optional (is_keyword (codes "AUTOINCREMENT")) (keyword-respects (codes "AUTOINCREMENT")) (words-whole (codes "AUTOINCREMENT" ∷ [])) (apart-words (codes "AUTOINCREMENT" ∷ []) refl)
    (Capitals (codes "AUTOINCREMENT") refl) refl)))))

-- what stands behind NOT
abbrev behind_not : Token → List ℕ → List Token → Front ColumnConstraint
behind_not first text rest = word text (codes "NULL") rest >>= λ null rest. on_conflict text rest >>= λ on_conflict rest. made text first NotNull on_conflict rest

behind_not-continues : (first : Token) → Continues is_whole none (is_keyword (codes "NULL")) Apart false (Capitals (codes "NULL") refl ∷ []) (behind_not first)
behind_not-continues first =
    continues-then (word-continues (codes "NULL") refl refl) (λ null. continues-made (λ on_conflict. record { word = first; rule = NotNull; on_conflict = on_conflict }) on_conflict-continues)

not_null-continues : Continues is_whole none (is_keyword (codes "NOT")) Apart false (Capitals (codes "NOT") refl ∷ Capitals (codes "NULL") refl ∷ []) (λ text. not_null text)
not_null-continues = continues-then (word-continues (codes "NOT") refl refl) (λ first. behind_not-continues first)

one_word-continues : (bytes : List ℕ) (rule : ColumnRule) (capitals : IsTrue (are_capitals bytes)) → is_keyword bytes bytes (token_of (lexeme (Capitals bytes capitals))) ≡ true
    → Continues is_whole none (is_keyword bytes) Apart false (Capitals bytes capitals ∷ []) (λ text. one_word text bytes rule)
one_word-continues bytes rule capitals e =
    continues-then (word-continues bytes capitals e) (λ first. continues-made (λ on_conflict. record { word = first; rule = rule; on_conflict = on_conflict }) on_conflict-continues)

collate-continues : Continues is_whole none (is_keyword (codes "COLLATE")) Apart false (Capitals (codes "COLLATE") refl ∷ a_name ∷ []) (λ text. collate text)
collate-continues =
    continues-then (word-continues (codes "COLLATE") refl refl) (λ first. continues-then name-continues (λ collation. continues-nothing (record { word = first; rule = Collate collation; on_conflict = false })))

default-continues : Continues is_whole none (is_keyword (codes "DEFAULT")) Apart false (Capitals (codes "DEFAULT") refl ∷ Capitals (codes "NULL") refl ∷ []) (λ text. default text)
default-continues =
    continues-then (word-continues (codes "DEFAULT") refl refl) (λ first. continues-made (λ value. record { word = first; rule = Skipped; on_conflict = false }) default_value-continues)

check-continues : Continues is_whole none (is_keyword (codes "CHECK")) Apart false (Capitals (codes "CHECK") refl ∷ Opening ∷ Closing ∷ []) (λ text. check text)
check-continues =
    continues-then (word-continues (codes "CHECK") refl refl) (λ first. continues-then bracketed-continues (λ closing. continues-nothing (record { word = first; rule = Skipped; on_conflict = false })))

refers-continues : Continues is_whole (is_keyword (codes "NOT")) (is_keyword (codes "REFERENCES")) Apart false (Capitals (codes "REFERENCES") refl ∷ a_name ∷ []) (λ text. refers text)
refers-continues =
    continues-made (λ first. record { word = first; rule = Skipped; on_conflict = false }) (references-continues true (is_keyword (codes "NOT")) Apart (λ text rest h. h) deferral_in_column-continues)

-- what stands behind AS
abbrev behind_as : Token → List ℕ → List Token → Front ColumnConstraint
behind_as first text rest =
    bracketed text rest >>= λ closing rest.
    optional (is_word_of (codes "STORED" ∷ codes "VIRTUAL" ∷ []) text) rest >>= λ kind rest.
    made text first Generated false rest

behind_as-continues : (first : Token) → Continues is_whole none (is_sign 40) Apart false (Opening ∷ Closing ∷ []) (behind_as first)
behind_as-continues first =
    continues-then bracketed-continues (λ closing. continues-made (λ kind. record { word = first; rule = Generated; on_conflict = false })
    (continues-optional (is_word_of (codes "STORED" ∷ codes "VIRTUAL" ∷ [])) (word-respects (codes "STORED" ∷ codes "VIRTUAL" ∷ [])) (words-whole (codes "STORED" ∷ codes "VIRTUAL" ∷ []))
    (apart-words (codes "STORED" ∷ codes "VIRTUAL" ∷ []) refl) (Capitals (codes "STORED") refl) refl))

abbrev as_nothing : List Filler
as_nothing = Capitals (codes "AS") refl ∷ Opening ∷ Closing ∷ []

generated_as-continues : (first : Token) → Continues is_whole none (is_keyword (codes "AS")) Apart false as_nothing (λ text. generated_as text first)
generated_as-continues first = continues-then (word-continues (codes "AS") refl refl) (λ as_word. behind_as-continues first)

as_alone-continues : Continues is_whole none (is_keyword (codes "AS")) Apart false as_nothing (λ text tokens. one (is_keyword (codes "AS") text) tokens >>= λ first rest. generated_as text first tokens)
as_alone-continues = continues-same same (continues-then (word-continues (codes "AS") refl refl) (λ first. behind_as-continues first))
  where
    by_test : (text : List ℕ) (c : Token) (tokens : List Token) (b : Bool)
        → ((elim b as (λ _. Front Token) [ true ↦ Behind c tokens | false ↦ Stops (c ∷ tokens) ]) >>= λ first rest.
        ((elim b as (λ _. Front Token) [ true ↦ Behind c tokens | false ↦ Stops (c ∷ tokens) ]) >>= λ as_word rest. behind_as first text rest))
        ≡ ((elim b as (λ _. Front Token) [ true ↦ Behind c tokens | false ↦ Stops (c ∷ tokens) ]) >>= λ first rest. behind_as first text rest)
    by_test text c tokens true = refl
    by_test text c tokens false = refl

    same : (text : List ℕ) (tokens : List Token)
        → (one (is_keyword (codes "AS") text) tokens >>= λ first rest. generated_as text first tokens) ≡ (word text (codes "AS") tokens >>= λ first rest. behind_as first text rest)
    same text [] = refl
    same text (c ∷ tokens) = by_test text c tokens (is_keyword (codes "AS") text c)

generated-continues : Continues is_whole none (is_word_of (codes "GENERATED" ∷ codes "AS" ∷ [])) Apart false as_nothing (λ text. generated text)
generated-continues =
    continues-either (is_word_of (codes "GENERATED" ∷ codes "AS" ∷ [])) (is_keyword (codes "GENERATED")) (keyword-respects (codes "GENERATED")) (λ text c e. e) (words-more (codes "GENERATED") (codes "AS" ∷ [])) refl
    (continues-then (word-continues (codes "GENERATED") refl refl) (λ first. continues-then (word-continues (codes "ALWAYS") refl refl) (λ always. generated_as-continues first))) as_alone-continues

abbrev not_word : List ℕ → Token → Bool
not_word = is_keyword (codes "NOT")

-- one of a list of words, each with its own production, of which the last begins with AS
either_word : {A : Type 0} {short rest : List Filler} {P Q : List ℕ → List Token → Front A} (w : List ℕ) (ws : List (List ℕ)) → is_keyword w (codes "AS") (token_of (lexeme (Capitals (codes "AS") refl))) ≡ false
    → Continues is_whole not_word (is_keyword w) Apart false short P → Continues is_whole not_word (is_word_of ws) Apart false (Capitals (codes "AS") refl ∷ rest) Q
    → Continues is_whole not_word (is_word_of (w ∷ ws)) Apart false (Capitals (codes "AS") refl ∷ rest) (λ text. either (begins (is_keyword w text)) (P text) (Q text))
either_word w ws other p q = continues-either (is_word_of (w ∷ ws)) (is_keyword w) (keyword-respects w) (λ text c e. e) (words-more w ws) other p q

abbrev from_generated : List (List ℕ)
from_generated = codes "GENERATED" ∷ codes "AS" ∷ []

abbrev from_null : List (List ℕ)
from_null = codes "NULL" ∷ codes "UNIQUE" ∷ codes "COLLATE" ∷ codes "DEFAULT" ∷ codes "CHECK" ∷ codes "REFERENCES" ∷ from_generated

abbrev rule_words : List (List ℕ)
rule_words = codes "PRIMARY" ∷ codes "NOT" ∷ from_null

column_rule-continues : Continues is_whole not_word (is_word_of rule_words) Apart false as_nothing (λ text. column_rule text)
column_rule-continues =
    either_word (codes "PRIMARY") (codes "NOT" ∷ from_null) refl (continues-looks not_word primary_key-continues)
    (either_word (codes "NOT") from_null refl (continues-looks not_word not_null-continues)
    (either_word (codes "NULL") (codes "UNIQUE" ∷ codes "COLLATE" ∷ codes "DEFAULT" ∷ codes "CHECK" ∷ codes "REFERENCES" ∷ from_generated) refl (continues-looks not_word (one_word-continues (codes "NULL") Skipped refl refl))
    (either_word (codes "UNIQUE") (codes "COLLATE" ∷ codes "DEFAULT" ∷ codes "CHECK" ∷ codes "REFERENCES" ∷ from_generated) refl (continues-looks not_word (one_word-continues (codes "UNIQUE") Unique refl refl))
    (either_word (codes "COLLATE") (codes "DEFAULT" ∷ codes "CHECK" ∷ codes "REFERENCES" ∷ from_generated) refl (continues-looks not_word collate-continues)
    (either_word (codes "DEFAULT") (codes "CHECK" ∷ codes "REFERENCES" ∷ from_generated) refl (continues-looks not_word default-continues)
    (either_word (codes "CHECK") (codes "REFERENCES" ∷ from_generated) refl (continues-looks not_word check-continues)
    (either_word (codes "REFERENCES") from_generated refl refers-continues (continues-looks not_word generated-continues))))))))

column_constraint-continues : Continues is_whole not_word (is_word_of constraint_words) Apart false as_nothing (λ text. column_constraint text)
column_constraint-continues =
    continues-maybe_then (is_word_of constraint_words) (is_keyword (codes "CONSTRAINT")) None (keyword-respects (codes "CONSTRAINT")) (λ text c e. e) (words-more (codes "CONSTRAINT") rule_words) refl
    named-continues (λ name. column_rule-continues)

abbrev rules_from_null : List ℕ → List Token → Front ColumnConstraint
rules_from_null text =
    either (at_word text (codes "NULL")) (one_word text (codes "NULL") Skipped)
    (either (at_word text (codes "UNIQUE")) (one_word text (codes "UNIQUE") Unique)
    (either (at_word text (codes "COLLATE")) (collate text)
    (either (at_word text (codes "DEFAULT")) (default text)
    (either (at_word text (codes "CHECK")) (check text)
    (either (at_word text (codes "REFERENCES")) (refers text) (generated text))))))

-- a constraint that begins with NOT
not-constraint : (text : List ℕ) (c : Token) (rest : List Token) → not_word text c ≡ true → column_constraint text (c ∷ rest) ≡ behind_not c text rest
not-constraint text c rest e =
    ap (λ x. x >>= λ name rest. column_rule text rest)
    (chosen-second (at_word text (codes "CONSTRAINT")) (λ tokens. word text (codes "CONSTRAINT") tokens >>= λ constraint rest. name text rest >>= λ name rest. Behind (Some name) rest) (nothing None) (c ∷ rest)
    (keyword-words (codes "NOT") (codes "CONSTRAINT" ∷ []) text c e))
    ∙ chosen-second (at_word text (codes "PRIMARY")) (primary_key text) (either (at_word text (codes "NOT")) (not_null text) (rules_from_null text)) (c ∷ rest) (keyword-words (codes "NOT") (codes "PRIMARY" ∷ []) text c e)
    ∙ chosen-first (at_word text (codes "NOT")) (not_null text) (rules_from_null text) (c ∷ rest) e
    ∙ ap (λ x. x >>= λ first rest. behind_not first text rest) (one-passes (is_keyword (codes "NOT") text) c rest e)

column_constraints-continues : Continues is_whole none (is_word_of constraint_words) Bounded true [] (λ text. many (begins (is_word_of constraint_words text)) (column_constraint text))
column_constraints-continues =
    continues-many is_whole none not_word (is_word_of constraint_words) (is_word_of constraint_words) Bounded Apart false as_nothing (λ text. begins (is_word_of constraint_words text)) (λ text. column_constraint text)
    (tests-one (is_word_of constraint_words) (word-respects constraint_words)) (λ text tokens e. e) (λ text tokens e. e) within (bounded-words constraint_words) bounded-apart alone mend column_constraint-continues
  where
    within : (text : List ℕ) (c : Token) → IsFalse (is_word_of constraint_words text c) → IsFalse (not_word text c)
    within text c h = words-first (codes "NOT") from_null text c (words-others (codes "PRIMARY") (codes "NOT" ∷ from_null) text c (words-others (codes "CONSTRAINT") rule_words text c h))

    alone : (text other : List ℕ) (c : Token) (more : List Token) → Alike text c other c → not_word text c ≡ true → Bounded other more → (is_word_of constraint_words other c ≡ true) × Apart other (c ∷ more)
    alone text other c more alike look follows =
        let is_not : not_word other c ≡ true = sym (keyword-respects (codes "NOT") text other c c alike) ∙ look in
        (keyword-words (codes "NOT") constraint_words other c is_not, inr (is_not, bounded-words (codes "DEFERRABLE" ∷ []) other more follows))

    mended : (text other : List ℕ) (c : Token) (others more : List Token) → not_word text c ≡ true → Alike text c other c → AreFillers other (Capitals (codes "NULL") refl ∷ []) others → Bounded other more
        → (is_word_of constraint_words other c ≡ true) × Apart other (c ∷ (others ++ more)) × Passed (column_constraint other (c ∷ (others ++ more))) more
    mended text other c [] more look alike fillers follows = absurd fillers
    mended text other c (d ∷ []) more look alike fillers follows =
        let is_not : not_word other c ≡ true = sym (keyword-respects (codes "NOT") text other c c alike) ∙ look in
        let (a, is) = (behind_not-continues c).fresh other (d ∷ []) more fillers (inl follows) in (
          keyword-words (codes "NOT") constraint_words other c is_not,
          inr (is_not, keyword-respects (codes "DEFERRABLE") other (codes "NULL") d (token_of (lexeme (Capitals (codes "NULL") refl))) fillers.0),
          (a, not-constraint other c (d ∷ more) is_not ∙ is),
        )
    mended text other c (d ∷ e ∷ others) more look alike fillers follows = absurd fillers.1

    mend : (text : List ℕ) (c : Token) → not_word text c ≡ true
        → (w : List Filler) × ((other : List ℕ) (others more : List Token) → Alike text c other c → AreFillers other w others → Bounded other more
        → (is_word_of constraint_words other c ≡ true) × Apart other (c ∷ (others ++ more)) × Passed (column_constraint other (c ∷ (others ++ more))) more)
    mend text c look = (Capitals (codes "NULL") refl ∷ [], λ other others more alike fillers follows. mended text other c others more look alike fillers follows)

pub column-continues : Continues is_whole none is_name Bounded false (a_name ∷ []) (λ text. column text)
column-continues =
    continues-then name-continues (λ name. continues-before (continues-fewer Bounded bounded-apart column_type-continues) (λ type.
    continues-made (λ constraints. record { name = name; type_start = type.0; type_end = type.1; constraints = constraints }) column_constraints-continues))
