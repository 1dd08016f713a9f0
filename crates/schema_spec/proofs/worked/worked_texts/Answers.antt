use Rattle.std.proofs.Common.{◌≡◌, ◌<◌, ◌==◌, ◌&&◌, ◌||◌, codes, map, ℕ, zero, suc, Bool, true, false, IsTrue, List, [], ◌∷◌, ◌++◌, Option, Some, None, refl, sym, ap, subst, ◌∙◌, inl, inr, eq-eqb, arith}
use Rattle.std.specs.Prelude.{Any}
use Rattle.std.specs.List.{AllByRecursion}
use Rattle.std.specs.Char.{to_ascii_lowercase}
use Rattle.rbu_value.specs.declared.affinity.Affinity.TheVariants.{Real as RealAffinity}
use Rattle.rbu_value.specs.Affinity.{HasAffinity, Mentions, MeansInteger, MeansText}
use Rattle.schema_spec.specs.declared.token.TokenKind.TheVariants.{Sign}
use Rattle.schema_spec.specs.declared.token.Token.{Token}
use Rattle.schema_spec.specs.declared.schema.Clause.{Clause}
use Rattle.schema_spec.specs.declared.schema.Clause.TheVariants.{Without, Strict, Generated, As, On, Desc, Collate, Real, Unique, Primary, Where, Expression, Virtual, View}
use Rattle.schema_spec.specs.declared.syntax.TableText.{TableText}
use Rattle.schema_spec.specs.declared.syntax.TableStatement.{TableStatement}
use Rattle.schema_spec.specs.declared.syntax.TableStatement.TheVariants.{Table as TableOf, Virtual as VirtualOf, View as ViewOf}
use Rattle.schema_spec.specs.declared.syntax.IndexText.{IndexText}
use Rattle.schema_spec.specs.Tokens.{tokens_of, is_white, is_word_byte, is_quote, begins_number}
use Rattle.schema_spec.specs.TokensLaws.{tokens-are}
use Rattle.schema_spec.specs.Fronts.{Front, Behind, Stops}
use Rattle.schema_spec.specs.TableGrammar.{table_statement, index_statement}
use Rattle.schema_spec.specs.Causes.{clause_order, HasCause, HasIndexCause}
use Rattle.schema_spec.proofs.worked.worked_texts.Goals as goal

-- what a text is found to be
abbrev definition_in : Front TableStatement → TableText
definition_in (Behind (TableOf definition) rest) = definition
definition_in (Behind VirtualOf rest) = record { name = record { kind = Sign; start = 0; end = 0 }; columns = []; constraints = []; options = [] }
definition_in (Behind ViewOf rest) = record { name = record { kind = Sign; start = 0; end = 0 }; columns = []; constraints = []; options = [] }
definition_in (Stops at) = record { name = record { kind = Sign; start = 0; end = 0 }; columns = []; constraints = []; options = [] }

abbrev definition_of : List ℕ → TableText
definition_of text = definition_in (table_statement text (tokens_of text))

abbrev index_in : Front IndexText → IndexText
index_in (Behind definition rest) = definition
index_in (Stops at) = record { unique = false; name = record { kind = Sign; start = 0; end = 0 }; table = record { kind = Sign; start = 0; end = 0 }; parts = []; partial = false }

abbrev stop_in : {A : Type 0} → Front A → List Token
stop_in (Behind a rest) = []
stop_in (Stops at) = at

-- a word begins a text, or stands somewhere in it
abbrev begins_with : List ℕ → List ℕ → Bool
begins_with [] text = true
begins_with (w ∷ word) [] = false
begins_with (w ∷ word) (b ∷ text) = (b == w) && begins_with word text

abbrev somewhere : List ℕ → List ℕ → Bool
somewhere word [] = begins_with word []
somewhere word (b ∷ text) = begins_with word (b ∷ text) || somewhere word text

begins_with-front : (word rest : List ℕ) → begins_with word (word ++ rest) ≡ true
begins_with-front [] rest = refl
begins_with-front (w ∷ word) rest = ap (λ t. t && begins_with word (word ++ rest)) (eq-eqb w w refl) ∙ begins_with-front word rest

somewhere-begins : (word text : List ℕ) → begins_with word text ≡ true → somewhere word text ≡ true
somewhere-begins word [] e = e
somewhere-begins word (b ∷ text) e = ap (λ t. t || somewhere word text) e

or-true : (test : Bool) → (test || true) ≡ true
or-true true = refl
or-true false = refl

somewhere-front : (front word rest : List ℕ) → somewhere word (front ++ (word ++ rest)) ≡ true
somewhere-front [] word rest = somewhere-begins word (word ++ rest) (begins_with-front word rest)
somewhere-front (b ∷ front) word rest =
    ap (λ t. begins_with word (b ∷ (front ++ (word ++ rest))) || t) (somewhere-front front word rest) ∙ or-true (begins_with word (b ∷ (front ++ (word ++ rest))))

-- a text in which a word stands nowhere does not mention it
absent : (text word : List ℕ) → somewhere (map to_ascii_lowercase word) (map to_ascii_lowercase text) ≡ false → ¬ Mentions text word
absent text word e (front, rest, h) =
    let f : ◌≡◌ {A = Bool} true false = sym (somewhere-front front (map to_ascii_lowercase word) rest) ∙ ap (somewhere (map to_ascii_lowercase word)) (sym h) ∙ e in absurd (cc)

text_no_integer : ¬ MeansInteger (codes "TEXT")
text_no_integer = absent (codes "TEXT") (codes "INT") refl

none_no_integer : ¬ MeansInteger []
none_no_integer = absent [] (codes "INT") refl

none_no_text : ¬ MeansText []
none_no_text (inl h) = absent [] (codes "CHAR") refl h
none_no_text (inr (inl h)) = absent [] (codes "CLOB") refl h
none_no_text (inr (inr h)) = absent [] (codes "TEXT") refl h

-- types that are not REAL
no_real : (types : List (List ℕ)) → AllByRecursion (λ type. ¬ HasAffinity type RealAffinity) types → ¬ Any (λ type. HasAffinity type RealAffinity) types
no_real [] all (k, x, less, e, h) = absurd (omega (arith, less))
no_real (type ∷ types) all (zero, x, less, e, h) = all.0 (subst (λ t. HasAffinity t RealAffinity) (sym e) h)
no_real (type ∷ types) all (suc k, x, less, e, h) = no_real types all.1 (k, x, omega (arith, less), e, h)

no_truth : IsTrue false → ⊥
no_truth h = let e : ◌≡◌ {A = Bool} false true = h in absurd (cc)

no_none : {A : Type 0} {a : A} → ◌≡◌ {A = Option A} None (Some a) → ⊥
no_none h = absurd (cc)

no_clause : ◌≡◌ {A = Clause} Unique Primary → ⊥
no_clause h = absurd (cc)

small : (clause : Clause) → clause_order clause < 14
small Without = omega arith
small Strict = omega arith
small Generated = omega arith
small As = omega arith
small On = omega arith
small Desc = omega arith
small Collate = omega arith
small Real = omega arith
small Unique = omega arith
small Primary = omega arith
small Where = omega arith
small Expression = omega arith
small Virtual = omega arith
small View = omega arith

none_row : (clause : Clause) → clause_order clause < 14 → ¬ HasCause (codes "CREATE TABLE t1(a INTEGER PRIMARY KEY, b TEXT, c UNIQUE)") (definition_of (codes "CREATE TABLE t1(a INTEGER PRIMARY KEY, b TEXT, c UNIQUE)")) clause
unfolding is_white is_word_byte is_quote begins_number
none_row Without less h = absurd (no_truth h)
none_row Strict less h = absurd (no_truth h)
none_row Generated less h = absurd (no_none h)
none_row As less h = absurd (no_none h)
none_row On less h = absurd (no_truth h)
none_row Desc less h = absurd (no_truth h)
none_row Collate less h = absurd (no_truth h)
none_row Real less h = no_real (codes "INTEGER" ∷ codes "TEXT" ∷ [] ∷ []) ((λ a. a.0 ([], codes "eger", refl)), ((λ a. a.1 (inr (inr ([], [], refl)))), ((λ a. a.2 (inr refl)), tt))) h
none_row Unique less h = elim h [ inl a ↦ absurd (no_truth a) | inr b ↦ absurd b ]
none_row Primary less h = absurd h
none_row Where less h = absurd h
none_row Expression less h = absurd h
none_row Virtual less h = absurd h
none_row View less h = absurd h

pub returns-clause-table : goal.returns-clause-table
unfolding is_white is_word_byte is_quote begins_number
returns-clause-table c =
    record {
      tokens = tokens_of (codes "CREATE TABLE t1(a INTEGER PRIMARY KEY, b TEXT, c UNIQUE)");
      are_tokens = tokens-are (codes "CREATE TABLE t1(a INTEGER PRIMARY KEY, b TEXT, c UNIQUE)");
      definition = definition_of (codes "CREATE TABLE t1(a INTEGER PRIMARY KEY, b TEXT, c UNIQUE)");
      profiled = (refl, λ clause. none_row clause (small clause));
      names = refl;
      is_table = record {
        name = refl;
        columns = (
          record { name = refl; affinity = ([], codes "eger", refl); collation = refl; not_null = refl },
          (
            record { name = refl; affinity = (text_no_integer, inr (inr ([], [], refl))); collation = refl; not_null = refl },
            (
              record { name = refl; affinity = (none_no_integer, none_no_text, inr refl); collation = refl; not_null = refl },
              tt,
            ),
          ),
        );
        rowid_column = refl;
        key = refl;
        unique = refl;
      };
    }

none_index : (clause : Clause) → ¬ HasIndexCause (codes "CREATE UNIQUE INDEX i ON t1(c DESC, b COLLATE RTRIM)") (index_in (index_statement (codes "CREATE UNIQUE INDEX i ON t1(c DESC, b COLLATE RTRIM)") (tokens_of (codes "CREATE UNIQUE INDEX i ON t1(c DESC, b COLLATE RTRIM)")))) clause
unfolding is_white is_word_byte is_quote begins_number
none_index Without h = absurd h
none_index Strict h = absurd h
none_index Generated h = absurd h
none_index As h = absurd h
none_index On h = absurd h
none_index Desc h = absurd h
none_index Collate h = absurd (no_truth h)
none_index Real h = absurd h
none_index Unique h = absurd h
none_index Primary h = absurd h
none_index Where h = absurd (no_truth h)
none_index Expression h = absurd (no_truth h)
none_index Virtual h = absurd h
none_index View h = absurd h

pub returns-clause-index : goal.returns-clause-index
unfolding is_white is_word_byte is_quote begins_number
returns-clause-index c =
    record {
      tokens = tokens_of (codes "CREATE UNIQUE INDEX i ON t1(c DESC, b COLLATE RTRIM)");
      are_tokens = tokens-are (codes "CREATE UNIQUE INDEX i ON t1(c DESC, b COLLATE RTRIM)");
      definition = index_in (index_statement (codes "CREATE UNIQUE INDEX i ON t1(c DESC, b COLLATE RTRIM)") (tokens_of (codes "CREATE UNIQUE INDEX i ON t1(c DESC, b COLLATE RTRIM)")));
      profiled = (refl, none_index);
      names = refl;
      name = refl;
      table_name = refl;
      unique = refl;
      columns = refl;
    }

pub returns-clause-comma : goal.returns-clause-comma
unfolding is_white is_word_byte is_quote begins_number
returns-clause-comma c =
    (tokens_of (codes "CREATE TABLE t1(a INTEGER PRIMARY KEY,)"), tokens-are (codes "CREATE TABLE t1(a INTEGER PRIMARY KEY,)"), inl (stop_in (table_statement (codes "CREATE TABLE t1(a INTEGER PRIMARY KEY,)") (tokens_of (codes "CREATE TABLE t1(a INTEGER PRIMARY KEY,)"))), refl, refl))

pub returns-clause-without : goal.returns-clause-without
unfolding is_white is_word_byte is_quote begins_number
returns-clause-without c =
    (tokens_of (codes "CREATE TABLE w(k TEXT PRIMARY KEY) WITHOUT ROWID"), tokens-are (codes "CREATE TABLE w(k TEXT PRIMARY KEY) WITHOUT ROWID"), (TableOf (definition_of (codes "CREATE TABLE w(k TEXT PRIMARY KEY) WITHOUT ROWID")), refl, record { holds = refl; first = λ other less h. absurd (omega (arith, less)) }))

none_desc : (clause : Clause) → clause_order clause < 5 → ¬ HasCause (codes "CREATE TABLE t(a INTEGER PRIMARY KEY DESC)") (definition_of (codes "CREATE TABLE t(a INTEGER PRIMARY KEY DESC)")) clause
unfolding is_white is_word_byte is_quote begins_number
none_desc Without less h = absurd (no_truth h)
none_desc Strict less h = absurd (no_truth h)
none_desc Generated less h = absurd (no_none h)
none_desc As less h = absurd (no_none h)
none_desc On less h = absurd (no_truth h)
none_desc Desc less h = absurd (omega (arith, less))
none_desc Collate less h = absurd (omega (arith, less))
none_desc Real less h = absurd (omega (arith, less))
none_desc Unique less h = absurd (omega (arith, less))
none_desc Primary less h = absurd (omega (arith, less))
none_desc Where less h = absurd (omega (arith, less))
none_desc Expression less h = absurd (omega (arith, less))
none_desc Virtual less h = absurd (omega (arith, less))
none_desc View less h = absurd (omega (arith, less))

pub returns-clause-descends : goal.returns-clause-descends
unfolding is_white is_word_byte is_quote begins_number
returns-clause-descends c =
    (tokens_of (codes "CREATE TABLE t(a INTEGER PRIMARY KEY DESC)"), tokens-are (codes "CREATE TABLE t(a INTEGER PRIMARY KEY DESC)"), (TableOf (definition_of (codes "CREATE TABLE t(a INTEGER PRIMARY KEY DESC)")), refl, record { holds = refl; first = none_desc }))

none_on_rowid : (clause : Clause) → clause_order clause < 8 → ¬ HasCause (codes "CREATE TABLE t(a INTEGER, PRIMARY KEY (a DESC), UNIQUE (a))") (definition_of (codes "CREATE TABLE t(a INTEGER, PRIMARY KEY (a DESC), UNIQUE (a))")) clause
unfolding is_white is_word_byte is_quote begins_number
none_on_rowid Without less h = absurd (no_truth h)
none_on_rowid Strict less h = absurd (no_truth h)
none_on_rowid Generated less h = absurd (no_none h)
none_on_rowid As less h = absurd (no_none h)
none_on_rowid On less h = absurd (no_truth h)
none_on_rowid Desc less h = absurd (no_truth h)
none_on_rowid Collate less h = absurd (no_truth h)
none_on_rowid Real less h = no_real (codes "INTEGER" ∷ []) ((λ a. a.0 ([], codes "eger", refl)), tt) h
none_on_rowid Unique less h = absurd (omega (arith, less))
none_on_rowid Primary less h = absurd (omega (arith, less))
none_on_rowid Where less h = absurd (omega (arith, less))
none_on_rowid Expression less h = absurd (omega (arith, less))
none_on_rowid Virtual less h = absurd (omega (arith, less))
none_on_rowid View less h = absurd (omega (arith, less))

pub returns-clause-on_rowid : goal.returns-clause-on_rowid
unfolding is_white is_word_byte is_quote begins_number
returns-clause-on_rowid c =
    (tokens_of (codes "CREATE TABLE t(a INTEGER, PRIMARY KEY (a DESC), UNIQUE (a))"), tokens-are (codes "CREATE TABLE t(a INTEGER, PRIMARY KEY (a DESC), UNIQUE (a))"), (TableOf (definition_of (codes "CREATE TABLE t(a INTEGER, PRIMARY KEY (a DESC), UNIQUE (a))")), refl, record { holds = inl refl; first = none_on_rowid }))

none_twice : (clause : Clause) → clause_order clause < 9 → ¬ HasCause (codes "CREATE TABLE t(a TEXT UNIQUE PRIMARY KEY)") (definition_of (codes "CREATE TABLE t(a TEXT UNIQUE PRIMARY KEY)")) clause
unfolding is_white is_word_byte is_quote begins_number
none_twice Without less h = absurd (no_truth h)
none_twice Strict less h = absurd (no_truth h)
none_twice Generated less h = absurd (no_none h)
none_twice As less h = absurd (no_none h)
none_twice On less h = absurd (no_truth h)
none_twice Desc less h = absurd (no_truth h)
none_twice Collate less h = absurd (no_truth h)
none_twice Real less h = no_real (codes "TEXT" ∷ []) ((λ a. a.1 (inr (inr ([], [], refl)))), tt) h
none_twice Unique less h = elim h [ inl a ↦ absurd (no_truth a) | inr b ↦ absurd (no_clause b) ]
none_twice Primary less h = absurd (omega (arith, less))
none_twice Where less h = absurd (omega (arith, less))
none_twice Expression less h = absurd (omega (arith, less))
none_twice Virtual less h = absurd (omega (arith, less))
none_twice View less h = absurd (omega (arith, less))

pub returns-clause-twice : goal.returns-clause-twice
unfolding is_white is_word_byte is_quote begins_number
returns-clause-twice c =
    (tokens_of (codes "CREATE TABLE t(a TEXT UNIQUE PRIMARY KEY)"), tokens-are (codes "CREATE TABLE t(a TEXT UNIQUE PRIMARY KEY)"), (TableOf (definition_of (codes "CREATE TABLE t(a TEXT UNIQUE PRIMARY KEY)")), refl, record { holds = refl; first = none_twice }))

none_dup : (clause : Clause) → clause_order clause < 14 → ¬ HasCause (codes "CREATE TABLE t(a, \"A\")") (definition_of (codes "CREATE TABLE t(a, \"A\")")) clause
unfolding is_white is_word_byte is_quote begins_number
none_dup Without less h = absurd (no_truth h)
none_dup Strict less h = absurd (no_truth h)
none_dup Generated less h = absurd (no_none h)
none_dup As less h = absurd (no_none h)
none_dup On less h = absurd (no_truth h)
none_dup Desc less h = absurd (no_truth h)
none_dup Collate less h = absurd (no_truth h)
none_dup Real less h = no_real ([] ∷ [] ∷ []) ((λ a. a.2 (inr refl)), ((λ a. a.2 (inr refl)), tt)) h
none_dup Unique less h = elim h [ inl a ↦ absurd (no_truth a) | inr b ↦ absurd b ]
none_dup Primary less h = absurd h
none_dup Where less h = absurd h
none_dup Expression less h = absurd h
none_dup Virtual less h = absurd h
none_dup View less h = absurd h

pub returns-clause-named_twice : goal.returns-clause-named_twice
unfolding is_white is_word_byte is_quote begins_number
returns-clause-named_twice c =
    (tokens_of (codes "CREATE TABLE t(a, \"A\")"), tokens-are (codes "CREATE TABLE t(a, \"A\")"), inr (definition_of (codes "CREATE TABLE t(a, \"A\")"), (refl, λ clause. none_dup clause (small clause)), refl))

none_unknown : (clause : Clause) → clause_order clause < 14 → ¬ HasCause (codes "CREATE TABLE t(a, UNIQUE (b))") (definition_of (codes "CREATE TABLE t(a, UNIQUE (b))")) clause
unfolding is_white is_word_byte is_quote begins_number
none_unknown Without less h = absurd (no_truth h)
none_unknown Strict less h = absurd (no_truth h)
none_unknown Generated less h = absurd (no_none h)
none_unknown As less h = absurd (no_none h)
none_unknown On less h = absurd (no_truth h)
none_unknown Desc less h = absurd (no_truth h)
none_unknown Collate less h = absurd (no_truth h)
none_unknown Real less h = no_real ([] ∷ []) ((λ a. a.2 (inr refl)), tt) h
none_unknown Unique less h = elim h [ inl a ↦ absurd (no_truth a) | inr b ↦ absurd b ]
none_unknown Primary less h = absurd h
none_unknown Where less h = absurd h
none_unknown Expression less h = absurd h
none_unknown Virtual less h = absurd h
none_unknown View less h = absurd h

pub returns-clause-unknown : goal.returns-clause-unknown
unfolding is_white is_word_byte is_quote begins_number
returns-clause-unknown c =
    (tokens_of (codes "CREATE TABLE t(a, UNIQUE (b))"), tokens-are (codes "CREATE TABLE t(a, UNIQUE (b))"), inr (definition_of (codes "CREATE TABLE t(a, UNIQUE (b))"), (refl, λ clause. none_unknown clause (small clause)), refl))
