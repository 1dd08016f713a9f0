-- The definition of a column (CREATE TABLE, section 3; the diagrams column-def, type-name, column-constraint and foreign-key-clause).
use Rattle.std.specs.Prelude.{ℕ, ◌&&◌, ◌||◌, Bool, true, false, if◌then◌else◌, List, [], ◌∷◌, Option, Some, None, is_some, codes}
use Rattle.schema_spec.specs.declared.token.Token.{Token}
use Rattle.schema_spec.specs.declared.syntax.ListedColumn.{ListedColumn}
use Rattle.schema_spec.specs.declared.syntax.ColumnConstraint.{ColumnConstraint}
use Rattle.schema_spec.specs.declared.syntax.ColumnRule.{ColumnRule}
use Rattle.schema_spec.specs.declared.syntax.ColumnRule.TheVariants.{PrimaryKey, Unique, NotNull, Collate, Generated, Skipped}
use Rattle.schema_spec.specs.declared.syntax.ColumnText.{ColumnText}
use Rattle.schema_spec.specs.Words.{constraint_words, is_keyword, is_word_of, is_type_word, is_sign, is_name, is_number_token, is_blob, is_literal}
use Rattle.schema_spec.specs.Fronts.{Front, Behind, ◌>>=◌, begins, one, either, nothing, optional, many}
use Rattle.schema_spec.specs.Brackets.{bracketed}

module _ (text : List ℕ) where
  -- the word, the sign, or a name
  abbrev pub word : List ℕ → List Token → Front Token
  word bytes = one (is_keyword bytes text)

  abbrev pub sign : ℕ → List Token → Front Token
  sign byte = one (is_sign byte text)

  abbrev pub name : List Token → Front Token
  name = one (is_name text)

  -- the first token is the word, or the sign
  abbrev pub at_word : List ℕ → List Token → Bool
  at_word bytes = begins (is_keyword bytes text)

  abbrev pub at_sign : ℕ → List Token → Bool
  at_sign byte = begins (is_sign byte text)

  -- the first token is the one word, and the second the other
  abbrev pub at_words : List ℕ → List ℕ → List Token → Bool
  at_words bytes next [] = false
  at_words bytes next (token ∷ tokens) = is_keyword bytes text token && at_word next tokens

  -- one thing or more, with commas between them
  abbrev pub listed : {A : Type 0} → (List Token → Front A) → List Token → Front (List A)
  listed item tokens =
      item tokens >>= λ a rest.
      many (at_sign 44) (λ all. sign 44 all >>= λ comma rest. item rest) rest >>= λ others rest.
      Behind (a ∷ others) rest

  -- things in brackets, with commas between them
  abbrev pub list_in_brackets : {A : Type 0} → (List Token → Front A) → List Token → Front (List A)
  list_in_brackets item tokens =
      sign 40 tokens >>= λ opening rest.
      listed item rest >>= λ items rest.
      sign 41 rest >>= λ closing rest.
      Behind items rest

  -- a name behind COLLATE, or nothing
  abbrev pub collation : List Token → Front (Option Token)
  collation =
      either (at_word (codes "COLLATE"))
      (λ tokens. word (codes "COLLATE") tokens >>= λ collate rest. name rest >>= λ collation rest. Behind (Some collation) rest)
      (nothing None)

  -- one of these words for an order, or none: whether it is DESC
  abbrev pub order : List (List ℕ) → List Token → Front Bool
  order words tokens = optional (is_word_of words text) tokens >>= λ order rest. Behind (at_word (codes "DESC") tokens && is_some order) rest

  -- a column in a list: a name, its collation and one of these words for its order
  abbrev pub listed_column : List (List ℕ) → List Token → Front ListedColumn
  listed_column orders tokens =
      name tokens >>= λ name rest.
      collation rest >>= λ collation rest.
      order orders rest >>= λ descends rest.
      Behind (record { name = name; collation = collation; descends = descends }) rest

  -- CONSTRAINT and a name, or nothing
  abbrev pub constraint_name : List Token → Front (Option Token)
  constraint_name =
      either (at_word (codes "CONSTRAINT"))
      (λ tokens. word (codes "CONSTRAINT") tokens >>= λ constraint rest. name rest >>= λ name rest. Behind (Some name) rest)
      (nothing None)

  -- ON CONFLICT with what is done, or nothing: whether it stands there
  abbrev pub on_conflict : List Token → Front Bool
  on_conflict =
      either (at_word (codes "ON"))
      (λ tokens.
      word (codes "ON") tokens >>= λ on rest.
      word (codes "CONFLICT") rest >>= λ conflict rest.
      one (is_word_of (codes "ROLLBACK" ∷ codes "ABORT" ∷ codes "FAIL" ∷ codes "IGNORE" ∷ codes "REPLACE" ∷ []) text) rest >>= λ act rest.
      Behind true rest)
      (nothing false)

  -- a number with a sign or without
  abbrev pub signed_number : List Token → Front Token
  signed_number tokens = optional (λ token. is_sign 43 text token || is_sign 45 text token) tokens >>= λ sign rest. one (is_number_token text) rest

  -- one or two signed numbers in brackets, and the bracket that closes them
  abbrev pub type_numbers : List Token → Front Token
  type_numbers tokens =
      sign 40 tokens >>= λ opening rest.
      signed_number rest >>= λ first rest.
      either (at_sign 44) (λ all. sign 44 all >>= λ comma rest. signed_number rest >>= λ second rest. sign 41 rest) (sign 41) rest

  -- further words of a type: the last one of all, and what is left
  abbrev pub last_type_word : Token → List Token → Front Token
  last_type_word last [] = Behind last []
  last_type_word last (token ∷ tokens) =
      elim (is_type_word text token) as (λ _. Front Token) [ true ↦ last_type_word token tokens | false ↦ Behind last (token ∷ tokens) ]

  -- the type of a column: where it begins and ends; none is at 0
  abbrev pub column_type : List Token → Front (ℕ × ℕ)
  column_type =
      either (begins (is_type_word text))
      (λ tokens.
      one (is_type_word text) tokens >>= λ first rest.
      last_type_word first rest >>= λ last rest.
      either (at_sign 40) type_numbers (nothing last) rest >>= λ last rest.
      Behind (first.start, last.end) rest)
      (nothing (0, 0))

  -- the value of DEFAULT: text in brackets, a signed number, a blob, or one literal or word
  abbrev pub at_blob : List Token → Bool
  at_blob [] = false
  at_blob (x ∷ tokens) = begins (is_blob text x) tokens

  abbrev pub default_value : List Token → Front Token
  default_value =
      either (at_sign 40) (bracketed text)
      (either (begins (λ token. is_sign 43 text token || is_sign 45 text token)) signed_number
      (either at_blob (λ tokens. one (is_literal text) tokens >>= λ x rest. one (λ content. true) rest) (one (is_literal text))))

  -- what is done with rows that refer to a row that is deleted or updated
  abbrev pub foreign_action : List Token → Front Token
  foreign_action =
      either (at_word (codes "SET")) (λ tokens. word (codes "SET") tokens >>= λ set rest. one (is_word_of (codes "NULL" ∷ codes "DEFAULT" ∷ []) text) rest)
      (either (at_word (codes "NO")) (λ tokens. word (codes "NO") tokens >>= λ no rest. word (codes "ACTION") rest)
      (one (is_word_of (codes "CASCADE" ∷ codes "RESTRICT" ∷ []) text)))

  -- MATCH and a name, or ON and what is done
  abbrev pub foreign_clause : List Token → Front Token
  foreign_clause =
      either (at_word (codes "MATCH")) (λ tokens. word (codes "MATCH") tokens >>= λ match rest. name rest)
      (λ tokens.
      word (codes "ON") tokens >>= λ on rest.
      one (is_word_of (codes "DELETE" ∷ codes "UPDATE" ∷ codes "INSERT" ∷ []) text) rest >>= λ change rest.
      foreign_action rest)

  -- a deferral begins: in a column NOT may begin NOT NULL too, so the word behind it decides
  abbrev pub at_deferral : Bool → List Token → Bool
  at_deferral in_column tokens =
      at_word (codes "DEFERRABLE") tokens || (if in_column then at_words (codes "NOT") (codes "DEFERRABLE") tokens else at_word (codes "NOT") tokens)

  -- DEFERRABLE with NOT or without, and INITIALLY with its word or without; or nothing
  abbrev pub deferral : Bool → List Token → Front (Option Token)
  deferral in_column =
      either (at_deferral in_column)
      (λ tokens.
      optional (is_keyword (codes "NOT") text) tokens >>= λ not rest.
      word (codes "DEFERRABLE") rest >>= λ deferrable rest.
      either (at_word (codes "INITIALLY"))
      (λ all. word (codes "INITIALLY") all >>= λ initially rest. one (is_word_of (codes "DEFERRED" ∷ codes "IMMEDIATE" ∷ []) text) rest >>= λ when rest. Behind (Some when) rest)
      (nothing (Some deferrable)) rest)
      (nothing None)

  -- REFERENCES and its clauses, in a column or in a constraint of the table: the first token
  abbrev pub references : Bool → List Token → Front Token
  references in_column tokens =
      word (codes "REFERENCES") tokens >>= λ references rest.
      name rest >>= λ table rest.
      either (at_sign 40) (list_in_brackets name) (nothing []) rest >>= λ columns rest.
      many (λ all. at_word (codes "ON") all || at_word (codes "MATCH") all) foreign_clause rest >>= λ clauses rest.
      deferral in_column rest >>= λ deferral rest.
      Behind references rest

  -- what a constraint says, and whether ON CONFLICT stands in it
  abbrev pub made : Token → ColumnRule → Bool → List Token → Front ColumnConstraint
  made word rule on_conflict = Behind (record { word = word; rule = rule; on_conflict = on_conflict })

  abbrev pub primary_key : List Token → Front ColumnConstraint
  primary_key tokens =
      word (codes "PRIMARY") tokens >>= λ primary rest.
      word (codes "KEY") rest >>= λ key rest.
      order (codes "ASC" ∷ codes "DESC" ∷ []) rest >>= λ descends rest.
      on_conflict rest >>= λ on_conflict rest.
      optional (is_keyword (codes "AUTOINCREMENT") text) rest >>= λ autoincrement rest.
      made primary (PrimaryKey descends) on_conflict rest

  abbrev pub not_null : List Token → Front ColumnConstraint
  not_null tokens =
      word (codes "NOT") tokens >>= λ first rest.
      word (codes "NULL") rest >>= λ null rest.
      on_conflict rest >>= λ on_conflict rest.
      made first NotNull on_conflict rest

  -- a word alone, with what it says
  abbrev pub one_word : List ℕ → ColumnRule → List Token → Front ColumnConstraint
  one_word bytes rule tokens =
      word bytes tokens >>= λ first rest.
      on_conflict rest >>= λ on_conflict rest.
      made first rule on_conflict rest

  abbrev pub collate : List Token → Front ColumnConstraint
  collate tokens =
      word (codes "COLLATE") tokens >>= λ first rest.
      name rest >>= λ collation rest.
      made first (Collate collation) false rest

  abbrev pub default : List Token → Front ColumnConstraint
  default tokens =
      word (codes "DEFAULT") tokens >>= λ first rest.
      default_value rest >>= λ value rest.
      made first Skipped false rest

  abbrev pub check : List Token → Front ColumnConstraint
  check tokens =
      word (codes "CHECK") tokens >>= λ first rest.
      bracketed text rest >>= λ closing rest.
      made first Skipped false rest

  abbrev pub refers : List Token → Front ColumnConstraint
  refers tokens = references true tokens >>= λ first rest. made first Skipped false rest

  -- AS, a text in brackets, and STORED or VIRTUAL or neither; its first token is given
  abbrev pub generated_as : Token → List Token → Front ColumnConstraint
  generated_as first tokens =
      word (codes "AS") tokens >>= λ as_word rest.
      bracketed text rest >>= λ closing rest.
      optional (is_word_of (codes "STORED" ∷ codes "VIRTUAL" ∷ []) text) rest >>= λ kind rest.
      made first Generated false rest

  abbrev pub generated : List Token → Front ColumnConstraint
  generated =
      either (at_word (codes "GENERATED"))
      (λ tokens. word (codes "GENERATED") tokens >>= λ first rest. word (codes "ALWAYS") rest >>= λ always rest. generated_as first rest)
      (λ tokens. one (is_keyword (codes "AS") text) tokens >>= λ first rest. generated_as first tokens)

  -- a constraint of a column, behind its name
  abbrev pub column_rule : List Token → Front ColumnConstraint
  column_rule =
      either (at_word (codes "PRIMARY")) primary_key
      (either (at_word (codes "NOT")) not_null
      (either (at_word (codes "NULL")) (one_word (codes "NULL") Skipped)
      (either (at_word (codes "UNIQUE")) (one_word (codes "UNIQUE") Unique)
      (either (at_word (codes "COLLATE")) collate
      (either (at_word (codes "DEFAULT")) default
      (either (at_word (codes "CHECK")) check
      (either (at_word (codes "REFERENCES")) refers generated)))))))

  -- a constraint of a column: CONSTRAINT and a name or nothing, and what it says
  abbrev pub column_constraint : List Token → Front ColumnConstraint
  column_constraint tokens = constraint_name tokens >>= λ name rest. column_rule rest

  -- a column: a name, a type or none, and constraints
  abbrev pub column : List Token → Front ColumnText
  column tokens =
      name tokens >>= λ name rest.
      column_type rest >>= λ type rest.
      many (begins (is_word_of constraint_words text)) column_constraint rest >>= λ constraints rest.
      Behind (record { name = name; type_start = type.0; type_end = type.1; constraints = constraints }) rest
