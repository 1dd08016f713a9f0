-- The texts of tables, views and virtual tables (CREATE TABLE, section 1; CREATE VIEW; CREATE VIRTUAL TABLE), and of indexes (CREATE INDEX, section 1).
use Rattle.std.specs.Prelude.{ℕ, ◌&&◌, not, Bool, true, false, List, [], ◌∷◌, is_some, codes}
use Rattle.schema_spec.specs.declared.token.Token.{Token}
use Rattle.schema_spec.specs.declared.syntax.ListedColumn.{ListedColumn}
use Rattle.schema_spec.specs.declared.syntax.TableConstraint.{TableConstraint}
use Rattle.schema_spec.specs.declared.syntax.TableRule.{TableRule}
use Rattle.schema_spec.specs.declared.syntax.TableRule.TheVariants.{PrimaryKey, Unique, Check, ForeignKey}
use Rattle.schema_spec.specs.declared.syntax.TableOption.{TableOption}
use Rattle.schema_spec.specs.declared.syntax.TableOption.TheVariants.{WithoutRowid, Strict}
use Rattle.schema_spec.specs.declared.syntax.TableStatement.{TableStatement}
use Rattle.schema_spec.specs.declared.syntax.TableStatement.TheVariants.{Table, Virtual, View}
use Rattle.schema_spec.specs.declared.syntax.IndexedPart.{IndexedPart}
use Rattle.schema_spec.specs.declared.syntax.IndexedPart.TheVariants.{Column, Expression}
use Rattle.schema_spec.specs.declared.syntax.IndexText.{IndexText}
use Rattle.schema_spec.specs.Words.{table_constraint_words, is_keyword, is_word_of, is_sign}
use Rattle.schema_spec.specs.Fronts.{Front, Behind, Stops, ◌>>=◌, begins, either, nothing, misfit, optional, many, ended}
use Rattle.schema_spec.specs.Brackets.{bracketed, ends_part, some_to_end, to_separator}
use Rattle.schema_spec.specs.ColumnGrammar.{word, sign, name, at_word, at_sign, listed, list_in_brackets, listed_column, constraint_name, on_conflict, references, column}

module _ (text : List ℕ) where
  abbrev pub made : Token → TableRule → List ListedColumn → Bool → List Token → Front TableConstraint
  made word rule columns on_conflict = Behind (record { word = word; rule = rule; columns = columns; on_conflict = on_conflict })

  -- the columns of a PRIMARY KEY or UNIQUE constraint; DESC is outside the profile
  abbrev pub key_columns : List Token → Front (List ListedColumn)
  key_columns = list_in_brackets text (listed_column text (codes "ASC" ∷ codes "DESC" ∷ []))

  abbrev pub table_primary_key : List Token → Front TableConstraint
  table_primary_key tokens =
      word text (codes "PRIMARY") tokens >>= λ first rest.
      word text (codes "KEY") rest >>= λ key rest.
      key_columns rest >>= λ columns rest.
      on_conflict text rest >>= λ on_conflict rest.
      made first PrimaryKey columns on_conflict rest

  abbrev pub table_unique : List Token → Front TableConstraint
  table_unique tokens =
      word text (codes "UNIQUE") tokens >>= λ first rest.
      key_columns rest >>= λ columns rest.
      on_conflict text rest >>= λ on_conflict rest.
      made first Unique columns on_conflict rest

  abbrev pub table_check : List Token → Front TableConstraint
  table_check tokens =
      word text (codes "CHECK") tokens >>= λ first rest.
      bracketed text rest >>= λ closing rest.
      on_conflict text rest >>= λ on_conflict rest.
      made first Check [] on_conflict rest

  abbrev pub foreign_key : List Token → Front TableConstraint
  foreign_key tokens =
      word text (codes "FOREIGN") tokens >>= λ first rest.
      word text (codes "KEY") rest >>= λ key rest.
      list_in_brackets text (listed_column text (codes "ASC" ∷ [])) rest >>= λ columns rest.
      references text false rest >>= λ references rest.
      made first ForeignKey columns false rest

  -- a constraint of a table, behind its name
  abbrev pub table_rule : List Token → Front TableConstraint
  table_rule =
      either (at_word text (codes "PRIMARY")) table_primary_key
      (either (at_word text (codes "UNIQUE")) table_unique
      (either (at_word text (codes "CHECK")) table_check foreign_key))

  abbrev pub table_constraint : List Token → Front TableConstraint
  table_constraint tokens = constraint_name text tokens >>= λ name rest. table_rule rest

  -- a comma with a constraint of the table behind it, and one with anything else
  abbrev pub at_table_constraint : List Token → Bool
  at_table_constraint [] = false
  at_table_constraint (token ∷ tokens) = is_sign 44 text token && begins (is_word_of table_constraint_words text) tokens

  abbrev pub at_column : List Token → Bool
  at_column tokens = at_sign text 44 tokens && not (at_table_constraint tokens)

  -- WITHOUT ROWID or STRICT, which are outside the profile
  abbrev pub table_option : List Token → Front TableOption
  table_option =
      either (at_word text (codes "WITHOUT"))
      (λ tokens. word text (codes "WITHOUT") tokens >>= λ without rest. word text (codes "ROWID") rest >>= λ rowid rest. Behind WithoutRowid rest)
      (λ tokens. word text (codes "STRICT") tokens >>= λ strict rest. Behind Strict rest)

  abbrev pub table_options : List Token → Front (List TableOption)
  table_options = either (begins (is_word_of (codes "WITHOUT" ∷ codes "STRICT" ∷ []) text)) (listed text table_option) (nothing [])

  -- a table, behind CREATE
  abbrev pub table : List Token → Front TableStatement
  table tokens =
      word text (codes "TABLE") tokens >>= λ kind rest.
      name text rest >>= λ name rest.
      sign text 40 rest >>= λ opening rest.
      column text rest >>= λ first rest.
      many at_column (λ all. sign text 44 all >>= λ comma rest. column text rest) rest >>= λ others rest.
      many (at_sign text 44) (λ all. sign text 44 all >>= λ comma rest. table_constraint rest) rest >>= λ constraints rest.
      sign text 41 rest >>= λ closing rest.
      table_options rest >>= λ options rest.
      Behind (Table (record { name = name; columns = first ∷ others; constraints = constraints; options = options })) rest

  -- a virtual table, behind CREATE; what stands in its brackets is its module's
  abbrev pub virtual_table : List Token → Front TableStatement
  virtual_table tokens =
      word text (codes "VIRTUAL") tokens >>= λ kind rest.
      word text (codes "TABLE") rest >>= λ table rest.
      name text rest >>= λ table_name rest.
      word text (codes "USING") rest >>= λ using rest.
      name text rest >>= λ module_name rest.
      either (at_sign text 40) (λ all. bracketed text all >>= λ closing rest. Behind Virtual rest) (nothing Virtual) rest

  -- a view, behind CREATE; its query is not looked into
  abbrev pub view : List Token → Front TableStatement
  view tokens =
      word text (codes "VIEW") tokens >>= λ kind rest.
      name text rest >>= λ view_name rest.
      either (at_sign text 40) (list_in_brackets text (name text)) (nothing []) rest >>= λ columns rest.
      word text (codes "AS") rest >>= λ as_word rest.
      some_to_end text rest >>= λ query rest.
      Behind View rest

  -- the whole text of a table, a virtual table or a view
  abbrev pub table_statement : List Token → Front TableStatement
  table_statement tokens =
      word text (codes "CREATE") tokens >>= λ create rest.
      either (at_word text (codes "VIRTUAL")) virtual_table (either (at_word text (codes "VIEW")) view table) rest >>= λ statement rest.
      ended statement rest

  -- a part of an index's list that is a column: nothing else stands before the next comma or closing bracket
  abbrev pub stands_alone : Front ListedColumn → Bool
  stands_alone (Behind column rest) = begins (ends_part text) rest
  stands_alone (Stops at) = false

  abbrev pub indexed_column : List Token → Front ListedColumn
  indexed_column = listed_column text (codes "ASC" ∷ codes "DESC" ∷ [])

  -- a column, or any other tokens, which are an expression
  abbrev pub indexed_part : List Token → Front IndexedPart
  indexed_part =
      either (λ tokens. stands_alone (indexed_column tokens)) (λ tokens. indexed_column tokens >>= λ column rest. Behind (Column column) rest)
      (either (begins (ends_part text)) misfit (to_separator Expression text 0))

  -- the whole text of an index
  abbrev pub index_statement : List Token → Front IndexText
  index_statement tokens =
      word text (codes "CREATE") tokens >>= λ create rest.
      optional (is_keyword (codes "UNIQUE") text) rest >>= λ unique rest.
      word text (codes "INDEX") rest >>= λ index rest.
      name text rest >>= λ index_name rest.
      word text (codes "ON") rest >>= λ on rest.
      name text rest >>= λ table_name rest.
      list_in_brackets text indexed_part rest >>= λ parts rest.
      either (at_word text (codes "WHERE")) (λ all. word text (codes "WHERE") all >>= λ where_word rest. some_to_end text rest >>= λ condition rest. Behind true rest) (nothing false) rest >>= λ partial rest.
      ended (record { unique = is_some unique; name = index_name; table = table_name; parts = parts; partial = partial }) rest
