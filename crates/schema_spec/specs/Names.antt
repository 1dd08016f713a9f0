-- Keys, names and collations that the text of a table declares.
use Rattle.std.specs.Prelude.{ℕ, suc, ◌&&◌, not, min, Bool, true, false, if◌then◌else◌, List, [], ◌∷◌, ◌++◌, map, filter, flat_map, drop, slice_range, Option, Some, None, unwrap_or, codes}
use Rattle.std.specs.List.{list_any}
use Rattle.rbu_value.specs.declared.order.Collation.{Collation}
use Rattle.rbu_value.specs.declared.order.Collation.TheVariants.{Binary, NoCase, RTrim}
use Rattle.schema_spec.specs.declared.token.Token.{Token}
use Rattle.schema_spec.specs.declared.syntax.Key.{Key}
use Rattle.schema_spec.specs.declared.syntax.ListedColumn.{ListedColumn}
use Rattle.schema_spec.specs.declared.syntax.ColumnConstraint.{ColumnConstraint}
use Rattle.schema_spec.specs.declared.syntax.ColumnRule.{ColumnRule}
use Rattle.schema_spec.specs.declared.syntax.ColumnRule.TheVariants.{PrimaryKey, Unique, Collate}
use Rattle.schema_spec.specs.declared.syntax.ColumnText.{ColumnText}
use Rattle.schema_spec.specs.declared.syntax.TableConstraint.{TableConstraint}
use Rattle.schema_spec.specs.declared.syntax.TableRule.{TableRule}
use Rattle.schema_spec.specs.declared.syntax.TableRule.TheVariants.{PrimaryKey as TablePrimaryKey, Unique as TableUnique}
use Rattle.schema_spec.specs.declared.syntax.TableText.{TableText}
use Rattle.schema_spec.specs.Words.{name_of, same_name}

-- the place of a name among others, which is their number where it stands nowhere
abbrev pub place_of : List ℕ → List (List ℕ) → ℕ
place_of name [] = 0
place_of name (other ∷ others) = if same_name other name then 0 else suc (place_of name others)

-- the column alone
abbrev pub alone : ColumnText → Bool → List ListedColumn
alone column descends = record { name = column.name; collation = None; descends = descends } ∷ []

-- the keys that a constraint of a column declares: one or none
abbrev pub column_key : ColumnText → Token → ColumnRule → List Key
column_key column word (PrimaryKey descends) = record { word = word; primary = true; at_column = true; columns = alone column descends } ∷ []
column_key column word Unique = record { word = word; primary = false; at_column = true; columns = alone column false } ∷ []
column_key column word _ = []

-- the keys that the constraints of a column declare
abbrev pub column_keys : ColumnText → List Key
column_keys column = flat_map (λ constraint. column_key column constraint.word constraint.rule) column.constraints

-- the keys that a constraint of the table declares: one or none
abbrev pub table_key : TableRule → Token → List ListedColumn → List Key
table_key TablePrimaryKey word columns = record { word = word; primary = true; at_column = false; columns = columns } ∷ []
table_key TableUnique word columns = record { word = word; primary = false; at_column = false; columns = columns } ∷ []
table_key _ word columns = []

-- all keys of a table in the order of its text
abbrev pub keys : TableText → List Key
keys table =
    flat_map column_keys table.columns ++ flat_map (λ constraint. table_key constraint.rule constraint.word constraint.columns) table.constraints

-- the PRIMARY KEY's columns; the first one counts
abbrev pub primary_columns : List Key → List ListedColumn
primary_columns [] = []
primary_columns (key ∷ keys) = if key.primary then key.columns else primary_columns keys

-- all columns in the lists of a table's constraints, in the order of the text
abbrev pub listed_columns : List TableConstraint → List ListedColumn
listed_columns constraints = flat_map (λ constraint. constraint.columns) constraints

-- the collation of a name, where it is one of SQLite's three
abbrev pub collation_named : List ℕ → Option Collation
collation_named name =
    if same_name name (codes "BINARY") then Some Binary
    else (if same_name name (codes "NOCASE") then Some NoCase else (if same_name name (codes "RTRIM") then Some RTrim else None))

-- the names are the same at each place
abbrev pub same_names : List (List ℕ) → List (List ℕ) → Bool
same_names [] [] = true
same_names [] (b ∷ others) = false
same_names (a ∷ names) [] = false
same_names (a ∷ names) (b ∷ others) = same_name a b && same_names names others

-- a name is among others
abbrev pub is_among : List (List ℕ) → List ℕ → Bool
is_among names name = list_any (λ other. same_name other name) names

-- the names behind COLLATE in the constraints of a column
abbrev pub rule_collation : ColumnRule → List Token
rule_collation (Collate name) = name ∷ []
rule_collation _ = []

abbrev pub named_collations : List ColumnConstraint → List Token
named_collations constraints = flat_map (λ constraint. rule_collation constraint.rule) constraints

-- the first words of each PRIMARY KEY but the first
abbrev pub further_primaries : List Key → List Token
further_primaries keys = drop 1 (map (λ key. key.word) (filter (λ key. key.primary) keys))

module _ (text : List ℕ) where
  -- the name of a column, and the names that a list has
  abbrev pub own_name : ColumnText → List ℕ
  own_name column = name_of text column.name

  abbrev pub listed_name : ListedColumn → List ℕ
  listed_name column = name_of text column.name

  abbrev pub listed_names : List ListedColumn → List (List ℕ)
  listed_names columns = map listed_name columns

  -- the first word of the first key whose columns are those of one before it
  abbrev pub repeated_key : List (List (List ℕ)) → List Key → Option Token
  repeated_key before [] = None
  repeated_key before (key ∷ keys) =
      if list_any (λ names. same_names names (listed_names key.columns)) before then Some key.word
      else repeated_key (before ++ (listed_names key.columns ∷ [])) keys

  -- the declared type of a column, as it stands in the text
  abbrev pub declared_type : ColumnText → List ℕ
  declared_type column = slice_range text column.type_start column.type_end

  -- some column of this name has the declared type INTEGER, and nothing else
  abbrev pub is_integer : List ColumnText → List ℕ → Bool
  is_integer columns name = list_any (λ column. same_name (own_name column) name && same_name (declared_type column) (codes "INTEGER")) columns

  -- the name of the rowid column: the PRIMARY KEY's one column, where this is an INTEGER
  abbrev pub rowid_of : List ColumnText → List ListedColumn → Option (List ℕ)
  rowid_of columns (column ∷ []) = if is_integer columns (listed_name column) then Some (listed_name column) else None
  rowid_of columns _ = None

  abbrev pub rowid_name : TableText → Option (List ℕ)
  rowid_name table = rowid_of table.columns (primary_columns (keys table))

  -- the columns are the rowid column alone
  abbrev pub is_rowid : Option (List ℕ) → List ListedColumn → Bool
  is_rowid (Some name) (column ∷ []) = same_name (listed_name column) name
  is_rowid _ _ = false

  abbrev pub collation_of : Token → Option Collation
  collation_of token = collation_named (name_of text token)

  -- the collation of the last of these names, or the given one where there is none; a name of no collation of SQLite's counts as BINARY
  abbrev pub last_collation : Collation → List Token → Collation
  last_collation collation [] = collation
  last_collation collation (name ∷ names) = last_collation (unwrap_or (collation_of name) Binary) names

  -- the columns that are named like one before them
  abbrev pub named_twice : List (List ℕ) → List ColumnText → List Token
  named_twice before [] = []
  named_twice before (column ∷ columns) =
      (if is_among before (own_name column) then (column.name ∷ []) else []) ++ named_twice (before ++ (own_name column ∷ [])) columns

  -- the columns of a list that are none of these
  abbrev pub unknown : List (List ℕ) → List ListedColumn → List Token
  unknown names columns = map (λ column. column.name) (filter (λ column. not (is_among names (listed_name column))) columns)

  -- the tokens that name a column twice, a column that is none, or a second PRIMARY KEY
  abbrev pub wrong_tokens : TableText → List Token
  wrong_tokens table = named_twice [] table.columns ++ unknown (map own_name table.columns) (listed_columns table.constraints) ++ further_primaries (keys table)

-- the lesser of a place and another one, if there is another
abbrev pub lesser : ℕ → Option ℕ → Option ℕ
lesser start None = Some start
lesser start (Some other) = Some (min start other)

-- the place of the token that stands first in the text
abbrev pub first_start : List Token → Option ℕ
first_start [] = None
first_start (token ∷ tokens) = lesser token.start (first_start tokens)
