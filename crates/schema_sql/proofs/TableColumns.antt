-- What the columns and keys of a table say of its text.
use Rattle.std.proofs.Common.{◌≡◌, ◌↔◌, ◌&&◌, ◌||◌, not, ℕ, zero, suc, Bool, true, false, IsTrue, List, [], ◌∷◌, ◌++◌, Option, map, filter, option_map, refl, sym, ap, subst, ◌∙◌, arith}
use Rattle.std.specs.Prelude.{Any}
use Rattle.std.specs.List.{AllZip, list_any}
use Rattle.rbu_value.specs.declared.affinity.Affinity.{Affinity}
use Rattle.rbu_value.specs.declared.affinity.Affinity.TheVariants.{Integer, Text, Blob, Real, Numeric}
use Rattle.rbu_value.specs.declared.order.Collation.{Collation}
use Rattle.rbu_value.specs.Affinity.{HasAffinity}
use Rattle.rbu_value.specs.AffinityLaws.{affinity-same}
use Rattle.schema_spec.specs.declared.token.Token.{Token}
use Rattle.schema_spec.specs.declared.schema.Column.{Column}
use Rattle.schema_spec.specs.declared.schema.Table.{Table}
use Rattle.schema_spec.specs.declared.syntax.ColumnText.{ColumnText}
use Rattle.schema_spec.specs.declared.syntax.Key.{Key}
use Rattle.schema_spec.specs.declared.syntax.ListedColumn.{ListedColumn}
use Rattle.schema_spec.specs.declared.syntax.TableText.{TableText}
use Rattle.schema_spec.specs.Words.{name_of}
use Rattle.schema_spec.specs.Names.{keys, is_rowid, declared_type, listed_columns, listed_name, named_twice, own_name, place_of, primary_columns, rowid_name, unknown, further_primaries, wrong_tokens}
use Rattle.schema_spec.specs.Texts.{IsColumn, IsTable, own_collation, listed}
use Rattle.schema_sql.specs.declared.parts.Parts.{Parts}
use Rattle.schema_sql.specs.Parts.{AreParts, is_real}
use Rattle.schema_sql.proofs.Steps.{names_of}

abbrev pub collations_of : List Column → List Collation
collations_of columns = map (λ column. column.collation) columns

module _ (text : List ℕ) where
  columns-names : (definitions : List ColumnText) (columns : List Column) → AllZip (IsColumn text) definitions columns → map (own_name text) definitions ≡ names_of columns
  columns-names [] [] h = refl
  columns-names [] (column ∷ columns) h = absurd h
  columns-names (definition ∷ definitions) [] h = absurd h
  columns-names (definition ∷ definitions) (column ∷ columns) h =
      ap (λ x. x ∷ map (own_name text) definitions) (sym h.0.name) ∙ ap (λ x. column.name ∷ x) (columns-names definitions columns h.1)

  columns-collations : (definitions : List ColumnText) (columns : List Column) → AllZip (IsColumn text) definitions columns → map (own_collation text) definitions ≡ collations_of columns
  columns-collations [] [] h = refl
  columns-collations [] (column ∷ columns) h = absurd h
  columns-collations (definition ∷ definitions) [] h = absurd h
  columns-collations (definition ∷ definitions) (column ∷ columns) h =
      ap (λ x. x ∷ map (own_collation text) definitions) (sym h.0.collation) ∙ ap (λ x. column.collation ∷ x) (columns-collations definitions columns h.1)

  -- some column is REAL where its declared type says so
  abbrev HasReal : List ColumnText → Type 0
  HasReal definitions = Any (λ type. HasAffinity type Real) (map (declared_type text) definitions)

  abbrev some_real : List Column → Bool
  some_real columns = list_any (λ column. is_real column.affinity) columns

  real-behind : (definition : ColumnText) (definitions : List ColumnText) → HasReal definitions → HasReal (definition ∷ definitions)
  real-behind definition definitions (k, type, less, e, h) = (suc k, type, omega (arith, less), e, h)

  real-behind_other : (definition : ColumnText) (definitions : List ColumnText) (column : Column) (columns : List Column) (a : Affinity) → (IsTrue (some_real columns) → HasReal definitions)
      → column.affinity ≡ a → is_real a ≡ false → IsTrue (some_real (column ∷ columns)) → HasReal (definition ∷ definitions)
  real-behind_other definition definitions column columns a found e none t =
      real-behind definition definitions (found (sym (ap (λ (b : Affinity). is_real b || some_real columns) e ∙ ap (λ (b : Bool). b || some_real columns) none) ∙ t))

  real-at : (definition : ColumnText) (definitions : List ColumnText) (column : Column) (columns : List Column) → (IsTrue (some_real columns) → HasReal definitions) → IsColumn text definition column
      → IsTrue (some_real (column ∷ columns)) → (a : Affinity) → column.affinity ≡ a → HasReal (definition ∷ definitions)
  real-at definition definitions column columns found is t Integer e = real-behind_other definition definitions column columns Integer found e refl t
  real-at definition definitions column columns found is t Text e = real-behind_other definition definitions column columns Text found e refl t
  real-at definition definitions column columns found is t Blob e = real-behind_other definition definitions column columns Blob found e refl t
  real-at definition definitions column columns found is t Real e = (0, declared_type text definition, omega arith, refl, subst (λ a. HasAffinity (declared_type text definition) a) e is.affinity)
  real-at definition definitions column columns found is t Numeric e = real-behind_other definition definitions column columns Numeric found e refl t

  real-found : (definitions : List ColumnText) (columns : List Column) → AllZip (IsColumn text) definitions columns → IsTrue (some_real columns) → HasReal definitions
  real-found [] [] h t = absurd (let e : ◌≡◌ {A = Bool} false true = t in cc)
  real-found [] (column ∷ columns) h t = absurd h
  real-found (definition ∷ definitions) [] h t = absurd h
  real-found (definition ∷ definitions) (column ∷ columns) h t = real-at definition definitions column columns (λ s. real-found definitions columns h.1 s) h.0 t column.affinity refl

  or-true : (test : Bool) → (test || true) ≡ true
  or-true true = refl
  or-true false = refl

  real-only : (definitions : List ColumnText) (columns : List Column) → AllZip (IsColumn text) definitions columns → HasReal definitions → IsTrue (some_real columns)
  real-only [] [] h (k, type, less, e, r) = absurd (omega (arith, less))
  real-only [] (column ∷ columns) h r = absurd h
  real-only (definition ∷ definitions) [] h r = absurd h
  real-only (definition ∷ definitions) (column ∷ columns) h (zero, type, less, e, r) =
      ap (λ a. is_real a || some_real columns) (affinity-same (declared_type text definition) column.affinity Real h.0.affinity (subst (λ t. HasAffinity t Real) (sym e) r))
  real-only (definition ∷ definitions) (column ∷ columns) h (suc k, type, less, e, r) =
      ap (λ t. is_real column.affinity || t) (real-only definitions columns h.1 (k, type, omega (arith, less), e, r)) ∙ or-true (is_real column.affinity)

  pub real-cause : (definitions : List ColumnText) (columns among : List Column) (found : Bool) → AllZip (IsColumn text) definitions columns → among ≡ columns → found ≡ some_real among
      → IsTrue found ↔ HasReal definitions
  real-cause definitions columns among found h same e =
      let real : found ≡ some_real columns = e ∙ ap some_real same in
      ((λ t. real-found definitions columns h (sym real ∙ t)), λ r. real ∙ real-only definitions columns h r)

  module _ (table : TableText) where
    -- the tokens that name wrongly, as they are put one behind the other
    pub wrong-are : (columns among : List Column) (definitions : List ColumnText) (list : List ListedColumn) (found : List Key) (first second third fourth : List Token)
        → AllZip (IsColumn text) table.columns columns → definitions ≡ table.columns → among ≡ columns → list ≡ listed_columns table.constraints → found ≡ keys table
        → first ≡ [] → second ≡ first ++ named_twice text [] definitions → third ≡ second ++ unknown text (names_of among) list → fourth ≡ third ++ further_primaries found
        → fourth ≡ wrong_tokens text table
    wrong-are columns among definitions list found first second third fourth h d a l k one two three four =
        let twice = named_twice text [] table.columns in
        let names = map (own_name text) table.columns in
        let twos : second ≡ twice = two ∙ ap (λ (f : List Token). f ++ named_twice text [] definitions) one ∙ ap (λ (d : List ColumnText). named_twice text [] d) d in
        let threes : third ≡ twice ++ unknown text names (listed_columns table.constraints) =
        three ∙ ap (λ (s : List Token). s ++ unknown text (names_of among) list) twos ∙ ap (λ (c : List Column). twice ++ unknown text (names_of c) list) a
        ∙ ap (λ (n : List (List ℕ)). twice ++ unknown text n list) (sym (columns-names table.columns columns h)) ∙ ap (λ (l : List ListedColumn). twice ++ unknown text names l) l in
        four ∙ ap (λ (t : List Token). t ++ further_primaries found) threes ∙ ap (λ (k : List Key). twice ++ unknown text names (listed_columns table.constraints) ++ further_primaries k) k

    module _ (parts : Parts) (are : AreParts text table parts) where
      -- UNIQUE on the rowid column
      pub unique-on_rowid : (found : List Key) → found ≡ parts.keys → list_any (λ key. not key.primary && is_rowid text parts.rowid key.columns) found ≡ true
          → IsTrue (list_any (λ key. not key.primary && is_rowid text (rowid_name text table) key.columns) (keys table))
      unique-on_rowid found k e =
          sym (ap (λ (r : Option (List ℕ)). list_any (λ key. not key.primary && is_rowid text r key.columns) found) are.rowid
          ∙ ap (λ (f : List Key). list_any (λ key. not key.primary && is_rowid text (rowid_name text table) key.columns) f) (k ∙ are.keys))
          ∙ e

      -- a table of these columns and keys is as its text says
      pub table-is : (columns : List Column) (found : List Key) (answer : Table) → columns ≡ parts.columns → found ≡ parts.keys
          → answer.name ≡ name_of text table.name → answer.columns ≡ parts.columns
          → answer.rowid_column ≡ option_map (λ name. place_of name (names_of columns)) parts.rowid
          → answer.key ≡ map (λ column. place_of (listed_name text column) (names_of columns)) (primary_columns found)
          → answer.unique ≡ map (λ key. map (listed text (names_of columns) (collations_of columns)) key.columns) (filter (λ key. not (is_rowid text parts.rowid key.columns)) found)
          → IsTable text table answer
      table-is columns found answer c k name is rowid key unique =
          let zip : AllZip (IsColumn text) table.columns columns = subst (λ x. AllZip (IsColumn text) table.columns x) (sym c) are.columns in
          let own = map (own_name text) table.columns in
          let names : names_of columns ≡ own = sym (columns-names table.columns columns zip) in
          let collations : collations_of columns ≡ map (own_collation text) table.columns = sym (columns-collations table.columns columns zip) in
          let all : found ≡ keys table = k ∙ are.keys in
          record {
            name = name;
            columns = subst (λ x. AllZip (IsColumn text) table.columns x) (sym is) are.columns;
            rowid_column = rowid ∙ ap (λ (n : List (List ℕ)). option_map (λ name. place_of name n) parts.rowid) names ∙ ap (λ (r : Option (List ℕ)). option_map (λ name. place_of name own) r) are.rowid;
            key = key ∙ ap (λ (n : List (List ℕ)). map (λ column. place_of (listed_name text column) n) (primary_columns found)) names
                ∙ ap (λ (f : List Key). map (λ column. place_of (listed_name text column) own) (primary_columns f)) all;
            unique = unique
                ∙ ap (λ (n : List (List ℕ)). map (λ key. map (listed text n (collations_of columns)) key.columns) (filter (λ key. not (is_rowid text parts.rowid key.columns)) found)) names
                ∙ ap (λ (x : List Collation). map (λ key. map (listed text own x) key.columns) (filter (λ key. not (is_rowid text parts.rowid key.columns)) found)) collations
                ∙ ap (λ (r : Option (List ℕ)). map (λ key. map (listed text own (map (own_collation text) table.columns)) key.columns) (filter (λ key. not (is_rowid text r key.columns)) found)) are.rowid
                ∙ ap (λ (f : List Key). map (λ key. map (listed text own (map (own_collation text) table.columns)) key.columns) (filter (λ key. not (is_rowid text (rowid_name text table) key.columns)) f)) all;
          }
