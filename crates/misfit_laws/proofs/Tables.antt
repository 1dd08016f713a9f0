-- The productions of tables, virtual tables and views.
use Rattle.std.proofs.Common.{◌≡◌, ℕ, ◌<◌, Bool, true, false, ◌&&◌, ◌||◌, ◌⊎◌, List, [], ◌∷◌, ◌++◌, length, refl, sym, ap, ◌∙◌, inl, inr, arith, length-append}
use Rattle.std.specs.Prelude.{not, None, codes}
use Rattle.schema_spec.specs.declared.token.Token.{Token}
use Rattle.schema_spec.specs.declared.syntax.ColumnText.{ColumnText}
use Rattle.schema_spec.specs.declared.syntax.TableConstraint.{TableConstraint}
use Rattle.schema_spec.specs.declared.syntax.TableRule.TheVariants.{PrimaryKey, Unique, Check, ForeignKey}
use Rattle.schema_spec.specs.declared.syntax.TableOption.TheVariants.{WithoutRowid, Strict}
use Rattle.schema_spec.specs.declared.syntax.TableStatement.{TableStatement}
use Rattle.schema_spec.specs.declared.syntax.TableStatement.TheVariants.{Table, Virtual, View}
use Rattle.schema_spec.specs.Words.{table_constraint_words, is_keyword, is_word_of, is_sign}
use Rattle.schema_spec.specs.Fronts.{Front, Behind, Stops, ◌>>=◌, begins, many}
use Rattle.schema_spec.specs.ColumnGrammar.{sign, name, at_sign, column}
use Rattle.schema_spec.specs.TableGrammar.{key_columns, table_primary_key, table_unique, table_check, foreign_key, table_rule, table_constraint, at_column, table_option, table_options, table, virtual_table, view, table_statement}
use Rattle.grammar_laws.specs.Lexemes.{is_whole}
use Rattle.grammar_laws.specs.TestsLaws.{Alike, none, word-respects, sign-respects, words-more, sign-not_word, sign-other}
use Rattle.grammar_laws.specs.ProductionsLaws.{Same, same-next, Tests, tests-one}
use Rattle.misfit_laws.proofs.Fillers.{Filler, Capitals, Opening, Closing, Comma, lexeme, token_of, AreFillers}
use Rattle.misfit_laws.proofs.Continuing.{Anything, Ends, Closes, Bounded, Apart, Passed, OneTaken, Continues, taken, taken-stop, bind-passed, bind-stopped, continues-fewer, closes-bounded, closes-apart, bounded-apart, one-passes, continues-both, continues-nothing, continues-then, continues-before, closing-before, continues-closed, continues-made}
use Rattle.misfit_laws.proofs.Choosing.{continues-either, continues-maybe, continues-maybe_then, continues-ended}
use Rattle.misfit_laws.proofs.Repeating.{continues-many, items-left}
use Rattle.misfit_laws.proofs.Following.{apart-words, closes-free, ends-free}
use Rattle.misfit_laws.proofs.Skips.{bracketed-continues, some_to_end-continues}
use Rattle.misfit_laws.proofs.Lists.{never-none, a_name, both_orders, word-continues, keyword-respects, opening-continues, closing-continues, comma-continues, name-continues, many_commas-continues, commas-short, listed-continues, list_in_brackets-continues, listed_column-continues, named-continues, on_conflict-continues, closes-no_comma}
use Rattle.misfit_laws.proofs.References.{references_in_table-continues}
use Rattle.misfit_laws.proofs.Columns.{column-continues}

abbrev a_list : List Filler
a_list = Opening ∷ a_name ∷ Closing ∷ []

key_columns-continues : Continues is_whole none (is_sign 40) Anything false a_list (λ text. key_columns text)
key_columns-continues = list_in_brackets-continues closes-apart (listed_column-continues both_orders (apart-words both_orders refl))

table_primary_key-continues : Continues is_whole none (is_keyword (codes "PRIMARY")) Apart false (Capitals (codes "PRIMARY") refl ∷ Capitals (codes "KEY") refl ∷ a_list) (λ text. table_primary_key text)
table_primary_key-continues =
    continues-then (word-continues (codes "PRIMARY") refl refl) (λ first. continues-then (word-continues (codes "KEY") refl refl) (λ key. continues-then key_columns-continues (λ columns.
    continues-made (λ on_conflict. record { word = first; rule = PrimaryKey; columns = columns; on_conflict = on_conflict }) on_conflict-continues)))

table_unique-continues : Continues is_whole none (is_keyword (codes "UNIQUE")) Apart false (Capitals (codes "UNIQUE") refl ∷ a_list) (λ text. table_unique text)
table_unique-continues =
    continues-then (word-continues (codes "UNIQUE") refl refl) (λ first. continues-then key_columns-continues (λ columns.
    continues-made (λ on_conflict. record { word = first; rule = Unique; columns = columns; on_conflict = on_conflict }) on_conflict-continues))

table_check-continues : Continues is_whole none (is_keyword (codes "CHECK")) Apart false (Capitals (codes "CHECK") refl ∷ Opening ∷ Closing ∷ []) (λ text. table_check text)
table_check-continues =
    continues-then (word-continues (codes "CHECK") refl refl) (λ first. continues-then bracketed-continues (λ closing.
    continues-made (λ on_conflict. record { word = first; rule = Check; columns = []; on_conflict = on_conflict }) on_conflict-continues))

abbrev a_foreign_key : List Filler
a_foreign_key = Capitals (codes "FOREIGN") refl ∷ Capitals (codes "KEY") refl ∷ Opening ∷ a_name ∷ Closing ∷ Capitals (codes "REFERENCES") refl ∷ a_name ∷ []

foreign_key-continues : Continues is_whole none (is_keyword (codes "FOREIGN")) Bounded false a_foreign_key (λ text. foreign_key text)
foreign_key-continues =
    continues-then (word-continues (codes "FOREIGN") refl refl) (λ first. continues-then (word-continues (codes "KEY") refl refl) (λ key.
    continues-then (list_in_brackets-continues closes-apart (listed_column-continues (codes "ASC" ∷ []) (apart-words (codes "ASC" ∷ []) refl))) (λ columns.
    continues-made (λ references. record { word = first; rule = ForeignKey; columns = columns; on_conflict = false }) references_in_table-continues)))

abbrev rule_words : List (List ℕ)
rule_words = codes "PRIMARY" ∷ codes "UNIQUE" ∷ codes "CHECK" ∷ codes "FOREIGN" ∷ []

table_rule-continues : Continues is_whole none (is_word_of rule_words) Bounded false a_foreign_key (λ text. table_rule text)
table_rule-continues =
    continues-either (is_word_of rule_words) (is_keyword (codes "PRIMARY")) (keyword-respects (codes "PRIMARY")) (λ text c e. e) (words-more (codes "PRIMARY") (codes "UNIQUE" ∷ codes "CHECK" ∷ codes "FOREIGN" ∷ [])) refl
    (continues-fewer Bounded bounded-apart table_primary_key-continues)
    (continues-either (is_word_of (codes "UNIQUE" ∷ codes "CHECK" ∷ codes "FOREIGN" ∷ [])) (is_keyword (codes "UNIQUE")) (keyword-respects (codes "UNIQUE")) (λ text c e. e) (words-more (codes "UNIQUE") (codes "CHECK" ∷ codes "FOREIGN" ∷ [])) refl
    (continues-fewer Bounded bounded-apart table_unique-continues)
    (continues-either (is_word_of (codes "CHECK" ∷ codes "FOREIGN" ∷ [])) (is_keyword (codes "CHECK")) (keyword-respects (codes "CHECK")) (λ text c e. e) (words-more (codes "CHECK") (codes "FOREIGN" ∷ [])) refl
    (continues-fewer Bounded bounded-apart table_check-continues) foreign_key-continues))

table_constraint-continues : Continues is_whole none (is_word_of table_constraint_words) Bounded false a_foreign_key (λ text. table_constraint text)
table_constraint-continues =
    continues-maybe_then (is_word_of table_constraint_words) (is_keyword (codes "CONSTRAINT")) None (keyword-respects (codes "CONSTRAINT")) (λ text c e. e) (words-more (codes "CONSTRAINT") rule_words) refl
    named-continues (λ name. table_rule-continues)

table_option-continues : Continues is_whole none (is_word_of (codes "WITHOUT" ∷ codes "STRICT" ∷ [])) Anything false (Capitals (codes "STRICT") refl ∷ []) (λ text. table_option text)
table_option-continues =
    continues-either (is_word_of (codes "WITHOUT" ∷ codes "STRICT" ∷ [])) (is_keyword (codes "WITHOUT")) (keyword-respects (codes "WITHOUT")) (λ text c e. e) (words-more (codes "WITHOUT") (codes "STRICT" ∷ [])) refl
    (continues-then (word-continues (codes "WITHOUT") refl refl) (λ without. continues-then (word-continues (codes "ROWID") refl refl) (λ rowid. continues-nothing WithoutRowid)))
    (continues-then (word-continues (codes "STRICT") refl refl) (λ strict. continues-nothing Strict))

table_options-continues : Continues is_whole none (is_word_of (codes "WITHOUT" ∷ codes "STRICT" ∷ [])) Ends true [] (λ text. table_options text)
table_options-continues =
    continues-maybe (is_word_of (codes "WITHOUT" ∷ codes "STRICT" ∷ [])) [] (word-respects (codes "WITHOUT" ∷ codes "STRICT" ∷ [])) (λ text c e. e) (ends-free (is_word_of (codes "WITHOUT" ∷ codes "STRICT" ∷ [])))
    (listed-continues Ends (ends-free (is_sign 44)) (λ text rest h. tt) table_option-continues)

-- a comma with a column behind it: the token behind it is looked at too
abbrev is_column : List ℕ → Token → List Token → Bool
is_column text c tokens = is_sign 44 text c && not (is_sign 44 text c && begins (is_word_of table_constraint_words text) tokens)

-- a comma is looked at with the word behind it
column-tests : Tests (is_sign 44) (λ text. at_column text)
column-tests text other [] others next = absurd next
column-tests text other (c ∷ tokens) [] next = absurd next
column-tests text other (c ∷ tokens) (d ∷ others) next =
    elim next.2 [ inl p ↦ without p | inr q ↦ behind q ] ∙ ap (λ x. is_column other x others) next.0
  where
    same : is_sign 44 text c ≡ is_sign 44 other c
    same = sign-respects 44 text other c c next.1

    without : is_sign 44 text c ≡ false → (is_sign 44 text c && not (is_sign 44 text c && begins (is_word_of table_constraint_words text) tokens)) ≡ is_column other c others
    without p =
        ap (λ b. b && not (b && begins (is_word_of table_constraint_words text) tokens)) p
        ∙ sym (ap (λ b. b && not (b && begins (is_word_of table_constraint_words other) others)) (sym same ∙ p))

    behind : Same text other tokens others → (is_sign 44 text c && not (is_sign 44 text c && begins (is_word_of table_constraint_words text) tokens)) ≡ is_column other c others
    behind q =
        ap (λ b. b && not (b && begins (is_word_of table_constraint_words text) tokens)) same
        ∙ ap (λ b. is_sign 44 other c && not (is_sign 44 other c && b))
        (tests-one (is_word_of table_constraint_words) (word-respects table_constraint_words) text other tokens others (same-next text other tokens others q))

column-begun : (text : List ℕ) (tokens : List Token) → at_column text tokens ≡ true → begins (is_sign 44 text) tokens ≡ true
column-begun text [] e = absurd (cc)
column-begun text (c ∷ tokens) e = first (is_sign 44 text c) (not (is_sign 44 text c && begins (is_word_of table_constraint_words text) tokens)) e
  where
    first : (a b : Bool) → (a && b) ≡ true → a ≡ true
    first true b h = refl
    first false b h = absurd (cc)

abbrev further_columns : List ℕ → List Token → Front (List ColumnText)
further_columns text = many (at_column text) (λ all. sign text 44 all >>= λ comma rest. column text rest)

a_column-continues : Continues is_whole none (is_sign 44) Bounded false (Comma ∷ a_name ∷ []) (λ text all. sign text 44 all >>= λ comma rest. column text rest)
a_column-continues = continues-then comma-continues (λ comma. column-continues)

-- before a token that begins no constraint of the table a comma begins a column
comma-column : (text : List ℕ) (c : Token) (rest : List Token) → is_sign 44 text c ≡ true → begins (is_word_of table_constraint_words text) rest ≡ false → at_column text (c ∷ rest) ≡ true
comma-column text c rest e f = ap (λ b. b && not (b && begins (is_word_of table_constraint_words text) rest)) e ∙ ap not f

no_column : (text : List ℕ) (rest : List Token) → Closes text rest → at_column text rest ≡ false
no_column text [] h = refl
no_column text (c ∷ rest) h = ap (λ b. b && not (b && begins (is_word_of table_constraint_words text) rest)) (sign-other 41 44 refl text c h)

or_none : (a : Bool) → (a || false) ≡ true → a ≡ true
or_none true e = refl
or_none false e = e

still_comma : (text other : List ℕ) (c : Token) → Alike text c other c → (is_sign 44 text c || false) ≡ true → is_sign 44 other c ≡ true
still_comma text other c alike look = sym (sign-respects 44 text other c c alike) ∙ or_none (is_sign 44 text c) look

alone-column : (text other : List ℕ) (c : Token) (more : List Token) → Alike text c other c → (is_sign 44 text c || false) ≡ true → Closes other more → (at_column other (c ∷ more) ≡ true) × Bounded other (c ∷ more)
alone-column text other c more alike look follows =
    let is_comma = still_comma text other c alike look in
    (comma-column other c more is_comma (closes-free (is_word_of table_constraint_words) (sign-not_word 41 table_constraint_words) other more follows), inr is_comma)

mended-column : (text other : List ℕ) (c : Token) (others more : List Token) → (is_sign 44 text c || false) ≡ true → Alike text c other c → AreFillers other (a_name ∷ []) others → Closes other more
    → (at_column other (c ∷ (others ++ more)) ≡ true) × Bounded other (c ∷ (others ++ more)) × Passed (sign other 44 (c ∷ (others ++ more)) >>= λ comma rest. column other rest) more
mended-column text other c [] more look alike fillers follows = absurd fillers
mended-column text other c (d ∷ []) more look alike fillers follows =
    let is_comma = still_comma text other c alike look in
    let (a, is) = column-continues.fresh other (d ∷ []) more fillers (closes-bounded other more follows) in (
      comma-column other c (d ∷ more) is_comma (word-respects table_constraint_words other (codes "A") d (token_of (lexeme a_name)) fillers.0),
      inr is_comma,
      (a, ap (λ x. x >>= λ comma rest. column other rest) (one-passes (is_sign 44 other) c (d ∷ more) is_comma) ∙ is),
    )
mended-column text other c (d ∷ e ∷ others) more look alike fillers follows = absurd fillers.1

mend-column : (text : List ℕ) (c : Token) → (is_sign 44 text c || false) ≡ true
    → (w : List Filler) × ((other : List ℕ) (others more : List Token) → Alike text c other c → AreFillers other w others → Closes other more
    → (at_column other (c ∷ (others ++ more)) ≡ true) × Bounded other (c ∷ (others ++ more)) × Passed (sign other 44 (c ∷ (others ++ more)) >>= λ comma rest. column other rest) more)
mend-column text c look = (a_name ∷ [], λ other others more alike fillers follows. mended-column text other c others more look alike fillers follows)

further_columns-continues : Continues is_whole (is_sign 44) none Closes true [] further_columns
further_columns-continues =
    continues-many is_whole (is_sign 44) none none (is_sign 44) Closes Bounded false (Comma ∷ a_name ∷ []) (λ text. at_column text) (λ text all. sign text 44 all >>= λ comma rest. column text rest)
    column-tests column-begun (λ text tokens e. never-none text tokens e) (λ text c h. refl) no_column closes-bounded alone-column mend-column a_column-continues

columns-left : (text : List ℕ) (tokens rest : List Token) (all : List ColumnText) → further_columns text tokens ≡ Behind all rest → at_column text rest ≡ false
columns-left =
    items-left is_whole (is_sign 44) none none (is_sign 44) Closes Bounded false (Comma ∷ a_name ∷ []) (λ text. at_column text) (λ text all. sign text 44 all >>= λ comma rest. column text rest)
    column-tests column-begun (λ text tokens e. never-none text tokens e) (λ text c h. refl) no_column closes-bounded alone-column mend-column a_column-continues

abbrev further_constraints : List ℕ → List Token → Front (List TableConstraint)
further_constraints text = many (at_sign text 44) (λ all. sign text 44 all >>= λ comma rest. table_constraint text rest)

further_constraints-continues : Continues is_whole none (is_sign 44) Closes true [] further_constraints
further_constraints-continues = many_commas-continues Closes closes-no_comma closes-bounded table_constraint-continues

-- a constraint behind a comma is taken
constraint-taken : (text : List ℕ) (c : Token) (rest left : List Token) → is_sign 44 text c ≡ true → begins (is_word_of table_constraint_words text) rest ≡ true → OneTaken (further_constraints text (c ∷ rest)) left → length left < length rest
constraint-taken = commas-short Closes closes-no_comma closes-bounded table_constraint-continues

-- what stands behind the columns and constraints
abbrev the_table : Token → ColumnText → List ColumnText → List TableConstraint → List ℕ → List Token → Front TableStatement
the_table name first others constraints text rest =
    sign text 41 rest >>= λ closing rest.
    table_options text rest >>= λ options rest.
    Behind (Table (record { name = name; columns = first ∷ others; constraints = constraints; options = options })) rest

the_table-continues : (name : Token) (first : ColumnText) (others : List ColumnText) (constraints : List TableConstraint) → Continues is_whole none (is_sign 41) Ends false (Closing ∷ []) (the_table name first others constraints)
the_table-continues name first others constraints =
    continues-then closing-continues (λ closing.
    continues-made (λ options. Table (record { name = name; columns = first ∷ others; constraints = constraints; options = options })) table_options-continues)

abbrev behind_columns : Token → ColumnText → List ColumnText → List ℕ → List Token → Front TableStatement
behind_columns name first others text rest = further_constraints text rest >>= λ constraints rest. the_table name first others constraints text rest

behind_columns-continues : (name : Token) (first : ColumnText) (others : List ColumnText) → Continues is_whole none (is_sign 44) Ends false (Closing ∷ []) (behind_columns name first others)
behind_columns-continues name first others = continues-closed further_constraints-continues (λ constraints. the_table-continues name first others constraints)

abbrev behind_first : Token → ColumnText → List ℕ → List Token → Front TableStatement
behind_first name first text rest = further_columns text rest >>= λ others rest. behind_columns name first others text rest

-- behind the last column a comma stands before a constraint, which is taken with it
behind_first-continues : (name : Token) (first : ColumnText) → Continues is_whole none none Ends false (Closing ∷ []) (behind_first name first)
behind_first-continues name first =
    continues-both is_whole (is_sign 44) none none (is_sign 44) Ends Closes true false [] (Closing ∷ []) further_columns (behind_columns name first) (λ text c h. h)
    (λ text tokens rest fillers follows. closing-before [] text tokens rest fillers) (λ text rest none follows. absurd (cc)) never further_columns-continues (behind_columns-continues name first)
  where
    begun : (text : List ℕ) (c : Token) (rest : List Token) → is_sign 44 text c ≡ true → at_column text (c ∷ rest) ≡ false → begins (is_word_of table_constraint_words text) rest ≡ true
    begun text c rest comma e = by_word (begins (is_word_of table_constraint_words text) rest) refl
      where
        by_word : (b : Bool) → begins (is_word_of table_constraint_words text) rest ≡ b → b ≡ true
        by_word true f = refl
        by_word false f = let wrong = sym (comma-column text c rest comma f) ∙ e in absurd (cc)

    no_less : (left front rest : List Token) → left ≡ front ++ rest → length left < length rest → ⊥
    no_less left front rest is less = let long : length left ≡ length (front ++ rest) = ap length is in omega (arith, long, less, length-append front rest)

    never : (text : List ℕ) (tokens : List Token) (others : List ColumnText) (c : Token) (rest : List Token) → further_columns text tokens ≡ Behind others (c ∷ rest) → is_sign 44 text c ≡ true
        → OneTaken (behind_columns name first others text (c ∷ rest)) rest → ⊥
    never text tokens others c rest e comma one = by_one one
      where
        word : begins (is_word_of table_constraint_words text) rest ≡ true
        word = begun text c rest comma (columns-left text tokens (c ∷ rest) others e)

        by_stop : (further_constraints text (c ∷ rest) ≡ Stops rest) ⊎ ((constraints : List TableConstraint) × (left : List Token) × (further_constraints text (c ∷ rest) ≡ Behind constraints left) × (the_table name first others constraints text left ≡ Stops rest)) → ⊥
        by_stop (inl stop) = no_less rest [] rest refl (constraint-taken text c rest rest comma word (inr stop))
        by_stop (inr (constraints, left, one, two)) =
            let (front, is) = taken-stop (the_table-continues name first others constraints).part text left rest two in
            no_less left front rest is (constraint-taken text c rest left comma word (inl (constraints, one)))

        by_one : OneTaken (behind_columns name first others text (c ∷ rest)) rest → ⊥
        by_one (inl (statement, is)) =
            let (constraints, left, one, two) = bind-passed (further_constraints text (c ∷ rest)) (λ constraints rest. the_table name first others constraints text rest) statement rest is in
            let (front, whole) = taken (the_table-continues name first others constraints).part text left rest statement two in
            no_less left front rest whole (constraint-taken text c rest left comma word (inl (constraints, one)))
        by_one (inr is) = by_stop (bind-stopped (further_constraints text (c ∷ rest)) (λ constraints rest. the_table name first others constraints text rest) rest is)

abbrev pub a_table : List Filler
a_table = Capitals (codes "TABLE") refl ∷ a_name ∷ a_list

table-continues : Continues is_whole none (is_keyword (codes "TABLE")) Ends false a_table (λ text. table text)
table-continues =
    continues-then (word-continues (codes "TABLE") refl refl) (λ kind. continues-then name-continues (λ name. continues-then opening-continues (λ opening.
    continues-closed (continues-fewer Closes closes-bounded column-continues) (λ first. behind_first-continues name first))))

virtual_table-continues : Continues is_whole none (is_keyword (codes "VIRTUAL")) Ends false
    (Capitals (codes "VIRTUAL") refl ∷ Capitals (codes "TABLE") refl ∷ a_name ∷ Capitals (codes "USING") refl ∷ a_name ∷ []) (λ text. virtual_table text)
virtual_table-continues =
    continues-then (word-continues (codes "VIRTUAL") refl refl) (λ kind. continues-then (word-continues (codes "TABLE") refl refl) (λ table. continues-then name-continues (λ table_name.
    continues-then (word-continues (codes "USING") refl refl) (λ using. continues-then name-continues (λ module_name.
    continues-maybe (is_sign 40) Virtual (sign-respects 40) (λ text c e. e) (ends-free (is_sign 40)) (continues-fewer Ends (λ text rest h. tt) (continues-made (λ closing. Virtual) bracketed-continues)))))))

view-continues : Continues is_whole none (is_keyword (codes "VIEW")) Ends false (Capitals (codes "VIEW") refl ∷ a_name ∷ Capitals (codes "AS") refl ∷ a_name ∷ []) (λ text. view text)
view-continues =
    continues-then (word-continues (codes "VIEW") refl refl) (λ kind. continues-then name-continues (λ view_name.
    continues-maybe_then (is_sign 40) (is_sign 40) [] (sign-respects 40) (λ text c e. e) (λ text c e f. e) refl (list_in_brackets-continues (λ text rest h. tt) name-continues) (λ columns.
    continues-then (word-continues (codes "AS") refl refl) (λ as_word. continues-made (λ query. View) some_to_end-continues))))

pub table_statement-continues : Continues is_whole none (is_keyword (codes "CREATE")) Ends false (Capitals (codes "CREATE") refl ∷ a_table) (λ text. table_statement text)
table_statement-continues =
    continues-then (word-continues (codes "CREATE") refl refl) (λ create.
    continues-before
    (continues-either none (is_keyword (codes "VIRTUAL")) (keyword-respects (codes "VIRTUAL")) (λ text c e. e) (λ text c e f. refl) refl virtual_table-continues
    (continues-either none (is_keyword (codes "VIEW")) (keyword-respects (codes "VIEW")) (λ text c e. e) (λ text c e f. refl) refl view-continues table-continues))
    (λ statement. continues-ended statement))
