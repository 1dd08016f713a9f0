-- One more item of what loops go over.
use Rattle.std.proofs.Common.{◌≡◌, ◌≤◌, ◌<◌, ◌-◌, ℕ, Bool, true, false, List, [], ◌∷◌, ◌++◌, if◌then◌else◌, Option, Some, length, take, drop, get_or, map, sym, ap, subst, ◌∙◌, append_assoc, append-nil, arith}
use Rattle.std.specs.List.{AllZip, list_any}
use Rattle.std.proofs.lemmas.List.{map-append}
use Rattle.schema_spec.specs.declared.token.Token.{Token}
use Rattle.schema_spec.specs.declared.schema.Column.{Column}
use Rattle.schema_spec.specs.declared.syntax.ColumnText.{ColumnText}
use Rattle.schema_spec.specs.declared.syntax.Key.{Key}
use Rattle.schema_spec.specs.Names.{is_among, listed_names, named_twice, own_name, repeated_key, same_names}
use Rattle.schema_spec.specs.Texts.{IsColumn}
use Rattle.schema_sql.proofs.Lists.{go_on, uncons}

abbrev pub names_of : List Column → List (List ℕ)
names_of columns = map (λ column. column.name) columns

module _ (text : List ℕ) where
  -- the columns of those that are left complete those of all definitions
  abbrev pub Completes : List ColumnText → List Column → List ColumnText → Type 0
  Completes all items left = (rest : List Column) → AllZip (IsColumn text) left rest → AllZip (IsColumn text) all (items ++ rest)

  pub columns-more : (all left : List ColumnText) (definition : ColumnText) (items more : List Column) (column : Column) → 1 ≤ length left → definition ≡ get_or left 0 definition
      → Completes all items left → IsColumn text definition column → more ≡ items ++ (column ∷ []) → Completes all more (take (length left - 1) (drop 1 left))
  columns-more all left definition items more column some first completes is e rest h =
      subst (λ x. AllZip (IsColumn text) all x) (sym (append_assoc items (column ∷ []) rest) ∙ ap (λ x. x ++ rest) (sym e))
      (completes (column ∷ rest) (subst (λ l. AllZip (IsColumn text) l (column ∷ rest)) (sym (uncons left definition some first)) (is, h)))

  pub columns-all : (all left : List ColumnText) (items found : List Column) → length left < 1 → Completes all items left → found ≡ items → AllZip (IsColumn text) all found
  columns-all all [] items found none completes e = subst (λ x. AllZip (IsColumn text) all x) (append-nil items ∙ sym e) (completes [] tt)
  columns-all all (definition ∷ left) items found none completes e = absurd (omega (arith, none))

  -- the names that stand twice, up to one more column
  pub twice-more : (all wrong next : List Token) (left : List ColumnText) (definition : ColumnText) (items among more : List Column) (column : Column)
      → 1 ≤ length left → definition ≡ get_or left 0 definition → all ≡ wrong ++ named_twice text (names_of items) left → among ≡ items
      → next ≡ wrong ++ (if is_among (names_of among) column.name then (definition.name ∷ []) else []) → column.name ≡ own_name text definition → more ≡ items ++ (column ∷ [])
      → all ≡ next ++ named_twice text (names_of more) (take (length left - 1) (drop 1 left))
  twice-more all wrong next left definition items among more column some first h same_items n same e =
      let rest = take (length left - 1) (drop 1 left) in
      let own = own_name text definition in
      let names : names_of more ≡ names_of items ++ (own ∷ []) = ap names_of e ∙ map-append (λ (c : Column). c.name) items (column ∷ []) ∙ ap (λ (n : List ℕ). names_of items ++ (n ∷ [])) same in
      let split : all ≡ wrong ++ named_twice text (names_of items) (definition ∷ rest) = h ∙ ap (λ (l : List ColumnText). wrong ++ named_twice text (names_of items) l) (uncons left definition some first) in
      let pushed : next ≡ wrong ++ (if is_among (names_of items) own then (definition.name ∷ []) else []) =
      n ∙ ap (λ (c : List Column). wrong ++ (if is_among (names_of c) column.name then (definition.name ∷ []) else [])) same_items
      ∙ ap (λ (n : List ℕ). wrong ++ (if is_among (names_of items) n then (definition.name ∷ []) else [])) same in
      go_on all wrong (if is_among (names_of items) own then (definition.name ∷ []) else []) next (named_twice text (names_of items ++ (own ∷ [])) rest) split pushed
      ∙ ap (λ (n : List (List ℕ)). next ++ named_twice text n rest) (sym names)

  -- the first key of a list that stands before, one key more
  abbrev key_or : Key → List (List (List ℕ)) → List Key → Bool → Option Token
  key_or key before rest repeated = if repeated then Some key.word else repeated_key text (before ++ (listed_names text key.columns ∷ [])) rest

  repeated-split : (all left : List Key) (key : Key) (names : List (List ℕ)) (before : List (List (List ℕ))) (repeated : Bool) → 1 ≤ length left → key ≡ get_or left 0 key
      → names ≡ listed_names text key.columns → list_any (λ other. same_names other names) before ≡ repeated → repeated_key text [] all ≡ repeated_key text before left
      → repeated_key text [] all ≡ key_or key before (take (length left - 1) (drop 1 left)) repeated
  repeated-split all left key names before repeated some first n r h =
      let test : list_any (λ other. same_names other (listed_names text key.columns)) before ≡ repeated =
      ap (λ (n : List (List ℕ)). list_any (λ other. same_names other n) before) (sym n) ∙ r in
      h ∙ ap (repeated_key text before) (uncons left key some first) ∙ ap (key_or key before (take (length left - 1) (drop 1 left))) test

  pub repeated-here : (all left : List Key) (key : Key) (names : List (List ℕ)) (before : List (List (List ℕ))) → 1 ≤ length left → key ≡ get_or left 0 key
      → names ≡ listed_names text key.columns → list_any (λ other. same_names other names) before ≡ true → repeated_key text [] all ≡ repeated_key text before left
      → Some key.word ≡ repeated_key text [] all
  repeated-here all left key names before some first n r h = sym (repeated-split all left key names before true some first n r h)

  pub repeated-next : (all left : List Key) (key : Key) (names : List (List ℕ)) (before more : List (List (List ℕ))) → 1 ≤ length left → key ≡ get_or left 0 key
      → names ≡ listed_names text key.columns → list_any (λ other. same_names other names) before ≡ false → more ≡ before ++ (names ∷ []) → repeated_key text [] all ≡ repeated_key text before left
      → repeated_key text [] all ≡ repeated_key text more (take (length left - 1) (drop 1 left))
  repeated-next all left key names before more some first n r e h =
      repeated-split all left key names before false some first n r h
      ∙ ap (λ (b : List (List (List ℕ))). repeated_key text b (take (length left - 1) (drop 1 left))) (sym (e ∙ ap (λ (n : List (List ℕ)). before ++ (n ∷ [])) n))
