-- Rows that are kept by their keys.
use Rattle.std.proofs.Common.{◌≡◌, ℤ, not, Bool, true, false, List, [], ◌∷◌, ◌++◌, Option, Some, None, cond, refl, sym, ap, ◌∙◌, inl, inr}
use Rattle.std.proofs.lemmas.List.{append-nil}
use Rattle.std.specs.Prelude.{filter, is_some}
use Rattle.std.specs.Ordering.{is_eq, ordering_reverse}
use Rattle.std.specs.declared.cmp.Ordering.{Ordering}
use Rattle.std.specs.declared.cmp.Ordering.TheVariants.{Less, Equal, Greater}
use Rattle.std.specs.Cmp.{alike_right}
use Rattle.rbu_value.specs.declared.value.Value.{Value}
use Rattle.schema_spec.specs.declared.schema.Table.{Table}
use Rattle.prepared_spec.specs.RowKeys.{key_collations}
use Rattle.prepared_spec.specs.MembersLaws.{decide, true-false, eq-equal}
use Rattle.compared_keys.specs.declared.keys.ComparedKey.{ComparedKey}
use Rattle.compared_keys.specs.Keys.{key_order, met_key, values_order}
use Rattle.compared_keys.specs.KeysLaws.{values_order-total}
use Rattle.group_rows.specs.KeyedRows.{key_is, of_key, is_keyless}
use Rattle.group_rows.proofs.Lists.{not-false, filter-same, filter-through, filter-nothing, filter-append}

reversed-eq : (o : Ordering) → is_eq (ordering_reverse o) ≡ is_eq o
reversed-eq Less = refl
reversed-eq Equal = refl
reversed-eq Greater = refl

-- which of two keys is named first plays no part
flips : (a b : List Value) → is_eq (values_order a b) ≡ is_eq (values_order b a)
flips a b = ap is_eq (values_order-total.antisymm a b) ∙ reversed-eq (values_order b a)

module _ (table : Table) where
  -- keys that are one have the same rows
  same-rows : (a b : List Value) → is_eq (values_order a b) ≡ true → (row : ℤ × List Value) → of_key table a row ≡ of_key table b row
  same-rows a b e row = by (met_key (key_collations table) table row)
    where
      by : (o : Option ComparedKey) → key_is a o ≡ key_is b o
      by None = refl
      by (Some key) = ap is_eq (values_order-total.congr a b key.values (eq-equal (values_order a b) e))

  -- and rows of both keys make them one
  both-same : (a b : List Value) (row : ℤ × List Value) → of_key table a row ≡ true → of_key table b row ≡ true → is_eq (values_order a b) ≡ true
  both-same a b row = by (met_key (key_collations table) table row)
    where
      by : (o : Option ComparedKey) → key_is a o ≡ true → key_is b o ≡ true → is_eq (values_order a b) ≡ true
      by None e f = absurd (let h : ◌≡◌ {A = Bool} false true = e in let no : ⊥ = cc in no)
      by (Some key) e f = ap is_eq (alike_right values_order-total b key.values a (eq-equal (values_order b key.values) f)) ∙ e

  keyless-other : (a : List Value) (row : ℤ × List Value) → is_keyless table row ≡ true → of_key table a row ≡ false
  keyless-other a row = by (met_key (key_collations table) table row)
    where
      by : (o : Option ComparedKey) → not (is_some o) ≡ true → key_is a o ≡ false
      by None e = refl
      by (Some key) e = absurd (let h : ◌≡◌ {A = Bool} false true = e in let no : ⊥ = cc in no)

  abbrev without : List Value → List (ℤ × List Value) → List (ℤ × List Value)
  without key rows = filter (λ (row : ℤ × List Value). not (of_key table key row)) rows

  -- what is left of a key once the rows of one are taken
  taken-at : (key other : List Value) (rows : List (ℤ × List Value)) (t : Bool) → is_eq (values_order key other) ≡ t → cond t [] (filter (of_key table other) rows) ≡ filter (of_key table other) (without key rows)
  taken-at key other rows true e =
      sym (filter-nothing (λ (row : ℤ × List Value). not (of_key table key row)) (of_key table other) rows (λ row h. ap not (same-rows key other e row ∙ h)))
  taken-at key other rows false e =
      sym (filter-through (λ (row : ℤ × List Value). not (of_key table key row)) (of_key table other) rows (λ row h. elim (decide (of_key table key row)) [
        | inl t ↦ absurd (true-false (is_eq (values_order key other)) (both-same key other row t h) e)
        | inr f ↦ not-false (of_key table key row) f
      ]))

  keyless-left : (key : List Value) (rows : List (ℤ × List Value)) → filter (is_keyless table) rows ≡ filter (is_keyless table) (without key rows)
  keyless-left key rows =
      sym (filter-through (λ (row : ℤ × List Value). not (of_key table key row)) (is_keyless table) rows (λ row h. not-false (of_key table key row) (keyless-other key row h)))

  -- with one row more
  more-at : (key other : List Value) (rows : List (ℤ × List Value)) (row : ℤ × List Value) (found : List (ℤ × List Value)) → found ≡ filter (of_key table key) rows → of_key table other row ≡ is_eq (values_order other key) → (t : Bool) → is_eq (values_order key other) ≡ t
      → cond t (found ++ row ∷ []) (filter (of_key table other) rows) ≡ filter (of_key table other) (rows ++ row ∷ [])
  more-at key other rows row found are test true e =
      let passes : of_key table other row ≡ true = test ∙ flips other key ∙ e in
      ap (λ l. l ++ row ∷ []) (are ∙ filter-same (of_key table key) (of_key table other) rows (same-rows key other e))
      ∙ sym (filter-append (of_key table other) rows (row ∷ []) ∙ ap (λ (b : Bool). filter (of_key table other) rows ++ cond b (row ∷ []) []) passes)
  more-at key other rows row found are test false e =
      let fails : of_key table other row ≡ false = test ∙ flips other key ∙ e in
      sym (filter-append (of_key table other) rows (row ∷ []) ∙ ap (λ (b : Bool). filter (of_key table other) rows ++ cond b (row ∷ []) []) fails ∙ append-nil (filter (of_key table other) rows))

  pub same-more : (test : ℤ × List Value → Bool) (rows : List (ℤ × List Value)) (row : ℤ × List Value) → test row ≡ false → filter test rows ≡ filter test (rows ++ row ∷ [])
  same-more test rows row fails = sym (filter-append test rows (row ∷ []) ∙ ap (λ (b : Bool). filter test rows ++ cond b (row ∷ []) []) fails ∙ append-nil (filter test rows))

  pub one-more : (test : ℤ × List Value → Bool) (rows : List (ℤ × List Value)) (row : ℤ × List Value) → test row ≡ true → filter test rows ++ row ∷ [] ≡ filter test (rows ++ row ∷ [])
  one-more test rows row passes = sym (filter-append test rows (row ∷ []) ∙ ap (λ (b : Bool). filter test rows ++ cond b (row ∷ []) []) passes)

  -- The look-ups and the rows without a key, behind each call.
  module _ (at : ComparedKey → List (ℤ × List Value)) (rest : List (ℤ × List Value)) (rows : List (ℤ × List Value)) (are : (key : ComparedKey) → at key ≡ filter (of_key table key.values) rows) (none : rest ≡ filter (is_keyless table) rows) where
    pub put-keyed : (key : ComparedKey) (row : ℤ × List Value) → Some key ≡ met_key (key_collations table) table row → (other : ComparedKey)
        → cond (is_eq (key_order key other)) (at key ++ row ∷ []) (at other) ≡ filter (of_key table other.values) (rows ++ row ∷ [])
    put-keyed key row is other =
        ap (λ l. cond (is_eq (key_order key other)) (at key ++ row ∷ []) l) (are other)
        ∙ more-at key.values other.values rows row (at key) (are key) (ap (key_is other.values) (sym is)) (is_eq (key_order key other)) refl

    pub put-keyed_rest : (key : ComparedKey) (row : ℤ × List Value) → Some key ≡ met_key (key_collations table) table row → rest ≡ filter (is_keyless table) (rows ++ row ∷ [])
    put-keyed_rest key row is = none ∙ same-more (is_keyless table) rows row (ap (λ (o : Option ComparedKey). not (is_some o)) (sym is))

    pub put-keyless : (row : ℤ × List Value) → None ≡ met_key (key_collations table) table row → (other : ComparedKey) → at other ≡ filter (of_key table other.values) (rows ++ row ∷ [])
    put-keyless row is other = are other ∙ same-more (of_key table other.values) rows row (ap (key_is other.values) (sym is))

    pub put-keyless_rest : (row : ℤ × List Value) → None ≡ met_key (key_collations table) table row → rest ++ row ∷ [] ≡ filter (is_keyless table) (rows ++ row ∷ [])
    put-keyless_rest row is = ap (λ l. l ++ row ∷ []) none ∙ one-more (is_keyless table) rows row (ap (λ (o : Option ComparedKey). not (is_some o)) (sym is))

    pub take-keyed : (key : ComparedKey) (other : ComparedKey) → cond (is_eq (key_order key other)) [] (at other) ≡ filter (of_key table other.values) (without key.values rows)
    take-keyed key other = ap (λ l. cond (is_eq (key_order key other)) [] l) (are other) ∙ taken-at key.values other.values rows (is_eq (key_order key other)) refl

    pub take-rest : (key : ComparedKey) → rest ≡ filter (is_keyless table) (without key.values rows)
    take-rest key = none ∙ keyless-left key.values rows
