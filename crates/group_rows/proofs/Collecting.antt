-- All rows that are kept, gathered.
use Rattle.std.proofs.Common.{◌≡◌, ◌↔◌, ℤ, not, Bool, true, false, List, [], ◌∷◌, ◌++◌, Option, Some, None, cond, refl, sym, ap, ◌∙◌, subst, inl, inr}
use Rattle.std.proofs.Math.Path.{subst⁻¹}
use Rattle.std.proofs.lemmas.Cmp.{tied_itself}
use Rattle.std.proofs.lemmas.Map.Keys.{sorted_head, sorted_tail}
use Rattle.std.specs.Prelude.{Contains, filter, flat_map, is_some, Vec}
use Rattle.std.specs.Global.{Global}
use Rattle.std.specs.BTreeMap.{is_at}
use Rattle.std.specs.Map.{keys_of, lookup}
use Rattle.std.specs.List.Sorted.{IsStrictlySortedBy}
use Rattle.std.specs.Ordering.{is_eq, ordering_reverse}
use Rattle.std.specs.declared.cmp.Ordering.{Ordering}
use Rattle.std.specs.declared.cmp.Ordering.TheVariants.{Less}
use Rattle.rbu_value.specs.declared.value.Value.{Value}
use Rattle.schema_spec.specs.declared.schema.Table.{Table}
use Rattle.prepared_spec.specs.RowKeys.{key_collations}
use Rattle.prepared_spec.specs.MembersLaws.{Has, has-from, has-to, has-left, has-right, has-either, has-filter, filter-has, has-map}
use Rattle.prepared_spec.specs.ChangesLaws.{all-has}
use Rattle.compared_keys.specs.declared.keys.ComparedKey.{ComparedKey}
use Rattle.compared_keys.specs.Keys.{key_order, met_key}
use Rattle.compared_keys.specs.KeysLaws.{key_order-total, values_order-total}
use Rattle.index_changes.specs.ListsLaws.{joined-has, has-joined}
use Rattle.group_rows.specs.KeyedRows.{key_is, of_key, is_keyless, rows_in}

greater-not : (o p : Ordering) → p ≡ ordering_reverse o → o ≡ Less → is_eq p ≡ false
greater-not o p e f = ap is_eq (e ∙ ap ordering_reverse f)

module _ {X : Type 0} where
  -- what an entry of a map has is what is looked up at its key
  entry-found : (entries : List (ComparedKey × X)) (entry : ComparedKey × X) → IsStrictlySortedBy key_order (keys_of entries) → Has entry entries → lookup (is_at (key_order entry.0)) entries ≡ Some entry.1
  entry-found [] entry sorted h = absurd h
  entry-found (first ∷ entries) entry sorted (inl same) =
      subst (λ (e : ComparedKey × X). lookup (is_at (key_order e.0)) (first ∷ entries) ≡ Some e.1) same
      (ap (λ (t : Bool). cond t (Some first.1) (lookup (is_at (key_order first.0)) entries)) (ap is_eq (tied_itself key_order-total first.0)))
  entry-found (first ∷ entries) entry sorted (inr h) =
      let less : key_order first.0 entry.0 ≡ Less =
      all-has (λ (k : ComparedKey). key_order first.0 k ≡ Less) (keys_of entries) entry.0 (sorted_head key_order first.0 (keys_of entries) sorted) (has-map (λ (e : ComparedKey × X). e.0) entries entry h) in
      ap (λ (t : Bool). cond t (Some first.1) (lookup (is_at (key_order entry.0)) entries)) (greater-not (key_order first.0 entry.0) (key_order entry.0 first.0) (key_order-total.antisymm entry.0 first.0) less)
      ∙ entry-found entries entry (sorted_tail key_order first.0 (keys_of entries) sorted) h

  -- and what is looked up is an entry's
  found-entry : (test : ComparedKey → Bool) (entries : List (ComparedKey × X)) (value : X) → lookup test entries ≡ Some value → (entry : ComparedKey × X) × Has entry entries × (entry.1 ≡ value)
  found-entry test [] value e = absurd (let h : ⊥ = cc in h)
  found-entry test (first ∷ entries) value e = by (test first.0) e (λ f. found-entry test entries value f)
    where
      by : (t : Bool) → cond t (Some first.1) (lookup test entries) ≡ Some value → (lookup test entries ≡ Some value → (entry : ComparedKey × X) × Has entry entries × (entry.1 ≡ value))
          → (entry : ComparedKey × X) × Has entry (first ∷ entries) × (entry.1 ≡ value)
      by true f later = let same : first.1 ≡ value = cc in (first, inl refl, same)
      by false f later = let rest = later f in (rest.0, inr rest.1, rest.2)

abbrev pub rows_of : ComparedKey × Vec (ℤ × List Value) Global → List (ℤ × List Value)
rows_of entry = entry.1.items

module _ (table : Table) (entries : List (ComparedKey × Vec (ℤ × List Value) Global)) (rest rows : List (ℤ × List Value)) (sorted : IsStrictlySortedBy key_order (keys_of entries))
    (are : (key : ComparedKey) → rows_in (lookup (is_at (key_order key)) entries) ≡ filter (of_key table key.values) rows) (none : rest ≡ filter (is_keyless table) rows) where
  gathered-from : (row : ℤ × List Value) → Has row (rest ++ flat_map rows_of entries) → Has row rows
  gathered-from row h =
      elim (has-either rest (flat_map rows_of entries) row h) [
        | inl a ↦ (filter-has (is_keyless table) rows row (subst (Has row) none a)).0
        | inr b ↦
            let entry = joined-has rows_of entries row b in
            let there : entry.0.1.items ≡ filter (of_key table entry.0.0.values) rows = sym (ap rows_in (entry-found entries entry.0 sorted entry.1)) ∙ are entry.0.0 in
            (filter-has (of_key table entry.0.0.values) rows row (subst (Has row) there entry.2)).0
      ]

  from-gathered : (row : ℤ × List Value) → Has row rows → Has row (rest ++ flat_map rows_of entries)
  from-gathered row h = by (met_key (key_collations table) table row) refl
    where
      by : (o : Option ComparedKey) → met_key (key_collations table) table row ≡ o → Has row (rest ++ flat_map rows_of entries)
      by None e =
          has-left rest (flat_map rows_of entries) row (subst⁻¹ (Has row) none (has-filter (is_keyless table) rows row h (ap (λ (o : Option ComparedKey). not (is_some o)) e)))
      by (Some key) e =
          let passes : of_key table key.values row ≡ true = ap (key_is key.values) e ∙ ap is_eq (tied_itself values_order-total key.values) in
          let there = subst⁻¹ (Has row) (are key) (has-filter (of_key table key.values) rows row h passes) in
          has-right rest (flat_map rows_of entries) row (at (lookup (is_at (key_order key)) entries) refl there)
        where
          at : (found : Option (Vec (ℤ × List Value) Global)) → lookup (is_at (key_order key)) entries ≡ found → Has row (rows_in found) → Has row (flat_map rows_of entries)
          at None f k = absurd k
          at (Some value) f k =
              let entry = found-entry (is_at (key_order key)) entries value f in
              has-joined rows_of entries entry.0 row entry.1 (subst⁻¹ (λ (v : Vec (ℤ × List Value) Global). Has row v.items) entry.2 k)

  pub gathered : (all : List (ℤ × List Value)) → all ≡ rest ++ flat_map rows_of entries → (row : ℤ × List Value) → Contains all row ↔ Contains rows row
  gathered all e row = (
    λ stands. has-to rows row (gathered-from row (subst (Has row) e (has-from all row stands))),
    λ stands. has-to all row (subst⁻¹ (Has row) e (from-gathered row (has-from rows row stands))),
  )
