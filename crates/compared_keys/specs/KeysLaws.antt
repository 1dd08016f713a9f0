-- Keys are one exactly where they are so as they compare, and these are in a total order: crates above cite these facts in their proofs.
use Rattle.std.proofs.Common.{◌≡◌, ◌≤◌, ℕ, ◌&&◌, not, Bool, true, false, Option, Some, None, List, [], ◌∷◌, length, map, if◌then◌else◌, refl, sym, ap, ap₂, ◌∙◌, arith}
use Rattle.std.proofs.lemmas.List.{length-map}
use Rattle.std.proofs.lemmas.Slice.Eq.{bytes_eq-Decides}
use Rattle.std.specs.Prelude.{bytes_eq, slice_index_or}
use Rattle.std.specs.List.{list_any}
use Rattle.std.specs.Ordering.{is_eq, ordering_then}
use Rattle.std.specs.Cmp.{IsTotalOrder, on_total}
use Rattle.std.specs.Cmp.Lexicographic.{lists_total}
use Rattle.rbu_value.specs.declared.order.Collation.{Collation}
use Rattle.rbu_value.specs.declared.order.Collation.TheVariants.{Binary}
use Rattle.rbu_value.specs.declared.value.Value.{Value}
use Rattle.rbu_value.specs.declared.value.Value.TheVariants.{Null, Int, Text, Blob}
use Rattle.rbu_value.specs.Order.{value_cmp}
use Rattle.rbu_value.specs.OrderLaws.{value_cmp-total}
use Rattle.rbu_rows.specs.declared.prepared.Prepared.{Prepared}
use Rattle.schema_spec.specs.declared.schema.Table.{Table}
use Rattle.database_spec.specs.Rows.{TableRow}
use Rattle.database_spec.specs.Keys.{columns_cmp, is_null}
use Rattle.prepared_spec.specs.RowKeys.{collations_among, key_at, key_collations, meets, row_key, same_key}
use Rattle.compared_keys.specs.declared.keys.ComparedKey.{ComparedKey}
use Rattle.compared_keys.specs.Noted.{has_key}
use Rattle.compared_keys.specs.Keys.{compared, compared_key, key_order, met_key, values_order}

pub values_order-total : IsTotalOrder values_order
values_order-total = lists_total (value_cmp-total Binary)

pub key_order-total : IsTotalOrder key_order
key_order-total = on_total (λ key. key.values) values_order-total

-- a key has a value for each of its columns
among-long : (indexes : List (List (ℕ × Collation))) (key : List ℕ) → length (collations_among indexes key) ≡ length key
among-long [] key = length-map key (λ (place : ℕ). Binary)
among-long (columns ∷ indexes) key = by (among-long indexes key) (bytes_eq (map (λ (column : ℕ × Collation). column.0) columns) key) refl
  where
    by : length (collations_among indexes key) ≡ length key → (b : Bool) → bytes_eq (map (λ (column : ℕ × Collation). column.0) columns) key ≡ b
        → length (if b then map (λ (column : ℕ × Collation). column.1) columns else collations_among indexes key) ≡ length key
    by rest true e =
        let same : map (λ (column : ℕ × Collation). column.0) columns ≡ key = (bytes_eq-Decides (map (λ (column : ℕ × Collation). column.0) columns) key).0 e in
        length-map columns (λ (column : ℕ × Collation). column.1) ∙ sym (length-map columns (λ (column : ℕ × Collation). column.0)) ∙ ap length same
    by rest false e = rest

pub key-long : (table : Table) (key : List ℕ) → table.key ≡ key → (rowid : Value) (values : List Value) → length (key_at key rowid values) ≡ length (elim key as (λ _. List Collation) [ [] ↦ Binary ∷ [] | (place ∷ places) ↦ collations_among table.unique table.key ])
key-long table [] e rowid values = refl
key-long table (place ∷ places) e rowid values = length-map (place ∷ places) (λ (at : ℕ). slice_index_or values at Null) ∙ ap length (sym e) ∙ sym (among-long table.unique table.key)

pub row_key-long : (table : Table) (row : TableRow) → length (key_collations table) ≤ length (row_key table row)
row_key-long table row = let long = key-long table table.key refl (Int row.rowid) row.values in omega (arith, long)

-- values compare under a collation as they do under BINARY with the bytes by which they compare
compared-order : (c : Collation) (x y : Value) → value_cmp c x y ≡ value_cmp Binary (compared c x) (compared c y)
unfolding value_cmp
compared-order c Null Null = refl
compared-order c Null (Int y) = refl
compared-order c Null (Text y) = refl
compared-order c Null (Blob y) = refl
compared-order c (Int x) Null = refl
compared-order c (Int x) (Int y) = refl
compared-order c (Int x) (Text y) = refl
compared-order c (Int x) (Blob y) = refl
compared-order c (Text x) Null = refl
compared-order c (Text x) (Int y) = refl
compared-order c (Text x) (Text y) = refl
compared-order c (Text x) (Blob y) = refl
compared-order c (Blob x) Null = refl
compared-order c (Blob x) (Int y) = refl
compared-order c (Blob x) (Text y) = refl
compared-order c (Blob x) (Blob y) = refl

-- and so do keys that have a value for each column
pub keys-order : (collations : List Collation) (a b : List Value) → length collations ≤ length a → length collations ≤ length b
    → columns_cmp (map (λ collation. (collation, false)) collations) a b ≡ values_order (compared_key collations a) (compared_key collations b)
keys-order [] a b long also = refl
keys-order (c ∷ collations) [] b long also = absurd (omega (arith, long))
keys-order (c ∷ collations) (x ∷ a) [] long also = absurd (omega (arith, also))
keys-order (c ∷ collations) (x ∷ a) (y ∷ b) long also = ap₂ ordering_then (compared-order c x y) (keys-order collations a b (omega (arith, long)) (omega (arith, also)))

-- so two keys of a table are one exactly where they are so as they compare
pub same_key-compared : (table : Table) (a b : List Value) → length (key_collations table) ≤ length a → length (key_collations table) ≤ length b
    → same_key table a b ≡ is_eq (values_order (compared_key (key_collations table) a) (compared_key (key_collations table) b))
same_key-compared table a b long also = ap is_eq (keys-order (key_collations table) a b long also)

-- whether a prepared row has a key, if there is one
abbrev pub has_met_key : Table → Option ComparedKey → Prepared → Bool
has_met_key table None prepared = false
has_met_key table (Some key) prepared = has_key (key_collations table) key prepared

and-true : (s : Bool) → (s && true) ≡ s
and-true true = refl
and-true false = refl

and-false : (s : Bool) → (s && false) ≡ false
and-false true = refl
and-false false = refl

-- it meets a row exactly where it has its key
pub meets-compared : (table : Table) (row : TableRow) (prepared : Prepared) → length (key_collations table) ≤ length prepared.key
    → meets table row prepared ≡ has_met_key table (met_key (key_collations table) table (row.rowid, row.values)) prepared
meets-compared table row prepared long = by (list_any is_null (row_key table row)) refl
  where
    by : (t : Bool) → list_any is_null (row_key table row) ≡ t
        → (same_key table prepared.key (row_key table row) && not t) ≡ has_met_key table (if t then None else Some (record { values = compared_key (key_collations table) (row_key table row) })) prepared
    by true e = and-false (same_key table prepared.key (row_key table row))
    by false e = and-true (same_key table prepared.key (row_key table row)) ∙ same_key-compared table prepared.key (row_key table row) long (row_key-long table row)
