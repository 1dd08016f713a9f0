-- Entries that agree in the columns of an index, in its order by these and then the rowid: crates above cite these facts in their proofs.
use Rattle.std.proofs.Common.{◌≡◌, ℕ, ◌+◌, ◌≤◌, ◌⊎◌, Bool, true, false, if◌then◌else◌, List, length, take, ap, ◌∙◌, subst, inl, inr, arith}
use Rattle.std.proofs.Math.Path.{subst⁻¹}
use Rattle.std.proofs.lemmas.List.{length-map}
use Rattle.std.specs.List.{list_any}
use Rattle.rbu_value.specs.declared.order.Collation.{Collation}
use Rattle.rbu_value.specs.declared.value.Value.{Value}
use Rattle.format_spec.specs.Record.{IsRecord}
use Rattle.schema_spec.specs.declared.schema.Index.{Index}
use Rattle.tree_spec.specs.Trees.{Member}
use Rattle.database_spec.specs.ItemsLaws.{decide, true-false}
use Rattle.database_spec.specs.Keys.{has_null, is_null, order_of}
use Rattle.database_spec.specs.RowsLaws.{record-one}
use Rattle.key_order.specs.declared.order.KeyOrder.{KeyOrder}
use Rattle.key_order.specs.Orders.{HasEqual, IsEntry, IsRising}
use Rattle.index_lookup.specs.Alikes.{TellsAlike, with_rowid}

least-values : (last : Bool) (columns : List (Collation × Bool)) (n : ℕ) → length columns + 1 ≤ n → (if last then length columns + 1 else length columns) ≤ n
least-values true columns n low = low
least-values false columns n low = omega (arith, low)

-- an entry of the index has whatever values are compared
pub entry-columns : (alike : KeyOrder) (bytes : List ℕ) → IsEntry (with_rowid alike) bytes → IsEntry alike bytes
entry-columns alike bytes entry = record { values = entry.values; is_record = entry.is_record; long = least-values alike.rowid_last alike.columns (length entry.values) entry.long }

-- The order of the index itself, and one by its columns.
module _ (order alike : KeyOrder) (columns : order.columns ≡ alike.columns) (last : order.rowid_last ≡ true) where
  order-is : order ≡ with_rowid alike
  order-is = λ i. record { columns = columns i; rowid_last = last i }

  pub alike-rises : (members : List Member) → IsRising order members → IsRising (with_rowid alike) members
  alike-rises members rises = subst (λ (o : KeyOrder). IsRising o members) order-is rises

  pub alike-entry : (bytes : List ℕ) → IsEntry order bytes → IsEntry alike bytes
  alike-entry bytes entry = entry-columns alike bytes (subst (λ (o : KeyOrder). IsEntry o bytes) order-is entry)

-- What an answer says of an entry whose values are known.
module _ (alike : KeyOrder) (index : Index) (of : alike.columns ≡ order_of index) (payload : List ℕ) (entry : List Value) (is : IsRecord payload entry) (members : List Member) where
  many : length alike.columns ≡ length index.columns
  many = ap length of ∙ length-map index.columns (λ (column : ℕ × Collation × Bool). (column.1, column.2))

  -- one that agrees stands there, and no NULL is among the columns
  pub alike-found : TellsAlike alike payload members true → (has_null index entry ≡ false) × HasEqual alike payload members
  alike-found found = (subst (λ (n : ℕ). list_any is_null (take n entry) ≡ false) many (found.0 entry is), found.1)

  -- none does, or a NULL is among them
  pub alike-missed : TellsAlike alike payload members false → (¬ (has_null index entry ≡ false)) ⊎ (¬ HasEqual alike payload members)
  alike-missed missed =
      elim (decide (has_null index entry)) [
        | inl null ↦ inl (λ none. true-false (has_null index entry) null none)
        | inr none ↦ inr (λ equal. missed (
          λ values other. subst (λ (v : List Value). list_any is_null (take (length alike.columns) v) ≡ false) (record-one payload entry values is other)
              (subst⁻¹ (λ (n : ℕ). list_any is_null (take n entry) ≡ false) many none),
          equal,
        ))
      ]
