-- The members of an index that is the projection of its table are in order: crates above cite these facts in their proofs.
use Rattle.std.proofs.Common.{◌≡◌, ℕ, zero, suc, ◌+◌, ◌<◌, ◌≤◌, Bool, true, List, [], ◌∷◌, map, length, slice_index_or, refl, ap, ◌∙◌, subst, arith, length-append}
use Rattle.std.proofs.lemmas.List.{length-map}
use Rattle.std.proofs.lemmas.List.Sorted.{Contains-permutation, IsPermutation-sym}
use Rattle.std.specs.List.{AllByRecursion, AllPairs, AllZip, Contains}
use Rattle.std.specs.declared.cmp.Ordering.TheVariants.{Less}
use Rattle.rbu_value.specs.declared.order.Collation.{Collation}
use Rattle.rbu_value.specs.declared.value.Value.{Value}
use Rattle.rbu_value.specs.declared.value.Value.TheVariants.{Int, Null}
use Rattle.format_spec.specs.Record.{IsRecord}
use Rattle.schema_spec.specs.declared.schema.Index.{Index}
use Rattle.tree_spec.specs.Trees.{Member}
use Rattle.database_spec.specs.Keys.{IsBefore, IsIndexOf, entry_cmp, entry_of, order_of}
use Rattle.database_spec.specs.Rows.{TableRow}
use Rattle.database_spec.specs.RowsLaws.{record-one}
use Rattle.key_order.specs.declared.order.KeyOrder.{KeyOrder}
use Rattle.key_order.specs.Orders.{Compares, IsRising, key_cmp, key_length}

-- what holds at each place of a list holds item by item
each-of : {A : Type 0} (P : A → Type 0) (xs : List A) → ((k : ℕ) (d : A) → k < length xs → P (slice_index_or xs k d)) → AllByRecursion P xs
each-of P [] each = tt
each-of P (x ∷ xs) each = (each zero x (omega arith), each-of P xs (λ k d low. each (suc k) d (omega (arith, low))))

-- The order of an index: its columns, and then the rowid.
pub record IsOrderOf (order : KeyOrder) (index : Index) : Type 0 where
  pub columns : order.columns ≡ order_of index
  pub last : order.rowid_last ≡ true

module _ (order : KeyOrder) (index : Index) (of : IsOrderOf order index) where
  compares-is : (a b : List Value) → key_cmp order a b ≡ entry_cmp (order_of index) a b
  compares-is a b = ap (λ (o : KeyOrder). key_cmp o a b) (λ i. record { columns = of.columns i; rowid_last = of.last i })

  length-is : key_length order ≡ length (order_of index) + 1
  length-is = ap key_length (λ i. let o : KeyOrder = record { columns = of.columns i; rowid_last = of.last i } in o)

  -- the entry of a row has a value for each column, and the rowid
  abbrev IsLong : List Value → Type 0
  IsLong entry = key_length order ≤ length entry

  entry-many : (row : TableRow) → length (entry_of index row) ≡ length (order_of index) + 1
  entry-many row =
      let pair : ℕ × Collation × Bool → Collation × Bool = λ column. (column.1, column.2) in
      let value : ℕ × Collation × Bool → Value = λ column. slice_index_or row.values column.0 Null in
      omega (arith, length-map index.columns pair, length-map index.columns value, length-append (map value index.columns) (Int row.rowid ∷ []))

  rows-long : (rows : List TableRow) (entry : List Value) → Contains (map (entry_of index) rows) entry → IsLong entry
  rows-long [] entry (k, low, is) = absurd (omega (arith, low))
  rows-long (row ∷ rows) entry (zero, low, is) = subst IsLong is (omega (arith, length-is, entry-many row))
  rows-long (row ∷ rows) entry (suc k, low, is) = rows-long rows entry (k, omega (arith, low), is)

  rising-by : (members : List Member) (entries : List (List Value)) → AllZip (λ member entry. IsRecord member.payload entry) members entries → AllPairs (IsBefore index) entries → ((entry : List Value) → Contains entries entry → IsLong entry)
      → IsRising order members
  rising-by [] [] decoded sorted long = tt
  rising-by [] (e ∷ entries) decoded sorted long = tt
  rising-by (m ∷ members) [] decoded sorted long = absurd decoded
  rising-by (m ∷ members) (e ∷ entries) decoded sorted long = (
    record { values = e; is_record = decoded.0; long = long e (zero, omega arith, refl) },
    before members entries decoded.1 (each-of (IsBefore index e) entries (λ k d low. sorted zero (suc k) d (omega arith) (omega (arith, low)))),
    rising-by members entries decoded.1 (λ i j d less low. sorted (suc i) (suc j) d (omega (arith, less)) (omega (arith, low))) (λ entry (k, low, is). long entry (suc k, omega (arith, low), is)),
  )
    where
      before : (members : List Member) (entries : List (List Value)) → AllZip (λ member entry. IsRecord member.payload entry) members entries → AllByRecursion (IsBefore index e) entries
          → AllByRecursion (λ (n : Member). Compares order Less m.payload n.payload) members
      before [] entries zip all = tt
      before (n ∷ members) [] zip all = absurd zip
      before (n ∷ members) (f ∷ entries) zip all = (
        λ a b one two.
            let first = record-one m.payload e a decoded.0 one in
            let second = record-one n.payload f b zip.0 two in
            compares-is a b ∙ subst (λ (v : List Value). entry_cmp (order_of index) v b ≡ Less) first (subst (λ (w : List Value). entry_cmp (order_of index) e w ≡ Less) second all.0),
        before members entries zip.1 all.1,
      )

  -- An index that holds the projection of its table strictly rises, and each of its members is an entry.
  pub index-rises : (rows : List TableRow) (members : List Member) → IsIndexOf index rows members → IsRising order members
  index-rises rows members is =
      rising-by members is.entries is.decoded is.is_projection.sorted
      (λ entry has. rows-long rows entry (Contains-permutation is.entries (map (entry_of index) rows) entry (IsPermutation-sym _ _ is.is_projection.all) has))
