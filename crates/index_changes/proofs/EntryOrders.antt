-- How entries of rows compare behind their last column.
use Rattle.std.proofs.Common.{◌≡◌, ℕ, ℤ, ◌&&◌, ◌<◌, Bool, true, false, List, [], ◌∷◌, length, refl, sym, ap, ap₂, ◌∙◌, arith}
use Rattle.std.specs.Ordering.{is_eq, int_cmp, nat_cmp, ordering_then}
use Rattle.std.specs.declared.cmp.Ordering.{Ordering}
use Rattle.rbu_value.specs.declared.order.Collation.{Collation}
use Rattle.rbu_value.specs.declared.order.Collation.TheVariants.{Binary}
use Rattle.rbu_value.specs.declared.value.Value.{Value}
use Rattle.rbu_value.specs.declared.value.Value.TheVariants.{Int}
use Rattle.rbu_value.specs.Order.{value_cmp}
use Rattle.rbu_value.specs.OrderLaws.{value_cmp-integers}
use Rattle.schema_spec.specs.declared.schema.Table.{Table}
use Rattle.schema_spec.specs.declared.schema.Index.{Index}
use Rattle.database_spec.specs.Keys.{columns_cmp, order_of, last_value}
use Rattle.prepared_spec.specs.Tables.{same_values}
use Rattle.prepared_spec.specs.StepFaults.{change_cmp}
use Rattle.prepared_laws.specs.ChangesMadeLaws.{last-is}
use Rattle.index_changes.specs.declared.due.Due.{Due}
use Rattle.index_changes.specs.declared.due.Due.TheVariants.{Goes, Comes}
use Rattle.index_changes.specs.Pairs.{row_in, entry_over, order_over}
use Rattle.index_changes.specs.Dues.{due_row, due_rank, entry_in, change_of}

module _ (table : Table) (index : Index) where
  lasts : (a b : ℤ × List Value) → int_cmp a.0 b.0 ≡ value_cmp Binary (last_value (order_of index) (entry_in table index a)) (last_value (order_of index) (entry_in table index b))
  lasts a b = sym (ap₂ (value_cmp Binary) (last-is index (row_in table a)) (last-is index (row_in table b)) ∙ value_cmp-integers Binary a.0 b.0)

  -- changes compare by the columns of their rows, then by what they are, then by rowid
  pub due-compares : (a b : Due) (columns : Ordering) → columns ≡ columns_cmp (order_of index) (entry_in table index (due_row a)) (entry_in table index (due_row b))
      → ordering_then columns (ordering_then (nat_cmp (due_rank a) (due_rank b)) (int_cmp (due_row a).0 (due_row b).0)) ≡ change_cmp index (change_of table index a) (change_of table index b)
  due-compares (Goes x) (Goes y) columns e = ap₂ ordering_then e (ap (ordering_then (nat_cmp 0 0)) (lasts x.now y.now))
  due-compares (Goes x) (Comes y) columns e = ap₂ ordering_then e (ap (ordering_then (nat_cmp 0 1)) (lasts x.now y.now))
  due-compares (Comes x) (Goes y) columns e = ap₂ ordering_then e (ap (ordering_then (nat_cmp 1 0)) (lasts x.now y.now))
  due-compares (Comes x) (Comes y) columns e = ap₂ ordering_then e (ap (ordering_then (nat_cmp 1 1)) (lasts x.now y.now))

  pub due-compared : (a b : Due) (columns : List (ℕ × Collation × Bool)) (first second third fourth : ℤ × List Value) (m n : ℕ) (by_columns by_ranks by_rowids rest whole : Ordering)
      → columns ≡ index.columns → first ≡ due_row a → second ≡ due_row b → third ≡ due_row a → fourth ≡ due_row b → m ≡ due_rank a → n ≡ due_rank b
      → by_columns ≡ columns_cmp (order_over columns) (entry_over columns (row_in table first)) (entry_over columns (row_in table second)) → by_ranks ≡ nat_cmp m n → by_rowids ≡ int_cmp third.0 fourth.0
      → rest ≡ ordering_then by_ranks by_rowids → whole ≡ ordering_then by_columns rest → whole ≡ change_cmp index (change_of table index a) (change_of table index b)
  due-compared a b columns first second third fourth m n by_columns by_ranks by_rowids rest whole all one two three four five six compared ranked ordered later is =
      let over : by_columns ≡ columns_cmp (order_of index) (entry_in table index first) (entry_in table index second) =
      compared ∙ ap (λ (cs : List (ℕ × Collation × Bool)). columns_cmp (order_over cs) (entry_over cs (row_in table first)) (entry_over cs (row_in table second))) all in
      let those : by_columns ≡ columns_cmp (order_of index) (entry_in table index (due_row a)) (entry_in table index (due_row b)) =
      over ∙ ap₂ (λ (x y : ℤ × List Value). columns_cmp (order_of index) (entry_in table index x) (entry_in table index y)) one two in
      let ranks : by_ranks ≡ nat_cmp (due_rank a) (due_rank b) = ranked ∙ ap₂ nat_cmp five six in
      let rowids : by_rowids ≡ int_cmp (due_row a).0 (due_row b).0 = ordered ∙ ap₂ (λ (x y : ℤ × List Value). int_cmp x.0 y.0) three four in
      is ∙ ap (ordering_then by_columns) (later ∙ ap₂ ordering_then ranks rowids) ∙ due-compares a b by_columns those

and-true : (t : Bool) → t ≡ (t && true)
and-true true = refl
and-true false = refl

-- entries whose columns are the same are one where their rowids are
pub same-at_end : (table : Table) (a b : ℤ × List Value) (left : List (ℕ × Collation × Bool)) (whole result : Bool) (rowids : Ordering) → length left < 1
    → whole ≡ same_values (entry_over left (row_in table a)) (entry_over left (row_in table b)) → rowids ≡ int_cmp a.0 b.0 → result ≡ is_eq rowids → result ≡ whole
same-at_end table a b [] whole result rowids short goes_on compared is =
    is ∙ ap is_eq (compared ∙ sym (value_cmp-integers Binary a.0 b.0)) ∙ and-true (is_eq (value_cmp Binary (Int a.0) (Int b.0))) ∙ sym goes_on
same-at_end table a b (column ∷ left) whole result rowids short goes_on compared is = absurd (omega (arith, short))
