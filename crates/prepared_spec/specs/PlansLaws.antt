-- Prepared rows have one plan over a database: crates above cite these facts in their proofs.
use Rattle.std.proofs.Common.{◌≡◌, ℕ, ℤ, ◌+◌, ◌<ℤ◌, false, List, [], ◌∷◌, ◌++◌, map, Option, Some, Result, Ok, sym, ap, ap₂, ◌∙◌, inl, inr, arith}
use Rattle.std.proofs.Math.Path.{subst⁻¹}
use Rattle.std.specs.Prelude.{filter_map}
use Rattle.std.specs.List.{AllZip}
use Rattle.std.proofs.lemmas.Int.{ints}
use Rattle.std.specs.Ordering.{ordering_then, ordering_reverse, nat_cmp}
use Rattle.std.specs.Cmp.{nat_cmp_total}
use Rattle.std.specs.declared.cmp.Ordering.{Ordering}
use Rattle.std.specs.declared.cmp.Ordering.TheVariants.{Less, Greater}
use Rattle.rbu_value.specs.declared.order.Collation.{Collation}
use Rattle.rbu_value.specs.declared.order.Collation.TheVariants.{Binary}
use Rattle.rbu_value.specs.Order.{value_cmp}
use Rattle.rbu_value.specs.OrderLaws.{value_cmp-total}
use Rattle.common_spec.specs.ReadingLaws.{IsOne}
use Rattle.rbu_rows.specs.declared.prepared.Prepared.{Prepared}
use Rattle.rbu_rows.specs.declared.prepared.Batch.{Batch}
use Rattle.schema_spec.specs.declared.schema.SqlFault.{SqlFault}
use Rattle.schema_spec.specs.declared.schema.Table.{Table}
use Rattle.schema_spec.specs.declared.schema.Index.{Index}
use Rattle.tree_spec.specs.Trees.{Member}
use Rattle.database_spec.specs.declared.catalog.NamedEntry.{NamedEntry}
use Rattle.database_spec.specs.declared.catalog.Catalog.{Catalog}
use Rattle.database_spec.specs.Rows.{TableRow, IsRow}
use Rattle.database_spec.specs.RowsLaws.{row-one}
use Rattle.database_spec.specs.Keys.{columns_cmp, order_of, last_value}
use Rattle.database_spec.specs.KeysLaws.{columns-reverse, reverse-then}
use Rattle.database_spec.specs.ListsLaws.{beside-one, order-one, sorted-one}
use Rattle.database_spec.specs.Databases.{list_at}
use Rattle.prepared_spec.specs.declared.violation.Violation.{Violation}
use Rattle.prepared_spec.specs.declared.violation.Change.{Change}
use Rattle.prepared_spec.specs.declared.violation.Change.TheVariants.{Remove, Add}
use Rattle.prepared_spec.specs.RowKeys.{key_collations, key_cmp, IsInKeyOrder}
use Rattle.prepared_spec.specs.Tables.{row_after, new_rows, count_new, greatest_of, IsAfterBatch, IsAfterBatches}
use Rattle.prepared_spec.specs.StepFaults.{changed_entry, change_rank, change_cmp, AreChanges, IsChangeFault}
use Rattle.prepared_spec.specs.Plans.{batch_faults, AreFaults, IsIndexPlan, IsTablePlan, IsPlanOf, ArePlans}

turned : (o p : Ordering) → o ≡ ordering_reverse p → o ≡ Less → p ≡ Less → ⊥
turned o p e x y = let h : Less ≡ Greater = sym x ∙ e ∙ ap ordering_reverse y in let no : ⊥ = cc in no

-- prepared rows have one order by their keys
pub key_order-one : (table : Table) (rows : List Prepared) → IsOne (IsInKeyOrder table rows)
key_order-one table rows a b p q =
    let columns = map (λ (collation : Collation). (collation, false)) (key_collations table) in
    order-one (λ (x y : Prepared). key_cmp table x.key y.key ≡ Less) (λ x y. turned (key_cmp table x.key y.key) (key_cmp table y.key x.key) (columns-reverse columns x.key y.key)) rows a b
    (p.all, p.sorted) (q.all, q.sorted)

module _ (format : ℕ) (table : Table) (g : ℤ) where
  -- a table has one list of rows after a batch, and after batches
  pub after_batch-one : (taken : ℕ) (before : List TableRow) (rows : List Prepared) → IsOne (IsAfterBatch format table g taken before rows)
  after_batch-one taken before rows a b p q =
      order-one (λ (x y : TableRow). x.rowid <ℤ y.rowid) (λ x y less more. omega (arith, ints, less, more))
      (filter_map (row_after format table rows) before ++ new_rows format table g taken before rows) a b (p.all, p.rise) (q.all, q.rise)

  pub after_batches-one : (taken : ℕ) (before : List TableRow) (batches : List (List Prepared)) → IsOne (IsAfterBatches format table g taken before batches)
  after_batches-one taken before [] a b p q = p ∙ sym q
  after_batches-one taken before (rows ∷ batches) a b (between, is, are) (other, also, too) =
      let same = after_batch-one taken before rows between other is also in
      let more = taken + count_new table before rows in
      after_batches-one more between batches a b are (subst⁻¹ (λ (r : List TableRow). IsAfterBatches format table g more r batches b) same too)

  pub faults-one : (name : List ℕ) (taken : ℕ) (before : List TableRow) (batches : List (List Prepared)) → IsOne (AreFaults format name table g taken before batches)
  faults-one name taken before [] a b p q = p ∙ sym q
  faults-one name taken before (rows ∷ batches) a b (between, later, is, are, e) (other, further, also, too, f) =
      let same = after_batch-one taken before rows between other is also in
      let more = taken + count_new table before rows in
      let there = subst⁻¹ (λ (r : List TableRow). AreFaults format name table g more r batches further) same too in
      e ∙ ap (λ (l : List (List (Option Violation))). batch_faults name table g taken before rows ∷ l) (faults-one name more between batches later further are there) ∙ sym f

-- two changes turned round compare the other way
change-reverse : (index : Index) (a b : Change) → change_cmp index a b ≡ ordering_reverse (change_cmp index b a)
change-reverse index a b =
    let order = order_of index in
    let x = changed_entry a in
    let y = changed_entry b in
    let ranks = nat_cmp (change_rank b) (change_rank a) in
    let lasts = value_cmp Binary (last_value order y) (last_value order x) in
    ap₂ ordering_then (columns-reverse order x y)
    (ap₂ ordering_then (nat_cmp_total.antisymm (change_rank a) (change_rank b)) ((value_cmp-total Binary).antisymm (last_value order x) (last_value order y)) ∙ sym (reverse-then ranks lasts))
    ∙ sym (reverse-then (columns_cmp order y x) (ordering_then ranks lasts))

-- an index has one list of changes
pub changes-one : (index : Index) (old new : List TableRow) → IsOne (AreChanges index old new)
changes-one index old new a b p q =
    sorted-one (λ (x y : Change). change_cmp index x y ≡ Less) (λ x y. turned (change_cmp index x y) (change_cmp index y x) (change-reverse index x y)) a b p.sorted q.sorted
    (λ change has. q.all change (p.only change has)) (λ change has. p.all change (q.only change has))

change_fault-one : (index : Index) (old new : List TableRow) (change : Change) → IsOne (IsChangeFault index old new change)
change_fault-one index old new (Remove entry) a b p q = p ∙ sym q
change_fault-one index old new (Add entry) a b (inl p) (inl q) = p.1 ∙ sym q.1
change_fault-one index old new (Add entry) a b (inl p) (inr q) = absurd (q.0 p.0)
change_fault-one index old new (Add entry) a b (inr p) (inl q) = absurd (p.0 q.0)
change_fault-one index old new (Add entry) a b (inr p) (inr q) = p.1 ∙ sym q.1

pub index_plan-one : (old after : List TableRow) (indexed : ℕ × Result Index SqlFault) → IsOne (IsIndexPlan old after indexed)
index_plan-one old after indexed a b p q =
    let root : a.root ≡ b.root = p.root ∙ sym q.root in
    let read : Ok a.index ≡ Ok b.index = sym p.meaning ∙ q.meaning in
    let index : a.index ≡ b.index = cc in
    let also = subst⁻¹ (λ (i : Index). AreChanges i old after b.changes × AllZip (IsChangeFault i old after) b.changes b.faults) index (q.changes, q.faults) in
    let changes = changes-one a.index old after a.changes b.changes p.changes also.0 in
    let there = subst⁻¹ (λ (c : List Change). AllZip (IsChangeFault a.index old after) c b.faults) changes also.1 in
    let faults = beside-one (IsChangeFault a.index old after) (change_fault-one a.index old after) a.changes a.faults b.faults p.faults there in
    λ i. record { root = root i; index = index i; changes = changes i; faults = faults i }

-- a group has one plan for a table
pub table_plan-one : (format : ℕ) (lists : List (ℕ × List Member)) (named : NamedEntry) (group : List Batch) → IsOne (IsTablePlan format lists named group)
table_plan-one format lists named group a b p q =
    let members = list_at lists named.entry.root in
    let name : a.name ≡ b.name = p.name ∙ sym q.name in
    let root : a.root ≡ b.root = p.root ∙ sym q.root in
    let read : Ok a.table ≡ Ok b.table = sym p.meaning ∙ q.meaning in
    let table : a.table ≡ b.table = cc in
    let old_there = subst⁻¹ (λ (t : Table). AllZip (IsRow t) members b.old) table q.old_rows in
    let old = beside-one (IsRow a.table) (row-one a.table) members a.old b.old p.old_rows old_there in
    let in_order = λ (t : Table) (batch : Batch) (rows : List Prepared). IsInKeyOrder t batch.rows rows in
    let ordered_there = subst⁻¹ (λ (t : Table). AllZip (in_order t) group b.batches) table q.ordered in
    let batches = beside-one (in_order a.table) (λ batch. key_order-one a.table batch.rows) group a.batches b.batches p.ordered ordered_there in
    let faults_there =
    subst⁻¹ (λ (n : List ℕ). AreFaults format n a.table (greatest_of a.old) 0 a.old a.batches b.faults) name
    (subst⁻¹ (λ (t : Table). AreFaults format b.name t (greatest_of a.old) 0 a.old a.batches b.faults) table
    (subst⁻¹ (λ (o : List TableRow). AreFaults format b.name b.table (greatest_of o) 0 o a.batches b.faults) old
    (subst⁻¹ (λ (s : List (List Prepared)). AreFaults format b.name b.table (greatest_of b.old) 0 b.old s b.faults) batches q.row_faults))) in
    let faults = faults-one format a.table (greatest_of a.old) a.name 0 a.old a.batches a.faults b.faults p.row_faults faults_there in
    let after_there =
    subst⁻¹ (λ (t : Table). IsAfterBatches format t (greatest_of a.old) 0 a.old a.batches b.after) table
    (subst⁻¹ (λ (o : List TableRow). IsAfterBatches format b.table (greatest_of o) 0 o a.batches b.after) old
    (subst⁻¹ (λ (s : List (List Prepared)). IsAfterBatches format b.table (greatest_of b.old) 0 b.old s b.after) batches q.after_rows)) in
    let after = after_batches-one format a.table (greatest_of a.old) 0 a.old a.batches a.after b.after p.after_rows after_there in
    let indexes_there =
    subst⁻¹ (λ (o : List TableRow). AllZip (IsIndexPlan o a.after) named.entry.indexes b.indexes) old
    (subst⁻¹ (λ (n : List TableRow). AllZip (IsIndexPlan b.old n) named.entry.indexes b.indexes) after q.index_plans) in
    let indexes = beside-one (IsIndexPlan a.old a.after) (index_plan-one a.old a.after) named.entry.indexes a.indexes b.indexes p.index_plans indexes_there in
    λ i. record { name = name i; root = root i; table = table i; old = old i; batches = batches i; faults = faults i; after = after i; indexes = indexes i }

pub plan_of-one : (format : ℕ) (catalog : Catalog) (lists : List (ℕ × List Member)) (group : List Batch) → IsOne (IsPlanOf format catalog lists group)
plan_of-one format catalog lists group a b (named, e, p) (other, f, q) =
    let found : Some named ≡ Some other = sym e ∙ f in
    let same : named ≡ other = cc in
    table_plan-one format lists named group a b p (subst⁻¹ (λ (n : NamedEntry). IsTablePlan format lists n group b) same q)

-- groups have one list of plans
pub plans-one : (format : ℕ) (catalog : Catalog) (lists : List (ℕ × List Member)) (groups : List (List Batch)) → IsOne (ArePlans format catalog lists groups)
plans-one format catalog lists groups = beside-one (IsPlanOf format catalog lists) (plan_of-one format catalog lists) groups
