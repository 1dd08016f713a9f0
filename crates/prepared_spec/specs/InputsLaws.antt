-- An RBU database holds one list of prepared rows for a target, or has one first fault: crates above cite these facts in their proofs.
use Rattle.std.proofs.Common.{◌≡◌, ℕ, suc, Bool, List, [], ◌∷◌, ◌++◌, length, Option, Some, None, Ok, sym, ap, ap₂, ◌∙◌, inl, inr}
use Rattle.std.proofs.Math.Path.{subst⁻¹}
use Rattle.std.specs.Prelude.{codes, filter_map, flat_map}
use Rattle.std.specs.List.{AllZip}
use Rattle.std.specs.Ordering.{nat_cmp, ordering_reverse}
use Rattle.std.specs.Cmp.Lexicographic.{slice_cmp, nat_list_cmp_total}
use Rattle.std.specs.declared.cmp.Ordering.TheVariants.{Less, Greater}
use Rattle.rbu_value.specs.declared.value.Value.{Value}
use Rattle.common_spec.specs.ReadingLaws.{IsOne, OrNone-one}
use Rattle.rbu_rows.specs.declared.prepared.Prepared.{Prepared}
use Rattle.rbu_rows.specs.declared.prepared.Batch.{Batch}
use Rattle.rbu_rows.specs.ControlsLaws.{one_control}
use Rattle.schema_spec.specs.declared.schema.Column.{Column}
use Rattle.schema_spec.specs.declared.schema.Table.{Table}
use Rattle.tree_spec.specs.declared.TreeKind.TheVariants.{Table as TableTree}
use Rattle.tree_spec.specs.Trees.{Member}
use Rattle.tree_spec.specs.Standing.{Sizes, Paged}
use Rattle.database_spec.specs.declared.catalog.NamedEntry.{NamedEntry}
use Rattle.database_spec.specs.declared.catalog.Catalog.{Catalog}
use Rattle.database_spec.specs.Walks.{Finding, Finds, Ends, Holds, Breaks, Disorders, Bares}
use Rattle.database_spec.specs.WalksLaws.{walk-one}
use Rattle.database_spec.specs.ListsLaws.{beside-one, order-one}
use Rattle.database_spec.specs.Rows.{TableRow}
use Rattle.database_spec.specs.RowsLaws.{row-one}
use Rattle.prepared_spec.specs.declared.input_fault.InputFault.{InputFault}
use Rattle.prepared_spec.specs.declared.input_fault.InputFault.TheVariants.{ClassChange}
use Rattle.prepared_spec.specs.RowKeys.{key_at}
use Rattle.prepared_spec.specs.DataTables.{DataTable, data_table, AreDataTables}
use Rattle.prepared_spec.specs.PreparedRows.{value_named, in_target_order, control_value, Prepares, IsPrepared, FirstChanged, key_fault, IsWrongRow}
use Rattle.prepared_spec.specs.Inputs.{Opened, Input, Opens, Reads, Closes, IsOpened, IsInputOf, prepared_in, IsTableInput, AreInputs, FirstWrongInput, AllRight, batches_in, grouped, ArePreparedRows, HasInputFault}

-- the `data_` tables have one order
pub data_tables-one : (catalog : Catalog) → IsOne (AreDataTables catalog)
data_tables-one catalog a b p q =
    order-one (λ (x y : DataTable). slice_cmp nat_cmp x.source y.source ≡ Less) (λ x y less more.
    let h : Less ≡ Greater = sym less ∙ nat_list_cmp_total.antisymm x.source y.source ∙ ap ordering_reverse more in let no : ⊥ = cc in no)
    (filter_map data_table catalog.tables) a b (p.all, p.sorted) (q.all, q.sorted)

pub opened-one : (catalog : Catalog) (source : DataTable) → IsOne (IsOpened catalog source)
opened-one catalog source a b p q =
    let found : Some p.named ≡ Some q.named = sym p.found ∙ q.found in
    let named : p.named ≡ q.named = cc in
    let read : Ok a.target ≡ Ok b.target = sym p.target ∙ ap (λ (n : NamedEntry). n.entry.meaning) named ∙ q.target in
    let target : a.target ≡ b.target = cc in
    let also : Ok a.own ≡ Ok b.own = sym p.own ∙ q.own in
    let own : a.own ≡ b.own = cc in
    let source_is : a.source ≡ b.source = p.source_is ∙ sym q.source_is in
    let name : a.name ≡ b.name = p.name_is ∙ ap (λ (n : NamedEntry). n.name) named ∙ sym q.name_is in
    λ i. record { source = source_is i; name = name i; target = target i; own = own i }

prepares-one : (target own : Table) (row : TableRow) → IsOne (Prepares target own row)
prepares-one target own row a b p q =
    let read = one_control (control_value own row) (length target.columns) p.control q.control p.is_control q.is_control in
    let control : a.control ≡ b.control = p.control_is ∙ ap (in_target_order target own) read ∙ sym q.control_is in
    let rowid : a.data_rowid ≡ b.data_rowid = p.data_rowid ∙ sym q.data_rowid in
    let values : a.values ≡ b.values = p.values ∙ sym q.values in
    let key : a.key ≡ b.key = p.key ∙ ap (key_at target.key (value_named own (codes "rbu_rowid") row)) values ∙ sym q.key in
    λ i. record { data_rowid = rowid i; key = key i; values = values i; control = control i }

-- a member prepares one row
pub prepared-one : (target own : Table) (member : Member) → IsOne (IsPrepared target own member)
prepared-one target own member a b (row, is, p) (other, also, q) =
    let same = row-one own member row other is also in
    prepares-one target own row a b p (subst⁻¹ (λ (r : TableRow). Prepares target own r b) same q)

input_of-one : (opened : Opened) (finding : Finding) → IsOne (IsInputOf opened finding)
input_of-one opened (Holds page member) a b (prepared, is, e) (other, also, f) =
    e ∙ ap (λ (p : Option Prepared). Reads opened member p ∷ []) (OrNone-one (IsPrepared opened.target opened.own member) (prepared-one opened.target opened.own member) prepared other is also) ∙ sym f
input_of-one opened (Breaks page rule) a b p q = p ∙ sym q
input_of-one opened (Disorders page) a b p q = p ∙ sym q
input_of-one opened (Finds page) a b p q = p ∙ sym q
input_of-one opened (Ends page depth) a b p q = p ∙ sym q
input_of-one opened (Bares page) a b p q = p ∙ sym q

abbrev closed : DataTable → Opened → List (List Input) → List Input
closed source opened parts = Opens source ∷ (flat_map (λ part. part) parts ++ Closes opened (filter_map prepared_in (flat_map (λ part. part) parts)) ∷ [])

module _ (sizes : Sizes) (base : Paged) (catalog : Catalog) where
  table_input-one : (source : DataTable) → IsOne (IsTableInput sizes base catalog source)
  table_input-one source a b (inl (fault, p, e)) (inl (other, q, f)) = e ∙ sym f
  table_input-one source a b (inl (fault, p, e)) (inr (opened, findings, parts, is, walk, are, f)) = absurd (let h : Some fault ≡ None = sym p ∙ is.faultless in let no : ⊥ = cc in no)
  table_input-one source a b (inr (opened, findings, parts, is, walk, are, e)) (inl (fault, q, f)) = absurd (let h : Some fault ≡ None = sym q ∙ is.faultless in let no : ⊥ = cc in no)
  table_input-one source a b (inr (opened, findings, parts, is, walk, are, e)) (inr (other, others, more, also, too, every, f)) =
      let same = opened-one catalog source opened other is also in
      let found = walk-one sizes base TableTree source.entry.root findings others walk too in
      let there = subst⁻¹ (λ (o : Opened). AllZip (IsInputOf o) others more) same every in
      let here = subst⁻¹ (λ (fs : List Finding). AllZip (IsInputOf opened) fs more) found there in
      let inputs = beside-one (IsInputOf opened) (input_of-one opened) findings parts more are here in
      e ∙ ap₂ (closed source) same inputs ∙ sym f

  pub inputs-one : (rbu : Catalog) → IsOne (AreInputs sizes base catalog rbu)
  inputs-one rbu a b p q =
      let tables = data_tables-one rbu p.tables q.tables p.are_tables q.are_tables in
      let also = subst⁻¹ (λ (t : List DataTable). AllZip (IsTableInput sizes base catalog) t q.parts) tables q.are_parts in
      let parts = beside-one (IsTableInput sizes base catalog) table_input-one p.tables p.parts q.parts p.are_parts also in
      p.inputs_are ∙ ap (flat_map (λ part. part)) parts ∙ sym q.inputs_are

  rights-no_first : (before inputs : List Input) (fault : InputFault) → AllRight catalog before inputs → ¬ FirstWrongInput catalog before inputs fault
  rights-no_first before [] fault p q = q
  rights-no_first before (one ∷ inputs) fault p (inl q) = p.0 fault q
  rights-no_first before (one ∷ inputs) fault p (inr q) = rights-no_first (before ++ one ∷ []) inputs fault p.1 q.1

  -- an RBU database holds one list of prepared rows
  pub prepared_rows-one : (rbu : Catalog) → IsOne (ArePreparedRows sizes base catalog rbu)
  prepared_rows-one rbu a b (inputs, are, right, e) (others, also, too, f) =
      e ∙ ap (λ (i : List Input). grouped (length (batches_in i)) (batches_in i)) (inputs-one rbu inputs others are also) ∙ sym f

  -- and has then no fault
  pub prepared_rows-no_fault : (rbu : Catalog) (groups : List (List Batch)) (fault : InputFault) → ArePreparedRows sizes base catalog rbu groups → ¬ HasInputFault sizes base catalog rbu fault
  prepared_rows-no_fault rbu groups fault (inputs, are, right, e) (others, also, first) =
      let same = inputs-one rbu inputs others are also in
      rights-no_first [] inputs fault right (subst⁻¹ (λ (i : List Input). FirstWrongInput catalog [] i fault) same first)

-- Faults.

class_change-one : (key : List ℕ) (at : ℕ) (columns : List Column) (marks : List Bool) (values : List Value) → IsOne (FirstChanged key at columns marks values)
class_change-one key at [] marks values a b p q = absurd p
class_change-one key at (column ∷ columns) [] values a b p q = absurd p
class_change-one key at (column ∷ columns) (used ∷ marks) [] a b p q = absurd p
class_change-one key at (column ∷ columns) (used ∷ marks) (value ∷ values) a b (inl p) (inl q) = p.1 ∙ sym q.1
class_change-one key at (column ∷ columns) (used ∷ marks) (value ∷ values) a b (inl p) (inr q) = absurd (q.0 p.0)
class_change-one key at (column ∷ columns) (used ∷ marks) (value ∷ values) a b (inr p) (inl q) = absurd (p.0 q.0)
class_change-one key at (column ∷ columns) (used ∷ marks) (value ∷ values) a b (inr p) (inr q) = class_change-one key (suc at) columns marks values a b p.1 q.1

some-apart : {A : Type 0} (o : Option A) (a : A) → o ≡ Some a → o ≡ None → ⊥
some-apart o a p q = let h : Some a ≡ None = sym p ∙ q in let no : ⊥ = cc in no

pub wrong_row-one : (source : List ℕ) (target : Table) (prepared : Prepared) → IsOne (IsWrongRow source target prepared)
wrong_row-one source target prepared a b (inl p) (inl q) = let h : Some a ≡ Some b = sym p ∙ q in cc
wrong_row-one source target prepared a b (inl p) (inr (inl q)) = absurd (some-apart (key_fault source target prepared) a p q.0)
wrong_row-one source target prepared a b (inl p) (inr (inr q)) = absurd (some-apart (key_fault source target prepared) a p q.0)
wrong_row-one source target prepared a b (inr (inl p)) (inl q) = absurd (some-apart (key_fault source target prepared) b q p.0)
wrong_row-one source target prepared a b (inr (inr p)) (inl q) = absurd (some-apart (key_fault source target prepared) b q p.0)
wrong_row-one source target prepared a b (inr (inl (none, (column, p, e)))) (inr (inl (also, (other, q, f)))) =
    e ∙ ap (ClassChange source prepared.data_rowid) (class_change-one _ 0 _ _ _ column other p q) ∙ sym f
wrong_row-one source target prepared a b (inr (inl (none, (column, p, e)))) (inr (inr q)) = absurd (q.1 column p)
wrong_row-one source target prepared a b (inr (inr p)) (inr (inl (also, (other, q, f)))) = absurd (p.1 other q)
wrong_row-one source target prepared a b (inr (inr p)) (inr (inr q)) = p.3 ∙ sym q.3
