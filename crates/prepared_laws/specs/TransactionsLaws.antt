-- A transaction of rows that can be used has an outcome: crates above cite these facts in their proofs.
use Rattle.std.proofs.Common.{◌≡◌, ℕ, ℤ, pos, ◌+ℤ◌, ◌≤ℤ◌, ◌<ℤ◌, Bool, true, false, List, [], ◌∷◌, length, map, Option, Some, None, Result, Ok, if◌then◌else◌, refl, sym, ap, ◌∙◌, subst, arith}
use Rattle.std.proofs.Math.Path.{subst⁻¹}
use Rattle.std.specs.Prelude.{int_lt, slice_index_or}
use Rattle.std.specs.List.{AllByRecursion, AllZip}
use Rattle.std.specs.declared.cmp.Ordering.TheVariants.{Less}
use Rattle.std.proofs.lemmas.Int.{ints}
use Rattle.std.proofs.lemmas.List.{get_or-set_same}
use Rattle.rbu_value.specs.declared.value.Value.{Value}
use Rattle.rbu_value.specs.declared.value.Value.TheVariants.{Null, Int}
use Rattle.rbu_rows.specs.declared.prepared.Prepared.{Prepared}
use Rattle.rbu_rows.specs.declared.prepared.Batch.{Batch}
use Rattle.schema_spec.specs.declared.schema.SqlFault.{SqlFault}
use Rattle.schema_spec.specs.declared.schema.Table.{Table}
use Rattle.schema_spec.specs.declared.schema.Index.{Index}
use Rattle.tree_spec.specs.Trees.{Member}
use Rattle.database_spec.specs.declared.catalog.NamedEntry.{NamedEntry}
use Rattle.database_spec.specs.declared.catalog.Catalog.{Catalog}
use Rattle.database_spec.specs.Rows.{TableRow, with_rowid, IsRow}
use Rattle.database_spec.specs.ListsLaws.{PairsByRecursion}
use Rattle.database_spec.specs.Databases.{Database, list_at}
use Rattle.prepared_spec.specs.declared.violation.Violation.{Violation}
use Rattle.prepared_spec.specs.declared.violation.Change.{Change}
use Rattle.prepared_spec.specs.RowKeys.{has_rowid_key, key_cmp, IsInKeyOrder}
use Rattle.prepared_spec.specs.Tables.{greatest_over, greatest_of}
use Rattle.prepared_spec.specs.StepFaults.{IsChangeFault}
use Rattle.prepared_spec.specs.Plans.{IndexPlan, TablePlan, IsIndexPlan, IsTablePlan, table_named, target_name, IsPlanOf, ArePlans, all_faults, last_fault}
use Rattle.prepared_spec.specs.Outcomes.{format_in, next_header, row_member, Entered, AreEntered, recorded, TreesAfter, with_trees, IsNewIndexList, IsNewTrees, TransactionResult, Violates, Makes, IsOutcome}
use Rattle.prepared_spec.specs.MembersLaws.{decide}
use Rattle.prepared_laws.specs.SortsLaws.{in_order, in_order-all, on-if}
use Rattle.prepared_laws.specs.TablesMadeLaws.{HaveKeys, by_key, key_ordered, key_ordered-is, key_ordered-pairs, Apart, IsFit, HasRowidColumn, HasRowidKey, with_rowid-many, IsReached, IsUsable, AreUsable, after_batches-some, faults-some}
use Rattle.prepared_laws.specs.ChangesMadeLaws.{zip-some, projection-some, changes-some, change_fault-some}

all-of : {A : Type 0} (P : A → Type 0) → ((x : A) → P x) → (xs : List A) → AllByRecursion P xs
all-of P each [] = tt
all-of P each (x ∷ xs) = (each x, all-of P each xs)

-- The old rows.

module _ (table : Table) (has : HasRowidColumn table) where
  row-fit : (member : Member) (row : TableRow) → IsRow table member row → IsFit table row
  row-fit member row is = record {
    many = ap length is.values ∙ with_rowid-many table.rowid_column member.rowid is.stored ∙ is.many;
    keyed = λ column e.
        subst⁻¹ (λ (v : List Value). slice_index_or v column Null ≡ Int row.rowid) is.values
        (subst⁻¹ (λ (o : Option ℕ). slice_index_or (with_rowid o member.rowid is.stored) column Null ≡ Int row.rowid) e
        (get_or-set_same is.stored column (Int member.rowid) Null (omega (arith, has column e, is.many)) ∙ ap Int (sym is.rowid)));
  }

  rows-fit : (members : List Member) (rows : List TableRow) → AllZip (IsRow table) members rows → AllByRecursion (IsFit table) rows
  rows-fit [] [] are = tt
  rows-fit [] (row ∷ rows) are = absurd are
  rows-fit (m ∷ members) [] are = absurd are
  rows-fit (m ∷ members) (row ∷ rows) are = (row-fit m row are.0, rows-fit members rows are.1)

abbrev greater : ℤ → ℤ → ℤ
greater g z = if int_lt g z then z else g

greater-first : (g z : ℤ) → g ≤ℤ greater g z
greater-first g z = on-if (λ m. g ≤ℤ m) (int_lt g z) z g (λ e. let less : g <ℤ z = grind (arith, ints, e) in omega (arith, ints, less)) (λ e. omega (arith, ints))

greater-second : (g z : ℤ) → z ≤ℤ greater g z
greater-second g z = on-if (λ m. z ≤ℤ m) (int_lt g z) z g (λ e. omega (arith, ints)) (λ e. let less : z ≤ℤ g = grind (arith, ints, e) in less)

greatest-least : (g : ℤ) (rows : List TableRow) → g ≤ℤ greatest_over g rows
greatest-least g [] = omega (arith, ints)
greatest-least g (row ∷ rows) = let first = greater-first g row.rowid in let rest = greatest-least (greater g row.rowid) rows in omega (arith, ints, first, rest)

greatest-all : (g : ℤ) (rows : List TableRow) → AllByRecursion (λ (row : TableRow). row.rowid ≤ℤ greatest_over g rows) rows
greatest-all g [] = tt
greatest-all g (row ∷ rows) =
    let first = greater-second g row.rowid in
    let rest = greatest-least (greater g row.rowid) rows in
    (omega (arith, ints, first, rest), greatest-all (greater g row.rowid) rows)

weaker : {A : Type 0} (P Q : A → Type 0) (xs : List A) → ((x : A) → P x → Q x) → AllByRecursion P xs → AllByRecursion Q xs
weaker P Q [] step all = tt
weaker P Q (x ∷ xs) step all = (step x all.0, weaker P Q xs step all.1)

-- What a group has to have.

-- the entries of an index decode
pub record IsReadableIndex (lists : List (ℕ × List Member)) (indexed : ℕ × Result Index SqlFault) : Type 0 where
  pub index : Index
  pub meaning : indexed.1 ≡ Ok index
  pub entered : List Entered
  pub are_entered : AreEntered (list_at lists indexed.0) entered

-- A table and a group can be used: the texts are read; the records of the table are rows with rowids that differ, and those of its indexes are entries; and the prepared rows of each batch have a value for each column, and keys of which no two are one.
pub record IsUsableGroup (lists : List (ℕ × List Member)) (named : NamedEntry) (group : List Batch) : Type 0 where
  pub table : Table
  pub meaning : named.entry.meaning ≡ Ok table
  pub column : HasRowidColumn table
  pub key : HasRowidKey table
  pub old : List TableRow
  pub old_rows : AllZip (IsRow table) (list_at lists named.entry.root) old
  pub apart : Apart old
  pub keys : AllByRecursion (λ (batch : Batch). HaveKeys table batch.rows) group
  pub rows : AllByRecursion (λ (batch : Batch). AllByRecursion (IsUsable table) batch.rows) group
  pub indexes : AllByRecursion (IsReadableIndex lists) named.entry.indexes

abbrev pub AreUsableGroups : Catalog → List (ℕ × List Member) → List (List Batch) → Type 0
AreUsableGroups catalog lists groups =
    AllByRecursion (λ (group : List Batch). (named : NamedEntry) × (table_named (target_name group) catalog.tables ≡ Some named) × IsUsableGroup lists named group) groups

module _ (format : ℕ) (lists : List (ℕ × List Member)) where
  -- what is done with an index, and what it has to hold
  record HasIndexPlan (old after : List TableRow) (indexed : ℕ × Result Index SqlFault) : Type 0 where
    plan : IndexPlan
    is_plan : IsIndexPlan old after indexed plan
    members : List Member
    is_new : IsNewIndexList format lists after plan members

  index_plan-some : (old after : List TableRow) → Apart old → Apart after → (indexed : ℕ × Result Index SqlFault) → IsReadableIndex lists indexed → HasIndexPlan old after indexed
  index_plan-some old after p q indexed is =
      let changed = changes-some is.index old after p q in
      let faults = zip-some (IsChangeFault is.index old after) changed.0 (all-of (λ (change : Change). (fault : Option Violation) × IsChangeFault is.index old after change fault) (change_fault-some is.index old after) changed.0) in
      let projected = projection-some is.index after q in record {
        plan = record { root = indexed.0; index = is.index; changes = changed.0; faults = faults.0 };
        is_plan = record { root = refl; meaning = is.meaning; changes = changed.1; faults = faults.1 };
        members = map (λ (entry : List Value). (recorded format is.entered entry).member) projected.0;
        is_new = record { before = is.entered; are_before = is.are_entered; entries = projected.0; projection = projected.1; members_are = refl };
      }

  record HaveIndexPlans (old after : List TableRow) (indexes : List (ℕ × Result Index SqlFault)) : Type 0 where
    plans : List IndexPlan
    are_plans : AllZip (IsIndexPlan old after) indexes plans
    members : List (List Member)
    are_new : AllZip (IsNewIndexList format lists after) plans members

  index_plans-some : (old after : List TableRow) → Apart old → Apart after → (indexes : List (ℕ × Result Index SqlFault)) → AllByRecursion (IsReadableIndex lists) indexes → HaveIndexPlans old after indexes
  index_plans-some old after p q [] all = record { plans = []; are_plans = tt; members = []; are_new = tt }
  index_plans-some old after p q (indexed ∷ indexes) all =
      let here = index_plan-some old after p q indexed all.0 in
      let rest = index_plans-some old after p q indexes all.1 in
      record { plans = here.plan ∷ rest.plans; are_plans = (here.is_plan, rest.are_plans); members = here.members ∷ rest.members; are_new = (here.is_new, rest.are_new) }

  abbrev ordered : Table → List Batch → List (List Prepared)
  ordered table group = map (λ (batch : Batch). key_ordered table batch.rows) group

  ordered-are : (table : Table) (group : List Batch) → AllByRecursion (λ (batch : Batch). HaveKeys table batch.rows) group → AllZip (λ (batch : Batch) (rows : List Prepared). IsInKeyOrder table batch.rows rows) group (ordered table group)
  ordered-are table [] all = tt
  ordered-are table (batch ∷ group) all = (key_ordered-is table batch.rows all.0, ordered-are table group all.1)

  module _ (named : NamedEntry) (group : List Batch) (is : IsUsableGroup lists named group) where
    usable : (batches : List Batch) → AllByRecursion (λ (batch : Batch). HaveKeys is.table batch.rows) batches → AllByRecursion (λ (batch : Batch). AllByRecursion (IsUsable is.table) batch.rows) batches
        → AreUsable format is.table is.column is.key (greatest_of is.old) (ordered is.table batches)
    usable [] keys rows = tt
    usable (batch ∷ batches) keys rows = ((in_order-all (by_key is.table) (IsUsable is.table) batch.rows rows.0, key_ordered-pairs is.table batch.rows keys.0), usable batches keys.1 rows.1)

    begins : IsReached is.table (greatest_of is.old) 0 is.old
    begins = record {
      fit = rows-fit is.table is.column (list_at lists named.entry.root) is.old is.old_rows;
      apart = is.apart;
      below = weaker (λ (row : TableRow). row.rowid ≤ℤ greatest_of is.old) (λ (row : TableRow). has_rowid_key is.table ≡ false → row.rowid ≤ℤ (greatest_of is.old +ℤ pos 0)) is.old
          (λ row least e. omega (arith, ints, least)) (greatest-all (pos 0) is.old);
    }

    -- what is done with the table of a group, and what its trees have to hold
    record HasPlan : Type 0 where
      plan : TablePlan
      is_plan : IsTablePlan format lists named group plan
      trees : TreesAfter
      are_new : IsNewTrees format lists plan trees

    plan-some : HasPlan
    plan-some =
        let g = greatest_of is.old in
        let batches = ordered is.table group in
        let can = usable group is.keys is.rows in
        let after = after_batches-some format is.table is.column is.key g 0 is.old batches begins can in
        let faults = faults-some format is.table is.column is.key g named.name 0 is.old batches begins can in
        let indexes = index_plans-some is.old after.0 is.apart after.2.1.apart named.entry.indexes is.indexes in record {
          plan = record { name = named.name; root = named.entry.root; table = is.table; old = is.old; batches = batches; faults = faults.0; after = after.0; indexes = indexes.plans };
          is_plan = record {
            name = refl;
            root = refl;
            meaning = is.meaning;
            old_rows = is.old_rows;
            ordered = ordered-are is.table group is.keys;
            row_faults = faults.1;
            after_rows = after.1;
            index_plans = indexes.are_plans;
          };
          trees = record { table = map row_member after.0; indexes = indexes.members };
          are_new = record { table_is = refl; indexes_are = indexes.are_new };
        }

  record HavePlans (catalog : Catalog) (groups : List (List Batch)) : Type 0 where
    plans : List TablePlan
    are_plans : ArePlans format catalog lists groups plans
    trees : List TreesAfter
    are_new : AllZip (IsNewTrees format lists) plans trees

  plans-some : (catalog : Catalog) (groups : List (List Batch)) → AreUsableGroups catalog lists groups → HavePlans catalog groups
  plans-some catalog [] all = record { plans = []; are_plans = tt; trees = []; are_new = tt }
  plans-some catalog (group ∷ groups) all =
      let named = all.0.0 in
      let here = plan-some named group all.0.2 in
      let rest = plans-some catalog groups all.1 in
      record { plans = here.plan ∷ rest.plans; are_plans = ((named, all.0.1, here.is_plan), rest.are_plans); trees = here.trees ∷ rest.trees; are_new = (here.are_new, rest.are_new) }

-- A transaction of groups that can be used has an outcome: the fault of its last step, or a new database.
pub outcome-some : (catalog : Catalog) (old : Database) (groups : List (List Batch)) → AreUsableGroups catalog old.lists groups → (result : TransactionResult) × IsOutcome catalog old groups result
outcome-some catalog old groups usable = by (last_fault (all_faults have.plans)) refl
  where
    have : HavePlans (format_in old) old.lists catalog groups
    have = plans-some (format_in old) old.lists catalog groups usable

    by : (o : Option Violation) → last_fault (all_faults have.plans) ≡ o → (result : TransactionResult) × IsOutcome catalog old groups result
    by (Some violation) e = (Violates violation, record { plans = have.plans; are_plans = have.are_plans; is_result = e })
    by None e = (
      Makes (record { header = next_header old.header; lists = with_trees old.lists have.plans have.trees }),
      record {
        plans = have.plans;
        are_plans = have.are_plans;
        is_result = (e, record { trees = have.trees; are_trees = have.are_new; header = refl; lists = refl });
      },
    )
