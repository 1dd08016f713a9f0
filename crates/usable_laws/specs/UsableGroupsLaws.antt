-- The groups of an RBU database without a refusal can be used, and have an outcome, where what is read of the target's tables is plain: crates above cite these facts in their proofs.
use Rattle.std.proofs.Common.{◌≡◌, ℕ, zero, suc, not, Bool, true, false, List, [], ◌∷◌, length, Some, Ok, cond, refl, sym, ap, ◌∙◌, subst}
use Rattle.std.proofs.Math.Path.{subst⁻¹}
use Rattle.std.specs.Prelude.{filter}
use Rattle.std.specs.List.{AllByRecursion, AllZip}
use Rattle.rbu_rows.specs.declared.prepared.Batch.{Batch}
use Rattle.schema_spec.specs.declared.schema.Table.{Table}
use Rattle.schema_spec.specs.Words.{same_name}
use Rattle.tree_spec.specs.Trees.{Member}
use Rattle.tree_spec.specs.Standing.{Sizes, Paged}
use Rattle.database_spec.specs.declared.catalog.NamedEntry.{NamedEntry}
use Rattle.database_spec.specs.declared.catalog.Catalog.{Catalog}
use Rattle.database_spec.specs.Databases.{Database, list_at}
use Rattle.database_spec.specs.Rows.{TableRow, IsRow}
use Rattle.prepared_spec.specs.Inputs.{grouped, batches_in, ArePreparedRows}
use Rattle.prepared_spec.specs.Outcomes.{TransactionResult, IsOutcome}
use Rattle.prepared_spec.specs.Plans.{table_named, target_name}
use Rattle.prepared_laws.specs.TablesMadeLaws.{Apart, HasRowidColumn, HasRowidKey, HaveKeys, IsUsable, all-with}
use Rattle.prepared_laws.specs.TransactionsLaws.{AreUsableGroups, IsReadableIndex, IsUsableGroup, outcome-some}
use Rattle.usable_laws.specs.UsableBatchesLaws.{IsReadyBatch, batches-ready, table_named-same}

-- all batches of a group can be used for one table
pub record IsReadyGroup (catalog : Catalog) (group : List Batch) : Type 0 where
  pub named : NamedEntry
  pub found : table_named (target_name group) catalog.tables ≡ Some named
  pub table : Table
  pub meaning : named.entry.meaning ≡ Ok table
  pub keys : AllByRecursion (λ (batch : Batch). HaveKeys table batch.rows) group
  pub rows : HasRowidKey table → AllByRecursion (λ (batch : Batch). AllByRecursion (IsUsable table) batch.rows) group

all-filtered : {A : Type 0} (P Q : A → Type 0) (p : A → Bool) (xs : List A) → ((x : A) → P x → p x ≡ true → Q x) → AllByRecursion P xs → AllByRecursion Q (filter p xs)
all-filtered P Q p [] each all = tt
all-filtered {A} P Q p (x ∷ xs) each all = by (p x) refl (all-filtered P Q p xs each all.1)
  where
    by : (t : Bool) → p x ≡ t → AllByRecursion Q (filter p xs) → AllByRecursion Q (cond t (x ∷ filter p xs) (filter p xs))
    by true e rest = (each x all.0 e, rest)
    by false e rest = rest

module _ (catalog : Catalog) where
  -- batches of one name are for one table
  one-table : (batch other : Batch) (is : IsReadyBatch catalog batch) (also : IsReadyBatch catalog other) → same_name other.table batch.table ≡ true → also.table ≡ is.table
  one-table batch other is also e =
      let found : Some also.named ≡ Some is.named = sym also.found ∙ table_named-same catalog.tables other.table batch.table e ∙ is.found in
      let named : also.named ≡ is.named = cc in
      let read : Ok also.table ≡ Ok is.table = sym also.meaning ∙ ap (λ (n : NamedEntry). n.entry.meaning) named ∙ is.meaning in
      let same : also.table ≡ is.table = cc in
      same

  group-ready : (batch : Batch) (batches : List Batch) → IsReadyBatch catalog batch → AllByRecursion (IsReadyBatch catalog) batches
      → IsReadyGroup catalog (batch ∷ filter (λ (other : Batch). same_name other.table batch.table) batches)
  group-ready batch batches is all = record {
    named = is.named;
    found = is.found;
    table = is.table;
    meaning = is.meaning;
    keys = (
      is.keys,
      all-filtered (IsReadyBatch catalog) (λ (other : Batch). HaveKeys is.table other.rows) (λ (other : Batch). same_name other.table batch.table) batches
          (λ other also e. subst (λ (t : Table). HaveKeys t other.rows) (one-table batch other is also e) also.keys) all,
    );
    rows = λ shape. (
      is.rows shape,
      all-filtered (IsReadyBatch catalog) (λ (other : Batch). AllByRecursion (IsUsable is.table) other.rows) (λ (other : Batch). same_name other.table batch.table) batches
          (λ other also e. subst (λ (t : Table). HasRowidKey t → AllByRecursion (IsUsable t) other.rows) (one-table batch other is also e) also.rows shape) all,
    );
  }

  groups-ready : (n : ℕ) (batches : List Batch) → AllByRecursion (IsReadyBatch catalog) batches → AllByRecursion (IsReadyGroup catalog) (grouped n batches)
  groups-ready zero batches all = tt
  groups-ready (suc n) [] all = tt
  groups-ready (suc n) (batch ∷ batches) all = (
    group-ready batch batches all.0 all.1,
    groups-ready n (filter (λ (other : Batch). not (same_name other.table batch.table)) batches)
        (all-filtered (IsReadyBatch catalog) (IsReadyBatch catalog) (λ (other : Batch). not (same_name other.table batch.table)) batches (λ other also e. also) all.1),
  )

-- A targeted table is plain: its text has a rowid column and a key as a table has them; its members are rows with rowids that differ, and those of its indexes are entries.
pub record IsPlainTarget (lists : List (ℕ × List Member)) (named : NamedEntry) (table : Table) : Type 0 where
  pub column : HasRowidColumn table
  pub key : HasRowidKey table
  pub old : List TableRow
  pub old_rows : AllZip (IsRow table) (list_at lists named.entry.root) old
  pub apart : Apart old
  pub indexes : AllByRecursion (IsReadableIndex lists) named.entry.indexes

-- and so is the table of a group, whichever text it has
abbrev pub HasPlainTarget : Catalog → List (ℕ × List Member) → List Batch → Type 0
HasPlainTarget catalog lists group =
    (named : NamedEntry) (table : Table) → table_named (target_name group) catalog.tables ≡ Some named → named.entry.meaning ≡ Ok table → IsPlainTarget lists named table

module _ (catalog : Catalog) (lists : List (ℕ × List Member)) where
  group-usable : (group : List Batch) → IsReadyGroup catalog group → HasPlainTarget catalog lists group → (named : NamedEntry) × (table_named (target_name group) catalog.tables ≡ Some named) × IsUsableGroup lists named group
  group-usable group is plain =
      let target = plain is.named is.table is.found is.meaning in (
        is.named,
        is.found,
        record {
          table = is.table;
          meaning = is.meaning;
          column = target.column;
          key = target.key;
          old = target.old;
          old_rows = target.old_rows;
          apart = target.apart;
          keys = is.keys;
          rows = is.rows target.key;
          indexes = target.indexes;
        },
      )

  -- prepared rows without a refusal are groups that can be used
  pub prepared-usable : (sizes : Sizes) (base : Paged) (rbu : Catalog) (groups : List (List Batch)) → ArePreparedRows sizes base catalog rbu groups → AllByRecursion (HasPlainTarget catalog lists) groups
      → AreUsableGroups catalog lists groups
  prepared-usable sizes base rbu groups (inputs, are, right, e) plain =
      all-with (IsReadyGroup catalog) (HasPlainTarget catalog lists) (λ (group : List Batch). (named : NamedEntry) × (table_named (target_name group) catalog.tables ≡ Some named) × IsUsableGroup lists named group) groups group-usable
      (subst⁻¹ (AllByRecursion (IsReadyGroup catalog)) e (groups-ready catalog (length (batches_in inputs)) (batches_in inputs) (batches-ready sizes base catalog rbu inputs are right))) plain

-- and so they have an outcome
pub prepared-outcome : (sizes : Sizes) (base : Paged) (catalog rbu : Catalog) (old : Database) (groups : List (List Batch)) → ArePreparedRows sizes base catalog rbu groups
    → AllByRecursion (HasPlainTarget catalog old.lists) groups → (result : TransactionResult) × IsOutcome catalog old groups result
prepared-outcome sizes base catalog rbu old groups are plain = outcome-some catalog old groups (prepared-usable catalog old.lists sizes base rbu groups are plain)
