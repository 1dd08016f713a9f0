-- The order of `data_` tables in a schema and of the rows in them plays no part but by names and keys: crates above cite these facts in their proofs.
use Rattle.std.proofs.Common.{◌≡◌, ℕ, List, [], ◌∷◌, refl, sym, ◌∙◌}
use Rattle.std.proofs.Math.Path.{subst}
use Rattle.std.specs.Prelude.{filter_map, IsPermutation, Some}
use Rattle.std.specs.List.{AllZip}
use Rattle.std.proofs.lemmas.List.Sorted.{IsPermutation-trans}
use Rattle.rbu_rows.specs.declared.prepared.Prepared.{Prepared}
use Rattle.rbu_rows.specs.declared.prepared.Batch.{Batch}
use Rattle.schema_spec.specs.declared.schema.Table.{Table}
use Rattle.tree_spec.specs.Trees.{Member}
use Rattle.tree_spec.specs.Standing.{Sizes, Paged}
use Rattle.database_spec.specs.declared.catalog.NamedEntry.{NamedEntry}
use Rattle.database_spec.specs.declared.catalog.Catalog.{Catalog}
use Rattle.database_spec.specs.Databases.{Database}
use Rattle.prepared_spec.specs.declared.input_fault.InputFault.{InputFault}
use Rattle.prepared_spec.specs.RowKeys.{IsInKeyOrder}
use Rattle.prepared_spec.specs.Plans.{TablePlan, IsTablePlan, table_named, target_name, IsPlanOf, ArePlans}
use Rattle.prepared_spec.specs.DataTables.{DataTable, data_table, AreDataTables}
use Rattle.prepared_spec.specs.Inputs.{Input, AreInputs, ArePreparedRows, HasInputFault}
use Rattle.prepared_spec.specs.Outcomes.{format_in, IsMid, TransactionResult, IsOutcome}

-- another catalog has the same `data_` tables, in another order
abbrev pub HasSameTables : Catalog → Catalog → Type 0
HasSameTables rbu other = IsPermutation (filter_map data_table other.tables) (filter_map data_table rbu.tables)

module _ (sizes : Sizes) (base : Paged) (catalog : Catalog) (rbu other : Catalog) (same : HasSameTables rbu other) where
  tables-reordered : (tables : List DataTable) → AreDataTables rbu tables → AreDataTables other tables
  tables-reordered tables are = record {
    all = IsPermutation-trans (filter_map data_table other.tables) (filter_map data_table rbu.tables) tables same are.all;
    sorted = are.sorted;
  }

  inputs-reordered : (inputs : List Input) → AreInputs sizes base catalog rbu inputs → AreInputs sizes base catalog other inputs
  inputs-reordered inputs are = record {
    tables = are.tables;
    are_tables = tables-reordered are.tables are.are_tables;
    parts = are.parts;
    are_parts = are.are_parts;
    inputs_are = are.inputs_are;
  }

  -- it holds the same prepared rows, or is refused in the same way
  pub prepared_rows-reordered : (groups : List (List Batch)) → ArePreparedRows sizes base catalog rbu groups → ArePreparedRows sizes base catalog other groups
  prepared_rows-reordered groups (inputs, are, right, e) = (inputs, inputs-reordered inputs are, right, e)

  pub input_fault-reordered : (fault : InputFault) → HasInputFault sizes base catalog rbu fault → HasInputFault sizes base catalog other fault
  input_fault-reordered fault (inputs, are, first) = (inputs, inputs-reordered inputs are, first)

-- another batch is for the same table, and has the same rows in another order
abbrev pub HasSameRows : Batch → Batch → Type 0
HasSameRows batch other = (batch.table ≡ other.table) × IsPermutation other.rows batch.rows

abbrev pub HaveSameRows : List (List Batch) → List (List Batch) → Type 0
HaveSameRows groups others = AllZip (AllZip HasSameRows) groups others

target-reordered : (group other : List Batch) → AllZip HasSameRows group other → target_name group ≡ target_name other
target-reordered [] [] same = refl
target-reordered [] (o ∷ other) same = absurd same
target-reordered (b ∷ group) [] same = absurd same
target-reordered (b ∷ group) (o ∷ other) same = same.0.0

ordered-reordered : (table : Table) (group other : List Batch) (ordered : List (List Prepared)) → AllZip HasSameRows group other → AllZip (λ batch rows. IsInKeyOrder table batch.rows rows) group ordered
    → AllZip (λ batch rows. IsInKeyOrder table batch.rows rows) other ordered
ordered-reordered table [] [] ordered same are = are
ordered-reordered table [] (o ∷ other) ordered same are = absurd same
ordered-reordered table (b ∷ group) [] ordered same are = absurd same
ordered-reordered table (b ∷ group) (o ∷ other) [] same are = absurd are
ordered-reordered table (b ∷ group) (o ∷ other) (rows ∷ ordered) same are = (
  record { all = IsPermutation-trans o.rows b.rows rows same.0.1 are.0.all; sorted = are.0.sorted },
  ordered-reordered table group other ordered same.1 are.1,
)

module _ (format : ℕ) (catalog : Catalog) (lists : List (ℕ × List Member)) where
  plan-reordered : (group other : List Batch) (plan : TablePlan) → AllZip HasSameRows group other → IsPlanOf format catalog lists group plan → IsPlanOf format catalog lists other plan
  plan-reordered group other plan same (named, found, is) = (
    named,
    subst (λ (name : List ℕ). table_named name catalog.tables ≡ Some named) (target-reordered group other same) found,
    record {
      name = is.name;
      root = is.root;
      meaning = is.meaning;
      old_rows = is.old_rows;
      ordered = ordered-reordered plan.table group other plan.batches same is.ordered;
      row_faults = is.row_faults;
      after_rows = is.after_rows;
      index_plans = is.index_plans;
    },
  )

  pub plans-reordered : (groups others : List (List Batch)) (plans : List TablePlan) → HaveSameRows groups others → ArePlans format catalog lists groups plans → ArePlans format catalog lists others plans
  plans-reordered [] [] plans same are = are
  plans-reordered [] (o ∷ others) plans same are = absurd same
  plans-reordered (g ∷ groups) [] plans same are = absurd same
  plans-reordered (g ∷ groups) (o ∷ others) [] same are = absurd are
  plans-reordered (g ∷ groups) (o ∷ others) (plan ∷ plans) same are = (plan-reordered g o plan same.0 are.0, plans-reordered groups others plans same.1 are.1)

-- the outcome is the same, and so is each database midway
pub outcome-reordered : (catalog : Catalog) (old : Database) (groups others : List (List Batch)) (result : TransactionResult) → HaveSameRows groups others
    → IsOutcome catalog old groups result → IsOutcome catalog old others result
outcome-reordered catalog old groups others result same is =
    record { plans = is.plans; are_plans = plans-reordered (format_in old) catalog old.lists groups others is.plans same is.are_plans; is_result = is.is_result }

pub mid-reordered : (catalog : Catalog) (old mid : Database) (groups others : List (List Batch)) (n : ℕ) → HaveSameRows groups others → IsMid catalog old groups n mid → IsMid catalog old others n mid
mid-reordered catalog old mid groups others n same is = record {
  plans = is.plans;
  are_plans = plans-reordered (format_in old) catalog old.lists groups others is.plans same is.are_plans;
  trees = is.trees;
  are_trees = is.are_trees;
  header = is.header;
  lists = is.lists;
}
