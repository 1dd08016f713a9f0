-- Behind all steps of a transaction the lists are those of its outcome: crates above cite these facts in their proofs.
use Rattle.std.proofs.Common.{◌≡◌, ℕ, ◌-◌, ◌≤◌, List, [], ◌∷◌, length, map, Result, refl, sym, ap, ap₂, ◌∙◌, subst, arith}
use Rattle.std.specs.Prelude.{sum_by}
use Rattle.std.specs.List.{AllZip, AllByRecursion}
use Rattle.std.proofs.lemmas.List.{take_all}
use Rattle.std.proofs.lemmas.List.Sums.{sum_by-cons}
use Rattle.rbu_rows.specs.declared.prepared.Prepared.{Prepared}
use Rattle.rbu_rows.specs.declared.prepared.Batch.{Batch}
use Rattle.schema_spec.specs.declared.schema.SqlFault.{SqlFault}
use Rattle.schema_spec.specs.declared.schema.Index.{Index}
use Rattle.tree_spec.specs.Trees.{Member}
use Rattle.database_spec.specs.declared.catalog.NamedEntry.{NamedEntry}
use Rattle.database_spec.specs.declared.catalog.Catalog.{Catalog}
use Rattle.database_spec.specs.Rows.{TableRow}
use Rattle.database_spec.specs.Keys.{IsProjection}
use Rattle.database_spec.specs.Databases.{Database, list_at}
use Rattle.prepared_spec.specs.declared.violation.Change.{Change}
use Rattle.prepared_spec.specs.Tables.{greatest_of, IsAfter}
use Rattle.prepared_spec.specs.Plans.{IndexPlan, TablePlan, IsIndexPlan, IsTablePlan, ArePlans, row_steps, plan_steps, firsts}
use Rattle.prepared_spec.specs.PlansLaws.{after_batches-one}
use Rattle.prepared_spec.specs.EndLaws.{index-ends}
use Rattle.prepared_spec.specs.Outcomes.{format_in, row_member, Entered, AreEntered, TreesAfter, IsIndexList, beside, IsMidway, AreMidway, with_trees, IsMid, IsNewIndexList, IsNewTrees, IsNew}

-- enough of lists is all of them
firsts-all : {A : Type 0} (n : ℕ) (lists : List (List A)) → sum_by length lists ≤ n → firsts n lists ≡ lists
firsts-all n [] few = refl
firsts-all n (list ∷ lists) few =
    let all = sum_by-cons length list lists in
    ap₂ (λ x xs. x ∷ xs) (take_all n list (omega (arith, few, all))) (firsts-all (n - length list) lists (omega (arith, few, all)))

changes-length : (indexes : List IndexPlan) → sum_by length (map (λ (index : IndexPlan). index.changes) indexes) ≡ sum_by (λ (index : IndexPlan). length index.changes) indexes
changes-length [] = refl
changes-length (index ∷ indexes) =
    let rest = changes-length indexes in
    let left = sum_by-cons length index.changes (map (λ (i : IndexPlan). i.changes) indexes) in
    let right = sum_by-cons (λ (i : IndexPlan). length i.changes) index indexes in omega (arith, rest, left, right)

-- the indexes of a plan held the projection of its old rows
abbrev pub HeldProjections : List (ℕ × List Member) → TablePlan → Type 0
HeldProjections lists plan = AllByRecursion (λ index. (before : List Entered) → AreEntered (list_at lists index.root) before → IsProjection index.index plan.old (map (λ one. one.entry) before)) plan.indexes

module _ (format : ℕ) (lists : List (ℕ × List Member)) where
  indexes-end : (old after : List TableRow) (indexed : List (ℕ × Result Index SqlFault)) (indexes : List IndexPlan) (members outcome : List (List Member)) → AllZip (IsIndexPlan old after) indexed indexes
      → AllByRecursion (λ index. (before : List Entered) → AreEntered (list_at lists index.root) before → IsProjection index.index old (map (λ one. one.entry) before)) indexes
      → AllZip (IsIndexList format lists) (beside indexes (map (λ (index : IndexPlan). index.changes) indexes)) members → AllZip (IsNewIndexList format lists after) indexes outcome → members ≡ outcome
  indexes-end old after indexed [] [] [] plans held are is = refl
  indexes-end old after indexed [] [] (o ∷ outcome) plans held are is = absurd is
  indexes-end old after indexed [] (m ∷ members) outcome plans held are is = absurd are
  indexes-end old after indexed (index ∷ indexes) [] outcome plans held are is = absurd are
  indexes-end old after indexed (index ∷ indexes) (m ∷ members) [] plans held are is = absurd is
  indexes-end old after [] (index ∷ indexes) (m ∷ members) (o ∷ outcome) plans held are is = absurd plans
  indexes-end old after (one ∷ indexed) (index ∷ indexes) (m ∷ members) (o ∷ outcome) plans held are is =
      ap₂ (λ (x : List Member) (xs : List (List Member)). x ∷ xs)
      (index-ends format index.index old after index.changes (list_at lists index.root) m o plans.0.changes are.0 (held.0 are.0.before are.0.are_before) is.0)
      (indexes-end old after indexed indexes members outcome plans.1 held.1 are.1 is.1)

  trees-end : (n : ℕ) (named : NamedEntry) (group : List Batch) (plan : TablePlan) (trees outcome : TreesAfter) → plan_steps plan ≤ n → IsTablePlan format lists named group plan → HeldProjections lists plan
      → IsMidway format lists n plan trees → IsNewTrees format lists plan outcome → trees ≡ outcome
  trees-end n named group plan trees outcome enough is held mid new =
      let batches = firsts-all n plan.batches (omega (arith, enough)) in
      let rows_there = subst (λ (b : List (List Prepared)). IsAfter format plan.table plan.old b mid.rows) batches mid.rows_are in
      let rows = after_batches-one format plan.table (greatest_of plan.old) 0 plan.old plan.batches mid.rows plan.after rows_there is.after_rows in
      let table : trees.table ≡ outcome.table = mid.table_is ∙ ap (map row_member) rows ∙ sym new.table_is in
      let changes = firsts-all (n - row_steps plan) (map (λ (index : IndexPlan). index.changes) plan.indexes) (omega (arith, enough, changes-length plan.indexes)) in
      let are = subst (λ (c : List (List Change)). AllZip (IsIndexList format lists) (beside plan.indexes c) trees.indexes) changes mid.indexes_are in
      let indexes = indexes-end plan.old plan.after named.entry.indexes plan.indexes trees.indexes outcome.indexes is.index_plans held are new.indexes_are in
      λ i. record { table = table i; indexes = indexes i }

  all-end : (n : ℕ) (catalog : Catalog) (groups : List (List Batch)) (plans : List TablePlan) (trees outcome : List TreesAfter) → sum_by plan_steps plans ≤ n → ArePlans format catalog lists groups plans
      → AllByRecursion (HeldProjections lists) plans → AreMidway format lists n plans trees → AllZip (IsNewTrees format lists) plans outcome → trees ≡ outcome
  all-end n catalog groups [] trees [] enough are held mid new = mid
  all-end n catalog groups [] trees (o ∷ outcome) enough are held mid new = absurd new
  all-end n catalog groups (plan ∷ plans) trees [] enough are held mid new = absurd new
  all-end n catalog [] (plan ∷ plans) trees (o ∷ outcome) enough are held mid new = absurd are
  all-end n catalog (group ∷ groups) (plan ∷ plans) trees (o ∷ outcome) enough are held (own, later, is, rest, e) new =
      let all = sum_by-cons plan_steps plan plans in
      let here = trees-end n are.0.0 group plan own o (omega (arith, enough, all)) are.0.2 held.0 is new.0 in
      let more = all-end (n - plan_steps plan) catalog groups plans later outcome (omega (arith, enough, all)) are.1 held.1 rest new.1 in
      e ∙ ap₂ (λ (x : TreesAfter) (xs : List TreesAfter). x ∷ xs) here more

-- Midway behind all steps the lists are those of the new database, where each index held the projection of its table.
pub mid-all : (catalog : Catalog) (old mid new : Database) (groups : List (List Batch)) (n : ℕ) (is : IsMid catalog old groups n mid) → sum_by plan_steps is.plans ≤ n
    → AllByRecursion (HeldProjections old.lists) is.plans → IsNew catalog old is.plans new → mid.lists ≡ new.lists
mid-all catalog old mid new groups n is enough held made =
    let trees = all-end (format_in old) old.lists n catalog groups is.plans is.trees made.trees enough is.are_plans held is.are_trees made.are_trees in
    is.lists ∙ ap (with_trees old.lists is.plans) trees ∙ sym made.lists
