-- A transaction has one outcome: crates above cite these facts in their proofs.
use Rattle.std.proofs.Common.{◌≡◌, ℕ, List, map, Some, None, sym, ap, ap₂, ◌∙◌}
use Rattle.std.proofs.Math.Path.{subst⁻¹}
use Rattle.rbu_value.specs.declared.value.Value.{Value}
use Rattle.format_spec.specs.Record.{IsRecord}
use Rattle.common_spec.specs.ReadingLaws.{IsOne}
use Rattle.rbu_rows.specs.declared.prepared.Batch.{Batch}
use Rattle.schema_spec.specs.declared.schema.Index.{Index}
use Rattle.tree_spec.specs.Trees.{Member}
use Rattle.database_spec.specs.declared.catalog.Catalog.{Catalog}
use Rattle.database_spec.specs.Rows.{TableRow}
use Rattle.database_spec.specs.RowsLaws.{record-one}
use Rattle.database_spec.specs.KeysLaws.{projection-one}
use Rattle.database_spec.specs.ListsLaws.{beside-one}
use Rattle.database_spec.specs.Databases.{Database, list_at}
use Rattle.prepared_spec.specs.Plans.{TablePlan}
use Rattle.prepared_spec.specs.PlansLaws.{plans-one}
use Rattle.prepared_spec.specs.Outcomes.{format_in, Entered, AreEntered, recorded, IsIndexNew, IsNewIndexList, IsNewTrees, with_trees, IsNew, Violates, Makes, IsResult, IsOutcome}

pub entered-one : (members : List Member) → IsOne (AreEntered members)
entered-one members =
    beside-one (λ (member : Member) (one : Entered). IsRecord member.payload one.entry × (one.member ≡ member)) (λ member a b p q.
    let entry = record-one member.payload a.entry b.entry p.0 q.0 in
    let same : a.member ≡ b.member = p.1 ∙ sym q.1 in
    λ i. record { entry = entry i; member = same i }) members

pub index_new-one : (format : ℕ) (index : Index) (after : List TableRow) (old : List Member) → IsOne (IsIndexNew format index after old)
index_new-one format index after old a b p q =
    let before = entered-one old p.before q.before p.are_before q.are_before in
    let entries = projection-one index after p.entries q.entries p.projection q.projection in
    p.members_are ∙ ap₂ (λ (bs : List Entered) (es : List (List Value)). map (λ entry. (recorded format bs entry).member) es) before entries ∙ sym q.members_are

new_trees-one : (format : ℕ) (lists : List (ℕ × List Member)) (plan : TablePlan) → IsOne (IsNewTrees format lists plan)
new_trees-one format lists plan a b p q =
    let table : a.table ≡ b.table = p.table_is ∙ sym q.table_is in
    let indexes = beside-one (IsNewIndexList format lists plan.after) (λ index. index_new-one format index.index plan.after (list_at lists index.root)) plan.indexes a.indexes b.indexes p.indexes_are q.indexes_are in
    λ i. record { table = table i; indexes = indexes i }

pub new-one : (catalog : Catalog) (old : Database) (plans : List TablePlan) → IsOne (IsNew catalog old plans)
new-one catalog old plans a b p q =
    let trees = beside-one (IsNewTrees (format_in old) old.lists) (new_trees-one (format_in old) old.lists) plans p.trees q.trees p.are_trees q.are_trees in
    let header : a.header ≡ b.header = p.header ∙ sym q.header in
    let lists : a.lists ≡ b.lists = p.lists ∙ ap (with_trees old.lists plans) trees ∙ sym q.lists in
    λ i. record { header = header i; lists = lists i }

result-one : (catalog : Catalog) (old : Database) (plans : List TablePlan) → IsOne (IsResult catalog old plans)
result-one catalog old plans (Violates a) (Violates b) p q = let same : Some a ≡ Some b = sym p ∙ q in let one : a ≡ b = cc in ap Violates one
result-one catalog old plans (Violates a) (Makes b) p q = absurd (let same : Some a ≡ None = sym p ∙ q.0 in let h : ⊥ = cc in h)
result-one catalog old plans (Makes a) (Violates b) p q = absurd (let same : Some b ≡ None = sym q ∙ p.0 in let h : ⊥ = cc in h)
result-one catalog old plans (Makes a) (Makes b) p q = ap Makes (new-one catalog old plans a b p.1 q.1)

-- a transaction has one outcome
pub outcome-one : (catalog : Catalog) (old : Database) (groups : List (List Batch)) → IsOne (IsOutcome catalog old groups)
outcome-one catalog old groups a b p q =
    let plans = plans-one (format_in old) catalog old.lists groups p.plans q.plans p.are_plans q.are_plans in
    result-one catalog old p.plans a b p.is_result (subst⁻¹ (λ (s : List TablePlan). IsResult catalog old s b) plans q.is_result)
