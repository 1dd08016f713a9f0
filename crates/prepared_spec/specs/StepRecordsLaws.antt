-- A transaction has one list of steps: crates above cite these facts in their proofs.
use Rattle.std.proofs.Common.{◌≡◌, ℕ, ℤ, ◌+◌, List, [], ◌∷◌, ◌++◌, map, Option, sym, ap, ◌∙◌}
use Rattle.std.proofs.Math.Path.{subst⁻¹}
use Rattle.std.specs.Prelude.{flat_map, option_map}
use Rattle.std.specs.List.{AllZip}
use Rattle.common_spec.specs.ReadingLaws.{IsOne}
use Rattle.rbu_rows.specs.declared.prepared.Prepared.{Prepared}
use Rattle.rbu_rows.specs.declared.prepared.Batch.{Batch}
use Rattle.schema_spec.specs.declared.schema.Table.{Table}
use Rattle.database_spec.specs.declared.catalog.Catalog.{Catalog}
use Rattle.database_spec.specs.Rows.{TableRow}
use Rattle.database_spec.specs.ListsLaws.{beside-one}
use Rattle.database_spec.specs.Databases.{Database}
use Rattle.prepared_spec.specs.Tables.{count_new, greatest_of}
use Rattle.prepared_spec.specs.Plans.{TablePlan, plan_faults}
use Rattle.prepared_spec.specs.PlansLaws.{after_batch-one, plans-one}
use Rattle.prepared_spec.specs.Outcomes.{format_in, row_member, beside}
use Rattle.prepared_spec.specs.InputFaultsLaws.{some-one}
use Rattle.prepared_spec.specs.StepRecords.{put_rows, ArePutRows, put_entry, Step, step_of, AreStepsOf, ends_at_fault, AreSteps, first_too_long, HasTooLongStep}

put_rows-one : (format : ℕ) (table : Table) (g : ℤ) (taken : ℕ) (before : List TableRow) (batches : List (List Prepared)) → IsOne (ArePutRows format table g taken before batches)
put_rows-one format table g taken before [] a b p q = p ∙ sym q
put_rows-one format table g taken before (rows ∷ batches) a b (between, later, is, are, e) (other, further, also, too, f) =
    let same = after_batch-one format table g taken before rows between other is also in
    let more = taken + count_new table before rows in
    let there = subst⁻¹ (λ (r : List TableRow). ArePutRows format table g more r batches further) same too in
    e ∙ ap (λ (l : List (Option TableRow)). put_rows format table g taken before rows ++ l) (put_rows-one format table g more between batches later further are there) ∙ sym f

steps_of-one : (format : ℕ) (plan : TablePlan) → IsOne (AreStepsOf format plan)
steps_of-one format plan a b (rows, are, e) (others, also, f) =
    let same = put_rows-one format plan.table (greatest_of plan.old) 0 plan.old plan.batches rows others are also in
    e ∙ ap (λ (puts : List (Option TableRow)). map (step_of plan.name)
    (beside (map (option_map row_member) puts ++ flat_map (λ index. map (put_entry format index.index) index.changes) plan.indexes) (plan_faults plan))) same
    ∙ sym f

-- a transaction has one list of steps
pub steps-one : (catalog : Catalog) (old : Database) (groups : List (List Batch)) → IsOne (AreSteps catalog old groups)
steps-one catalog old groups a b p q =
    let format = format_in old in
    let plans = plans-one format catalog old.lists groups p.plans q.plans p.are_plans q.are_plans in
    let there = subst⁻¹ (λ (ps : List TablePlan). AllZip (AreStepsOf format) ps q.parts) plans q.are_parts in
    p.steps_are ∙ ap (λ (parts : List (List Step)). ends_at_fault (flat_map (λ part. part) parts)) (beside-one (AreStepsOf format) (steps_of-one format) p.plans p.parts q.parts p.are_parts there) ∙ sym q.steps_are

-- and one step that is the first to put too long a record, if any
pub too_long-one : (catalog : Catalog) (old : Database) (groups : List (List Batch)) → IsOne (HasTooLongStep catalog old groups)
too_long-one catalog old groups a b (steps, are, e) (others, also, f) =
    some-one (first_too_long steps) a b e (ap first_too_long (steps-one catalog old groups steps others are also) ∙ f)
