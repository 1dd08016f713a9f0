use Rattle.std.proofs.Common.{ℕ, ◌≢◌, List, length, ap, subst, arith}
use Rattle.rbu_value.specs.declared.value.Value.{Value}
use Rattle.format_spec.specs.Record.{IsRecord}
use Rattle.schema_spec.specs.declared.schema.Column.{Column}
use Rattle.db_check.proofs.Projected.{row-none, row-unlike}
use Rattle.db_check.proofs.rows.row_values.Goals as goal

pub returns-in-Ok-None-clause-none : goal.returns-in-Ok-None-clause-none
returns-in-Ok-None-clause-none c =
    let none : (values : List Value) → ¬ IsRecord c.as_slice.result.now values = rw c.in-Ok-None.field-0-is at c.in-Ok-None.ensures.none in
    row-none c.args.table.now c.args.row.now (subst (λ (bytes : List ℕ). (values : List Value) → ¬ IsRecord bytes values) c.as_slice.ensures none)

pub returns-then-len-as_slice-clause-none : goal.returns-then-len-as_slice-clause-none
returns-then-len-as_slice-clause-none c =
    let stored = c.in-Ok-Some.stored.items in
    let is : IsRecord c.as_slice.result.now stored = rw c.in-Ok-Some.field-0-is at c.in-Ok-Some.ensures.found in
    let unlike : length stored ≢ length c.args.table.now.columns = λ e. omega (arith, c.if-len-as_slice.true, c.len.ensures, ap (λ (columns : List Column). length columns) c.as_slice-2.ensures, e) in
    row-unlike c.args.table.now c.args.row.now stored (subst (λ (bytes : List ℕ). IsRecord bytes stored) c.as_slice.ensures is) unlike
