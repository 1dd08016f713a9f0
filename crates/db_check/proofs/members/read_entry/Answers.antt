use Rattle.std.proofs.Common.{List, refl}
use Rattle.format_spec.specs.Record.{IsRecord}
use Rattle.rbu_value.specs.declared.value.Value.{Value}
use Rattle.database_spec.specs.ItemsLaws.{true-false}
use Rattle.db_check.proofs.Taken.{entry-holds, holds-entry}
use Rattle.db_check.proofs.members.read_entry.Goals as goal

pub returns-in-Ok-None-clause-answer : goal.returns-in-Ok-None-clause-answer
returns-in-Ok-None-clause-answer g c =
    let none : (values : List Value) → ¬ IsRecord c.args.payload.now values = rw c.in-Ok-None.field-0-is at c.in-Ok-None.ensures.none in
    (λ entry own. none entry own.is_record, refl)

pub returns-then-not-holds_entry-clause-answer : goal.returns-then-not-holds_entry-clause-answer
returns-then-not-holds_entry-clause-answer g c =
    let is : IsRecord c.args.payload.now c.in-Ok-Some.values.items = rw c.in-Ok-Some.field-0-is at c.in-Ok-Some.ensures.found in
    (λ entry own. true-false c.holds_entry.result (c.holds_entry.ensures.1 (holds-entry c.args.tree.now.columns c.args.payload.now entry c.in-Ok-Some.values.items own is)) c.if-not-holds_entry.true, refl)

pub returns-clause-answer : goal.returns-clause-answer
returns-clause-answer g c =
    let is : IsRecord c.args.payload.now c.in-Ok-Some.values.items = rw c.in-Ok-Some.field-0-is at c.in-Ok-Some.ensures.found in
    entry-holds c.args.tree.now.columns c.args.payload.now c.in-Ok-Some.values.items c.from_vec.result c.from_vec.ensures is (c.holds_entry.ensures.0 c.if-not-holds_entry.false)
