use Rattle.tree_rows.specs.Rows.{member_of, members_of}
use Rattle.database_spec.specs.Rows.{TableRow, IsRow}
use Rattle.db_check.specs.Projections.{HasEntry}
use Rattle.db_check.proofs.Projected.{keeps-end, keeps-next, keeps-none, none-left, uncons}
use Rattle.db_check.proofs.rows.row_entries.Goals as goal

pub returns-in-Ok-None-clause-none : goal.returns-in-Ok-None-clause-none
returns-in-Ok-None-clause-none c =
    let left = c.loop-left.left.now in
    let row = c.row-item.result in
    let none : (other : TableRow) → ¬ IsRow c.args.table.now (member_of row) other = rw c.in-Ok-None.field-0-is at c.in-Ok-None.ensures.none in
    keeps-none c.args.table.now c.args.index.now (members_of c.args.rows.now) left row _ c.loop-left.entries.items (uncons left row c.in-len1-up.len_at_least c.row-item.is) c.loop-left.invariant none

pub loop-left-preserved : goal.loop-left-preserved
loop-left-preserved c =
    let left = c.loop-left.left.now in
    let row = c.row-item.result in
    let has : HasEntry c.args.table.now c.args.index.now (member_of row) c.in-Ok-Some.entry = rw c.in-Ok-Some.field-0-is at c.in-Ok-Some.ensures.found in
    keeps-next c.args.table.now c.args.index.now (members_of c.args.rows.now) left row _ c.loop-left.entries.items _ c.in-Ok-Some.entry (uncons left row c.in-len1-up.len_at_least c.row-item.is) c.loop-left.invariant has c.in_ok-push.ensures.items

pub returns-clause-found : goal.returns-clause-found
returns-clause-found c =
    keeps-end c.args.table.now c.args.index.now (members_of c.args.rows.now) c.loop-left.left.now c.loop-left.entries.items (none-left c.loop-left.left.now c.in_default.len_below) c.loop-left.invariant
