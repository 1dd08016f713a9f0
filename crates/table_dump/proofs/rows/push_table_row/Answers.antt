use Rattle.row_values.specs.Values.{member_with}
use Rattle.dump_spec.specs.Printing.{row_line}
use Rattle.table_dump.proofs.Walking.{values-line, values-refused}
use Rattle.table_dump.proofs.rows.push_table_row.Goals as goal

pub returns-in-Ok-push_line : goal.returns-in-Ok-push_line
returns-in-Ok-push_line c =
    (row_line c.args.row.now.rowid c.in-Ok.values.items, values-line c.args.table.now c.args.row.now c.in-Ok.values.items c.in-Ok.ensures.found, rw c.deref.ensures.value at c.in-Ok-push_line.ensures)

pub returns : goal.returns
returns c =
    values-refused c.args.name.now c.args.table.now (member_with c.args.row.now.rowid c.args.row.now.payload) c.in-Err.unread c.refuse_record.result c.in-Err.ensures.fault c.refuse_record.ensures
