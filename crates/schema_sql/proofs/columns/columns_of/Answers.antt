use Rattle.schema_sql.proofs.Steps.{columns-more, columns-all, twice-more}
use Rattle.schema_sql.proofs.columns.columns_of.Goals as goal

pub loop-left-preserved : goal.loop-left-preserved
loop-left-preserved c =
    let text = c.args.text.now in
    let some = c.in-len1-up.len_at_least in
    let first = c.definition-item.is in
    record {
      completes = columns-more text _ _ c.definition-item.result _ _ c.in_ok-column.column some first c.loop-left.invariant.completes c.in_ok-column.ensures c.in_ok-push.ensures.items;
      wrong = twice-more text _ _ _ _ c.definition-item.result c.loop-left.columns.items c.as_slice.result.now _ c.in_ok-column.column some first c.loop-left.invariant.wrong c.as_slice.ensures.value
          c.in_ok-push_if_among.ensures c.in_ok-column.ensures.name c.in_ok-push.ensures.items;
    }

pub returns-clause-columns : goal.returns-clause-columns
returns-clause-columns c = columns-all c.args.text.now c.args.definitions.now c.loop-left.left.now c.loop-left.columns.items c.from_vec.result c.in_default.len_below c.loop-left.invariant.completes c.from_vec.ensures
