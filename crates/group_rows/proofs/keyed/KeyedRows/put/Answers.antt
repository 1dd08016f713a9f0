use Rattle.std.proofs.Common.{◌∙◌, List, sym, ap}
use Rattle.std.specs.BTreeMap.{get}
use Rattle.rbu_value.specs.declared.order.Collation.{Collation}
use Rattle.compared_keys.specs.declared.keys.ComparedKey.{ComparedKey}
use Rattle.compared_keys.specs.Keys.{key_order, met_key}
use Rattle.group_rows.specs.KeyedRows.{rows_in}
use Rattle.group_rows.proofs.Finding.{put-keyed, put-keyed_rest}
use Rattle.group_rows.proofs.keyed.KeyedRows.put.Goals as goal

pub returns-in_ok-put_row-in-Some : goal.returns-in_ok-put_row-in-Some
returns-in_ok-put_row-in-Some c rows holds =
    let old = c.args.self.now in
    let at = λ (key : ComparedKey). rows_in (get key_order old.by_key key) in
    let is = sym c.in-Some.is ∙ c.in_ok-key.ensures ∙ ap (λ (cs : List Collation). met_key cs c.args.table.now c.args.row) c.requires.collated in
    record {
      of_keys = λ other. c.in_ok-put_row-in-Some.ensures other ∙ put-keyed c.args.table.now at old.keyless.items rows holds.of_keys holds.of_none c.in-Some.key c.args.row is other;
      of_none = put-keyed_rest c.args.table.now at old.keyless.items rows holds.of_keys holds.of_none c.in-Some.key c.args.row is;
    }
