use Rattle.std.proofs.Common.{◌∙◌}
use Rattle.std.specs.BTreeMap.{get}
use Rattle.compared_keys.specs.declared.keys.ComparedKey.{ComparedKey}
use Rattle.compared_keys.specs.Keys.{key_order}
use Rattle.group_rows.specs.KeyedRows.{rows_in}
use Rattle.group_rows.proofs.Finding.{take-keyed, take-rest}
use Rattle.group_rows.proofs.keyed.KeyedRows.take.Goals as goal

pub returns-clause-left : goal.returns-clause-left
returns-clause-left c table rows holds =
    let old = c.args.self.now in
    let at = λ (key : ComparedKey). rows_in (get key_order old.by_key key) in
    record {
      of_keys = λ other. c.take_rows.ensures.left other ∙ take-keyed table at old.keyless.items rows holds.of_keys holds.of_none c.args.key.now other;
      of_none = take-rest table at old.keyless.items rows holds.of_keys holds.of_none c.args.key.now;
    }
