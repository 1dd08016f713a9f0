use Rattle.std.proofs.Common.{◌∙◌, ◌-◌, List, length, take, drop, sym, ap, subst, arith}
use Rattle.std.specs.List.{AllByRecursion, AllZip}
use Rattle.rbu_rows.specs.declared.prepared.Batch.{Batch}
use Rattle.rbu_rows.specs.declared.prepared.Prepared.{Prepared}
use Rattle.prepared_spec.specs.RowKeys.{IsInKeyOrder}
use Rattle.compared_keys.specs.Keys.{HasKey}
use Rattle.group_rows.specs.Runs.{Stands, batch_taken, group_run}
use Rattle.group_rows.proofs.Lists.{none-left, uncons}
use Rattle.group_rows.proofs.Steps.{batches-next, batches-end}
use Rattle.group_rows.proofs.group.take_batches.Goals as goal

pub loop-left-preserved : goal.loop-left-preserved
loop-left-preserved c = λ run ordered stands orders keys.
    let at = c.loop-left.invariant run ordered stands orders keys in
    let table = c.args.table.now in
    let left = c.loop-left.left.now in
    let batch = c.batch-item.result in
    let rest = take (length left - 1) (drop 1 left) in
    let split = uncons left batch c.in-len1-up.len_at_least c.batch-item.is in
    let Orders = λ (b : Batch) (rows : List Prepared). IsInKeyOrder table b.rows rows in
    let Keys = λ (b : Batch). AllByRecursion (HasKey table) b.rows in
    let next = batches-next table batch rest at.1 (subst (λ bs. AllZip Orders bs at.1) split at.3) in
    let keyed = subst (AllByRecursion Keys) split at.4 in (
      batch_taken table c.args.g.now next.0 at.0,
      next.1,
      c.in_ok-take_batch.ensures at.0 next.0 at.2 (subst (λ rows. IsInKeyOrder table rows next.0) (sym c.as_slice.ensures) next.3) (subst (AllByRecursion (HasKey table)) (sym c.as_slice.ensures) keyed.0),
      next.4,
      keyed.1,
      ap (λ l. group_run table c.args.g.now l at.0) (sym next.2) ∙ at.5,
    )

pub returns : goal.returns
returns c run ordered stands orders keys =
    let at = c.loop-left.invariant run ordered stands orders keys in
    let table = c.args.table.now in
    let none = none-left c.loop-left.left.now (omega (arith, c.in_default.len_below)) in
    let Orders = λ (b : Batch) (rows : List Prepared). IsInKeyOrder table b.rows rows in
    let empty = batches-end table at.1 (subst (λ bs. AllZip Orders bs at.1) none at.3) in
    subst (Stands table c.loop-left.progress) (ap (λ l. group_run table c.args.g.now l at.0) (sym empty) ∙ at.5) at.2
