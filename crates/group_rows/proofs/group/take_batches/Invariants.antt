use Rattle.std.proofs.Common.{◌≡◌, List, length}
use Rattle.std.specs.List.{AllByRecursion, AllZip}
use Rattle.rbu_rows.specs.declared.prepared.Batch.{Batch}
use Rattle.rbu_rows.specs.declared.prepared.Prepared.{Prepared}
use Rattle.prepared_spec.specs.RowKeys.{IsInKeyOrder}
use Rattle.compared_keys.specs.Keys.{HasKey}
use Rattle.group_rows.specs.Runs.{Run, Stands, group_run}
use Rattle.group_rows.proofs.group.take_batches.Given as goal

abbrev pub invariant-loop-left : goal.invariant-loop-left
invariant-loop-left l =
    (run : Run) (ordered : List (List Prepared)) → Stands l.table l.fn.progress run → AllZip (λ (batch : Batch) (rows : List Prepared). IsInKeyOrder l.table batch.rows rows) l.fn.batches ordered
    → AllByRecursion (λ (batch : Batch). AllByRecursion (HasKey l.table) batch.rows) l.fn.batches
    → (mid : Run) × (later : List (List Prepared)) × Stands l.table l.progress mid × AllZip (λ (batch : Batch) (rows : List Prepared). IsInKeyOrder l.table batch.rows rows) l.left later
    × AllByRecursion (λ (batch : Batch). AllByRecursion (HasKey l.table) batch.rows) l.left × (group_run l.table l.g later mid ≡ group_run l.table l.g ordered run)

abbrev pub decreases-loop-left : goal.decreases-loop-left
decreases-loop-left l = length l.left
