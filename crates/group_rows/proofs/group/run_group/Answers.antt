use Rattle.group_rows.specs.Runs.{begun}
use Rattle.group_rows.proofs.group.run_group.Goals as goal

pub returns : goal.returns
returns c ordered orders keys = c.in_ok-take_batches.ensures (begun c.args.rows.now) ordered c.in_ok-progress.ensures orders keys
