use Rattle.std.proofs.Common.{[], rules}
use Rattle.group_rows.proofs.progress.Progress.begin.Goals as goal

pub returns : goal.returns
returns c = record {
  kept = c.in_ok-put_copies.ensures [] (c.new-kept.ensures c.args.table.now);
  were_met = search rules;
  were_made = search rules;
  were_marked = search rules;
  was_stopped = search rules;
}
