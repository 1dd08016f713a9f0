use Rattle.prepared_spec.specs.MidwayLaws.{new-none}
use Rattle.prepared_spec.proofs.laws.no_rows_change_only_counters.Goals as goal

pub returns : goal.returns
returns c = new-none
