use Rattle.std.proofs.Common.{subst}
use Rattle.group_rows.specs.Runs.{Stands, begun, group_run}
use Rattle.group_rows.proofs.Whole.{whole-made, whole-pairs}
use Rattle.group_rows.proofs.group.group_pairs.Goals as goal

pub returns-clause-made : goal.returns-clause-made
returns-clause-made c format name before after ordered faults is orders keys are chain =
    let table = c.args.table.now in
    let g = c.args.g.now in
    let rows = c.args.rows.items in
    let run = group_run table g ordered (begun rows) in
    let stands = subst (λ rs. Stands table c.in_ok-progress.progress (group_run table g ordered (begun rs))) c.as_slice-2.ensures.value (c.in_ok-progress.ensures ordered orders keys) in
    whole-made format name table g before after rows c.args.batches.now ordered faults is orders keys are chain c.in_ok-found.found.made.items (c.in_ok-found.ensures.marks table run stands)

pub returns-clause-pairs : goal.returns-clause-pairs
returns-clause-pairs c format name before after ordered faults is apart orders keys are chain =
    let table = c.args.table.now in
    let g = c.args.g.now in
    let rows = c.args.rows.items in
    let run = group_run table g ordered (begun rows) in
    let stands = subst (λ rs. Stands table c.in_ok-progress.progress (group_run table g ordered (begun rs))) c.as_slice-2.ensures.value (c.in_ok-progress.ensures ordered orders keys) in
    whole-pairs format name table g before after rows c.args.batches.now ordered faults is orders keys are chain c.in_ok-found.found.pairs.items apart (c.in_ok-found.ensures.pairs table run stands)
