use Rattle.std.proofs.Common.{◌≡◌, ℕ, refl}
use Rattle.state_file.specs.declared.state.KeyValues.{KeyValues}
use Rattle.state_file.specs.declared.keys.StateKey.TheVariants.{Stage, Table, Index, Row, Progress, Sums, ChangeCounter, LogSize, Batch}
use Rattle.state_file.specs.State.{sums_number}
use Rattle.state_file.proofs.StatesRead.{MeetsBelow, below-none, below-next, below-ten, below-all}
use Rattle.state_file.proofs.keys.numbers_of.Goals as goal

pub returns : goal.returns
returns c =
    let values : KeyValues = c.args.values.now in
    let stage : MeetsBelow values 2 = below-next values Stage 2 refl (below-none values) c.in-Some.ensures.found.1 in
    let table : MeetsBelow values 3 = below-next values Table 3 refl stage (c.is_name.ensures.0 c.if-not-is_name.false) in
    let index : MeetsBelow values 4 = below-next values Index 4 refl table (c.is_name-2.ensures.0 c.if-not-is_name-2.false) in
    let row : MeetsBelow values 5 = below-next values Row 5 refl index ((c.in-Some-row_of.row, c.in-Some-row_of.ensures.found.0), c.in-Some-row_of.ensures.found.1) in
    let progress : MeetsBelow values 6 = below-next values Progress 6 refl row (c.in-Some-count_of.progress, c.in-Some-count_of.ensures.found) in
    let sums : MeetsBelow values 7 = below-next values Sums 7 refl progress (sums_number c.in-Some-sums_of.sums, c.in-Some-sums_of.ensures.found.0) in
    let counter : MeetsBelow values 8 = below-next values ChangeCounter 8 refl sums (c.in-Some-change_counter_of.change_counter, c.in-Some-change_counter_of.ensures.found.0, c.in-Some-change_counter_of.ensures.found.1) in
    let size : MeetsBelow values 9 = below-next values LogSize 9 refl counter (c.in-Some-log_size_of.log_size, c.in-Some-log_size_of.ensures.found.0, c.in-Some-log_size_of.ensures.found.1) in
    let all : MeetsBelow values 11 = below-next values Batch 11 refl (below-ten values size) (c.is_batch.ensures.0 c.if-not-is_batch.false) in
    record {
      found = record {
        meets = below-all values all;
        stage = c.in-Some.ensures.found.0;
        row = c.in-Some-row_of.ensures.found.0;
        progress = c.in-Some-count_of.ensures.found;
        sums = c.in-Some-sums_of.ensures.found.0;
        words = c.in-Some-sums_of.ensures.found.1;
        change_counter = c.in-Some-change_counter_of.ensures.found.0;
        log_size = c.in-Some-log_size_of.ensures.found.0;
      };
      fault = tt;
    }
