use Rattle.std.proofs.Common.{sym}
use Rattle.state_file.specs.declared.keys.StateKey.TheVariants.{Table, Index, Batch}
use Rattle.state_file.specs.State.{state_values}
use Rattle.state_file.proofs.StatesRead.{keyed-same}
use Rattle.state_file.proofs.keys.state_with.Goals as goal

pub returns-clause-values : goal.returns-clause-values
returns-clause-values c =
    keyed-same _ c.args.values
    (sym c.requires.stage)
    (sym (c.name_in.ensures (c.requires.meets Table)))
    (sym (c.name_in-2.ensures (c.requires.meets Index)))
    (sym c.requires.row)
    (sym c.requires.progress)
    (sym c.requires.sums)
    (sym c.requires.change_counter)
    (sym c.requires.log_size)
    (sym (c.batch_in.ensures (c.requires.meets Batch)))
