use Rattle.lock_steps.specs.LocksLaws.{read_of-ended, read_of-kept, read_of-begun, read_of-others}
use Rattle.lock_steps.proofs.laws.each_reader_has_its_own_read.Goals as goal

pub returns : goal.returns
returns c = record { ended = read_of-ended; kept = read_of-kept; begun = read_of-begun; others = read_of-others }
