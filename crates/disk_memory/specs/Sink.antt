-- What an output in memory holds.
use Rattle.std.specs.Prelude.{ℕ, List}
use Rattle.disk_memory.specs.Calls.{CallCounts}

-- the bytes that were written, and the counts of the calls
pub record SinkState : Type 0 where
  pub written : List ℕ
  pub counts : CallCounts
