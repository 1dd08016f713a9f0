-- What was read so far, and the rest of the buffer.
use Rattle.std.proofs.Common.{◌≡◌, ◌≤◌, ◌-◌, length, take, drop}
use Rattle.std.specs.Io.KnownBytes.{Consumes}
use Rattle.disk_host.proofs.transfers.read_through.Given as goal

abbrev pub invariant-loop-done : goal.invariant-loop-done
invariant-loop-done g l = (l.done ≤ length l.into) × (drop l.done l.into ≡ drop l.done l.initial.into) × Consumes (g.T.Read.remaining l.initial.reader) (g.T.Read.remaining l.reader) (take l.done l.into)

abbrev pub decreases-loop-done : goal.decreases-loop-done
decreases-loop-done g l = length l.into - l.done
