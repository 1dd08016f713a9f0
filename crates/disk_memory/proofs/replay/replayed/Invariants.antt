use Rattle.std.proofs.Common.{take}
use Rattle.disk_memory.specs.Volume.{files_at, first_trail, trail_from}
use Rattle.disk_memory.specs.Replay.{StandsAt}
use Rattle.disk_memory.proofs.replay.replayed.Given as goal

abbrev pub invariant-loop-step : goal.invariant-loop-step
invariant-loop-step l = StandsAt l.replay (trail_from (first_trail (files_at l.start)) (take l.step-index l.steps))
