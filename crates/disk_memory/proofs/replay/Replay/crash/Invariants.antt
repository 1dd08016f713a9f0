use Rattle.std.proofs.Common.{◌<◌}
use Rattle.file_spec.specs.declared.FileName.{FileName}
use Rattle.file_spec.specs.Files.{name_index}
use Rattle.file_spec.specs.Trails.{Trail}
use Rattle.disk_memory.specs.Volume.{IsFine, files_at}
use Rattle.disk_memory.specs.Crash.{LeavesAt}
use Rattle.disk_memory.specs.Replay.{StandsAt, numbers_at}
use Rattle.disk_memory.proofs.replay.Replay.crash.Given as goal

abbrev pub invariant-loop-name : goal.invariant-loop-name
invariant-loop-name l = (name : FileName) → name_index name < l.name-index → (t : Trail) → IsFine t → StandsAt l.self t →
    LeavesAt l.filling t.now.at.stored (numbers_at l.numbers name) (files_at l.places name)
