use Rattle.std.proofs.Common.{◌≡◌, ◌<◌, length}
use Rattle.file_spec.specs.declared.FileName.{FileName}
use Rattle.file_spec.specs.Files.{content, name_index}
use Rattle.file_spec.specs.Records.{stable}
use Rattle.disk_memory.specs.Volume.{files_at}
use Rattle.disk_memory.specs.Replay.{Agrees, kept_at}
use Rattle.disk_memory.proofs.replay.first_files.Given as goal

abbrev pub invariant-loop-name : goal.invariant-loop-name
invariant-loop-name l = record {
  long : length l.files.items ≡ l.name-index;
  each : (name : FileName) → name_index name < l.name-index → Agrees (kept_at l.files.items (name_index name)) (stable (content (files_at l.start) name));
}
