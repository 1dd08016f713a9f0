use Rattle.std.proofs.Common.{◌≡◌, map, vec_len}
use Rattle.file_spec.specs.declared.FileName.{FileName}
use Rattle.disk_memory.specs.Volume.{files_at, first_entries}
use Rattle.disk_memory.proofs.Places.{first_of}
use Rattle.disk_memory.proofs.volume.places_of.Given as goal

abbrev pub invariant-loop-name : goal.invariant-loop-name
invariant-loop-name l = (name : FileName) → first_of (first_entries (map (λ entry. (entry.0, entry.1.items)) l.files.items) name) (files_at l.places name) ≡ first_entries (map (λ entry. (entry.0, entry.1.items)) l.fn.files.items) name

abbrev pub decreases-loop-name : goal.decreases-loop-name
decreases-loop-name l = vec_len l.files
