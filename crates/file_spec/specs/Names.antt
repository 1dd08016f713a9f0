-- How files and calls are printed: by the names of their variants.
use Rattle.std.specs.Prelude.{ℕ, List, codes}
use Rattle.file_spec.specs.declared.FileName.{FileName}
use Rattle.file_spec.specs.declared.FileName.TheVariants as file
use Rattle.file_spec.specs.declared.DiskCall.{DiskCall}
use Rattle.file_spec.specs.declared.DiskCall.TheVariants as call

-- the word of a file
abbrev pub file_word : FileName → List ℕ
file_word file.Target = codes "Target"
file_word file.Oal = codes "Oal"
file_word file.Wal = codes "Wal"
file_word file.Journal = codes "Journal"
file_word file.Rbu = codes "Rbu"
file_word file.State = codes "State"
file_word file.StateTemp = codes "StateTemp"

-- the word of a call
abbrev pub call_word : DiskCall → List ℕ
call_word call.Exists = codes "Exists"
call_word call.Len = codes "Len"
call_word call.Read = codes "Read"
call_word call.Write = codes "Write"
call_word call.SetLen = codes "SetLen"
call_word call.Sync = codes "Sync"
call_word call.Create = codes "Create"
call_word call.Remove = codes "Remove"
call_word call.Rename = codes "Rename"
call_word call.SyncFolder = codes "SyncFolder"
