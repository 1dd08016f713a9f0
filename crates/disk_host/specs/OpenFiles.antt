-- Which file is kept open under which name.
use Rattle.std.specs.Prelude.{Option, None}
use Rattle.file_spec.specs.declared.FileName.{FileName}
use Rattle.file_spec.specs.declared.FileName.TheVariants.{Target, Oal, Wal, Journal, Rbu, State, StateTemp}
use Rattle.disk_host.specs.declared.open_files.OpenFiles.{OpenFiles}

-- the file that is open under a name
abbrev pub open_at : {F : Type 0} → OpenFiles F → FileName → Option F
open_at files Target = files.target
open_at files Oal = files.oal
open_at files Wal = files.wal
open_at files Journal = files.journal
open_at files Rbu = files.rbu
open_at files State = files.state
open_at files StateTemp = files.state_temp

-- the files with this one, or none, open under a name
abbrev pub with_open : {F : Type 0} → OpenFiles F → FileName → Option F → OpenFiles F
with_open files Target file = record files { target = file }
with_open files Oal file = record files { oal = file }
with_open files Wal file = record files { wal = file }
with_open files Journal file = record files { journal = file }
with_open files Rbu file = record files { rbu = file }
with_open files State file = record files { state = file }
with_open files StateTemp file = record files { state_temp = file }

-- an open file goes with its name, in place of that which was open under the new one
abbrev pub with_moved : {F : Type 0} → OpenFiles F → FileName → FileName → OpenFiles F
with_moved files from to = with_open (with_open files from None) to (open_at files from)
