-- What a disk in memory holds.
use Rattle.std.specs.Prelude.{ℕ, ◌^◌, Bool, nat_lt, Option}
use Rattle.file_spec.specs.Files.{Files}
use Rattle.rbu_disk.specs.declared.disk.DiskFault.{DiskFault}
use Rattle.rbu_disk.specs.Call.{Failures}
use Rattle.disk_memory.specs.Calls.{CallCounts}
use Rattle.disk_memory.specs.Volume.{VolumeState, files_in}

-- the files with the calls that changed them, the counts of the calls, and the fault of the last call that failed
pub record DiskState : Type 0 where
  pub volume : VolumeState
  pub counts : CallCounts
  pub last_fault : Option DiskFault

-- the files of a disk
abbrev pub files_of : DiskState → Files
files_of disk = files_in disk.volume

-- the calls of a disk that failed
abbrev pub failures_of : DiskState → Failures
failures_of disk = record { count = disk.counts.faults; last = disk.last_fault }

-- whether a file may not end there
abbrev pub is_over_limit : ℕ → Bool
is_over_limit end = nat_lt (2 ^ 62) end
