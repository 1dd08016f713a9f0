-- The faults of a growing log.
use Rattle.std.specs.Prelude.{◌≡◌, Option, Some, None}
use Rattle.rbu_disk.specs.Call.{Failures}
use Rattle.rbu_disk.specs.Call.{Fails as DiskFails}
use Rattle.rbu_disk.specs.declared.disk.DiskFault.{DiskFault}
use Rattle.wal_codec.specs.declared.log.LogFault.TheVariants.{LogFrame}
use Rattle.wal_codec.specs.declared.log.LogFault.TheVariants.{LogHeader as NoHeader, Memory as NoMemory}
use Rattle.file_pages.specs.declared.log.FileLogFault.{FileLogFault}
use Rattle.file_pages.specs.declared.log.FileLogFault.TheVariants.{InBytes, OfDisk}
use Rattle.oal_store.specs.declared.fault.OalFault.{OalFault}
use Rattle.oal_store.specs.declared.fault.OalFault.TheVariants.{LogHeader, OalShort, OalFrame, Disk, Memory}

-- the fault of the disk that it is, if any
abbrev pub disk_fault : OalFault → Option DiskFault
disk_fault LogHeader = None
disk_fault (OalShort has needs) = None
disk_fault (OalFrame number) = None
disk_fault (Disk fault) = Some fault
disk_fault (Memory error) = None

-- a fault of a log in a file as one of the hidden log
abbrev pub log_fault : FileLogFault → OalFault
log_fault (InBytes NoHeader) = LogHeader
log_fault (InBytes (LogFrame number)) = OalFrame number
log_fault (InBytes (NoMemory error)) = Memory error
log_fault (OfDisk fault) = Disk fault

-- a fault of the disk or want of memory, and no refusal
abbrev pub IsNoRefusal : OalFault → Type 0
IsNoRefusal LogHeader = ⊥
IsNoRefusal (OalShort has needs) = ⊥
IsNoRefusal (OalFrame number) = ⊥
IsNoRefusal (Disk fault) = Unit {0}
IsNoRefusal (Memory error) = Unit {0}

-- what is so where a call answers the fault: it is the disk's and counted, or memory is wanting
abbrev pub Fails : Failures → Failures → OalFault → Type 0
Fails before now LogHeader = ⊥
Fails before now (OalShort has needs) = ⊥
Fails before now (OalFrame number) = ⊥
Fails before now (Disk fault) = DiskFails before now fault
Fails before now (Memory error) = now ≡ before
