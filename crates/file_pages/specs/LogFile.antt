-- What is answered of the log in a file.
use Rattle.std.specs.Prelude.{◌⊎◌, ℕ, ◌+◌, ◌≤◌, Bool, List, take, drop, Option, Some, None, Err, IfSome}
use Rattle.common_spec.specs.Reading.{OrFault, Reads}
use Rattle.file_spec.specs.declared.FileName.{FileName}
use Rattle.file_spec.specs.Files.{Files, content}
use Rattle.rbu_disk.specs.declared.disk.DiskFault.{DiskFault}
use Rattle.wal_codec.specs.LogReading.{HasLog, HasFault, IsMemory}
use Rattle.wal_codec.specs.declared.reader.LogReader.{LogReader}
use Rattle.wal_codec.specs.FramesRead.{IsReading, IsEnd, TakesFrame, frame_size}
use Rattle.file_pages.specs.declared.log.FileLogFault.{FileLogFault}
use Rattle.file_pages.specs.declared.log.FileLogFault.TheVariants.{InBytes, OfDisk}

-- the fault of the disk that a fault has, if any
abbrev pub disk_fault : FileLogFault → Option DiskFault
disk_fault (InBytes fault) = None
disk_fault (OfDisk fault) = Some fault

-- the fault is want of memory, or one of the disk, and says nothing of the bytes
abbrev pub SaysNothing : FileLogFault → Type 0
SaysNothing (InBytes fault) = IsMemory fault
SaysNothing (OfDisk fault) = Unit {0}

-- the first bytes of a file, so many, or all where there are fewer
abbrev pub front_of : FileName → ℕ → Files → List ℕ
front_of file len files = take len (content files file)

-- The fault is want of memory, or that of these bytes as a log, which have no other answer; one of the disk says nothing of them.
abbrev pub IsFaultIn : Option Files → (Files → List ℕ) → ℕ → FileLogFault → Type 0
IsFaultIn shown bytes needed (InBytes fault) = IsMemory fault ⊎ IfSome shown (λ files. Reads (OrFault (HasLog (bytes files) needed) (HasFault (bytes files) needed)) (Err fault))
IsFaultIn shown bytes needed (OfDisk fault) = Unit {0}

-- the same of all bytes of a file
abbrev pub IsFaultOf : Option Files → FileName → ℕ → FileLogFault → Type 0
IsFaultOf shown file needed = IsFaultIn shown (λ files. content files file) needed

-- the bytes have been read as a log up to the end of the valid frames
pub record IsAllRead (bytes : List ℕ) (needed : ℕ) (reader : LogReader) : Type 0 where
  pub left : List ℕ
  pub reading : IsReading bytes needed left reader
  pub end : IsEnd left reader

-- where the reader has read a log in the first bytes of a file up to a place, and a frame's bytes from there on are among them, they are a valid frame, which it reads too, or they are not
abbrev pub ReadsNext : FileName → ℕ → LogReader → LogReader → Bool → Files → Type 0
ReadsNext file at before after valid files = (len needed : ℕ) → at + frame_size before ≤ len → IsReading (front_of file len files) needed (drop at (front_of file len files)) before
    → TakesFrame (front_of file len files) needed (drop at (front_of file len files)) before after valid

-- a reader that has read the header reads the first bytes of a file up to the end of the valid frames
abbrev pub ReadsAll : FileName → ℕ → LogReader → LogReader → Files → Type 0
ReadsAll file len before after files =
    (needed : ℕ) → IsReading (front_of file len files) needed (drop 32 (front_of file len files)) before → IsAllRead (front_of file len files) needed after
