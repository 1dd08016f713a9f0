-- Where the files of an update are.
use Rattle.std.specs.Prelude.{ℕ, List, ◌++◌, codes, string_bytes}
use Rattle.file_spec.specs.declared.FileName.{FileName}
use Rattle.file_spec.specs.declared.FileName.TheVariants.{Target, Oal, Wal, Journal, Rbu, State, StateTemp}
use Rattle.disk_host.specs.declared.paths.Paths.{Paths}

-- the path that is kept of a file
abbrev pub path_of : Paths → FileName → List ℕ
path_of paths Target = string_bytes paths.target
path_of paths Oal = string_bytes paths.oal
path_of paths Wal = string_bytes paths.wal
path_of paths Journal = string_bytes paths.journal
path_of paths Rbu = string_bytes paths.rbu
path_of paths State = string_bytes paths.state
path_of paths StateTemp = string_bytes paths.state_temp

-- the path of each file, given those of the target, the RBU database and the state
abbrev pub path_beside : List ℕ → List ℕ → List ℕ → FileName → List ℕ
path_beside target rbu state Target = target
path_beside target rbu state Oal = target ++ codes "-oal"
path_beside target rbu state Wal = target ++ codes "-wal"
path_beside target rbu state Journal = target ++ codes "-journal"
path_beside target rbu state Rbu = rbu
path_beside target rbu state State = state
path_beside target rbu state StateTemp = state ++ codes "-temp"
