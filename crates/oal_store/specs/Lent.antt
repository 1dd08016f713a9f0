-- What stays while a growing log and its disk are lent as a store of pages.
use Rattle.std.specs.Prelude.{ℕ, Bool, Option}
use Rattle.file_spec.specs.Trails.{Trail}
use Rattle.rbu_disk.specs.Uses.{Use}
use Rattle.oal_store.specs.declared.log.OalLog.{OalLog}

-- which loans they are, the log up to its last commit, the moments of the disk, and the calls that it allows
pub record Loan : Type 0 where
  pub store : ℕ
  pub disk : ℕ
  pub log : OalLog
  pub trail : Option Trail
  pub test : Use → Bool
