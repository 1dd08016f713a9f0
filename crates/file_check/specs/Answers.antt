-- What is answered of a file that has a catalog (PRAGMA integrity_check).
use Rattle.std.specs.Prelude.{◌≡◌, length, Result, Ok, Err}
use Rattle.common_spec.specs.Reading.{Reads, OrFault}
use Rattle.tree_spec.specs.Standing.{Sizes, Paged}
use Rattle.database_spec.specs.declared.catalog.Catalog.{Catalog}
use Rattle.database_spec.specs.declared.fault.FileFault.{FileFault}
use Rattle.database_spec.specs.Databases.{Database, IsSound}
use Rattle.database_spec.specs.FileFaults.{FileHasFault}
use Rattle.db_check.specs.declared.fault.CheckFault.{CheckFault}
use Rattle.db_check.specs.Answers.{IsRefusal}
use Rattle.file_check.specs.declared.counting.Census.{Census}

-- The file is sound, and has so many pages and trees.
pub record IsCensus (sizes : Sizes) (base : Paged) (catalog : Catalog) (census : Census) : Type 0 where
  pub database : Database
  pub sound : IsSound sizes base catalog database
  pub pages : census.pages ≡ base.count
  pub trees : census.trees ≡ length catalog.roots

-- the one answer of a file: that it is sound, or its first fault
abbrev pub IsAnswer : Sizes → Paged → Catalog → Result Census FileFault → Type 0
IsAnswer sizes base catalog answer = Reads (OrFault (IsCensus sizes base catalog) (FileHasFault sizes base)) answer

-- That the file is sound is answered, or the refusal that it has; or the store failed, or memory is wanting.
abbrev pub ChecksFile : {F : Type 0} → Sizes → Paged → Catalog → Result Census (CheckFault F) → Type 0
ChecksFile sizes base catalog (Ok census) = IsAnswer sizes base catalog (Ok census)
ChecksFile sizes base catalog (Err fault) = IsRefusal (λ refused. IsAnswer sizes base catalog (Err refused)) fault
