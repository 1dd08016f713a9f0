-- What `check` answers of the files: that the database is sound, or the first refusal.
use Rattle.std.specs.Prelude.{◌≡◌, ◌⊎◌, ℕ, List, ◌++◌, length, Result, Ok, Err, codes}
use Rattle.std.specs.Fmt.{decimal}
use Rattle.file_spec.specs.Files.{Files}
use Rattle.refusal.specs.declared.Refusal.{Refusal}
use Rattle.tree_spec.specs.Standing.{Sizes, Paged}
use Rattle.database_spec.specs.declared.catalog.Catalog.{Catalog}
use Rattle.database_spec.specs.declared.fault.FileFault.{FileFault}
use Rattle.database_spec.specs.Databases.{Database, IsSound}
use Rattle.database_spec.specs.FileFaults.{FileHasFault}
use Rattle.dump_spec.specs.FileAnswers.{IsFilesAnswer}
use Rattle.dump_spec.specs.Refusals.{file_refusal}

-- the line of a sound database: how many pages it has, and how many trees
abbrev pub sound_line : ℕ → ℕ → List ℕ
sound_line pages trees = codes "sound " ++ (decimal pages ++ (codes " " ++ (decimal trees ++ codes "\n")))

-- the answer of pages: their first fault, or that they are sound, with their number and that of the roots
abbrev pub IsSoundAnswer : Sizes → Paged → Result (List ℕ) Refusal → Type 0
IsSoundAnswer sizes base answer =
    ((fault : FileFault) × FileHasFault sizes base fault × (answer ≡ Err (file_refusal fault)))
    ⊎ ((catalog : Catalog) × (database : Database) × IsSound sizes base catalog database × (answer ≡ Ok (sound_line base.count (length catalog.roots))))

-- The answer of the files.
abbrev pub IsCheck : Files → Result (List ℕ) Refusal → Type 0
IsCheck = IsFilesAnswer IsSoundAnswer
