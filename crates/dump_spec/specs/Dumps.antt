-- What `dump` of a name answers of the files: the lines of its table, or the first refusal.
use Rattle.std.specs.Prelude.{◌≡◌, ◌⊎◌, ℕ, Bool, true, false, List, Result, codes}
use Rattle.file_spec.specs.Files.{Files}
use Rattle.refusal.specs.declared.Refusal.{Refusal}
use Rattle.schema_spec.specs.Words.{same_name}
use Rattle.tree_spec.specs.Standing.{Sizes, Paged}
use Rattle.dump_spec.specs.FileAnswers.{IsFilesAnswer}
use Rattle.dump_spec.specs.SchemaDumps.{IsSchemaAnswer}
use Rattle.dump_spec.specs.TableDumps.{IsTableAnswer}

-- whether a name is that of the table of the schema (Database File Format, section 2.6); the case of ASCII letters does not count
abbrev pub is_schema_name : List ℕ → Bool
is_schema_name name = same_name name (codes "sqlite_schema")

-- the answer of pages: of the schema's table, which is printed without the catalog, or of a table of the catalog
abbrev pub IsPagesAnswer : List ℕ → Sizes → Paged → Result (List ℕ) Refusal → Type 0
IsPagesAnswer name sizes base answer =
    ((is_schema_name name ≡ true) × IsSchemaAnswer sizes base answer) ⊎ ((is_schema_name name ≡ false) × IsTableAnswer sizes base name answer)

-- The answer of the files.
abbrev pub IsDump : List ℕ → Files → Result (List ℕ) Refusal → Type 0
IsDump name = IsFilesAnswer (IsPagesAnswer name)
