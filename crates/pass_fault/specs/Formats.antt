-- The schema format of a database (Database File Format, section 1.3.10).
use Rattle.std.specs.Prelude.{ℕ, ◌==◌, if◌then◌else◌, List}
use Rattle.format_spec.specs.Header.{schema_format}

-- the schema format that page 1 says; 0 is read as 1
abbrev pub format_in : List ℕ → ℕ
format_in page = if schema_format page == 0 then 1 else schema_format page
