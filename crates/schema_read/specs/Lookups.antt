-- What is looked up in a catalog.
use Rattle.std.specs.Prelude.{ℕ, Bool, if◌then◌else◌, List, [], ◌∷◌, Option, Some, None}
use Rattle.schema_spec.specs.Words.{same_name}
use Rattle.database_spec.specs.declared.catalog.Entry.{Entry}
use Rattle.database_spec.specs.declared.catalog.NamedEntry.{NamedEntry}

-- the table or view of a name
abbrev pub entry_named : List ℕ → List NamedEntry → Option Entry
entry_named name [] = None
entry_named name (named ∷ tables) = if same_name named.name name then Some named.entry else entry_named name tables

-- the name of a table or a view
abbrev pub is_entry_named : List ℕ → NamedEntry → Bool
is_entry_named name named = same_name named.name name
