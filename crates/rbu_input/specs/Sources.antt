-- The `data_` tables of an RBU database, in order of their names.
use Rattle.std.specs.Prelude.{Bool, [], is_some}
use Rattle.std.specs.Option.{unwrap_or}
use Rattle.std.specs.Ordering.{is_lt, nat_cmp}
use Rattle.std.specs.Cmp.Lexicographic.{slice_cmp}
use denote.Ref.{Bor}
use Rattle.database_spec.specs.declared.catalog.NamedEntry.{NamedEntry}
use Rattle.prepared_spec.specs.DataTables.{DataTable, target_in}

-- a table has the name of a `data_` table
abbrev pub is_source : NamedEntry → Bool
is_source named = is_some (target_in named.name)

-- it is this `data_` table
abbrev pub source_of : NamedEntry → DataTable
source_of named = record { source = named.name; target = unwrap_or (target_in named.name) []; entry = named.entry }

-- its name stands before another
abbrev pub is_before : Bor NamedEntry → Bor NamedEntry → Bool
is_before a b = is_lt (slice_cmp nat_cmp a.now.name b.now.name)
