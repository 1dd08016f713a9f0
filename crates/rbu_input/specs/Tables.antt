-- What is answered of a `data_` table by itself: nothing that is wrong with it, or its first fault.
use Rattle.std.specs.Prelude.{◌≡◌, ◌||◌, ℕ, if◌then◌else◌, List, [], ◌∷◌, ◌++◌, length, map, Option, Some, None, Result, Ok, Err, codes}
use Rattle.schema_spec.specs.declared.schema.SqlFault.{SqlFault}
use Rattle.schema_spec.specs.declared.schema.Table.{Table}
use Rattle.database_spec.specs.declared.catalog.Entry.{Entry}
use Rattle.database_spec.specs.declared.catalog.NamedEntry.{NamedEntry}
use Rattle.refusal.specs.declared.Measure.TheVariants as measure
use Rattle.prepared_spec.specs.declared.input_fault.InputFault.{InputFault}
use Rattle.prepared_spec.specs.declared.input_fault.InputFault.TheVariants.{ColumnMissing, ColumnUnknown, RowidMissing}
use Rattle.prepared_spec.specs.DataTables.{DataTable, begins_with, column_names, first_fault, has_column, index_names, meaning_fault, over}
use Rattle.rbu_input.specs.declared.fault.InputError.{InputError}
use Rattle.rbu_input.specs.declared.fault.InputError.TheVariants.{Refused, Memory}

-- a check tells of a fault, or that there is none, unless memory was wanting
abbrev pub Tells : Option InputFault → Result Unit InputError → Type 0
Tells fault (Ok done) = fault ≡ None
Tells fault (Err (Refused refused)) = fault ≡ Some refused
Tells fault (Err (Memory error)) = Unit {0}

-- the fault of each name that is too long
abbrev pub names_over : List (List ℕ) → List (Option InputFault)
names_over names = map (λ name. over measure.Name 255 (length name)) names

-- a column that the `data_` table has to have
abbrev pub column_missing : List ℕ → Table → List ℕ → Option InputFault
column_missing source own name = if has_column name own then None else Some (ColumnMissing source name)

-- rowids that it has to have for a target without a PRIMARY KEY
abbrev pub rowid_missing : List ℕ → Table → Table → Option InputFault
rowid_missing source target own =
    elim target.key as (λ _. Option InputFault) [ [] ↦ (if has_column (codes "rbu_rowid") own then None else Some (RowidMissing source)) | (place ∷ places) ↦ None ]

-- a column of its own that has to be the target's or RBU's
abbrev pub column_unknown : List ℕ → Table → List ℕ → Option InputFault
column_unknown source target name = if has_column name target || begins_with (codes "rbu_") name then None else Some (ColumnUnknown source name)

-- a `data_` table by its name, that of its target, and its entry
abbrev pub table_at : List ℕ → List ℕ → Entry → DataTable
table_at source target entry = record { source = source; target = target; entry = entry }

-- the faults of a `data_` table by its columns
abbrev pub own_faults : List ℕ → Table → Table → List (Option InputFault)
own_faults source target own =
    first_fault (map (column_missing source own) (column_names target ++ codes "rbu_control" ∷ [])) ∷ rowid_missing source target own ∷ first_fault (map (column_unknown source target) (column_names own)) ∷ []

-- by the limits, and then by its columns
abbrev pub layout_faults : List ℕ → NamedEntry → Table → Table → List (Option InputFault)
layout_faults source named target own =
    over measure.Columns 200 (length target.columns) ∷ over measure.Indexes 64 (length named.entry.indexes)
    ∷ first_fault (names_over (named.name ∷ (index_names named.entry.indexes ++ source ∷ []))) ∷ own_faults source target own

-- where both texts are read
abbrev pub meanings_faults : List ℕ → NamedEntry → Result Table SqlFault → Result Table SqlFault → List (Option InputFault)
meanings_faults source named (Ok target) (Ok own) = layout_faults source named target own
meanings_faults source named _ _ = []

-- by the texts of the target's indexes, by its own, and then as above
abbrev pub later_faults : List ℕ → NamedEntry → Result Table SqlFault → List (Option InputFault)
later_faults source named own =
    map (λ index. meaning_fault named.name index.1) named.entry.indexes ++ meaning_fault source own ∷ meanings_faults source named named.entry.meaning own
