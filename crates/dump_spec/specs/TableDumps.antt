-- What a dump of a table answers of pages: the lines of its rows, or the first refusal.
use Rattle.std.specs.Prelude.{◌≡◌, ◌⊎◌, ℕ, List, [], ◌∷◌, ◌++◌, length, Option, Some, None, Result, Ok, Err}
use Rattle.std.specs.List.{flat_map}
use Rattle.refusal.specs.declared.Refusal.{Refusal}
use Rattle.refusal.specs.declared.Refusal.TheVariants.{NoTarget, TargetRecord, TreeDamaged}
use Rattle.refusal.specs.declared.Rule.TheVariants as broken
use Rattle.schema_spec.specs.declared.schema.SqlFault.{SqlFault}
use Rattle.schema_spec.specs.declared.schema.Table.{Table}
use Rattle.tree_spec.specs.declared.TreeKind.TheVariants.{Table as TableTree}
use Rattle.tree_spec.specs.Standing.{Sizes, Paged}
use Rattle.database_spec.specs.declared.catalog.Catalog.{Catalog}
use Rattle.database_spec.specs.declared.catalog.NamedEntry.{NamedEntry}
use Rattle.database_spec.specs.declared.fault.FileFault.{FileFault}
use Rattle.database_spec.specs.RightRows.{HasCatalog, CatalogHasFault}
use Rattle.database_spec.specs.Rows.{TableRow, IsRow}
use Rattle.database_spec.specs.Walks.{Finding, Finds, Ends, Holds, Breaks, Disorders, Bares, IsWalk}
use Rattle.prepared_spec.specs.declared.input_fault.RecordCause.{RecordCause}
use Rattle.prepared_spec.specs.Plans.{table_named}
use Rattle.prepared_spec.specs.PreparedRows.{HasCause}
use Rattle.dump_spec.specs.Printing.{row_line}
use Rattle.dump_spec.specs.Refusals.{IsTextRefusal, cause_number, file_refusal}

-- the line of a row of a table, and those of rows
abbrev pub line_of : TableRow → List ℕ
line_of row = row_line row.rowid row.values

abbrev pub lines_of : List TableRow → List ℕ
lines_of = flat_map line_of

-- text in front of what is printed; a refusal prints nothing else
abbrev pub behind : List ℕ → Result (List ℕ) Refusal → Result (List ℕ) Refusal
behind text (Ok later) = Ok (text ++ later)
behind text (Err refusal) = Err refusal

module _ (name : List ℕ) (table : Table) where
  -- The answer of what a walk over the table's tree finds, in order: each member is a row, whose line is printed, or the first that is none is refused for its cause, and so is damage.
  abbrev pub IsRowsAnswer : List Finding → Result (List ℕ) Refusal → Type 0
  IsRowsAnswer [] answer = answer ≡ Ok []
  IsRowsAnswer (Holds page member ∷ findings) answer =
      ((row : TableRow) × (later : Result (List ℕ) Refusal) × IsRow table member row × IsRowsAnswer findings later × (answer ≡ behind (line_of row) later))
      ⊎ ((cause : RecordCause) × HasCause member.payload (length table.columns) cause × (answer ≡ Err (TargetRecord name member.rowid (cause_number cause))))
  IsRowsAnswer (Breaks page rule ∷ findings) answer = answer ≡ Err (TreeDamaged page rule)
  IsRowsAnswer (Disorders page ∷ findings) answer = answer ≡ Err (TreeDamaged page broken.Cells)
  IsRowsAnswer (Finds page ∷ findings) answer = IsRowsAnswer findings answer
  IsRowsAnswer (Ends page depth ∷ findings) answer = IsRowsAnswer findings answer
  IsRowsAnswer (Bares page ∷ findings) answer = IsRowsAnswer findings answer

module _ (sizes : Sizes) (base : Paged) where
  -- the answer of a table of the catalog: what its text is refused for, or what is found in its tree
  abbrev pub IsMeantAnswer : NamedEntry → Result Table SqlFault → Result (List ℕ) Refusal → Type 0
  IsMeantAnswer named (Err fault) answer = (refusal : Refusal) × IsTextRefusal named.name fault refusal × (answer ≡ Err refusal)
  IsMeantAnswer named (Ok table) answer = (findings : List Finding) × IsWalk sizes base TableTree named.entry.root findings × IsRowsAnswer named.name table findings answer

  -- that of a name, by what has it in the catalog: a table or a view, or nothing
  abbrev pub IsNamedAnswer : List ℕ → Option NamedEntry → Result (List ℕ) Refusal → Type 0
  IsNamedAnswer name None answer = answer ≡ Err (NoTarget name)
  IsNamedAnswer name (Some named) answer = IsMeantAnswer named named.entry.meaning answer

  -- The answer of a name: the first fault of the schema, or else that of the catalog which it says.
  abbrev pub IsTableAnswer : List ℕ → Result (List ℕ) Refusal → Type 0
  IsTableAnswer name answer =
      ((fault : FileFault) × CatalogHasFault sizes base fault × (answer ≡ Err (file_refusal fault)))
      ⊎ ((catalog : Catalog) × HasCatalog sizes base catalog × IsNamedAnswer name (table_named name catalog.tables) answer)
