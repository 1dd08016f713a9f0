-- What each row of a table adds to what is printed, and what is printed of all that is left of a walk.
use Rattle.std.specs.Prelude.{◌≡◌, ℕ, ℤ, Bool, true, false, List, [], ◌++◌, length, Result, Ok, Err}
use Rattle.refusal.specs.declared.Refusal.{Refusal}
use Rattle.refusal.specs.declared.Refusal.TheVariants.{TargetRecord}
use Rattle.schema_spec.specs.declared.schema.Table.{Table}
use Rattle.tree_spec.specs.declared.TreeKind.TheVariants.{Table as TableTree}
use Rattle.tree_spec.specs.Standing.{Sizes, Paged}
use Rattle.tree_spec.specs.Trees.{Member}
use Rattle.tree_walk.specs.declared.path.Cursor.{Cursor}
use Rattle.tree_rows.specs.Remaining.{Remains}
use Rattle.database_spec.specs.Rows.{TableRow, IsRow}
use Rattle.database_spec.specs.Walks.{Finding, IsWalk}
use Rattle.prepared_spec.specs.declared.input_fault.RecordCause.{RecordCause}
use Rattle.prepared_spec.specs.PreparedRows.{HasCause}
use Rattle.row_values.specs.declared.read.Unread.{Unread}
use Rattle.row_values.specs.declared.read.Unread.TheVariants as unread
use Rattle.dump_spec.specs.Refusals.{cause_number}
use Rattle.dump_spec.specs.TableDumps.{line_of, behind, IsRowsAnswer}
use Rattle.table_dump.specs.declared.fault.PrintFault.{PrintFault}
use Rattle.table_dump.specs.declared.fault.RowFault.{RowFault}
use Rattle.table_dump.specs.Answers.{Answers, IsRefusedOrOther, RefusesRow}

-- the refusal of a record that is not read
abbrev pub IsRecordRefusal : List ℕ → ℤ → Unread → Refusal → Type 0
IsRecordRefusal name rowid (unread.Cause cause) refusal = refusal ≡ TargetRecord name rowid (cause_number cause)
IsRecordRefusal name rowid (unread.Memory error) refusal = ⊥

-- a member is a row of a table, whose line this is
abbrev pub IsLine : Table → Member → List ℕ → Type 0
IsLine table member line = (row : TableRow) × IsRow table member row × (line ≡ line_of row)

module _ (name : List ℕ) (table : Table) where
  -- a member is none, of which this is the refusal
  abbrev pub IsWrongRow : Member → Refusal → Type 0
  IsWrongRow member refusal = (cause : RecordCause) × HasCause member.payload (length table.columns) cause × (refusal ≡ TargetRecord name member.rowid (cause_number cause))

  -- its line was appended, or it is refused
  abbrev pub PrintsRow : Member → List ℕ → List ℕ → Result Unit RowFault → Type 0
  PrintsRow member before after (Ok done) = (line : List ℕ) × IsLine table member line × (after ≡ before ++ line)
  PrintsRow member before after (Err fault) = RefusesRow (IsWrongRow member) fault

  module _ (sizes : Sizes) (base : Paged) where
    -- A cursor left these findings for the rest of the walk, behind this text.
    pub record Leaves (findings : List Finding) (text : List ℕ) (cursor : Cursor) : Type 0 where
      pub later : List Finding
      pub remains : Remains sizes base TableTree later cursor
      pub goes_on : (answer : Result (List ℕ) Refusal) → IsRowsAnswer name table later answer → IsRowsAnswer name table findings (behind text answer)

    abbrev pub PrintsOrRefuses : {F : Type 0} → List Finding → Cursor → List ℕ → List ℕ → Result Bool (PrintFault F) → Type 0
    PrintsOrRefuses findings cursor before after (Ok true) = (line : List ℕ) × Leaves findings line cursor × (after ≡ before ++ line)
    PrintsOrRefuses findings cursor before after (Ok false) = IsRowsAnswer name table findings (Ok []) × (after ≡ before)
    PrintsOrRefuses findings cursor before after (Err fault) = IsRefusedOrOther (λ refusal. IsRowsAnswer name table findings (Err refusal)) fault

    -- a row is printed, and the cursor moves on
    abbrev pub PrintsNext : {F : Type 0} → Cursor → Cursor → List ℕ → List ℕ → Result Bool (PrintFault F) → Type 0
    PrintsNext old new before after result = (findings : List Finding) → Remains sizes base TableTree findings old → PrintsOrRefuses findings new before after result

    -- all that is left from a cursor on is printed
    abbrev pub PrintsFrom : {F : Type 0} → Cursor → Result (List ℕ) (PrintFault F) → Type 0
    PrintsFrom cursor result = (findings : List Finding) → Remains sizes base TableTree findings cursor → Answers (IsRowsAnswer name table findings) result

    -- Whatever the store holds, all that a walk over the tree at a root finds is printed, or the first that is wrong is refused.
    abbrev pub PrintsTree : {F : Type 0} → ℕ → Result (List ℕ) (PrintFault F) → Type 0
    PrintsTree root result = (findings : List Finding) → IsWalk sizes base TableTree root findings → Answers (IsRowsAnswer name table findings) result
