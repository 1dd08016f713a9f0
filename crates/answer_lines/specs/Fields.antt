-- The fields of a line, and which answers have a name.
use Rattle.std.specs.Prelude.{ℕ, ◌≤◌, Bool, true, false, List, [], ◌++◌, codes, length}
use Rattle.std.specs.Fmt.{decimal, signed_decimal}
use Rattle.refusal.specs.declared.Refusal.{Refusal}
use Rattle.refusal.specs.declared.Refusal.TheVariants.{SqlSyntax, OutsideProfile, DuplicateName, IndexDisagrees, ControlValue, ControlLength, ControlLetter, DeltaColumn, NoTarget, ColumnMissing, ColumnUnknown, RowidMissing, KeyNull, KeyMismatch, KeyChanged, DuplicateKey, ClassChange, DataRecord, TargetRecord}
use Rattle.update_spec.specs.declared.Outcome.TheVariants.{KeyPresent, Refused}
use Rattle.update_spec.specs.declared.Answer.{Answer}
use Rattle.update_spec.specs.declared.Answer.TheVariants.{Ended}
use Rattle.answer_lines.specs.declared.fields.Field.{Field}
use Rattle.answer_lines.specs.declared.fields.Field.TheVariants.{Nothing, Word, Number, Rowid, Name}

-- a field behind a space
abbrev pub field_text : Field → List ℕ
field_text Nothing = []
field_text (Word word) = codes " " ++ word.now
field_text (Number number) = codes " " ++ decimal number
field_text (Rowid rowid) = codes " " ++ signed_decimal rowid
field_text (Name name) = codes " " ++ name.now

-- whether a field is a name, which has no bound
abbrev pub is_name : Field → Bool
is_name (Name name) = true
is_name other = false

-- a word of a line has at most 24 bytes
abbrev pub IsShort : Field → Type 0
IsShort (Word word) = length word.now ≤ 24
IsShort other = Unit {0}

-- whether a refusal has a name among its fields
abbrev pub has_name : Refusal → Bool
has_name (SqlSyntax table offset) = true
has_name (OutsideProfile table clause) = true
has_name (DuplicateName name) = true
has_name (IndexDisagrees index rowid) = true
has_name (ControlValue table rowid) = true
has_name (ControlLength table rowid has needs) = true
has_name (ControlLetter table rowid place) = true
has_name (DeltaColumn table rowid place) = true
has_name (NoTarget name) = true
has_name (ColumnMissing table column) = true
has_name (ColumnUnknown table column) = true
has_name (RowidMissing table) = true
has_name (KeyNull table rowid) = true
has_name (KeyMismatch table rowid) = true
has_name (KeyChanged table rowid column) = true
has_name (DuplicateKey table first second) = true
has_name (ClassChange table rowid column) = true
has_name (DataRecord table rowid cause) = true
has_name (TargetRecord table rowid cause) = true
has_name other = false

-- whether the line of an answer has a name, for which it takes memory
abbrev pub takes_memory : Answer → Bool
takes_memory (Ended (KeyPresent table data_rowid)) = true
takes_memory (Ended (Refused refusal)) = has_name refusal
takes_memory other = false
