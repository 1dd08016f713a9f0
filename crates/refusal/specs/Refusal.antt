-- How a refusal is printed: its number, its name and its fields, with a space between.
use Rattle.std.specs.Prelude.{ℕ, List, [], ◌∷◌, ◌++◌, codes}
use Rattle.std.specs.Fmt.{decimal, signed_decimal}
use Rattle.std.specs.List.{flat_map}
use Rattle.refusal.specs.declared.Part.{Part}
use Rattle.refusal.specs.declared.Part.TheVariants as part
use Rattle.refusal.specs.declared.Rule.{Rule}
use Rattle.refusal.specs.declared.Rule.TheVariants as rule
use Rattle.refusal.specs.declared.Measure.{Measure}
use Rattle.refusal.specs.declared.Measure.TheVariants as measure
use Rattle.refusal.specs.declared.Refusal.{Refusal}
use Rattle.refusal.specs.declared.Refusal.TheVariants.{NotYet, NotADatabase, PageSize, WalMode, Encoding, AutoVacuum, SizeMismatch, ReservedSpace, SchemaFormat, BadPage, ChainBroken, TrunkDamaged, TargetFull, TreeDamaged, SqlSyntax, OutsideProfile, SchemaRow, DuplicateName, PageTwice, PageLost, KeyOrder, IndexDisagrees, Damaged, ControlValue, ControlLength, ControlLetter, DeltaColumn, NoTarget, ColumnMissing, ColumnUnknown, RowidMissing, KeyNull, KeyMismatch, KeyChanged, DuplicateKey, ClassChange, TooMuch, DataRecord, TargetRecord, LogHeader, LogFrame, OalShort, OalFrame, NotState, StateKey, WalPresent, JournalPresent, WalMissing}

-- the word of a part that is not built
abbrev pub part_word : Part → List ℕ
part_word part.Words = codes "words"
part_word part.Files = codes "files"
part_word part.Target = codes "target"
part_word part.Rbu = codes "rbu"
part_word part.Rows = codes "rows"
part_word part.Room = codes "room"
part_word part.Log = codes "log"
part_word part.Name = codes "name"

-- the word of a rule
abbrev pub rule_word : Rule → List ℕ
rule_word rule.Kind = codes "kind"
rule_word rule.Cells = codes "cells"
rule_word rule.Child = codes "child"
rule_word rule.Depth = codes "depth"
rule_word rule.Empty = codes "empty"
rule_word rule.Chain = codes "chain"
rule_word rule.Trunk = codes "trunk"
rule_word rule.Count = codes "count"
rule_word rule.Record = codes "record"

-- the word of a measure
abbrev pub measure_word : Measure → List ℕ
measure_word measure.Columns = codes "columns"
measure_word measure.Indexes = codes "indexes"
measure_word measure.Name = codes "name"
measure_word measure.Record = codes "record"
measure_word measure.Rows = codes "rows"
measure_word measure.Bytes = codes "bytes"

-- the number and the name of a refusal
abbrev pub refusal_title : Refusal → List ℕ
refusal_title (NotYet part) = codes "1 NotYet"
refusal_title NotADatabase = codes "30 NotADatabase"
refusal_title (PageSize value) = codes "31 PageSize"
refusal_title WalMode = codes "32 WalMode"
refusal_title (Encoding value) = codes "33 Encoding"
refusal_title (AutoVacuum value) = codes "34 AutoVacuum"
refusal_title (SizeMismatch pages length) = codes "35 SizeMismatch"
refusal_title (ReservedSpace value) = codes "36 ReservedSpace"
refusal_title (SchemaFormat value) = codes "39 SchemaFormat"
refusal_title (BadPage rule) = codes "40 BadPage"
refusal_title (ChainBroken page) = codes "45 ChainBroken"
refusal_title (TrunkDamaged page) = codes "50 TrunkDamaged"
refusal_title (TargetFull pages limit) = codes "51 TargetFull"
refusal_title (TreeDamaged page rule) = codes "55 TreeDamaged"
refusal_title (SqlSyntax table offset) = codes "60 SqlSyntax"
refusal_title (OutsideProfile table clause) = codes "61 OutsideProfile"
refusal_title (SchemaRow rowid) = codes "62 SchemaRow"
refusal_title (DuplicateName name) = codes "63 DuplicateName"
refusal_title (PageTwice page) = codes "70 PageTwice"
refusal_title (PageLost page) = codes "71 PageLost"
refusal_title (KeyOrder page) = codes "72 KeyOrder"
refusal_title (IndexDisagrees index rowid) = codes "73 IndexDisagrees"
refusal_title (Damaged page rule) = codes "74 Damaged"
refusal_title (ControlValue table rowid) = codes "80 ControlValue"
refusal_title (ControlLength table rowid has needs) = codes "81 ControlLength"
refusal_title (ControlLetter table rowid place) = codes "82 ControlLetter"
refusal_title (DeltaColumn table rowid place) = codes "83 DeltaColumn"
refusal_title (NoTarget name) = codes "84 NoTarget"
refusal_title (ColumnMissing table column) = codes "85 ColumnMissing"
refusal_title (ColumnUnknown table column) = codes "86 ColumnUnknown"
refusal_title (RowidMissing table) = codes "87 RowidMissing"
refusal_title (KeyNull table rowid) = codes "88 KeyNull"
refusal_title (KeyMismatch table rowid) = codes "89 KeyMismatch"
refusal_title (KeyChanged table rowid column) = codes "90 KeyChanged"
refusal_title (DuplicateKey table first second) = codes "91 DuplicateKey"
refusal_title (ClassChange table rowid column) = codes "92 ClassChange"
refusal_title (TooMuch what has limit) = codes "93 TooMuch"
refusal_title (DataRecord table rowid cause) = codes "95 DataRecord"
refusal_title (TargetRecord table rowid cause) = codes "96 TargetRecord"
refusal_title LogHeader = codes "100 LogHeader"
refusal_title (LogFrame number) = codes "101 LogFrame"
refusal_title (OalShort has needs) = codes "102 OalShort"
refusal_title (OalFrame number) = codes "103 OalFrame"
refusal_title NotState = codes "110 NotState"
refusal_title (StateKey key) = codes "111 StateKey"
refusal_title WalPresent = codes "120 WalPresent"
refusal_title JournalPresent = codes "121 JournalPresent"
refusal_title WalMissing = codes "122 WalMissing"

-- its fields, each as it is printed
abbrev pub refusal_fields : Refusal → List (List ℕ)
refusal_fields (NotYet part) = part_word part ∷ []
refusal_fields NotADatabase = []
refusal_fields (PageSize value) = decimal value ∷ []
refusal_fields WalMode = []
refusal_fields (Encoding value) = decimal value ∷ []
refusal_fields (AutoVacuum value) = decimal value ∷ []
refusal_fields (SizeMismatch pages length) = decimal pages ∷ decimal length ∷ []
refusal_fields (ReservedSpace value) = decimal value ∷ []
refusal_fields (SchemaFormat value) = decimal value ∷ []
refusal_fields (BadPage rule) = rule_word rule ∷ []
refusal_fields (ChainBroken page) = decimal page ∷ []
refusal_fields (TrunkDamaged page) = decimal page ∷ []
refusal_fields (TargetFull pages limit) = decimal pages ∷ decimal limit ∷ []
refusal_fields (TreeDamaged page rule) = decimal page ∷ rule_word rule ∷ []
refusal_fields (SqlSyntax table offset) = table ∷ decimal offset ∷ []
refusal_fields (OutsideProfile table clause) = table ∷ clause ∷ []
refusal_fields (SchemaRow rowid) = signed_decimal rowid ∷ []
refusal_fields (DuplicateName name) = name ∷ []
refusal_fields (PageTwice page) = decimal page ∷ []
refusal_fields (PageLost page) = decimal page ∷ []
refusal_fields (KeyOrder page) = decimal page ∷ []
refusal_fields (IndexDisagrees index rowid) = index ∷ signed_decimal rowid ∷ []
refusal_fields (Damaged page rule) = decimal page ∷ rule_word rule ∷ []
refusal_fields (ControlValue table rowid) = table ∷ signed_decimal rowid ∷ []
refusal_fields (ControlLength table rowid has needs) = table ∷ signed_decimal rowid ∷ decimal has ∷ decimal needs ∷ []
refusal_fields (ControlLetter table rowid place) = table ∷ signed_decimal rowid ∷ decimal place ∷ []
refusal_fields (DeltaColumn table rowid place) = table ∷ signed_decimal rowid ∷ decimal place ∷ []
refusal_fields (NoTarget name) = name ∷ []
refusal_fields (ColumnMissing table column) = table ∷ column ∷ []
refusal_fields (ColumnUnknown table column) = table ∷ column ∷ []
refusal_fields (RowidMissing table) = table ∷ []
refusal_fields (KeyNull table rowid) = table ∷ signed_decimal rowid ∷ []
refusal_fields (KeyMismatch table rowid) = table ∷ signed_decimal rowid ∷ []
refusal_fields (KeyChanged table rowid column) = table ∷ signed_decimal rowid ∷ column ∷ []
refusal_fields (DuplicateKey table first second) = table ∷ signed_decimal first ∷ signed_decimal second ∷ []
refusal_fields (ClassChange table rowid column) = table ∷ signed_decimal rowid ∷ column ∷ []
refusal_fields (TooMuch what has limit) = measure_word what ∷ decimal has ∷ decimal limit ∷ []
refusal_fields (DataRecord table rowid cause) = table ∷ signed_decimal rowid ∷ decimal cause ∷ []
refusal_fields (TargetRecord table rowid cause) = table ∷ signed_decimal rowid ∷ decimal cause ∷ []
refusal_fields LogHeader = []
refusal_fields (LogFrame number) = decimal number ∷ []
refusal_fields (OalShort has needs) = decimal has ∷ decimal needs ∷ []
refusal_fields (OalFrame number) = decimal number ∷ []
refusal_fields NotState = []
refusal_fields (StateKey key) = decimal key ∷ []
refusal_fields WalPresent = []
refusal_fields JournalPresent = []
refusal_fields WalMissing = []

-- what is printed of a refusal
abbrev pub refusal_text : Refusal → List ℕ
refusal_text refusal = refusal_title refusal ++ flat_map (λ field. codes " " ++ field) (refusal_fields refusal)
