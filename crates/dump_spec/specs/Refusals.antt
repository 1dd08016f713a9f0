-- What the faults of a database are refused as.
use Rattle.std.specs.Prelude.{◌≡◌, ℕ, List, codes}
use Rattle.db_header.specs.declared.fields.HeaderFault.{HeaderFault}
use Rattle.db_header.specs.declared.fields.HeaderFault.TheVariants as header
use Rattle.refusal.specs.declared.Refusal.{Refusal}
use Rattle.refusal.specs.declared.Refusal.TheVariants as refused
use Rattle.schema_spec.specs.declared.schema.Clause.{Clause}
use Rattle.schema_spec.specs.declared.schema.Clause.TheVariants as clause
use Rattle.schema_spec.specs.declared.schema.SqlFault.{SqlFault}
use Rattle.schema_spec.specs.declared.schema.SqlFault.TheVariants as text
use Rattle.database_spec.specs.declared.fault.FileFault.{FileFault}
use Rattle.database_spec.specs.declared.fault.FileFault.TheVariants as file
use Rattle.prepared_spec.specs.declared.input_fault.RecordCause.{RecordCause}
use Rattle.prepared_spec.specs.declared.input_fault.RecordCause.TheVariants as cause

-- the refusal of a header
abbrev pub header_refusal : HeaderFault → Refusal
header_refusal header.NotADatabase = refused.NotADatabase
header_refusal (header.PageSize value) = refused.PageSize value
header_refusal header.WalMode = refused.WalMode
header_refusal (header.Encoding value) = refused.Encoding value
header_refusal (header.AutoVacuum value) = refused.AutoVacuum value
header_refusal (header.SizeMismatch pages length) = refused.SizeMismatch pages length
header_refusal (header.ReservedSpace value) = refused.ReservedSpace value
header_refusal (header.SchemaFormat value) = refused.SchemaFormat value

-- the refusal of a schema and of trees
abbrev pub file_refusal : FileFault → Refusal
file_refusal (file.TreeDamaged page rule) = refused.TreeDamaged page rule
file_refusal (file.SchemaRow rowid) = refused.SchemaRow rowid
file_refusal (file.DuplicateName name) = refused.DuplicateName name
file_refusal (file.PageTwice page) = refused.PageTwice page
file_refusal (file.PageLost page) = refused.PageLost page
file_refusal (file.KeyOrder page) = refused.KeyOrder page
file_refusal (file.IndexDisagrees index rowid) = refused.IndexDisagrees index rowid
file_refusal (file.Damaged page rule) = refused.Damaged page rule

-- the word that is printed for a clause outside the profile
abbrev pub clause_word : Clause → List ℕ
clause_word clause.Without = codes "WITHOUT"
clause_word clause.Strict = codes "STRICT"
clause_word clause.Generated = codes "GENERATED"
clause_word clause.As = codes "AS"
clause_word clause.On = codes "ON"
clause_word clause.Desc = codes "DESC"
clause_word clause.Collate = codes "COLLATE"
clause_word clause.Real = codes "REAL"
clause_word clause.Unique = codes "UNIQUE"
clause_word clause.Primary = codes "PRIMARY"
clause_word clause.Where = codes "WHERE"
clause_word clause.Expression = codes "EXPRESSION"
clause_word clause.Virtual = codes "VIRTUAL"
clause_word clause.View = codes "VIEW"

-- the refusal of a text, under the name of its table; want of memory is none
abbrev pub IsTextRefusal : List ℕ → SqlFault → Refusal → Type 0
IsTextRefusal name (text.SqlSyntax offset) refusal = refusal ≡ refused.SqlSyntax name offset
IsTextRefusal name (text.OutsideProfile outside) refusal = refusal ≡ refused.OutsideProfile name (clause_word outside)
IsTextRefusal name (text.Memory error) refusal = ⊥

-- the number by which a cause is printed
abbrev pub cause_number : RecordCause → ℕ
cause_number cause.SizeOverLimit = 11
cause_number cause.ShortHeader = 20
cause_number cause.ReservedType = 21
cause_number cause.RealValue = 22
cause_number cause.BodyLength = 23
cause_number cause.ShortRecord = 25
