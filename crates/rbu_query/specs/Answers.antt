-- The answer to a question, and what ends a call before it.
use Rattle.std.specs.Prelude.{◌≡◌, ◌⊎◌, ℕ, ℤ, List, Option, Some, None, Result, Ok, Err}
use Rattle.common_spec.specs.Counts.{CountsFaults}
use Rattle.db_header.specs.declared.fields.Header.{Header}
use Rattle.db_header.specs.declared.fields.HeaderFault.{HeaderFault}
use Rattle.db_header.specs.Reading.{IsHeaderOf}
use Rattle.rbu_disk.specs.declared.disk.DiskFault.{DiskFault}
use Rattle.rbu_disk.specs.Call.{Failures}
use Rattle.rbu_disk.specs.Disk.{IsCause}
use Rattle.refusal.specs.declared.Refusal.{Refusal}
use Rattle.refusal.specs.declared.Refusal.TheVariants.{SchemaRow}
use Rattle.refusal.specs.declared.Refusal.TheVariants as refusal
use Rattle.tree_spec.specs.declared.fault.TreeFault.{TreeFault}
use Rattle.tree_spec.specs.declared.fault.TreeFault.TheVariants as tree
use Rattle.tree_walk.specs.declared.cursor.Row.{Row}
use Rattle.schema_read.specs.declared.read.CatalogFault.{CatalogFault}
use Rattle.schema_read.specs.declared.read.CatalogFault.TheVariants as catalog
use Rattle.db_check.specs.declared.fault.CheckFault.{CheckFault}
use Rattle.db_check.specs.declared.fault.CheckFault.TheVariants as check
use Rattle.table_dump.specs.declared.fault.PrintFault.{PrintFault}
use Rattle.table_dump.specs.declared.fault.PrintFault.TheVariants as print
use Rattle.dump_spec.specs.SchemaRows.{IsFirstBad}
use Rattle.rbu_query.specs.declared.halt.Halt.{Halt}
use Rattle.rbu_query.specs.declared.halt.Halt.TheVariants.{Fault, Memory}
use Rattle.tree_rows.specs.Rows.{members_of}
use Rattle.rbu_query.specs.Rows.{HasLines}

-- the fault of the disk that ends a call, if one does
abbrev pub fault_in : Halt → Option DiskFault
fault_in (Fault fault) = Some fault
fault_in Memory = None

-- what a call owes of the calls on a disk that fail: they are counted, and one that ends it is its cause
abbrev pub Counts : {T : Type 0} → Failures → Failures → Result T Halt → Type 0
Counts before now result = CountsFaults (λ failures. failures.count) (λ f h halt. IsCause (fault_in halt) f h) before now result

-- the lines of rows, or the first that is no row of the schema
abbrev pub IsSchemaOf : List Row → Result (List ℕ) Refusal → Type 0
IsSchemaOf rows answer =
    ((text : List ℕ) × (answer ≡ Ok text) × HasLines rows text) ⊎ ((rowid : ℤ) × (answer ≡ Err (SchemaRow rowid)) × IsFirstBad (members_of rows) rowid)

-- the header is that of some bytes
abbrev pub HasHeader : Header → Type 0
HasHeader header = (bytes : List ℕ) × (len : ℕ) × IsHeaderOf bytes len header

abbrev pub IsReadHeader : Result Header HeaderFault → Type 0
IsReadHeader (Ok header) = HasHeader header
IsReadHeader (Err fault) = Unit {0}

-- the refusal of a damaged tree, or the fault, which is another
abbrev pub IsRefusedBy : {F : Type 0} → TreeFault F → Result Refusal (TreeFault F) → Type 0
IsRefusedBy (tree.TreeDamaged page rule) result = result ≡ Ok (refusal.TreeDamaged page rule)
IsRefusedBy (tree.TrunkDamaged page) result = result ≡ Err (tree.TrunkDamaged page)
IsRefusedBy (tree.TargetFull pages limit) result = result ≡ Err (tree.TargetFull pages limit)
IsRefusedBy (tree.Store fault) result = result ≡ Err (tree.Store fault)
IsRefusedBy (tree.Memory error) result = result ≡ Err (tree.Memory error)

-- a refusal apart from what ends the call: the text and the refusal are answers, and another fault stays one
abbrev pub IsSplit : {F : Type 0} → Result (List ℕ) (PrintFault F) → Result (Result (List ℕ) Refusal) (TreeFault F) → Type 0
IsSplit (Ok text) result = result ≡ Ok (Ok text)
IsSplit (Err (print.Refused refusal)) result = result ≡ Ok (Err refusal)
IsSplit (Err (print.Store fault)) result = result ≡ Err (tree.Store fault)
IsSplit (Err (print.Memory error)) result = result ≡ Err (tree.Memory error)

-- why there is no catalog, as what a database is refused for
abbrev pub of_catalog_fault : {F : Type 0} → CatalogFault F → PrintFault F
of_catalog_fault (catalog.TreeDamaged page rule) = print.Refused (refusal.TreeDamaged page rule)
of_catalog_fault (catalog.SchemaRow rowid) = print.Refused (refusal.SchemaRow rowid)
of_catalog_fault (catalog.DuplicateName name) = print.Refused (refusal.DuplicateName name)
of_catalog_fault (catalog.Store fault) = print.Store fault
of_catalog_fault (catalog.Memory error) = print.Memory error

-- why it is not sound
abbrev pub of_check_fault : {F : Type 0} → CheckFault F → PrintFault F
of_check_fault (check.PageTwice page) = print.Refused (refusal.PageTwice page)
of_check_fault (check.PageLost page) = print.Refused (refusal.PageLost page)
of_check_fault (check.KeyOrder page) = print.Refused (refusal.KeyOrder page)
of_check_fault (check.IndexDisagrees index rowid) = print.Refused (refusal.IndexDisagrees index rowid)
of_check_fault (check.Damaged page rule) = print.Refused (refusal.Damaged page rule)
of_check_fault (check.Store fault) = print.Store fault
of_check_fault (check.Memory error) = print.Memory error
