-- What is answered of the row that a prepared row meets.
use Rattle.std.specs.Prelude.{◌≡◌, ◌≢◌, ◌⊎◌, ℕ, ℤ, List, length, Contains, Option, Some, None, Result, Ok, MatchResult}
use Rattle.rbu_value.specs.declared.value.Value.{Value}
use Rattle.schema_spec.specs.declared.schema.Table.{Table}
use Rattle.tree_spec.specs.declared.TreeKind.TheVariants.{Table as TableTree}
use Rattle.tree_spec.specs.Trees.{Member}
use Rattle.tree_spec.specs.Standing.{Sizes, Paged, IsTree}
use Rattle.tree_walk.specs.declared.cursor.Row.{Row}
use Rattle.prepared_spec.specs.PreparedRows.{HasCause}
use Rattle.pass_fault.specs.declared.fault.PassFault.{PassFault}
use Rattle.pass_fault.specs.Faults.{IsRecordFault, IsRecordOf, IsWanting}
use Rattle.row_values.specs.declared.read.Unread.{Unread}
use Rattle.row_values.specs.declared.read.Unread.TheVariants.{Cause, Memory}
use Rattle.row_values.specs.Values.{HasValues, member_with}
use Rattle.imposter.specs.declared.target.Target.{Target}

-- a record is none of a row, for this cause, or memory is wanting
abbrev pub RefusesUnread : {F : Type 0} → List ℕ → ℤ → Unread → PassFault F → Type 0
RefusesUnread name rowid (Cause cause) fault = IsWanting fault ⊎ IsRecordOf name rowid cause fault
RefusesUnread name rowid (Memory error) fault = IsWanting fault

-- refusal 96 of a record that is none of a row, for a cause that it has
abbrev pub IsUnreadRow : {F : Type 0} → Target → ℤ → List ℕ → PassFault F → Type 0
IsUnreadRow target rowid payload fault = IsRecordFault (λ table at cause. (table ≡ target.name) × (at ≡ rowid) × HasCause payload (length target.table.columns) cause) fault

-- a row by its rowid and its values
abbrev pub ReadsRow : {F : Type 0} → Target → Row → Result (ℤ × List Value) (PassFault F) → Type 0
ReadsRow target row result =
    MatchResult result (λ met. (met.0 ≡ row.rowid) × HasValues target.table row.rowid row.payload met.1) (λ fault. IsWanting fault ⊎ IsUnreadRow target row.rowid row.payload fault)

-- the same of a row that was found, if one was
abbrev pub ReadsMet : {F : Type 0} → Target → Option Row → Result (Option (ℤ × List Value)) (PassFault F) → Type 0
ReadsMet target None result = result ≡ Ok None
ReadsMet target (Some row) result =
    MatchResult result (λ met. (read : ℤ × List Value) × (met ≡ Some read) × (read.0 ≡ row.rowid) × HasValues target.table row.rowid row.payload read.1) (λ fault. IsWanting fault ⊎ IsUnreadRow target row.rowid row.payload fault)

-- the row of a rowid among the members of a table, or there is none
abbrev pub IsMetIn : Table → ℤ → List Member → Option (ℤ × List Value) → Type 0
IsMetIn table rowid members (Some met) = (met.0 ≡ rowid) × ((payload : List ℕ) × Contains members (member_with rowid payload) × HasValues table rowid payload met.1)
IsMetIn table rowid members None = (member : Member) → Contains members member → member.rowid ≢ rowid

-- the record of the member of a rowid is none of a row, or the store failed or memory is wanting
abbrev pub IsMissedIn : {F : Type 0} → Target → ℤ → List Member → PassFault F → Type 0
IsMissedIn target rowid members fault = IsWanting fault ⊎ ((payload : List ℕ) × Contains members (member_with rowid payload) × IsUnreadRow target rowid payload fault)

-- so in the table that stands at the target's root
abbrev pub FindsMet : {F : Type 0} → Sizes → Paged → Target → ℤ → Result (Option (ℤ × List Value)) (PassFault F) → Type 0
FindsMet sizes base target rowid result =
    (depth : ℕ) (members : List Member) (numbers : List ℕ) → IsTree sizes base target.root TableTree depth members numbers
    → MatchResult result (IsMetIn target.table rowid members) (IsMissedIn target rowid members)
