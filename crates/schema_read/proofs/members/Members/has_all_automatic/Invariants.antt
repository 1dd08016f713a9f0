use Rattle.std.proofs.Common.{◌<◌, ℕ, suc}
use Rattle.std.specs.Prelude.{IsTrue}
use Rattle.database_spec.specs.RightRows.{is_automatic}
use Rattle.schema_read.specs.Found.{any_found}
use Rattle.schema_read.proofs.members.Members.has_all_automatic.Given as goal

abbrev pub invariant-loop-at : goal.invariant-loop-at
invariant-loop-at l = (k : ℕ) → k < l.at → IsTrue (any_found (is_automatic l.table (suc k)) l.self)
