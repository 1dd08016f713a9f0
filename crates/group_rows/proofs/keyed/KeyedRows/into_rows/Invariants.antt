use Rattle.std.proofs.Common.{◌≡◌, ◌++◌}
use Rattle.std.specs.Prelude.{flat_map}
use Rattle.group_rows.proofs.Collecting.{rows_of}
use Rattle.group_rows.proofs.keyed.KeyedRows.into_rows.Given as goal

abbrev pub invariant-loop-entry : goal.invariant-loop-entry
invariant-loop-entry l = l.all.items ++ flat_map rows_of l.entry-iterator ≡ l.fn.self.keyless.items ++ flat_map rows_of l.fn.self.by_key.entries
