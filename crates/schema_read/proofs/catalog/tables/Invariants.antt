use Rattle.std.proofs.Common.{◌≡◌, ◌++◌}
use Rattle.std.specs.Prelude.{filter_map}
use Rattle.std.specs.Vec.Iter.{into_iter_items}
use Rattle.schema_read.specs.Entries.{entry_of}
use Rattle.schema_read.proofs.catalog.tables.Given as goal

abbrev pub invariant-loop-one : goal.invariant-loop-one
invariant-loop-one l = l.tables.items ++ filter_map entry_of (into_iter_items l.one-iterator) ≡ filter_map entry_of l.fn.found.items
