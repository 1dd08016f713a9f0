use Rattle.std.proofs.Common.{List}
use Rattle.std.specs.Vec.Iter.{into_iter_items}
use Rattle.schema_read.specs.Entries.{StandAll}
use Rattle.schema_read.specs.declared.found.Found.{Found}
use Rattle.schema_read.proofs.catalog.stand_all.Given as goal

abbrev pub invariant-loop-one : goal.invariant-loop-one
invariant-loop-one l = (after : List Found) → StandAll l.found (into_iter_items l.one-iterator) after → StandAll l.fn.found l.fn.placed.items after
