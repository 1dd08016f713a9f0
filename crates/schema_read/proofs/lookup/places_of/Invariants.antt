use Rattle.std.proofs.Common.{◌≡◌, ◌+◌, length}
use Rattle.schema_spec.specs.Words.{same_name}
use Rattle.schema_read.specs.Firsts.{WillHaveFirsts}
use Rattle.schema_read.specs.Lookups.{is_entry_named}
use Rattle.schema_read.proofs.lookup.places_of.Given as goal

abbrev pub invariant-loop-left : goal.invariant-loop-left
invariant-loop-left l = (l.at + length l.left ≡ length l.tables) × WillHaveFirsts same_name is_entry_named l.places l.at l.left l.tables

abbrev pub decreases-loop-left : goal.decreases-loop-left
decreases-loop-left l = length l.left
