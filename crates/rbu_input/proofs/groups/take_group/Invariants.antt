use Rattle.std.proofs.Common.{◌≡◌, []}
use Rattle.std.specs.Vec.Iter.{into_iter_items}
use Rattle.rbu_input.specs.Groups.{split_from}
use Rattle.rbu_input.proofs.groups.take_group.Given as goal

abbrev pub invariant-loop-batch : goal.invariant-loop-batch
invariant-loop-batch l = split_from [] [] l.fn.batches.items ≡ split_from l.group.items l.others.items (into_iter_items l.batch-iterator)
