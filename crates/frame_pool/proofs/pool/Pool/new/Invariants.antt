use Rattle.std.proofs.Common.{◌≡◌, ◌+◌, length, vec_len}
use Rattle.std.specs.List.{All}
use Rattle.std.specs.Vec.Iter.{into_iter_items}
use Rattle.frame_pool.specs.Rule.{Filled}
use Rattle.frame_pool.proofs.pool.Pool.new.Given as goal

abbrev pub invariant-loop-frame : goal.invariant-loop-frame
invariant-loop-frame l = Filled l.size l.slots.items × (length l.slots.items + length (into_iter_items l.frame-iterator) ≡ vec_len l.fn.frames)
    × All (λ f. length f.bytes.items ≡ l.size) (into_iter_items l.frame-iterator)
