use Rattle.std.proofs.Common.{◌≡◌, ℕ, ◌<◌, ◌≤◌, false, get_or, map, length}
use Rattle.std.specs.List.{All}
use Rattle.std.specs.Slots.{slots_items, slots_filled, slots_len}
use Rattle.std.specs.Slots.Ownership.{Filled}
use Rattle.std.specs.Vec.{vec_capacity}
use Rattle.frame_pool.specs.Rule.{unlent}
use Rattle.frame_pool.proofs.pool.Pool.close.Given as goal

abbrev pub invariant-loop-number : goal.invariant-loop-number
invariant-loop-number l = Filled (slots_filled l.closed.slots) l.number (slots_len l.closed.slots) × ((k : ℕ) → k < l.number → get_or (slots_filled l.closed.slots) k false ≡ false)
    × (slots_items l.closed.slots ≡ slots_items l.initial.closed.slots) × (slots_len l.closed.slots ≡ slots_len l.initial.closed.slots) × (l.closed.words ≡ l.initial.closed.words)
    × (map (λ f. f.number) l.frames.items ≡ unlent (slots_items l.closed.words) l.number) × (length l.frames.items ≤ l.number)
    × All (λ f. length f.bytes.items ≡ l.fn.self.table.shared.key) l.frames.items × (slots_len l.initial.closed.slots ≤ vec_capacity l.frames)
