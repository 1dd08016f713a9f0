use Rattle.std.proofs.Common.{◌≡◌, ◌+◌, ◌*◌, ◌<◌, ◌≤◌, ◌⊎◌, ℕ, slice_index}
use Rattle.byte_fields.specs.Numbers.{number_at}
use Rattle.page_layout.specs.Taken.{Moves}
use Rattle.page_layout.proofs.take.move_places.Given as goal

abbrev pub invariant-loop-index : goal.invariant-loop-index
invariant-loop-index l = record {
  moves : (k : ℕ) → k < l.index → Moves l.place l.by (number_at (l.array + 2 * k) 2 l.fn.page) (number_at (l.array + 2 * k) 2 l.page);
  rest : (k : ℕ) → (k < l.array) ⊎ (l.array + 2 * l.index ≤ k) → slice_index l.page k ≡ slice_index l.fn.page k;
}
