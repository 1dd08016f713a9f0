use Rattle.std.proofs.Common.{◌≡◌, ◌+◌, ℕ, List, take}
use Rattle.format_spec.specs.Page.{IsPage, cell_place}
use Rattle.page_spec.specs.Rooms.{rooms}
use Rattle.page_layout.proofs.Packing.{IsLowest}
use Rattle.page_layout.proofs.pack.measure.Given as goal

abbrev pub invariant-loop-index : goal.invariant-loop-index
invariant-loop-index l = record {
  laid : (cells : List (List ℕ)) (right : ℕ) → IsPage l.page l.number l.usable l.kind cells right → l.bottom + rooms (take l.index cells) ≡ l.usable;
  lowest_is : IsLowest (cell_place l.page l.number l.kind) l.usable l.index l.lowest;
}
