use Rattle.std.proofs.Common.{◌≡◌, ℕ, List, take}
use Rattle.format_spec.specs.Page.{IsPage, cell_place}
use Rattle.page_spec.specs.Rooms.{KeepsRest}
use Rattle.page_layout.specs.Written.{IsLaid}
use Rattle.page_layout.proofs.Packing.{IsLowest}
use Rattle.page_layout.proofs.pack.pack_into.Given as goal

abbrev pub invariant-loop-index : goal.invariant-loop-index
invariant-loop-index l = record {
  number_is : l.layout.number ≡ l.number;
  usable_is : l.layout.usable ≡ l.usable;
  kind_is : l.layout.kind ≡ l.kind;
  count_is : l.layout.count ≡ l.index;
  laid : (cells : List (List ℕ)) (right : ℕ) → IsPage l.page l.number l.usable l.kind cells right → IsLaid l.buffer l.layout (take l.index cells) right;
  lowest_is : IsLowest (cell_place l.page l.number l.kind) l.usable l.index l.lowest;
  rest : KeepsRest l.number l.usable l.page l.buffer;
}
