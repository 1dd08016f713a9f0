use Rattle.std.proofs.Common.{ℕ, List, ◌++◌, take}
use Rattle.page_spec.specs.Rooms.{KeepsRest}
use Rattle.page_layout.specs.Written.{IsLaid, LaidOn}
use Rattle.page_layout.proofs.rebuilding.put_all.Given as goal

abbrev pub invariant-loop-cell : goal.invariant-loop-cell
invariant-loop-cell l = record {
  on : LaidOn l.fn.layout l.layout (take l.cell-index l.cells);
  laid : (before : List (List ℕ)) (right : ℕ) → IsLaid l.fn.page l.fn.layout before right → IsLaid l.page l.layout (before ++ take l.cell-index l.cells) right;
  rest : KeepsRest l.fn.layout.number l.fn.layout.usable l.fn.page l.page;
}
