use Rattle.std.proofs.Common.{◌≡◌, ◌-◌, ◌^◌, min, take}
use Rattle.page_spec.specs.Rooms.{needs}
use Rattle.page_layout.proofs.rebuilding.needs.Given as goal

abbrev pub invariant-loop-cell : goal.invariant-loop-cell
invariant-loop-cell l = l.total ≡ min (needs (take l.cell-index l.cells)) (2 ^ 64 - 1)
