use Rattle.std.proofs.Common.{◌≡◌, ◌+◌, ◌*◌, ◌-◌, ◌^◌, min, length, take, sum_by}
use Rattle.tree_level.specs.Views.{view_room}
use Rattle.tree_level.proofs.cells.views_need.Given as goal

abbrev pub invariant-loop-view : goal.invariant-loop-view
invariant-loop-view l = l.total ≡ min (sum_by view_room (take l.view-index l.views) + 2 * length (take l.view-index l.views)) (2 ^ 64 - 1)
