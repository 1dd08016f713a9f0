use Rattle.std.proofs.Common.{◌≡◌, take}
use Rattle.small_file.specs.Pages.{placed}
use Rattle.small_file.proofs.page.with_places.Given as goal

abbrev pub invariant-loop-index : goal.invariant-loop-index
invariant-loop-index l = l.cells.items ≡ take l.index (placed l.page l.number l.views)
