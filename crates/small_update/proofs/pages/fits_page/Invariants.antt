use Rattle.std.proofs.Common.{◌≡◌, ◌≤◌, take}
use Rattle.small_spec.specs.Inserts.{page_room}
use Rattle.small_update.proofs.pages.fits_page.Given as goal

abbrev pub invariant-loop-row : goal.invariant-loop-row
invariant-loop-row l = (l.room ≡ page_room (take l.row-index l.rows)) × (l.room ≤ 4096)
