-- The target after the update.
use Rattle.std.specs.Prelude.{ℕ, ◌≤◌, List}
use Rattle.small_spec.specs.declared.TargetRow.{TargetRow}
use Rattle.small_spec.specs.declared.PreparedRow.{PreparedRow}
use Rattle.small_spec.specs.SmallFile.{IsSmallTarget, IsSmallRbu}
use Rattle.small_spec.specs.Inserts.{IsMerged, page_room, new_pages}

-- After the update a small target is a small target with the merged rows: all its old rows and the inserted ones.
abbrev pub UpdateLeavesSmallTarget : Type 0
UpdateLeavesSmallTarget = (target rbu : List ℕ) (old rows : List TargetRow) (prepared : List PreparedRow) →
    IsSmallTarget target old → IsSmallRbu rbu prepared → IsMerged old prepared rows → page_room rows ≤ 4096 → IsSmallTarget (new_pages target rows) rows
