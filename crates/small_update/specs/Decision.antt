-- Which decision rows have: the first of the causes that holds, or the rows in order.
use Rattle.std.specs.Prelude.{◌≡◌, ◌<◌, ◌≤◌, List}
use Rattle.small_spec.specs.declared.TargetRow.{TargetRow}
use Rattle.small_spec.specs.declared.PreparedRow.{PreparedRow}
use Rattle.small_spec.specs.Inserts.{HasDistinctKeys, all_rows, page_room, IsFirstPresent, IsMerged, NonePresent}
use Rattle.small_spec.specs.SmallFile.{target_table}
use Rattle.small_update.specs.declared.Decision.{Decision}
use Rattle.small_update.specs.declared.Decision.TheVariants.{SharedKey, NoRoom, KeyPresent, Merged}

-- the cause of a decision, where those before it do not hold
abbrev pub Decides : List TargetRow → List PreparedRow → Decision → Type 0
Decides old prepared SharedKey = ¬ HasDistinctKeys prepared
Decides old prepared NoRoom = HasDistinctKeys prepared × (4096 < page_room (all_rows old prepared))
Decides old prepared (KeyPresent table data_rowid) =
    HasDistinctKeys prepared × (page_room (all_rows old prepared) ≤ 4096)
    × ((row : PreparedRow) × IsFirstPresent old prepared row × (table ≡ target_table.name) × (row.data_rowid ≡ data_rowid))
Decides old prepared (Merged rows) =
    HasDistinctKeys prepared × (page_room (all_rows old prepared) ≤ 4096) × NonePresent old prepared
    × IsMerged old prepared rows.items × (page_room rows.items ≤ 4096)
