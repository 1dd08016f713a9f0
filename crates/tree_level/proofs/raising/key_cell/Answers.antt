use Rattle.std.proofs.Common.{◌∙◌, refl}
use Rattle.std.proofs.lemmas.Int.{to_z-of_z}
use Rattle.std.specs.Int.{w64}
use Rattle.tree_level.proofs.Raised.{key-cell, key-cell_size, written-front}
use Rattle.tree_level.proofs.raising.key_cell.Goals as goal

pub write_cell-size-requires-clause-room : goal.write_cell-size-requires-clause-room
write_cell-size-requires-clause-room c = key-cell_size _ c.args.rowid (to_z-of_z w64 c.args.rowid c.ranges.rowid) c.ranges.rowid

pub returns : goal.returns
returns c =
    let w = c.write_cell-size.ensures in
    let same = written-front _ _ _ _ w.length w.written ∙ key-cell _ c.args.child c.args.rowid refl (to_z-of_z w64 c.args.rowid c.ranges.rowid) in
    rw same at c.of.ensures
