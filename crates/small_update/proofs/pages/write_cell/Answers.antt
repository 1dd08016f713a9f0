use Rattle.std.proofs.Common.{arith, refl}
use Rattle.byteorder.specs.Endian.{big_bytes}
use Rattle.small_update.proofs.Leaf.{cell-written}
use Rattle.small_update.proofs.pages.write_cell.Goals as goal

pub returns : goal.returns
returns c =
    cell-written c.args.page.now (big_bytes 2 c.args.place) c.args.cell.now c.write_u16.new.buf c.copy_from_slice.new.self c.args.entry c.args.place _ _
    c.requires.below c.requires.inside refl (omega arith) (omega arith) c.write_u16.ensures c.copy_from_slice.ensures.after
