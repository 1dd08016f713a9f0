use Rattle.std.proofs.Common.{◌≡◌, ◌+◌, ◌++◌, drop, sym, ◌∙◌, ap, rules}
use Rattle.std.specs.Int.{w64, cast_unsigned}
use Rattle.std.specs.Int.RustNames.{FitsSigned}
use Rattle.std.proofs.lemmas.Int.{to_z-of_z}
use Rattle.byteorder.specs.Endian.{big_bytes}
use Rattle.byteorder.specs.Numbers.{length-bytes_high_first}
use Rattle.format_spec.specs.Varint.{varint}
use Rattle.format_spec.specs.Cell.{cell_bytes}
use Rattle.cell_codec.proofs.CellWriting.{IsWrittenTo, IsWrittenTo-next}
use Rattle.cell_codec.proofs.cell.write_table_interior_cell.Goals as goal

pub returns-clause-written : goal.returns-clause-written
unfolding cell_bytes
returns-clause-written c =
    let cell = c.args.cell.now in
    let old = c.args.into.now in
    let child = big_bytes 4 cell.child in
    let rowid = varint c.cast_unsigned.result in
    let fits : FitsSigned w64 cell.rowid = search rules in
    let bits : c.cast_unsigned.result ≡ cast_unsigned w64 cell.rowid = c.cast_unsigned.ensures ∙ ap (cast_unsigned w64) (to_z-of_z w64 cell.rowid fits) in
    let j = c.put_varint.result in
    let one = c.put_page_number.new.into in
    let first : IsWrittenTo old one child 4 = record { size = length-bytes_high_first 4 cell.child; written = c.put_page_number.ensures } in
    let second = IsWrittenTo-next old one child rowid c.put_varint.new.into 4 j first (sym c.put_varint.ensures.length) c.put_varint.ensures.written in
    second.written ∙ ap (λ k. child ++ varint k ++ drop (4 + j) old) bits
