use Rattle.std.proofs.Common.{rules, ◌≡◌, ◌+◌, ◌-◌, ◌++◌, length, drop, sym, ◌∙◌, ap, append_assoc, length-append, arith}
use borrow.Rule.Slice.PartMut.{put_mid}
use Rattle.std.specs.Int.{w64, cast_unsigned}
use Rattle.std.specs.Int.RustNames.{FitsSigned}
use Rattle.std.proofs.lemmas.Int.{to_z-of_z}
use Rattle.byteorder.specs.Endian.{big_bytes}
use Rattle.byteorder.specs.Numbers.{length-bytes_high_first}
use Rattle.format_spec.specs.Varint.{varint}
use Rattle.format_spec.specs.Cell.{cell_bytes, overflow_size}
use Rattle.cell_codec.proofs.CellWriting.{IsWrittenTo, IsWrittenTo-next}
use Rattle.cell_codec.proofs.cell.write_table_leaf_cell.Goals as goal

pub returns-clause-written : goal.returns-clause-written
unfolding cell_bytes
returns-clause-written c =
    let cell = c.args.cell.now in
    let old = c.args.into.now in
    let local = c.args.local.now in
    let payload = varint cell.payload in
    let rowid = varint c.cast_unsigned.result in
    let fits : FitsSigned w64 cell.rowid = search rules in
    let bits : c.cast_unsigned.result ≡ cast_unsigned w64 cell.rowid = c.cast_unsigned.ensures ∙ ap (cast_unsigned w64) (to_z-of_z w64 cell.rowid fits) in
    let i = c.put_varint-rowid_at.result in
    let j = c.put_varint.result in
    let n = c.put_local_part.result in
    let one = c.put_varint-rowid_at.new.into in
    let two = put_mid i (length one - i) one c.put_varint.new.into in
    let overflow = big_bytes (overflow_size cell.local cell.payload) cell.overflow in
    let first : IsWrittenTo old one payload i = record { size = sym c.put_varint-rowid_at.ensures.length; written = c.put_varint-rowid_at.ensures.written } in
    let second : IsWrittenTo old two (payload ++ rowid) (i + j) = IsWrittenTo-next old one payload rowid c.put_varint.new.into i j first (sym c.put_varint.ensures.length) c.put_varint.ensures.written in
    let size : length (local ++ overflow) ≡ n = omega (arith, length-append local overflow, length-bytes_high_first (overflow_size cell.local cell.payload) cell.overflow, c.put_local_part.ensures.length) in
    let third = IsWrittenTo-next old two (payload ++ rowid) (local ++ overflow) c.put_local_part.new.into (i + j) n second size c.put_local_part.ensures.written in
    third.written ∙ ap (λ s. s ++ drop (i + j + n) old) (append_assoc payload rowid (local ++ overflow))
    ∙ ap (λ k. payload ++ (varint k ++ (local ++ overflow)) ++ drop (i + j + n) old) bits
