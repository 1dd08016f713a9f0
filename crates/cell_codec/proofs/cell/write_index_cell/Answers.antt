use Rattle.std.proofs.Common.{◌≡◌, ◌+◌, ◌-◌, ◌++◌, length, drop, sym, ◌∙◌, ap, append_assoc, length-append, arith}
use borrow.Rule.Slice.PartMut.{put_mid}
use Rattle.byteorder.specs.Endian.{big_bytes}
use Rattle.byteorder.specs.Numbers.{length-bytes_high_first}
use Rattle.format_spec.specs.Varint.{varint}
use Rattle.format_spec.specs.Cell.{index_cell_bytes, overflow_size}
use Rattle.cell_codec.proofs.CellWriting.{IsWrittenTo, IsWrittenTo-next}
use Rattle.cell_codec.proofs.cell.write_index_cell.Goals as goal

pub returns-clause-written : goal.returns-clause-written
unfolding index_cell_bytes
returns-clause-written c =
    let cell = c.args.cell.now in
    let old = c.args.into.now in
    let local = c.args.local.now in
    let payload = varint cell.payload in
    let i = c.child_size-payload_at.result in
    let j = c.put_varint.result in
    let n = c.put_local_part.result in
    let child = big_bytes i cell.child in
    let overflow = big_bytes (overflow_size cell.local cell.payload) cell.overflow in
    let one = c.put_page_number.new.into in
    let two = put_mid i (length one - i) one c.put_varint.new.into in
    let first : IsWrittenTo old one child i = record { size = length-bytes_high_first i cell.child; written = c.put_page_number.ensures } in
    let second : IsWrittenTo old two (child ++ payload) (i + j) = IsWrittenTo-next old one child payload c.put_varint.new.into i j first (sym c.put_varint.ensures.length) c.put_varint.ensures.written in
    let size : length (local ++ overflow) ≡ n = omega (arith, length-append local overflow, length-bytes_high_first (overflow_size cell.local cell.payload) cell.overflow, c.put_local_part.ensures.length) in
    let third = IsWrittenTo-next old two (child ++ payload) (local ++ overflow) c.put_local_part.new.into (i + j) n second size c.put_local_part.ensures.written in
    third.written ∙ ap (λ s. s ++ drop (i + j + n) old) (append_assoc child payload (local ++ overflow))
    ∙ ap (λ k. big_bytes k cell.child ++ (payload ++ (local ++ overflow)) ++ drop (i + j + n) old) c.child_size-payload_at.ensures.value
