use Rattle.std.proofs.Common.{◌≡◌, ℕ, ◌+◌, length, sym, ap, ◌∙◌, arith}
use Rattle.format_spec.specs.Varint.{varint}
use Rattle.format_spec.specs.Record.{serial_type}
use Rattle.state_file.specs.Lent.{value_of}
use Rattle.state_file.proofs.RowCells.{row_payload, row_cell-parts}
use Rattle.state_file.proofs.sizes.row_length.Goals as goal

pub returns-clause-value : goal.returns-clause-value
returns-clause-value c =
    let value = value_of c.args.value.now in
    let parts = row_cell-parts c.args.key value (omega (arith, c.requires.short)) in
    let types : c.varint_length-types.result ≡ length (varint (serial_type 4 value)) = c.varint_length-types.ensures.length ∙ ap (λ (n : ℕ). length (varint n)) c.serial_type.ensures in
    let header : c.varint_length-header.result ≡ length (varint (length (varint (serial_type 4 value)) + 2)) = c.varint_length-header.ensures.length ∙ ap (λ (n : ℕ). length (varint (n + 2))) types in
    let payload : c.varint_length-header.result + (1 + (c.varint_length-types.result + c.body_length.result)) ≡ length (row_payload value) = omega (arith, parts.payload, types, header, c.body_length.ensures) in
    let front : c.varint_length.result ≡ length (varint (length (row_payload value))) = c.varint_length.ensures.length ∙ ap (λ (n : ℕ). length (varint n)) payload in
    omega (arith, parts.size, payload, front, c.varint_length-2.ensures.length)
