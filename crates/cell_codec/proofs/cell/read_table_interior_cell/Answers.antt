use Rattle.std.proofs.Common.{rules, ◌≡◌, ◌+◌, ◌≤◌, length, take, Ok, slice_range, ◌∙◌, ap, subst, arith, refl}
use Rattle.std.proofs.lemmas.List.{take_rest, length-take-le}
use Rattle.std.proofs.lemmas.Int.{to_z-of_z}
use Rattle.std.specs.Int.{w64, cast_signed, cast_unsigned}
use Rattle.std.specs.Int.RustNames.{FitsSigned}
use Rattle.byteorder.specs.Endian.{big_number}
use Rattle.format_spec.specs.declared.CellView.{CellView}
use Rattle.cell_codec.proofs.CellReading.{BeginsWithNone, BeginsWithNone-read, VarintIs-read}
use Rattle.cell_codec.proofs.InteriorReading.{BeginsWithInterior, interior_cell-same_first, interior_cell-needs_rowid, interior_cell-read}
use Rattle.cell_codec.proofs.cell.read_table_interior_cell.Goals as goal

pub returns-in_err-rowid-clause-only : goal.returns-in_err-rowid-clause-only
returns-in_err-rowid-clause-only c =
    let bytes = c.args.bytes.now in
    let none = BeginsWithNone-read (slice_range bytes 4 (length bytes)) c.read_varint.result c.in_err-rowid.ensures.ok_part c.read_varint.ensures.answer in
    λ cell h. absurd (interior_cell-needs_rowid bytes (subst BeginsWithNone (take_rest bytes 4) none) cell h)

pub returns : goal.returns
returns c =
    let bytes = c.args.bytes.now in
    let number = c.in_ok-rowid.rowid in
    let j = c.in_ok-rowid.rowid_size in
    let w = VarintIs-read bytes (slice_range bytes 4 (length bytes)) 4 c.read_varint.result number j (take_rest bytes 4) c.in_ok-rowid.ensures.ok_part c.read_varint.ensures.answer in
    let fits : FitsSigned w64 c.cast_signed.result = search rules in
    let cell : CellView = record {
      size = 4 + j;
      rowid = cast_signed w64 (cast_unsigned w64 c.cast_signed.result);
      child = c.read_page_number.result;
      payload = 0;
      local_at = 0;
      local = 0;
      overflow = 0;
    } in
    let four : 4 ≤ length bytes = omega arith in
    let begins : length (take 4 bytes) ≡ 4 = length-take-le 4 bytes four in
    let child : c.read_page_number.result ≡ big_number 4 (take 4 bytes) = c.read_page_number.ensures ∙ ap (λ x. big_number x (take 4 bytes)) begins in
    let found : BeginsWithInterior bytes cell = interior_cell-read bytes number j cell w four refl child (to_z-of_z w64 c.cast_signed.result fits ∙ c.cast_signed.ensures) refl refl refl refl in
    record {
      found = found;
      only = λ other h. ap (λ (d : CellView). Ok d) (interior_cell-same_first bytes cell other found h);
      over = λ e. absurd (cc);
    }
