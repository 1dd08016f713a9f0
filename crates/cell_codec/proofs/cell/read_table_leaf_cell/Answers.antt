use Rattle.std.proofs.Common.{rules, ◌+◌, ◌<◌, length, Ok, slice_range, ◌∙◌, subst, ap, refl}
use Rattle.std.proofs.lemmas.List.{take_rest}
use Rattle.std.proofs.lemmas.Int.{to_z-of_z}
use Rattle.std.specs.Int.{w64, cast_signed, cast_unsigned}
use Rattle.std.specs.Int.RustNames.{FitsSigned}
use Rattle.format_spec.specs.declared.PageKind.TheVariants.{TableLeaf}
use Rattle.format_spec.specs.declared.CellView.{CellView}
use Rattle.cell_codec.specs.Cells.{part_size, IsLocalPart}
use Rattle.cell_codec.specs.CellLaws.{cell-same_first}
use Rattle.cell_codec.proofs.CellReading.{VarintIs-read, VarintIs-behind, BeginsWithNone-read, BeginsWithNone, BeginsWithNoLength-read, part-some, part-none, cell-needs_length, cell-needs_rowid, length-not_over, cell-too_short, cell-read}
use Rattle.cell_codec.proofs.cell.read_table_leaf_cell.Goals as goal

pub returns-in_err-payload-clause-only : goal.returns-in_err-payload-clause-only
returns-in_err-payload-clause-only c =
    let none = BeginsWithNoLength-read c.args.bytes.now c.read_payload_length.result c.in_err-payload.field-0.0 c.in_err-payload.was c.read_payload_length.ensures.only in
    λ cell h. absurd (cell-needs_length c.args.usable c.args.bytes.now none cell h)

pub returns-in_err-rowid-clause-only : goal.returns-in_err-rowid-clause-only
returns-in_err-rowid-clause-only c =
    let bytes = c.args.bytes.now in
    let payload = c.in_ok-payload.payload in
    let i = c.in_ok-payload.rowid_at in
    let v = VarintIs-behind bytes bytes 0 payload i refl c.in_ok-payload.ensures.found.0 c.in_ok-payload.ensures.found.1 in
    let none = BeginsWithNone-read (slice_range bytes i (length bytes)) c.read_varint.result c.in_err-rowid.ensures.ok_part c.read_varint.ensures.answer in
    λ cell h. absurd (cell-needs_rowid c.args.usable bytes payload i v (subst BeginsWithNone (take_rest bytes i) none) cell h)

pub returns-in_err-part-clause-only : goal.returns-in_err-part-clause-only
returns-in_err-part-clause-only c =
    let bytes = c.args.bytes.now in
    let payload = c.in_ok-payload.payload in
    let i = c.in_ok-payload.rowid_at in
    let number = c.in_ok-rowid.rowid in
    let j = c.in_ok-rowid.rowid_size in
    let v = VarintIs-behind bytes bytes 0 payload i refl c.in_ok-payload.ensures.found.0 c.in_ok-payload.ensures.found.1 in
    let w = VarintIs-read bytes (slice_range bytes i (length bytes)) i c.read_varint.result number j (take_rest bytes i) c.in_ok-rowid.ensures.ok_part c.read_varint.ensures.answer in
    let short = part-none _ c.read_local_part.result c.in_err-part.ensures.ok_part c.read_local_part.ensures.none in
    λ cell h. absurd (cell-too_short c.args.usable bytes payload i number j v w (subst (λ s. length s < part_size TableLeaf c.args.usable payload) (take_rest bytes (i + j)) short) cell h)

pub returns : goal.returns
returns c =
    let bytes = c.args.bytes.now in
    let payload = c.in_ok-payload.payload in
    let i = c.in_ok-payload.rowid_at in
    let number = c.in_ok-rowid.rowid in
    let j = c.in_ok-rowid.rowid_size in
    let part = c.in_ok-part.part in
    let v = VarintIs-behind bytes bytes 0 payload i refl c.in_ok-payload.ensures.found.0 c.in_ok-payload.ensures.found.1 in
    let w = VarintIs-read bytes (slice_range bytes i (length bytes)) i c.read_varint.result number j (take_rest bytes i) c.in_ok-rowid.ensures.ok_part c.read_varint.ensures.answer in
    let part_found = subst (λ s. IsLocalPart TableLeaf c.args.usable payload s part) (take_rest bytes (i + j))
    (part-some (IsLocalPart TableLeaf c.args.usable payload (slice_range bytes (i + j) (length bytes))) c.read_local_part.result part c.in_ok-part.ensures.ok_part c.read_local_part.ensures.found) in
    let fits : FitsSigned w64 c.cast_signed.result = search rules in
    let found = cell-read c.args.usable bytes payload i number j (cast_signed w64 (cast_unsigned w64 c.cast_signed.result)) part v w c.in_ok-payload.ensures.found.2 (to_z-of_z w64 c.cast_signed.result fits ∙ c.cast_signed.ensures) part_found in
    record {
      found = found;
      only = λ other h. ap (λ (d : CellView). Ok d) (cell-same_first TableLeaf c.args.usable bytes _ other found h);
      over = (λ e. absurd (cc), λ h. absurd (length-not_over bytes payload i v c.in_ok-payload.ensures.found.2 h));
    }
