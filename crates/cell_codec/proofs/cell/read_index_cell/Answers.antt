use Rattle.std.proofs.Common.{◌≡◌, pos, sym, ◌+◌, ◌<◌, length, take, drop, Ok, slice_range, ◌∙◌, ap, subst, arith}
use Rattle.std.proofs.lemmas.List.{take_rest, length-take-le}
use Rattle.std.proofs.lemmas.Result.{err_from_is_err_and}
use Rattle.byteorder.specs.Endian.{big_number}
use Rattle.format_spec.specs.declared.CellView.{CellView}
use Rattle.format_spec.specs.Cell.{child_size}
use Rattle.cell_codec.specs.Cells.{part_size, IsLocalPart}
use Rattle.cell_codec.proofs.CellReading.{BeginsWithNoLength-read, BeginsWithNoLength, VarintIs-behind, part-some, part-none, length-not_over, short-not_over_limit}
use Rattle.cell_codec.proofs.IndexReading.{BeginsWithIndex, index_cell-same_first, index_cell-needs_length, index_cell-too_short, index_cell-read}
use Rattle.cell_codec.proofs.cell.read_index_cell.Goals as goal

pub returns-in_err-payload-clause-only : goal.returns-in_err-payload-clause-only
returns-in_err-payload-clause-only c =
    let bytes = c.args.bytes.now in
    let at = c.child_size-payload_at.result in
    let same = take_rest bytes at ∙ ap (λ n. drop n bytes) c.child_size-payload_at.ensures.value in
    let none = BeginsWithNoLength-read (slice_range bytes at (length bytes)) c.read_payload_length.result c.in_err-payload.field-0.0 c.in_err-payload.was c.read_payload_length.ensures.only in
    λ cell h. absurd (index_cell-needs_length c.args.kind c.args.usable bytes (subst BeginsWithNoLength same none) cell h)

pub returns-in_err-part-clause-only : goal.returns-in_err-part-clause-only
returns-in_err-part-clause-only c =
    let bytes = c.args.bytes.now in
    let at = c.child_size-payload_at.result in
    let payload = c.in_ok-payload.payload in
    let i = c.in_ok-payload.payload_size in
    let m = c.child_size-payload_at.ensures.value in
    let v = VarintIs-behind bytes (slice_range bytes at (length bytes)) (child_size c.args.kind) payload i (take_rest bytes at ∙ ap (λ n. drop n bytes) m) c.in_ok-payload.ensures.found.0 c.in_ok-payload.ensures.found.1 in
    let rest = take_rest bytes (at + i) ∙ ap (λ n. drop (n + i) bytes) m in
    let short = part-none _ c.read_local_part.result c.in_err-part.ensures.ok_part c.read_local_part.ensures.none in
    λ cell h. absurd (index_cell-too_short c.args.kind c.args.usable bytes payload i v (subst (λ s. length s < part_size c.args.kind c.args.usable payload) rest short) cell h)

pub returns-in_err-part-clause-over : goal.returns-in_err-part-clause-over
returns-in_err-part-clause-over c =
    let bytes = c.args.bytes.now in
    let at = c.child_size-payload_at.result in
    let same = take_rest bytes at ∙ ap (λ n. drop n bytes) c.child_size-payload_at.ensures.value in
    let v = VarintIs-behind bytes (slice_range bytes at (length bytes)) (child_size c.args.kind) c.in_ok-payload.payload c.in_ok-payload.payload_size same c.in_ok-payload.ensures.found.0 c.in_ok-payload.ensures.found.1 in
    let e = err_from_is_err_and c.from_residual-in_err-part.result c.from_residual-in_err-part.ensures.1 in (
      λ over. absurd (short-not_over_limit c.from_residual-in_err-part.result e.0 c.in_err-part.field-0.0 c.read_local_part.result e.1 e.2 c.in_err-part.ensures.value c.in_err-part.ensures.ok_part over),
      λ h. absurd (length-not_over (drop (child_size c.args.kind) bytes) c.in_ok-payload.payload c.in_ok-payload.payload_size v c.in_ok-payload.ensures.found.2 h),
    )

pub returns : goal.returns
returns c =
    let bytes = c.args.bytes.now in
    let kind = c.args.kind in
    let at = c.child_size-payload_at.result in
    let m : at ≡ child_size kind = c.child_size-payload_at.ensures.value in
    let payload = c.in_ok-payload.payload in
    let i = c.in_ok-payload.payload_size in
    let part = c.in_ok-part.part in
    let v = VarintIs-behind bytes (slice_range bytes at (length bytes)) (child_size kind) payload i (take_rest bytes at ∙ ap (λ n. drop n bytes) m) c.in_ok-payload.ensures.found.0 c.in_ok-payload.ensures.found.1 in
    let rest = take_rest bytes (at + i) ∙ ap (λ n. drop (n + i) bytes) m in
    let part_found = subst (λ s. IsLocalPart kind c.args.usable payload s part) rest
    (part-some (IsLocalPart kind c.args.usable payload (slice_range bytes (at + i) (length bytes))) c.read_local_part.result part c.in_ok-part.ensures.ok_part c.read_local_part.ensures.found) in
    let begins : length (take at bytes) ≡ at = length-take-le at bytes (omega arith) in
    let child : c.read_page_number.result ≡ big_number (child_size kind) (take (child_size kind) bytes) =
    c.read_page_number.ensures ∙ ap (λ x. big_number x (take at bytes)) begins ∙ ap (λ x. big_number x (take x bytes)) m in
    let found = subst (λ k. BeginsWithIndex kind c.args.usable bytes (record { size = k + i + part.size; rowid = pos 0; child = c.read_page_number.result; payload = payload; local_at = k + i; local = part.local; overflow = part.overflow })) (sym m)
    (index_cell-read kind c.args.usable bytes payload i c.read_page_number.result part (omega arith) v c.in_ok-payload.ensures.found.2 child part_found) in
    record {
      found = found;
      only = λ other h. ap (λ (d : CellView). Ok d) (index_cell-same_first kind c.args.usable bytes _ other found h);
      over = (λ e. absurd (cc), λ h. absurd (length-not_over (drop (child_size kind) bytes) payload i v c.in_ok-payload.ensures.found.2 h));
    }
