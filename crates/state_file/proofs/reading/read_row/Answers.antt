use Rattle.std.proofs.Common.{◌≡◌, ℕ, ◌+◌, ◌-◌, ◌<◌, ◌^◌, List, [], ◌∷◌, ◌++◌, length, take, drop, Some, None, refl, sym, ap, ◌∙◌, arith}
use Rattle.std.proofs.lemmas.List.{take_rest, drop_at}
use Rattle.rbu_value.specs.declared.value.Value.TheVariants.{Null}
use Rattle.format_spec.specs.Varint.{varint}
use Rattle.format_spec.specs.Record.{canonical_record}
use Rattle.state_file.proofs.Payloads.{None-Some, begins-varint, behind-first, row-have_record, payload-behind, payload-within}
use Rattle.state_file.proofs.RowCells.{cell-of_payload}
use Rattle.state_file.proofs.reading.read_row.Goals as goal

pub returns-in_default : goal.returns-in_default
returns-in_default c = λ key value small short stored e.
    let payload : List ℕ = canonical_record 4 (Null ∷ value ∷ []) in
    let is : c.args.cell.now ≡ varint (length payload) ++ (varint key ++ payload) = e ∙ cell-of_payload key value payload refl in
    let fits = payload-within c.args.cell.now payload key is in
    absurd (None-Some (c.in_default.ensures.answer.only (Some (length payload, length (varint (length payload)))) (begins-varint c.args.cell.now (varint key ++ payload) (length payload) (omega (arith, fits, short)) is)))

pub returns-in_default-read_varint : goal.returns-in_default-read_varint
returns-in_default-read_varint c = λ key value small short stored e.
    let payload : List ℕ = canonical_record 4 (Null ∷ value ∷ []) in
    let is : c.args.cell.now ≡ varint (length payload) ++ (varint key ++ payload) = e ∙ cell-of_payload key value payload refl in
    let fits = payload-within c.args.cell.now payload key is in
    let behind = behind-first c.args.cell.now payload key c.in-Some.field-0-0 c.in-Some.payload_bytes (omega (arith, fits, short)) is c.in-Some.ensures.answer in
    absurd (None-Some (c.in_default-read_varint.ensures.answer.only (Some (key, length (varint key))) (begins-varint (take (length c.args.cell.now - c.in-Some.payload_bytes) (drop c.in-Some.payload_bytes c.args.cell.now)) payload key (omega (arith, small)) behind)))

pub returns : goal.returns
returns c = λ key value small short stored e.
    let payload : List ℕ = canonical_record 4 (Null ∷ value ∷ []) in
    let is : c.args.cell.now ≡ varint (length payload) ++ (varint key ++ payload) = e ∙ cell-of_payload key value payload refl in
    let fits = payload-within c.args.cell.now payload key is in
    c.read_payload.ensures value (row-have_record value stored (omega (arith, fits, short)))
    (payload-behind c.args.cell.now payload key c.in-Some.field-0-0 c.in-Some.payload_bytes c.in-Some-read_varint.field-0-0 c.in-Some-read_varint.key_bytes (omega (arith, small)) (omega (arith, fits, short)) is c.in-Some.ensures.answer c.in-Some-read_varint.ensures.answer)
