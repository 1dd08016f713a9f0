use Rattle.std.proofs.Common.{◌≡◌, ℕ, ◌+◌, ◌-◌, ◌<◌, ◌≤◌, ◌^◌, List, [], ◌∷◌, ◌++◌, length, sym, ap, ◌∙◌, subst, arith}
use Rattle.rbu_value.specs.declared.value.Value.{Value}
use Rattle.format_spec.specs.Varint.{varint}
use Rattle.format_spec.specs.Record.{serial_type, body}
use Rattle.state_file.specs.Lent.{value_of}
use Rattle.state_file.specs.Placing.{IsPlaced}
use Rattle.state_file.specs.StateFile.{row_cell}
use Rattle.state_file.proofs.Placings.{IsPlaced-then, IsPlaced-length}
use Rattle.state_file.proofs.RowCells.{RowParts, row_payload, body-within, row_cell-parts}
use Rattle.state_file.proofs.rows.put_row.Goals as goal

parts : (key : ℕ) (value : Value) (place : ℕ) → length (row_cell key value) ≤ place → place < 2 ^ 32 → RowParts key value
parts key value place room short = row_cell-parts key value (omega (arith, body-within key value))

pub put_body-body-requires-clause-room : goal.put_body-body-requires-clause-room
put_body-body-requires-clause-room c = omega (arith, body-within c.args.key (value_of c.args.value.now), c.requires.room)

pub put_varint-types-requires-clause-room : goal.put_varint-types-requires-clause-room
put_varint-types-requires-clause-room c =
    let p = parts c.args.key (value_of c.args.value.now) c.args.place c.requires.room c.requires.short in
    omega (arith, ap (λ (n : ℕ). length (varint n)) c.serial_type.ensures, p.size, p.payload, c.requires.room, c.put_body-body.ensures.at)

pub put_varint-types-requires-clause-inside : goal.put_varint-types-requires-clause-inside
put_varint-types-requires-clause-inside c = omega (arith, IsPlaced-length c.requires.inside c.put_body-body.ensures, c.put_body-body.ensures.at, c.requires.inside)

pub put_before-null-requires-clause-room : goal.put_before-null-requires-clause-room
put_before-null-requires-clause-room c =
    let p = parts c.args.key (value_of c.args.value.now) c.args.place c.requires.room c.requires.short in
    omega (arith, ap (λ (n : ℕ). length (varint n)) c.serial_type.ensures, p.size, p.payload, c.requires.room, c.put_body-body.ensures.at, c.put_varint-types.ensures.at)

pub put_varint-payload-requires-clause-room : goal.put_varint-payload-requires-clause-room
put_varint-payload-requires-clause-room c =
    let p = parts c.args.key (value_of c.args.value.now) c.args.place c.requires.room c.requires.short in
    let serial = ap (λ (n : ℕ). length (varint n)) c.serial_type.ensures in
    let number : c.put_body-body.result - c.put_before-null.result + 1 ≡ length (varint (serial_type 4 (value_of c.args.value.now))) + 2 = omega (arith, serial, c.put_varint-types.ensures.at, c.put_before-null.ensures.at) in
    omega (arith, ap (λ (n : ℕ). length (varint n)) number, serial, p.size, p.payload, c.requires.room, c.put_body-body.ensures.at, c.put_varint-types.ensures.at, c.put_before-null.ensures.at)

pub put_varint-rowid-requires-clause-room : goal.put_varint-rowid-requires-clause-room
put_varint-rowid-requires-clause-room c =
    let p = parts c.args.key (value_of c.args.value.now) c.args.place c.requires.room c.requires.short in
    let serial = ap (λ (n : ℕ). length (varint n)) c.serial_type.ensures in
    let number : c.put_body-body.result - c.put_before-null.result + 1 ≡ length (varint (serial_type 4 (value_of c.args.value.now))) + 2 = omega (arith, serial, c.put_varint-types.ensures.at, c.put_before-null.ensures.at) in
    omega (arith, ap (λ (n : ℕ). length (varint n)) number, serial, p.size, p.payload, c.requires.room, c.put_body-body.ensures.at, c.put_varint-types.ensures.at, c.put_before-null.ensures.at, c.put_varint-payload.ensures.at)

pub put_varint-requires-clause-room : goal.put_varint-requires-clause-room
put_varint-requires-clause-room c =
    let p = parts c.args.key (value_of c.args.value.now) c.args.place c.requires.room c.requires.short in
    let serial = ap (λ (n : ℕ). length (varint n)) c.serial_type.ensures in
    let number : c.put_body-body.result - c.put_before-null.result + 1 ≡ length (varint (serial_type 4 (value_of c.args.value.now))) + 2 = omega (arith, serial, c.put_varint-types.ensures.at, c.put_before-null.ensures.at) in
    let spelled = ap (λ (n : ℕ). length (varint n)) number in
    let payload : c.args.place - c.put_varint-payload.result ≡ length (row_payload (value_of c.args.value.now)) =
    omega (arith, spelled, serial, p.payload, c.put_body-body.ensures.at, c.put_varint-types.ensures.at, c.put_before-null.ensures.at, c.put_varint-payload.ensures.at) in
    omega (arith, ap (λ (n : ℕ). length (varint n)) payload, spelled, serial, p.size, p.payload, c.requires.room, c.put_body-body.ensures.at, c.put_varint-types.ensures.at, c.put_before-null.ensures.at, c.put_varint-payload.ensures.at, c.put_varint-rowid.ensures.at)

pub returns : goal.returns
returns c =
    let value = value_of c.args.value.now in
    let p = parts c.args.key value c.args.place c.requires.room c.requires.short in
    let inside = c.requires.inside in
    let serial = ap (λ (n : ℕ). length (varint n)) c.serial_type.ensures in
    let number : c.put_body-body.result - c.put_before-null.result + 1 ≡ length (varint (serial_type 4 value)) + 2 = omega (arith, serial, c.put_varint-types.ensures.at, c.put_before-null.ensures.at) in
    let spelled = ap (λ (n : ℕ). length (varint n)) number in
    let payload : c.args.place - c.put_varint-payload.result ≡ length (row_payload value) =
    omega (arith, spelled, serial, p.payload, c.put_body-body.ensures.at, c.put_varint-types.ensures.at, c.put_before-null.ensures.at, c.put_varint-payload.ensures.at) in
    let types = IsPlaced-then inside c.put_body-body.ensures c.put_varint-types.ensures in
    let null = IsPlaced-then inside types c.put_before-null.ensures in
    let record_size = IsPlaced-then inside null c.put_varint-payload.ensures in
    let rowid = IsPlaced-then inside record_size c.put_varint-rowid.ensures in
    let all = IsPlaced-then inside rowid c.put_varint.ensures in
    let same : varint (c.args.place - c.put_varint-payload.result) ++ (varint c.args.key ++ (varint (c.put_body-body.result - c.put_before-null.result + 1) ++ ((0 ∷ []) ++ (varint c.serial_type.result ++ body 4 value))))
    ≡ row_cell c.args.key value =
    rw (payload, number, c.serial_type.ensures) (sym p.whole) in
    let P : List ℕ → Type 0 = IsPlaced c.args.page.now c.put_varint.new.page c.args.place c.put_varint.result in
    subst P same all
