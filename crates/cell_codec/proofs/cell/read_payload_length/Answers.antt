use Rattle.std.proofs.Common.{◌≡◌, ℕ, Option, Some, refl, sym, ◌∙◌, ap, arith}
use Rattle.cell_codec.proofs.CellReading.{VarintIs-read, length-not_over}
use Rattle.cell_codec.proofs.cell.read_payload_length.Goals as goal

pair-same : (r : Option (ℕ × ℕ)) (a b m n : ℕ) → r ≡ Some (a, b) → r ≡ Some (m, n) → (a ≡ m) × (b ≡ n)
pair-same r a b m n e f =
    let g : ◌≡◌ {A = Option (ℕ × ℕ)} (Some (a, b)) (Some (m, n)) = sym e ∙ f in
    let pair : ◌≡◌ {A = ℕ × ℕ} (a, b) (m, n) = cc in
    (ap (λ (p : ℕ × ℕ). p.0) pair, ap (λ (p : ℕ × ℕ). p.1) pair)

pub returns-then-payload-gt-PAYLOAD_LIMIT-clause-only : goal.returns-then-payload-gt-PAYLOAD_LIMIT-clause-only
returns-then-payload-gt-PAYLOAD_LIMIT-clause-only c = λ value n h v l.
    let same = pair-same c.read_varint.result c.in_ok-payload.payload c.in_ok-payload.size value n c.in_ok-payload.ensures.ok_part (c.read_varint.ensures.answer.only (Some (value, n)) (h, v)) in
    absurd (omega (arith, same.0))

pub returns-clause-only : goal.returns-clause-only
returns-clause-only c = λ value n h v l.
    let same = pair-same c.read_varint.result c.in_ok-payload.payload c.in_ok-payload.size value n c.in_ok-payload.ensures.ok_part (c.read_varint.ensures.answer.only (Some (value, n)) (h, v)) in
    let p : c.in_ok-payload.payload ≡ value = same.0 in
    let q : c.in_ok-payload.size ≡ n = same.1 in
    cc

pub returns-clause-over : goal.returns-clause-over
returns-clause-over c =
    let v = VarintIs-read c.args.bytes.now c.args.bytes.now 0 c.read_varint.result c.in_ok-payload.payload c.in_ok-payload.size refl c.in_ok-payload.ensures.ok_part c.read_varint.ensures.answer in
    (λ e. absurd (cc), λ h. absurd (length-not_over c.args.bytes.now c.in_ok-payload.payload c.in_ok-payload.size v (omega arith) h))
