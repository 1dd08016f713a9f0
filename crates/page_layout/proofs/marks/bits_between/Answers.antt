use Rattle.std.proofs.Common.{◌≡◌, ◌-◌, ◌*◌, ◌/◌, ◌%◌, ◌^◌, ℕ, min, ap, ap₂, ◌∙◌, inl, inr, arith}
use Rattle.std.specs.Int.{bit_at}
use Rattle.std.proofs.lemmas.Nat.Bits.{bit_at_and, bit_at_ones, bit_at_ones_above, bit_at_mask_inside, bit_at_mask_below, ones_shl, ones_shr}
use Rattle.page_layout.proofs.marks.bits_between.Goals as goal

pub returns-clause-inside : goal.returns-clause-inside
returns-clause-inside c i low high =
    let from = c.args.from in
    let to = c.args.to in
    let below : bit_at ((2 ^ 64 - 1) / 2 ^ (64 - to)) i ≡ 1 =
    ap (λ (n : ℕ). bit_at n i) (ones_shr 64 (64 - to) (omega arith)) ∙ bit_at_ones (64 - (64 - to)) i (omega (arith, c.requires.most)) in
    let above : bit_at ((2 ^ 64 - 1) * 2 ^ from % 2 ^ 64) i ≡ 1 =
    ap (λ (n : ℕ). bit_at n i) (ones_shl 64 from (omega (arith, c.requires.order, c.requires.most))) ∙ bit_at_mask_inside from 64 i low (omega (arith, c.requires.most)) in
    bit_at_and _ _ i ∙ ap₂ min below above

pub returns-clause-outside : goal.returns-clause-outside
returns-clause-outside c i (inl low) =
    let from = c.args.from in
    let above : bit_at ((2 ^ 64 - 1) * 2 ^ from % 2 ^ 64) i ≡ 0 =
    ap (λ (n : ℕ). bit_at n i) (ones_shl 64 from (omega (arith, c.requires.order, c.requires.most))) ∙ bit_at_mask_below from 64 i low in
    omega (arith, bit_at_and ((2 ^ 64 - 1) / 2 ^ (64 - c.args.to)) ((2 ^ 64 - 1) * 2 ^ from % 2 ^ 64) i, above)
returns-clause-outside c i (inr high) =
    let to = c.args.to in
    let below : bit_at ((2 ^ 64 - 1) / 2 ^ (64 - to)) i ≡ 0 =
    ap (λ (n : ℕ). bit_at n i) (ones_shr 64 (64 - to) (omega arith)) ∙ bit_at_ones_above (64 - (64 - to)) i (omega (arith, c.requires.most)) in
    omega (arith, bit_at_and ((2 ^ 64 - 1) / 2 ^ (64 - to)) ((2 ^ 64 - 1) * 2 ^ c.args.from % 2 ^ 64) i, below)
