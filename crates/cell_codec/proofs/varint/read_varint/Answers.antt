use Rattle.std.proofs.Common.{◌≡◌, ◌+◌, ◌*◌, ◌<◌, ◌≤◌, length, take, arith, subst, rules}
use Rattle.format_spec.specs.Varint.{IsVarint}
use Rattle.common_spec.specs.ReadingLaws.{OrNone-reads}
use Rattle.cell_codec.specs.Varints.{BeginsWithVarint}
use Rattle.cell_codec.proofs.Reading.{IsHighFront, IsHighFront-below, IsHighFront-one_more, varint-spelled, varint-only_found, varint-never_none, varint-only_none, varint-always_none}
use Rattle.cell_codec.specs.VarintLaws.{last_weight-short}
use Rattle.cell_codec.proofs.varint.read_varint.Goals as goal

pub overflow_mul-result : goal.overflow_mul-result
overflow_mul-result c = omega (arith, IsHighFront-below c.args.bytes.now c.loop-i.i c.loop-i.high c.loop-i.invariant (omega arith))

pub overflow_add-result : goal.overflow_add-result
overflow_add-result c = omega (arith, IsHighFront-below c.args.bytes.now c.loop-i.i c.loop-i.high c.loop-i.invariant (omega arith))

pub overflow_mul-high : goal.overflow_mul-high
overflow_mul-high c = omega (arith, IsHighFront-below c.args.bytes.now c.loop-i.i c.loop-i.high c.loop-i.invariant (omega arith))

pub overflow_add-high : goal.overflow_add-high
overflow_add-high c = omega (arith, IsHighFront-below c.args.bytes.now c.loop-i.i c.loop-i.high c.loop-i.invariant (omega arith))

pub overflow_mul-result-2 : goal.overflow_mul-result-2
overflow_mul-result-2 c = omega (arith, IsHighFront-below c.args.bytes.now c.loop-i.i c.loop-i.high c.loop-i.invariant (omega arith))

pub overflow_add-result-2 : goal.overflow_add-result-2
overflow_add-result-2 c = omega (arith, IsHighFront-below c.args.bytes.now c.loop-i.i c.loop-i.high c.loop-i.invariant (omega arith))

pub loop-i-preserved : goal.loop-i-preserved
loop-i-preserved c =
    let byte = c.in_ok-byte.field-0.now in
    rw c.from-in-loop-i.ensures
    (IsHighFront-one_more c.args.bytes.now c.loop-i.i c.loop-i.high byte c.loop-i.invariant c.in_ok-byte.ensures.lookup.3.0 (c.in_ok-byte.ensures.lookup.3.1 0) (omega arith) (omega arith))

pub returns-then-byte-lt128 : goal.returns-then-byte-lt128
returns-then-byte-lt128 c =
    let bytes = c.args.bytes.now in
    let i = c.loop-i.i in
    let within : i < length bytes = c.in_ok-byte.ensures.lookup.3.0 in
    let weight = last_weight-short i (omega arith) in
    let found : IsVarint (take (i + 1) bytes) (c.loop-i.high * 128 + c.from.result) =
    rw (← weight, c.from.ensures) (varint-spelled bytes i c.loop-i.high c.in_ok-byte.field-0.now c.loop-i.invariant (omega arith) within (c.in_ok-byte.ensures.lookup.3.1 0) (omega (arith, weight))) in
    record {
      answer = OrNone-reads (BeginsWithVarint bytes) _ (omega arith, found) (λ other h. varint-only_found bytes _ (i + 1) (omega arith) found other.0 other.1 h.0 h.1);
      none = varint-never_none bytes _ (i + 1) found;
    }

pub returns : goal.returns
returns c =
    let bytes = c.args.bytes.now in
    let eight : c.loop-i.i ≡ 8 = omega arith in
    let within : 8 < length bytes = c.in_ok-last.ensures.lookup.3.0 in
    let invariant = subst (λ i. IsHighFront bytes i c.loop-i.high) eight c.loop-i.invariant in
    let found : IsVarint (take 9 bytes) (c.loop-i.high * 256 + c.from-2.result) =
    rw c.from-2.ensures (varint-spelled bytes 8 c.loop-i.high c.in_ok-last.field-0.now invariant (omega arith) within (c.in_ok-last.ensures.lookup.3.1 0) (omega arith)) in
    record {
      answer = OrNone-reads (BeginsWithVarint bytes) _ (omega arith, found) (λ other h. varint-only_found bytes _ 9 (omega arith) found other.0 other.1 h.0 h.1);
      none = varint-never_none bytes _ 9 found;
    }

pub returns-in_err-byte : goal.returns-in_err-byte
returns-in_err-byte c =
    let bytes = c.args.bytes.now in
    let ends : length bytes ≤ c.loop-i.i = c.in_err-byte.ensures.lookup.3 in
    record {
      answer = OrNone-reads (BeginsWithVarint bytes) c.from_residual.result (search rules) (λ other h. varint-only_none bytes c.loop-i.i c.loop-i.high c.loop-i.invariant ends (omega arith) c.from_residual.result other.0 other.1 h.0 h.1);
      none = varint-always_none bytes c.loop-i.i c.loop-i.high c.loop-i.invariant ends (omega arith) c.from_residual.result c.from_residual.ensures;
    }

pub returns-in_err-last : goal.returns-in_err-last
returns-in_err-last c =
    let bytes = c.args.bytes.now in
    let ends : length bytes ≤ c.loop-i.i = omega (arith, c.in_err-last.ensures.lookup.3) in
    record {
      answer = OrNone-reads (BeginsWithVarint bytes) c.from_residual-in_err-last.result (search rules) (λ other h. varint-only_none bytes c.loop-i.i c.loop-i.high c.loop-i.invariant ends (omega arith) c.from_residual-in_err-last.result other.0 other.1 h.0 h.1);
      none = varint-always_none bytes c.loop-i.i c.loop-i.high c.loop-i.invariant ends (omega arith) c.from_residual-in_err-last.result c.from_residual-in_err-last.ensures;
    }
