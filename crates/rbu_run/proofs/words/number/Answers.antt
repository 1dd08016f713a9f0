use Rattle.std.proofs.Common.{◌≡◌, Ok, arith, sym, subst}
use Rattle.rbu_run.proofs.Numerals.{IsPlain, plain-spells, spelled-is_read, spelled-is_plain}
use Rattle.rbu_run.proofs.words.number.Goals as goal
use Rattle.rbu_run.proofs.words.number.Goals.{else-is_plain-via-then-is_plain+then-least-n+else-n-most, else-is_plain-via-then-is_plain+else-least-n, else-is_plain-via-else-is_plain}

pub returns-in_default-clause-only : goal.returns-in_default-clause-only
returns-in_default-clause-only c n h =
    absurd (c.in_default.not-Ok n (spelled-is_read c.args.word.now c.parse.result n (omega (arith, h.most_is, c.ranges.most)) h.spelled c.parse.ensures.value.0))

pub returns-then-n-most-clause-found : goal.returns-then-n-most-clause-found
returns-then-n-most-clause-found c = record {
  spelled = plain-spells c.args.word.now c.parse.result c.in-Ok.n c.parse.ensures.value.0 c.in-Ok.is
      (subst IsPlain c.as_bytes.ensures.value (c.is_plain.ensures.0 c.if-is_plain.true));
  least_is = c.if-least-n.true;
  most_is = c.if-n-most.true;
}

pub returns-then-n-most-clause-only : goal.returns-then-n-most-clause-only
returns-then-n-most-clause-only c n h =
    let read : c.parse.result ≡ Ok n = spelled-is_read c.args.word.now c.parse.result n (omega (arith, h.most_is, c.ranges.most)) h.spelled c.parse.ensures.value.0 in
    cc (read, c.in-Ok.is)

pub returns-else-is_plain-clause-only : goal.returns-else-is_plain-clause-only
returns-else-is_plain-clause-only c n h =
    let read : c.parse.result ≡ Ok n = spelled-is_read c.args.word.now c.parse.result n (omega (arith, h.most_is, c.ranges.most)) h.spelled c.parse.ensures.value.0 in
    let same : c.in-Ok.n ≡ n = cc (read, c.in-Ok.is) in
    let plain = subst IsPlain (sym c.as_bytes.ensures.value) (spelled-is_plain c.args.word.now n (omega (arith, h.most_is, c.ranges.most)) h.spelled) in
    elim c.else-is_plain.branch [
      | else-is_plain-via-then-is_plain+then-least-n+else-n-most w ↦ absurd (omega (arith, same, w.if-n-most.false, h.most_is))
      | else-is_plain-via-then-is_plain+else-least-n w ↦ absurd (omega (arith, same, w.if-least-n.false, h.least_is))
      | else-is_plain-via-else-is_plain w ↦ cc (c.is_plain.ensures.1 plain, w.if-is_plain.false)
    ]
