use Rattle.std.proofs.Common.{drop, length, ap, ◌∙◌, ◌++◌, List, ℕ, arith, length-append}
use Rattle.format_spec.specs.LogLaws.{length-log_header}
use Rattle.format_spec.specs.Log.{log_header}
use Rattle.wal_codec.proofs.ReadingLemmas.{head-again}
use Rattle.wal_codec.proofs.frames.read_head.Goals as goal

pub returns-then-bytes-lt32-clause-none : goal.returns-then-bytes-lt32-clause-none
returns-then-bytes-lt32-clause-none c head has =
    let header : List ℕ = log_header head.big head.page_size head.sequence head.salt in
    omega (arith, ap length has.whole, length-append header has.rest, length-log_header head.big head.page_size head.sequence head.salt)

pub returns-then-not-starts_with-clause-none : goal.returns-then-not-starts_with-clause-none
returns-then-not-starts_with-clause-none c head has =
    c.if-not-starts_with.ensures.differs has.rest
    (head-again c.args.bytes.now head has c.u32_at-big.result c.u32_at-page_size.result c.u32_at-3.result c.u32_at.result c.u32_at-2.result c.write_log_header-sums.new.into
    c.u32_at-big.ensures c.u32_at-page_size.ensures c.u32_at-3.ensures c.u32_at.ensures c.u32_at-2.ensures c.write_log_header-sums.ensures.header)

pub returns-clause-found : goal.returns-clause-found
returns-clause-found c = record {
  sequence = c.u32_at-3.result;
  has_head = record {
    rest = drop (length c.write_log_header-sums.new.into) c.args.bytes.now;
    page_size_fits = c.u32_at-page_size.type_inv;
    sequence_fits = c.u32_at-3.type_inv;
    salt_fits = c.write_log_header-sums.ensures.words;
    whole = c.if-not-starts_with.ensures.begins
        ∙ ap (λ (b : List ℕ). b ++ drop (length c.write_log_header-sums.new.into) c.args.bytes.now) c.write_log_header-sums.ensures.header;
  };
  sums = c.write_log_header-sums.ensures.sums;
}
