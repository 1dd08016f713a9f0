use Rattle.std.proofs.Common.{◌+◌, ◌++◌, List, ℕ, length, take, drop, refl, ap, ◌-◌, arith, length-append, length-drop, length-take}
use Rattle.format_spec.specs.Log.{pair_of, frame_header}
use Rattle.format_spec.specs.LogLaws.{length-frame_header}
use Rattle.wal_codec.proofs.ReadingLemmas.{frame-again, frame-parts}
use Rattle.wal_codec.proofs.frames.read_frame.Goals as goal
use Rattle.wal_codec.proofs.frames.read_frame.Goals.{then-number-eq0-via-then-number-eq0, then-number-eq0-via-else-number-eq0+then-not-starts_with}

pub returns-then-bytes-size-clause-none : goal.returns-then-bytes-size-clause-none
returns-then-bytes-size-clause-none c frame more is bytes_is =
    let header : List ℕ = frame_header c.args.head.now.big (pair_of c.args.head.now.salt) (pair_of c.args.sums) frame.number frame.commit frame.page in
    let whole = is.whole in
    omega (
      arith,
      ap length bytes_is,
      length-append (header ++ frame.page) more,
      length-append header frame.page,
      length-frame_header c.args.head.now.big (pair_of c.args.head.now.salt) (pair_of c.args.sums) frame.number frame.commit frame.page,
    )

pub returns-then-number-eq0-clause-none : goal.returns-then-number-eq0-clause-none
returns-then-number-eq0-clause-none c frame more is bytes_is =
    let again = frame-again c.args.head.now.big (pair_of c.args.head.now.salt) (pair_of c.args.sums) c.args.head.now.page_size (24 + c.args.head.now.page_size - 24) frame more
    c.args.bytes.now c.u32_at-number.result c.u32_at-commit.result _ c.write_frame_header-sums.new.into
    is bytes_is (omega arith) c.u32_at-number.ensures c.u32_at-commit.ensures refl c.write_frame_header-sums.ensures.header in
    let some = is.of_page in
    elim c.then-number-eq0.branch [
      | then-number-eq0-via-then-number-eq0 w ↦ omega (arith, again.0, w.if-number-eq0.true)
      | then-number-eq0-via-else-number-eq0+then-not-starts_with w ↦ w.if-not-starts_with.ensures.differs (frame.page ++ more) again.1
    ]

pub returns-clause-found : goal.returns-clause-found
returns-clause-found c =
    let bytes = c.args.bytes.now in
    let page_size = c.args.head.now.page_size in
    let apart = c.if-number-eq0.false in
    record {
      page = take (24 + page_size - 24) (drop 24 bytes);
      is_frame = record {
        of_page = omega arith;
        number_fits = c.u32_at-number.type_inv;
        commit_fits = c.u32_at-commit.type_inv;
        whole = omega (arith, length-take (24 + page_size - 24) (drop 24 bytes), length-drop 24 bytes);
      };
      whole = frame-parts page_size (24 + page_size - 24) c.write_frame_header-sums.new.into _ bytes c.write_frame_header-sums.array_long
          c.write_frame_header-sums.ensures.header (omega arith) c.if-not-starts_with.ensures.begins;
      sums = c.write_frame_header-sums.ensures.sums;
    }
