use Rattle.std.proofs.Common.{[], ap, sym, ◌∙◌, subst, refl}
use Rattle.std.proofs.lemmas.Bool.{true≢false}
use Rattle.format_spec.specs.Log.{pair_of}
use Rattle.format_spec.specs.Sizes.{IsPageSize}
use Rattle.wal_codec.specs.LogReadingLaws.{head-page_size}
use Rattle.wal_codec.proofs.FramesLemmas.{page_size-whole, counts-none}
use Rattle.wal_codec.proofs.ReadingLemmas.{head-front, head-within}
use Rattle.wal_codec.proofs.reader.LogReader.begin.Goals as goal

pub returns-in_default-clause-none : goal.returns-in_default-clause-none
returns-in_default-clause-none c bytes front head has sized =
    c.in_default.ensures.none head (head-within bytes c.args.header.now head front has)

pub returns-then-not-is_page_size-clause-none : goal.returns-then-not-is_page_size-clause-none
returns-then-not-is_page_size-clause-none c bytes front head has sized =
    let same = head-page_size c.args.header.now head _ (head-within bytes c.args.header.now head front has) c.in-Some.ensures.found.has_head in
    true≢false (sym (c.is_page_size.ensures.1 (subst IsPageSize same sized)) ∙ c.if-not-is_page_size.true)

pub returns-clause-begun : goal.returns-clause-begun
returns-clause-begun c bytes front =
    let read = c.in-Some.ensures.found in
    record {
      needs = refl;
      sized = c.is_page_size.ensures.0 c.if-not-is_page_size.false;
      has_head = record {
        sequence = read.sequence;
        has_head = head-front bytes c.args.header.now _ front read.has_head;
        sums = read.sums;
      };
      have_frames = record {
        frames = [];
        whole = refl;
        valid = tt;
        numbers = c.none-read.ensures.numbers;
        counts = c.none-read.ensures.counts ∙ counts-none c.args.needed;
        sums = ap pair_of c.none-read.ensures.sums;
      };
    }

pub invariant_of-result : goal.invariant_of-result
invariant_of-result c =
    let sized : IsPageSize c.in-Some.head.page_size = c.is_page_size.ensures.0 c.if-not-is_page_size.false in
    record { words = page_size-whole c.in-Some.head.page_size sized; least = sized.least; most = sized.most }
