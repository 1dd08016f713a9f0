use Rattle.std.proofs.Common.{Bool, subst, ◌≡◌, ◌+◌, ◌*◌, length, sym, ap, ◌∙◌}
use Rattle.std.specs.Bool.{OnFalse}
use Rattle.format_spec.specs.Log.{pair_of}
use Rattle.wal_codec.specs.declared.log.Log.{Log}
use Rattle.oal_store.specs.Saved.{Saved}
use Rattle.oal_store.proofs.Starts.{wrong-size, wrong-end, wrong-commit, wrong-sums}
use Rattle.oal_store.proofs.start.check_log.Goals as goal

pub returns-then-log-page_size-clause-wrong : goal.returns-then-log-page_size-clause-wrong
returns-then-log-page_size-clause-wrong c =
    wrong-size (record { page_size = c.args.page_size; size = c.args.size; sums = pair_of c.args.sums }) c.args.log.now c.if-log-page_size.true

pub returns-then-end-size-clause-wrong : goal.returns-then-end-size-clause-wrong
returns-then-end-size-clause-wrong c =
    let log : Log = c.args.log.now in
    let saved : Saved = record { page_size = c.args.page_size; size = c.args.size; sums = pair_of c.args.sums } in
    let count : length c.as_slice.result.now ≡ length log.frames = ap length c.as_slice.ensures in
    let whole : 32 + length c.as_slice.result.now * (24 + c.from.result) ≡ 32 + length log.frames * (24 + log.page_size) =
    ap (λ n. 32 + n * (24 + c.from.result)) count ∙ ap (λ n. 32 + length log.frames * (24 + n)) c.from.ensures in
    wrong-end saved log _ c.if-log-page_size.false (λ e. c.if-end-size.true (whole ∙ e)) (ap (λ n. n + 1) count)

pub returns-then-log-count-clause-wrong : goal.returns-then-log-count-clause-wrong
returns-then-log-count-clause-wrong c =
    let log : Log = c.args.log.now in
    let saved : Saved = record { page_size = c.args.page_size; size = c.args.size; sums = pair_of c.args.sums } in
    let count : length c.as_slice.result.now ≡ length log.frames = ap length c.as_slice.ensures in
    let whole : 32 + length c.as_slice.result.now * (24 + c.from.result) ≡ 32 + length log.frames * (24 + log.page_size) =
    ap (λ n. 32 + n * (24 + c.from.result)) count ∙ ap (λ n. 32 + length log.frames * (24 + n)) c.from.ensures in
    wrong-commit saved log _ c.if-log-page_size.false (sym whole ∙ c.if-end-size.false) count (λ e. c.if-log-count.true (e ∙ sym count))

pub returns-then-not-same_sums-clause-wrong : goal.returns-then-not-same_sums-clause-wrong
returns-then-not-same_sums-clause-wrong c =
    let log : Log = c.args.log.now in
    let saved : Saved = record { page_size = c.args.page_size; size = c.args.size; sums = pair_of c.args.sums } in
    let count : length c.as_slice.result.now ≡ length log.frames = ap length c.as_slice.ensures in
    let whole : 32 + length c.as_slice.result.now * (24 + c.from.result) ≡ 32 + length log.frames * (24 + log.page_size) =
    ap (λ n. 32 + n * (24 + c.from.result)) count ∙ ap (λ n. 32 + length log.frames * (24 + n)) c.from.ensures in
    wrong-sums saved log _ c.if-log-page_size.false (sym whole ∙ c.if-end-size.false) count
    (subst (λ (b : Bool). OnFalse b (pair_of log.sums ≡ pair_of c.args.sums → ⊥)) c.if-not-same_sums.true c.same_sums.ensures.apart)
