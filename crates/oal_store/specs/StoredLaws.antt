-- A store keeps one list of frames, and the last commit says no more pages than the store had: crates above cite these facts in their proofs.
use Rattle.std.proofs.Common.{◌≡◌, ℕ, ◌^◌, ◌<◌, ◌≤◌, List, [], ◌∷◌, ◌++◌, length, sym, ap, ◌∙◌, subst, arith}
use Rattle.byte_fields.specs.BytesLaws.{append-same}
use Rattle.file_spec.specs.Files.{Files}
use Rattle.format_spec.specs.Log.{pair_of, Frame, IsLog, LogReading, last_commit, count_after}
use Rattle.format_spec.specs.LogLaws.{log-of_frames, log-same_reading}
use Rattle.oal_store.specs.declared.log.OalLog.{OalLog}
use Rattle.oal_store.specs.declared.store.OalStore.{OalStore}
use Rattle.oal_store.specs.OalLog.{HasFrames}
use Rattle.oal_store.specs.Stored.{KeepsLog, IsCommitted}

-- the log that is kept is one by the format
has-log : (log : OalLog) (frames : List Frame) (bytes : List ℕ) → HasFrames log frames bytes → IsLog bytes log.page_size frames
has-log log frames bytes has =
    let fits : log.page_size < 2 ^ 32 = omega (arith, has.sized.most) in
    subst (λ (b : List ℕ). IsLog b log.page_size frames) (sym has.whole) (log-of_frames log.big log.page_size has.sequence (pair_of log.salt) frames fits has.sequence_fits has.salt_fits has.valid)

-- the hidden log has one list of frames as far as a store keeps it
pub kept_log-one : (store : OalStore) (frames others : List Frame) (files : Files) → KeepsLog store frames files → KeepsLog store others files → frames ≡ others
kept_log-one store frames others files kept also =
    let long : length kept.front ≡ length also.front = sym kept.has.size ∙ also.has.size in
    let fronts = append-same kept.front also.front kept.rest also.rest long (sym kept.whole ∙ also.whole) in
    let theirs : IsLog kept.front store.log.page_size others =
    subst (λ (b : List ℕ). IsLog b store.log.page_size others) (sym fronts.0) (has-log store.log others also.front also.has) in
    ap (λ (r : LogReading). r.frames) (log-same_reading (has-log store.log frames kept.front kept.has) theirs)

last-count_after : (count : ℕ) (frames : List Frame) → last_commit frames ≤ count_after count frames
last-count_after count [] = omega arith
last-count_after count (x ∷ frames) = omega arith

-- the last commit says no more pages than the store had, so that the next commit may use `within_last` where the count did not fall
pub last_commit-count : (old new : OalStore) (frames : List Frame) (before after : Files) (is : IsCommitted old new frames before after) → last_commit (frames ++ is.more) ≤ old.count
last_commit-count old new frames before after is =
    subst (λ (k : ℕ). last_commit (frames ++ is.more) ≤ k) (sym (ap (count_after new.log.target_pages) is.keeps.has.closed) ∙ is.pages.count)
    (last-count_after new.log.target_pages (frames ++ is.more))
