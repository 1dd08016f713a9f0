-- What is read and counted over frames, after one more, and what it comes to in the end.
use Rattle.std.proofs.Common.{◌≡◌, ℕ, ◌+◌, ◌-◌, ◌*◌, ◌%◌, ◌^◌, ◌<◌, ◌≤◌, ◌==◌, nat_lt, Bool, true, false, cond, List, [], ◌∷◌, ◌++◌, length, take, drop, zero, suc, Result, inl, inr, refl, sym, ap, ap₂, ◌∙◌, subst, arith, append_assoc, length-append}
use Rattle.std.proofs.lemmas.Bool.{cases_lt}
use Rattle.std.proofs.lemmas.Bool.Decides.{nat_tests}
use Rattle.std.proofs.lemmas.List.{drop_at, length-map, map-append}
use Rattle.std.proofs.lemmas.Nat.{pow-add}
use Rattle.std.proofs.Math.Nat.{pow-le-pow_right}
use Rattle.format_spec.specs.Log.{pair_of, Frame, frame_sums, frame_bytes, frames_bytes, sums_behind, IsFrame, AreFrames, IsLog, reading_of, committed, last_commit, log_header, log_sums}
use Rattle.format_spec.specs.LogLaws.{length-log_header, frames_bytes-one_more, sums_behind-one_more}
use Rattle.format_spec.specs.Sizes.{IsPageSize}
use Rattle.common_spec.specs.Reading.{OrFault, Reads}
use Rattle.common_spec.specs.ReadingLaws.{Reads-one}
use Rattle.wal_codec.specs.declared.log.Log.{Log}
use Rattle.wal_codec.specs.declared.log.LogFault.{LogFault}
use Rattle.wal_codec.specs.declared.frames.Counts.{Counts}
use Rattle.wal_codec.specs.declared.frames.LogHead.{LogHead}
use Rattle.wal_codec.specs.declared.frames.FrameHead.{FrameHead}
use Rattle.wal_codec.specs.declared.frames.ReadFrames.{ReadFrames}
use Rattle.wal_codec.specs.LogReading.{HasNoFrame, HasLog, HasFault, HasLackingLog, array_of, log_of}
use Rattle.wal_codec.specs.LogReadingLaws.{log_answer-one, committed-one_more, last_commit-one_more, last_commit-take_same, last_commit-take_one_more}
use Rattle.wal_codec.proofs.ReadingLemmas.{frame-front}
use Rattle.wal_codec.specs.FramesRead.{HasReadHead, HasReadFrame, frame_of, counts_after, counts_of_none, counts_of, HaveFrames, HaveReadFrames, log_kept}

-- powers of two rise
power-rises : (j k : ℕ) → j ≤ k → 2 ^ j ≤ 2 ^ k
power-rises j k le = pow-le-pow_right (omega arith) le

-- pages have whole pairs of words
pub page_size-whole : (size : ℕ) → IsPageSize size → size % 8 ≡ 0
page_size-whole size is =
    let k : ℕ = is.power.0 in
    let same : size ≡ 2 ^ k = is.power.1 in
    let least : 512 ≤ size = is.least in
    elim (cases_lt k 3) [
      | inl below ↦ let low : 2 ^ k ≤ 2 ^ 3 = power-rises k 3 (omega arith) in absurd (omega arith)
      | inr above ↦
          let j : ℕ = k - 3 in
          let exponent : k ≡ 3 + j = omega arith in
          let eight : size ≡ 8 * 2 ^ j = same ∙ ap (λ (e : ℕ). 2 ^ e) exponent ∙ pow-add 2 3 j in
          omega arith
    ]

-- one more frame counts
AreFrames-one_more : (page_size : ℕ) (frames : List Frame) (frame : Frame) → AreFrames page_size frames → IsFrame page_size frame → AreFrames page_size (frames ++ frame ∷ [])
AreFrames-one_more page_size [] frame valid is = (is, tt)
AreFrames-one_more page_size (other ∷ frames) frame valid is = (valid.0, AreFrames-one_more page_size frames frame valid.1 is)

-- what is counted over no frames
pub counts-none : (needed : ℕ) → counts_of_none ≡ counts_of needed []
counts-none zero = refl
counts-none (suc needed) = refl

-- what is counted goes on
counts-one_more : (needed : ℕ) (frames : List Frame) (frame : Frame)
    → counts_after needed (length frames) frame.commit (counts_of needed frames) ≡ counts_of needed (frames ++ frame ∷ [])
counts-one_more needed frames frame =
    let one_more : length (frames ++ frame ∷ []) ≡ length frames + 1 = length-append frames (frame ∷ []) in
    let up_to : cond (frame.commit == 0) (length (committed frames)) (length frames + 1) ≡ length (committed (frames ++ frame ∷ [])) =
    lengths (frame.commit == 0) one_more ∙ ap length (sym (committed-one_more frames frame)) in
    let pages : cond (frame.commit == 0) (last_commit (committed frames)) frame.commit ≡ last_commit (committed (frames ++ frame ∷ [])) =
    commits (frame.commit == 0) ∙ ap last_commit (sym (committed-one_more frames frame)) in
    let last : cond (nat_lt (length frames) needed) frame.commit (last_commit (take needed frames)) ≡ last_commit (take needed (frames ++ frame ∷ [])) =
    elim (cases_lt (length frames) needed) [
      | inl more ↦ let e = last_commit-take_one_more needed frames frame more in grind (arith, nat_tests)
      | inr all ↦ let e = last_commit-take_same needed frames frame all in grind (arith, nat_tests)
    ] in
    λ i. record { committed = up_to i; commit_pages = pages i; last_needed = last i }
  where
    lengths : (b : Bool) → length (frames ++ frame ∷ []) ≡ length frames + 1
        → cond b (length (committed frames)) (length frames + 1) ≡ length (cond b (committed frames) (frames ++ frame ∷ []))
    lengths true one_more = refl
    lengths false one_more = sym one_more

    commits : (b : Bool) → cond b (last_commit (committed frames)) frame.commit ≡ last_commit (cond b (committed frames) (frames ++ frame ∷ []))
    commits true = refl
    commits false = sym (last_commit-one_more frames frame)

-- a frame whose header is read from the first bytes, as many as a frame takes, begins all of them
pub read_frame-front : {big : Bool} {salt sums : ℕ × ℕ} {page_size : ℕ} {read : FrameHead} (left bytes : List ℕ) → take (24 + page_size) left ≡ bytes
    → HasReadFrame big salt sums page_size bytes read → HasReadFrame big salt sums page_size left read
read_frame-front {big} {salt} {sums} {page_size} {read} left bytes front begins = record {
  page = begins.page;
  is_frame = begins.is_frame;
  whole = frame-front big salt sums page_size (frame_of read begins.page) left bytes front begins.is_frame begins.whole;
  sums = begins.sums;
}

-- one more frame is read
pub frames-one_more : (head : LogHead) (bytes : List ℕ) (needed asked : ℕ) (left : List ℕ) (read next : ReadFrames) (frame : FrameHead)
    → asked ≡ needed → HaveFrames head bytes needed left read → HasReadFrame head.big (pair_of head.salt) (pair_of read.sums) head.page_size left frame
    → next.numbers.items ≡ read.numbers.items ++ frame.number ∷ [] → next.counts ≡ counts_after asked (length read.numbers.items) frame.commit read.counts → next.sums ≡ frame.sums
    → HaveFrames head bytes needed (drop (24 + head.page_size) left) next
frames-one_more head bytes needed asked left read next frame asked_is have begins numbers counts sums =
    let big : Bool = head.big in
    let salt : ℕ × ℕ = pair_of head.salt in
    let before : ℕ × ℕ = pair_of head.sums in
    let one : Frame = frame_of frame begins.page in
    let rest : List ℕ = drop (24 + head.page_size) left in
    let long : length read.numbers.items ≡ length have.frames = ap length have.numbers ∙ length-map have.frames (λ f. f.number) in
    let here : left ≡ frame_bytes big salt (sums_behind big before have.frames) one ++ rest =
    begins.whole ∙ ap (λ (s : ℕ × ℕ). frame_bytes big salt s one ++ rest) have.sums in
    record {
      frames = have.frames ++ one ∷ [];
      whole = have.whole ∙ ap (λ (b : List ℕ). frames_bytes big salt before have.frames ++ b) here
          ∙ sym (append_assoc (frames_bytes big salt before have.frames) (frame_bytes big salt (sums_behind big before have.frames) one) rest)
          ∙ ap (λ (b : List ℕ). b ++ rest) (sym (frames_bytes-one_more big salt before have.frames one));
      valid = AreFrames-one_more head.page_size have.frames one have.valid begins.is_frame;
      numbers = numbers ∙ ap (λ (ns : List ℕ). ns ++ frame.number ∷ []) have.numbers ∙ sym (map-append (λ f. f.number) have.frames (one ∷ []));
      counts = counts ∙ ap (λ (a : ℕ). counts_after a (length read.numbers.items) frame.commit read.counts) asked_is ∙ ap₂ (λ (n : ℕ) (cs : _). counts_after needed n frame.commit cs) long have.counts ∙ counts-one_more needed have.frames one;
      sums = ap pair_of sums ∙ begins.sums ∙ ap (λ (s : ℕ × ℕ). frame_sums big s frame.number frame.commit begins.page) have.sums
          ∙ sym (sums_behind-one_more big before have.frames one);
    }

-- the header and the frames that were read are those of a log
pub record HasReadLog (bytes : List ℕ) (needed : ℕ) (head : LogHead) (read : ReadFrames) : Type 0 where
  pub frames : List Frame
  pub is_log : IsLog bytes head.page_size frames
  pub counts : read.counts ≡ counts_of needed frames
  pub long : length read.numbers.items ≡ length frames
  pub kept : log_kept head read ≡ log_of (reading_of is_log)

pub log-read : (bytes : List ℕ) (needed : ℕ) (head : LogHead) (read : ReadFrames) → HasReadHead bytes head
    → HaveReadFrames head (drop 32 bytes) needed read → HasReadLog bytes needed head read
log-read bytes needed head read has_head have =
    let big : Bool = head.big in
    let salt : ℕ × ℕ = pair_of head.salt in
    let h = has_head.has_head in
    let header : List ℕ = log_header big head.page_size has_head.sequence salt in
    let start : ℕ × ℕ = log_sums big head.page_size has_head.sequence salt in
    let f = have.have_frames in
    let behind : drop 32 bytes ≡ h.rest =
    ap (drop 32) h.whole ∙ drop_at header h.rest 32 (length-log_header big head.page_size has_head.sequence salt) in
    let sums : pair_of read.sums ≡ sums_behind big start f.frames =
    f.sums ∙ ap (λ (s : ℕ × ℕ). sums_behind big s f.frames) has_head.sums in
    let is_log : IsLog bytes head.page_size f.frames = record {
      big = big;
      sequence = has_head.sequence;
      salt = salt;
      rest = have.left;
      page_size_fits = h.page_size_fits;
      sequence_fits = h.sequence_fits;
      salt_fits = h.salt_fits;
      whole = h.whole ∙ ap (λ (b : List ℕ). header ++ b)
          (sym behind ∙ f.whole ∙ ap (λ (s : ℕ × ℕ). frames_bytes big salt s f.frames ++ have.left) has_head.sums);
      valid = f.valid;
      longest = subst (λ (s : ℕ × ℕ). HasNoFrame big salt s head.page_size have.left) sums have.longest;
    } in
    record {
      frames = f.frames;
      is_log = is_log;
      counts = f.counts;
      long = ap length f.numbers ∙ length-map f.frames (λ frame. frame.number);
      kept = λ i. record {
        big = head.big;
        page_size = head.page_size;
        salt = array_of salt;
        commit_pages = (f.counts i).commit_pages;
        committed = (f.counts i).committed;
        frames = f.numbers i;
        sums = array_of (sums i);
      };
    }

-- the answer of a log that has the needed frames
pub log-found : (bytes : List ℕ) (needed : ℕ) (head : LogHead) (read : ReadFrames) → HasReadLog bytes needed head read → IsPageSize head.page_size
    → needed ≤ length read.numbers.items → (0 < needed → 0 < read.counts.last_needed) → HasLog bytes needed (log_kept head read)
log-found bytes needed head read r sized enough commit = record {
  page_size = head.page_size;
  frames = r.frames;
  is_log = r.is_log;
  sized = sized;
  has_needed = record {
    enough = omega (arith, r.long);
    commit = λ some. let last : read.counts.last_needed ≡ last_commit (take needed r.frames) = ap (λ (cs : Counts). cs.last_needed) r.counts in omega (arith, commit some);
  };
  kept = r.kept;
}

-- and of one that lacks some
pub log-short : (bytes : List ℕ) (needed : ℕ) (head : LogHead) (read : ReadFrames) → HasReadLog bytes needed head read → IsPageSize head.page_size
    → length read.numbers.items < needed → HasLackingLog bytes needed (length read.numbers.items + 1)
log-short bytes needed head read r sized short = record {
  page_size = head.page_size;
  frames = r.frames;
  is_log = r.is_log;
  sized = sized;
  lacks = inl (omega (arith, r.long), ap (λ (n : ℕ). n + 1) r.long);
}

-- and of one whose last needed frame is no commit
pub log-no_commit : (bytes : List ℕ) (needed : ℕ) (head : LogHead) (read : ReadFrames) → HasReadLog bytes needed head read → IsPageSize head.page_size
    → needed ≤ length read.numbers.items → 0 < needed → read.counts.last_needed ≡ 0 → HasLackingLog bytes needed needed
log-no_commit bytes needed head read r sized enough some none = record {
  page_size = head.page_size;
  frames = r.frames;
  is_log = r.is_log;
  sized = sized;
  lacks = inr (omega (arith, r.long), some, sym (ap (λ (cs : Counts). cs.last_needed) r.counts) ∙ none, refl);
}

-- one answer that bytes have is the only one
pub log-answers : (bytes : List ℕ) (needed : ℕ) (answer : Result Log LogFault) → OrFault (HasLog bytes needed) (HasFault bytes needed) answer
    → Reads (OrFault (HasLog bytes needed) (HasFault bytes needed)) answer
log-answers bytes needed answer = Reads-one (OrFault (HasLog bytes needed) (HasFault bytes needed)) answer (log_answer-one bytes needed)

-- where one more frame ends
pub place-one_more : (before now : List ℕ) (number size : ℕ) → now ≡ before ++ number ∷ [] → 32 + length now * size ≡ 32 + length before * size + size
place-one_more before now number size one_more =
    ap (λ (ns : List ℕ). 32 + length ns * size) one_more ∙ ap (λ (n : ℕ). 32 + n * size) (length-append before (number ∷ [])) ∙ omega arith
