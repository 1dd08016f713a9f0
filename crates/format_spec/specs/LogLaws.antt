-- A header with frames is a log, bytes are a log in one way, and the overlay of pages by its frames is one: crates above cite these facts in their proofs.
use Rattle.std.proofs.Math.Path.{subst⁻¹}
use Rattle.std.proofs.Common.{◌≡◌, ℕ, ◌+◌, ◌^◌, ◌<◌, Bool, true, false, List, [], ◌∷◌, ◌++◌, length, refl, sym, ap, ap₂, ◌∙◌, subst, append_assoc, length-append, arith, lit<}
use Rattle.std.proofs.lemmas.List.{append-nil}
use Rattle.byteorder.specs.Endian.{big_bytes}
use Rattle.byte_fields.specs.BytesLaws.{append-same}
use Rattle.byte_fields.specs.NumbersLaws.{big_bytes-same}
use Rattle.format_spec.specs.Log.{magic, pair_bytes, AreWords, log_front, log_sums, log_header, Frame, frame_front, frame_sums, frame_header, frame_bytes, frames_bytes, sums_behind, IsFrame, AreFrames, IsLog, LogReading, reading_of, overlay, IsOverlay}
use Rattle.format_spec.specs.PageMap.{PageMap, SamePages}
use Rattle.format_spec.specs.PageMapLaws.{SamePages-sym, SamePages-trans}

-- a log's header has 32 bytes
pub length-log_header : (big : Bool) (page_size sequence : ℕ) (salt : ℕ × ℕ) → length (log_header big page_size sequence salt) ≡ 32
unfolding log_header
length-log_header big page_size sequence salt = refl

-- a frame's header has 24 bytes
pub length-frame_header : (big : Bool) (salt sums : ℕ × ℕ) (number commit : ℕ) (page : List ℕ)
    → length (frame_header big salt sums number commit page) ≡ 24
unfolding frame_header
length-frame_header big salt sums number commit page = refl

-- the magic number says in which order the checksums take their bytes
same_magic : (big other : Bool) → big_bytes 4 (magic big) ≡ big_bytes 4 (magic other) → big ≡ other
same_magic true true e = refl
same_magic true false e = absurd (let apart : magic true ≡ magic false = big_bytes-same 4 (magic true) (magic false) (lit< tt) (lit< tt) e in omega (arith, apart))
same_magic false true e = absurd (let apart : magic false ≡ magic true = big_bytes-same 4 (magic false) (magic true) (lit< tt) (lit< tt) e in omega (arith, apart))
same_magic false false e = refl

-- two words that have the same bytes
same_words : (one other : ℕ × ℕ) → AreWords one → AreWords other → pair_bytes one ≡ pair_bytes other → one ≡ other
same_words one other fits also e =
    let words = append-same (big_bytes 4 one.0) (big_bytes 4 other.0) (big_bytes 4 one.1) (big_bytes 4 other.1) refl e in
    ap₂ (λ (x y : ℕ). (x, y)) (big_bytes-same 4 one.0 other.0 fits.0 also.0 words.0) (big_bytes-same 4 one.1 other.1 fits.1 also.1 words.1)

-- what the headers of two logs share
record ShareHeader (big other : Bool) (page_size size sequence next : ℕ) (salt salts : ℕ × ℕ) : Type 0 where
  order : big ≡ other
  sizes : page_size ≡ size
  sequences : sequence ≡ next
  words : salt ≡ salts

-- equal headers
header-same : (big other : Bool) (page_size size sequence next : ℕ) (salt salts : ℕ × ℕ) → page_size < 2 ^ 32 → size < 2 ^ 32 → sequence < 2 ^ 32 → next < 2 ^ 32
    → AreWords salt → AreWords salts → log_header big page_size sequence salt ≡ log_header other size next salts → ShareHeader big other page_size size sequence next salt salts
unfolding log_header
header-same big other page_size size sequence next salt salts fits also counts counts_too words words_too e =
    let fronts = append-same (log_front big page_size sequence salt) (log_front other size next salts)
    (pair_bytes (log_sums big page_size sequence salt)) (pair_bytes (log_sums other size next salts)) refl e in
    let magics = append-same (big_bytes 4 (magic big)) (big_bytes 4 (magic other)) _ _ refl fronts.0 in
    let versions = append-same (big_bytes 4 3007000) (big_bytes 4 3007000) _ _ refl magics.1 in
    let page_sizes = append-same (big_bytes 4 page_size) (big_bytes 4 size) _ _ refl versions.1 in
    let sequences = append-same (big_bytes 4 sequence) (big_bytes 4 next) _ _ refl page_sizes.1 in
    record {
      order = same_magic big other magics.0;
      sizes = big_bytes-same 4 page_size size fits also page_sizes.0;
      sequences = big_bytes-same 4 sequence next counts counts_too sequences.0;
      words = same_words salt salts words words_too sequences.1;
    }

-- the number and the commit of equal headers of frames
same_frame_header : (big : Bool) (salt sums : ℕ × ℕ) (frame other : Frame)
    → frame.number < 2 ^ 32 → other.number < 2 ^ 32 → frame.commit < 2 ^ 32 → other.commit < 2 ^ 32
    → frame_header big salt sums frame.number frame.commit frame.page ≡ frame_header big salt sums other.number other.commit other.page
    → (frame.number ≡ other.number) × (frame.commit ≡ other.commit)
unfolding frame_header
same_frame_header big salt sums frame other fits also commits others e =
    let fronts = append-same (frame_front frame.number frame.commit) (frame_front other.number other.commit) _ _ refl e in
    let words = append-same (big_bytes 4 frame.number) (big_bytes 4 other.number) (big_bytes 4 frame.commit) (big_bytes 4 other.commit) refl fronts.0 in
    (big_bytes-same 4 frame.number other.number fits also words.0, big_bytes-same 4 frame.commit other.commit commits others words.1)

-- how many bytes a frame has
length-frame_bytes : (big : Bool) (salt sums : ℕ × ℕ) (page_size : ℕ) (frame : Frame) → IsFrame page_size frame
    → length (frame_bytes big salt sums frame) ≡ 24 + page_size
length-frame_bytes big salt sums page_size frame is =
    let header = frame_header big salt sums frame.number frame.commit frame.page in
    omega (arith, length-append header frame.page, length-frame_header big salt sums frame.number frame.commit frame.page, is.whole)

-- bytes begin with one frame at most
same_frame : (big : Bool) (salt sums : ℕ × ℕ) (page_size : ℕ) (frame other : Frame) (x y : List ℕ) → IsFrame page_size frame → IsFrame page_size other
    → frame_bytes big salt sums frame ++ x ≡ frame_bytes big salt sums other ++ y → (frame ≡ other) × (x ≡ y)
same_frame big salt sums page_size frame other x y is also e =
    let long : length (frame_bytes big salt sums frame) ≡ length (frame_bytes big salt sums other) =
    length-frame_bytes big salt sums page_size frame is ∙ sym (length-frame_bytes big salt sums page_size other also) in
    let wholes = append-same (frame_bytes big salt sums frame) (frame_bytes big salt sums other) x y long e in
    let header = frame_header big salt sums frame.number frame.commit frame.page in
    let other_header = frame_header big salt sums other.number other.commit other.page in
    let headers_long : length header ≡ length other_header =
    length-frame_header big salt sums frame.number frame.commit frame.page ∙ sym (length-frame_header big salt sums other.number other.commit other.page) in
    let halves = append-same header other_header frame.page other.page headers_long wholes.0 in
    let words = same_frame_header big salt sums frame other is.number_fits also.number_fits is.commit_fits also.commit_fits halves.0 in
    let number : frame.number ≡ other.number = words.0 in
    let commit : frame.commit ≡ other.commit = words.1 in
    let page : frame.page ≡ other.page = halves.1 in
    (λ i. record { number = number i; commit = commit i; page = page i }, wholes.1)

-- the bytes begin with these valid frames, the first of which goes on from the sums, and then with no further one
record HaveFrames (big : Bool) (salt sums : ℕ × ℕ) (page_size : ℕ) (bytes : List ℕ) (frames : List Frame) : Type 0 where
  rest : List ℕ
  whole : bytes ≡ frames_bytes big salt sums frames ++ rest
  valid : AreFrames page_size frames
  longest : (frame : Frame) (more : List ℕ) → IsFrame page_size frame → rest ≡ frame_bytes big salt (sums_behind big sums frames) frame ++ more → ⊥

-- there are no frames, and so not one
no_frame : (big : Bool) (salt sums : ℕ × ℕ) (page_size : ℕ) (bytes : List ℕ) (frame : Frame) (frames : List Frame)
    → HaveFrames big salt sums page_size bytes [] → HaveFrames big salt sums page_size bytes (frame ∷ frames) → ⊥
no_frame big salt sums page_size bytes frame frames none some =
    let behind = frames_bytes big salt (frame_sums big sums frame.number frame.commit frame.page) frames in
    none.longest frame (behind ++ some.rest) some.valid.0
    (sym none.whole ∙ some.whole ∙ append_assoc (frame_bytes big salt sums frame) behind some.rest)

-- bytes have one list of valid frames
same_frames : (big : Bool) (salt sums : ℕ × ℕ) (page_size : ℕ) (bytes : List ℕ) (frames others : List Frame)
    → HaveFrames big salt sums page_size bytes frames → HaveFrames big salt sums page_size bytes others → frames ≡ others
same_frames big salt sums page_size bytes [] [] v w = refl
same_frames big salt sums page_size bytes [] (other ∷ others) v w = absurd (no_frame big salt sums page_size bytes other others v w)
same_frames big salt sums page_size bytes (frame ∷ frames) [] v w = absurd (no_frame big salt sums page_size bytes frame frames w v)
same_frames big salt sums page_size bytes (frame ∷ frames) (other ∷ others) v w =
    let after = frame_sums big sums frame.number frame.commit frame.page in
    let after_other = frame_sums big sums other.number other.commit other.page in
    let left = frames_bytes big salt after frames ++ v.rest in
    let right = frames_bytes big salt after_other others ++ w.rest in
    let firsts = same_frame big salt sums page_size frame other left right v.valid.0 w.valid.0
    (sym (append_assoc (frame_bytes big salt sums frame) (frames_bytes big salt after frames) v.rest) ∙ sym v.whole
    ∙ w.whole ∙ append_assoc (frame_bytes big salt sums other) (frames_bytes big salt after_other others) w.rest) in
    let first : frame ≡ other = firsts.0 in
    let sums_same : after_other ≡ after = ap (λ (f : Frame). frame_sums big sums f.number f.commit f.page) (sym first) in
    let ours : HaveFrames big salt after page_size left frames = record { rest = v.rest; whole = refl; valid = v.valid.1; longest = v.longest } in
    let theirs : HaveFrames big salt after_other page_size left others = record { rest = w.rest; whole = firsts.1; valid = w.valid.1; longest = w.longest } in
    ap₂ (λ (f : Frame) (fs : List Frame). f ∷ fs) first
    (same_frames big salt after page_size left frames others ours (subst (λ (s : ℕ × ℕ). HaveFrames big salt s page_size left others) sums_same theirs))

-- bytes are a log in one way
pub log-same_reading : {bytes : List ℕ} {p q : ℕ} {frames others : List Frame} (v : IsLog bytes p frames) (w : IsLog bytes q others) → reading_of v ≡ reading_of w
log-same_reading {bytes} {p} {q} {frames} {others} v w =
    let sums = log_sums v.big p v.sequence v.salt in
    let left = frames_bytes v.big v.salt sums frames ++ v.rest in
    let right = frames_bytes w.big w.salt (log_sums w.big q w.sequence w.salt) others ++ w.rest in
    let long : length (log_header v.big p v.sequence v.salt) ≡ length (log_header w.big q w.sequence w.salt) =
    length-log_header v.big p v.sequence v.salt ∙ sym (length-log_header w.big q w.sequence w.salt) in
    let halves = append-same (log_header v.big p v.sequence v.salt) (log_header w.big q w.sequence w.salt) left right long (sym v.whole ∙ w.whole) in
    let header = header-same v.big w.big p q v.sequence w.sequence v.salt w.salt v.page_size_fits w.page_size_fits v.sequence_fits w.sequence_fits v.salt_fits w.salt_fits halves.0 in
    let order : v.big ≡ w.big = header.order in
    let sizes : p ≡ q = header.sizes in
    let sequences : v.sequence ≡ w.sequence = header.sequences in
    let words : v.salt ≡ w.salt = header.words in
    let ours : HaveFrames v.big v.salt sums p left frames = record { rest = v.rest; whole = refl; valid = v.valid; longest = v.longest } in
    let theirs : HaveFrames w.big w.salt (log_sums w.big q w.sequence w.salt) q left others = record { rest = w.rest; whole = halves.1; valid = w.valid; longest = w.longest } in
    let as_ours : HaveFrames v.big v.salt sums p left others =
    subst⁻¹ {A = Type 0} (λ (T : Type 0). T) (λ i. HaveFrames (order i) (words i) (log_sums (order i) (sizes i) (sequences i) (words i)) (sizes i) left others) theirs in
    let all : frames ≡ others = same_frames v.big v.salt sums p left frames others ours as_ours in
    λ i. record {
      big = order i;
      page_size = sizes i;
      sequence = sequences i;
      salt = words i;
      frames = all i;
      sums = sums_behind (order i) (log_sums (order i) (sizes i) (sequences i) (words i)) (all i);
    }

-- a log has one page size and one list of frames
pub log-same : (bytes : List ℕ) (p q : ℕ) (frames others : List Frame) → IsLog bytes p frames → IsLog bytes q others → (p ≡ q) × (frames ≡ others)
log-same bytes p q frames others v w = let same = log-same_reading v w in (ap (λ (r : LogReading). r.page_size) same, ap (λ (r : LogReading). r.frames) same)

-- an empty list does not begin with a part that is not empty
empty-append : (a b : List ℕ) → 0 < length a → [] ≡ a ++ b → ⊥
empty-append [] b some e = omega arith
empty-append (x ∷ a) b some e = cc

-- a header and frames are a log of these frames
pub log-of_frames : (big : Bool) (page_size sequence : ℕ) (salt : ℕ × ℕ) (frames : List Frame) → page_size < 2 ^ 32 → sequence < 2 ^ 32 → AreWords salt → AreFrames page_size frames
    → IsLog (log_header big page_size sequence salt ++ frames_bytes big salt (log_sums big page_size sequence salt) frames) page_size frames
log-of_frames big page_size sequence salt frames fits counts words valid = record {
  big = big;
  sequence = sequence;
  salt = salt;
  rest = [];
  page_size_fits = fits;
  sequence_fits = counts;
  salt_fits = words;
  whole = ap (λ (b : List ℕ). log_header big page_size sequence salt ++ b) (sym (append-nil (frames_bytes big salt (log_sums big page_size sequence salt) frames)));
  valid = valid;
  longest = λ frame more is_frame e.
      let sums = sums_behind big (log_sums big page_size sequence salt) frames in
      let long = length-frame_header big salt sums frame.number frame.commit frame.page in
      let header = frame_header big salt sums frame.number frame.commit frame.page in
      empty-append header (frame.page ++ more) (omega (arith, long)) (e ∙ append_assoc header frame.page more);
}

-- one more frame behind others
pub frames_bytes-one_more : (big : Bool) (salt sums : ℕ × ℕ) (frames : List Frame) (frame : Frame)
    → frames_bytes big salt sums (frames ++ frame ∷ []) ≡ frames_bytes big salt sums frames ++ frame_bytes big salt (sums_behind big sums frames) frame
frames_bytes-one_more big salt sums [] frame = append-nil (frame_bytes big salt sums frame)
frames_bytes-one_more big salt sums (first ∷ frames) frame =
    let after = frame_sums big sums first.number first.commit first.page in
    ap (λ (b : List ℕ). frame_bytes big salt sums first ++ b) (frames_bytes-one_more big salt after frames frame)
    ∙ sym (append_assoc (frame_bytes big salt sums first) (frames_bytes big salt after frames) (frame_bytes big salt (sums_behind big after frames) frame))

-- and the checksum behind it
pub sums_behind-one_more : (big : Bool) (sums : ℕ × ℕ) (frames : List Frame) (frame : Frame)
    → sums_behind big sums (frames ++ frame ∷ []) ≡ frame_sums big (sums_behind big sums frames) frame.number frame.commit frame.page
sums_behind-one_more big sums [] frame = refl
sums_behind-one_more big sums (first ∷ frames) frame = sums_behind-one_more big (frame_sums big sums first.number first.commit first.page) frames frame

-- the overlay of pages by frames is one, as far as they matter
pub overlay-same : (base : PageMap) (frames : List Frame) (a b : PageMap) → IsOverlay base frames a → IsOverlay base frames b → SamePages a b
overlay-same base frames a b v w = SamePages-trans a (overlay base frames) b (SamePages-sym (overlay base frames) a v) w
