-- By what is kept of a log a file has the pages that its overlay by the log has: crates above cite these facts in their proofs.
use Rattle.std.proofs.Common.{◌≡◌, ℕ, zero, suc, ◌+◌, ◌*◌, ◌<◌, ◌==◌, ◌||◌, not, is_some, if◌then◌else◌, Bool, true, false, List, [], ◌∷◌, ◌++◌, length, take, drop, slice_index_or, Option, Some, None, unwrap_or, refl, sym, ap, ap₂, ◌∙◌, subst, arith, append_assoc, length-append}
use Rattle.std.proofs.lemmas.Bool.{eq-eqb, ne_eqb}
use Rattle.std.proofs.lemmas.List.{drop_at, drop-drop, take_at}
use Rattle.byte_fields.specs.Bytes.{resized}
use Rattle.byte_fields.specs.BytesLaws.{resized-short}
use Rattle.byte_fields.specs.Numbers.{page_at}
use Rattle.file_spec.specs.declared.FileName.{FileName}
use Rattle.file_spec.specs.declared.FileName.TheVariants.{Target, Wal}
use Rattle.file_spec.specs.Files.{Files, content}
use Rattle.format_spec.specs.Log.{Frame, AreFrames, log_header, log_sums, frame_header, frame_sums, frames_bytes, last_frame_of, last_commit, committed, count_after, overlay}
use Rattle.format_spec.specs.LogLaws.{length-log_header, length-frame_header}
use Rattle.format_spec.specs.PageMap.{PageMap, SamePages, pages_of, page_count, file_pages}
use Rattle.db_header.specs.declared.fields.Header.{Header}
use Rattle.db_header.specs.Reading.{IsHeaderOf}
use Rattle.wal_codec.specs.declared.log.Log.{Log}
use Rattle.wal_codec.specs.LogReading.{HasLog}
use Rattle.wal_codec.specs.LogReadingLaws.{committed-front}
use Rattle.wal_index.specs.OverlayLaws.{numbers}
use Rattle.update_spec.specs.View.{pages_below, IsOverlaidBy, IsView}
use Rattle.file_pages.specs.FileMapLaws.{file_pages-by_header}
use Rattle.file_pages.specs.Overlay.{frames_at, kept_frames, pages_over, map_over, Start, file_start, start_over}

-- frames at a place have the numbers that they were given
pub frames_at-numbers : (size : ℕ) (bytes : List ℕ) (at : ℕ) (ns : List ℕ) → numbers (frames_at size bytes at ns) ≡ ns
frames_at-numbers size bytes at [] = refl
frames_at-numbers size bytes at (n ∷ ns) = ap (λ (rest : List ℕ). n ∷ rest) (frames_at-numbers size bytes (at + (24 + size)) ns)

-- the page of one of them
pub frames_at-page : (size : ℕ) (bytes : List ℕ) (at : ℕ) (ns : List ℕ) (i : ℕ) (d : Frame) → i < length ns
    → (slice_index_or (frames_at size bytes at ns) i d).page ≡ resized (drop (at + i * (24 + size) + 24) bytes) size
frames_at-page size bytes at [] i d within = absurd (omega arith)
frames_at-page size bytes at (n ∷ ns) zero d within =
    let place : at + 24 ≡ at + zero * (24 + size) + 24 = omega arith in
    ap (λ (k : ℕ). resized (drop k bytes) size) place
frames_at-page size bytes at (n ∷ ns) (suc i) d within =
    let place : at + (24 + size) + i * (24 + size) + 24 ≡ at + suc i * (24 + size) + 24 = omega arith in
    frames_at-page size bytes (at + (24 + size)) ns i d (omega arith) ∙ ap (λ (k : ℕ). resized (drop k bytes) size) place

-- a page in front of other bytes
front-page : (page rest : List ℕ) (size : ℕ) → length page ≡ size → resized (page ++ rest) size ≡ page
front-page page rest size long = resized-short (page ++ rest) size (omega (arith, length-append page rest)) ∙ take_at page rest size long

-- what lies behind a place in bytes of which the front is known
behind : (at n : ℕ) (bytes front rest : List ℕ) → drop at bytes ≡ front ++ rest → length front ≡ n → drop (at + n) bytes ≡ rest
behind at n bytes front rest here long = sym (drop-drop n at bytes) ∙ ap (drop n) here ∙ drop_at front rest n long

-- the frames that stand in bytes have pages as frames at their places have them
frames-at : (n : ℕ) (big : Bool) (salt sums : ℕ × ℕ) (size : ℕ) (bytes : List ℕ) (at count : ℕ) (frames : List Frame) (rest : List ℕ) → AreFrames size frames
    → drop at bytes ≡ frames_bytes big salt sums frames ++ rest → last_frame_of n (take count (frames_at size bytes at (numbers frames))) ≡ last_frame_of n (take count frames)
frames-at n big salt sums size bytes at zero frames rest valid here = refl
frames-at n big salt sums size bytes at (suc count) [] rest valid here = refl
frames-at n big salt sums size bytes at (suc count) (frame ∷ frames) rest valid here =
    let header : List ℕ = frame_header big salt sums frame.number frame.commit frame.page in
    let after : ℕ × ℕ = frame_sums big sums frame.number frame.commit frame.page in
    let left : List ℕ = frames_bytes big salt after frames ++ rest in
    let first : drop at bytes ≡ (header ++ frame.page) ++ left = here ∙ append_assoc (header ++ frame.page) (frames_bytes big salt after frames) rest in
    let long : length header ≡ 24 = length-frame_header big salt sums frame.number frame.commit frame.page in
    let page : resized (drop (at + 24) bytes) size ≡ frame.page =
    ap (λ (b : List ℕ). resized b size) (behind at 24 bytes header (frame.page ++ left) (first ∙ append_assoc header frame.page left) long)
    ∙ front-page frame.page left size valid.0.whole in
    let next : drop (at + (24 + size)) bytes ≡ left =
    behind at (24 + size) bytes (header ++ frame.page) left first (omega (arith, length-append header frame.page, long, valid.0.whole)) in
    let later = frames-at n big salt after size bytes (at + (24 + size)) count frames rest valid.1 next in
    ap₂ (λ (r : Option (List ℕ)) (p : List ℕ). if is_some r || not (frame.number == n) then r else Some p) later page

-- what is kept of a log has the pages of its frames up to the last commit
pub kept-frames : (files : Files) (needed : ℕ) (log : Log) (has : HasLog (content files Wal) needed log) (n : ℕ)
    → last_frame_of n (kept_frames log files) ≡ last_frame_of n (committed has.frames)
kept-frames files needed log has n =
    let wal : List ℕ = content files Wal in
    let is = has.is_log in
    let header : List ℕ = log_header is.big has.page_size is.sequence is.salt in
    let sums : ℕ × ℕ = log_sums is.big has.page_size is.sequence is.salt in
    let here : drop 32 wal ≡ frames_bytes is.big is.salt sums has.frames ++ is.rest =
    ap (drop 32) is.whole ∙ drop_at header (frames_bytes is.big is.salt sums has.frames ++ is.rest) 32 (length-log_header is.big has.page_size is.sequence is.salt) in
    ap (λ (l : Log). last_frame_of n (kept_frames l files)) has.kept
    ∙ frames-at n is.big is.salt sums has.page_size wal 32 (length (committed has.frames)) has.frames is.rest is.valid here
    ∙ ap (last_frame_of n) (sym (committed-front has.frames))

-- the page size, the count of frames and that of pages of a log
record Says (log : Log) (page_size : ℕ) (frames : List Frame) : Type 0 where
  size : log.page_size ≡ page_size
  some : log.committed ≡ length (committed frames)
  count : log.commit_pages ≡ last_commit (committed frames)

log-says : (bytes : List ℕ) (needed : ℕ) (log : Log) (has : HasLog bytes needed log) → Says log has.page_size has.frames
log-says bytes needed log has = record {
  size = ap (λ (l : Log). l.page_size) has.kept;
  some = ap (λ (l : Log). l.committed) has.kept;
  count = ap (λ (l : Log). l.commit_pages) has.kept;
}

-- a log without a commit overlays nothing
over-none : (files : Files) (name : FileName) (log : Log) (header : Header) → log.committed ≡ 0 → IsHeaderOf (start_over (Some log) name files).first (start_over (Some log) name files).long header
    → SamePages (file_pages (content files name)) (map_over header (Some log) name files)
over-none files name log header none is =
    let file : List ℕ = content files name in
    let empty : (log.committed == 0) ≡ true = eq-eqb log.committed 0 none in
    let start : start_over (Some log) name files ≡ file_start name files =
    ap (λ (b : Bool). if b then file_start name files else record { first = take 100 (pages_over log.page_size (Some log) name files 1); long = log.commit_pages * log.page_size }) empty in
    let same = file_pages-by_header file header (subst (λ (s : Start). IsHeaderOf s.first s.long header) start is) in
    record {
      size = same.size;
      count = same.count ∙ sym (ap (λ (b : Bool). if b then header.pages else log.commit_pages) empty);
      each = λ n positive within. same.each n positive within
          ∙ sym (ap (λ (k : ℕ). unwrap_or (last_frame_of n (take k (frames_at log.page_size (content files Wal) 32 log.frames))) (page_at header.page_size n file)) none);
    }

-- pages under frames that all count
abbrev laid : List Frame → PageMap → PageMap
laid frames base = record { size = base.size; count = count_after base.count frames; page = λ n. unwrap_or (last_frame_of n frames) (base.page n) }

-- a log with a commit overlays each page that has a frame
over-some : (files : Files) (name : FileName) (needed : ℕ) (log : Log) (header : Header) (has : HasLog (content files Wal) needed log) (frame : Frame) (frames : List Frame)
    → committed has.frames ≡ frame ∷ frames → (0 < log.committed → log.page_size ≡ header.page_size)
    → SamePages (laid (frame ∷ frames) (pages_of has.page_size (page_count (content files name)) (content files name))) (map_over header (Some log) name files)
over-some files name needed log header has frame frames are sized =
    let file : List ℕ = content files name in
    let says = log-says (content files Wal) needed log has in
    let some : 0 < log.committed = omega (arith, says.some, ap length are) in
    let filled : (log.committed == 0) ≡ false = ne_eqb log.committed 0 (λ e. omega (arith, e, some)) in
    let size : has.page_size ≡ header.page_size = sym says.size ∙ sized some in
    record {
      size = size;
      count = sym (ap (λ (b : Bool). if b then header.pages else log.commit_pages) filled ∙ says.count ∙ ap last_commit are);
      each = λ n positive within. ap₂ (λ (r : Option (List ℕ)) (s : ℕ). unwrap_or r (page_at s n file)) (sym (kept-frames files needed log has n ∙ ap (last_frame_of n) are)) size;
    }

-- the pages of a file by what is kept of its log are those that a reader sees
pub overlaid-by_header : (files : Files) (name : FileName) (needed : ℕ) (log : Log) (header : Header) → HasLog (content files Wal) needed log
    → IsHeaderOf (start_over (Some log) name files).first (start_over (Some log) name files).long header → (0 < log.committed → log.page_size ≡ header.page_size)
    → IsOverlaidBy (Some (content files Wal)) (content files name) (map_over header (Some log) name files)
overlaid-by_header files name needed log header has is sized = (has.page_size, has.frames, has.is_log, same (committed has.frames) refl)
  where
    same : (frames : List Frame) → committed has.frames ≡ frames
        → SamePages (overlay (pages_below has.page_size (committed has.frames) (content files name)) has.frames) (map_over header (Some log) name files)
    same [] none =
        subst (λ (m : PageMap). SamePages m (map_over header (Some log) name files)) (sym (ap (λ (fs : List Frame). laid fs (pages_below has.page_size fs (content files name))) none))
        (over-none files name log header ((log-says (content files Wal) needed log has).some ∙ ap length none) is)
    same (frame ∷ frames) are =
        subst (λ (m : PageMap). SamePages m (map_over header (Some log) name files)) (sym (ap (λ (fs : List Frame). laid fs (pages_below has.page_size fs (content files name))) are))
        (over-some files name needed log header has frame frames are sized)

-- and so are those of the target under the write-ahead log
pub view-by_header : (files : Files) (wal : List ℕ) (needed : ℕ) (log : Log) (header : Header) → files Wal ≡ Some wal → HasLog wal needed log
    → IsHeaderOf (start_over (Some log) Target files).first (start_over (Some log) Target files).long header → (0 < log.committed → log.page_size ≡ header.page_size)
    → IsView files (map_over header (Some log) Target files)
view-by_header files wal needed log header there has is sized =
    let held : content files Wal ≡ wal = ap (λ (o : Option (List ℕ)). unwrap_or o []) there in
    let seen = overlaid-by_header files Target needed log header (subst (λ (b : List ℕ). HasLog b needed log) (sym held) has) is sized in
    subst (λ (o : Option (List ℕ)). IsOverlaidBy o (content files Target) (map_over header (Some log) Target files)) (ap (λ (b : List ℕ). Some b) held ∙ sym there) seen

-- and of the target alone where there is no log
pub view-alone : (files : Files) (header : Header) → files Wal ≡ None → IsHeaderOf (file_start Target files).first (file_start Target files).long header
    → IsView files (map_over header None Target files)
view-alone files header missing is =
    subst (λ (o : Option (List ℕ)). IsOverlaidBy o (content files Target) (map_over header None Target files)) (sym missing) (file_pages-by_header (content files Target) header is)
