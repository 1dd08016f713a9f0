-- The write-ahead log (Database File Format, section 4).
use Rattle.std.specs.Prelude.{◌≡◌, ℕ, ◌+◌, ◌%◌, ◌^◌, ◌<◌, ◌==◌, ◌&&◌, ◌||◌, not, is_some, Bool, true, false, if◌then◌else◌, List, [], ◌∷◌, ◌++◌, length, slice_index, Option, Some, None, unwrap_or}
use Rattle.std.specs.List.{AllByRecursion}
use Rattle.byteorder.specs.Endian.{big_bytes, big_number, little_number}
use Rattle.format_spec.specs.PageMap.{PageMap, SamePages}

-- the number in four bytes, in the byte order that the checksum takes
abbrev pub word : Bool → List ℕ → ℕ
word true bytes = big_number 4 bytes
word false bytes = little_number 4 bytes

-- the checksum after one more pair of words
abbrev pub sums_after : ℕ × ℕ → ℕ → ℕ → ℕ × ℕ
sums_after sums x y =
    let first = (sums.0 + x + sums.1) % 2 ^ 32 in
    (first, (sums.1 + y + first) % 2 ^ 32)

-- the checksum of bytes in whole pairs of words, begun with the sums of what lies before (section 4.2)
abbrev pub checksum : Bool → ℕ × ℕ → List ℕ → ℕ × ℕ
checksum big sums (a ∷ b ∷ c ∷ d ∷ e ∷ f ∷ g ∷ h ∷ rest) =
    checksum big (sums_after sums (word big (a ∷ b ∷ c ∷ d ∷ [])) (word big (e ∷ f ∷ g ∷ h ∷ []))) rest
checksum big sums _ = sums

-- the magic number of a log whose checksums take their words with the most significant byte first, or last
abbrev pub magic : Bool → ℕ
magic true = 0x377f0683
magic false = 0x377f0682

-- an array of two words as a pair
abbrev pub pair_of : List ℕ → ℕ × ℕ
pair_of xs = (slice_index xs 0, slice_index xs 1)

-- two words, as a header keeps a salt or a checksum
abbrev pub pair_bytes : ℕ × ℕ → List ℕ
pair_bytes pair = big_bytes 4 pair.0 ++ big_bytes 4 pair.1

-- both words have 32 bits
abbrev pub AreWords : ℕ × ℕ → Type 0
AreWords pair = (pair.0 < 2 ^ 32) × (pair.1 < 2 ^ 32)

-- what a log's header says, and what it sums: the file format is 3007000
abbrev pub log_front : Bool → ℕ → ℕ → ℕ × ℕ → List ℕ
log_front big page_size sequence salt =
    big_bytes 4 (magic big) ++ (big_bytes 4 3007000 ++ (big_bytes 4 page_size ++ (big_bytes 4 sequence ++ pair_bytes salt)))

-- the checksum of a log's header
abbrev pub log_sums : Bool → ℕ → ℕ → ℕ × ℕ → ℕ × ℕ
log_sums big page_size sequence salt = checksum big (0, 0) (log_front big page_size sequence salt)

-- the 32 bytes of a log's header (section 4.1)
unfoldable pub log_header : Bool → ℕ → ℕ → ℕ × ℕ → List ℕ
log_header big page_size sequence salt =
    log_front big page_size sequence salt ++ pair_bytes (log_sums big page_size sequence salt)

-- a page as it was at some commit; `commit` is the size in pages after a commit, or 0
pub record Frame : Type 0 where
  pub number : ℕ
  pub commit : ℕ
  pub page : List ℕ

-- the part of a frame's header that is summed before the page
abbrev pub frame_front : ℕ → ℕ → List ℕ
frame_front number commit = big_bytes 4 number ++ big_bytes 4 commit

-- the checksum at a frame, which goes on from the one before
abbrev pub frame_sums : Bool → ℕ × ℕ → ℕ → ℕ → List ℕ → ℕ × ℕ
frame_sums big sums number commit page = checksum big (checksum big sums (frame_front number commit)) page

-- the 24 bytes of a frame's header (section 4.1)
unfoldable pub frame_header : Bool → ℕ × ℕ → ℕ × ℕ → ℕ → ℕ → List ℕ → List ℕ
frame_header big salt sums number commit page =
    frame_front number commit ++ (pair_bytes salt ++ pair_bytes (frame_sums big sums number commit page))

-- a frame's header and its page
abbrev pub frame_bytes : Bool → ℕ × ℕ → ℕ × ℕ → Frame → List ℕ
frame_bytes big salt sums frame = frame_header big salt sums frame.number frame.commit frame.page ++ frame.page

-- frames one after the other, from the checksum before them
abbrev pub frames_bytes : Bool → ℕ × ℕ → ℕ × ℕ → List Frame → List ℕ
frames_bytes big salt sums [] = []
frames_bytes big salt sums (frame ∷ frames) =
    frame_bytes big salt sums frame ++ frames_bytes big salt (frame_sums big sums frame.number frame.commit frame.page) frames

-- the checksum behind frames
abbrev pub sums_behind : Bool → ℕ × ℕ → List Frame → ℕ × ℕ
sums_behind big sums [] = sums
sums_behind big sums (frame ∷ frames) = sums_behind big (frame_sums big sums frame.number frame.commit frame.page) frames

-- a frame counts where it is of a page, and whole; its number and commit are what four bytes can say
pub record IsFrame (page_size : ℕ) (frame : Frame) : Type 0 where
  pub of_page : 0 < frame.number
  pub number_fits : frame.number < 2 ^ 32
  pub commit_fits : frame.commit < 2 ^ 32
  pub whole : length frame.page ≡ page_size

-- each of them counts
abbrev pub AreFrames : ℕ → List Frame → Type 0
AreFrames page_size = AllByRecursion (IsFrame page_size)

-- The bytes are a log with these valid frames: a header, the frames, and then no further valid frame. What follows the valid frames is ignored.
pub record IsLog (bytes : List ℕ) (page_size : ℕ) (frames : List Frame) : Type 0 where
  pub big : Bool
  pub sequence : ℕ
  pub salt : ℕ × ℕ
  pub rest : List ℕ
  pub page_size_fits : page_size < 2 ^ 32
  pub sequence_fits : sequence < 2 ^ 32
  pub salt_fits : AreWords salt
  pub whole : bytes ≡ log_header big page_size sequence salt ++ (frames_bytes big salt (log_sums big page_size sequence salt) frames ++ rest)
  pub valid : AreFrames page_size frames
  pub longest : (frame : Frame) (more : List ℕ) → IsFrame page_size frame →
      rest ≡ frame_bytes big salt (sums_behind big (log_sums big page_size sequence salt) frames) frame ++ more → ⊥

-- what a log says: the order in which its checksums take their bytes, what its header has, its frames, and the checksum behind them
pub record LogReading : Type 0 where
  pub big : Bool
  pub page_size : ℕ
  pub sequence : ℕ
  pub salt : ℕ × ℕ
  pub frames : List Frame
  pub sums : ℕ × ℕ

-- what bytes that are a log say
abbrev pub reading_of : {bytes : List ℕ} {page_size : ℕ} {frames : List Frame} → IsLog bytes page_size frames → LogReading
reading_of {bytes} {page_size} {frames} log = record {
  big = log.big;
  page_size = page_size;
  sequence = log.sequence;
  salt = log.salt;
  frames = frames;
  sums = sums_behind log.big (log_sums log.big page_size log.sequence log.salt) frames;
}

-- the frames up to the last commit
abbrev pub committed : List Frame → List Frame
committed [] = []
committed (frame ∷ frames) = if (frame.commit == 0) && (length (committed frames) == 0) then [] else frame ∷ committed frames

-- the size in pages at the last of the frames, or 0
abbrev pub last_commit : List Frame → ℕ
last_commit [] = 0
last_commit (frame ∷ []) = frame.commit
last_commit (frame ∷ other ∷ others) = last_commit (other ∷ others)

-- a page as its last frame has it, if it has one
abbrev pub last_frame_of : ℕ → List Frame → Option (List ℕ)
last_frame_of number [] = None
last_frame_of number (frame ∷ frames) =
    if is_some (last_frame_of number frames) || not (frame.number == number) then last_frame_of number frames else Some frame.page

-- how many pages there are after these frames: as many as the last says, or as before
abbrev pub count_after : ℕ → List Frame → ℕ
count_after count [] = count
count_after count (frame ∷ frames) = last_commit (frame ∷ frames)

-- Pages that a log's frames lie over: each from its last frame up to the last commit, else as it was, and as many as that commit says. Without a commit all is as it was (section 4.5).
abbrev pub overlay : PageMap → List Frame → PageMap
overlay base frames = record {
  size = base.size;
  count = count_after base.count (committed frames);
  page = λ n. unwrap_or (last_frame_of n (committed frames)) (base.page n);
}

-- the pages are those of the overlay, as far as they matter
abbrev pub IsOverlay : PageMap → List Frame → PageMap → Type 0
IsOverlay base frames pages = SamePages (overlay base frames) pages
