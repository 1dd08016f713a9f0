-- A log that was read is the one that was saved, or has its fault; and the store over it.
use Rattle.std.proofs.Common.{◌≡◌, ◌⊎◌, ℕ, ◌+◌, ◌*◌, ◌≤◌, ◌==◌, Bool, if◌then◌else◌, List, [], ◌∷◌, ◌++◌, length, map, take, drop, Option, IfSome, Ok, Err, sym, ap, ◌∙◌, subst, inl, inr, arith, append-nil, length-append, take_all}
use Rattle.std.proofs.Math.Dec.{eqb-suc-zero}
use Rattle.std.proofs.lemmas.Option.{IfSome_then}
use Rattle.std.proofs.lemmas.List.{length-map, length-take-le, take-append-drop}
use Rattle.common_spec.specs.ReadingLaws.{Reads-one}
use Rattle.common_spec.specs.ToldLaws.{told-both}
use Rattle.file_spec.specs.declared.FileName.TheVariants.{Oal, Target}
use Rattle.file_spec.specs.Files.{Files, content}
use Rattle.format_spec.specs.Sizes.{IsPageSize}
use Rattle.format_spec.specs.Log.{AreWords, pair_of, log_header, log_sums, Frame, frames_bytes, sums_behind, AreFrames, IsLog, reading_of, committed, last_commit, count_after, overlay, IsOverlay}
use Rattle.format_spec.specs.LogLaws.{length-log_header, log-same_reading}
use Rattle.format_spec.specs.PageMap.{PageMap, pages_of}
use Rattle.format_spec.specs.PageMapLaws.{SamePages-sym}
use Rattle.db_header.specs.declared.fields.Header.{Header}
use Rattle.wal_codec.specs.declared.log.Log.{Log}
use Rattle.wal_codec.specs.declared.log.LogFault.TheVariants.{LogFrame}
use Rattle.wal_codec.specs.declared.log.LogFault.TheVariants.{LogHeader as NoHeader, Memory as NoMemory}
use Rattle.wal_codec.specs.LogReading.{HasLog, log_of}
use Rattle.wal_codec.specs.LogReadingLaws.{log-head, head-page_size, committed-front}
use Rattle.file_pages.specs.declared.log.FileLogFault.{FileLogFault}
use Rattle.file_pages.specs.declared.log.FileLogFault.TheVariants.{InBytes, OfDisk}
use Rattle.file_pages.specs.LogFile.{IsFaultIn, front_of}
use Rattle.oal_store.specs.declared.fault.OalFault.{OalFault}
use Rattle.oal_store.specs.declared.fault.OalFault.TheVariants.{LogHeader, OalFrame}
use Rattle.oal_store.specs.declared.store.OalStore.{OalStore}
use Rattle.oal_store.specs.Faults.{log_fault}
use Rattle.oal_store.specs.OalLog.{last_place, HasFrames, target_map}
use Rattle.oal_store.specs.Stored.{KeepsLog, stored_map}
use Rattle.oal_store.specs.Saved.{Saved, end_of, IsSavedLog, HasOalFault, SaysOfLog, saved_by, IsStarted, IsStartFault}
use Rattle.oal_store.specs.SavedLaws.{saved_log-one}
use Rattle.oal_store.specs.Starting.{IsRight, IsWrongLog, pages_after, IsOpened}
use Rattle.oal_store.proofs.Commits.{unchanged-overlay}
use Rattle.oal_store.proofs.PageFrames.{length-frames}
use Rattle.oal_store.proofs.Placings.{no-items}

-- what was read up to the saved length, as a log of pages of its size
record IsRead (saved : Saved) (bytes : List ℕ) (log : Log) (size : ℕ) : Type 0 where
  frames : List Frame
  sized : IsPageSize size
  is_log : IsLog (take saved.size bytes) size frames
  kept : log ≡ log_of (reading_of is_log)

read-as : {saved : Saved} {bytes : List ℕ} {log : Log} (size : ℕ) → log.page_size ≡ size → HasLog (take saved.size bytes) 0 log → IsRead saved bytes log size
read-as {saved} {bytes} {log} size is has =
    let same : has.page_size ≡ size = sym (ap (λ (l : Log). l.page_size) has.kept) ∙ is in
    let log_at : IsLog (take saved.size bytes) size has.frames = subst (λ (n : ℕ). IsLog (take saved.size bytes) n has.frames) same has.is_log in
    record {
      frames = has.frames;
      sized = subst IsPageSize same has.sized;
      is_log = log_at;
      kept = has.kept ∙ ap log_of (log-same_reading has.is_log log_at);
    }

-- how many frames there are
read-count : {saved : Saved} {bytes : List ℕ} {log : Log} {size : ℕ} (read : IsRead saved bytes log size) → length log.frames ≡ length read.frames
read-count read = ap (λ (l : Log). length l.frames) read.kept ∙ length-map read.frames (λ f. f.number)

-- where they end, and what is left
read-end : {saved : Saved} {bytes : List ℕ} {log : Log} {size : ℕ} (read : IsRead saved bytes log size) → saved.size ≤ length bytes
    → saved.size ≡ 32 + length log.frames * (24 + size) + length read.is_log.rest
read-end {saved} {bytes} {log} {size} read long =
    let is = read.is_log in
    let header : List ℕ = log_header is.big size is.sequence is.salt in
    let sums : ℕ × ℕ = log_sums is.big size is.sequence is.salt in
    let behind : List ℕ = frames_bytes is.big is.salt sums read.frames in
    let count : length read.frames * (24 + size) ≡ length log.frames * (24 + size) = ap (λ (n : ℕ). n * (24 + size)) (sym (read-count read)) in
    omega (
      arith,
      length-take-le saved.size bytes long,
      ap length is.whole,
      length-append header (behind ++ is.rest),
      length-append behind is.rest,
      length-log_header is.big size is.sequence is.salt,
      length-frames is.big is.salt sums size read.frames is.valid,
      count,
    )

-- the frames are all up to the last commit where they are as many
closed-by_count : (frames : List Frame) → length (committed frames) ≡ length frames → committed frames ≡ frames
closed-by_count frames same = committed-front frames ∙ ap (λ (n : ℕ). take n frames) same ∙ take_all (length frames) frames (omega arith)

-- a log of pages of another size
pub wrong-size : (saved : Saved) (log : Log) → ¬ (log.page_size ≡ saved.page_size) → IsWrongLog saved log LogHeader
wrong-size saved log other bytes long has =
    let size : log.page_size ≡ has.page_size = ap (λ (l : Log). l.page_size) has.kept in
    (long, λ head has_head sized same. other (size ∙ head-page_size (take saved.size bytes) _ head (log-head has.is_log) has_head ∙ same))

-- one whose frames end before
pub wrong-end : (saved : Saved) (log : Log) (number : ℕ) → log.page_size ≡ saved.page_size → ¬ (32 + length log.frames * (24 + log.page_size) ≡ saved.size) → number ≡ length log.frames + 1
    → IsWrongLog saved log (OalFrame number)
wrong-end saved log number size other is bytes long has =
    let read : IsRead saved bytes log saved.page_size = read-as saved.page_size size has in
    let place : 32 + length log.frames * (24 + log.page_size) ≡ 32 + length log.frames * (24 + saved.page_size) = ap (λ (n : ℕ). 32 + length log.frames * (24 + n)) size in
    let ours : length log.frames * (24 + saved.page_size) ≡ length read.frames * (24 + saved.page_size) = ap (λ (n : ℕ). n * (24 + saved.page_size)) (read-count read) in
    let apart : ¬ (32 + length log.frames * (24 + saved.page_size) ≡ saved.size) = λ e. other (place ∙ e) in
    record {
      frames = read.frames;
      log = record { long = long; sized = read.sized; is_log = read.is_log };
      wrong = inl (omega (arith, read-end read long, ours, apart), is ∙ ap (λ (n : ℕ). n + 1) (read-count read));
    }

-- one whose last frame is no commit, or has another checksum
wrong-last : (saved : Saved) (log : Log) (number : ℕ) → log.page_size ≡ saved.page_size → 32 + length log.frames * (24 + log.page_size) ≡ saved.size → number ≡ length log.frames
    → ((¬ (log.committed ≡ length log.frames)) ⊎ (¬ (pair_of log.sums ≡ saved.sums))) → IsWrongLog saved log (OalFrame number)
wrong-last saved log number size whole is why bytes long has =
    let read : IsRead saved bytes log saved.page_size = read-as saved.page_size size has in
    let place : 32 + length log.frames * (24 + log.page_size) ≡ end_of saved read.frames =
    ap (λ (n : ℕ). 32 + length log.frames * (24 + n)) size ∙ ap (λ (n : ℕ). 32 + n * (24 + saved.page_size)) (read-count read) in
    record {
      frames = read.frames;
      log = record { long = long; sized = read.sized; is_log = read.is_log };
      wrong = inr (
        sym place ∙ whole,
        is ∙ read-count read,
        elim why [
          | inl unended ↦ inl (λ closed. unended (ap (λ (l : Log). l.committed) read.kept ∙ ap length closed ∙ sym (read-count read)))
          | inr other ↦ inr (λ same. other (ap (λ (l : Log). pair_of l.sums) read.kept ∙ same))
        ],
      );
    }

pub wrong-commit : (saved : Saved) (log : Log) (number : ℕ) → log.page_size ≡ saved.page_size → 32 + length log.frames * (24 + log.page_size) ≡ saved.size → number ≡ length log.frames
    → ¬ (log.committed ≡ length log.frames) → IsWrongLog saved log (OalFrame number)
wrong-commit saved log number size whole is unended = wrong-last saved log number size whole is (inl unended)

pub wrong-sums : (saved : Saved) (log : Log) (number : ℕ) → log.page_size ≡ saved.page_size → 32 + length log.frames * (24 + log.page_size) ≡ saved.size → number ≡ length log.frames
    → ¬ (pair_of log.sums ≡ saved.sums) → IsWrongLog saved log (OalFrame number)
wrong-sums saved log number size whole is other = wrong-last saved log number size whole is (inr other)

-- a fault that bytes have is the only answer
pub only-fault : (saved : Saved) (shown : Option Files) (fault : OalFault) → IfSome shown (λ files. HasOalFault saved (content files Oal) fault) → IsStartFault shown saved fault
only-fault saved shown fault told = inr (IfSome_then shown told (λ f has. Reads-one (SaysOfLog saved (content f Oal)) (Err fault) (saved_log-one saved (content f Oal)) has))

-- the fault of a log in the file's first bytes is that of the hidden log
pub fault-of_log : (saved : Saved) (shown also : Option Files) (fault : FileLogFault) → also ≡ shown → IfSome shown (λ files. saved.size ≤ length (content files Oal))
    → IsFaultIn also (front_of Oal saved.size) 0 fault → IsStartFault shown saved (log_fault fault)
fault-of_log saved shown also (InBytes NoHeader) same long (inl memory) = absurd memory
fault-of_log saved shown also (InBytes NoHeader) same long (inr reads) =
    only-fault saved shown LogHeader (told-both shown same long reads (λ f has r. (has, λ head has_head sized size. r.holds head has_head sized)))
fault-of_log saved shown also (InBytes (LogFrame number)) same long (inl memory) = absurd memory
fault-of_log saved shown also (InBytes (LogFrame number)) same long (inr reads) =
    only-fault saved shown (OalFrame number) (told-both shown same long reads (λ f has r. absurd (elim r.holds.lacks [
      | inl few ↦ omega (arith, few.0)
      | inr none ↦ omega (arith, none.1)
    ])))
fault-of_log saved shown also (InBytes (NoMemory error)) same long is = inl tt
fault-of_log saved shown also (OfDisk fault) same long is = inl tt

-- what was read is the log that was saved
saved-log : {saved : Saved} {bytes : List ℕ} {log : Log} (read : IsRead saved bytes log saved.page_size) → saved.size ≤ length bytes → IsRight saved log → IsSavedLog saved bytes read.frames
saved-log {saved} {bytes} {log} read long right = record {
  log = record { long = long; sized = read.sized; is_log = read.is_log };
  whole = sym (ap (λ (n : ℕ). 32 + n * (24 + saved.page_size)) (read-count read)) ∙ sym (ap (λ (n : ℕ). 32 + length log.frames * (24 + n)) right.page_size) ∙ right.whole;
  closed = closed-by_count read.frames (sym (ap (λ (l : Log). l.committed) read.kept) ∙ right.closed ∙ read-count read);
  sums = sym (ap (λ (l : Log). pair_of l.sums) read.kept) ∙ right.sums;
}

pages-counted : (target committed_count pages : ℕ) (frames : List Frame) → committed_count ≡ length frames → pages ≡ last_commit frames
    → (if committed_count == 0 then target else pages) ≡ count_after target frames
pages-counted target committed_count pages [] count last = ap (λ (n : ℕ). if n == 0 then target else pages) count
pages-counted target committed_count pages (frame ∷ frames) count last =
    ap (λ (n : ℕ). if n == 0 then target else pages) count ∙ ap (λ (b : Bool). if b then target else pages) (eqb-suc-zero (length frames)) ∙ last

-- the store over it keeps the log, and has the pages of the overlay
pub started : (header : Header) (size : ℕ) (sums : List ℕ) (log : Log) (store : OalStore) (files : Files) → IsOpened log header size sums store → IsRight (saved_by header size sums) log
    → size ≤ length (content files Oal) → HasLog (take size (content files Oal)) 0 log → IsStarted header size sums store files
started header size sums log store files opened right long has = record {
  frames = frames;
  reads = Reads-one (SaysOfLog saved bytes) (Ok frames) (saved_log-one saved bytes) is_saved;
  keeps = keeps;
  pages = pages;
}
  where
    saved : Saved
    saved = saved_by header size sums

    bytes : List ℕ
    bytes = content files Oal

    read : IsRead saved bytes log header.page_size
    read = read-as header.page_size right.page_size has

    frames : List Frame
    frames = read.frames

    is : IsLog (take size bytes) header.page_size frames
    is = read.is_log

    is_saved : IsSavedLog saved bytes frames
    is_saved = saved-log read long right

    big : store.log.big ≡ is.big
    big = opened.big ∙ ap (λ (l : Log). l.big) read.kept

    sized : store.log.page_size ≡ header.page_size
    sized = opened.page_size ∙ right.page_size

    salt : pair_of store.log.salt ≡ is.salt
    salt = ap pair_of opened.salt ∙ ap (λ (l : Log). pair_of l.salt) read.kept

    first : ℕ × ℕ
    first = log_sums is.big header.page_size is.sequence is.salt

    firsts : log_sums store.log.big store.log.page_size is.sequence (pair_of store.log.salt) ≡ first
    firsts = λ i. log_sums (big i) (sized i) is.sequence (salt i)

    none : is.rest ≡ []
    none = no-items is.rest (omega (arith, read-end read long, right.whole, ap (λ (n : ℕ). 32 + length log.frames * (24 + n)) right.page_size))

    behind : List ℕ
    behind = frames_bytes is.big is.salt first frames

    front : take size bytes ≡ log_header is.big header.page_size is.sequence is.salt ++ behind
    front = is.whole ∙ ap (λ (rest : List ℕ). log_header is.big header.page_size is.sequence is.salt ++ (behind ++ rest)) none
        ∙ ap (λ (b : List ℕ). log_header is.big header.page_size is.sequence is.salt ++ b) (append-nil behind)

    committed_is : log.committed ≡ length frames
    committed_is = right.closed ∙ read-count read

    last : log.commit_pages ≡ last_commit frames
    last = ap (λ (l : Log). l.commit_pages) read.kept ∙ ap last_commit is_saved.closed

    count : pages_after log header.pages ≡ count_after store.log.target_pages frames
    count = pages-counted header.pages log.committed log.commit_pages frames committed_is last ∙ sym (ap (λ (t : ℕ). count_after t frames) opened.target_pages)

    kept : HasFrames store.log frames (take size bytes)
    kept = record {
      sequence = is.sequence;
      sequence_fits = is.sequence_fits;
      salt_fits = subst AreWords (sym salt) is.salt_fits;
      sized = subst IsPageSize (sym sized) read.sized;
      whole = front ∙ sym (λ i. log_header (big i) (sized i) is.sequence (salt i) ++ frames_bytes (big i) (salt i) (firsts i) frames);
      valid = subst (λ (n : ℕ). AreFrames n frames) (sym sized) is.valid;
      closed = is_saved.closed;
      sums = ap pair_of opened.sums ∙ sym right.sums ∙ ap (λ (l : Log). pair_of l.sums) read.kept ∙ sym (λ i. sums_behind (big i) (firsts i) frames);
      size = opened.size ∙ sym (length-take-le size bytes long);
      pages = opened.pages ∙ count;
      places = λ n. opened.places n ∙ (λ i. last_place (right.page_size i) 32 n ((read.kept i).frames)) ∙ sym (ap (λ (s : ℕ). last_place s 32 n (map (λ (f : Frame). f.number) frames)) sized);
    }

    keeps : KeepsLog store frames files
    keeps = record { front = take size bytes; rest = drop size bytes; has = kept; whole = sym (take-append-drop size bytes) }

    base : target_map store.log files ≡ pages_of header.page_size header.pages (content files Target)
    base = λ i. pages_of (sized i) (opened.target_pages i) (content files Target)

    pages : IsOverlay (pages_of header.page_size header.pages (content files Target)) frames (stored_map store files)
    pages = subst (λ (b : PageMap). IsOverlay b frames (stored_map store files)) base
        (SamePages-sym (stored_map store files) (overlay (target_map store.log files) frames) (unchanged-overlay store frames files opened.unchanged (opened.count ∙ count) is_saved.closed keeps))
