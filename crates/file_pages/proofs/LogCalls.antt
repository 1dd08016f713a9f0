-- What a loop that reads a log over a disk keeps.
use Rattle.std.proofs.Common.{◌≡◌, ℕ, zero, suc, ◌+◌, ◌-◌, ◌<◌, ◌≤◌, Bool, true, false, List, [], ◌∷◌, ◌++◌, length, take, drop, Option, Some, None, Result, Ok, Err, IfSome, IfNone, IfOk, MatchOption, refl, sym, ap, ap₂, ◌∙◌, inl, inr, subst, arith, length-append, length-drop, length-take, take_all}
use Rattle.std.proofs.lemmas.List.{drop-drop, take-take}
use Rattle.std.proofs.lemmas.Option.{IfSome_then}
use Rattle.common_spec.specs.ToldLaws.{told-both}
use Rattle.file_spec.specs.declared.FileName.{FileName}
use Rattle.file_spec.specs.Files.{Files, content}
use Rattle.format_spec.specs.Log.{pair_of, frame_header}
use Rattle.format_spec.specs.LogLaws.{length-frame_header}
use Rattle.rbu_disk.specs.declared.disk.Disk.{Ghosts}
use Rattle.rbu_disk.specs.declared.disk.DiskFault.{DiskFault}
use Rattle.rbu_disk.specs.Call.{Failures}
use Rattle.rbu_disk.specs.Disk.{IsCause, Looks, OwesBy}
use Rattle.rbu_disk.specs.Uses.{AllowsEvery}
use Rattle.wal_codec.specs.declared.log.Log.{Log}
use Rattle.wal_codec.specs.declared.log.LogFault.{LogFault}
use Rattle.wal_codec.specs.declared.log.LogFault.TheVariants.{LogHeader}
use Rattle.wal_codec.specs.declared.reader.LogReader.{LogReader}
use Rattle.common_spec.specs.Reading.{OrFault, Reads}
use Rattle.common_spec.specs.ReadingLaws.{Reads-one}
use Rattle.wal_codec.specs.LogReading.{HasLog, HasFault}
use Rattle.wal_codec.specs.LogReadingLaws.{log_answer-one}
use Rattle.wal_codec.specs.FramesRead.{IsReading, IsEnd, TakesFrame, frame_size, place_behind}
use Rattle.file_pages.specs.declared.log.FileLogFault.{FileLogFault}
use Rattle.file_pages.specs.declared.log.FileLogFault.TheVariants.{InBytes, OfDisk}
use Rattle.file_pages.specs.LogFile.{IsAllRead, IsFaultIn, IsFaultOf, ReadsAll, ReadsNext, front_of}

-- a log in the first bytes of a file has been read up to a place, and nothing else changed but for the reader
pub record IsReadTo {D : Type 0} (g : Ghosts D) (file : FileName) (len : ℕ) (start now : D) (first reader : LogReader) (at : ℕ) : Type 0 where
  pub shown : g.shown now ≡ g.shown start
  pub moments : g.trail now ≡ g.trail start
  pub test : g.test now ≡ g.test start
  pub still : g.failures now ≡ g.failures start
  pub size : frame_size reader ≡ frame_size first
  pub place : place_behind reader ≡ at
  pub read : IfSome (g.shown start) (λ files. (needed : ℕ) → IsReading (front_of file len files) needed (drop 32 (front_of file len files)) first
      → IsReading (front_of file len files) needed (drop at (front_of file len files)) reader)

-- two fronts of bytes are taken in either order
pub front-front : (m n : ℕ) (xs : List ℕ) → take m (take n xs) ≡ take n (take m xs)
front-front zero zero xs = refl
front-front zero (suc n) xs = refl
front-front (suc m) zero xs = refl
front-front (suc m) (suc n) [] = refl
front-front (suc m) (suc n) (x ∷ xs) = ap (λ (rest : List ℕ). x ∷ rest) (front-front m n xs)

-- bytes at a place that lie in a front are those of all
pub front-within : (at n len : ℕ) (xs : List ℕ) → at + n ≤ len → take n (drop at (take len xs)) ≡ take n (drop at xs)
front-within zero n len xs within = take-take n len xs (omega (arith, within))
front-within (suc at) n zero xs within = absurd (omega arith)
front-within (suc at) n (suc len) [] within = refl
front-within (suc at) n (suc len) (x ∷ xs) within = front-within at n len xs (omega arith)

-- in fewer bytes than a frame takes there is none
pub short-end : (left : List ℕ) (reader : LogReader) → length left < frame_size reader → IsEnd left reader
short-end left reader short frame more is e =
    let header : List ℕ = frame_header reader.head.big (pair_of reader.head.salt) (pair_of reader.read.sums) frame.number frame.commit frame.page in
    omega (
      arith,
      ap length e,
      length-append (header ++ frame.page) more,
      length-append header frame.page,
      length-frame_header reader.head.big (pair_of reader.head.salt) (pair_of reader.read.sums) frame.number frame.commit frame.page,
      is.whole,
    )

-- what a call leaves that only looks, after others
pub looks-on : {D S T E F : Type 0} (g : Ghosts D) {file : FileName} {len : ℕ} {start now next : D} {first reader : LogReader} {at : ℕ} {made : Result S F} {Was : S → Files → Type 0}
    {result : Result T E} {Is : T → Files → Type 0} → IsReadTo g file len start now first reader at → Looks g now next made Was → IfOk result (λ x. IfSome (g.shown start) (Is x))
    → Looks g start next result Is
looks-on g before looks answer = record {
  same = looks.same ∙ before.shown;
  answer = answer;
  moments = looks.moments ∙ before.moments;
  test = looks.test ∙ before.test;
}

-- what is owed where no call failed
pub owes-none : {D T E : Type 0} (g : Ghosts D) {fault_in : E → Option DiskFault} {start next : D} (found : T) → g.failures next ≡ g.failures start → g.test next ≡ g.test start
    → OwesBy g {T = T} {E = E} fault_in start next (Ok found)
owes-none g {start = start} {next = next} found still test = record {
  later = omega (arith, ap (λ (f : Failures). f.count) still);
  still = still;
  cause = tt;
  allows = λ all. subst AllowsEvery (sym test) all;
}

-- one frame more is read
pub read-on : {D E : Type 0} (g : Ghosts D) {file : FileName} {len : ℕ} {start now next : D} {first reader after : LogReader} {at size : ℕ} {valid : Bool} → IsReadTo g file len start now first reader at
    → Looks g {T = Bool} {E = E} now next (Ok valid) (ReadsNext file at reader after) → valid ≡ true → g.failures next ≡ g.failures now → frame_size after ≡ frame_size reader
    → place_behind after ≡ place_behind reader + frame_size reader → size ≡ frame_size first → at + size ≤ len → IsReadTo g file len start next first after (at + size)
read-on g {file} {len} {start} {now} {next} {first} {reader} {after} {at} {size} before looks is_valid still sized placed size_is within =
    let same : frame_size reader ≡ size = before.size ∙ sym size_is in
    record {
      shown = looks.same ∙ before.shown;
      moments = looks.moments ∙ before.moments;
      test = looks.test ∙ before.test;
      still = still ∙ before.still;
      size = sized ∙ before.size;
      place = placed ∙ ap₂ (λ (a s : ℕ). a + s) before.place same;
      read = told-both (g.shown start) before.shown before.read looks.answer (λ f reading takes needed begun.
          let bytes : List ℕ = front_of file len f in
          subst (λ (b : List ℕ). IsReading bytes needed b after) (drop-drop (frame_size reader) at bytes ∙ ap (λ (k : ℕ). drop (at + k) bytes) same)
          (subst (TakesFrame bytes needed (drop at bytes) reader after) is_valid (takes len needed (omega (arith, same, within)) (reading needed begun))));
    }

-- what is left begins with no frame
pub read-last : {D E : Type 0} (g : Ghosts D) {file : FileName} {len : ℕ} {start now next : D} {first reader after : LogReader} {at size : ℕ} {valid : Bool} → IsReadTo g file len start now first reader at
    → Looks g {T = Bool} {E = E} now next (Ok valid) (ReadsNext file at reader after) → valid ≡ false → size ≡ frame_size first → at + size ≤ len → IfSome (g.shown start) (ReadsAll file len first after)
read-last g {file} {len} {start} {now} {next} {first} {reader} {after} {at} {size} before looks is_none size_is within =
    let same : frame_size reader ≡ size = before.size ∙ sym size_is in
    told-both (g.shown start) before.shown before.read looks.answer (λ f reading takes needed begun.
    let bytes : List ℕ = front_of file len f in
    let last = subst (TakesFrame bytes needed (drop at bytes) reader after) is_none (takes len needed (omega (arith, same, within)) (reading needed begun)) in
    record { left = drop at bytes; reading = last.0; end = last.1 })

-- what is left is too short for one
pub read-short : {D : Type 0} (g : Ghosts D) {file : FileName} {len : ℕ} {start now : D} {first reader : LogReader} {at size : ℕ} → IsReadTo g file len start now first reader at
    → size ≡ frame_size first → len - at < size → IfSome (g.shown start) (ReadsAll file len first reader)
read-short g {file} {len} {start} {now} {first} {reader} {at} {size} before size_is short =
    IfSome_then (g.shown start) before.read (λ f reading needed begun.
    let bytes : List ℕ = front_of file len f in
    let same : frame_size reader ≡ frame_size first = before.size in
    record {
      left = drop at bytes;
      reading = reading needed begun;
      end = short-end (drop at bytes) reader (omega (arith, length-drop at bytes, length-take len (content f file), same, size_is, short));
    })

-- what a call owes that failed, after calls that did not
pub owes-fault : {D S T E : Type 0} (g : Ghosts D) {fault_in : E → Option DiskFault} {start now next : D} (fault : E) → g.failures now ≡ g.failures start → g.test now ≡ g.test start
    → OwesBy g {T = S} {E = E} fault_in now next (Err fault) → OwesBy g {T = T} {E = E} fault_in start next (Err fault)
owes-fault g {fault_in} {start} {now} {next} fault still test owes = record {
  later = subst (λ (f : Failures). f.count ≤ (g.failures next).count) still owes.later;
  still = tt;
  cause = subst (λ (f : Failures). IsCause (fault_in fault) f (g.failures next)) still owes.cause;
  allows = λ all. owes.allows (subst AllowsEvery (sym test) all);
}

-- a log is begun, or the bytes have no header of one
pub begun-in : (begun : Option LogReader) (bytes header : List ℕ) (needed : ℕ) → take 32 bytes ≡ header
    → IfSome begun (λ reader. (all : List ℕ) → take 32 all ≡ header → IsReading all needed (drop 32 all) reader)
    → IfNone begun ((all : List ℕ) → take 32 all ≡ header → HasFault all needed LogHeader)
    → MatchOption begun (HasFault bytes needed LogHeader) (λ reader. IsReading bytes needed (drop 32 bytes) reader)
begun-in None bytes header needed front found none = none bytes front
begun-in (Some reader) bytes header needed front found none = found bytes front

-- a log that was begun
pub some-begun : (shown : Option Files) (bytes : Files → List ℕ) (needed : ℕ) {begun : Option LogReader} (reader : LogReader) → begun ≡ Some reader
    → IfSome shown (λ files. MatchOption begun (HasFault (bytes files) needed LogHeader) (λ r. IsReading (bytes files) needed (drop 32 (bytes files)) r))
    → IfSome shown (λ files. IsReading (bytes files) needed (drop 32 (bytes files)) reader)
some-begun shown bytes needed reader is told = IfSome_then shown told (λ f found.
    subst (λ (o : Option LogReader). MatchOption o (HasFault (bytes f) needed LogHeader) (λ r. IsReading (bytes f) needed (drop 32 (bytes f)) r)) is found)

-- and bytes that have no header of one
pub none-begun : (shown : Option Files) (bytes : Files → List ℕ) (needed : ℕ) {begun : Option LogReader} → begun ≡ None
    → IfSome shown (λ files. MatchOption begun (HasFault (bytes files) needed LogHeader) (λ r. IsReading (bytes files) needed (drop 32 (bytes files)) r))
    → IfSome shown (λ files. Reads (OrFault (HasLog (bytes files) needed) (HasFault (bytes files) needed)) (Err LogHeader))
none-begun shown bytes needed is told = IfSome_then shown told (λ f found.
    Reads-one (OrFault (HasLog (bytes f) needed) (HasFault (bytes f) needed)) (Err LogHeader) (log_answer-one (bytes f) needed)
    (subst (λ (o : Option LogReader). MatchOption o (HasFault (bytes f) needed LogHeader) (λ r. IsReading (bytes f) needed (drop 32 (bytes f)) r)) is found))

-- what the header's reader and that of the frames have read
pub all-read : {D : Type 0} (g : Ghosts D) {first second : D} (file : FileName) (len needed : ℕ) (reader after : LogReader) → g.shown second ≡ g.shown first
    → IfSome (g.shown first) (λ files. IsReading (front_of file len files) needed (drop 32 (front_of file len files)) reader)
    → IfSome (g.shown second) (ReadsAll file len reader after) → IfSome (g.shown first) (λ files. IsAllRead (front_of file len files) needed after)
all-read g {first = first} file len needed reader after same begun all = told-both (g.shown first) same begun all (λ f reading reads. reads needed reading)

-- what is said of the first bytes of a file, as many as it has, is said of all
pub whole-log : (shown also : Option Files) (file : FileName) (len needed : ℕ) (answer : Result Log LogFault) → also ≡ shown → IfSome shown (λ files. len ≡ length (content files file))
    → IfSome also (λ files. Reads (OrFault (HasLog (front_of file len files) needed) (HasFault (front_of file len files) needed)) answer)
    → IfSome shown (λ files. Reads (OrFault (HasLog (content files file) needed) (HasFault (content files file) needed)) answer)
whole-log shown also file len needed answer same long reads = told-both shown same long reads (λ f is has.
    subst (λ (b : List ℕ). Reads (OrFault (HasLog b needed) (HasFault b needed)) answer) (take_all len (content f file) (omega (arith, is))) has)

pub whole-fault : (shown also : Option Files) (file : FileName) (len needed : ℕ) (fault : FileLogFault) → also ≡ shown → IfSome shown (λ files. len ≡ length (content files file))
    → IsFaultIn also (front_of file len) needed fault → IsFaultOf shown file needed fault
whole-fault shown also file len needed (InBytes fault) same long (inl memory) = inl memory
whole-fault shown also file len needed (InBytes fault) same long (inr reads) = inr (whole-log shown also file len needed (Err fault) same long reads)
whole-fault shown also file len needed (OfDisk fault) same long is = tt
