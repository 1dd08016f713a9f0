-- Bytes say one log or have one fault, and what one more frame changes: crates above cite these facts in their proofs.
use Rattle.std.specs.Prelude.{◌≡◌, ℕ, ◌<◌, ◌≤◌, ◌==◌, ◌&&◌, Bool, true, false, if◌then◌else◌, List, [], ◌∷◌, ◌++◌, length, take, refl}
use Rattle.std.proofs.Common.{sym, ap, ◌∙◌, subst, arith, inl, inr, take_all, length-append}
use Rattle.std.proofs.Math.Dec.{eqb-suc-zero}
use Rattle.std.proofs.lemmas.Bool.{ne_eqb}
use Rattle.std.proofs.lemmas.List.{take-append-le}
use Rattle.common_spec.specs.Reading.{OrFault}
use Rattle.common_spec.specs.ReadingLaws.{IsOne, OrFault-one}
use Rattle.byteorder.specs.Numbers.{big_number-reads_back}
use Rattle.byte_fields.specs.Numbers.{number_at}
use Rattle.format_spec.specs.Log.{log_header, Frame, IsLog, committed, last_commit, count_after}
use Rattle.format_spec.specs.LogLaws.{log-same, log-same_reading}
use Rattle.wal_codec.specs.declared.log.Log.{Log}
use Rattle.wal_codec.specs.declared.log.LogFault.{LogFault}
use Rattle.wal_codec.specs.declared.log.LogFault.TheVariants.{LogHeader, LogFrame, Memory}
use Rattle.wal_codec.specs.LogReading.{Head, HasHead, log_of, HasNeeded, LacksFrame, HasLog, HasFault}

-- a log has a header
pub log-head : {bytes : List ℕ} {page_size : ℕ} {frames : List Frame} (log : IsLog bytes page_size frames)
    → HasHead bytes (record { big = log.big; page_size = page_size; sequence = log.sequence; salt = log.salt })
log-head log = record {
  rest = _;
  page_size_fits = log.page_size_fits;
  sequence_fits = log.sequence_fits;
  salt_fits = log.salt_fits;
  whole = log.whole;
}

-- where a header has its page size
pub head-size_field : (bytes : List ℕ) (head : Head) → HasHead bytes head → number_at 8 4 bytes ≡ head.page_size
unfolding log_header
head-size_field bytes head has = ap (number_at 8 4) has.whole ∙ big_number-reads_back 4 head.page_size [] has.page_size_fits

-- bytes have a header of one page size
pub head-page_size : (bytes : List ℕ) (head other : Head) → HasHead bytes head → HasHead bytes other → head.page_size ≡ other.page_size
head-page_size bytes head other has also = sym (head-size_field bytes head has) ∙ head-size_field bytes other also

-- bytes say one log
one_log : (bytes : List ℕ) (needed : ℕ) → IsOne (HasLog bytes needed)
one_log bytes needed a b p q = p.kept ∙ ap log_of (log-same_reading p.is_log q.is_log) ∙ sym q.kept

-- of frames one lacks
one_lacking : (needed : ℕ) (frames : List Frame) (a b : ℕ) → LacksFrame needed frames a → LacksFrame needed frames b → a ≡ b
one_lacking needed frames a b (inl p) (inl q) = p.1 ∙ sym q.1
one_lacking needed frames a b (inl p) (inr q) = absurd (omega arith)
one_lacking needed frames a b (inr p) (inl q) = absurd (omega arith)
one_lacking needed frames a b (inr p) (inr q) = p.3 ∙ sym q.3

-- frames that one lacks from are not those that are needed
not_lacking : (needed : ℕ) (frames : List Frame) (a : ℕ) → HasNeeded needed frames → ¬ LacksFrame needed frames a
not_lacking needed frames a has (inl p) = let enough = has.enough in omega arith
not_lacking needed frames a has (inr p) = let commit = has.commit p.1 in omega (arith, commit, p.2)

-- a log with the needed frames has no fault
no_fault : (bytes : List ℕ) (needed : ℕ) (log : Log) (fault : LogFault) → HasLog bytes needed log → ¬ HasFault bytes needed fault
no_fault bytes needed log LogHeader p h = h _ (log-head p.is_log) p.sized
no_fault bytes needed log (LogFrame number) p h =
    let same : p.frames ≡ h.frames = (log-same bytes p.page_size h.page_size p.frames h.frames p.is_log h.is_log).1 in
    not_lacking needed p.frames number p.has_needed (subst (λ (fs : List Frame). LacksFrame needed fs number) (sym same) h.lacks)
no_fault bytes needed log (Memory error) p h = h

-- bytes have one fault
one_fault : (bytes : List ℕ) (needed : ℕ) → IsOne (HasFault bytes needed)
one_fault bytes needed LogHeader LogHeader p q = refl
one_fault bytes needed LogHeader (LogFrame b) p q = absurd (p _ (log-head q.is_log) q.sized)
one_fault bytes needed LogHeader (Memory error) p q = absurd q
one_fault bytes needed (LogFrame a) LogHeader p q = absurd (q _ (log-head p.is_log) p.sized)
one_fault bytes needed (LogFrame a) (LogFrame b) p q =
    let same : q.frames ≡ p.frames = (log-same bytes q.page_size p.page_size q.frames p.frames q.is_log p.is_log).1 in
    ap LogFrame (one_lacking needed p.frames a b p.lacks (subst (λ (fs : List Frame). LacksFrame needed fs b) same q.lacks))
one_fault bytes needed (LogFrame a) (Memory error) p q = absurd q
one_fault bytes needed (Memory error) b p q = absurd p

-- bytes are one log, or have one fault
pub log_answer-one : (bytes : List ℕ) (needed : ℕ) → IsOne (OrFault (HasLog bytes needed) (HasFault bytes needed))
log_answer-one bytes needed = OrFault-one (HasLog bytes needed) (HasFault bytes needed) (one_log bytes needed) (one_fault bytes needed) (no_fault bytes needed)

-- the frames up to the last commit, after one more frame
pub committed-one_more : (frames : List Frame) (frame : Frame)
    → committed (frames ++ frame ∷ []) ≡ (if frame.commit == 0 then committed frames else frames ++ frame ∷ [])
committed-one_more [] frame = first (frame.commit == 0)
  where
    first : (b : Bool) → (if b && true then [] else frame ∷ []) ≡ (if b then [] else frame ∷ [])
    first true = refl
    first false = refl
committed-one_more (other ∷ frames) frame = more (frame.commit == 0) (committed-one_more frames frame)
  where
    longer : (fs : List Frame) → (length (fs ++ frame ∷ []) == 0) ≡ false
    longer [] = refl
    longer (f ∷ fs) = eqb-suc-zero (length (fs ++ frame ∷ []))

    none : (b : Bool) → (b && false) ≡ false
    none true = refl
    none false = refl

    more : (b : Bool) → committed (frames ++ frame ∷ []) ≡ (if b then committed frames else frames ++ frame ∷ [])
        → (if (other.commit == 0) && (length (committed (frames ++ frame ∷ [])) == 0) then [] else other ∷ committed (frames ++ frame ∷ []))
        ≡ (if b then (if (other.commit == 0) && (length (committed frames) == 0) then [] else other ∷ committed frames) else other ∷ (frames ++ frame ∷ []))
    more true same = ap (λ (fs : List Frame). if (other.commit == 0) && (length fs == 0) then [] else other ∷ fs) same
    more false same =
        ap (λ (fs : List Frame). if (other.commit == 0) && (length fs == 0) then [] else other ∷ fs) same
        ∙ ap (λ (b : Bool). if (other.commit == 0) && b then [] else other ∷ (frames ++ frame ∷ [])) (longer frames)
        ∙ ap (λ (b : Bool). if b then [] else other ∷ (frames ++ frame ∷ [])) (none (other.commit == 0))

-- the size at the last of the frames, after one more
pub last_commit-one_more : (frames : List Frame) (frame : Frame) → last_commit (frames ++ frame ∷ []) ≡ frame.commit
last_commit-one_more [] frame = refl
last_commit-one_more (a ∷ []) frame = refl
last_commit-one_more (a ∷ b ∷ frames) frame = last_commit-one_more (b ∷ frames) frame

-- the size at the last of the first frames, after one more that is not among them
pub last_commit-take_same : (count : ℕ) (frames : List Frame) (frame : Frame) → count ≤ length frames → last_commit (take count (frames ++ frame ∷ [])) ≡ last_commit (take count frames)
last_commit-take_same count frames frame within = ap last_commit (take-append-le count frames (frame ∷ []) within)

-- and after one more that is
pub last_commit-take_one_more : (count : ℕ) (frames : List Frame) (frame : Frame) → length frames < count → last_commit (take count (frames ++ frame ∷ [])) ≡ frame.commit
last_commit-take_one_more count frames frame more =
    ap last_commit (take_all count (frames ++ frame ∷ []) (omega (arith, length-append frames (frame ∷ [])))) ∙ last_commit-one_more frames frame

-- frames of which the last is a commit are all up to the last commit
pub committed-ended : (frames : List Frame) → 0 < last_commit frames → committed frames ≡ frames
committed-ended [] ended = absurd (omega arith)
committed-ended (frame ∷ []) ended =
    let commits : (frame.commit == 0) ≡ false = ne_eqb frame.commit 0 (λ e. omega (arith, e, ended)) in
    ap (λ (b : Bool). if b && true then [] else frame ∷ []) commits
committed-ended (frame ∷ other ∷ frames) ended =
    let rest = committed-ended (other ∷ frames) ended in
    ap (λ (fs : List Frame). if (frame.commit == 0) && (length fs == 0) then [] else frame ∷ fs) rest
    ∙ ap (λ (b : Bool). if (frame.commit == 0) && b then [] else frame ∷ (other ∷ frames)) (eqb-suc-zero (length frames))
    ∙ never (frame.commit == 0)
  where
    never : (b : Bool) → (if b && false then [] else frame ∷ (other ∷ frames)) ≡ frame ∷ (other ∷ frames)
    never true = refl
    never false = refl

-- and there are as many pages as the last says
pub count-ended : (count : ℕ) (frames : List Frame) → 0 < last_commit frames → count_after count frames ≡ last_commit frames
count-ended count [] ended = absurd (omega arith)
count-ended count (frame ∷ frames) ended = refl

-- the frames up to the last commit are the first ones
pub committed-front : (frames : List Frame) → committed frames ≡ take (length (committed frames)) frames
committed-front [] = refl
committed-front (frame ∷ frames) = front ((frame.commit == 0) && (length (committed frames) == 0)) (committed-front frames)
  where
    front : (b : Bool) → committed frames ≡ take (length (committed frames)) frames
        → (if b then [] else frame ∷ committed frames) ≡ take (length (if b then [] else frame ∷ committed frames)) (frame ∷ frames)
    front true same = refl
    front false same = ap (λ (fs : List Frame). frame ∷ fs) same
