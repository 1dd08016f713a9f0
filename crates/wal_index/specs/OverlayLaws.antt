-- The last frame of a page by its number is the one that the overlay takes the page from: crates above cite these facts in their proofs.
use Rattle.std.specs.Prelude.{◌≡◌, ℕ, zero, suc, ◌-◌, ◌<◌, ◌≤◌, ◌==◌, ◌||◌, not, is_some, Bool, true, false, if◌then◌else◌, List, [], ◌∷◌, length, map, take, slice_index, slice_index_or, Option, Some, None, unwrap_or, refl}
use Rattle.std.proofs.Common.{sym, ap, ◌∙◌, subst, arith, length-take}
use Rattle.std.proofs.lemmas.Bool.{eq-eqb, ne_eqb}
use Rattle.std.proofs.lemmas.List.{get_or-take, take-map}
use Rattle.format_spec.specs.PageMap.{PageMap}
use Rattle.format_spec.specs.Log.{Frame, last_frame_of, last_commit, count_after, overlay}
use Rattle.wal_codec.specs.LogReadingLaws.{committed-ended, count-ended}
use Rattle.wal_index.specs.FrameIndex.{IsFrameOf, IsLastFrame}

-- the pages' numbers of frames
abbrev pub numbers : List Frame → List ℕ
numbers = map (λ (frame : Frame). frame.number)

length-numbers : (frames : List Frame) → length (numbers frames) ≡ length frames
length-numbers [] = refl
length-numbers (frame ∷ frames) = ap suc (length-numbers frames)

-- a frame has one number more behind another one
frame-behind : (frame : Frame) (frames : List Frame) (page k : ℕ) → IsFrameOf (numbers frames) page (suc k) → IsFrameOf (numbers (frame ∷ frames)) page (suc (suc k))
frame-behind frame frames page k is =
    let one : suc (suc k) - 1 ≡ suc k = omega arith in
    let none : k ≡ suc k - 1 = omega arith in
    record {
      counts = omega arith;
      there = omega (arith, is.there);
      of_page = ap (slice_index (numbers (frame ∷ frames))) one ∙ ap (slice_index (numbers frames)) none ∙ is.of_page;
    }

frame-before : (frame : Frame) (frames : List Frame) (page k : ℕ) → IsFrameOf (numbers (frame ∷ frames)) page (suc (suc k)) → IsFrameOf (numbers frames) page (suc k)
frame-before frame frames page k is =
    let one : suc k ≡ suc (suc k) - 1 = omega arith in
    let none : suc k - 1 ≡ k = omega arith in
    record {
      counts = omega arith;
      there = omega (arith, is.there);
      of_page = ap (slice_index (numbers frames)) none ∙ ap (slice_index (numbers (frame ∷ frames))) one ∙ is.of_page;
    }

frame-first : (frame : Frame) (frames : List Frame) (page : ℕ) → frame.number ≡ page → IsFrameOf (numbers (frame ∷ frames)) page 1
frame-first frame frames page e = record { counts = omega arith; there = omega arith; of_page = e }

-- how the overlay goes past a frame, and takes one
past : (page : ℕ) (frame : Frame) (frames : List Frame) (rest : Option (List ℕ)) → last_frame_of page frames ≡ rest
    → (if is_some rest || not (frame.number == page) then rest else Some frame.page) ≡ last_frame_of page (frame ∷ frames)
past page frame frames rest e = ap (λ (r : Option (List ℕ)). if is_some r || not (frame.number == page) then r else Some frame.page) (sym e)

-- no frame of a page: it is as it was
pub last_frame-none : (frames : List Frame) (page : ℕ) → ((k : ℕ) → ¬ IsFrameOf (numbers frames) page k) → last_frame_of page frames ≡ None
last_frame-none [] page none = refl
last_frame-none (frame ∷ frames) page none =
    let rest = last_frame-none frames page below in
    let other : (frame.number == page) ≡ false = ne_eqb frame.number page (λ e. none 1 (frame-first frame frames page e)) in
    sym (past page frame frames None rest) ∙ ap (λ (b : Bool). if not b then None else Some frame.page) other
  where
    below : (k : ℕ) → ¬ IsFrameOf (numbers frames) page k
    below zero is = absurd (omega (arith, is.counts))
    below (suc k) is = none (suc (suc k)) (frame-behind frame frames page k is)

-- the last frame of a page among all of them: the page is as that frame has it
pub last_frame-page : (frames : List Frame) (page k : ℕ) (d : Frame) → IsLastFrame (numbers frames) page (length frames) k → last_frame_of page frames ≡ Some (slice_index_or frames (k - 1) d).page
last_frame-page [] page k d last = absurd (omega (arith, last.is_frame.counts, last.is_frame.there))
last_frame-page (frame ∷ frames) page zero d last = absurd (omega (arith, last.is_frame.counts))
last_frame-page (frame ∷ frames) page (suc zero) d last =
    let rest = last_frame-none frames page later in
    let same : (frame.number == page) ≡ true = eq-eqb frame.number page last.is_frame.of_page in
    sym (past page frame frames None rest) ∙ ap (λ (b : Bool). if not b then None else Some frame.page) same
  where
    later : (k : ℕ) → ¬ IsFrameOf (numbers frames) page k
    later zero is = absurd (omega (arith, is.counts))
    later (suc k) is = last.last (suc (suc k)) (omega arith) (omega (arith, is.there, length-numbers frames)) (frame-behind frame frames page k is)
last_frame-page (frame ∷ frames) page (suc (suc k)) d last =
    let rest = last_frame-page frames page (suc k) d (record { is_frame = frame-before frame frames page k last.is_frame; below = omega (arith, last.below); last = later }) in
    let place : suc k ≡ suc (suc k) - 1 = omega arith in
    let inner : suc k - 1 ≡ k = omega arith in
    sym (past page frame frames (Some (slice_index_or frames (suc k - 1) d).page) rest)
    ∙ ap (λ (n : ℕ). Some (slice_index_or frames n d).page) inner
    ∙ ap (λ (n : ℕ). Some (slice_index_or (frame ∷ frames) n d).page) place
  where
    later : (j : ℕ) → suc k < j → j ≤ length frames → ¬ IsFrameOf (numbers frames) page j
    later zero behind within is = absurd (omega arith)
    later (suc j) behind within is = last.last (suc (suc j)) (omega arith) (omega arith) (frame-behind frame frames page j is)

-- a frame that is one of the first is one of them all
frame-all : (frames : List ℕ) (page mark k : ℕ) → IsFrameOf (take mark frames) page k → IsFrameOf frames page k
frame-all frames page mark k is = record {
  counts = is.counts;
  there = omega (arith, length-take mark frames, is.there);
  of_page = sym (get_or-take mark frames (k - 1) 0 (omega (arith, length-take mark frames, is.counts, is.there))) ∙ is.of_page;
}

-- a frame up to the mark is one of the first
frame-first_ones : (frames : List ℕ) (page mark k : ℕ) → k ≤ mark → IsFrameOf frames page k → IsFrameOf (take mark frames) page k
frame-first_ones frames page mark k below is = record {
  counts = is.counts;
  there = omega (arith, length-take mark frames, is.there);
  of_page = get_or-take mark frames (k - 1) 0 (omega (arith, is.counts)) ∙ is.of_page;
}

-- no frame of a page up to the mark: with the first frames alone the page is as it was
pub marked_frame-none : (frames : List Frame) (page mark : ℕ) → ((k : ℕ) → k ≤ mark → ¬ IsFrameOf (numbers frames) page k) → last_frame_of page (take mark frames) ≡ None
marked_frame-none frames page mark none =
    last_frame-none (take mark frames) page (λ k is.
    let among : IsFrameOf (take mark (numbers frames)) page k = subst (λ (ns : List ℕ). IsFrameOf ns page k) (sym (take-map (λ (frame : Frame). frame.number) mark frames)) is in
    none k (omega (arith, length-take mark (numbers frames), among.there)) (frame-all (numbers frames) page mark k among))

-- the last frame of a page up to the mark: with the first frames alone the page is as that frame has it
pub marked_frame-page : (frames : List Frame) (page mark k : ℕ) (d : Frame) → IsLastFrame (numbers frames) page mark k → last_frame_of page (take mark frames) ≡ Some (slice_index_or frames (k - 1) d).page
marked_frame-page frames page mark k d last =
    let firsts : take mark (numbers frames) ≡ numbers (take mark frames) = take-map (λ (frame : Frame). frame.number) mark frames in
    let among : IsLastFrame (numbers (take mark frames)) page (length (take mark frames)) k = record {
      is_frame = subst (λ (ns : List ℕ). IsFrameOf ns page k) firsts (frame-first_ones (numbers frames) page mark k last.below last.is_frame);
      below = omega (arith, length-take mark frames, last.below, last.is_frame.there, length-numbers frames);
      last = λ later behind within is.
          last.last later behind (omega (arith, length-take mark frames)) (frame-all (numbers frames) page mark later (subst (λ (ns : List ℕ). IsFrameOf ns page later) (sym firsts) is));
    } in
    last_frame-page (take mark frames) page k d among
    ∙ ap (λ (frame : Frame). Some frame.page) (get_or-take mark frames (k - 1) d (omega (arith, last.below, last.is_frame.counts)))

-- with the frames up to a mark, the last of which is a commit, a page comes from its last frame up to the mark
pub mark-page : (base : PageMap) (frames : List Frame) (page mark k : ℕ) (d : Frame) → 0 < last_commit (take mark frames) → IsLastFrame (numbers frames) page mark k
    → (overlay base (take mark frames)).page page ≡ (slice_index_or frames (k - 1) d).page
mark-page base frames page mark k d ended last =
    ap (λ (fs : List Frame). unwrap_or (last_frame_of page fs) (base.page page)) (committed-ended (take mark frames) ended)
    ∙ ap (λ (p : Option (List ℕ)). unwrap_or p (base.page page)) (marked_frame-page frames page mark k d last)

-- and is as it was where it has none
pub mark-none : (base : PageMap) (frames : List Frame) (page mark : ℕ) → 0 < last_commit (take mark frames) → ((k : ℕ) → k ≤ mark → ¬ IsFrameOf (numbers frames) page k)
    → (overlay base (take mark frames)).page page ≡ base.page page
mark-none base frames page mark ended none =
    ap (λ (fs : List Frame). unwrap_or (last_frame_of page fs) (base.page page)) (committed-ended (take mark frames) ended)
    ∙ ap (λ (p : Option (List ℕ)). unwrap_or p (base.page page)) (marked_frame-none frames page mark none)

-- and there are as many as the frame at the mark says
pub mark-count : (base : PageMap) (frames : List Frame) (mark : ℕ) → 0 < last_commit (take mark frames) → (overlay base (take mark frames)).count ≡ last_commit (take mark frames)
mark-count base frames mark ended =
    ap (count_after base.count) (committed-ended (take mark frames) ended) ∙ count-ended base.count (take mark frames) ended
