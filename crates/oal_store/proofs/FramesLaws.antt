-- Frames behind others, and where their pages stand.
use Rattle.std.proofs.Common.{◌≡◌, ℕ, suc, ◌+◌, ◌*◌, ◌==◌, ◌||◌, not, is_some, Bool, true, false, if◌then◌else◌, List, [], ◌∷◌, ◌++◌, length, map, drop, Option, Some, None, unwrap_or, refl, sym, ap, ◌∙◌, subst, arith, append_assoc, length-append}
use Rattle.std.specs.Option.{option_or}
use Rattle.std.proofs.lemmas.List.{take_at, drop_at}
use Rattle.byte_fields.specs.Bytes.{resized}
use Rattle.byte_fields.specs.BytesLaws.{resized-short}
use Rattle.format_spec.specs.Log.{Frame, frame_sums, frame_header, frame_bytes, frames_bytes, sums_behind, AreFrames, last_commit, last_frame_of, count_after}
use Rattle.format_spec.specs.LogLaws.{length-frame_header}
use Rattle.oal_store.specs.OalLog.{last_place}

pub frames_bytes-append : (big : Bool) (salt sums : ℕ × ℕ) (xs ys : List Frame)
    → frames_bytes big salt sums (xs ++ ys) ≡ frames_bytes big salt sums xs ++ frames_bytes big salt (sums_behind big sums xs) ys
frames_bytes-append big salt sums [] ys = refl
frames_bytes-append big salt sums (x ∷ xs) ys =
    let after = frame_sums big sums x.number x.commit x.page in
    ap (λ (b : List ℕ). frame_bytes big salt sums x ++ b) (frames_bytes-append big salt after xs ys)
    ∙ sym (append_assoc (frame_bytes big salt sums x) (frames_bytes big salt after xs) (frames_bytes big salt (sums_behind big after xs) ys))

pub sums_behind-append : (big : Bool) (sums : ℕ × ℕ) (xs ys : List Frame) → sums_behind big sums (xs ++ ys) ≡ sums_behind big (sums_behind big sums xs) ys
sums_behind-append big sums [] ys = refl
sums_behind-append big sums (x ∷ xs) ys = sums_behind-append big (frame_sums big sums x.number x.commit x.page) xs ys

pub valid-append : (size : ℕ) (xs ys : List Frame) → AreFrames size xs → AreFrames size ys → AreFrames size (xs ++ ys)
valid-append size [] ys a b = b
valid-append size (x ∷ xs) ys a b = (a.0, valid-append size xs ys a.1 b)

pub last_commit-append : (xs : List Frame) (y : Frame) (ys : List Frame) → last_commit (xs ++ y ∷ ys) ≡ last_commit (y ∷ ys)
last_commit-append [] y ys = refl
last_commit-append (x ∷ []) y ys = refl
last_commit-append (x ∷ z ∷ xs) y ys = last_commit-append (z ∷ xs) y ys

pub count_after-append : (count : ℕ) (xs : List Frame) (y : Frame) (ys : List Frame) → count_after count (xs ++ y ∷ ys) ≡ last_commit (y ∷ ys)
count_after-append count [] y ys = refl
count_after-append count (x ∷ xs) y ys = last_commit-append (x ∷ xs) y ys

-- the last of what there may be: what comes later, else what comes first
pub last-step : {A : Type 0} (r : Option A) (b : Bool) (x : A) → (if is_some r || not b then r else Some x) ≡ option_or r (if b then Some x else None)
last-step None true x = refl
last-step None false x = refl
last-step (Some y) true x = refl
last-step (Some y) false x = refl

pub or-or : {A : Type 0} (a b c : Option A) → option_or (option_or a b) c ≡ option_or a (option_or b c)
or-or None b c = refl
or-or (Some x) b c = refl

pub last_frame-more : (n : ℕ) (x : Frame) (xs : List Frame) → last_frame_of n (x ∷ xs) ≡ option_or (last_frame_of n xs) (if x.number == n then Some x.page else None)
last_frame-more n x xs = last-step (last_frame_of n xs) (x.number == n) x.page

pub last_frame-append : (n : ℕ) (xs ys : List Frame) → last_frame_of n (xs ++ ys) ≡ option_or (last_frame_of n ys) (last_frame_of n xs)
last_frame-append n [] ys = or-none (last_frame_of n ys)
  where
    or-none : (a : Option (List ℕ)) → a ≡ option_or a None
    or-none None = refl
    or-none (Some x) = refl
last_frame-append n (x ∷ xs) ys =
    let first : Option (List ℕ) = if x.number == n then Some x.page else None in
    last_frame-more n x (xs ++ ys) ∙ ap (λ (r : Option (List ℕ)). option_or r first) (last_frame-append n xs ys)
    ∙ or-or (last_frame_of n ys) (last_frame_of n xs) first ∙ ap (option_or (last_frame_of n ys)) (sym (last_frame-more n x xs))

pub last_place-more : (size at n m : ℕ) (ms : List ℕ) → last_place size at n (m ∷ ms) ≡ option_or (last_place size (at + (24 + size)) n ms) (if m == n then Some (at + 24) else None)
last_place-more size at n m ms = last-step (last_place size (at + (24 + size)) n ms) (m == n) (at + 24)

pub last_place-append : (size at n : ℕ) (ms ns : List ℕ) → last_place size at n (ms ++ ns) ≡ option_or (last_place size (at + length ms * (24 + size)) n ns) (last_place size at n ms)
last_place-append size at n [] ns = ap (λ (p : ℕ). last_place size p n ns) (omega arith) ∙ or-none (last_place size (at + 0 * (24 + size)) n ns)
  where
    or-none : (a : Option ℕ) → a ≡ option_or a None
    or-none None = refl
    or-none (Some x) = refl
last_place-append size at n (m ∷ ms) ns =
    let first : Option ℕ = if m == n then Some (at + 24) else None in
    let next : ℕ = at + (24 + size) in
    let further : next + length ms * (24 + size) ≡ at + length (m ∷ ms) * (24 + size) = arith_more size at (length ms) in
    last_place-more size at n m (ms ++ ns) ∙ ap (λ (r : Option ℕ). option_or r first) (last_place-append size next n ms ns)
    ∙ or-or (last_place size (next + length ms * (24 + size)) n ns) (last_place size next n ms) first
    ∙ ap (option_or (last_place size (next + length ms * (24 + size)) n ns)) (sym (last_place-more size at n m ms))
    ∙ ap (λ (p : ℕ). option_or (last_place size p n ns) (last_place size at n (m ∷ ms))) further
  where
    arith_more : (size at k : ℕ) → at + (24 + size) + k * (24 + size) ≡ at + suc k * (24 + size)
    arith_more size at k = omega arith

-- at its place stands the page
abbrev pub HoldsPage : ℕ → List ℕ → Option ℕ → Option (List ℕ) → Type 0
HoldsPage size bytes None None = Unit {0}
HoldsPage size bytes None (Some page) = ⊥
HoldsPage size bytes (Some place) None = ⊥
HoldsPage size bytes (Some place) (Some page) = resized (drop place bytes) size ≡ page

holds-or : (size : ℕ) (bytes : List ℕ) (p q : Option ℕ) (x y : Option (List ℕ)) → HoldsPage size bytes p x → HoldsPage size bytes q y → HoldsPage size bytes (option_or p q) (option_or x y)
holds-or size bytes None q None y h k = k
holds-or size bytes None q (Some page) y h k = absurd h
holds-or size bytes (Some place) q None y h k = absurd h
holds-or size bytes (Some place) q (Some page) y h k = h

holds-if : (size : ℕ) (bytes : List ℕ) (b : Bool) (place : ℕ) (page : List ℕ) → resized (drop place bytes) size ≡ page → HoldsPage size bytes (if b then Some place else None) (if b then Some page else None)
holds-if size bytes true place page is = is
holds-if size bytes false place page is = tt

-- the page of the frame at a place
page_here : (size at : ℕ) (before header page more bytes : List ℕ) → bytes ≡ before ++ ((header ++ page) ++ more) → length before ≡ at → length header ≡ 24 → length page ≡ size
    → resized (drop (at + 24) bytes) size ≡ page
page_here size at before header page more bytes whole long head is =
    let split : bytes ≡ (before ++ header) ++ (page ++ more) = whole ∙ ap (λ (b : List ℕ). before ++ b) (append_assoc header page more) ∙ sym (append_assoc before header (page ++ more)) in
    let behind : drop (at + 24) bytes ≡ page ++ more = ap (drop (at + 24)) split ∙ drop_at (before ++ header) (page ++ more) (at + 24) (omega (arith, length-append before header, long, head)) in
    ap (λ (b : List ℕ). resized b size) behind ∙ resized-short (page ++ more) size (omega (arith, length-append page more, is)) ∙ take_at page more size is

-- of frames that stand in bytes from a place on, the last one of a page holds it there
pub holds-page : (big : Bool) (salt sums : ℕ × ℕ) (size at n : ℕ) (frames : List Frame) (before rest bytes : List ℕ) → AreFrames size frames
    → bytes ≡ before ++ (frames_bytes big salt sums frames ++ rest) → length before ≡ at
    → HoldsPage size bytes (last_place size at n (map (λ (f : Frame). f.number) frames)) (last_frame_of n frames)
holds-page big salt sums size at n [] before rest bytes valid whole long = tt
holds-page big salt sums size at n (frame ∷ frames) before rest bytes valid whole long =
    let after = frame_sums big sums frame.number frame.commit frame.page in
    let header = frame_header big salt sums frame.number frame.commit frame.page in
    let head : length header ≡ 24 = length-frame_header big salt sums frame.number frame.commit frame.page in
    let behind = frames_bytes big salt after frames in
    let this = header ++ frame.page in
    let split : bytes ≡ before ++ ((header ++ frame.page) ++ (behind ++ rest)) = whole ∙ ap (λ (b : List ℕ). before ++ b) (append_assoc this behind rest) in
    let later : bytes ≡ (before ++ this) ++ (behind ++ rest) = split ∙ sym (append_assoc before this (behind ++ rest)) in
    let further : length (before ++ this) ≡ at + (24 + size) = omega (arith, length-append before this, length-append header frame.page, head, long, valid.0.whole) in
    let more = holds-page big salt after size (at + (24 + size)) n frames (before ++ this) rest bytes valid.1 later further in
    let here = holds-if size bytes (frame.number == n) (at + 24) frame.page (page_here size at before header frame.page (behind ++ rest) bytes split long head valid.0.whole) in
    let numbers : List ℕ = map (λ (f : Frame). f.number) frames in
    subst (λ (p : Option ℕ). HoldsPage size bytes p (last_frame_of n (frame ∷ frames))) (sym (last_place-more size at n frame.number numbers))
    (subst (HoldsPage size bytes (option_or (last_place size (at + (24 + size)) n numbers) (if frame.number == n then Some (at + 24) else None))) (sym (last_frame-more n frame frames))
    (holds-or size bytes (last_place size (at + (24 + size)) n numbers) (if frame.number == n then Some (at + 24) else None) (last_frame_of n frames) (if frame.number == n then Some frame.page else None) more here))

-- and that page is the one that is read by its place
pub held-page : (size : ℕ) (bytes old : List ℕ) (p : Option ℕ) (x : Option (List ℕ)) (read : Option ℕ → List ℕ) → ((place : ℕ) → read (Some place) ≡ resized (drop place bytes) size) → read None ≡ old
    → HoldsPage size bytes p x → read p ≡ unwrap_or x old
held-page size bytes old None None read some none holds = none
held-page size bytes old None (Some page) read some none holds = absurd holds
held-page size bytes old (Some place) None read some none holds = absurd holds
held-page size bytes old (Some place) (Some page) read some none holds = some place ∙ holds
