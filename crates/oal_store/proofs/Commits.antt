-- What a commit leaves: the log with the frames that came, and its overlay.
use Rattle.std.proofs.Common.{◌≡◌, ℕ, ◌+◌, ◌*◌, ◌^◌, ◌<◌, ◌≤◌, ◌==◌, is_some, Bool, true, false, cond, if◌then◌else◌, List, [], ◌∷◌, ◌++◌, length, map, Option, Some, None, IfSome, unwrap_or, Vec, All, refl, sym, ap, ◌∙◌, subst, inl, inr, arith, append_assoc, append-nil, length-append}
use Rattle.std.specs.Global.{Global}
use Rattle.std.specs.Option.{option_or}
use Rattle.std.specs.List.{AllByRecursion, IsDistinct}
use Rattle.std.specs.List.Sorted.{IsStrictlySortedBy}
use Rattle.std.specs.Map.{keys_of, lookup}
use Rattle.std.specs.BTreeMap.{get, is_at}
use Rattle.std.specs.Ordering.{nat_cmp, eq_by_cmp}
use Rattle.std.proofs.lemmas.List.{length-map, map-append}
use Rattle.std.proofs.lemmas.List.Elements.{recursion_from_All}
use Rattle.std.proofs.lemmas.Map.Keys.{IsDistinct-from_sorted}
use Rattle.common_spec.specs.Told.{Leads}
use Rattle.common_spec.specs.ToldLaws.{Leads-weaken, Leads-known, Leads-both}
use Rattle.byte_fields.specs.Numbers.{page_at}
use Rattle.file_spec.specs.declared.FileName.TheVariants.{Target, Oal}
use Rattle.file_spec.specs.Files.{Files, content, OnlyChanges}
use Rattle.file_spec.specs.Trails.{Trail}
use Rattle.format_spec.specs.Sizes.{IsPageSize}
use Rattle.format_spec.specs.Log.{AreWords, pair_of, log_header, log_sums, Frame, frames_bytes, sums_behind, AreFrames, committed, last_commit, last_frame_of, count_after, overlay}
use Rattle.format_spec.specs.Log.{IsOverlay}
use Rattle.format_spec.specs.PageMap.{SamePages}
use Rattle.format_spec.specs.PageMapLaws.{SamePages-trans}
use Rattle.oal_store.proofs.StoreSteps.{none-found}
use Rattle.page_spec.specs.Pages.{lock_byte_page}
use Rattle.format_spec.specs.LogLaws.{length-log_header}
use Rattle.wal_codec.specs.LogReadingLaws.{committed-ended}
use Rattle.oal_store.specs.declared.log.OalLog.{OalLog}
use Rattle.oal_store.specs.declared.store.OalStore.{OalStore}
use Rattle.oal_store.specs.OalLog.{last_place, HasFrames, BeginsWithLog, page_by_place, logged_page, target_map}
use Rattle.oal_store.specs.Appending.{frames_of, Appends}
use Rattle.oal_store.specs.Changed.{IsChanged}
use Rattle.oal_store.specs.Committing.{Grows}
use Rattle.oal_store.specs.Growing.{KeepsGrowing}
use Rattle.oal_store.specs.Stored.{changed_page, stored_map, KeepsLog, SameStore, HasPagesOf, IsKnown, AreWithin, AreWithinLastCommit, IsCommitted}
use Rattle.oal_store.proofs.FramesLaws.{frames_bytes-append, sums_behind-append, valid-append, last_commit-append, last_frame-append, last_place-append, last_place-more, count_after-append, holds-page, held-page}
use Rattle.oal_store.proofs.PageFrames.{Entry, last_commit-frames_of, numbers-frames_of, valid-frames_of, last_frame-frames_of, length-frames, length-frames_of, compares-back}

-- the pages by their places are those of the frames, over the target's
pub logged-overlay : (log : OalLog) (frames : List Frame) (files : Files) (n : ℕ) → BeginsWithLog log frames (content files Oal)
    → logged_page log files n ≡ unwrap_or (last_frame_of n frames) (page_at log.page_size n (content files Target))
logged-overlay log frames files n kept =
    let has = kept.has in
    let size : ℕ = log.page_size in
    let bytes : List ℕ = content files Oal in
    let sums = log_sums log.big size has.sequence (pair_of log.salt) in
    let header : List ℕ = log_header log.big size has.sequence (pair_of log.salt) in
    let behind : List ℕ = frames_bytes log.big (pair_of log.salt) sums frames in
    let whole : bytes ≡ header ++ (behind ++ kept.rest) = kept.whole ∙ ap (λ (b : List ℕ). b ++ kept.rest) has.whole ∙ append_assoc header behind kept.rest in
    let holds = holds-page log.big (pair_of log.salt) sums size 32 n frames header kept.rest bytes has.valid whole (length-log_header log.big size has.sequence (pair_of log.salt)) in
    ap (page_by_place log files n) (has.places n)
    ∙ held-page size bytes (page_at size n (content files Target)) (last_place size 32 n (map (λ (f : Frame). f.number) frames)) (last_frame_of n frames) (page_by_place log files n) (λ place. refl) refl holds

-- frames behind closed ones are closed where the last is a commit, or there are none
closed_more : (count : ℕ) (frames : List Frame) (es : List Entry) → 0 < count → committed frames ≡ frames → committed (frames ++ frames_of count es) ≡ frames ++ frames_of count es
closed_more count frames [] positive closed = ap committed (append-nil frames) ∙ closed ∙ sym (append-nil frames)
closed_more count frames (e ∷ es) positive closed =
    let last : last_commit (frames ++ frames_of count (e ∷ es)) ≡ count = last_commit-append frames _ (frames_of count es) ∙ last_commit-frames_of count e es in
    committed-ended (frames ++ frames_of count (e ∷ es)) (subst (λ (n : ℕ). 0 < n) (sym last) positive)

count_more : (target old count : ℕ) (frames : List Frame) (es : List Entry) → old ≡ count_after target frames → (es ≡ [] → count ≡ old) → count ≡ count_after target (frames ++ frames_of count es)
count_more target old count frames [] is same = same refl ∙ is ∙ ap (count_after target) (sym (append-nil frames))
count_more target old count frames (e ∷ es) is same = sym (count_after-append target frames _ (frames_of count es) ∙ last_commit-frames_of count e es)

-- the log that is kept, after a commit
pub grown : (old new : OalLog) (count : ℕ) (es : List Entry) (frames : List Frame) (front : List ℕ) → HasFrames old frames front → Grows old new count es
    → AllByRecursion (IsChanged old.page_size count) es → count < 2 ^ 32 → 0 < count → (es ≡ [] → count ≡ old.pages)
    → HasFrames new (frames ++ frames_of count es) (front ++ frames_bytes old.big (pair_of old.salt) (pair_of old.sums) (frames_of count es))
grown old new count es frames front has grows changed fits positive spare = record {
  sequence = has.sequence;
  sequence_fits = has.sequence_fits;
  salt_fits = subst (λ (s : List ℕ). AreWords (pair_of s)) (sym grows.salt) has.salt_fits;
  sized = subst IsPageSize (sym grows.page_size) has.sized;
  whole = whole;
  valid = subst (λ (s : ℕ). AreFrames s (frames ++ more)) (sym grows.page_size) (valid-append old.page_size frames more has.valid (valid-frames_of old.page_size count es fits changed));
  closed = closed_more count frames es positive has.closed;
  sums = grows.sums ∙ ap (λ (s : ℕ × ℕ). sums_behind old.big s more) has.sums ∙ sym (sums_behind-append old.big first frames more)
      ∙ ap (λ (s : ℕ × ℕ). sums_behind old.big s (frames ++ more)) (sym first_same) ∙ ap (λ (b : Bool). sums_behind b first_new (frames ++ more)) (sym grows.big);
  size = grows.size ∙ ap (λ (n : ℕ). n + length bytes) has.size ∙ sym (length-append front bytes);
  pages = grows.pages ∙ count_more old.target_pages old.pages count frames es has.pages spare ∙ ap (λ (t : ℕ). count_after t (frames ++ more)) (sym grows.target_pages);
  places = places;
}
  where
    more : List Frame
    more = frames_of count es

    bytes : List ℕ
    bytes = frames_bytes old.big (pair_of old.salt) (pair_of old.sums) more

    first : ℕ × ℕ
    first = log_sums old.big old.page_size has.sequence (pair_of old.salt)

    first_new : ℕ × ℕ
    first_new = log_sums new.big new.page_size has.sequence (pair_of new.salt)

    first_same : first_new ≡ first
    first_same = λ i. log_sums (grows.big i) (grows.page_size i) has.sequence (pair_of (grows.salt i))

    old_header : List ℕ
    old_header = log_header old.big old.page_size has.sequence (pair_of old.salt)

    whole : front ++ bytes ≡ log_header new.big new.page_size has.sequence (pair_of new.salt) ++ frames_bytes new.big (pair_of new.salt) first_new (frames ++ more)
    whole =
        ap (λ (b : List ℕ). b ++ bytes) has.whole ∙ append_assoc old_header (frames_bytes old.big (pair_of old.salt) first frames) bytes
        ∙ ap (λ (s : ℕ × ℕ). old_header ++ (frames_bytes old.big (pair_of old.salt) first frames ++ frames_bytes old.big (pair_of old.salt) s more)) has.sums
        ∙ ap (λ (b : List ℕ). old_header ++ b) (sym (frames_bytes-append old.big (pair_of old.salt) first frames more))
        ∙ sym (λ i. log_header (grows.big i) (grows.page_size i) has.sequence (pair_of (grows.salt i)) ++ frames_bytes (grows.big i) (pair_of (grows.salt i)) (first_same i) (frames ++ more))

    long : old.size ≡ 32 + length (map (λ (f : Frame). f.number) frames) * (24 + old.page_size)
    long =
        has.size ∙ ap length has.whole ∙ length-append old_header (frames_bytes old.big (pair_of old.salt) first frames)
        ∙ ap (λ (n : ℕ). n + length (frames_bytes old.big (pair_of old.salt) first frames)) (length-log_header old.big old.page_size has.sequence (pair_of old.salt))
        ∙ ap (λ (n : ℕ). 32 + n) (length-frames old.big (pair_of old.salt) first old.page_size frames has.valid)
        ∙ ap (λ (n : ℕ). 32 + n * (24 + old.page_size)) (sym (length-map frames (λ (f : Frame). f.number)))

    places : (n : ℕ) → get nat_cmp new.places n ≡ last_place new.page_size 32 n (map (λ (f : Frame). f.number) (frames ++ more))
    places n =
        let numbers : List ℕ = map (λ (f : Frame). f.number) frames in
        grows.places n
        ∙ ap (λ (p : ℕ). option_or (last_place old.page_size p n (keys_of es)) (get nat_cmp old.places n)) long
        ∙ ap (λ (o : Option ℕ). option_or (last_place old.page_size (32 + length numbers * (24 + old.page_size)) n (keys_of es)) o) (has.places n)
        ∙ sym (last_place-append old.page_size 32 n numbers (keys_of es))
        ∙ ap (λ (ns : List ℕ). last_place old.page_size 32 n (numbers ++ ns)) (sym (numbers-frames_of count es))
        ∙ ap (last_place old.page_size 32 n) (sym (map-append (λ (f : Frame). f.number) frames more))
        ∙ ap (λ (s : ℕ). last_place s 32 n (map (λ (f : Frame). f.number) (frames ++ more))) (sym grows.page_size)

or_unwrap : (a b : Option (List ℕ)) (d : List ℕ) → unwrap_or (option_or a b) d ≡ unwrap_or a (unwrap_or b d)
or_unwrap None b d = refl
or_unwrap (Some x) b d = refl

within_of : (size count : ℕ) (es : List Entry) (k : ℕ) → AllByRecursion (IsChanged size k) es → AreWithin k (frames_of count es)
within_of size count [] k all = tt
within_of size count (e ∷ es) k all = (all.0.within, within_of size count es k all.1)

within_more : (least most : ℕ) (xs ys : List Frame) → least ≤ most → AreWithin least xs → AreWithin most ys → AreWithin most (xs ++ ys)
within_more least most [] ys up first more = more
within_more least most (x ∷ xs) ys up first more = (let low = first.0 in omega (arith, low, up), within_more least most xs ys up first.1 more)

-- frames up to the count behind those up to a lesser commit's size, where the count is the size of the commit that came
within_last-more : (target count : ℕ) (frames more : List Frame) → count_after target (frames ++ more) ≡ count → AreWithin count more
    → last_commit frames ≤ count → AreWithinLastCommit frames → AreWithinLastCommit (frames ++ more)
within_last-more target count [] [] size came up within = tt
within_last-more target count [] (m ∷ more) size came up within = subst (λ (k : ℕ). AreWithin k (m ∷ more)) (sym size) came
within_last-more target count (x ∷ frames) more size came up within =
    subst (λ (k : ℕ). AreWithin k (x ∷ frames ++ more)) (sym size) (within_more (last_commit (x ∷ frames)) count (x ∷ frames) more up within came)

-- where no page was written since the last commit, the pages are those of the overlay
pub unchanged-overlay : (store : OalStore) (frames : List Frame) (files : Files) → store.changed.entries ≡ [] → store.count ≡ count_after store.log.target_pages frames → committed frames ≡ frames
    → BeginsWithLog store.log frames (content files Oal) → SamePages (stored_map store files) (overlay (target_map store.log files) frames)
unchanged-overlay store frames files empty count closed kept = record {
  size = refl;
  count = count ∙ ap (count_after store.log.target_pages) (sym closed);
  each = λ n low high.
      ap (λ (o : Option (List ℕ)). unwrap_or o (logged_page store.log files n)) (none-found n store.changed.entries empty) ∙ logged-overlay store.log frames files n kept
      ∙ ap (λ (fs : List Frame). unwrap_or (last_frame_of n fs) (page_at store.log.page_size n (content files Target))) (sym closed);
}

-- what a commit leaves of the shown files
pub committed-files : (store new : OalStore) (frames : List Frame) (f g : Files) → Grows store.log new.log store.count store.changed.entries → content g Target ≡ content f Target
    → Appends store.log.size (frames_bytes store.log.big (pair_of store.log.salt) (pair_of store.log.sums) (frames_of store.count store.changed.entries)) f g
    → AllByRecursion (IsChanged store.log.page_size store.count) store.changed.entries → IsDistinct (eq_by_cmp nat_cmp) (keys_of store.changed.entries)
    → store.count < 2 ^ 32 → 0 < store.count → (store.changed.entries ≡ [] → store.count ≡ store.log.pages) → new.changed.entries ≡ [] → new.count ≡ store.count → KeepsLog store frames f → IsCommitted store new frames f g
committed-files store new frames f g grows target appends changed distinct fits positive spare empty count kept =
    let log = store.log in
    let es = store.changed.entries in
    let more : List Frame = frames_of store.count es in
    let bytes : List ℕ = frames_bytes log.big (pair_of log.salt) (pair_of log.sums) more in
    let behind = appends kept.front kept.rest kept.whole (sym kept.has.size) in
    let now : HasFrames new.log (frames ++ more) (kept.front ++ bytes) = grown log new.log store.count es frames kept.front kept.has grows changed fits positive spare in
    let within : AreWithin store.count more = within_of log.page_size store.count es store.count changed in
    let keeps : BeginsWithLog new.log (frames ++ more) (content g Oal) = record { front = kept.front ++ bytes; rest = behind.0; has = now; whole = behind.1 } in
    let pages : IsOverlay (target_map new.log g) (frames ++ more) (stored_map store f) = record {
      size = grows.page_size;
      count = ap (count_after new.log.target_pages) now.closed ∙ sym now.pages ∙ grows.pages;
      each = λ n low high.
          let under : List ℕ = page_at new.log.page_size n (content g Target) in
          let was : under ≡ page_at log.page_size n (content f Target) = λ i. page_at (grows.page_size i) n (target i) in
          ap (λ (fs : List Frame). unwrap_or (last_frame_of n fs) under) now.closed
          ∙ ap (λ (o : Option (List ℕ)). unwrap_or o under) (last_frame-append n frames more)
          ∙ or_unwrap (last_frame_of n more) (last_frame_of n frames) under
          ∙ ap (λ (o : Option (List ℕ)). unwrap_or o (unwrap_or (last_frame_of n frames) under)) (last_frame-frames_of n store.count es distinct)
          ∙ ap (λ (b : List ℕ). unwrap_or (changed_page store n) (unwrap_or (last_frame_of n frames) b)) was
          ∙ ap (unwrap_or (changed_page store n)) (sym (logged-overlay log frames f n kept));
    } in
    record {
      more = more;
      keeps = keeps;
      pages = pages;
      stay = SamePages-trans (stored_map new g) (overlay (target_map new.log g) (frames ++ more)) (stored_map store f) (unchanged-overlay new (frames ++ more) g empty (count ∙ sym grows.pages ∙ now.pages) now.closed keeps) pages;
      within = within;
      within_last = within_last-more new.log.target_pages store.count frames more (sym now.pages ∙ grows.pages) within;
    }

-- frames of pages that were written have this length
pub length-written : (big : Bool) (salt sums : ℕ × ℕ) (size count : ℕ) (es : List Entry) → count < 2 ^ 32 → All (IsChanged size count) es
    → length (frames_bytes big salt sums (frames_of count es)) ≡ length es * (24 + size)
length-written big salt sums size count es fits all =
    length-frames big salt sums size (frames_of count es) (valid-frames_of size count es fits (recursion_from_All (IsChanged size count) es all)) ∙ ap (λ (n : ℕ). n * (24 + size)) (length-frames_of count es)

-- a store with the same log, count and pages
pub kept-log : (old filled : OalStore) (frames : List Frame) (f : Files) → SameStore old filled → KeepsLog old frames f → KeepsLog filled frames f
kept-log old filled frames f same kept = subst (λ (l : OalLog). BeginsWithLog l frames (content f Oal)) (sym same.log) kept

same_map : (old filled : OalStore) (f : Files) → SameStore old filled → HasPagesOf old filled f → SamePages (stored_map filled f) (stored_map old f)
same_map old filled f same pages = record { size = ap (λ (l : OalLog). l.page_size) same.log; count = same.count; each = λ n low high. pages n }

committed_old : (old filled new : OalStore) (frames : List Frame) (f g : Files) → SameStore old filled → HasPagesOf old filled f → IsCommitted filled new frames f g → IsCommitted old new frames f g
committed_old old filled new frames f g same pages is = record {
  more = is.more;
  keeps = is.keeps;
  pages = SamePages-trans (overlay (target_map new.log g) (frames ++ is.more)) (stored_map filled f) (stored_map old f) is.pages
      (same_map old filled f same pages);
  stay = SamePages-trans (stored_map new g) (stored_map filled f) (stored_map old f) is.stay (same_map old filled f same pages);
  within = subst (λ (k : ℕ). AreWithin k is.more) same.count is.within;
  within_last = subst (λ (k : ℕ). last_commit frames ≤ k → AreWithinLastCommit frames → AreWithinLastCommit (frames ++ is.more)) same.count is.within_last;
}

-- what a commit leaves of the files
pub committed-goes : (old filled new : OalStore) {x y z : Option Files} → SameStore old filled → y ≡ x → IfSome x (HasPagesOf old filled) → Grows filled.log new.log filled.count filled.changed.entries
    → IsStrictlySortedBy nat_cmp (keys_of filled.changed.entries) → (filled.changed.entries ≡ [] → filled.count ≡ filled.log.pages) → 0 < filled.count → new.changed.entries ≡ [] → new.count ≡ filled.count
    → Leads (OnlyChanges Oal) y z → Leads (Appends filled.log.size (frames_bytes filled.log.big (pair_of filled.log.salt) (pair_of filled.log.sums) (frames_of filled.count filled.changed.entries))) y z
    → Leads (λ f g. (frames : List Frame) → KeepsLog old frames f → IsCommitted old new frames f g) x z
committed-goes old filled new {x = x} {z = z} same stays pages grows ordered spare positive empty count only appends =
    Leads-known pages (subst (λ s. Leads (λ f g. HasPagesOf old filled f → (frames : List Frame) → KeepsLog old frames f → IsCommitted old new frames f g) s z) stays
    (Leads-weaken (Leads-both only appends) (λ f g both same_pages frames kept.
    committed_old old filled new frames f g same same_pages
    (committed-files filled new frames f g grows (ap (λ (h : Files). content h Target) both.0.1) both.1
    (recursion_from_All (IsChanged filled.log.page_size filled.count) filled.changed.entries filled.whole) (IsDistinct-from_sorted nat_cmp (keys_of filled.changed.entries) ordered)
    filled.few positive spare empty count (kept-log old filled frames f same kept)))))

-- the moments of a log that is the same
pub growing-from : (old filled : OalStore) {x y z : Option Trail} → SameStore old filled → y ≡ x → Leads (KeepsGrowing filled.log.size) y z → Leads (KeepsGrowing old.log.size) x z
growing-from old filled {x = x} {z = z} same stays kept = subst (λ (l : OalLog). Leads (KeepsGrowing l.size) x z) same.log (subst (λ t. Leads (KeepsGrowing filled.log.size) t z) stays kept)

-- a page that was written has a frame then
found_place : (size at n : ℕ) (es : List Entry) → is_some (lookup (is_at (nat_cmp n)) es) ≡ true → is_some (last_place size at n (keys_of es)) ≡ true
found_place size at n [] found = absurd (cc)
found_place size at n (e ∷ es) found =
    ap is_some (last_place-more size at n e.0 (keys_of es)) ∙ by_test (e.0 == n) (lookup (is_at (nat_cmp n)) es) (last_place size (at + (24 + size)) n (keys_of es)) (found_place size (at + (24 + size)) n es)
    (sym (ap (λ (b : Bool). is_some (cond b (Some e.1) (lookup (is_at (nat_cmp n)) es))) (compares-back n e.0)) ∙ found)
  where
    by_test : (b : Bool) (r : Option (Vec ℕ Global)) (p : Option ℕ) → (is_some r ≡ true → is_some p ≡ true) → is_some (cond b (Some e.1) r) ≡ true → is_some (option_or p (if b then Some (at + 24) else None)) ≡ true
    by_test true r None more is = refl
    by_test true r (Some q) more is = refl
    by_test false r None more is = more is
    by_test false r (Some q) more is = refl

some_or : (p q : Option ℕ) → is_some q ≡ true → is_some (option_or p q) ≡ true
some_or None q some = some
some_or (Some x) q some = refl

some_first : (p q : Option ℕ) → is_some p ≡ true → is_some (option_or p q) ≡ true
some_first None q some = absurd (cc)
some_first (Some x) q some = refl

-- what a commit had known has a frame then, or needs none
pub known-after : (filled new : OalStore) (n : ℕ) → Grows filled.log new.log filled.count filled.changed.entries → IsKnown filled n → IsKnown new n
known-after filled new n grows (inl within) = inl (subst (λ (t : ℕ). n ≤ t) (sym grows.target_pages) within)
known-after filled new n grows (inr (inl lock)) = inr (inl (lock ∙ ap lock_byte_page (sym grows.page_size)))
known-after filled new n grows (inr (inr (inl written))) =
    let place : Option ℕ = last_place filled.log.page_size filled.log.size n (keys_of filled.changed.entries) in
    inr (inr (inr (ap is_some (grows.places n) ∙ some_first place (get nat_cmp filled.log.places n) (found_place filled.log.page_size filled.log.size n filled.changed.entries written))))
known-after filled new n grows (inr (inr (inr placed))) =
    let place : Option ℕ = last_place filled.log.page_size filled.log.size n (keys_of filled.changed.entries) in
    inr (inr (inr (ap is_some (grows.places n) ∙ some_or place (get nat_cmp filled.log.places n) placed)))
